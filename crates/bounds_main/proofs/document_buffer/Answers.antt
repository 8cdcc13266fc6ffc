-- The length of `document_buffer`'s array, by a lemma: counting so many bytes one by one would take too long.
use Rattle.std.proofs.Common.{◌≡◌, ℕ, length, sym}
use Rattle.std.proofs.Math.ListN.{replicate}
use Rattle.std.proofs.lemmas.List.{length-replicate}
use Rattle.bounds_main.proofs.document_buffer.Goals as goal

filled_length : (n byte : ℕ) → n ≡ length (replicate n byte)
filled_length n byte = sym (length-replicate n byte)

pub returns : goal.returns
returns c = filled_length 2097152 0
