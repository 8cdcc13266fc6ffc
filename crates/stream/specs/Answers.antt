-- The answers of document 01, 'A session'. Assumes nothing.
use Rattle.std.specs.Prelude.{ℕ}
use Rattle.stream.specs.declared.Answer.{Answer}
use Rattle.stream.specs.declared.Answer.TheVariants.{NeedsInput, NeedsRoom, Done, Refused}

-- the closing answer of a document: "done, or refused (number, source line from 1 ..)"
pub data Closing : Type 0 where
  done : Closing
  refused : (number line : ℕ) → Closing

-- "It answers .. needs input, needs room, done, or refused"
pub data ReplyKind : Type 0 where
  needs_input : ReplyKind
  needs_room : ReplyKind
  closes : Closing → ReplyKind

-- what each case of the code's answer says
abbrev pub reply_of : Answer → ReplyKind
reply_of NeedsInput = needs_input
reply_of NeedsRoom = needs_room
reply_of Done = closes done
reply_of (Refused n l) = closes (refused n l)
