-- `record_words::encoding::write` meets its contract: the stores of all parts leave nothing of what was there. Assumes nothing.
use lib.ListN.{replicate, length-replicate}
use lib.IntN.{pos}
use Rattle.record_words.proofs.encoding.Puts.{written}
use Rattle.record_words.proofs.encoding.write.Goals as goal

pub returns : goal.returns
returns c =
    let a = c.args in
    record {
      are =
          rw (c.put_planted.ensures.0, c.put_closing.ensures.0, c.put_waiting.ensures, c.put_source.ensures.0, c.put_opening.ensures.0, c.put_counts.ensures, c.put_collected.ensures, c.put_page.ensures, c.put_layout.ensures)
          (written (replicate 68 (pos 0)) a.layout a.page a.collected a.counts a.opening a.source a.waiting a.closing a.planted (length-replicate 68 (pos 0)) c.put_planted.ensures.1);
      opening_named = c.put_opening.ensures.1;
      stored_short = c.put_source.ensures.1;
      number_short = c.put_closing.ensures.1;
      traps_long = c.put_planted.ensures.1;
      traps_named = c.put_planted.ensures.2;
    }
