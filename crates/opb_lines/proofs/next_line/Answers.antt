-- `opb_lines::next_line` meets its contract.
-- Assumes nothing.
use Rattle.opb_lines.proofs.Lines.{next_passed}
use Rattle.opb_lines.proofs.next_line.Goals as goal

pub returns : goal.returns
returns c = rw c.unwrap_or.ensures (next_passed _ _ c.args.t.within c.line_end-end.ensures _ c.past_word.ensures)
