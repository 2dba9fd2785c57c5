-- `opb_lines::named_at` meets its contract.
-- Assumes nothing.
use Rattle.opb_lines.proofs.FirstLine.{no_name, named_by}
use Rattle.opb_lines.proofs.named_at.Goals as goal

pub returns-in_err-behind : goal.returns-in_err-behind
returns-in_err-behind c = rw c.from_residual.ensures (no_name c.args.name.now c.args.t.bytes.now c.args.t.at c.in_err-behind.ensures)

pub returns : goal.returns
returns c =
    let behind = c.in_ok-behind.ensures in
    named_by _ behind.0 behind.1 c.past_blanks.ensures c.number.result c.number.ensures
