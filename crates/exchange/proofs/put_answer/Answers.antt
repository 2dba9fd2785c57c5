use Rattle.exchange.proofs.Laws.{written}
use Rattle.exchange.proofs.put_answer.Goals as goal

-- src/lib.rt:62:1
pub returns : goal.returns
returns c =
    written c.args.s.now c.args.r (record { sfits = c.struct_told-1.given.1.1.0.1 }) c.bits.ensures c.write_two.ensures c.put_number.ensures
    c.put_number-2.ensures c.put_number-3.ensures c.put_number-4.ensures
