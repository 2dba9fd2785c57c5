-- `tables::sections::objective_section` meets its contract: cleared, then each coefficient at its variable's place.
-- Assumes nothing.
use native.Mathlib.Omega.{arith}
use Prim.Native.Nat.{◌+◌, ◌*◌}
use Rattle.format.specs.File.{term_at}
use Rattle.tables.specs.Places.{behind_objective}
use Rattle.tables.proofs.Found.{begun_front}
use Rattle.tables.proofs.Dense.{objective_room, objective_ranged, objective_done}
use Rattle.tables.proofs.Lawful.objective_section.Goals as goal

pub read_size-requires : goal.read_size-requires
unfolding behind_objective
read_size-requires c = omega (arith, begun_front _ _ c.args.self.accepts)

pub put_words-requires-clause-callable : goal.put_words-requires-clause-callable
put_words-requires-clause-callable c = λ i l. omega (arith, l, objective_room _ _ c.args.self.accepts _ c.read_size.ensures)

pub put_words-requires-clause-ranged : goal.put_words-requires-clause-ranged
put_words-requires-clause-ranged c = λ i r l p. objective_ranged _ _ c.args.self.accepts _ c.read_size.ensures i l p.0

pub returns : goal.returns
returns c =
    objective_done _ _ c.args.self.accepts _ c.read_size.ensures c.args.out.now _ _ c.requires.out_len c.clear.ensures
    (c.put_words.ensures (λ j. term_at c.args.self.file.now (8 + 6 * j)) (λ i r l p. p))
