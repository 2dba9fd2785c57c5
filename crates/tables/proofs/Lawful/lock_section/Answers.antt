-- `tables::sections::lock_section` meets its contract: cleared, then each lock's word at its variable's place.
-- Assumes nothing.
use Prim.Native.Nat.{◌+◌, ◌*◌}
use native.Mathlib.Omega.{arith}
use Rattle.format.specs.Limits.{lock_term}
use Rattle.format.specs.File.{lock_entry}
use Rattle.tables.proofs.Found.{begun_front}
use Rattle.tables.proofs.Dense.{locks_room, locks_ranged, locks_done}
use Rattle.tables.proofs.Lawful.lock_section.Goals as goal

pub behind_objective-at-requires : goal.behind_objective-at-requires
behind_objective-at-requires c = omega (arith, begun_front _ _ c.args.self.accepts)

pub locks_of-requires : goal.locks_of-requires
locks_of-requires c = omega (arith, c.behind_objective-at.ensures, begun_front _ _ c.args.self.accepts)

pub put_words-requires-clause-callable : goal.put_words-requires-clause-callable
put_words-requires-clause-callable c = λ i l. omega (arith, l, locks_room _ _ c.args.self.accepts _ _ c.behind_objective-at.ensures c.locks_of.ensures)

pub put_words-requires-clause-ranged : goal.put_words-requires-clause-ranged
put_words-requires-clause-ranged c = λ i r l p. locks_ranged _ _ c.args.self.accepts _ _ c.behind_objective-at.ensures c.locks_of.ensures i l p.0

pub returns : goal.returns
returns c =
    locks_done _ _ c.args.self.accepts _ _ c.behind_objective-at.ensures c.locks_of.ensures c.args.out.now _ _ c.requires.out_len
    c.clear.ensures (c.put_words.ensures (λ j. lock_term (lock_entry c.args.self.file.now (c.behind_objective-at.result + 3 + 3 * j))) (λ i r l p. p))
