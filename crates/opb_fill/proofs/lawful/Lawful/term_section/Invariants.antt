-- `Lawful::term_section` meets its contract. The invariant: the terms of the rules passed stand at the front, and with those of the rules left they are all terms; and there is room
-- for them. The measure is what is left of the text.
-- Assumes nothing.
use Prim.Native.Nat.{◌-◌, ◌≤◌}
use lib.ListN.{length}
use Rattle.opb_fill.proofs.Filled.{TermFill}
use Rattle.opb_fill.proofs.lawful.Lawful.term_section.Given as goal

abbrev pub invariant-loop-text : goal.invariant-loop-text
invariant-loop-text l =
    TermFill l.self.text.now l.text.bytes.now l.initial.terms l.text.at l.end l.terms × (l.end ≤ length l.terms)

abbrev pub decreases-loop-text : goal.decreases-loop-text
decreases-loop-text l = length l.text.bytes.now - l.text.at
