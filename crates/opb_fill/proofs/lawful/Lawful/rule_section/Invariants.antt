-- `Lawful::rule_section` meets its contract. The invariant: the entries of the rules passed stand at the front, and with those of the rules left they are all entries; and there is room
-- for them. The measure is what is left of the text.
-- Assumes nothing.
use Prim.Native.Nat.{◌-◌, ◌*◌, ◌≤◌}
use lib.ListN.{length}
use Rattle.opb_fill.proofs.Filled.{RuleFill}
use Rattle.opb_fill.proofs.lawful.Lawful.rule_section.Given as goal

abbrev pub invariant-loop-text : goal.invariant-loop-text
invariant-loop-text l =
    RuleFill l.self.text.now l.text.bytes.now l.initial.out l.text.at l.rules l.first l.out × (l.rules ≤ 1_024) × (20 * l.rules ≤ length l.out)

abbrev pub decreases-loop-text : goal.decreases-loop-text
decreases-loop-text l = length l.text.bytes.now - l.text.at
