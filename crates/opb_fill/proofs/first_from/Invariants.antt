-- `opb_fill::first_from` meets its contract. The invariant: no line of the kind was passed. The measure is what is left of the text.
-- Assumes nothing.
use Prim.Native.Nat.{◌-◌, ◌≤◌}
use mathlib.Core.Path.{◌≡◌}
use lib.ListN.{length}
use Rattle.tokens.specs.Found.{read}
use Rattle.opb_fill.specs.Fill.{of_kind, those_from}
use Rattle.opb_fill.proofs.first_from.Given as goal

abbrev pub invariant-loop-text : goal.invariant-loop-text
invariant-loop-text l =
    (l.text.bytes.now ≡ l.t.bytes.now) × (l.t.at ≤ l.text.at) × (read (those_from (of_kind l.kind)) l.text ≡ read (those_from (of_kind l.kind)) l.t)

abbrev pub decreases-loop-text : goal.decreases-loop-text
decreases-loop-text l = length l.text.bytes.now - l.text.at
