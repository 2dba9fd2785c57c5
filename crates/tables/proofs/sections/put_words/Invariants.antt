-- `put_words` meets its contract. The invariant: what the entries left would still write over the section is what all write over the first, whatever terms
-- the calls say.
-- Assumes nothing.
use Prim.Native.Nat.{ℕ, ◌<◌}
use mathlib.Core.Path.{◌≡◌}
use lib.ListN.{length}
use Rattle.plpb.specs.Plan.{Term}
use Rattle.tables.specs.declared.sections.Entry.{Entry}
use Rattle.tables.specs.Sections.{Lays}
use Rattle.tables.proofs.Dense.{Laying}
use Rattle.tables.proofs.sections.put_words.Given as goal
use Rattle.format.specs.Layout.{objective_size}

abbrev pub invariant-loop-i : goal.invariant-loop-i
invariant-loop-i g l =
    (length l.out ≡ objective_size)
    × ((h : ℕ → Term) → ((i : ℕ) (r : Entry) → i < l.n → goal.F-post g l.entry i r → Lays r (h i)) → Laying h l.n l.initial.out l.i l.out)
