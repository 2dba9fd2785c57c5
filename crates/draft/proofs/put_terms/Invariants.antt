-- `draft::put_terms` meets its contract. The invariant: the code stands at the k-th site, and the terms of those before it are written.
-- Assumes nothing.
use Prim.Native.Nat.{ℕ, ◌+◌, ◌*◌, ◌≤◌}
use mathlib.Core.Path.{◌≡◌}
use mathlib.Core.Bool.{false}
use mathlib.Core.List.{List}
use Rattle.std.proofs.Common.{IfSome}
use Rattle.std.specs.Option.{is_some}
use lib.ListN.{length, take}
use Rattle.rows.proofs.Rows.{Place}
use Rattle.lists.specs.Refusals.{site_rows}
use Rattle.draft.specs.Draft.{terms_of, Named, Wrote}
use Rattle.draft.proofs.put_terms.Given as goal

abbrev pub invariant-loop-k : goal.invariant-loop-k
invariant-loop-k l =
    Place false l.sites.list.now l.k l.rest
    × (l.k ≤ l.sites.count)
    × (l.to ≤ l.from + 6 * l.k)
    × (l.from ≤ l.to)
    × (length l.out ≡ length l.initial.out)
    × ((name : List ℕ) → IfSome l.zone (λ v. Named v name) → Wrote l.from (terms_of (is_some l.zone) name (take l.k (site_rows l.sites.list.now))) l.initial.out l.out l.to)
