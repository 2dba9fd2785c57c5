-- A run as the columns see it.
-- Assumes nothing.
use Prim.Native.Nat.{ℕ}
use native.Mathlib.Omega.{arith}
use mathlib.Core.Path.{◌≡◌, ap, ◌∙◌}
use mathlib.Core.List.{List}
use Rattle.words.specs.Words.{word_at}
use Rattle.order.specs.Order.{Place, word_place}
use Rattle.format.specs.Layout.{entry_at}
use Rattle.columns.specs.Columns.{Weighed, AtSingle}
use Rattle.effects.specs.declared.footing.Footing.{Footing}
use Rattle.effects.specs.declared.run.Run.{Run}
use Rattle.effects.specs.Footing.{plan_on, HasPlaces, HasRun}
use Rattle.effects.specs.Kept.{Walkable, Going, place_at, Visited}
use Rattle.effects.specs.Run.{Inside}
use Rattle.effects.proofs.Places.{place_here}

-- A run whose hint can be asked can be gone through.
pub has_places : {q : Footing} {marks : List ℕ} {x : ℕ} → HasRun q marks x → HasPlaces q marks x
has_places h = record { weighed = h.weighed; low = h.low; high = h.high }

-- With the weights, what the walk stands on can be walked on,
pub walkable : (q : Footing) {marks : List ℕ} → Weighed (plan_on q) marks → Walkable q.tables.now q.terms.now q.assignment.now q.tallies.now marks
walkable q w = record { ready = q.ready; bits = q.bits; fresh = q.fresh; sized = q.sized; needed = q.needed; weighed = w }

pub going_on : (q : Footing) {marks : List ℕ} {x : ℕ} → HasPlaces q marks x → Going q.tables.now q.terms.now q.assignment.now q.tallies.now marks x
going_on q h = record { kept = walkable q h.weighed; low = h.low; high = h.high }

-- and a place of a run is visited,
pub visited : (r : Run) {k : ℕ} → Inside r k → Visited r.footing.now.tables.now r.footing.now.terms.now r.footing.now.assignment.now r.footing.now.tallies.now r.marks.now r.x k
visited r i = record { going = r.going; first = omega (arith, i.0, r.begins); last = omega (arith, i.1, r.ends) }

-- as the place is that a hint tells of.
pub visited_single : (q : Footing) {marks : List ℕ} {x : ℕ} {P : Place → Type 0} → HasPlaces q marks x → (h : AtSingle (plan_on q) x P) → Visited q.tables.now q.terms.now q.assignment.now q.tallies.now marks x h.at
visited_single q r h = record { going = going_on q r; first = h.first; last = h.last }

-- The clause that a place's word tells.
pub clause_here : {tables terms assignment tallies marks : List ℕ} {x k w c : ℕ} → Visited tables terms assignment tallies marks x k → w ≡ word_at tables (entry_at k) → c ≡ (word_place w).clause → c ≡ (place_at tables terms k).clause
clause_here v e f = f ∙ ap (λ u. (word_place u).clause) e ∙ ap (λ q. q.clause) (place_here v)
