-- With no refusal all that the search needs was tested; with one nothing was answered and nothing has changed.
-- Assumes nothing.
use Prim.Native.Nat.{ℕ, zero, suc, ◌≤◌}
use native.Mathlib.Omega.{arith}
use mathlib.Core.Path.{◌≡◌, refl, sym}
use mathlib.Core.Bool.{Bool, true, false}
use mathlib.Core.List.{List}
use lib.Dec.{eqb-suc-zero}
use lib.IntN.{pos}
use borrow.Author.Tests.{ltb-false, not-false}
use Rattle.plpb.specs.Lists.{◌or◌}
use Rattle.plpb.proofs.Lists.{T_true}
use Rattle.format.specs.Tables.{is_loaded}
use Rattle.format.proofs.Fields.{unrefused}
use Rattle.settings.specs.declared.Settings.{Settings as Asked}
use Rattle.lending.specs.Lent.{Lent, too_small, search_refusal}
use Rattle.search.specs.Calls.{search_assignment, cleared, unless, Searches, HandsOut}
use Rattle.answers.specs.Found.{has_plan}
use Rattle.finds.specs.Whole.{Searchable}

or_parts : (a b : Bool) → (a or b) ≡ false → (a ≡ false) × (b ≡ false)
unfolding ◌or◌
or_parts true b e = absurd (let z : ◌≡◌ {A = ℕ} 0 1 = cc in omega arith)
or_parts false b e = (refl, e)

-- All that the search needs was tested.
pub accepted : (l : Lent) (k : Asked) → search_refusal l k ≡ 0
    → Searchable l.tables l.terms l.assignment l.work_tables l.work_terms
    (record { assignment = l.work_assignment; tallies = l.work_tallies; marks = l.work_marks })
unfolding search_refusal too_small
accepted l k e =
    let a = unrefused _ 20 _ e in
    let b = unrefused _ 21 _ a.1 in
    let m = or_parts _ _ a.0 in
    let t = or_parts _ _ m.0 in
    let w = or_parts _ _ t.0 in
    let v = or_parts _ _ w.0 in
    let u = or_parts _ _ v.0 in
    let q = or_parts _ _ u.0 in
    let p = or_parts _ _ q.0 in
    record {
      loaded = T_true (not-false (is_loaded l.tables l.terms) b.0);
      long = ltb-false _ _ p.0;
      long_terms = ltb-false _ _ p.1;
      room = ltb-false _ _ q.1;
      work_long = ltb-false _ _ u.1;
      work_long_terms = ltb-false _ _ v.1;
      work =
          record {
            assignment = ltb-false _ _ w.1;
            tallies = ltb-false _ _ t.1;
            marks = ltb-false _ _ m.1;
          };
    }

-- A buffer keeps its length, and so its room.
pub still_long : {n a b : ℕ} → n ≤ b → a ≡ b → n ≤ a
still_long h e = omega arith

-- With one, nothing was answered and nothing has changed.
pub refused : (l : Lent) (k : Asked) (n : ℕ) → n ≡ search_refusal l k → (n ≡ 0 → ⊥)
    → Searches l k (record { refusal = n; ending = 0; cost = pos 0; finds = 0; flips = 0; used = 0 }) l
unfolding unless search_assignment cleared
refused l k zero e n = absurd (n refl)
refused l k (suc m) e n =
    record {
      refusal = e;
      ending = rw (sym e, eqb-suc-zero m);
      cost = rw (sym e, eqb-suc-zero m);
      finds = rw (sym e, eqb-suc-zero m);
      flips = rw (sym e, eqb-suc-zero m);
      used = rw (sym e, eqb-suc-zero m);
      assignment = rw (sym e, eqb-suc-zero m);
      work_tables = rw (sym e, eqb-suc-zero m);
      work_terms = rw (sym e, eqb-suc-zero m);
      work_assignment = rw (sym e, eqb-suc-zero m);
      work_tallies = rw (sym e, eqb-suc-zero m);
      work_marks = rw (sym e, eqb-suc-zero m);
    }

pub refused_hands : (l : Lent) (n : ℕ) (assignment : List ℕ) → HandsOut l (record { refusal = n; ending = 0; cost = pos 0; finds = 0; flips = 0; used = 0 }) assignment
unfolding HandsOut has_plan ◌or◌
refused_hands l n assignment t = absurd t
