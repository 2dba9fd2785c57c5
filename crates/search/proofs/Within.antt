-- A search does not look past the full limits: tables that pass the test for 22 hold one plan there, and a find has a byte for each of at most 512 variables.
-- Assumes nothing.
use Prim.Native.Nat.{ℕ, zero, suc, ◌+◌, ◌-◌, ◌≤◌}
use native.Mathlib.Nat.{zero-add, suc-add}
use native.Mathlib.Omega.{arith}
use mathlib.Core.Path.{◌≡◌, refl, sym, ap, ap₂, ◌∙◌, subst}
use mathlib.Core.Bool.{Bool, true, false, not, cond, true≢false}
use mathlib.Core.List.{List, [], ◌∷◌, ◌++◌}
use lib.Dec.{T, eqb}
use lib.ListN.{length, take, drop, replicate, length-replicate}
use lib.Seq.{take-nil, take-append-add, take_at}
use borrow.Author.Tests.{eqb-true}
use Rattle.plpb.specs.Lists.{◌or◌, all}
use Rattle.plpb.specs.Plan.{Plan, Assignment}
use Rattle.plpb.specs.Settings.{Settings}
use Rattle.plpb.specs.Search.{Reached, failed, reached, last_find, search}
use Rattle.plpb.specs.Sound.{finds_of}
use Rattle.plpb.proofs.Lists.{and_left, is_true}
use Rattle.plpb.proofs.Soundness.{search_sound}
use Rattle.words.specs.Writes.{SameWithin}
use Rattle.format.specs.File.{refuse}
use Rattle.format.specs.Tables.{table_size, term_size, plan_of_tables}
use Rattle.format.specs.Assignment.{bit_bytes}
use Rattle.format.proofs.Lawful.{plan_parts}
use Rattle.format.proofs.IsLoaded.{is_loaded_lawful}
use Rattle.format.proofs.Within.{short_within, loaded_within, plan_within}
use Rattle.tallies.specs.Layout.{assignment_size}
use Rattle.numbers.specs.Numbers.{numbers_of}
use Rattle.settings.specs.declared.Settings.{Settings as Asked}
use Rattle.settings.specs.Settings.{settings_refusal, settings_of}
use Rattle.tallies.proofs.Bits.{length_bit_bytes}
use Rattle.lending.specs.Lent.{Lent, too_small, search_refusal}
use Rattle.search.specs.Calls.{answer, search_assignment, cleared}
use Rattle.finds.specs.Whole.{with_find}
use Rattle.columns.specs.Layout.{column_size, kept_size}
use Rattle.search.specs.Within.{SameLent, SearchesWithin}
use Rattle.search.proofs.Refusing.{accepted}

-- ---- lists

part_within : (n m : ℕ) (s : List ℕ) → take m (drop n s) ≡ drop n (take (n + m) s)
part_within zero m s = ap (λ k. take k s) (sym (zero-add m))
part_within (suc n) m [] = take-nil m ∙ sym (ap (drop (suc n)) (take-nil (suc n + m)))
part_within (suc n) m (x ∷ s) = part_within n m s ∙ ap (λ k. drop (suc n) (take k (x ∷ s))) (sym (suc-add n m))

-- n bytes in front of what stood behind the first n.
front_within : (n k : ℕ) (xs s t : List ℕ) → length xs ≡ n → n ≤ k → SameWithin k s t → SameWithin k (xs ++ drop n s) (xs ++ drop n t)
front_within n k xs s t l h e =
    let m = k - n in
    let is : n + m ≡ k = omega arith in
    let one : (u : List ℕ) → take k (xs ++ drop n u) ≡ xs ++ drop n (take k u) =
    λ u. ap (λ j. take j (xs ++ drop n u)) (sym is ∙ ap (λ j. j + m) (sym l)) ∙ take-append-add xs (drop n u) m ∙ ap (λ y. xs ++ y) (part_within n m u ∙ ap (λ j. drop n (take j u)) is) in
    one s ∙ ap (λ y. xs ++ drop n y) e ∙ sym (one t)

-- ---- a find

-- It has a byte for each variable.
abbrev pub Whole : ℕ → Reached → Type 0
Whole n failed = Unit {0}
Whole n (reached a) = length a ≡ n

last_whole : (n : ℕ) (fs : List Assignment) → T (all (λ a. eqb (length a) n) fs) → Whole n (last_find fs)
unfolding last_find all
last_whole n [] h = tt
last_whole n (a ∷ fs) h = eqb-true (length a) n (is_true _ (and_left _ _ h))

pub find_whole : (s : Settings) (p : Plan) (ns : List ℕ) → Whole p.variables (search s p ns).assignment
find_whole s p ns = let o = search_sound s p ns in subst (Whole p.variables) (sym o.handed_out) (last_whole p.variables (finds_of s p ns) o.each_complete)

find_within : (n k : ℕ) (r : Reached) (s t : List ℕ) → Whole n r → n ≤ k → SameWithin k s t → SameWithin k (with_find r n s) (with_find r n t)
unfolding with_find
find_within n k failed s t w h e = e
find_within n k (reached a) s t w h e = front_within n k (bit_bytes a) s t (length_bit_bytes a ∙ w) h e

-- ---- the search

module _ (l m : Lent) (k : Asked) (s : SameLent l m) where
  sizes_within : too_small l ≡ too_small m
  unfolding too_small
  sizes_within =
      ap₂ ◌or◌ (ap₂ ◌or◌ (ap₂ ◌or◌ (ap₂ ◌or◌ (ap₂ ◌or◌ (ap₂ ◌or◌ (ap₂ ◌or◌
      (short_within table_size l.tables m.tables s.tables)
      (short_within term_size l.terms m.terms s.terms))
      (short_within assignment_size l.assignment m.assignment s.assignment))
      (short_within table_size l.work_tables m.work_tables s.work_tables))
      (short_within term_size l.work_terms m.work_terms s.work_terms))
      (short_within assignment_size l.work_assignment m.work_assignment s.work_assignment))
      (short_within kept_size l.work_tallies m.work_tallies s.work_tallies))
      (short_within column_size l.work_marks m.work_marks s.work_marks)

  same_refusal : search_refusal l k ≡ search_refusal m k
  unfolding search_refusal
  same_refusal =
      ap₂ (λ small loaded. refuse small 21 (refuse (not loaded) 22 (settings_refusal k))) sizes_within
      (loaded_within l.tables l.terms m.tables m.terms s.tables s.terms)

  module _ (z : search_refusal l k ≡ 0) where
    same_plan : plan_of_tables l.tables l.terms ≡ plan_of_tables m.tables m.terms
    same_plan = plan_within l.tables l.terms m.tables m.terms s.tables s.terms (accepted l k z).loaded

    same_answer : answer l k ≡ answer m k
    unfolding answer
    same_answer = ap₂ (λ p ns. search (settings_of k) p (numbers_of ns)) same_plan s.numbers

    same_find : SameWithin assignment_size (with_find (answer l k).assignment (plan_of_tables l.tables l.terms).variables l.assignment)
        (with_find (answer m k).assignment (plan_of_tables m.tables m.terms).variables m.assignment)
    unfolding answer
    same_find =
        find_within (plan_of_tables l.tables l.terms).variables assignment_size (answer l k).assignment l.assignment m.assignment
        (find_whole (settings_of k) (plan_of_tables l.tables l.terms) (numbers_of l.numbers))
        (plan_parts _ (is_loaded_lawful l.tables l.terms (accepted l k z).loaded)).high s.assignment
        ∙ ap₂ (λ r n. take assignment_size (with_find r n m.assignment)) (ap (λ a. a.assignment) same_answer) (ap (λ p. p.variables) same_plan)

  -- What depends on whether the search is refused.
  either : (b c : Bool) (x y u v : List ℕ) (n : ℕ) → b ≡ c → (b ≡ true → SameWithin n x u) → SameWithin n y v → SameWithin n (cond b x y) (cond c u v)
  either true true x y u v n e f g = f refl
  either true false x y u v n e f g = absurd (true≢false e)
  either false true x y u v n e f g = absurd (true≢false (sym e))
  either false false x y u v n e f g = g

  same_test : eqb (search_refusal l k) 0 ≡ eqb (search_refusal m k) 0
  same_test = ap (λ r. eqb r 0) same_refusal

  same_cleared : (n : ℕ) (x y : List ℕ) → SameWithin n x y → SameWithin n (cleared l k n x) (cleared m k n y)
  unfolding cleared
  same_cleared n x y e =
      either (eqb (search_refusal l k) 0) (eqb (search_refusal m k) 0) _ x _ y n same_test
      (λ t. zeros x ∙ sym (zeros y)) e
    where
      zeros : (o : List ℕ) → take n (replicate n 0 ++ drop n o) ≡ replicate n 0
      zeros o = take_at (replicate n 0) (drop n o) n (length-replicate n 0)

pub searches_within : SearchesWithin
unfolding search_assignment
searches_within l m k s =
    record {
      refusal = same_refusal l m k s;
      answers = same_answer l m k s;
      assignment = either l m k s (eqb (search_refusal l k) 0) (eqb (search_refusal m k) 0) _ l.assignment _ m.assignment assignment_size (same_test l m k s)
          (λ t. same_find l m k s (eqb-true _ _ t)) s.assignment;
      work_tables = same_cleared l m k s table_size l.work_tables m.work_tables s.work_tables;
      work_terms = same_cleared l m k s term_size l.work_terms m.work_terms s.work_terms;
      work_assignment = same_cleared l m k s assignment_size l.work_assignment m.work_assignment s.work_assignment;
      work_tallies = same_cleared l m k s kept_size l.work_tallies m.work_tallies s.work_tallies;
      work_marks = same_cleared l m k s column_size l.work_marks m.work_marks s.work_marks;
    }
