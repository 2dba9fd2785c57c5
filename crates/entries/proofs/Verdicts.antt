-- Which refusal the verdict carries, step by step.
-- Assumes nothing.
use Prim.Native.Nat.{ℕ, ◌+◌}
use native.Mathlib.Omega.{arith}
use mathlib.Core.Path.{◌≡◌, refl, sym, ap, ◌∙◌}
use mathlib.Core.Bool.{Bool, true, false, cond}
use mathlib.Core.List.{List}
use Rattle.std.proofs.Common.{rules, Some, Result, Ok, Err, MatchResult, IsErrAnd}
use Rattle.std.proofs.lemmas.Bool.Decides.{nat_tests}
use Rattle.std.specs.Ordering.{is_le, nat_cmp}
use Rattle.std.specs.declared.ops.RangeInclusive.{RangeInclusive}
use Rattle.std.specs.Range.{range_inclusive_start, range_inclusive_end, range_inclusive_exhausted, range_inclusive_contains}
use Rattle.std.specs.Result.{is_ok}
use lib.Dec.{eqb, ltb, leb}
use lib.ListN.{length}
use borrow.Author.Tests.{tests}
use Rattle.plpb.specs.Lists.{◌and◌, ◌or◌}
use Rattle.lists.specs.Refusals.{Entry, row_fault, unlisted, unused, Judged, judged, Refusal, accepted, plan_of, too_large, refusal_of}
use Rattle.lists.proofs.Judging.{judged_rows, list_on, list_stop}
use Rattle.lists.proofs.Accepted.{large_by_sites}
use Rattle.entries.specs.declared.Fault.{Fault}
use Rattle.entries.specs.declared.AtFault.{AtFault}
use Rattle.entries.specs.declared.Refusal.{Refusal as RefusalT}
use Rattle.entries.specs.declared.Refusal.TheVariants.{Site, Zone}
use Rattle.entries.specs.Judging.{found, missing, IsAt, refusal_numbers}
use Rattle.entries.proofs.Rows.{some_fault}

pub unlisted_is : (sites zones : List Entry) → missing 54 false sites zones ≡ unlisted sites zones
unfolding missing unlisted
unlisted_is sites zones = refl

pub unused_is : (sites zones : List Entry) → missing 55 true zones sites ≡ unused sites zones
unfolding missing unused
unused_is sites zones = refl

-- From 1 to 512 sites are neither none nor too many.
size_test : (n : ℕ) (a b : Refusal) → cond (eqb n 0 or ltb 512 n) a b ≡ cond (leb 1 n and leb n 512) b a
unfolding ◌or◌ ◌and◌
size_test n a b = grind (arith, nat_tests)

-- What a range's `contains` tells of a number is what the two tests of the definition say.
le_test : (a b : ℕ) → is_le (nat_cmp a b) ≡ leb a b
le_test a b = search (rules, tests)

pub within :
    {a b : Bool} {k m n : ℕ} (x : ℕ) {r : RangeInclusive ℕ} → range_inclusive_start r ≡ m → range_inclusive_end r ≡ n → range_inclusive_exhausted r ≡ false
    → a ≡ range_inclusive_contains (λ i j. Some (nat_cmp i j)) r x → a ≡ b → x ≡ k → (leb m k and leb k n) ≡ b
unfolding ◌and◌
within {k = k} {m = m} {n = n} x e f g h t z = rw (← le_test m k, ← le_test k n, ← z) (sym (h ∙ rw (e, f, g)) ∙ t)

-- The refusals in their order.
module _ (sites zones : List Entry) where
  abbrev a : Judged
  a = judged (row_fault false sites) sites

  abbrev b : Judged
  b = judged (row_fault true zones) zones

  abbrev c : Judged
  c = judged (unlisted sites zones) sites

  abbrev d : Judged
  d = judged (unused sites zones) zones

  abbrev At : ℕ → Judged → Refusal
  At list j = record { number = j.fault; list = list; row = j.rows + 1 }

  pub refuse_sites : (a.fault ≡ 0 → ⊥) → refusal_of sites zones ≡ At 1 a
  unfolding refusal_of
  refuse_sites n = list_stop 1 a _ n

  module _ (p : a.fault ≡ 0) where
    pub refuse_zones : (b.fault ≡ 0 → ⊥) → refusal_of sites zones ≡ At 2 b
    unfolding refusal_of
    refuse_zones n = list_on 1 a _ p ∙ list_stop 2 b _ n

    module _ (q : b.fault ≡ 0) where
      pub refuse_unlisted : (c.fault ≡ 0 → ⊥) → refusal_of sites zones ≡ At 1 c
      unfolding refusal_of
      refuse_unlisted n = list_on 1 a _ p ∙ list_on 2 b _ q ∙ list_stop 1 c _ n

      module _ (t : c.fault ≡ 0) where
        pub refuse_unused : (d.fault ≡ 0 → ⊥) → refusal_of sites zones ≡ At 2 d
        unfolding refusal_of
        refuse_unused n = list_on 1 a _ p ∙ list_on 2 b _ q ∙ list_on 1 c _ t ∙ list_stop 2 d _ n

        module _ (u : d.fault ≡ 0) where
          abbrev four : Refusal
          four = record { number = 4; list = 0; row = 0 }

          last_of : refusal_of sites zones ≡ cond (eqb (length sites) 0 or too_large (plan_of sites zones)) four accepted
          unfolding refusal_of
          last_of = list_on 1 a _ p ∙ list_on 2 b _ q ∙ list_on 1 c _ t ∙ list_on 2 d _ u

          large : too_large (plan_of sites zones) ≡ ltb 512 (length sites)
          large = large_by_sites sites zones (record { sites_well = p; zones_well = q; zones_used = u })

          sized : refusal_of sites zones ≡ cond (leb 1 (length sites) and leb (length sites) 512) accepted four
          unfolding ◌or◌
          sized = last_of ∙ rw large (size_test (length sites) four accepted)

          pub refuse_size : (leb 1 (length sites) and leb (length sites) 512) ≡ false → refusal_of sites zones ≡ four
          refuse_size h = sized ∙ rw h

          pub accept : (leb 1 (length sites) and leb (length sites) 512) ≡ true → refusal_of sites zones ≡ accepted
          accept h = sized ∙ rw h

-- Without a fault all rows were looked at.
pub all_rows : (xs : List Entry) (f : ℕ → ℕ) (n : ℕ) → judged f xs ≡ record { fault = 0; rows = n } → ((judged f xs).fault ≡ 0) × (n ≡ length xs)
all_rows xs f n e =
    let z : (judged f xs).fault ≡ 0 = ap (λ (j : Judged). j.fault) e in
    (z, ap (λ (j : Judged). j.rows) (sym e) ∙ judged_rows f (length xs) 0 z ∙ omega arith)

-- What the code read off is where the definition has it.
module _ (j : Judged) (e : AtFault) (h : IsAt j e) where
  pub is_fault : j.fault ≡ 0 → ⊥
  is_fault z = some_fault e.fault (sym h.0 ∙ z)

  pub at_site : ◌≡◌ {A = Refusal} (record { number = j.fault; list = 1; row = j.rows + 1 }) (refusal_numbers (Site e))
  at_site = rw (h.0, h.1)

  pub at_zone : ◌≡◌ {A = Refusal} (record { number = j.fault; list = 2; row = j.rows + 1 }) (refusal_numbers (Zone e))
  at_zone = rw (h.0, h.1)

-- A row's fault as the refusal of either list.
abbrev pub AsSite : AtFault → RefusalT → Type 0
AsSite e y = y ≡ Site e

abbrev pub AsZone : AtFault → RefusalT → Type 0
AsZone e y = y ≡ Zone e

-- What `map_err` was given: the error that it turned into another, or the value that it kept.
pub turned :
    {X E D : Type 0} (r : Result X E) (y : D) (Turns : E → D → Type 0) → MatchResult r (λ x. ◌≡◌ {A = Result X D} (Err y) (Ok x)) (λ e. let r' : Result X D = Err y in IsErrAnd r' (Turns e))
    → (e : E) × (r ≡ Err e) × Turns e y
turned (Ok x) y Turns h = cc
turned (Err e) y Turns h = (e, refl, h)

pub kept :
    {X E D : Type 0} (r : Result X E) (v : X) (Turns : E → D → Type 0) → MatchResult r (λ x. ◌≡◌ {A = Result X D} (Ok v) (Ok x)) (λ e. let r' : Result X D = Ok v in IsErrAnd r' (Turns e)) → r ≡ Ok v
kept (Ok x) v Turns h = cc
kept (Err e) v Turns h = absurd h

-- .. of a closure, whose own fact of the error is turned into another.
pub went :
    {X E : Type 0} (r : Result X E) (A : X → Type 0) (B : E → Type 0) (T : E → Type 0) → ((e : E) → B e → T e) → false ≡ is_ok r → MatchResult r A B
    → (e : E) × (r ≡ Err e) × T e
went (Ok x) A B T g n h = cc
went (Err e) A B T g n h = (e, refl, g e h)

pub none_found : {A : Type 0} (r : Result A Fault) → true ≡ is_ok r → found r ≡ 0
none_found (Ok a) h = refl
none_found (Err f) h = cc
