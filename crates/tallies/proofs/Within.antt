-- No call looks past the full limits: tables that pass the test for 22 hold one plan there, n is at most 512, and tallies are compared up to their size.
-- Assumes nothing.
use Prim.Native.Nat.{ℕ, zero, suc, ◌-◌, ◌≤◌}
use native.Mathlib.Nat.{le_trans}
use mathlib.Core.Path.{◌≡◌, refl, sym, ap, ap₂, ◌∙◌}
use mathlib.Core.Bool.{not, cond}
use mathlib.Core.List.{List, map}
use lib.Dec.{T, leb, eqb, eqb-suc-zero}
use lib.ListN.{get_or, set, take}
use lib.Seq.{take-take, take-set-lt, get_or-take}
use Rattle.plpb.specs.Lists.{◌or◌, all}
use Rattle.plpb.specs.Plan.{Assignment, is_variable, is_locked}
use Rattle.plpb.specs.Expansion.{break_count, make_count}
use Rattle.plpb.specs.Count.{given}
use Rattle.plpb.specs.Tallies.{rules_named, fresh_count}
use Rattle.plpb.specs.Book.{flip_call, counts_call, Answer, refused, accepted, counted}
use Rattle.plpb.proofs.Locks.{variable_range}
use Rattle.words.specs.Writes.{SameWithin}
use Rattle.format.specs.File.{refuse}
use Rattle.format.specs.Tables.{table_size, term_size, is_loaded, same_bytes}
use Rattle.format.proofs.Bools.{true_T}
use Rattle.format.proofs.IsLoaded.{is_loaded_lawful}
use Rattle.format.proofs.Lawful.{plan_parts}
use Rattle.format.proofs.Within.{short_within, loaded_within, plan_within}
use Rattle.format.specs.Assignment.{bits_in}
use Rattle.tallies.specs.Layout.{assignment_size, tally_size, bits_of, are_bits, tally_bytes, with_tallies}
use Rattle.tallies.specs.Calls.{Lent, plan, bits, too_small, fresh_bytes, open_refusal, open_tallies, call_refusal, flip_refusal, turned, flip_assignment, flip_tallies, flip_rules, counts_break, counts_make, answer, left_by}
use Rattle.tallies.specs.Demand.{opened}
use Rattle.tallies.specs.Within.{SameLent, OpensWithin, CallsWithin}
use Rattle.tallies.proofs.TallyBytes.{take_fresh}
use Rattle.tallies.proofs.Refusals.{either, Opens, opens, takes, flips, refused_left, plan_fits}

-- ---- lists

fewer_within : (n k : ℕ) (s t : List ℕ) → n ≤ k → SameWithin k s t → SameWithin n s t
fewer_within n k s t h e = sym (take-take n k s h) ∙ ap (take n) e ∙ take-take n k t h

take_turned : (k : ℕ) (s : List ℕ) (x : ℕ) → x ≤ k → take k (turned s x) ≡ turned (take k s) x
unfolding turned
take_turned k s zero h = refl
take_turned k s (suc i) h = take-set-lt k s i (1 - get_or s i 0) h ∙ ap (λ v. set (take k s) i (1 - v)) (sym (get_or-take k s i 0 h))

-- ---- the refusals

module _ (l m : Lent) (s : SameLent l m) where
  sizes_within : too_small l ≡ too_small m
  unfolding too_small
  sizes_within =
      ap₂ ◌or◌
      (ap₂ ◌or◌
      (ap₂ ◌or◌ (short_within table_size l.tables m.tables s.tables) (short_within term_size l.terms m.terms s.terms))
      (short_within assignment_size l.assignment m.assignment s.assignment))
      (short_within tally_size l.tallies m.tallies s.tallies)

  loaded_both : is_loaded l.tables l.terms ≡ is_loaded m.tables m.terms
  loaded_both = loaded_within l.tables l.terms m.tables m.terms s.tables s.terms

  -- Of tables that pass the test for 22.
  module _ (t : T (is_loaded l.tables l.terms)) where
    plan_both : plan l ≡ plan m
    unfolding plan
    plan_both = plan_within l.tables l.terms m.tables m.terms s.tables s.terms t

    variables_few : (plan l).variables ≤ assignment_size
    unfolding plan
    variables_few = (plan_parts (plan l) (is_loaded_lawful _ _ t)).high

    first_both : take (plan l).variables l.assignment ≡ take (plan m).variables m.assignment
    first_both = rw (sym plan_both) (fewer_within (plan l).variables assignment_size l.assignment m.assignment variables_few s.assignment)

    bits_both : bits l ≡ bits m
    unfolding bits_of bits_in
    bits_both = ap (map (λ b. eqb b 1)) first_both

    are_bits_both : are_bits (plan l).variables l.assignment ≡ are_bits (plan m).variables m.assignment
    unfolding are_bits
    are_bits_both = ap (all (λ b. leb b 1)) first_both

    fresh_both : fresh_bytes l ≡ fresh_bytes m
    unfolding fresh_bytes
    fresh_both = ap₂ (λ p b. tally_bytes (fresh_count p b)) plan_both bits_both

  opening_both : open_refusal l ≡ open_refusal m
  unfolding open_refusal refuse
  opening_both =
      ap₂ (λ b k. refuse b 21 k) sizes_within
      (either (is_loaded l.tables l.terms)
      (λ e. ap₂ (λ b k. refuse (not b) 22 k) loaded_both (ap (λ b. refuse (not b) 24 0) (are_bits_both (true_T _ e))))
      (λ e. rw (e, sym loaded_both ∙ e) refl))

  -- Where opening is not refused.
  module _ (z : open_refusal l ≡ 0) where
    o : Opens l
    o = opens l z

    calling_both : (x : ℕ) → call_refusal l x ≡ call_refusal m x
    unfolding call_refusal
    calling_both x =
        rw (z, sym opening_both ∙ z)
        (ap₂ (λ b k. refuse (not b) 25 k) (ap₂ same_bytes s.tallies (fresh_both o.loaded))
        (ap (λ p. refuse (not (is_variable p x)) 23 0) (plan_both o.loaded)))

  call_both : (x : ℕ) → call_refusal l x ≡ call_refusal m x
  call_both x = go (open_refusal l) refl
    where
      go : (k : ℕ) → open_refusal l ≡ k → call_refusal l x ≡ call_refusal m x
      go zero z = calling_both z x
      go (suc k) z = unfold call_refusal in rw (z, sym opening_both ∙ z, eqb-suc-zero k) refl

  flip_both : (x : ℕ) → flip_refusal l x ≡ flip_refusal m x
  unfolding flip_refusal
  flip_both x = go (call_refusal l x) refl
    where
      go : (k : ℕ) → call_refusal l x ≡ k → flip_refusal l x ≡ flip_refusal m x
      go zero z = rw (z, sym (call_both x) ∙ z) (ap (λ p. refuse (is_locked p x) 26 0) (plan_both (takes l x z).opening.loaded))
      go (suc k) z = rw (z, sym (call_both x) ∙ z, eqb-suc-zero k) refl

-- ---- what is left

-- Tallies of the same plan and bits are the same within their size.
tallies_within : (l m : Lent) (o : Opens l) (a b : Assignment) → plan l ≡ plan m → a ≡ b → SameWithin tally_size (with_tallies (plan l) a l.tallies) (with_tallies (plan m) b m.tallies)
tallies_within l m o a b p e =
    rw (sym p, sym e) (take_fresh (plan l) (plan_fits l o) a _ ∙ sym (take_fresh (plan l) (plan_fits l o) a _))

pub opens_within : OpensWithin
opens_within l m s = (opening_both l m s, unfold opened in record { tables = s.tables; terms = s.terms; assignment = s.assignment; tallies = go (open_refusal l) refl })
  where
    go : (k : ℕ) → open_refusal l ≡ k → SameWithin tally_size (open_tallies l) (open_tallies m)
    go zero z =
        let o = opens l z in
        unfold open_tallies in rw (z, sym (opening_both l m s) ∙ z) (tallies_within l m o (bits l) (bits m) (plan_both l m s o.loaded) (bits_both l m s o.loaded))
    go (suc k) z = unfold open_tallies in rw (z, sym (opening_both l m s) ∙ z, eqb-suc-zero k) s.tallies

-- An accepted flip of a variable, which is at most 512.
module _ (l m : Lent) (s : SameLent l m) (x : ℕ) (z : flip_refusal l x ≡ 0) where
  open_first : Opens l
  open_first = (takes l x (flips l x z).0).opening

  small : x ≤ assignment_size
  small = le_trans (variable_range (plan l) x (takes l x (flips l x z).0).variable).1 (variables_few l m s open_first.loaded)

  turned_within : SameWithin assignment_size (turned l.assignment x) (turned m.assignment x)
  turned_within =
      take_turned assignment_size l.assignment x small
      ∙ ap (λ t. turned t x) s.assignment
      ∙ sym (take_turned assignment_size m.assignment x small)

  turned_bits : bits_of (plan l).variables (turned l.assignment x) ≡ bits_of (plan m).variables (turned m.assignment x)
  unfolding bits_of bits_in
  turned_bits =
      rw (sym (plan_both l m s open_first.loaded))
      (ap (map (λ b. eqb b 1))
      (fewer_within (plan l).variables assignment_size (turned l.assignment x) (turned m.assignment x) (variables_few l m s open_first.loaded) turned_within))

  flip_within : SameLent (left_by l (flip_call x)) (left_by m (flip_call x))
  unfolding left_by flip_assignment flip_tallies
  flip_within =
      rw (z, sym (flip_both l m s x) ∙ z)
      record {
        tables = s.tables;
        terms = s.terms;
        assignment = turned_within;
        tallies = tallies_within l m open_first _ _ (plan_both l m s open_first.loaded) turned_bits;
      }

flips_within : (l m : Lent) → SameLent l m → (x : ℕ) → SameLent (left_by l (flip_call x)) (left_by m (flip_call x))
flips_within l m s x = go (flip_refusal l x) refl
  where
    go : (k : ℕ) → flip_refusal l x ≡ k → SameLent (left_by l (flip_call x)) (left_by m (flip_call x))
    go zero z = flip_within l m s x z
    go (suc k) z = rw (refused_left l x z, refused_left m x (sym (flip_both l m s x) ∙ z)) s

-- The rules that an accepted flip passed are those of the one plan.
rules_within : (l m : Lent) → SameLent l m → (x : ℕ) → flip_rules l x ≡ flip_rules m x
unfolding flip_rules
rules_within l m s x = go (flip_refusal l x) refl
  where
    go : (k : ℕ) → flip_refusal l x ≡ k → flip_rules l x ≡ flip_rules m x
    go zero z = rw (z, sym (flip_both l m s x) ∙ z) (ap (λ p. rules_named p x) (plan_both l m s (takes l x (flips l x z).0).opening.loaded))
    go (suc k) z = rw (z, sym (flip_both l m s x) ∙ z, eqb-suc-zero k) refl

-- The counts of an accepted call are those of the one plan and the same bits.
counts_within : (l m : Lent) → SameLent l m → (x : ℕ) → (counts_break l x ≡ counts_break m x) × (counts_make l x ≡ counts_make m x)
unfolding counts_break counts_make
counts_within l m s x = go (call_refusal l x) refl
  where
    go : (k : ℕ) → call_refusal l x ≡ k → (counts_break l x ≡ counts_break m x) × (counts_make l x ≡ counts_make m x)
    go zero z =
        let t = (takes l x z).opening.loaded in
        let p = plan_both l m s t in
        let b = bits_both l m s t in
        rw (z, sym (call_both l m s x) ∙ z) (ap₂ (λ q c. given (break_count q c x)) p b, ap₂ (λ q c. given (make_count q c x)) p b)
    go (suc k) z = rw (z, sym (call_both l m s x) ∙ z, eqb-suc-zero k) (refl, refl)

pub calls_within : CallsWithin
unfolding answer
calls_within l m (flip_call x) s = (
  ap₂ (λ (k n : ℕ). cond (eqb k 0) (accepted n) (refused k)) (flip_both l m s x) (rules_within l m s x),
  flips_within l m s x,
)
calls_within l m (counts_call x) s =
    let n = counts_within l m s x in
    (ap₂ (λ (k : ℕ) (c : Answer). cond (eqb k 0) c (refused k)) (call_both l m s x) (ap₂ counted n.0 n.1), unfold left_by in s)
