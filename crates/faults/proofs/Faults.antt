-- Laws of the tests of a field's body: by its tag, and in their order.
-- Assumes nothing.
use Prim.Native.Nat.{ℕ, ◌+◌, ◌-◌, ◌/◌, ◌≤◌}
use native.Mathlib.Omega.{arith}
use mathlib.Core.Path.{◌≡◌, refl, sym, ap, ◌∙◌}
use mathlib.Core.Bool.{Bool, true, false, not}
use mathlib.Core.List.{List}
use lib.Dec.{ltb, leb}
use lib.IntN.{ℤ}
use lib.ListN.{length, get_or, take, drop, length-drop}
use Rattle.std.proofs.lemmas.List.{length-take-le}
use borrow.Author.Tests.{ne_eqb, eqb-true, leb-true}
use Rattle.plpb.specs.Lists.{◌and◌, ◌or◌, all}
use Rattle.plpb.specs.Plan.{rising, rising_above}
use Rattle.words.specs.Words.{num_at, signed}
use Rattle.format.proofs.Bools.{and_left}
use Rattle.format.specs.File as File
use Rattle.format.specs.File.{tag_at, length_at, length_lawful, refuse, past_limits, bounds_lawful, lower_at, upper_at, mode_at, wrong_bounds, terms_in, terms_at, field_terms, entries_fault, locks_fault}
use Rattle.format.specs.Limits.{terms_lawful}
use Rattle.format.specs.declared.Tag.{Tag}
use Rattle.format.specs.declared.Tag.TheVariants.{Variables, Objective, Clause, Rule, End, Locks}
use Rattle.format.specs.Tags.{tag_number}
use Rattle.faults.specs.Faults.{body_fault, Headed}
use Rattle.bodies.proofs.Tags.{tag_byte}
use Rattle.bodies.proofs.Parts.{terms_part, entries_part}

-- Which tag it is says which number the file has there.
pub told : {t u : Tag} {n : ℕ} → tag_number t ≡ n → t ≡ u → n ≡ tag_number u
told e p = sym e ∙ ap tag_number p

module _ (s : List ℕ) (at : ℕ) where
  pub count_size : Headed s at → tag_at s at ≡ 1 → num_at 2 s (at + 1) ≡ 2
  unfolding length_at length_lawful
  count_size h e = eqb-true _ _ (rw (e) at h.lawful)

  pub rule_size : Headed s at → tag_at s at ≡ 4 → 15 ≤ num_at 2 s (at + 1)
  unfolding length_at length_lawful
  rule_size h e = leb-true _ _ (and_left _ _ (rw (e) at h.lawful))

  pub body_room : Headed s at → at + 3 + num_at 2 s (at + 1) ≤ length s
  unfolding length_at
  body_room h = h.room

-- The tests of a body, by its tag.
module _ (s : List ℕ) (st : File.State) where
  pub limits_count : (b : Bool) (n : ℕ) → tag_at s st.at ≡ 1 → b ≡ not (leb 1 n and leb n 512) → n ≡ num_at 2 s (st.at + 3) → b ≡ past_limits s st
  unfolding past_limits
  limits_count b n e p q = p ∙ rw (q, e)

  pub limits_clause : tag_at s st.at ≡ 3 → leb 512 st.clauses ≡ past_limits s st
  unfolding past_limits
  limits_clause e = rw (e)

  pub limits_rule :
      (b : Bool) (n : ℕ) → tag_at s st.at ≡ 4 → b ≡ (leb 1_024 st.rules or ltb 6_000 (st.terms + (n - 9) / 6)) → n ≡ num_at 2 s (st.at + 1)
      → b ≡ past_limits s st
  unfolding past_limits terms_in length_at
  limits_rule b n e p q = p ∙ rw (q, e)

  pub limits_none :
      (t : Tag) → tag_number t ≡ tag_at s st.at → (t ≡ Variables → ⊥) → (t ≡ Clause → ⊥) → (t ≡ Rule → ⊥) → false ≡ past_limits s st
  unfolding past_limits
  limits_none Variables e a b c = absurd (a refl)
  limits_none Objective e a b c = rw (sym e)
  limits_none Clause e a b c = absurd (b refl)
  limits_none Rule e a b c = absurd (c refl)
  limits_none End e a b c = rw (sym e)
  limits_none Locks e a b c = rw (sym e)

module _ (s : List ℕ) (at : ℕ) where
  pub bounds_none : (t : Tag) → tag_number t ≡ tag_at s at → (t ≡ Rule → ⊥) → false ≡ wrong_bounds s at
  unfolding wrong_bounds ◌and◌
  bounds_none Variables e n = rw (sym e)
  bounds_none Objective e n = rw (sym e)
  bounds_none Clause e n = rw (sym e)
  bounds_none Rule e n = absurd (n refl)
  bounds_none End e n = rw (sym e)
  bounds_none Locks e n = rw (sym e)

  pub bounds_some :
      (b : Bool) (l u : ℤ) → tag_at s at ≡ 4 → b ≡ bounds_lawful (get_or s (at + 3) 0) l u → l ≡ signed (num_at 4 s (at + 4)) → u ≡ signed (num_at 4 s (at + 8))
      → not b ≡ wrong_bounds s at
  unfolding wrong_bounds lower_at upper_at mode_at tag_at ◌and◌
  bounds_some b l u e p q r = rw (p, q, r, e) (ap (λ (m : ℕ). not (bounds_lawful m (signed (num_at 4 s (at + 4))) (signed (num_at 4 s (at + 8))))) (tag_byte s (at + 3)))

  -- The terms of a body, and the entries of locks, read from the part that it is.
  module _ (h : Headed s at) {e : ℕ} (ends : e ≡ at + 3 + length_at s at) where
    part_length : (from : ℕ) → from ≤ e → length (take (e - from) (drop from s)) ≡ e - from
    part_length from l = length-take-le (e - from) (drop from s) (omega (arith, length-drop from s, h.room))

    pub terms_objective :
        (b : Bool) (n : ℕ) → tag_at s at ≡ 2
        → b ≡ terms_lawful n (terms_at (take (e - (at + 3)) (drop (at + 3) s)) 0 (length (take (e - (at + 3)) (drop (at + 3) s)) / 6))
        → b ≡ terms_lawful n (field_terms s at)
    unfolding field_terms terms_in
    terms_objective b n t p =
        let m : e - (at + 3) ≡ length_at s at = omega arith in
        let k = part_length (at + 3) (omega arith) ∙ m in
        p ∙ ap (terms_lawful n) (terms_part s (at + 3) (e - (at + 3)) _ (omega (arith, k)) ∙ ap (λ (i : ℕ). terms_at s (at + 3) (i / 6)) k) ∙ rw (t)

    pub terms_rule :
        (b : Bool) (n : ℕ) → tag_at s at ≡ 4
        → b ≡ terms_lawful n (terms_at (take (e - (at + 12)) (drop (at + 12) s)) 0 (length (take (e - (at + 12)) (drop (at + 12) s)) / 6))
        → b ≡ terms_lawful n (field_terms s at)
    unfolding field_terms terms_in length_at
    terms_rule b n t p =
        let long = rule_size s at h t in
        let m : e - (at + 12) ≡ num_at 2 s (at + 1) - 9 = omega arith in
        let k = part_length (at + 12) (omega (arith, long)) ∙ m in
        p ∙ ap (terms_lawful n) (terms_part s (at + 12) (e - (at + 12)) _ (omega (arith, k, m)) ∙ ap (λ (i : ℕ). terms_at s (at + 12) (i / 6)) k) ∙ rw (t)

    pub entries_body :
        (f n : ℕ) → f ≡ entries_fault n 0 (take (e - (at + 3)) (drop (at + 3) s)) 0 (length (take (e - (at + 3)) (drop (at + 3) s)) / 3)
        → f ≡ entries_fault n 0 s (at + 3) (length_at s at / 3)
    entries_body f n p =
        let m : e - (at + 3) ≡ length_at s at = omega arith in
        let k = part_length (at + 3) (omega arith) ∙ m in
        p ∙ entries_part s (at + 3) (e - (at + 3)) n _ (omega (arith, k)) ∙ ap (λ (i : ℕ). entries_fault n 0 s (at + 3) (i / 3)) k

  pub terms_none : (t : Tag) (n : ℕ) → tag_number t ≡ tag_at s at → (t ≡ Objective → ⊥) → (t ≡ Rule → ⊥) → true ≡ terms_lawful n (field_terms s at)
  unfolding field_terms terms_lawful rising rising_above all ◌and◌
  terms_none Variables n e a b = rw (sym e)
  terms_none Objective n e a b = absurd (a refl)
  terms_none Clause n e a b = rw (sym e)
  terms_none Rule n e a b = absurd (b refl)
  terms_none End n e a b = rw (sym e)
  terms_none Locks n e a b = rw (sym e)

-- The entries of locks, by the tag.
module _ (s : List ℕ) (st : File.State) where
  pub locks_none : (t : Tag) → tag_number t ≡ tag_at s st.at → (t ≡ Locks → ⊥) → 0 ≡ locks_fault s st
  unfolding locks_fault
  locks_none Variables e n = rw (sym e)
  locks_none Objective e n = rw (sym e)
  locks_none Clause e n = rw (sym e)
  locks_none Rule e n = rw (sym e)
  locks_none End e n = rw (sym e)
  locks_none Locks e n = absurd (n refl)

  pub locks_some :
      (f k : ℕ) → tag_at s st.at ≡ 6 → f ≡ entries_fault st.variables 0 s (st.at + 3) (k / 3) → k ≡ num_at 2 s (st.at + 1) → f ≡ locks_fault s st
  unfolding locks_fault length_at
  locks_some f k e p q = p ∙ rw (q, e)

-- The tests of a body, in their order.
module _ (s : List ℕ) (st : File.State) where
  pub past : past_limits s st ≡ true → 4 ≡ body_fault s st
  unfolding body_fault refuse
  past a = rw a

  pub wrong : past_limits s st ≡ false → wrong_bounds s st.at ≡ true → 6 ≡ body_fault s st
  unfolding body_fault refuse
  wrong a b = rw (a, b)

  pub bad : past_limits s st ≡ false → wrong_bounds s st.at ≡ false → terms_lawful st.variables (field_terms s st.at) ≡ false → 5 ≡ body_fault s st
  unfolding body_fault refuse
  bad a b c = rw (a, b, c)

  pub fine : past_limits s st ≡ false → wrong_bounds s st.at ≡ false → terms_lawful st.variables (field_terms s st.at) ≡ true → locks_fault s st ≡ body_fault s st
  unfolding body_fault refuse
  fine a b c = rw (a, b, c)

  -- A byte that is no tag has none of the bodies that are judged.
  pub untagged : ((t : Tag) → tag_number t ≡ tag_at s st.at → ⊥) → 0 ≡ body_fault s st
  unfolding body_fault refuse past_limits wrong_bounds field_terms terms_lawful rising rising_above all locks_fault ◌and◌
  untagged n =
      rw (
        ne_eqb _ 1 (λ e. n Variables (sym e)),
        ne_eqb _ 2 (λ e. n Objective (sym e)),
        ne_eqb _ 3 (λ e. n Clause (sym e)),
        ne_eqb _ 4 (λ e. n Rule (sym e)),
        ne_eqb _ 6 (λ e. n Locks (sym e)),
      )
