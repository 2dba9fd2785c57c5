-- Laws that join the tests of the code, one after the other, to the definition of a field's fault.
-- Assumes nothing.
use Prim.Native.Nat.{ℕ, suc, ◌+◌, ◌≤◌, ◌<◌}
use native.Mathlib.Omega.{arith}
use mathlib.Core.Path.{◌≡◌, refl, sym, ap, ap₂, ◌∙◌}
use mathlib.Core.Bool.{Bool, true, false}
use mathlib.Core.List.{List}
use lib.Dec.{eqb, eqb-suc-suc}
use denote.Enum.Bare.{sameb}
use denote.Enum.Declared.{tag_of}
use lib.ListN.{length, get_or}
use borrow.Author.Tests.{ne_eqb, lt-ltb, le-ltb, ltb-false, not-false}
use Rattle.plpb.specs.Lists.{◌or◌}
use Rattle.words.specs.Words.{num_at}
use Rattle.format.specs.File as File
use Rattle.format.specs.contracts.Tag.{the_type}
use Rattle.format.specs.declared.Tag.{Tag}
use Rattle.format.specs.declared.Tag.TheVariants.{Variables, Objective, Clause, Rule, End, Locks}
use Rattle.format.specs.Tags.{tag_number}
use Rattle.format.specs.File.{at_count, at_objective, at_locks, at_clause, at_rule, after_rule, may_stand, tag_at, length_at, length_lawful, refuse, fault}
use Rattle.format.proofs.Fields.{unrefused}
use Rattle.faults.specs.Faults.{body_fault, Headed}
use Rattle.judge.specs.Fields.{head_fault}
use Rattle.bodies.proofs.Tags.{tag_byte}

-- A tag is told by its number: the code compares the places of the tags, from 0 on.
number_above : (t : Tag) → tag_number t ≡ suc (tag_of the_type t)
number_above Variables = refl
number_above Objective = refl
number_above Clause = refl
number_above Rule = refl
number_above End = refl
number_above Locks = refl

pub same_number : (t u : Tag) → sameb the_type t u ≡ eqb (tag_number t) (tag_number u)
same_number t u = sym (eqb-suc-suc (tag_of the_type t) (tag_of the_type u)) ∙ ap₂ eqb (sym (number_above t)) (sym (number_above u))

-- Of tests one after the other, the first that holds tells.
module _ {a b : Bool} (e : a ≡ b) where
  pub or_then : (c : Bool) → a ≡ true → a ≡ (b or c)
  unfolding ◌or◌
  or_then c t = t ∙ rw (sym e ∙ t)

  pub or_else : {c d : Bool} → a ≡ false → c ≡ d → c ≡ (b or d)
  unfolding ◌or◌
  or_else {c} {d} f q = q ∙ rw (sym e ∙ f)

  pub second_then : (c d : Bool) → a ≡ true → a ≡ (c or b or d)
  unfolding ◌or◌
  second_then true d t = t
  second_then false d t = t ∙ rw (sym e ∙ t)

  pub second_else : {x : Bool} (c d : Bool) → a ≡ false → x ≡ (c or d) → x ≡ (c or b or d)
  unfolding ◌or◌
  second_else true d f q = q
  second_else false d f q = q ∙ rw (sym e ∙ f)

-- What a byte that is a tag tells, and one that is none.
pub told_tag : (s : List ℕ) (at : ℕ) (stage : File.Stage) (t : Tag) (b : Bool) → tag_number t ≡ get_or s at 0 → b ≡ may_stand stage (tag_number t) → may_stand stage (tag_at s at) ≡ b
told_tag s at stage t b here e = ap (may_stand stage) (sym (tag_byte s at) ∙ sym here) ∙ sym e

pub told_length :
    (s : List ℕ) (at n : ℕ) (t : Tag) (b : Bool) → tag_number t ≡ get_or s at 0 → b ≡ length_lawful (tag_number t) n → n ≡ num_at 2 s (at + 1)
    → length_lawful (tag_at s at) (length_at s at) ≡ b
unfolding length_at
told_length s at n t b here e m = ap₂ length_lawful (sym (tag_byte s at) ∙ sym here) (sym m) ∙ sym e

no_stage : (stage : File.Stage) (n : ℕ) → ((t : Tag) → tag_number t ≡ n → ⊥) → may_stand stage n ≡ false
unfolding may_stand ◌or◌
no_stage at_count n f = ne_eqb n 1 (λ e. f Variables (sym e))
no_stage at_objective n f = ne_eqb n 2 (λ e. f Objective (sym e))
no_stage at_locks n f = rw (ne_eqb n 6 (λ e. f Locks (sym e)), ne_eqb n 3 (λ e. f Clause (sym e)), ne_eqb n 5 (λ e. f End (sym e)))
no_stage at_clause n f = rw (ne_eqb n 3 (λ e. f Clause (sym e)), ne_eqb n 5 (λ e. f End (sym e)))
no_stage at_rule n f = ne_eqb n 4 (λ e. f Rule (sym e))
no_stage after_rule n f = rw (ne_eqb n 3 (λ e. f Clause (sym e)), ne_eqb n 4 (λ e. f Rule (sym e)), ne_eqb n 5 (λ e. f End (sym e)))

pub no_tag : (s : List ℕ) (at : ℕ) (stage : File.Stage) → ((t : Tag) → tag_number t ≡ get_or s at 0 → ⊥) → may_stand stage (tag_at s at) ≡ false
no_tag s at stage f = no_stage stage (tag_at s at) (λ t e. f t (e ∙ sym (tag_byte s at)))

-- The tests of the head, in their order.
module _ (s : List ℕ) (at : ℕ) (stage : File.Stage) where
  pub short_head : length s < at + 3 → 1 ≡ head_fault s at stage
  unfolding head_fault refuse
  short_head h = simp (lt-ltb _ _ h)

  pub wrong_tag : at + 3 ≤ length s → may_stand stage (tag_at s at) ≡ false → 2 ≡ head_fault s at stage
  unfolding head_fault refuse
  wrong_tag h t = simp (le-ltb _ _ h, t)

  pub wrong_length : at + 3 ≤ length s → may_stand stage (tag_at s at) ≡ true → length_lawful (tag_at s at) (length_at s at) ≡ false → 3 ≡ head_fault s at stage
  unfolding head_fault refuse
  wrong_length h t l = simp (le-ltb _ _ h, t, l)

  pub short_body : at + 3 ≤ length s → may_stand stage (tag_at s at) ≡ true → length_lawful (tag_at s at) (length_at s at) ≡ true → length s < at + 3 + length_at s at → 1 ≡ head_fault s at stage
  unfolding head_fault refuse
  short_body h t l b = simp (le-ltb _ _ h, t, l, lt-ltb _ _ b)

  pub whole_head : at + 3 ≤ length s → may_stand stage (tag_at s at) ≡ true → length_lawful (tag_at s at) (length_at s at) ≡ true → at + 3 + length_at s at ≤ length s → 0 ≡ head_fault s at stage
  unfolding head_fault refuse
  whole_head h t l b = simp (le-ltb _ _ h, t, l, le-ltb _ _ b)

-- A head with nothing wrong, and what the length of each tag says.
pub headed : (s : List ℕ) (at : ℕ) (stage : File.Stage) → head_fault s at stage ≡ 0 → Headed s at
unfolding head_fault
headed s at stage e =
    let a = unrefused _ 0 _ e in
    let b = unrefused _ 1 _ a.1 in
    let c = unrefused _ 2 _ b.1 in
    let d = unrefused _ 0 _ c.1 in
    record { room = ltb-false _ _ d.0; lawful = not-false _ c.0 }

-- The order of a field's conditions: those of the head, then those of the body.
chain : (a b c d : Bool) (x : ℕ) → ℕ
chain a b c d x = refuse a 1 (refuse b 2 (refuse c 3 (refuse d 1 x)))

chain_none : (a b c d : Bool) (x : ℕ) → chain a b c d 0 ≡ 0 → chain a b c d x ≡ x
unfolding chain refuse
chain_none true b c d x e = absurd (omega arith)
chain_none false true c d x e = absurd (omega arith)
chain_none false false true d x e = absurd (omega arith)
chain_none false false false true x e = absurd (omega arith)
chain_none false false false false x e = refl

chain_some : (a b c d : Bool) (x : ℕ) → (chain a b c d 0 ≡ 0 → ⊥) → chain a b c d x ≡ chain a b c d 0
unfolding chain refuse
chain_some true b c d x n = refl
chain_some false true c d x n = refl
chain_some false false true d x n = refl
chain_some false false false true x n = refl
chain_some false false false false x n = absurd (n refl)

module _ (s : List ℕ) (st : File.State) where
  pub fault_head : (head_fault s st.at st.stage ≡ 0 → ⊥) → head_fault s st.at st.stage ≡ fault s st
  unfolding fault head_fault chain
  fault_head n = sym (chain_some _ _ _ _ _ n)

  pub fault_body : 0 ≡ head_fault s st.at st.stage → body_fault s st ≡ fault s st
  unfolding fault head_fault body_fault chain
  fault_body e = sym (chain_none _ _ _ _ _ (sym e))
