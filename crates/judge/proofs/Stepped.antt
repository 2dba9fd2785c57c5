-- Laws of one step of reading: the state behind a field, and what reading from a state comes to.
-- Assumes nothing.
use Prim.Native.Nat.{ℕ, suc, ◌+◌, ◌-◌, ◌/◌, ◌≤◌, ◌<◌}
use native.Mathlib.Omega.{arith}
use mathlib.Core.Path.{◌≡◌, refl, sym, ap, ap₂, ◌∙◌, subst}
use mathlib.Core.Bool.{Bool, true, false, cond}
use mathlib.Core.List.{List}
use Rattle.std.specs.Prelude.{Option, None, Some, Result, Ok, Err, IsErrAnd}
use lib.Dec.{ltb, eqb, T}
use lib.ListN.{length}
use borrow.Author.Tests.{lt-ltb, eq-eqb, ne_eqb, ltb-false, leb-false, eqb-true}
use Rattle.plpb.specs.Lists.{◌or◌}
use Rattle.words.specs.Words.{num_at}
use Rattle.format.specs.File as File
use Rattle.format.specs.declared.Tag.{Tag}
use Rattle.format.specs.declared.Tag.TheVariants.{Variables, Objective, Clause, Rule, End, Locks}
use Rattle.format.specs.Tags.{tag_number}
use Rattle.format.specs.File.{tag_at, length_at, length_lawful, terms_in, past_limits, fault, stage_after, next, Reading, refused, accepted, map_reading, finish, read_from, begin, plan_of, read}
use Rattle.format.proofs.Fields.{Clean, fault_clean, read_on, read_end}
use Rattle.faults.specs.declared.Stage.{Stage}
use Rattle.faults.specs.declared.Stage.TheVariants.{Count}
use Rattle.faults.specs.declared.State.{State}
use Rattle.judge.specs.declared.field.Taken.{Taken as TakenT}
use Rattle.verdict.specs.declared.Refusal.{Refusal}
use Rattle.verdict.specs.Answers.{Answer, Accepted, Refused, outcome}
use Rattle.bodies.specs.declared.Fault.{Fault}
use Rattle.bodies.specs.Faults.{number}
use Rattle.bodies.proofs.Found.{fault_numbered}
use Rattle.faults.specs.Faults.{stage_of, state_of, Headed}
use Rattle.judge.specs.Fields.{TakenAt, ending, Steps}
use Rattle.faults.proofs.Faults.{count_size, rule_size, body_room}

-- What a field with no fault says of the counts.
or_false : (a b : Bool) → (a or b) ≡ false → (a ≡ false) × (b ≡ false)
unfolding ◌or◌
or_false true b e = absurd (subst (λ (t : Bool). T t) e tt)
or_false false b e = (refl, e)

module _ (s : List ℕ) (st : File.State) (c : Clean s st) where
  clean_headed : Headed s st.at
  clean_headed = record { room = c.body; lawful = c.size }

  pub clean_count : tag_at s st.at ≡ 1 → st.at + 3 + 2 ≤ length s
  clean_count e = omega (arith, body_room s st.at clean_headed, count_size s st.at clean_headed e)

  pub clean_clause : tag_at s st.at ≡ 3 → st.clauses < 512
  unfolding past_limits
  clean_clause e = leb-false _ _ (rw e at c.limits)

  clean_limits : tag_at s st.at ≡ 4 → (st.rules < 1_024) × (st.terms + terms_in 4 (length_at s st.at) ≤ 6_000)
  unfolding past_limits
  clean_limits e =
      let h = or_false _ _ (rw e at c.limits) in
      (leb-false _ _ h.0, ltb-false _ _ h.1)

  pub clean_rule : tag_at s st.at ≡ 4 → st.rules < 1_024
  clean_rule e = (clean_limits e).0

  pub clean_terms : tag_at s st.at ≡ 4 → st.terms + terms_in 4 (length_at s st.at) ≤ 6_000
  clean_terms e = (clean_limits e).1

  pub clean_size : tag_at s st.at ≡ 4 → 15 ≤ length_at s st.at
  unfolding length_at
  clean_size e = rule_size s st.at clean_headed e

  pub clean_end : tag_at s st.at ≡ 5 → length_at s st.at ≡ 0
  unfolding length_lawful
  clean_end e = eqb-true _ _ (rw e at c.size)

-- The same of what the code took from the field.
module _ (s : List ℕ) (st : State) (t : TakenT) (f : fault s (state_of st) ≡ 0) (p : TakenAt s st.at t) where
  clean : Clean s (state_of st)
  clean = fault_clean s (state_of st) f

  here : {k : ℕ} → tag_number t.tag ≡ k → tag_at s st.at ≡ k
  here e = sym p.tag ∙ e

  size : t.next - t.body ≡ length_at s st.at
  size = omega (arith, p.body, p.next)

  pub taken_count : t.tag ≡ Variables → t.body + 2 ≤ length s
  unfolding state_of
  taken_count e = omega (arith, p.body, clean_count s (state_of st) clean (here (ap tag_number e)))

  pub taken_clause : t.tag ≡ Clause → st.clauses < 1_024
  unfolding state_of
  taken_clause e = omega (arith, clean_clause s (state_of st) clean (here (ap tag_number e)))

  pub taken_rule : t.tag ≡ Rule → st.rules < 1_024
  unfolding state_of
  taken_rule e = clean_rule s (state_of st) clean (here (ap tag_number e))

  pub taken_size : t.tag ≡ Rule → 9 ≤ t.next - t.body
  unfolding state_of
  taken_size e = omega (arith, size, clean_size s (state_of st) clean (here (ap tag_number e)))

  pub taken_terms : t.tag ≡ Rule → st.terms + (t.next - t.body - 9) / 6 ≤ 6_000
  unfolding state_of terms_in
  taken_terms e = rw size (clean_terms s (state_of st) clean (here (ap tag_number e)))

  pub next_is :
      (tag : Tag) (stage : Stage) (v cl ru te : ℕ) → t.tag ≡ tag
      → stage_of stage ≡ stage_after (tag_number tag)
      → v ≡ cond (eqb (tag_number tag) 1) (num_at 2 s t.body) st.variables
      → cl ≡ cond (eqb (tag_number tag) 3) (st.clauses + 1) st.clauses
      → ru ≡ cond (eqb (tag_number tag) 4) (st.rules + 1) st.rules
      → te ≡ cond (eqb (tag_number tag) 4) (st.terms + (t.next - t.body - 9) / 6) st.terms
      → state_of (record { at = t.next; stage = stage; variables = v; clauses = cl; rules = ru; terms = te }) ≡ next s (state_of st)
  unfolding state_of next terms_in
  next_is tag stage v cl ru te is qs qv qc qr qt =
      let told : tag_number tag ≡ tag_at s st.at = sym (ap tag_number is) ∙ p.tag in
      let pv = qv ∙ ap₂ (λ (a b : ℕ). cond (eqb a 1) (num_at 2 s b) st.variables) told p.body in
      let pc = qc ∙ ap (λ (a : ℕ). cond (eqb a 3) (st.clauses + 1) st.clauses) told in
      let pr = qr ∙ ap (λ (a : ℕ). cond (eqb a 4) (st.rules + 1) st.rules) told in
      let pt = qt ∙ ap₂ (λ (a b : ℕ). cond (eqb a 4) (st.terms + terms_in 4 b) st.terms) told size in
      let ps = qs ∙ ap stage_after told in
      λ i. record { at = p.next i; stage = ps i; variables = pv i; clauses = pc i; rules = pr i; terms = pt i }

-- No other tag has the number of the end.
ends_here : (tag : Tag) → tag_number tag ≡ 5 → tag ≡ End
ends_here Variables e = absurd (omega (arith, e))
ends_here Objective e = absurd (omega (arith, e))
ends_here Clause e = absurd (omega (arith, e))
ends_here Rule e = absurd (omega (arith, e))
ends_here End e = refl
ends_here Locks e = absurd (omega (arith, e))

outcome_map : {A B : Type 0} (f : A → B) (r : Reading A) → outcome (map_reading f r) ≡ outcome r
unfolding outcome map_reading
outcome_map f (refused n o) = refl
outcome_map f (accepted a) = refl

outcome_cond : {A : Type 0} (b : Bool) (n o : ℕ) (a : A) → outcome (cond b (refused n o) (accepted a)) ≡ cond b (Refused n o) Accepted
unfolding outcome
outcome_cond true n o a = refl
outcome_cond false n o a = refl

end_outcome : (s : List ℕ) (st : File.State) (behind : ℕ) → behind ≡ st.at + 3 → outcome (finish s st) ≡ ending s behind
unfolding finish ending
end_outcome s st behind e =
    outcome_cond (ltb (st.at + 3) (length s)) 7 (st.at + 3) _
    ∙ ap (λ (n : ℕ). cond (ltb n (length s)) (Refused 7 n) Accepted) (sym e)

-- What reading from a state comes to, by the field that stands there.
module _ (s : List ℕ) (st : State) where
  pub step_fault : (fault_here : Fault) (r : Refusal) → number fault_here ≡ fault s (state_of st) → r ≡ record { number = number fault_here; offset = st.at } → Steps s st (Err r)
  unfolding Steps state_of read_from outcome
  step_fault f r e q left =
      let some : 0 < fault s (state_of st) = omega (arith, e, fault_numbered f) in
      rw (lt-ltb 0 (fault s (state_of st)) some) (ap (λ (k : ℕ). Refused k st.at) (sym e) ∙ sym (ap (λ (x : Refusal). Err x) q))

  module _ (t : TakenT) (f : 0 ≡ fault s (state_of st)) (p : TakenAt s st.at t) where
    pub took_more : (on : State) → (t.tag ≡ End → ⊥) → state_of on ≡ next s (state_of st) → Steps s st (Ok (Some on))
    unfolding Steps state_of
    took_more on n e left =
        ap outcome (read_on s left (state_of st) (fault_clean s (state_of st) (sym f)) (ne_eqb _ _ (λ g. n (ends_here t.tag (p.tag ∙ g)))))
        ∙ outcome_map _ (read_from s left (next s (state_of st)))
        ∙ ap (λ (x : File.State). outcome (read_from s left x)) (sym e)

    took_end : (a : Answer) → t.tag ≡ End → a ≡ ending s t.next → (left : ℕ) → outcome (read_from s (suc left) (state_of st)) ≡ a
    unfolding state_of
    took_end a g q left =
        let clean = fault_clean s (state_of st) (sym f) in
        let here : tag_at s st.at ≡ 5 = sym p.tag ∙ ap tag_number g in
        ap outcome (read_end s left (state_of st) clean (eq-eqb _ _ here))
        ∙ end_outcome s (state_of st) t.next (omega (arith, p.next, clean_end s (state_of st) clean here))
        ∙ sym q

    pub took_last : t.tag ≡ End → Accepted ≡ ending s t.next → Steps s st (Ok None)
    unfolding Steps
    took_last g q = took_end Accepted g q

    pub took_bytes : (r : Result (Option State) Refusal) (e : Refusal) → t.tag ≡ End → Err e ≡ ending s t.next → IsErrAnd r (λ x. x ≡ e) → Steps s st r
    unfolding Steps
    took_bytes (Ok x) e g q h = absurd h
    took_bytes (Err x) e g q h = took_end (Err x) g (ap (λ (y : Refusal). Err y) h ∙ q)

-- What a loop over steps comes to.
module _ (s : List ℕ) (st : State) (n i : ℕ) (some : i < n) where
  one_more : n - i ≡ suc (n - (i + 1))
  one_more = omega (arith, some)

  turn : (a : Answer) → outcome (read_from s (suc (n - (i + 1))) (state_of st)) ≡ a → outcome (read_from s (n - i) (state_of st)) ≡ a
  turn a e = ap (λ (k : ℕ). outcome (read_from s k (state_of st))) one_more ∙ e

  module _ (behind_field : Option State) (h : Steps s st (Ok behind_field)) where
    pub goes : (on : State) → behind_field ≡ Some on → outcome (read_from s (n - i) (state_of st)) ≡ outcome (read_from s (n - (i + 1)) (state_of on))
    unfolding Steps
    goes on e = turn _ (subst (λ (o : Option State). Steps s st (Ok o)) e h (n - (i + 1)))

    pub ends : behind_field ≡ None → outcome (read_from s (n - i) (state_of st)) ≡ Accepted
    unfolding Steps
    ends e = turn _ (subst (λ (o : Option State). Steps s st (Ok o)) e h (n - (i + 1)))

  pub stops : (e : Refusal) → Steps s st (Err e) → (a : Answer) → IsErrAnd a (λ x. x ≡ e) → outcome (read_from s (n - i) (state_of st)) ≡ a
  unfolding Steps
  stops e h (Ok x) r = absurd r
  stops e h (Err x) r = turn _ (h (n - (i + 1))) ∙ sym (ap (λ (y : Refusal). Err y) r)

abbrev pub start : State
start = record { at = 0; stage = Count; variables = 0; clauses = 0; rules = 0; terms = 0 }

pub judge_start : (s : List ℕ) → outcome (read_from s (length s - 0) (state_of start)) ≡ outcome (read s)
unfolding read state_of stage_of begin
judge_start s = ap (λ (k : ℕ). outcome (read_from s k begin)) all_left ∙ sym (outcome_map plan_of (read_from s (length s) begin))
  where
    all_left : length s - 0 ≡ length s
    all_left = omega arith

pub judge_end : (s : List ℕ) (st : State) (n i : ℕ) → n ≤ i → Refused 1 st.at ≡ outcome (read_from s (n - i) (state_of st))
unfolding read_from outcome state_of
judge_end s st n i h = ap (λ (k : ℕ). outcome (read_from s k (state_of st))) none
  where
    none : 0 ≡ n - i
    none = omega arith
