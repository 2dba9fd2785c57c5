-- A line judged, and the lines behind it.
-- Assumes nothing.
use Prim.Native.Nat.{ℕ, ◌+◌, ◌≤◌, ◌<◌}
use native.Mathlib.Omega.{arith}
use mathlib.Core.Path.{◌≡◌, refl, sym, ap, subst, ◌∙◌}
use mathlib.Core.Bool.{Bool, true, false}
use mathlib.Core.List.{List}
use lib.Dec.{eqb, leb}
use lib.ListN.{length, drop}
use borrow.Author.Rules.{rules}
use borrow.Author.Tests.{eq-eqb, ne_eqb, lt-ltb, le-leb, lt-leb, leb-true, leb-false, tests}
use Rattle.std.specs.Ordering.{is_le, nat_cmp}
use Rattle.std.specs.declared.ops.RangeInclusive.{RangeInclusive}
use Rattle.std.specs.Range.{range_inclusive_start, range_inclusive_end, range_inclusive_exhausted, range_inclusive_contains}
use Rattle.plpb.specs.Lists.{◌and◌, is_empty}
use Rattle.plpb.specs.Plan.{Plan}
use Rattle.format.specs.File.{Reading, refuse}
use Rattle.format.proofs.Bools.{and_left, and_right}
use Rattle.tokens.specs.declared.text.Text.{Text}
use Rattle.tokens.specs.Tokens.{seen}
use Rattle.tokens.specs.Found.{read, Behind}
use Rattle.tokens.proofs.Runs.{read_behind}
use Rattle.tokens.proofs.Numbers.{seen_eqb, seen_below, seen_le}
use Rattle.statements.specs.Grammar.{is_comment, is_objective, sum_at, terms_in}
use Rattle.verdict.specs.Answers.{Answer, Accepted, Refused, outcome}
use Rattle.opb_lines.specs.ReadText.{variables_in, constraints_in, first_formed, starts, objective_fault, constraint_fault, fault, judging, read_text}
use Rattle.opb_lines.specs.Lines.{next_line, lines_from}
use Rattle.opb_lines.proofs.Lines.{lines_here, lines_none, lines_behind}
use Rattle.opb_judge.specs.declared.Passed.{Passed}
use Rattle.opb_judge.specs.declared.Fault.{Fault}
use Rattle.opb_judge.specs.declared.Fault.TheVariants.{Malformed, VariableAbove, ConstraintsMiscounted, OutOfRange, TermsUnlawful, BoundWide}
use Rattle.std.specs.Prelude.{Result, Ok, Err, Some, MatchResult}
use Rattle.opb_judge.specs.Steps.{number_of, OnFault, Steps}
use Rattle.opb_judge.proofs.Faults.{refused_zero, constraint_few}

number_some : (f : Fault) → 0 < number_of f
number_some Malformed = omega arith
number_some VariableAbove = omega arith
number_some ConstraintsMiscounted = omega arith
number_some OutOfRange = omega arith
number_some TermsUnlawful = omega arith
number_some BoundWide = omega arith

module _ (s : List ℕ) (at : ℕ) (p : Passed) where
  abbrev found : ℕ
  found = fault (variables_in s) s p.free p.constraints p.terms at

  pub stopping : (f : Fault) → found ≡ number_of f → Steps s at p (Err f)
  unfolding judging
  stopping f e ats = rw (e, lt-ltb 0 (number_of f) (number_some f))

  pub past_comment : found ≡ 0 → is_comment s at ≡ true → Steps s at p (Ok p)
  unfolding judging
  past_comment e h = ((λ ats. rw (e, h)), λ k. k)

  module _ (none : is_comment s at ≡ false) where
    pub past_objective :
        (step : Result Passed Fault) → is_objective s at ≡ true → found ≡ refuse (is_empty (terms_in s at)) 31 (objective_fault (variables_in s) s p.free at)
        → OnFault (refuse (is_empty (terms_in s at)) 31 (objective_fault (variables_in s) s p.free at)) (record { free = false; constraints = p.constraints; terms = p.terms }) step
        → Steps s at p step
    unfolding judging
    past_objective (Ok q) h e (z, r) =
        ((λ ats. let y : found ≡ 0 = e ∙ z in rw (y, none, h) (ap (λ x. judging s x.free x.constraints x.terms ats) (sym r))), λ k. rw r k)
    past_objective (Err f) h e z = stopping f (e ∙ sym z)

    pub past_constraint :
        (step : Result Passed Fault) → is_objective s at ≡ false → found ≡ refuse (is_empty (terms_in s at)) 31 (constraint_fault (variables_in s) s p.constraints p.terms at)
        → OnFault (refuse (is_empty (terms_in s at)) 31 (constraint_fault (variables_in s) s p.constraints p.terms at))
        (record { free = false; constraints = p.constraints + 1; terms = p.terms + length (sum_at s at) }) step
        → Steps s at p step
    unfolding judging
    past_constraint (Ok q) h e (z, r) =
        let few = constraint_few (variables_in s) s p.constraints p.terms at (refused_zero _ _ z).1 in (
          (λ ats. let y : found ≡ 0 = e ∙ z in rw (y, none, h) (ap (λ x. judging s x.free x.constraints x.terms ats) (sym r))),
          (λ k. rw r (omega arith)),
        )
    past_constraint (Err f) h e z = stopping f (e ∙ sym z)

-- The lines from a place on, once the first of them is judged.
module _ (s : List ℕ) (at : ℕ) (p : Passed) (step : Result Passed Fault) (h : Steps s at p step) (l : at < length s) where
  abbrev now : Reading Plan
  now = judging s p.free p.constraints p.terms (lines_from s at)

  pub judged_stop : (f : Fault) → step ≡ Err f → outcome now ≡ Refused (number_of f) at
  unfolding outcome
  judged_stop f e =
      let g = subst (Steps s at p) e h in
      ap (λ ats. outcome (judging s p.free p.constraints p.terms ats)) (lines_here s at l)
      ∙ ap outcome (g (starts at (drop at s)))

  pub judged_go :
      (q : Passed) → step ≡ Ok q → {u : Text} → Behind next_line s at u
      → (outcome (judging u.bytes.now q.free q.constraints q.terms (read lines_from u)) ≡ outcome now)
      × (p.constraints ≤ 512 → q.constraints ≤ 512)
  judged_go q e f =
      let g = subst (Steps s at p) e h in (
        read_behind f (λ s k. outcome (judging s q.free q.constraints q.terms (lines_from s k)))
            ∙ ap (λ ats. outcome (judging s q.free q.constraints q.terms ats)) (sym (lines_behind s at (omega arith)))
            ∙ ap outcome (sym (g.0 (starts at (drop at s))))
            ∙ ap (λ ats. outcome (judging s p.free p.constraints p.terms ats)) (sym (lines_here s at l)),
        g.1,
      )

-- What `map_err` was given: the fault that it turned into a refusal, or the value that it kept.
pub turned : {X E D : Type 0} (r : Result X E) (y : D) (Q : E → Type 0) → MatchResult r (λ x. ◌≡◌ {A = Result X D} (Err y) (Ok x)) Q → (e : E) × (r ≡ Err e) × Q e
turned (Ok x) y Q h = cc
turned (Err e) y Q h = (e, refl, h)

pub kept : {X E : Type 0} (D : Type 0) (r : Result X E) (v : X) (Q : E → Type 0) → MatchResult r (λ x. ◌≡◌ {A = Result X D} (Ok v) (Ok x)) Q → ((e : E) → Q e → ⊥) → r ≡ Ok v
kept D (Ok x) v Q h never = cc
kept D (Err e) v Q h never = absurd (never e h)

-- Behind the last line.
module _ (s : List ℕ) (at : ℕ) (p : Passed) (h : length s ≤ at) (few : p.constraints ≤ 512) {m : ℕ} (e : m ≡ seen (constraints_in s)) where
  abbrev last : Answer
  last = outcome (judging s p.free p.constraints p.terms (lines_from s at))

  same : eqb p.constraints m ≡ eqb p.constraints (constraints_in s)
  same = ap (eqb p.constraints) e ∙ seen_eqb p.constraints (constraints_in s) (omega arith)

  pub judged_right : p.constraints ≡ m → Accepted ≡ last
  unfolding judging outcome
  judged_right q = rw (lines_none s at h, sym same ∙ eq-eqb _ _ q)

  pub judged_wrong : (p.constraints ≡ m → ⊥) → Refused 32 0 ≡ last
  unfolding judging outcome
  judged_wrong q = rw (lines_none s at h, sym same ∙ ne_eqb _ _ q)

-- What a range's `contains` tells of a number is what its two tests say.
le_test : (a b : ℕ) → is_le (nat_cmp a b) ≡ leb a b
le_test a b = search (rules, tests)

module _ {b : Bool} (n : ℕ) {r : RangeInclusive ℕ} (start : range_inclusive_start r ≡ 1) (end : range_inclusive_end r ≡ 512) (on : range_inclusive_exhausted r ≡ false)
    (contains : b ≡ range_inclusive_contains (λ i j. Some (nat_cmp i j)) r n)
  where
    told : b ≡ leb 1 n and leb n 512
    unfolding ◌and◌
    told = rw (← le_test 1 n, ← le_test n 512) (contains ∙ rw (start, end, on))

    pub inside : b ≡ true → (1 ≤ n) × (n ≤ 512)
    inside e = let f = sym told ∙ e in (leb-true 1 n (and_left _ _ f), leb-true n 512 (and_right _ _ f))

    pub outside : {R : Type 0} → b ≡ false → (n < 1 → R) → (1 ≤ n → 512 < n → R) → R
    unfolding ◌and◌
    outside {R} e below above = by (leb 1 n) refl (sym told ∙ e)
      where
        by : (x : Bool) → leb 1 n ≡ x → x and leb n 512 ≡ false → R
        by true f g = above (leb-true 1 n f) (leb-false n 512 g)
        by false f g = below (leb-false 1 n f)

-- The first line.
module _ (s : List ℕ) where
  pub first_malformed : first_formed s ≡ false → Refused 31 0 ≡ outcome (read_text s)
  unfolding read_text outcome
  first_malformed h = rw h

  module _ (h : first_formed s ≡ true) {n : ℕ} (e : n ≡ seen (variables_in s)) where
    pub none_named : n < 1 → Refused 4 0 ≡ outcome (read_text s)
    unfolding read_text outcome ◌and◌
    none_named k = let q = seen_below (variables_in s) (omega (arith, e)) in rw (h, lt-leb 1 (variables_in s) (omega (arith, e, q)))

    module _ (k : 1 ≤ n) where
      pub many_named : 512 < n → Refused 4 0 ≡ outcome (read_text s)
      unfolding read_text outcome ◌and◌
      many_named m =
          let q = seen_le (variables_in s) in
          rw (h, le-leb 1 (variables_in s) (omega (arith, e, q)), lt-leb (variables_in s) 512 (omega (arith, e, q)))

      module _ (m : n ≤ 512) where
        pub named_right : n ≡ variables_in s
        named_right = e ∙ seen_below (variables_in s) (omega (arith, e))

        pub first_right : {a : Answer} → a ≡ outcome (judging s true 0 0 (starts 0 s)) → a ≡ outcome (read_text s)
        unfolding read_text ◌and◌
        first_right f = rw (h, le-leb 1 (variables_in s) (omega (arith, named_right)), le-leb (variables_in s) 512 (omega (arith, named_right))) f
