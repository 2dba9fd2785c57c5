-- A text as it is spelled is read as the plan that it says; so the text of a plan of single-rule clauses, read again, has the same solutions.
-- Assumes nothing.
use Prim.Native.Nat.{ℕ, suc, ◌+◌, ◌≤◌, ◌<◌}
use native.Mathlib.Omega.{arith}
use native.Mathlib.Nat.{add-zero}
use mathlib.Core.Path.{◌≡◌, refl, sym, ap, ap₂, ◌∙◌}
use mathlib.Core.Bool.{Bool, true, false, not, cond}
use mathlib.Core.List.{List, [], ◌∷◌, ◌++◌, map}
use lib.Dec.{leb, ltb, eqb}
use lib.IntN.{ℤ, nat_abs}
use lib.ListN.{length, drop, length-map}
use borrow.Author.Tests.{leb-true, le-leb, lt-leb, le-ltb, eq-eqb}
use Rattle.plpb.specs.Lists.{◌and◌, ◌or◌, any, all, keep, concat, sum_by, is_empty}
use Rattle.plpb.specs.Plan.{Term, Clause, Plan}
use Rattle.plpb.specs.Tallies.{rules_of}
use Rattle.format.specs.Limits.{bound_lawful, rule_lawful, term_count, term_within}
use Rattle.format.specs.File.{Reading, refused, accepted, refuse}
use Rattle.format.proofs.Bools.{and_left, and_right}
use Rattle.format.proofs.Lawful.{LawfulTerms, terms_whole, rule_parts, clause_lawful, clause_rules, LawfulPlan, plan_parts}
use Rattle.tokens.specs.Tokens.{line_end}
use Rattle.statements.specs.Grammar.{is_constraint, sum_at, sum_from, terms_in, rule_at, objective_formed}
use Rattle.opb_lines.specs.ReadText.{passes, lines_of, variables_in, constraints_in, objective_of, plan_of_text, first_formed, first_met, objective_fault, constraint_fault, fault, judging, read_text}
use Rattle.opb_lines.specs.Lines.{lines_from}
use Rattle.opb_lines.proofs.Lines.{lines_none}
use Rattle.opb.specs.Opb.{Line, Text, line_rule, plan_of}
use Rattle.opb.specs.Spell.{spell_line, spell_objective, spell_first, spell}
use Rattle.opb.specs.Tau.{tau}
use Rattle.models.proofs.Extends.{same_solutions, no_atoms}
use Rattle.reread.specs.Claims.{ReadSpell, ReadAgain}
use Rattle.reread.proofs.Places.{Here, past, at_end}
use Rattle.reread.proofs.Lines.{Ended, ended, body, line_length, Constrains, constrains, constraint_ended, objective_body, objective_length, Minimises, minimises, objective_ended}
use Rattle.reread.proofs.First.{first_body, first_body_lem, inside_first, first_says}

abbrev ruled : List Line → List Clause
ruled cs = map (λ c. line_rule c ∷ []) cs

abbrev lines_text : List Line → List ℕ
lines_text cs = concat (map spell_line cs)

-- ---- no fault

passes_none : (n : ℕ) (ts : List Term) → all (term_within n) ts ≡ true → passes n ts ≡ false
unfolding passes any all term_within ◌or◌
passes_none n [] h = refl
passes_none n (t ∷ ts) h =
    let l = leb-true t.variable n (and_left _ _ (and_left _ _ h)) in
    rw (le-ltb n t.variable l) (passes_none n ts (and_right _ _ h))

met_zero : {a b c d e : Bool} → a ≡ true → b ≡ false → c ≡ false → d ≡ false → e ≡ true → first_met (not a) b c d (not e) ≡ 0
unfolding first_met refuse
met_zero p q r u v = rw (p, q, r, u, v)

bound_small : (n : ℕ) (c : Line) → rule_lawful n (line_rule c) ≡ true → nat_abs c.bound ≤ 1_000_000_000
unfolding rule_lawful line_rule bound_lawful
bound_small n c h = leb-true _ _ (and_right _ _ (and_left _ _ (and_left _ _ (and_left _ _ h))))

terms_right : (n : ℕ) (c : Line) → rule_lawful n (line_rule c) ≡ true → LawfulTerms n c.terms
unfolding line_rule
terms_right n c h = (rule_parts n (line_rule c) h).terms

terms_some : (n : ℕ) (c : Line) → rule_lawful n (line_rule c) ≡ true → 0 < length c.terms
unfolding line_rule
terms_some n c h = (rule_parts n (line_rule c) h).some

not_empty : (ts : List Term) → 0 < length ts → is_empty ts ≡ false
unfolding is_empty
not_empty [] h = absurd (omega arith)
not_empty (t ∷ ts) h = refl

module _ (s : List ℕ) (n : ℕ) where
  lawful_constrains : (c : Line) {at : ℕ} {r : List ℕ} → rule_lawful n (line_rule c) ≡ true → Here s at (spell_line c) r → Constrains s at c
  lawful_constrains c {at} {r} l h = go c.terms c.exact c.bound (terms_some n c l) h
    where
      go : (ts : List Term) (x : Bool) (z : ℤ) → 0 < length ts → Here s at (spell_line (record { terms = ts; exact = x; bound = z })) r
          → Constrains s at (record { terms = ts; exact = x; bound = z })
      go [] x z k a = absurd (omega arith)
      go (t ∷ ts) x z k a = constrains s t ts x z a

  constraint_right : (c : Line) (free : Bool) (k j at : ℕ) {end : ℕ} → Constrains s at c → Ended s at end → rule_lawful n (line_rule c) ≡ true → k < 512 → j + length c.terms ≤ 6_000
      → fault n s free k j at ≡ 0
  unfolding fault refuse sum_from constraint_fault
  constraint_right c free k j at q e l few small =
      let i : leb (length s) (line_end s at) ≡ false = lt-leb _ _ e.inside in
      let plain = q.comment in
      let obj = q.objective in
      let ts : sum_at s at ≡ c.terms = q.terms in
      let em : is_empty c.terms ≡ false = not_empty c.terms (terms_some n c l) in
      let law = terms_right n c l in
      let full : leb 512 k or ltb 6_000 (j + length c.terms) ≡ false = rw (lt-leb 512 k few, le-ltb 6_000 (j + length c.terms) small) (unfold ◌or◌ in refl) in
      rw (i, plain, obj, ts, em)
      (met_zero q.formed (passes_none n c.terms law.within) full
      (rw q.bound (le-ltb 1_000_000_000 (nat_abs c.bound) (bound_small n c l))) (terms_whole n c.terms law))

  objective_right : (ts : List Term) (k j at : ℕ) {end : ℕ} → 0 < length ts → Minimises s at ts → Ended s at end → LawfulTerms n ts → fault n s true k j at ≡ 0
  unfolding fault refuse objective_fault ◌and◌
  objective_right ts k j at some q e law =
      let i : leb (length s) (line_end s at) ≡ false = lt-leb _ _ e.inside in
      let plain = q.comment in
      let obj = q.objective in
      let t : terms_in s at ≡ ts = q.terms in
      let em : is_empty ts ≡ false = not_empty ts some in
      let formed : true and objective_formed s at ≡ true = q.formed in
      rw (i, plain, t, em, obj) (met_zero formed (passes_none n ts law.within) refl refl (terms_whole n ts law))

-- ---- the constraints from a place on

module _ (s : List ℕ) (n : ℕ) (v : variables_in s ≡ n) where
  abbrev done : ℕ → Reading Plan
  done k = cond (eqb k (constraints_in s)) (accepted (plan_of_text s)) (refused 32 0)

  pub record Rest (cs : List Line) (at : ℕ) : Type 0 where
    pub judged : (free : Bool) (k j : ℕ) → k + length cs ≤ 512 → j + sum_by (λ r. length r.terms) (concat (ruled cs)) ≤ 6_000
        → judging s free k j (lines_from s at) ≡ done (k + length cs)
    pub none : objective_of s (lines_from s at) ≡ []
    pub rules : map (λ i. rule_at s i ∷ []) (keep (is_constraint s) (lines_from s at)) ≡ ruled cs

  step : (c : Line) (cs : List Line) (at : ℕ) {end : ℕ} → rule_lawful n (line_rule c) ≡ true → Constrains s at c → Ended s at end → Rest cs (end + 1) → Rest (c ∷ cs) at
  unfolding judging objective_of keep is_constraint concat sum_by line_rule ◌and◌
  step c cs at {end} law q e more =
      let plain = q.comment in
      let obj = q.objective in
      let ts = q.terms in
      record {
        judged = λ free k j a b.
            let f : fault (variables_in s) s free k j at ≡ 0 = ap (λ m. fault m s free k j at) v ∙ constraint_right s n c free k j at q e law (omega (arith, a)) (omega (arith, b)) in
            rw (e.lines, f, plain, obj, ts) (more.judged false (k + 1) (j + length c.terms) (omega (arith, a)) (omega (arith, b)) ∙ ap done (let z : k + 1 + length cs ≡ k + suc (length cs) = omega arith in z));
        none = rw (e.lines, obj) more.none;
        rules = rw (e.lines, plain, obj) (ap₂ ◌∷◌ (ap (λ r. r ∷ []) q.rule) more.rules);
      }

  rest : (cs : List Line) (at : ℕ) → drop at s ≡ lines_text cs → all (clause_lawful n) (ruled cs) ≡ true → Rest cs at
  unfolding concat all
  rest [] at h l =
      let e = lines_none s at (at_end s at h) in
      record {
        judged = λ free k j a b. ap (judging s free k j) e ∙ last free k j;
        none = ap (objective_of s) e ∙ nothing;
        rules = ap (λ ls. map (λ i. rule_at s i ∷ []) (keep (is_constraint s) ls)) e ∙ kept_none;
      }
    where
      last : (free : Bool) (k j : ℕ) → judging s free k j [] ≡ done (k + 0)
      last free k j = unfold judging in ap done (sym (add-zero k))

      nothing : objective_of s [] ≡ []
      nothing = unfold objective_of in refl

      kept_none : map (λ i. rule_at s i ∷ []) (keep (is_constraint s) []) ≡ ruled []
      kept_none = unfold keep in refl
  rest (c ∷ cs) at h l =
      let law : rule_lawful n (line_rule c) ≡ true = and_left _ _ (clause_rules n (line_rule c ∷ []) (and_left _ _ l)) in
      let here : Here s at (spell_line c) (lines_text cs) = record { is = h } in
      let q = lawful_constrains s n c law here in
      let e = constraint_ended s c here in
      let next = at + length (body c) + 1 in
      let there : drop next s ≡ lines_text cs = ap (λ k. drop k s) (let z : next ≡ at + length (spell_line c) = omega (arith, line_length c) in z) ∙ past s here in
      let more = rest cs next there (and_right _ _ l) in
      step c cs at law q e more

-- ---- the whole text

-- What the lines behind the first say of the text's plan, and that none is at fault.
pub record Behind (s : List ℕ) (t : Text) (ats : List ℕ) : Type 0 where
  pub judged : judging s true 0 0 ats ≡ cond (eqb (length t.lines) (constraints_in s)) (accepted (plan_of_text s)) (refused 32 0)
  pub objective : objective_of s ats ≡ t.objective
  pub rules : map (λ i. rule_at s i ∷ []) (keep (is_constraint s) ats) ≡ ruled t.lines

module _ (s : List ℕ) (t : Text) (w : LawfulPlan (plan_of t)) (v : variables_in s ≡ t.variables) where
  clauses : all (clause_lawful t.variables) (ruled t.lines) ≡ true
  clauses = unfold plan_of in w.clauses

  few : length t.lines ≤ 512
  few = let h : length (ruled t.lines) ≤ 512 = unfold plan_of in w.clause_count in omega (arith, h, length-map t.lines (λ (c : Line). line_rule c ∷ []))

  small : sum_by (λ r. length r.terms) (concat (ruled t.lines)) ≤ 6_000
  small = unfold plan_of term_count rules_of in w.terms

  objective_step : (x : Term) (o : List Term) (at : ℕ) {end : ℕ} → t.objective ≡ x ∷ o → Minimises s at (x ∷ o) → Ended s at end → Rest s t.variables v t.lines (end + 1) → Behind s t (lines_from s at)
  unfolding judging objective_of keep is_constraint ◌and◌ plan_of
  objective_step x o at {end} e q l r =
      let law : LawfulTerms t.variables (x ∷ o) = rw e at w.objective in
      let f : fault (variables_in s) s true 0 0 at ≡ 0 = ap (λ m. fault m s true 0 0 at) v ∙ objective_right s t.variables (x ∷ o) 0 0 at (omega arith) q l law in
      let plain = q.comment in
      let obj = q.objective in
      record {
        judged =
            rw (l.lines, f, plain, obj)
            (r.judged false 0 0 (omega (arith, few)) (omega (arith, small)) ∙ ap (λ k. cond (eqb k (constraints_in s)) (accepted (plan_of_text s)) (refused 32 0)) (let z : 0 + length t.lines ≡ length t.lines = omega arith in z));
        objective = rw (l.lines, obj) (q.terms ∙ sym e);
        rules = rw (l.lines, plain, obj) r.rules;
      }

  behind : (at : ℕ) → drop at s ≡ spell_objective t.objective ++ lines_text t.lines → Behind s t (lines_from s at)
  behind at h = go t.objective refl h
    where
      go : (o : List Term) → t.objective ≡ o → drop at s ≡ spell_objective o ++ lines_text t.lines → Behind s t (lines_from s at)
      go [] e a =
          let r = rest s t.variables v t.lines at (unfold spell_objective in a) clauses in
          record {
            judged = r.judged true 0 0 (omega (arith, few)) (omega (arith, small)) ∙ ap (λ k. cond (eqb k (constraints_in s)) (accepted (plan_of_text s)) (refused 32 0)) (let z : 0 + length t.lines ≡ length t.lines = omega arith in z);
            objective = r.none ∙ sym e;
            rules = r.rules;
          }
      go (x ∷ o) e a =
          let here : Here s at (spell_objective (x ∷ o)) (lines_text t.lines) = record { is = a } in
          let q = minimises s x o here in
          let l = objective_ended s x o here in
          let next = at + length (objective_body (x ∷ o)) + 1 in
          let there : drop next s ≡ lines_text t.lines = ap (λ k. drop k s) (let z : next ≡ at + length (spell_objective (x ∷ o)) = omega (arith, objective_length x o) in z) ∙ past s here in
          let r = rest s t.variables v t.lines next there clauses in
          objective_step x o at e q l r

finish : (t : Text) (s : List ℕ) {ats : List ℕ} → 1 ≤ (plan_of t).variables → (plan_of t).variables ≤ 512 → first_formed s ≡ true → variables_in s ≡ t.variables → constraints_in s ≡ length t.lines
    → lines_of s ≡ ats → Behind s t ats → read_text s ≡ accepted (plan_of t)
unfolding read_text plan_of ◌and◌ plan_of_text
finish t s {ats} low high f v m e b =
    rw (f, v, le-leb 1 t.variables low, le-leb t.variables 512 high, e)
    (b.judged ∙ rw (m, eq-eqb (length t.lines) (length t.lines) refl, v, e, b.objective, b.rules))

-- A text whose plan is within our limits is read, as it is spelled, as that plan.
pub read_spell : ReadSpell
unfolding spell
read_spell t limits =
    let w = plan_parts (plan_of t) limits in
    let n = t.variables in
    let m = length t.lines in
    let r = spell_objective t.objective ++ lines_text t.lines in
    let s = spell_first n m ++ r in
    let first = first_says s n m r refl in
    let whole : Here s 0 (first_body n m) (10 ∷ r) = record { is = first_body_lem n m r } in
    let l = ended s (inside_first n m) whole in
    let feed : Here s (0 + length (first_body n m)) (10 ∷ []) r = record { is = past s whole } in
    let b = behind s t w first.variables (0 + length (first_body n m) + 1) (past s feed) in
    finish t s w.low w.high first.formed first.variables first.constraints l.behind b

-- "one of single-rule clauses that does not, read again, has the same solutions"
pub read_again : ReadAgain
read_again p right singles limits = (
  plan_of (tau p),
  read_spell (tau p) limits,
  unfold plan_of tau in ap (λ k. p.variables + k) (no_atoms p.clauses singles) ∙ add-zero p.variables,
  unfold plan_of tau in refl,
  λ a size. same_solutions p right singles a size,
)
