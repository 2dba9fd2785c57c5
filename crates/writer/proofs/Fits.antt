-- Loaded tables are fit to be written.
-- Assumes nothing.
use Prim.Native.Nat.{ℕ, suc, ◌+◌, ◌*◌, ◌≤◌, ◌<◌, zero-le}
use native.Mathlib.Omega.{arith}
use mathlib.Core.Path.{◌≡◌, refl}
use mathlib.Core.Bool.{Bool, true, false, cond}
use mathlib.Core.List.{List, [], ◌∷◌, map}
use lib.Dec.{T, eqb}
use lib.ListN.{length, length-append}
use Rattle.plpb.specs.Lists.{all, concat, sum_by, row}
use Rattle.plpb.specs.Plan.{Term, Clause, Plan, rising, rising_above}
use Rattle.plpb.specs.Tallies.{rules_of}
use Rattle.words.specs.Words.{word_at}
use Rattle.format.specs.Limits.{weight_lawful, lawful, term_within}
use Rattle.format.specs.Layout.{table_size, term_size, clause_first_at, clause_count_at, rule_first_at, rule_count_at}
use Rattle.format.specs.Tables.{term_of, rule_of, plan_in, plan_of_tables, is_loaded}
use Rattle.format.proofs.Bools.{and_left, and_right, and_join}
use Rattle.format.proofs.Bounds.{bounds_tested}
use Rattle.format.proofs.Lawful.{terms_short, plan_parts, room_for}
use Rattle.format.proofs.Lists.{length_spread}
use Rattle.format.proofs.IsLoaded.{is_loaded_lawful, is_loaded_holds}
use Rattle.format.proofs.ReadBack.{holds_sections}
use Rattle.format.proofs.PlanGood.{sections_sound}
use Rattle.format.proofs.Sound.{Sound, clause_within, rule_within, rule_bounds, rule_sound}
use Rattle.opb.specs.Tau.{is_single, new_atoms}
use Rattle.extremes.specs.Terms.{terms_in}
use Rattle.rulelines.specs.Rules.{RuleFits}
use Rattle.clauselines.specs.Clauses.{clauses_in, RulesFit}
use Rattle.opbtext.specs.Whole.{WholeFits}

pub weights_lawful : (n : ℕ) (ts : List Term) → all (term_within n) ts ≡ true → all (λ t. weight_lawful t.weight) ts ≡ true
unfolding all term_within
weights_lawful n [] h = refl
weights_lawful n (t ∷ ts) h = and_join _ _ (and_right _ _ (and_left _ _ h)) (weights_lawful n ts (and_right _ _ h))

unrise : (ts : List Term) → rising ts ≡ true → rising_above 0 ts ≡ true
unfolding rising
unrise ts h = h

pub atoms_few : (c : Clause) → new_atoms c ≤ 3 * length c
unfolding new_atoms is_single
atoms_few c = by (eqb (length c) 1)
  where
    by : (b : Bool) → cond b 0 (3 * length c) ≤ 3 * length c
    by true = zero-le
    by false = omega arith

pub all_atoms_few : (cs : List Clause) → sum_by new_atoms cs ≤ 3 * length (concat cs)
unfolding sum_by concat
all_atoms_few [] = zero-le
all_atoms_few (c ∷ cs) = omega (arith, atoms_few c, all_atoms_few cs, length-append c (concat cs))

module _ (tables terms : List ℕ) (size : table_size ≤ length tables) (term_room : term_size ≤ length terms) (t : T (is_loaded tables terms)) where
  abbrev f : ℕ → ℕ
  f = word_at tables

  abbrev g : ℕ → ℕ
  g = word_at terms

  abbrev p : Plan
  p = plan_of_tables tables terms

  pub plan_lawful : T (lawful p)
  plan_lawful = is_loaded_lawful tables terms t

  sound : Sound f g
  sound =
      let l = plan_parts p plan_lawful in
      sections_sound p l f g (holds_sections p (room_for p l) tables terms (is_loaded_holds tables terms t))

  rule_fits : (r : ℕ) → r < f 2 → RuleFits tables terms r
  unfolding terms_in rule_of
  rule_fits r h =
      let lawfulRule = rule_sound f g sound r h in
      let b = bounds_tested _ _ _ (rule_bounds f g sound r h) in
      let count : length (map (term_of g) (row (f (rule_first_at r)) (f (rule_count_at r)))) ≡ f (rule_count_at r) = length_spread (term_of g) (f (rule_first_at r)) (f (rule_count_at r)) in
      record {
        entry = omega (arith, size, h, sound.rules);
        body = record {
          inside = omega (arith, term_room, rule_within f g sound r h, sound.terms);
          few = omega (arith, count, sound.variables, terms_short (f 0) 0 (rule_of f g r).terms (unrise (rule_of f g r).terms lawfulRule.terms.rise) lawfulRule.terms.within zero-le);
          small = weights_lawful (f 0) (rule_of f g r).terms lawfulRule.terms.within;
        };
        lower = b.lower;
        upper = b.upper;
      }

  rules_fit_lem : (c k : ℕ) → c < f 1 → k ≤ 100_000 → RulesFit tables terms (f (clause_first_at c)) (f (clause_count_at c)) k
  rules_fit_lem c k h l =
      let w = clause_within f g sound c h in
      record {
        each = λ i m. rule_fits (f (clause_first_at c) + i) (omega (arith, w, m));
        few = omega (arith, w, sound.rules);
        low = omega (arith, w, sound.rules, l);
      }

  few_atoms : f 0 + sum_by new_atoms (clauses_in f g 0 (f 1)) ≤ 100_000
  unfolding clauses_in plan_of_tables plan_in rules_of
  few_atoms =
      let l = plan_parts p plan_lawful in
      omega (arith, sound.variables, all_atoms_few (clauses_in f g 0 (f 1)), l.rule_count)

  pub loaded_fits : WholeFits tables terms
  loaded_fits =
      record {
        locks = record {
          size = size;
          few = sound.variables;
          locks = λ x h. sound.lock (suc x) (omega arith) (omega (arith, h));
        };
        counts = record {
          entries = omega (arith, size, sound.clauses);
          variables = sound.variables;
          clauses = sound.clauses;
          rules = λ c h. omega (arith, clause_within f g sound c h, sound.rules);
          room = omega (arith, size);
        };
        clauses = record {
          entries = omega (arith, size, sound.clauses);
          rules = rules_fit_lem;
          few = few_atoms;
        };
      }
