-- The tables of a lawful plan are good: each part of the test says of the words what is lawful in the plan.
use Prim.Native.Nat.{ℕ, suc, ◌+◌, ◌*◌}
use mathlib.Core.Path.{◌≡◌, refl, sym, ap, ◌∙◌}
use mathlib.Core.Bool.{true}
use mathlib.Core.List.{List, [], ◌∷◌, map}
use native.Mathlib.Nat.{zero-add}
use native.Mathlib.Omega.{arith}
use lib.ListN.{length, length-append}
use Rattle.plpb.specs.Lists.{all, concat}
use Rattle.plpb.specs.Plan.{Rule, Clause, Plan, lock_of, rising}
use Rattle.plpb.specs.Tallies.{rules_of}
use Rattle.words.specs.Words.{unsigned}
use Rattle.words.proofs.Words.{signed_unsigned}
use Rattle.format.specs.Limits.{rule_lawful}
use Rattle.format.specs.Writer.{bound_number}
use Rattle.format.specs.Tables.{clause_entries, rule_entries, all_terms, lock_word, term_of}
use Rattle.format.proofs.Bools.{and_left, and_right, and_join}
use Rattle.format.proofs.Bounds.{bounds_tested, bounds_written}
use Rattle.format.proofs.Lawful.{LawfulRule, rule_parts, clause_lawful, clause_some, LawfulPlan, room_for}
use Rattle.format.specs.Good.{every_from, chain_from, rule_good}
use Rattle.format.proofs.Good.{every_at}
use Rattle.format.proofs.Spells.{Spells, spells_left, spells_right, spells_map}
use Rattle.format.proofs.Sections.{Sections, length_all_terms}
use Rattle.format.proofs.Naming.{rules_lawful}
use Rattle.format.proofs.WordBounds.{coefficient_small, lock_word_small}
use Rattle.format.proofs.Objective.{coefficient_above}
use Rattle.format.proofs.Locks.{free_beyond}
use Rattle.format.proofs.Entries.{Entry, entry_here, entries_behind}
use Rattle.format.proofs.ReadBack.{terms_spelt, cost_back}
use Rattle.format.proofs.Chains.{chain_join, chain_close}
use Rattle.format.proofs.Sound.{Sound, terms_good}
use Rattle.format.specs.Layout.{clause_count_at, clause_first_at, clauses_at, rule_count_at, rule_first_at}

clause_chain_lem :
    (f : ℕ → ℕ) (n e at i : ℕ) (cs : List Clause) → Spells f (clause_first_at i) (clause_entries at cs) → all (clause_lawful n) cs ≡ true
    → at + length (concat cs) ≡ e → chain_from (λ c. f (clause_first_at c)) (λ c. f (clause_count_at c)) e at i (length cs) ≡ true
unfolding Spells clause_entries all concat
clause_chain_lem f n e at i [] s l m = chain_close _ _ e at i (omega arith)
clause_chain_lem f n e at i (c ∷ cs) s l m =
    let a : suc (clause_first_at i) ≡ clause_count_at i = omega arith in
    let b : suc (suc (clause_first_at i)) ≡ clauses_at + 2 * suc i = omega arith in
    let count : f (clause_count_at i) ≡ length c = rw a at s.1.0 in
    let some = clause_some n c (and_left _ _ l) in
    let whole = length-append c (concat cs) in
    chain_join _ _ e at i (length cs) (record { start = s.0; some = omega arith; fits = omega arith })
    (rw count (clause_chain_lem f n e (at + length c) (suc i) cs (rw b at s.1.1) (and_right _ _ l) (omega arith)))

rule_chain_lem :
    (f : ℕ → ℕ) (n e at i : ℕ) (rs : List Rule) → Spells f (rule_first_at i) (rule_entries at rs) → all (rule_lawful n) rs ≡ true
    → at + length (concat (map (λ r. r.terms) rs)) ≡ e
    → chain_from (λ r. f (rule_first_at r)) (λ r. f (rule_count_at r)) e at i (length rs) ≡ true
unfolding all concat
rule_chain_lem f n e at i [] s l m = chain_close _ _ e at i (omega arith)
rule_chain_lem f n e at i (r ∷ rs) s l m =
    let h = entry_here f i at r rs s in
    let some = (rule_parts n r (and_left _ _ l)).some in
    let whole = length-append r.terms (concat (map (λ r. r.terms) rs)) in
    chain_join _ _ e at i (length rs) (record { start = h.start; some = omega (arith, h.count); fits = omega (arith, h.count) })
    (rw h.count (rule_chain_lem f n e (at + length r.terms) (suc i) rs (entries_behind f i at r rs s) (and_right _ _ l) (omega arith)))

rule_good_lem :
    (f g : ℕ → ℕ) (n i first : ℕ) (r : Rule) → f 0 ≡ n → Entry f i first r → LawfulRule n r → Spells (term_of g) first r.terms
    → rule_good f g i ≡ true
unfolding rule_good rising
rule_good_lem f g n i first r z e l s =
    let t = bounds_tested _ _ _ (bounds_written _ _ l.both) in
    let a = signed_unsigned (bound_number r.lower) (omega (arith, t.lower)) in
    let b = signed_unsigned (bound_number r.upper) (omega (arith, t.upper)) in
    let same = spells_map (term_of g) first r.terms s in
    and_join _ _ (rw (e.mode_word, e.lower, e.upper, a, b) (bounds_written r.lower r.upper l.both))
    (rw (z, e.start, e.count) (terms_good g n 0 first (length r.terms) (rw same l.terms.rise) (rw same l.terms.within)))

rules_good_lem :
    (f g : ℕ → ℕ) (n i first : ℕ) (rs : List Rule) → f 0 ≡ n → Spells f (rule_first_at i) (rule_entries first rs) → all (rule_lawful n) rs ≡ true
    → Spells (term_of g) first (concat (map (λ r. r.terms) rs)) → every_from (rule_good f g) i (length rs) ≡ true
unfolding every_from all concat
rules_good_lem f g n i first [] z s l t = refl
rules_good_lem f g n i first (r ∷ rs) z s l t =
    and_join _ _
    (rule_good_lem f g n i first r z (entry_here f i first r rs s) (rule_parts n r (and_left _ _ l)) (spells_left (term_of g) first r.terms _ t))
    (rules_good_lem f g n (suc i) (first + length r.terms) rs z (entries_behind f i first r rs s) (and_right _ _ l) (spells_right (term_of g) first r.terms _ t))

pub sections_sound : (p : Plan) → LawfulPlan p → (f g : ℕ → ℕ) → Sections p f g → Sound f g
unfolding rules_of all_terms unsigned lock_word
sections_sound p l f g s =
    let n = p.variables in
    let rs = rules_lawful n p.clauses l.clauses in
    let every = rules_good_lem f g n 0 0 (rules_of p) s.variables s.rule_entry rs (terms_spelt p (room_for p l) f g s) in
    record {
      some = omega (arith, s.variables, l.low);
      variables = omega (arith, s.variables, l.high);
      clauses = omega (arith, s.clause_count, l.clause_count);
      rules = omega (arith, s.rule_count, l.rule_count);
      terms = omega (arith, s.terms, l.terms);
      cost = λ x a b. rw (cost_back p (room_for p l) f g s x a (omega (arith, s.variables, l.high))) (coefficient_small n p.objective x l.objective.within);
      cost_rest = λ x a b. s.objective x (omega arith) b ∙ rw (coefficient_above n x p.objective l.objective.within (omega (arith, s.variables)));
      lock = λ x a b. rw (s.lock x a (omega (arith, s.variables, l.high))) (lock_word_small (lock_of p x));
      lock_rest = λ x a b. s.lock x (omega arith) b ∙ ap lock_word (free_beyond p x (omega (arith, s.variables)));
      clause_chain = rw s.clause_count (clause_chain_lem f n (f 2) 0 0 p.clauses s.clause_entry l.clauses (zero-add _ ∙ sym s.rule_count));
      clause_rest = s.clause_rest;
      rule_chain = rw s.rule_count (rule_chain_lem f n (f 3) 0 0 (rules_of p) s.rule_entry rs (zero-add _ ∙ length_all_terms p ∙ sym s.terms));
      rule_rest = s.rule_rest;
      rule = λ r a. every_at (rule_good f g) 0 (length (rules_of p)) every r (omega arith) (omega (arith, s.rule_count));
      term_rest = s.term_rest;
    }
