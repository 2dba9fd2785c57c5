-- A flip through a variable's occurrences: each moves the tallies of its rule and of its clause, and nothing else is visited.
-- Assumes nothing.
use Rattle.std.specs.Prelude.{ℕ, suc, ◌+◌, ◌-◌, Bool, true, false, cond, List, [], ◌∷◌, eqb, length, get_or, set}
use Rattle.plpb.specs.Lists.{◌and◌, count}
use Rattle.plpb.specs.Plan.{Rule, Clause, Plan, Assignment, rule_holds}
use Rattle.plpb.specs.Normal.{literal, literal_true, size, K, P, size_a, size_b, below_size}
use Rattle.plpb.specs.Tallies.{Tallies, rules_of}
use Rattle.order.specs.Order.{Place, rule_at, term_at}

-- Whether a rule holds, told from its P: N = K − P is below A, and P is below B.
unfoldable pub holds_by : Rule → ℕ → Bool
holds_by q n = below_size (K q.terms - n) (size_a q) and below_size n (size_b q)

-- P after the flip of a literal of weight w: a true one takes its weight away, a false one brings it.
unfoldable pub moved : Bool → ℕ → ℕ → ℕ
moved true w n = n - w
moved false w n = n + w

-- One less where the first test is met, one more where the second is.
unfoldable pub exchanged : Bool → Bool → ℕ → ℕ
exchanged gone come n = n + cond come 1 0 - cond gone 1 0

-- One occurrence: P of its rule, whether that held and holds, how many rules of its clause hold, whether that was 0 and is.
unfoldable pub passed : Plan → Assignment → Tallies → Place → Tallies
passed p a s q =
    let r = rule_at p q.rule in
    let before = get_or s.true_weights q.rule 0 in
    let after = moved (literal_true a (literal (term_at p q))) (size (term_at p q)) before in
    let held = get_or s.rules_holding q.clause 0 in
    let holding = exchanged (holds_by r before) (holds_by r after) held in
    record {
      true_weights = set s.true_weights q.rule after;
      rules_holding = set s.rules_holding q.clause holding;
      clauses_unsatisfied = exchanged (eqb held 0) (eqb holding 0) s.clauses_unsatisfied;
    }

-- One after another.
unfoldable pub along : Plan → Assignment → Tallies → List Place → Tallies
along p a s [] = s
along p a s (q ∷ qs) = along p a (passed p a s q) qs

-- The mixed count: the tallies where each rule is counted under an assignment of its own, rule r under v r.
unfoldable pub weights_by : (ℕ → Assignment) → ℕ → List Rule → List ℕ
weights_by v r [] = []
weights_by v r (q ∷ qs) = P (v r) q.terms ∷ weights_by v (suc r) qs

unfoldable pub held_by : (ℕ → Assignment) → ℕ → List Rule → ℕ
held_by v r [] = 0
held_by v r (q ∷ qs) = cond (rule_holds (v r) q) 1 0 + held_by v (suc r) qs

unfoldable pub holding_by : (ℕ → Assignment) → ℕ → List Clause → List ℕ
holding_by v r [] = []
holding_by v r (k ∷ ks) = held_by v r k ∷ holding_by v (r + length k) ks

unfoldable pub mixed_count : Plan → (ℕ → Assignment) → Tallies
mixed_count p v = record {
  true_weights = weights_by v 0 (rules_of p);
  rules_holding = holding_by v 0 p.clauses;
  clauses_unsatisfied = count (λ n. eqb n 0) (holding_by v 0 p.clauses);
}

-- The rules of some places come under b, the others stay.
unfoldable pub under : Assignment → List Place → (ℕ → Assignment) → ℕ → Assignment
under b [] v r = v r
under b (q ∷ qs) v r = under b qs (λ i. cond (eqb i q.rule) b (v i)) r
