-- Clauses in the tables, and what writing their lines needs.
-- Assumes nothing.
use Rattle.std.specs.Prelude.{ℕ, zero, suc, ◌+◌, ◌*◌, ◌≤◌, ◌<◌, cond, List, [], ◌∷◌, map, eqb, pos, length}
use Rattle.plpb.specs.Lists.{row, sum_by}
use Rattle.plpb.specs.Plan.{Term, Clause}
use Rattle.words.specs.Words.{word_at}
use Rattle.format.specs.Layout.{clause_first_at, clause_count_at}
use Rattle.format.specs.Tables.{rule_of, clause_of}
use Rattle.opb.specs.Tau.{weighted, new_atoms}
use Rattle.rulelines.specs.Rules.{RuleFits}

-- The sum of (15) and the new variables, by how many rules a clause has.
unfoldable pub atom_terms : ℕ → ℕ → List Term
atom_terms k zero = []
atom_terms k (suc n) = weighted (pos 1) (k + 3) ∷ atom_terms (k + 3) n

unfoldable pub atom_count : ℕ → ℕ
atom_count n = cond (eqb n 1) 0 (3 * n)

-- k rules of the tables, the first of them rule i.
unfoldable pub rules_in : (ℕ → ℕ) → (ℕ → ℕ) → ℕ → ℕ → Clause
rules_in f g i k = map (rule_of f g) (row i k)

-- Rules from `first` on, `count` in number, stand in the tables; so many new variables more are few.
pub record RulesFit (tables terms : List ℕ) (first count k : ℕ) : Type 0 where
  pub each : (i : ℕ) → i < count → RuleFits tables terms (first + i)
  pub few : first + count ≤ 1_024
  pub low : k + 3 * count < 4_294_967_296

-- k clauses of the tables, the first of them clause c.
unfoldable pub clauses_in : (ℕ → ℕ) → (ℕ → ℕ) → ℕ → ℕ → List Clause
clauses_in f g c k = map (clause_of f g) (row c k)

-- Clause c stands in the tables.
pub record ClauseFits (tables terms : List ℕ) (c k : ℕ) : Type 0 where
  pub entry : 4 * clause_first_at c + 8 ≤ length tables
  pub rules : RulesFit tables terms (word_at tables (clause_first_at c)) (word_at tables (clause_count_at c)) k

-- The clauses of the tables stand there. With their new variables there are few variables.
pub record ClausesFit (tables terms : List ℕ) : Type 0 where
  pub entries : 4 * clause_first_at (word_at tables 1) ≤ length tables
  pub rules : (c k : ℕ) → c < word_at tables 1 → k ≤ 100_000 → RulesFit tables terms (word_at tables (clause_first_at c)) (word_at tables (clause_count_at c)) k
  pub few : word_at tables 0 + sum_by new_atoms (clauses_in (word_at tables) (word_at terms) 0 (word_at tables 1)) ≤ 100_000
