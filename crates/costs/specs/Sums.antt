-- What the table of coefficients says of a cost and of l(O), variable by variable.
-- Assumes nothing.
use Rattle.std.specs.Prelude.{ℕ, zero, suc, ◌+◌, ◌≤◌, ◌<◌, cond, List, [], ◌∷◌, eqb, ℤ, pos, nat_abs, ◌+ℤ◌, length, get_or}
use Rattle.plpb.specs.Plan.{Term, Assignment, total, negative_part}
use Rattle.words.specs.Words.{word_at, signed}
use Rattle.format.specs.Limits.{max_variables, max_weight}
use Rattle.format.specs.Tables.{objective_of}
use Rattle.format.specs.Layout.{table_size, locks_at, lock_at}

-- What an assignment costs, and l(O), by the objective read back from the table.
unfoldable pub cost_in : List ℕ → Assignment → ℤ
cost_in tables a = total a (objective_of (word_at tables))

-- What a coefficient counts in l(O), by the word of its variable's lock: 0 for free, 1 for locked at 0, 2 for locked at 1.
unfoldable pub least_by : ℕ → ℤ → ℤ
least_by lock w = cond (eqb lock 0) (negative_part w) (cond (eqb lock 1) (pos 0) w)

unfoldable pub least_in : List ℕ → List Term → ℤ
least_in tables [] = pos 0
least_in tables (t ∷ ts) = least_by (word_at tables (lock_at t.variable)) t.weight +ℤ least_in tables ts

unfoldable pub floor_in : List ℕ → ℤ
floor_in tables = least_in tables (objective_of (word_at tables))

-- The coefficient of variable i + 1; what that variable costs; what it costs at least.
unfoldable pub weight_at : List ℕ → ℕ → ℤ
weight_at tables i = signed (word_at tables (4 + i))

unfoldable pub share_at : List ℕ → List ℕ → ℕ → ℤ
share_at tables bytes i = cond (eqb (get_or bytes i 0) 1) (weight_at tables i) (pos 0)

unfoldable pub least_at : List ℕ → ℕ → ℤ
least_at tables i = least_by (word_at tables (locks_at + i)) (weight_at tables i)

-- g i + g (i + 1) + .., k numbers in all.
unfoldable pub sum_from : (ℕ → ℤ) → ℕ → ℕ → ℤ
sum_from g i zero = pos 0
sum_from g i (suc k) = g i +ℤ sum_from g (suc i) k

-- A table with room for its sections, with coefficients within their range: so the sums fit 64 bits.
pub record Summable (tables : List ℕ) : Type 0 where
  pub high : word_at tables 0 ≤ max_variables
  pub room : table_size ≤ length tables
  pub small : (i : ℕ) → i < word_at tables 0 → nat_abs (weight_at tables i) ≤ max_weight
