-- The lists of the variables that may be chosen of each clause, as they are made: variable after variable, along each one's run.
-- Assumes nothing.
use Rattle.std.specs.Prelude.{ℕ, ◌-◌, ◌≤◌, ◌<◌, ◌≡◌, Bool, not, cond, List, [], ◌∷◌, ◌++◌, eqb, length, get_or, take}
use Rattle.plpb.specs.Lists.{◌and◌, any, keep, row}
use Rattle.plpb.specs.Plan.{Plan, is_locked, names}
use Rattle.words.specs.Words.{word_at}
use Rattle.order.specs.Order.{occurrences}
use Rattle.columns.specs.Layout.{column_size, list_at, list_count_at}
use Rattle.columns.specs.Columns.{terms_ahead, words_from}

-- Clause d has one of the first i entries of the run of x.
unfoldable pub reached_by : Plan → ℕ → ℕ → ℕ → Bool
reached_by p x i d = any (λ q. eqb q.clause d) (take i (occurrences p x))

-- The list of clause d: the variables below x, and x once one of the first i entries of its run is the clause's.
unfoldable pub list_to : Plan → ℕ → ℕ → ℕ → List ℕ
list_to p x i d =
    keep (λ y. names (get_or p.clauses d []) y and not (is_locked p y)) (row 1 (x - 1)) ++ cond (reached_by p x i d) (x ∷ []) []

-- The words say how long a clause's list is, and which it is.
pub record ListOf (p : Plan) (xs : List ℕ) (f : ℕ → ℕ) (d : ℕ) : Type 0 where
  pub counted : f (list_count_at d) ≡ length xs
  pub listed : words_from f (list_at (terms_ahead p d)) (length xs) ≡ xs

pub record Listing (p : Plan) (x i : ℕ) (t : List ℕ) : Type 0 where
  pub room : column_size ≤ length t
  pub each : (d : ℕ) → d < length p.clauses → ListOf p (list_to p x i d) (word_at t) d
