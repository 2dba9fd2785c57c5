-- How Novelty+ ranks variables (document 02, T-09; Hoos, 1999).
-- Assumes nothing.
use Rattle.std.specs.Prelude.{ℕ, suc, max, Bool, not, cond, List, [], ◌∷◌, ltb, eqb, ℤ, pos, ◌-ℤ◌, length}
use Rattle.std.specs.Int.Signed.{lt_z}
use Rattle.plpb.specs.Lists.{◌and◌, ◌or◌}
use Rattle.plpb.specs.Plan.{Plan, Assignment}
use Rattle.plpb.specs.Expansion.{break_count, make_count}
use Rattle.plpb.specs.Count.{given}

-- "make minus break, where a cut count stands as 4,294,967,295"
unfoldable pub score : Plan → Assignment → ℕ → ℤ
score p a x = pos (given (make_count p a x)).value -ℤ pos (given (break_count p a x)).value

-- The number of a variable's last flip among the flips of a try, the last of which stands first: from 1 on, and 0 where there is none.
unfoldable pub last_flip : List ℕ → ℕ → ℕ
last_flip [] x = 0
last_flip (y ∷ earlier) x = cond (eqb y x) (suc (length earlier)) (last_flip earlier x)

-- "equals by longest unflipped in this try (never flipped first), then by number": whether x comes before y, by the numbers of their last flips.
unfoldable pub is_older : (ℕ → ℕ) → ℕ → ℕ → Bool
is_older last x y = ltb (last x) (last y) or (eqb (last x) (last y) and ltb x y)

-- The variables are ranked under an assignment, and `last` says of each the number of its last flip in this try.
module _ (p : Plan) (a : Assignment) (last : ℕ → ℕ) where
  -- "rank them by make minus break [..], highest first", equals as above: whether x comes before y.
  unfoldable pub ranks_before : ℕ → ℕ → Bool
  ranks_before x y =
      let higher = lt_z (score p a y) (score p a x) in
      let lower = lt_z (score p a x) (score p a y) in
      higher or (not lower and is_older last x y)

  -- A variable put among ranked ones.
  unfoldable pub placed : ℕ → List ℕ → List ℕ
  placed x [] = x ∷ []
  placed x (y ∷ ys) = cond (ranks_before y x) (y ∷ placed x ys) (x ∷ y ∷ ys)

  unfoldable pub ranked : List ℕ → List ℕ
  ranked [] = []
  ranked (x ∷ xs) = placed x (ranked xs)

-- The number of the last flip in this try among some variables, 0 where none of them was flipped.
unfoldable pub latest : (ℕ → ℕ) → List ℕ → ℕ
latest last [] = 0
latest last (x ∷ xs) = max (last x) (latest last xs)

-- "the one most recently flipped in this try among them"
unfoldable pub is_newest : (ℕ → ℕ) → List ℕ → ℕ → Bool
is_newest last xs x = ltb 0 (latest last xs) and eqb (last x) (latest last xs)
