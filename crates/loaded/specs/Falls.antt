-- How often the variables of all terms fall, and how often where a rule begins; and a rule's bounds.
-- Assumes nothing.
use Rattle.std.specs.Prelude.{ℕ, zero, suc, ◌+◌, ◌*◌, ◌-◌, Bool, cond, leb}
use Rattle.words.specs.Words.{signed}
use Rattle.format.specs.File.{bounds_lawful}
use Rattle.format.specs.Layout.{rule_lower_at, rule_mode_at, rule_upper_at}

-- Of k terms from term i on, how many have a variable that is not above the one before; the one before the first is v.
unfoldable pub falls : (ℕ → ℕ) → ℕ → ℕ → ℕ → ℕ
falls g v i zero = 0
falls g v i (suc k) = cond (leb (g (2 * i)) v) 1 0 + falls g (g (2 * i)) (suc i) k

-- Of the first terms of m rules from rule r on, which begins with term i.
unfoldable pub starts : (ℕ → ℕ) → (ℕ → ℕ) → ℕ → ℕ → ℕ → ℕ → ℕ
starts g count v i r zero = 0
starts g count v i r (suc m) = cond (leb (g (2 * i)) v) 1 0 + starts g count (g (2 * (i + count r - 1))) (i + count r) (suc r) m

-- A rule's mode and bounds are lawful.
unfoldable pub bounds_of : (ℕ → ℕ) → ℕ → Bool
bounds_of f r = bounds_lawful (f (rule_mode_at r)) (signed (f (rule_lower_at r))) (signed (f (rule_upper_at r)))
