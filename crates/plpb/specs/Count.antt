-- How a count is given out. Document 01, "Rules and clauses": "the true number or 4,294,967,295, whichever is smaller"; document 02, T-08: "A count of
-- 4,294,967,295 may be true or cut. A binomial now also says whether it was cut, and so do the sums, products, e, f, g and both counts above it."
-- Assumes nothing.
use Rattle.std.specs.Prelude.{ℕ, suc, ◌+◌, ◌*◌, min, Bool, cond, ltb}
use Rattle.plpb.specs.Plan.{Plan, Assignment}
use Rattle.plpb.specs.Expansion.{break_count, make_count}

unfoldable pub cap : ℕ
cap = 4_294_967_295

pub record Count : Type 0 where
  pub value : ℕ
  pub cut : Bool

-- What is given out of a number: cut exactly where it is above the cap.
unfoldable pub given : ℕ → Count
given n = record { value = min n cap; cut = ltb cap n }

-- "A cut count is greater than any uncut one; two cut ones are equal": where a count stands among counts.
unfoldable pub rank : Count → ℕ
rank c = cond c.cut (suc cap) c.value

-- Where the count of a number stands.
unfoldable pub capped : ℕ → ℕ
capped n = min n (suc cap)

-- "and so do the sums, products": of two counts, where nothing else is known of the numbers behind them.
unfoldable pub sum : Count → Count → Count
sum c d = given (rank c + rank d)

unfoldable pub product : Count → Count → Count
product c d = given (rank c * rank d)

unfoldable pub capped_break : Plan → Assignment → ℕ → ℕ
capped_break p a x = capped (break_count p a x)

unfoldable pub capped_make : Plan → Assignment → ℕ → ℕ
capped_make p a x = capped (make_count p a x)
