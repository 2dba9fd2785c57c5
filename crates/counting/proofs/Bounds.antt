-- What holds where a bound is absent, and of each size that is present, holds of the bound.
-- Assumes nothing.
use Rattle.std.specs.Prelude.{Option, Some, None}
use Rattle.std.specs.Option.{MatchOption}

pub by_bound : {A : Type 0} {P : Type 0} {Q : A → Type 0} (R : Option A → Type 0) (b : Option A) → MatchOption b P Q → (P → R None) → ((k : A) → Q k → R (Some k)) → R b
by_bound R None h none some = none h
by_bound R (Some k) h none some = some k h
