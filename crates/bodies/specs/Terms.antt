-- A field's terms judged one after the other.
-- Assumes nothing.
use Rattle.std.specs.Prelude.{ℕ, Bool, List, leb, ltb}
use Rattle.plpb.specs.Lists.{◌and◌, all}
use Rattle.plpb.specs.Plan.{Term, rising_above}
use Rattle.format.specs.Limits.{weight_lawful}

-- "a term's variable outside 1 to n or not above the one before" (v), "or a coefficient 0 or outside ±1,000,000"
unfoldable pub term_lawful : ℕ → ℕ → Term → Bool
term_lawful n v t = ltb v t.variable and (leb t.variable n and weight_lawful t.weight)

-- Terms whose numbers rise from above v.
unfoldable pub lawful_above : ℕ → ℕ → List Term → Bool
lawful_above n v ts = rising_above v ts and all (λ t. leb t.variable n and weight_lawful t.weight) ts
