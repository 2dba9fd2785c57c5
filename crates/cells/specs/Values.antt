-- A value gathered byte by byte into a few numbers, as the code holds it.
-- Assumes nothing.
use Rattle.std.specs.Prelude.{ℕ, ◌+◌, ◌*◌, ◌%◌, Bool, cond, List, [], ◌∷◌, Option, None, Some, leb, ltb, eqb}
use Rattle.plpb.specs.Lists.{◌and◌}
use Rattle.cells.specs.declared.value.Value.{Value}

-- No byte yet.
abbrev pub no_bytes : Value
no_bytes = record { length = 0; low = 0; high = 0; number = Some 0 }

-- More than 16 bytes: all such values are alike.
abbrev pub too_long : Value
too_long = record { length = 17; low = 0; high = 0; number = None }

-- A number to the base 256 with one byte more.
abbrev pub with_byte : ℕ → ℕ → ℕ
with_byte n b = n % 72_057_594_037_927_936 * 256 + b

-- The characters 0 to 9 are 48 to 57.
unfoldable pub is_digit : ℕ → Bool
is_digit b = leb 48 b and leb b 57

-- A decimal number with one digit more.
abbrev pub with_digit : ℕ → ℕ → ℕ
with_digit n b = n % 4_294_967_296 * 10 + b % 16

-- The number that digits say, where all of them are.
unfoldable pub more_digits : Option ℕ → ℕ → Option ℕ
more_digits None b = None
more_digits (Some n) b = cond (is_digit b) (Some (with_digit n b)) None

-- The first 8 bytes stand in `low`, the others in `high`.
unfoldable pub added : Value → ℕ → Value
added v b =
    cond (leb 16 v.length) too_long
    (record {
      length = v.length + 1;
      low = cond (ltb v.length 8) (with_byte v.low b) v.low;
      high = cond (ltb v.length 8) v.high (with_byte v.high b);
      number = more_digits v.number b;
    })

unfoldable pub gather_from : Value → List ℕ → Value
gather_from v [] = v
gather_from v (b ∷ bs) = gather_from (added v b) bs

abbrev pub gather : List ℕ → Value
gather bs = gather_from no_bytes bs

unfoldable pub same_value : Value → Value → Bool
same_value a b = eqb a.length b.length and eqb a.low b.low and eqb a.high b.high
