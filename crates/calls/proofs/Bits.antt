-- The bytes that are to be 0 or 1.
use Prim.Native.Nat.{ℕ}
use mathlib.Core.Path.{◌≡◌, refl, sym, ap, ◌∙◌}
use mathlib.Core.List.{List, [], ◌∷◌}
use lib.Dec.{leb}
use lib.ListN.{length, take}
use lib.Seq.{take-length}
use Rattle.std.specs.List.{list_all}
use Rattle.plpb.specs.Lists.{◌and◌, all}
use Rattle.tallies.specs.Layout.{are_bits}

each : (s : List ℕ) → list_all (λ b. leb b 1) s ≡ all (λ b. leb b 1) s
unfolding all ◌and◌
each [] = refl
each (b ∷ s) = ap (λ r. leb b 1 and r) (each s)

pub bits_each : (s : List ℕ) → list_all (λ b. leb b 1) s ≡ are_bits (length s) s
unfolding are_bits
bits_each s = each s ∙ ap (all (λ b. leb b 1)) (sym (take-length s))

-- The first n of them.
pub bits_first : (n : ℕ) (s : List ℕ) → are_bits (length (take n s)) (take n s) ≡ are_bits n s
unfolding are_bits
bits_first n s = ap (all (λ b. leb b 1)) (take-length (take n s))
