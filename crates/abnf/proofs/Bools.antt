-- What 'and' says of its two sides.
-- Assumes nothing.
use mathlib.Core.Path.{◌≡◌, refl, sym}
use mathlib.Core.Bool.{Bool, true, false, true≢false}
use Rattle.plpb.specs.Lists.{◌and◌}

pub and_left : (a b : Bool) → (a and b) ≡ true → a ≡ true
unfolding ◌and◌
and_left true b h = refl
and_left false b h = h

pub and_right : (a b : Bool) → (a and b) ≡ true → b ≡ true
unfolding ◌and◌
and_right true b h = h
and_right false b h = absurd (true≢false (sym h))

pub and_join : (a b : Bool) → a ≡ true → b ≡ true → (a and b) ≡ true
unfolding ◌and◌
and_join a b p q = rw (p, q, ◌and◌)
