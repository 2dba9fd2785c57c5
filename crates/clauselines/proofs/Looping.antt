-- Pieces put one after another by a loop: what is left from piece i on makes the whole.
-- Assumes nothing.
use Prim.Native.Nat.{ℕ, suc, ◌≤◌, ◌<◌, zero-le}
use native.Mathlib.Omega.{arith}
use mathlib.Core.Path.{◌≡◌}
use mathlib.Core.List.{List, [], ◌++◌}
use Rattle.spelling.specs.Overlay.{Puts, Room}
use Rattle.spelling.proofs.Puts.{Left, left_start, left_more, left_room, left_done}

-- Pieces, and what is left from each on.
pub record Pieces (all : List ℕ) (piece rest : ℕ → List ℕ) (count : ℕ) : Type 0 where
  pub whole : rest 0 ≡ all
  pub more : (i : ℕ) → i < count → rest i ≡ piece i ++ rest (suc i)
  pub none : rest count ≡ []

pub record Looping (all : List ℕ) (rest : ℕ → List ℕ) (count at : ℕ) (s : List ℕ) (i next : ℕ) (t : List ℕ) : Type 0 where
  pub within : i ≤ count
  pub left : Left all at s (rest i) next t

module _ {all : List ℕ} {piece rest : ℕ → List ℕ} {count : ℕ} (p : Pieces all piece rest count) where
  pub looping_start : (at : ℕ) (s : List ℕ) → Looping all rest count at s 0 at s
  looping_start at s = record { within = zero-le; left = rw p.whole (left_start all at s) }

  module _ {at : ℕ} {s : List ℕ} {i next : ℕ} {t : List ℕ} (l : Looping all rest count at s i next t) where
    pub looping_room : i < count → Room at all → Room next (piece i)
    looping_room h = left_room l.left (piece i) (rest (suc i)) (p.more i h)

    pub looping_more : {u : List ℕ} {r : ℕ} → i < count → Puts (piece i) next t u r → Looping all rest count at s (suc i) r u
    looping_more h a = record { within = h; left = left_more l.left (piece i) (rest (suc i)) (p.more i h) a }

    pub looping_done : count ≤ i → Puts all at s t next
    looping_done h =
        let e : i ≡ count = omega (arith, h, l.within) in
        left_done l.left (rw e p.none)
