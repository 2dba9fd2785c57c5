-- Terms that stand in a table, one after another.
-- Assumes nothing.
use Prim.Native.Nat.{ℕ, zero, suc, ◌+◌, ◌*◌, ◌-◌, ◌≤◌, ◌<◌}
use native.Mathlib.Nat.{le_refl, add-zero}
use native.Mathlib.Omega.{arith}
use mathlib.Core.Path.{◌≡◌, refl, sym, ap, ap₂, ◌∙◌}
use mathlib.Core.Bool.{Bool, true, false}
use mathlib.Core.List.{List, [], ◌∷◌, ◌++◌, map}
use lib.IntN.{ℤ, pos, negsuc, nat_abs}
use mir.Syntax.{w32}
use mir.Val.{SFits, to_z, of_z}
use mir.Facts.{to_z-of_z}
use Rattle.plpb.specs.Lists.{all, row}
use Rattle.plpb.specs.Plan.{Term}
use Rattle.words.specs.Words.{word_at, signed}
use Rattle.format.specs.Limits.{weight_lawful}
use Rattle.format.specs.Tables.{term_of}
use Rattle.format.proofs.Bools.{and_join}
use Rattle.opb.specs.Tau.{weighted, negated}
use Rattle.spelling.specs.Overlay.{Puts, Room}
use Rattle.spelling.proofs.Puts.{Left, left_start, left_more, left_room, left_done}
use Rattle.extremes.specs.Terms.{terms_in, TermsFit}
use Rattle.extremes.proofs.Terms.{terms_none, terms_cons, term_passes, term_small}
use Rattle.constraints.specs.Bytes.{sum_bytes, turned, turned_term, Small}
use Rattle.constraints.proofs.Bytes.{sum_none, sum_cons}

-- A weight whose bits are 0, and one whose bits are not.
pub weight_zero : (v : ℤ) → SFits w32 v → of_z w32 v ≡ 0 → v ≡ pos 0
weight_zero v f e = sym (to_z-of_z f) ∙ ap (to_z w32) e

pub weight_some : (v : ℤ) → (of_z w32 v ≡ 0 → ⊥) → 0 < nat_abs v
weight_some (pos zero) h = absurd (h refl)
weight_some (pos (suc n)) h = omega arith
weight_some (negsuc n) h = omega arith

-- Term i, its sign changed or not.
pub stored_term : (b : Bool) (g : ℕ → ℕ) (i : ℕ) → map (turned_term b) (terms_in g i 1) ≡ weighted (turned b (signed (g (2 * i + 1)))) (g (2 * i)) ∷ []
unfolding terms_in row term_of turned_term turned negated
stored_term true g i = refl
stored_term false g i = refl

-- What is put from term i on.
abbrev pub bytes_from : Bool → (ℕ → ℕ) → ℕ → ℕ → List ℕ
bytes_from b g i k = sum_bytes (map (turned_term b) (terms_in g i k))

-- A term's weight and variable as they are read.
held_weight : {m n : ℕ} {w : ℤ} → SFits w32 w → w ≡ signed n → n ≡ m → to_z w32 (of_z w32 w) ≡ signed m
held_weight f e h = to_z-of_z f ∙ e ∙ ap signed h

stored_small : (terms : List ℕ) (i : ℕ) → TermsFit terms i 1 → Small (signed (word_at terms (2 * i + 1)))
unfolding term_of
stored_small terms i f = let h = term_small (word_at terms) i 1 0 f.small (omega arith) in omega (arith, rw (add-zero i) at h)

pub read_small : {terms : List ℕ} {i n : ℕ} {w : ℤ} → TermsFit terms i 1 → SFits w32 w → w ≡ signed n → n ≡ word_at terms (2 * i + 1)
    → Small (to_z w32 (of_z w32 w))
read_small {terms} {i} t f e h = rw (held_weight f e h) (stored_small terms i t)

pub term_read : (b : Bool) (g : ℕ → ℕ) (i : ℕ) {n x : ℕ} {w r : ℤ} → SFits w32 w → w ≡ signed n → n ≡ g (2 * i + 1) → SFits w32 r
    → r ≡ turned b (to_z w32 (of_z w32 w)) → x ≡ g (2 * i) → sum_bytes (weighted (to_z w32 (of_z w32 r)) x ∷ []) ≡ bytes_from b g i 1
term_read b g i f e h k t z =
    ap₂ (λ w x. sum_bytes (weighted w x ∷ [])) (to_z-of_z k ∙ t ∙ ap (turned b) (held_weight f e h)) z ∙ ap sum_bytes (sym (stored_term b g i))

from_none : (b : Bool) (g : ℕ → ℕ) (i : ℕ) → bytes_from b g i 0 ≡ []
from_none b g i = ap (λ ts. sum_bytes (map (turned_term b) ts)) (terms_none g i) ∙ sum_none

from_cons : (b : Bool) (g : ℕ → ℕ) (i k : ℕ) → bytes_from b g i (suc k) ≡ bytes_from b g i 1 ++ bytes_from b g (suc i) k
from_cons b g i k =
    ap (λ ts. sum_bytes (map (turned_term b) ts)) (terms_cons g i k)
    ∙ sum_cons (turned_term b (term_of g i)) (map (turned_term b) (terms_in g (suc i) k))
    ∙ ap (λ ts. sum_bytes (map (turned_term b) ts) ++ bytes_from b g (suc i) k) (sym (terms_cons g i 0 ∙ ap (λ ts. term_of g i ∷ ts) (terms_none g (suc i))))

one_passes : (g : ℕ → ℕ) (p : Term → Bool) (i : ℕ) → p (term_of g i) ≡ true → all p (terms_in g i 1) ≡ true
unfolding terms_in row all
one_passes g p i h = and_join _ _ h refl

pub fit_one : {terms : List ℕ} {first count i : ℕ} → TermsFit terms first count → first ≤ i → i < first + count → TermsFit terms i 1
fit_one {terms} {first} {count} {i} f low high =
    let e : first + (i - first) ≡ i = omega arith in
    let here = term_passes (word_at terms) (λ t. weight_lawful t.weight) first count (i - first) f.small (omega arith) in
    record {
      inside = omega (arith, f.inside);
      few = omega arith;
      small = one_passes (word_at terms) (λ t. weight_lawful t.weight) i (ap (λ n. weight_lawful (term_of (word_at terms) n).weight) (sym e) ∙ here);
    }

-- The terms from i on are left.
pub record Going (b : Bool) (terms : List ℕ) (first count at : ℕ) (s : List ℕ) (i next : ℕ) (t : List ℕ) : Type 0 where
  pub low : first ≤ i
  pub high : i ≤ first + count
  pub left : Left (bytes_from b (word_at terms) first count) at s (bytes_from b (word_at terms) i (first + count - i)) next t

module _ (b : Bool) (terms : List ℕ) (first count at : ℕ) (s : List ℕ) where
  pub going_start : Going b terms first count at s first at s
  going_start =
      let e : first + count - first ≡ count = omega arith in
      record { low = le_refl first; high = omega arith; left = rw e (left_start (bytes_from b (word_at terms) first count) at s) }

  module _ {i next : ℕ} {t : List ℕ} (g : Going b terms first count at s i next t) where
    pub going_done : first + count ≤ i → Puts (bytes_from b (word_at terms) first count) at s t next
    going_done h =
        let e : first + count - i ≡ 0 = omega arith in
        left_done g.left (ap (bytes_from b (word_at terms) i) e ∙ from_none b (word_at terms) i)

    split : i < first + count → bytes_from b (word_at terms) i (first + count - i) ≡ bytes_from b (word_at terms) i 1 ++ bytes_from b (word_at terms) (suc i) (first + count - suc i)
    split h =
        let e : first + count - i ≡ suc (first + count - suc i) = omega arith in
        ap (bytes_from b (word_at terms) i) e ∙ from_cons b (word_at terms) i (first + count - suc i)

    pub going_room : i < first + count → Room at (bytes_from b (word_at terms) first count) → Room next (bytes_from b (word_at terms) i 1)
    going_room h = left_room g.left (bytes_from b (word_at terms) i 1) (bytes_from b (word_at terms) (suc i) (first + count - suc i)) (split h)

    pub going_more : {u : List ℕ} {r : ℕ} → i < first + count → Puts (bytes_from b (word_at terms) i 1) next t u r → Going b terms first count at s (suc i) r u
    going_more h a = record {
      low = omega (arith, g.low);
      high = h;
      left = left_more g.left (bytes_from b (word_at terms) i 1) (bytes_from b (word_at terms) (suc i) (first + count - suc i)) (split h) a;
    }
