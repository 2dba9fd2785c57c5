-- Puts one after another are one; what room a part needs.
-- Assumes nothing.
use Prim.Native.Nat.{ℕ, ◌+◌}
use native.Mathlib.Nat.{add-zero}
use native.Mathlib.Omega.{arith}
use mathlib.Core.Path.{◌≡◌, refl, sym, ap, ap₂, ◌∙◌}
use mathlib.Core.List.{List, [], ◌++◌}
use lib.ListN.{length, length-append}
use Rattle.spelling.specs.Overlay.{overlay, Puts, Room}
use Rattle.spelling.proofs.Overlay.{overlay_length, overlay_nothing, overlay_append}

pub puts_nothing : (at : ℕ) (s : List ℕ) → Puts [] at s s at
puts_nothing at s = record { bytes = sym (overlay_nothing at s); place = sym (add-zero at) }

pub puts_then : {at : ℕ} {s t u : List ℕ} {q r : ℕ} {xs ys : List ℕ} → Puts xs at s t q → Puts ys q t u r → Puts (xs ++ ys) at s u r
puts_then {at} {s} {xs = xs} {ys = ys} a b = record {
  bytes = b.bytes ∙ ap₂ (λ n l. overlay n ys l) a.place a.bytes ∙ overlay_append at xs ys s;
  place = omega (arith, a.place, b.place, length-append xs ys);
}

pub puts_same : {at : ℕ} {s t : List ℕ} {r : ℕ} {xs ys : List ℕ} → xs ≡ ys → Puts xs at s t r → Puts ys at s t r
puts_same {at} {s} e a = record { bytes = a.bytes ∙ ap (λ l. overlay at l s) e; place = a.place ∙ ap (λ l. at + length l) e }

pub room_same : (at : ℕ) {xs ys : List ℕ} → xs ≡ ys → Room at xs → Room at ys
room_same at e h = omega (arith, h, ap length e)

-- Of bytes before others, and behind them.
pub room_first : (at : ℕ) (xs ys : List ℕ) → Room at (xs ++ ys) → Room at xs
room_first at xs ys h = omega (arith, h, length-append xs ys)

pub room_rest : (at : ℕ) (xs ys : List ℕ) {r : ℕ} → r ≡ at + length xs → Room at (xs ++ ys) → Room r ys
room_rest at xs ys e h = omega (arith, h, e, length-append xs ys)

-- The room of what comes behind bytes that were put.
pub room_after : {at q : ℕ} {s t xs : List ℕ} → Puts xs at s t q → (ys : List ℕ) → Room at (xs ++ ys) → Room q ys
room_after {at} {xs = xs} a ys h = room_rest at xs ys a.place h

-- What is left to be put from a place on makes the whole.
pub record Left (all : List ℕ) (at : ℕ) (s rest : List ℕ) (next : ℕ) (t : List ℕ) : Type 0 where
  pub bytes : overlay next rest t ≡ overlay at all s
  pub place : next + length rest ≡ at + length all
  pub same : length t ≡ length s

pub left_start : (all : List ℕ) (at : ℕ) (s : List ℕ) → Left all at s all at s
left_start all at s = record { bytes = refl; place = refl; same = refl }

module _ {all : List ℕ} {at : ℕ} {s rest : List ℕ} {next : ℕ} {t : List ℕ} (l : Left all at s rest next t) where
  pub left_more : {u : List ℕ} {r : ℕ} (xs ys : List ℕ) → rest ≡ xs ++ ys → Puts xs next t u r → Left all at s ys r u
  left_more {u} {r} xs ys e a = record {
    bytes = ap₂ (λ n l. overlay n ys l) a.place a.bytes ∙ overlay_append next xs ys t ∙ ap (λ b. overlay next b t) (sym e) ∙ l.bytes;
    place = omega (arith, a.place, length-append xs ys, ap length e, l.place);
    same = ap length a.bytes ∙ overlay_length next xs t ∙ l.same;
  }

  pub left_room : (xs ys : List ℕ) → rest ≡ xs ++ ys → Room at all → Room next xs
  left_room xs ys e h = omega (arith, h, l.place, length-append xs ys, ap length e)

  pub left_done : rest ≡ [] → Puts all at s t next
  left_done e = record {
    bytes = sym (overlay_nothing next t) ∙ ap (λ b. overlay next b t) (sym e) ∙ l.bytes;
    place = (let z : length rest ≡ 0 = ap length e in omega (arith, l.place, z));
  }
