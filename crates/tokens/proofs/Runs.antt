-- Bytes passed one after another, and a word that stands at a place.
-- Assumes nothing.
use Prim.Native.Nat.{ℕ, zero, suc, ◌+◌, ◌-◌, ◌≤◌, ◌<◌}
use native.Mathlib.Omega.{arith}
use native.Mathlib.Numerals.{add-one}
use mathlib.Core.Path.{◌≡◌, refl, sym, ap, ap₂, subst, ◌∙◌}
use mathlib.Core.Bool.{Bool, true, false, cond, ◌&&◌}
use mathlib.Core.List.{List, [], ◌∷◌}
use lib.Dec.{eqb, ltb}
use lib.Pointwise.{pointwise}
use lib.ListN.{length, get_or, take, drop, length-drop, drop_of_length-le}
use lib.Seq.{drop-cons, get_or-drop}
use borrow.Author.Tests.{eq-eqb, ne_eqb, eqb-true, eqb-false, lt-ltb, le-ltb, ltb-true, ltb-false}
use Rattle.std.proofs.lemmas.List.{take_all}
use Rattle.plpb.specs.Lists.{◌and◌}
use Rattle.std.specs.Prelude.{Option, Some, None}
use Rattle.std.specs.List.{AllWithin, HoldsAt}
use Rattle.std.specs.Option.{MatchOption, unwrap_or}
use Rattle.tokens.specs.Found.{left, read, Reads, Behind, Found}
use Rattle.tokens.specs.declared.text.Text.{Text}
use Rattle.tokens.specs.Tokens.{run, run_end, begins, word_end}

-- The byte at a place and those behind it.
pub here : (s : List ℕ) (at : ℕ) → at < length s → drop at s ≡ get_or s at 0 ∷ drop (at + 1) s
here s at h = rw add-one (drop-cons s at 0 h)

-- The bytes from a place on, as the code takes them.
module _ (s : List ℕ) (at : ℕ) where
  rest_is : take (length s - at) (drop at s) ≡ drop at s
  rest_is = take_all (length s - at) (drop at s) (omega (arith, length-drop at s))

  pub rest_length : length (take (length s - at) (drop at s)) ≡ length s - at
  rest_length = ap length rest_is ∙ length-drop at s

  pub rest_at : (i : ℕ) → get_or (take (length s - at) (drop at s)) i 0 ≡ get_or s (at + i) 0
  rest_at i = ap (λ xs. get_or xs i 0) rest_is ∙ get_or-drop at s i 0

short_by : (t : Bool) (k n : ℕ) → k ≤ n → cond t (suc k) 0 ≤ suc n
short_by true k n h = omega arith
short_by false k n h = omega arith

run_short : (such : ℕ → Bool) (s : List ℕ) → run such s ≤ length s
unfolding run
run_short such [] = omega arith
run_short such (b ∷ bs) = short_by (such b) (run such bs) (length bs) (run_short such bs)

module _ (such : ℕ → Bool) (s : List ℕ) (at : ℕ) where
  pub run_within : at ≤ length s → run_end such s at ≤ length s
  unfolding run_end
  run_within h = omega (arith, run_short such (drop at s), length-drop at s)

  pub run_from : at ≤ run_end such s at
  unfolding run_end
  run_from = omega arith

  pub run_end_lem : length s ≤ at → at ≡ run_end such s at
  unfolding run_end run
  run_end_lem h = rw (drop_of_length-le s h) (omega arith)

  module _ (l : at < length s) where
    pub run_stop : such (get_or s at 0) ≡ false → at ≡ run_end such s at
    unfolding run_end run
    run_stop h = rw (here s at l, h) (omega arith)

    pub run_go : such (get_or s at 0) ≡ true → run_end such s (at + 1) ≡ run_end such s at
    unfolding run_end run
    run_go h = rw (here s at l, h) (omega arith)

-- The bytes up to a place are such, and the one there is not.
module _ (such : ℕ → Bool) (s : List ℕ) (r : ℕ) (inside : r ≤ length s) (stop : r < length s → such (get_or s r 0) ≡ false) where
  run_none : (from : ℕ) → from ≡ r → from ≡ run_end such s from
  run_none from e = go (ltb from (length s)) refl
    where
      go : (t : Bool) → ltb from (length s) ≡ t → from ≡ run_end such s from
      go true h =
          let l = ltb-true from (length s) h in
          run_stop such s from l (subst (λ k. such (get_or s k 0) ≡ false) (sym e) (stop (omega (arith, e, l))))
      go false h = run_end_lem such s from (ltb-false from (length s) h)

  run_some : (n from : ℕ) → from + n ≡ r → ((k : ℕ) → from ≤ k → k < r → such (get_or s k 0) ≡ true) → r ≡ run_end such s from
  run_some zero from e h = let q : from ≡ r = omega (arith, e) in sym q ∙ run_none from q
  run_some (suc n) from e h =
      run_some n (from + 1) (omega (arith, e)) (λ k a b. h k (omega (arith, a)) b)
      ∙ run_go such s from (omega (arith, e, inside)) (h from (omega arith) (omega (arith, e)))

  pub run_is : (from : ℕ) → from ≤ r → ((k : ℕ) → from ≤ k → k < r → such (get_or s k 0) ≡ true) → r ≡ run_end such s from
  run_is from h p = run_some (r - from) from (omega (arith, h)) p

-- All before the first that passes do not, be there one or none.
module _ (Yes No : ℕ → Type 0) (xs : List ℕ) (n : ℕ) where
  pub all_before :
      (r : Option ℕ) → MatchOption r (AllWithin No xs 0 n) (λ i. (i < n) × HoldsAt Yes xs i × AllWithin No xs 0 i)
      → AllWithin No xs 0 (unwrap_or r n)
  all_before None h = h
  all_before (Some i) (l, q, h) = h

-- A word compared by the library's test.
pub both_is : (a b : Bool) → (a && b) ≡ (a and b)
unfolding ◌and◌
both_is true b = refl
both_is false b = refl

eqb_swap : (a b : ℕ) → eqb a b ≡ eqb b a
eqb_swap a b = go (eqb b a) refl
  where
    go : (t : Bool) → eqb b a ≡ t → eqb a b ≡ eqb b a
    go true e = rw e (eq-eqb a b (sym (eqb-true b a e)))
    go false e = rw e (ne_eqb a b (λ q. eqb-false b a e (sym q)))

word_is : (word s : List ℕ) → pointwise eqb word (take (length word) s) ≡ begins word s
unfolding begins
word_is [] s = refl
word_is (w ∷ ws) [] = refl
word_is (w ∷ ws) (b ∷ bs) = both_is (eqb w b) _ ∙ ap₂ (λ x y. x and y) (eqb_swap w b) (word_is ws bs)

module _ (word s : List ℕ) (at : ℕ) where
  pub word_at : {b : Bool} → b ≡ pointwise eqb word (take (length word) (take (length s - at) (drop at s))) → begins word (drop at s) ≡ b
  word_at e = sym (e ∙ ap (λ xs. pointwise eqb word (take (length word) xs)) (rest_is s at) ∙ word_is word (drop at s))

  pub word_end_is : begins word (drop at s) ≡ true → at + length word ≡ word_end word s at
  unfolding word_end
  word_end_is e = rw e

-- A word that has a byte is there where it ends behind its place.
pub word_there : (b : ℕ) (word s : List ℕ) (at : ℕ) → ltb at (word_end (b ∷ word) s at) ≡ begins (b ∷ word) (drop at s)
unfolding word_end
word_there b word s at = go (begins (b ∷ word) (drop at s)) refl
  where
    go : (t : Bool) → begins (b ∷ word) (drop at s) ≡ t → ltb at (cond (begins (b ∷ word) (drop at s)) (at + length (b ∷ word)) at) ≡ begins (b ∷ word) (drop at s)
    go true e = rw e (lt-ltb at (at + length (b ∷ word)) (omega arith))
    go false e = rw e (le-ltb at at (omega arith))

-- The text behind a word, or the text where it is not there.
pub word_or : (word : List ℕ) (t : Text) (r : Option Text) → Found (begins word (left t)) (Reads (Behind (word_end word)) t) r → Reads (Behind (word_end word)) t (unwrap_or r t)
unfolding word_end
word_or word t None e = record { bytes = refl; at = rw e }
word_or word t (Some k) (e, behind) = behind

-- A text of which nothing is read yet.
pub whole : {s : List ℕ} (t : Text) → (t.bytes.now ≡ s) × (t.at ≡ 0) → Behind (λ s at. at) s 0 t
whole t (e, f) = record { bytes = e; at = f }

-- What is read behind an item is read from where it ends, and what is behind an item behind another is behind both.
module _ {end : List ℕ → ℕ → ℕ} {s : List ℕ} {at : ℕ} {u : Text} (b : Behind end s at u) where
  pub read_behind : {A : Type 0} (f : List ℕ → ℕ → A) → read f u ≡ f s (end s at)
  read_behind f = ap₂ f b.bytes b.at

  pub behind : {f : List ℕ → ℕ → ℕ} {v : Text} → Reads (Behind f) u v → Behind (λ s at. f s (end s at)) s at v
  behind {f} c = record { bytes = c.bytes ∙ b.bytes; at = c.at ∙ read_behind f }
