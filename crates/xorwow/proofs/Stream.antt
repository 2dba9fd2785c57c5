-- Numbers that follow a state, one more at the end; and what each of them is below.
-- Assumes nothing.
use Rattle.std.proofs.Common.{◌≡◌, ℕ, zero, suc, ◌+◌, List, [], ◌∷◌, ◌++◌, length, sym, refl, ap, ◌∙◌, mod-lt, add-one, arith}
use Rattle.words.specs.Words.{word_bytes}
use Rattle.words.specs.Writes.{front}
use Rattle.words.proofs.Words.{Below, below_nil, below_cons}
use Rattle.words.proofs.Writes.{front_none}
use Rattle.xorwow.specs.declared.Xorwow.{Xorwow}
use Rattle.xorwow.specs.Xorwow.{step, output, stream, after}

pub length_stream : (k : ℕ) (g : Xorwow) → length (stream k g) ≡ k
unfolding stream
length_stream zero g = refl
length_stream (suc k) g = ap suc (length_stream k (step g))

pub stream_below : (k : ℕ) (g : Xorwow) → Below 4_294_967_296 (stream k g)
unfolding stream
stream_below zero g = below_nil 4_294_967_296 (omega arith)
stream_below (suc k) g = below_cons 4_294_967_296 (output (step g)) (stream k (step g)) (mod-lt _ (omega arith)) (stream_below k (step g))

-- One number more.
after_suc : (n : ℕ) (g : Xorwow) → after (suc n) g ≡ step (after n g)
unfolding after
after_suc zero g = refl
after_suc (suc n) g = after_suc n (step g)

pub after_next : (i : ℕ) (g : Xorwow) → after (i + 1) g ≡ step (after i g)
after_next i g = ap (λ n. after n g) (add-one i) ∙ after_suc i g

stream_suc : (n : ℕ) (g : Xorwow) → stream (suc n) g ≡ stream n g ++ (output (step (after n g)) ∷ [])
unfolding stream after
stream_suc zero g = refl
stream_suc (suc n) g = ap (λ ns. output (step g) ∷ ns) (stream_suc n (step g))

pub stream_next : (i : ℕ) (g : Xorwow) → stream (i + 1) g ≡ stream i g ++ (output (step (after i g)) ∷ [])
stream_next i g = ap (λ n. stream n g) (add-one i) ∙ stream_suc i g

-- The buffer as it is before the first number.
pub none_written : (g : Xorwow) (s : List ℕ) → s ≡ front (word_bytes (stream 0 g)) s
unfolding stream word_bytes
none_written g s = sym (front_none s)
