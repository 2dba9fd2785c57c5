-- Tallies that become right word by word: what was right stays so, so that once every word is written or was right all are.
-- Assumes nothing.
use Prim.Native.Nat.{ℕ, ◌≤◌, ◌<◌}
use native.Mathlib.Decide.{ℕ_discrete}
use native.Mathlib.Omega.{arith}
use mathlib.Core.Path.{◌≡◌, refl, sym, ap, ◌∙◌}
use mathlib.Core.List.{List, [], ◌∷◌}
use lib.ListN.{length}
use Rattle.words.specs.Words.{word_at}
use Rattle.words.specs.Writes.{put_words}
use Rattle.words.proofs.Writes.{word_wrote}
use Rattle.tallies.specs.Layout.{tally_size}
use Rattle.recount.specs.Core.{Wrote, Kept}
use Rattle.format.specs.Layout.{tally_word_count}

-- A word that is written within the tallies' full limits is one of them, and nothing past them changes.
pub tally_wrote : (i v : ℕ) (s t : List ℕ) → i < tally_word_count → v < 4_294_967_296 → tally_size ≤ length s → t ≡ put_words i (v ∷ []) s → Wrote i v s t
tally_wrote i v s t h k l e =
    let w = word_wrote i v s t (omega arith) k e in
    record { here = w.here; others = w.others; size = w.size; beyond = w.beyond tally_size (omega arith) l }

-- Nothing need be written where the word stands there.
pub none_wrote : (s : List ℕ) (i v : ℕ) → word_at s i ≡ v → Wrote i v s s
none_wrote s i v e = record { here = e; others = λ j n. refl; size = refl; beyond = refl }

module _ (h : ℕ → ℕ) where
  pub kept_none : (s : List ℕ) → Kept h s s
  kept_none s = record { right = λ i e. e; size = refl; beyond = refl }

  pub kept_more : (s t u : List ℕ) → Kept h s t → Kept h t u → Kept h s u
  kept_more s t u k m =
      record { right = λ i e. m.right i (k.right i e); size = m.size ∙ k.size; beyond = m.beyond ∙ k.beyond }

  pub wrote_kept : (s t : List ℕ) (i v : ℕ) → Wrote i v s t → v ≡ h i → Kept h s t
  wrote_kept s t i v w e =
      record { right = λ j r. at j r (ℕ_discrete j i); size = w.size; beyond = w.beyond }
    where
      at : (j : ℕ) → word_at s j ≡ h j → Dec (j ≡ i) → word_at t j ≡ h j
      at j r (yes z) = ap (word_at t) z ∙ w.here ∙ e ∙ ap h (sym z)
      at j r (no z) = w.others j z ∙ r
