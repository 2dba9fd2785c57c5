-- The entries of an added clause are written a word or two at a time: writes one behind the other join.
-- Assumes nothing.
use Prim.Native.Nat.{ℕ, ◌+◌, ◌*◌, ◌≤◌}
use native.Mathlib.Omega.{arith}
use mathlib.Core.Path.{◌≡◌, ap, ◌∙◌}
use mathlib.Core.List.{List, [], ◌∷◌}
use lib.ListN.{length}
use Rattle.words.specs.Words.{word_at}
use Rattle.words.specs.Writes.{put_words}
use Rattle.words.proofs.Writes.{words_next}
use Rattle.objective.specs.Added.{added_entries}
use Rattle.format.specs.Layout.{clause_first_at, rule_first_at, rule_mode_at, rule_upper_at}

-- The five words of a rule's entry, written two, two and one.
pub rule_written :
    (s : List ℕ) (r c d e : ℕ) {a b x y : ℕ} {t u out : List ℕ} → 4 * rule_first_at (r + 1) ≤ length s
    → x ≡ a → y ≡ b
    → t ≡ put_words (rule_first_at r) (x ∷ y ∷ []) s
    → u ≡ put_words (rule_mode_at r) (c ∷ d ∷ []) t
    → out ≡ put_words (rule_upper_at r) (e ∷ []) u
    → out ≡ put_words (rule_first_at r) (a ∷ b ∷ c ∷ d ∷ e ∷ []) s
rule_written s r c d e {a} {b} h f g p q o =
    let i = rule_first_at r in
    let m : rule_mode_at r ≡ i + 2 = omega arith in
    let n : rule_upper_at r ≡ i + 4 = omega arith in
    o
    ∙ rw (q, p, f, g, m, n)
    (ap (put_words (i + 4) (e ∷ [])) (words_next i (a ∷ b ∷ []) (c ∷ d ∷ []) s (omega arith)) ∙ words_next i (a ∷ b ∷ c ∷ d ∷ []) (e ∷ []) s (omega arith))

-- The three counts, written two and one.
pub counts_written :
    (s : List ℕ) {a b c x y z : ℕ} {t out : List ℕ} → 16 ≤ length s → x ≡ a → y ≡ b → z ≡ c
    → t ≡ put_words 1 (x ∷ y ∷ []) s
    → out ≡ put_words 3 (z ∷ []) t
    → out ≡ put_words 1 (a ∷ b ∷ c ∷ []) s
counts_written s {a} {b} {c} h e f g p o = o ∙ rw (p, e, f, g) (words_next 1 (a ∷ b ∷ []) (c ∷ []) s (omega arith))

-- The three writes of an added clause.
pub entries_added :
    (s : List ℕ) (count bound : ℕ) {c r t : ℕ} {a b out : List ℕ} → c ≡ word_at s 1 → r ≡ word_at s 2 → t ≡ word_at s 3
    → a ≡ put_words (clause_first_at c) (r ∷ 1 ∷ []) s
    → b ≡ put_words (rule_first_at r) (t ∷ count ∷ 2 ∷ 0 ∷ bound ∷ []) a
    → out ≡ put_words 1 ((c + 1) ∷ (r + 1) ∷ (t + count) ∷ []) b
    → out ≡ added_entries count bound s
unfolding added_entries
entries_added s count bound e f g p q o = o ∙ rw (q, p, e, f, g)
