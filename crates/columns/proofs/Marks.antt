-- What stands behind the marks: the weights and the lists are told by their own words, behind the hints and the picks.
-- Assumes nothing.
use Prim.Native.Nat.{ℕ, zero, suc, ◌+◌, ◌*◌, ◌-◌, ◌≤◌, ◌<◌}
use native.Mathlib.Omega.{arith}
use native.Mathlib.Decide.{ℕ_discrete}
use mathlib.Core.Path.{◌≡◌, refl, sym, ap, ap₂, ◌∙◌, subst}
use mathlib.Core.List.{List, [], ◌∷◌}
use lib.ListN.{length, get_or, drop}
use lib.Seq.{drop-drop}
use Rattle.plpb.specs.Lists.{row}
use Rattle.plpb.specs.Plan.{Plan}
use Rattle.plpb.specs.Choice.{choosable}
use Rattle.words.specs.Words.{num_at, word_at}
use Rattle.words.proofs.Words.{num_at_drop}
use Rattle.words.specs.Writes.{Wrote}
use Rattle.format.specs.Limits.{max_variables}
use Rattle.columns.specs.Layout.{hint_at, weight_at, list_count_at, list_at}
use Rattle.columns.specs.Columns.{Weighed, Tells, Hinted, Unhinted, words_from, terms_ahead, Listed}

-- Marks that are as long and the same from the weights on.
pub record Behind (s t : List ℕ) : Type 0 where
  pub size : length t ≡ length s
  pub same : (i : ℕ) → weight_at 0 ≤ i → word_at t i ≡ word_at s i

pub behind_more : {s t u : List ℕ} → Behind s t → Behind t u → Behind s u
behind_more a b = record { size = b.size ∙ a.size; same = λ i h. b.same i h ∙ a.same i h }

pub wrote_behind : {i v : ℕ} {s t : List ℕ} → i < weight_at 0 → Wrote i v s t → Behind s t
wrote_behind h w = record { size = w.size; same = λ j l. w.others j (λ e. omega arith) }

pub weighed_behind : {p : Plan} {s t : List ℕ} → Behind s t → Weighed p s → Weighed p t
weighed_behind b w = record { room = rw b.size w.room; each = λ k h. b.same (weight_at k) (omega arith) ∙ w.each k h }

words_same : (f g : ℕ → ℕ) (i k : ℕ) → ((j : ℕ) → i ≤ j → f j ≡ g j) → words_from f i k ≡ words_from g i k
unfolding words_from row
words_same f g i zero h = refl
words_same f g i (suc k) h = ap₂ (λ w ws. w ∷ ws) (h i (omega arith)) (words_same f g (suc i) k (λ j l. h j (omega arith)))

pub listed_behind : {p : Plan} {s t : List ℕ} → Behind s t → Listed p s → Listed p t
listed_behind {p} {s} {t} b l = record {
  room = rw b.size l.room;
  each = λ c h. record {
    counted = b.same (list_count_at c) (omega arith) ∙ (l.each c h).counted;
    listed = words_same (word_at t) (word_at s) (list_at (terms_ahead p c)) (length (choosable p (get_or p.clauses c []))) (λ j k. b.same j (omega arith)) ∙ (l.each c h).listed;
  };
}

-- Hints that are the same.
pub hinted_same : {p : Plan} {s t : List ℕ} → ((x : ℕ) → 1 ≤ x → x ≤ p.variables → word_at t (hint_at x) ≡ word_at s (hint_at x)) → Hinted p s → Hinted p t
hinted_same {p} e h = record { each = λ x l m. subst (Tells p x) (sym (e x l m)) (h.each x l m) }

-- Where none tells a side, all are those of the plan.
pub unhinted : {p : Plan} {t : List ℕ} → p.variables ≤ max_variables → Unhinted t → Hinted p t
unhinted few u = record { each = λ x l m h. absurd (omega (arith, u.each x l (omega arith), h)) }

-- One hint that is written.
pub hinted_wrote : {p : Plan} {x v : ℕ} {s t : List ℕ} → Wrote (hint_at x) v s t → Tells p x v → Hinted p s → Hinted p t
hinted_wrote {p} {x} {v} {s} {t} w k h = record { each = λ y l m. at y (ℕ_discrete y x) l m }
  where
    at : (y : ℕ) → Dec (y ≡ x) → 1 ≤ y → y ≤ p.variables → Tells p y (word_at t (hint_at y))
    at y (yes e) l m = rw e (subst (Tells p x) (sym w.here) k)
    at y (no n) l m = subst (Tells p y) (sym (w.others (hint_at y) (λ e. n (omega (arith, e))))) (h.each y l m)

-- What is the same behind a place: a word,
word_dropped : (n i : ℕ) (s t : List ℕ) → n ≤ 4 * i → drop n t ≡ drop n s → word_at t i ≡ word_at s i
unfolding word_at
word_dropped n i s t h e =
    let at : 4 * i ≡ n + (4 * i - n) = omega arith in
    ap (num_at 4 t) at ∙ sym (num_at_drop 4 n t (4 * i - n)) ∙ ap (λ u. num_at 4 u (4 * i - n)) e ∙ num_at_drop 4 n s (4 * i - n) ∙ ap (num_at 4 s) (sym at)

-- all from the weights on,
pub dropped_behind : (n : ℕ) {s t : List ℕ} → n ≤ 4 * weight_at 0 → length t ≡ length s → drop n t ≡ drop n s → Behind s t
dropped_behind n {s} {t} h l e = record { size = l; same = λ i k. word_dropped n i s t (omega arith) e }

-- and the hints,
pub dropped_hinted : {p : Plan} (n : ℕ) {s t : List ℕ} → n ≤ 4 * hint_at 1 → drop n t ≡ drop n s → Hinted p s → Hinted p t
dropped_hinted n {s} {t} h e i = hinted_same (λ x k m. word_dropped n (hint_at x) s t (omega arith) e) i

-- is the same behind a later one.
pub dropped_more : (n m : ℕ) (s t : List ℕ) → n ≤ m → drop n t ≡ drop n s → drop m t ≡ drop m s
dropped_more n m s t h e =
    let k : n + (m - n) ≡ m = omega arith in
    ap (λ i. drop i t) (sym k) ∙ sym (drop-drop (m - n) n t) ∙ ap (drop (m - n)) e ∙ drop-drop (m - n) n s ∙ ap (λ i. drop i s) k
