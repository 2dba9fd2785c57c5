-- Laws of the sums of a rule's terms: they are made term by term from the last to the first, and none is larger than K.
-- Assumes nothing.
use Prim.Native.Nat.{ℕ, suc, ◌+◌, ◌*◌, ◌-◌, ◌/◌, ◌%◌, ◌≤◌, ◌<◌, zero-le}
use native.Mathlib.Nat.{add-zero, sub-zero}
use native.Mathlib.Omega.{arith}
use mathlib.Core.Path.{◌≡◌, refl, sym, ap, ◌∙◌}
use mathlib.Core.Bool.{Bool, true, false, not, cond}
use mathlib.Core.List.{List, [], ◌∷◌}
use lib.Dec.{T, ltb}
use lib.IntN.{pos, negsuc, nat_abs}
use lib.ListN.{length}
use Rattle.plpb.specs.Lists.{all, sum_by}
use Rattle.plpb.specs.Plan.{Term, Assignment, value}
use Rattle.plpb.specs.Normal.{literal, literal_true, is_negative, size, rise, K, P}
use Rattle.plpb.proofs.Lists.{and_left, and_right}
use Rattle.plpb.proofs.Normal.{at_most_lem, P_at_most_K}
use Rattle.words.specs.Words.{word_at, signed}
use Rattle.format.specs.Tables.{term_of}
use Rattle.rules.specs.declared.sums.Sums.{Sums}
use Rattle.rules.specs.declared.sums.Running.{Running}
use Rattle.rules.specs.Terms.{terms_at, Readable}
use Rattle.rules.specs.Sums.{Summed, AddedWeight, rise_in, held_in}
use Rattle.rules.proofs.Terms.{term_legal, lawful_legal, legal_high, legal_weight, legal_at, legal_rest, terms_none, terms_next, length_terms}

-- ---- bounds

pub rise_at_most_K : (ts : List Term) → rise ts ≤ K ts
unfolding rise K sum_by
rise_at_most_K [] = zero-le
rise_at_most_K (t ∷ ts) = omega (arith, at_most_lem (is_negative t.weight) (size t), rise_at_most_K ts)

pub K_at_most : (n : ℕ) (ts : List Term) → T (all (term_legal n) ts) → K ts ≤ 1_000_000 * length ts
unfolding K sum_by all size
K_at_most n [] l = zero-le
K_at_most n (t ∷ ts) l = omega (arith, legal_weight n t (and_left _ _ l), K_at_most n ts (and_right _ _ l))

-- ---- term by term

-- A weight's word: its size, and what it takes from a sum of words where it is negative.
weight_word : (w : ℕ) → w < 4_294_967_296 → nat_abs (signed w) ≡ cond (is_negative (signed w)) (4_294_967_296 - w) w
unfolding signed is_negative
weight_word w h = at (ltb w 2_147_483_648) refl
  where
    at : (b : Bool) → ltb w 2_147_483_648 ≡ b → nat_abs (cond b (pos w) (negsuc (4_294_967_295 - w))) ≡ cond (is_negative (cond b (pos w) (negsuc (4_294_967_295 - w)))) (4_294_967_296 - w) w
    at true e = refl
    at false e = omega arith

-- A weight more still fits, and twice as much does.
pub record Room (w : ℕ) (s : Sums) : Type 0 where
  pub whole : w + s.k < 2_147_483_648
  pub rises : s.rise ≤ s.k
  pub trues : s.p ≤ s.k

-- What one term more changes.
pub record AddedTerm (a : Assignment) (t : Term) (s r : Sums) : Type 0 where
  pub whole : r.k ≡ size t + s.k
  pub rises : r.rise ≡ cond (is_negative t.weight) (size t) 0 + s.rise
  pub trues : r.p ≡ cond (literal_true a (literal t)) (size t) 0 + s.p

-- Added to the sums as they are kept, it is added to those that they come to.
module _ (w m k rise p : ℕ) (fits : w < 4_294_967_296) where
  rise_held : (b : Bool) (weights : ℕ) → weights < 4_294_967_296 → m ≡ cond b (4_294_967_296 - w) w → rise ≡ (k + (4_294_967_296 - weights)) % 4_294_967_296 / 2 → rise ≤ k → m + k < 2_147_483_648
      → (m + k + (4_294_967_296 - (weights + w) % 4_294_967_296)) % 4_294_967_296 / 2 ≡ cond b m 0 + rise
  rise_held true weights l e h n r = omega arith
  rise_held false weights l e h n r = omega arith

  trues_held : (b v : Bool) (trues : ℕ) → m ≡ cond b (4_294_967_296 - w) w → p ≡ (trues + rise) % 4_294_967_296 → m + p < 4_294_967_296
      → ((trues + cond v w 0) % 4_294_967_296 + (cond b m 0 + rise)) % 4_294_967_296 ≡ cond (cond b (not v) v) m 0 + p
  trues_held true true trues e h r = omega arith
  trues_held true false trues e h r = omega arith
  trues_held false true trues e h r = omega arith
  trues_held false false trues e h r = omega arith

module _ (g : ℕ → ℕ) (i : ℕ) (s : Running) {w : ℕ} (e : w ≡ g (2 * i + 1)) (room : Room (size (term_of g i)) (held_in s)) where
  pub weight_room : nat_abs (signed w) + s.sizes < 4_294_967_296
  unfolding size term_of
  weight_room = rw e (omega (arith, room.whole))

  pub weight_added : {a : Assignment} {r : Running} {b : Bool} → w < 4_294_967_296 → s.weights < 4_294_967_296 → b ≡ value a (g (2 * i)) → AddedWeight w b s r
      → AddedTerm a (term_of g i) (held_in s) (held_in r)
  unfolding size term_of literal literal_true
  weight_added {a} {r} {b} fits low h d =
      let small = rw (sym e) at room in
      let n = is_negative (signed w) in
      let word = weight_word w fits in
      let more : rise_in r ≡ cond n (nat_abs (signed w)) 0 + rise_in s = rw (d.sizes, d.weights) (rise_held w _ s.sizes _ 0 fits n s.weights low word refl small.rises small.whole) in
      let same : AddedTerm a (record { variable = g (2 * i); weight = signed w }) (held_in s) (held_in r) =
      record {
        whole = d.sizes;
        rises = more;
        trues = rw (more, d.trues, h) (trues_held w _ 0 (rise_in s) _ fits n (value a (g (2 * i))) s.trues word refl (omega (arith, small.whole, small.trues)));
      } in
      rw e at same

module _ (a : Assignment) where
  none_summed : Summed a [] (record { k = 0; rise = 0; p = 0 })
  unfolding K rise P sum_by
  none_summed = record { whole = refl; rises = refl; trues = refl }

  more_summed : (t : Term) (ts : List Term) (s r : Sums) → Summed a ts s → AddedTerm a t s r → Summed a (t ∷ ts) r
  unfolding K rise P sum_by
  more_summed t ts s r h d =
      record {
        whole = d.whole ∙ ap (λ n. size t + n) h.whole;
        rises = d.rises ∙ ap (λ n. cond (is_negative t.weight) (size t) 0 + n) h.rises;
        trues = d.trues ∙ ap (λ n. cond (literal_true a (literal t)) (size t) 0 + n) h.trues;
      }

  -- The loop: it starts with the terms behind the last, goes on with one more in front, and ends with all.
  pub summed_start : (g : ℕ → ℕ) (first count : ℕ) → Summed a (terms_at g (first + count) (count - count)) (record { k = 0; rise = 0; p = 0 })
  summed_start g first count = rw (terms_none g (first + count) (count - count) (omega arith)) none_summed

  pub summed_step : (g : ℕ → ℕ) (first count left : ℕ) (s r : Sums) → 0 < left → left ≤ count → Summed a (terms_at g (first + left) (count - left)) s → AddedTerm a (term_of g (first + (left - 1))) s r → Summed a (terms_at g (first + (left - 1)) (count - (left - 1))) r
  unfolding term_of
  summed_step g first count left s r low high h d =
      let i = first + (left - 1) in
      let more : count - (left - 1) ≡ suc (count - left) = omega arith in
      let next : first + left ≡ suc i = omega arith in
      rw (more, terms_next g i (count - left))
      (more_summed (term_of g i) (terms_at g (suc i) (count - left)) s r (rw next at h) d)

  pub summed_end : (g : ℕ → ℕ) (first count left : ℕ) (s : Sums) → left ≤ 0 → Summed a (terms_at g (first + left) (count - left)) s → Summed a (terms_at g first count) s
  summed_end g first count left s low h =
      let none : left ≡ 0 = omega arith in
      rw (none, add-zero, sub-zero) at h

-- The next weight fits: all of them together do.
pub next_fits : (terms assignment : List ℕ) (first count : ℕ) (r : Readable terms assignment first count) (a : Assignment) (left : ℕ) (s : Sums) → 0 < left → left ≤ count → Summed a (terms_at (word_at terms) (first + left) (count - left)) s → Room (size (term_of (word_at terms) (first + (left - 1)))) s
unfolding size
next_fits terms assignment first count r a left s low high h =
    let n = length assignment in
    let ts = terms_at (word_at terms) (first + left) (count - left) in
    let t = term_of (word_at terms) (first + (left - 1)) in
    let one = legal_weight n t (legal_at terms assignment first count r (left - 1) (omega arith)) in
    let rest = K_at_most n ts (legal_rest terms assignment first count r left high) in
    let many = length_terms (word_at terms) (first + left) (count - left) in
    record {
      whole = omega (arith, one, rest, many, h.whole, r.few);
      rises = omega (arith, h.whole, h.rises, rise_at_most_K ts);
      trues = omega (arith, h.whole, h.trues, P_at_most_K a ts);
    }

-- What is known of the sums of a rule.
pub summed_below : {a : Assignment} {ts : List Term} {s : Sums} → Summed a ts s → (s.p ≤ s.k) × (s.rise ≤ s.k)
summed_below {a} {ts} {s} h =
    (omega (arith, h.whole, h.trues, P_at_most_K a ts), omega (arith, h.whole, h.rises, rise_at_most_K ts))

pub summed_small : {terms assignment : List ℕ} {first count : ℕ} {a : Assignment} {s : Sums} → Readable terms assignment first count → Summed a (terms_at (word_at terms) first count) s → s.k < 4_294_967_296
summed_small {terms} {assignment} {first} {count} r h =
    let ts = terms_at (word_at terms) first count in
    let all-legal = lawful_legal (length assignment) ts r.lawful in
    omega (arith, h.whole, r.few, K_at_most (length assignment) ts all-legal, length_terms (word_at terms) first count)

-- ---- assignments that say the same

module _ (n : ℕ) (a b : Assignment) (same : (v : ℕ) → v ≤ n → value a v ≡ value b v) where
  pub literal_same : (t : Term) → T (term_legal n t) → literal_true a (literal t) ≡ literal_true b (literal t)
  unfolding literal_true literal
  literal_same t l = ap (λ v. cond (is_negative t.weight) (not v) v) (same t.variable (legal_high n t l))
