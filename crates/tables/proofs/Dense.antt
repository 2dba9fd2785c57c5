-- Laws of objective and locks written variable by variable: over zeros, terms whose numbers rise leave each variable's coefficient at its place.
-- Assumes nothing.
use Prim.Native.Nat.{ℕ, zero, suc, ◌+◌, ◌*◌, ◌-◌, ◌/◌, ◌≤◌, ◌<◌}
use native.Mathlib.Omega.{arith}
use native.Mathlib.Nat.{add-zero}
use native.Mathlib.Numerals.{add-one, one-add}
use native.Mathlib.Decide.{dec_lt, ℕ_discrete}
use mathlib.Core.Path.{◌≡◌, refl, sym, ap, ap₂, ◌∙◌, subst}
use mathlib.Core.Bool.{Bool, true, false, cond}
use mathlib.Core.List.{List, [], ◌∷◌, map}
use lib.Dec.{eqb}
use lib.IntN.{pos}
use lib.ListN.{length, get_or, set, replicate, length-set, length-replicate, get_or-replicate, length-map}
use lib.Seq.{ext_get_or, get_or-set_same, get_or-set_other}
use borrow.Author.Tests.{eq-eqb, ne_eqb, leb-true, ltb-true, le-leb}
use Rattle.plpb.specs.Lists.{all, row}
use Rattle.plpb.specs.Plan.{Term, Plan, lock_of, rising, rising_above}
use Rattle.words.specs.Words.{num_at, bytes_of, word_bytes, unsigned}
use Rattle.words.specs.Writes.{put}
use Rattle.words.proofs.Words.{Below, num_at_lt, length_bytes_of, unsigned_signed}
use Rattle.words.proofs.Writes.{put_word, word_bytes_zeros, length_put}
use Rattle.format.specs.Limits.{lock_term, lock_terms, term_within}
use Rattle.format.specs.File.{read, accepted, tag_at, length_at, term_at, terms_at, lock_entry, lock_entries, field_locks}
use Rattle.format.specs.Tables.{coefficient, lock_word}
use Rattle.format.proofs.Bools.{and_left, and_right, and_join}
use Rattle.format.proofs.Lawful.{LawfulTerms}
use Rattle.format.proofs.Lists.{length_row}
use Rattle.format.proofs.Objective.{coefficient_below}
use Rattle.format.proofs.Locks.{lock_dense}
use Rattle.tables.specs.Places.{behind_objective, behind_field, locks_in}
use Rattle.tables.specs.Sections.{objective_words, lock_words, placed, in_range}
use Rattle.bodies.proofs.Tags.{tag_byte}
use Rattle.tables.proofs.Entered.{one_less, none_left, all_left}
use Rattle.tables.proofs.Found.{begun_file, begun_front}
use Rattle.tables.proofs.Filled.{lawful_file}
use Rattle.format.specs.Layout.{objective_size}

-- The words after the same writes.
stands : List Term → List ℕ → List ℕ
stands [] ws = ws
stands (t ∷ ts) ws = stands ts (set ws (t.variable - 1) (unsigned t.weight))

-- A variable's number is from 1 to 512.
ranged : (t : Term) (ts : List Term) → in_range (t ∷ ts) ≡ true → (1 ≤ t.variable) × (t.variable ≤ 512)
unfolding in_range all
ranged t ts h = let a = and_left _ _ h in (leb-true _ _ (and_left _ _ a), leb-true _ _ (and_right _ _ a))

range_rest : (t : Term) (ts : List Term) → in_range (t ∷ ts) ≡ true → in_range ts ≡ true
unfolding in_range all
range_rest t ts h = and_right _ _ h

-- Lawful terms of at most 512 variables are such.
pub lawful_range : (n v : ℕ) (ts : List Term) → n ≤ 512 → rising_above v ts ≡ true → all (term_within n) ts ≡ true → in_range ts ≡ true
unfolding in_range all rising_above term_within
lawful_range n v [] l r w = refl
lawful_range n v (t ∷ ts) l r w =
    let a : v < t.variable = ltb-true _ _ (and_left _ _ r) in
    let b : t.variable ≤ n = leb-true _ _ (and_left _ _ (and_left _ _ w)) in
    and_join _ _ (and_join _ _ (le-leb 1 t.variable (omega arith)) (le-leb t.variable 512 (omega arith)))
    (lawful_range n t.variable ts l (and_right _ _ r) (and_right _ _ w))

placed_words : (ts : List Term) (ws : List ℕ) → length ws ≡ 512 → in_range ts ≡ true → placed ts (word_bytes ws) ≡ word_bytes (stands ts ws)
unfolding placed stands
placed_words [] ws n h = refl
placed_words (t ∷ ts) ws n h =
    let (a, b) = ranged t ts h in
    ap (placed ts) (put_word ws (t.variable - 1) (unsigned t.weight) (omega arith))
    ∙ placed_words ts (set ws (t.variable - 1) (unsigned t.weight)) (length-set ws _ _ ∙ n) (range_rest t ts h)

length_stands : (ts : List Term) (ws : List ℕ) → length (stands ts ws) ≡ length ws
unfolding stands
length_stands [] ws = refl
length_stands (t ∷ ts) ws = length_stands ts (set ws (t.variable - 1) (unsigned t.weight)) ∙ length-set ws _ _

-- Terms whose numbers lie above a variable leave its word.
stands_below : (v i : ℕ) (ts : List Term) (ws : List ℕ) → rising_above v ts ≡ true → i < v → get_or (stands ts ws) i 0 ≡ get_or ws i 0
unfolding stands rising_above
stands_below v i [] ws r h = refl
stands_below v i (t ∷ ts) ws r h =
    let a : v < t.variable = ltb-true _ _ (and_left _ _ r) in
    stands_below t.variable i ts (set ws (t.variable - 1) (unsigned t.weight)) (and_right _ _ r) (omega arith)
    ∙ get_or-set_other ws (t.variable - 1) i (unsigned t.weight) 0 (λ e. omega (arith, e))

module _ (i : ℕ) (h : i < 512) where
  here : (t : Term) (ts : List Term) (ws : List ℕ) → length ws ≡ 512 → rising_above t.variable ts ≡ true → t.variable ≡ suc i → get_or (stands (t ∷ ts) ws) i 0 ≡ unsigned (coefficient (t ∷ ts) (suc i))
  unfolding stands coefficient
  here t ts ws n r e =
      let p : t.variable - 1 ≡ i = omega arith in
      stands_below t.variable i ts (set ws (t.variable - 1) (unsigned t.weight)) r (omega arith)
      ∙ ap (λ (k : ℕ). get_or (set ws k (unsigned t.weight)) i 0) p
      ∙ get_or-set_same ws i (unsigned t.weight) 0 (omega arith)
      ∙ sym (rw (eq-eqb _ _ e))

  -- Any other term: those behind it say the coefficient, or lie above the variable.
  further :
      (t : Term) (ts : List Term) (ws : List ℕ) {v : ℕ} → length ws ≡ 512 → get_or ws i 0 ≡ 0 → v < t.variable → v ≤ i → rising_above t.variable ts ≡ true
      → (get_or (set ws (t.variable - 1) (unsigned t.weight)) i 0 ≡ 0 → t.variable ≤ i
      → get_or (stands ts (set ws (t.variable - 1) (unsigned t.weight))) i 0 ≡ unsigned (coefficient ts (suc i)))
      → get_or (stands (t ∷ ts) ws) i 0 ≡ unsigned (coefficient (t ∷ ts) (suc i))
  unfolding stands coefficient unsigned
  further t ts ws n z a l r ih = by (ℕ_discrete t.variable (suc i))
    where
      other : (t.variable ≡ suc i → ⊥) → get_or (set ws (t.variable - 1) (unsigned t.weight)) i 0 ≡ 0
      other q = get_or-set_other ws (t.variable - 1) i (unsigned t.weight) 0 (λ e. q (omega (arith, e))) ∙ z

      below : (t.variable ≡ suc i → ⊥) → Dec (t.variable < suc i) → get_or (stands ts (set ws (t.variable - 1) (unsigned t.weight))) i 0 ≡ unsigned (coefficient ts (suc i))
      below q (yes d) = ih (other q) (omega arith)
      below q (no d) =
          stands_below t.variable i ts (set ws (t.variable - 1) (unsigned t.weight)) r (omega arith)
          ∙ other q
          ∙ sym (ap unsigned (coefficient_below t.variable (suc i) ts r (omega arith)))

      by : Dec (t.variable ≡ suc i) → get_or (stands (t ∷ ts) ws) i 0 ≡ unsigned (coefficient (t ∷ ts) (suc i))
      by (yes e) = here t ts ws n r e
      by (no q) = rw (ne_eqb _ _ q) (below q (dec_lt t.variable (suc i)))

  at_place : (v : ℕ) (ts : List Term) (ws : List ℕ) → length ws ≡ 512 → get_or ws i 0 ≡ 0 → rising_above v ts ≡ true → v ≤ i → get_or (stands ts ws) i 0 ≡ unsigned (coefficient ts (suc i))
  unfolding stands coefficient rising_above unsigned
  at_place v [] ws n z r l = z
  at_place v (t ∷ ts) ws n z r l =
      further t ts ws n z (ltb-true _ _ (and_left _ _ r)) l (and_right _ _ r)
      (λ u. at_place t.variable ts (set ws (t.variable - 1) (unsigned t.weight)) (length-set ws _ _ ∙ n) u (and_right _ _ r))

-- The whole section.
get_d_row : (f : ℕ → ℕ) (x k i : ℕ) → i < k → get_or (map f (row x k)) i 0 ≡ f (x + i)
unfolding row
get_d_row f x zero i h = absurd (omega arith)
get_d_row f x (suc k) zero h = ap f (sym (add-zero x))
get_d_row f x (suc k) (suc i) h = get_d_row f (suc x) k i (omega arith) ∙ ap f (let e : suc x + i ≡ x + suc i = omega arith in e)

pub dense :
    (n : ℕ) (ts : List Term) (h : ℕ → ℕ) → n ≤ 512 → LawfulTerms n ts → ((x : ℕ) → 1 ≤ x → unsigned (coefficient ts x) ≡ h x)
    → placed ts (replicate objective_size 0) ≡ word_bytes (map h (row 1 512))
unfolding rising
dense n ts h small q same =
    let zs : List ℕ = replicate 512 0 in
    let z : length zs ≡ 512 = length-replicate {A = ℕ} 512 0 in
    let r = lawful_range n 0 ts small q.rise q.within in
    let m : length (map h (row 1 512)) ≡ 512 = length-map (row 1 512) h ∙ length_row 1 512 in
    ap (placed ts) (sym (word_bytes_zeros 512))
    ∙ placed_words ts zs z r
    ∙ ap word_bytes
    (ext_get_or 0 (stands ts zs) (map h (row 1 512)) (length_stands ts zs ∙ z ∙ sym m)
    (λ i l.
    let b : i < 512 = omega (arith, length_stands ts zs, z) in
    at_place i b 0 ts zs z (get_or-replicate 512 i 0 0 b) q.rise (omega arith)
    ∙ same (suc i) (omega arith) ∙ sym (get_d_row h 1 512 i b ∙ ap h (one-add i))))

-- Terms written one after the other: what those left would still write over the table is what all write over the first.
pub record Placing (ts : List Term) (o : List ℕ) (left : List Term) (t : List ℕ) : Type 0 where
  pub whole : placed left t ≡ placed ts o
  pub range : in_range left ≡ true
  pub long : length t ≡ objective_size
  pub same : length t ≡ length o

module _ {ts : List Term} {o : List ℕ} {left : List Term} {t : List ℕ} (h : Placing ts o left t) where
  module _ (x : Term) (rest : List Term) (e : left ≡ x ∷ rest) where
    range_here : in_range (x ∷ rest) ≡ true
    range_here = ap in_range (sym e) ∙ h.range

    pub place_range : (1 ≤ x.variable) × (x.variable ≤ 512)
    place_range = ranged x rest range_here

    pub placing_more : (u : List ℕ) → u ≡ put (4 * (x.variable - 1)) (bytes_of 4 (unsigned x.weight)) t → Placing ts o rest u
    unfolding placed
    placing_more u k =
        let (a, c) = place_range in
        let w = bytes_of 4 (unsigned x.weight) in
        let long : length u ≡ length t =
        ap length k ∙ length_put (4 * (x.variable - 1)) w t (omega (arith, length_bytes_of 4 (unsigned x.weight), h.long)) in
        record {
          whole = ap (placed rest) k ∙ ap (λ (l : List Term). placed l t) (sym e) ∙ h.whole;
          range = range_rest x rest range_here;
          long = long ∙ h.long;
          same = long ∙ h.same;
        }

  pub placing_end : left ≡ [] → t ≡ placed ts o
  unfolding placed
  placing_end e = ap (λ (l : List Term). placed l t) (sym e) ∙ h.whole

-- A field's terms, and the locks of one, by their places.
terms_row : (s : List ℕ) (from i k : ℕ) → map (λ j. term_at s (from + 6 * j)) (row i k) ≡ terms_at s (from + 6 * i) k
unfolding row terms_at
terms_row s from i zero = refl
terms_row s from i (suc k) =
    ap (λ (ts : List Term). term_at s (from + 6 * i) ∷ ts)
    (terms_row s from (suc i) k ∙ ap (λ (a : ℕ). terms_at s a k) (let e : from + 6 * suc i ≡ from + 6 * i + 6 = omega arith in e))

terms_by_place : (s : List ℕ) (from k : ℕ) → map (λ j. term_at s (from + 6 * j)) (row 0 k) ≡ terms_at s from k
terms_by_place s from k = terms_row s from 0 k ∙ ap (λ (a : ℕ). terms_at s a k) (let e : from + 6 * 0 ≡ from = omega arith in e)

locks_row : (s : List ℕ) (from i k : ℕ) → map (λ j. lock_term (lock_entry s (from + 3 * j))) (row i k) ≡ map lock_term (lock_entries s (from + 3 * i) k)
unfolding row lock_entries
locks_row s from i zero = refl
locks_row s from i (suc k) =
    ap (λ (ts : List Term). lock_term (lock_entry s (from + 3 * i)) ∷ ts)
    (locks_row s from (suc i) k ∙ ap (λ (a : ℕ). map lock_term (lock_entries s a k)) (let e : from + 3 * suc i ≡ from + 3 * i + 3 = omega arith in e))

locks_by_place : (s : List ℕ) (from k : ℕ) → map (λ j. lock_term (lock_entry s (from + 3 * j))) (row 0 k) ≡ map lock_term (lock_entries s from k)
locks_by_place s from k = locks_row s from 0 k ∙ ap (λ (a : ℕ). map lock_term (lock_entries s a k)) (let e : from + 3 * 0 ≡ from = omega arith in e)

-- Each of terms that have their places has one.
range_by : (g : ℕ → Term) (i j : ℕ) → Dec (i ≡ j) → (1 ≤ (g i).variable) × ((g i).variable ≤ 512)
    → ((i ≡ j → ⊥) → (1 ≤ (g j).variable) × ((g j).variable ≤ 512)) → (1 ≤ (g j).variable) × ((g j).variable ≤ 512)
range_by g i j (yes e) h f = subst (λ (n : ℕ). (1 ≤ (g n).variable) × ((g n).variable ≤ 512)) e h
range_by g i j (no q) h f = f q

range_at : (g : ℕ → Term) (i k j : ℕ) → in_range (map g (row i k)) ≡ true → i ≤ j → j < i + k → (1 ≤ (g j).variable) × ((g j).variable ≤ 512)
unfolding row
range_at g i zero j h low high = absurd (omega arith)
range_at g i (suc k) j h low high =
    range_by g i j (ℕ_discrete i j) (ranged (g i) (map g (row (suc i) k)) h)
    (λ q. range_at g (suc i) k j (range_rest (g i) (map g (row (suc i) k)) h) (omega (arith, q)) (omega arith))

range_of : (g : ℕ → Term) (n i : ℕ) {x : ℕ} → in_range (map g (row 0 n)) ≡ true → i < n → x ≡ (g i).variable → (1 ≤ x) × (x ≤ 512)
range_of g n i h l p = let (a, b) = range_at g 0 n i h (omega arith) (omega arith) in (omega (arith, p), omega (arith, p))

-- Terms written one after the other: what those left would still write is what all write over the first.
module _ (g : ℕ → Term) (n : ℕ) (o : List ℕ) where
  unfoldable pub Laying : ℕ → List ℕ → Type 0
  Laying i t = placed (map g (row i (n - i))) t ≡ placed (map g (row 0 n)) o

  pub laying_start : Laying 0 o
  unfolding Laying
  laying_start = ap (λ (k : ℕ). placed (map g (row 0 k)) o) (all_left n)

  module _ (i : ℕ) (t : List ℕ) (h : Laying i t) where
    pub laying_more : {x v : ℕ} (u : List ℕ) → i < n → x ≡ (g i).variable → v ≡ unsigned (g i).weight → u ≡ put (4 * (x - 1)) (bytes_of 4 v) t → Laying (i + 1) u
    unfolding Laying placed row
    laying_more {x} {v} u l p q e =
        ap (placed (map g (row (i + 1) (n - (i + 1))))) (e ∙ ap₂ (λ (a b : ℕ). put (4 * (a - 1)) (bytes_of 4 b) t) p q)
        ∙ ap (λ (a : ℕ). placed (map g (row a (n - (i + 1)))) (put (4 * ((g i).variable - 1)) (bytes_of 4 (unsigned (g i).weight)) t)) (add-one i)
        ∙ sym (ap (λ (k : ℕ). placed (map g (row i k)) t) (one_less l))
        ∙ h

    pub laying_end : n ≤ i → t ≡ placed (map g (row 0 n)) o
    unfolding Laying placed row
    laying_end l = sym (ap (λ (k : ℕ). placed (map g (row i k)) t) (none_left l)) ∙ h

-- What is read of a term, and of a lock.
pub term_lays : (s : List ℕ) (at : ℕ) {x v : ℕ} → x ≡ num_at 2 s at → v ≡ num_at 4 s (at + 2) → Below 256 s → (x ≡ (term_at s at).variable) × (v ≡ unsigned (term_at s at).weight)
unfolding term_at
term_lays s at p q b = (p, q ∙ sym (unsigned_signed (num_at 4 s (at + 2)) (num_at_lt 4 s (at + 2) b)))

lock_weight : (b : Bool) → cond b 2 1 ≡ unsigned (cond b (pos 2) (pos 1))
unfolding unsigned
lock_weight true = refl
lock_weight false = refl

pub lock_lays :
    (s : List ℕ) (at : ℕ) {x v : ℕ} → x ≡ num_at 2 s at → v ≡ cond (eqb (get_or s (at + 2) 0) 1) 2 1
    → (x ≡ (lock_term (lock_entry s at)).variable) × (v ≡ unsigned (lock_term (lock_entry s at)).weight)
unfolding lock_term lock_entry tag_at
lock_lays s at p q = (p, q ∙ ap (λ (m : ℕ). cond (eqb m 1) 2 1) (tag_byte s (at + 2)) ∙ lock_weight (eqb (num_at 1 s (at + 2)) 1))

-- The objective of an accepted file.
module _ (s : List ℕ) (p : Plan) (a : read s ≡ accepted p) (k : ℕ) (e : k ≡ num_at 2 s 6) where
  objective_terms : p.objective ≡ terms_at s 8 (k / 6)
  unfolding length_at
  objective_terms = (begun_file s p a).objective ∙ ap (λ (n : ℕ). terms_at s 8 (n / 6)) (sym e)

  pub objective_room : 8 + 6 * (k / 6) ≤ length s
  unfolding behind_objective length_at
  objective_room = omega (arith, e, begun_front s p a)

  objective_range : in_range (terms_at s 8 (k / 6)) ≡ true
  unfolding rising
  objective_range =
      let q = lawful_file s p a in
      ap in_range (sym objective_terms) ∙ lawful_range p.variables 0 p.objective q.high q.objective.rise q.objective.within

  pub objective_ranged : (i : ℕ) {x : ℕ} → i < k / 6 → x ≡ (term_at s (8 + 6 * i)).variable → (1 ≤ x) × (x ≤ 512)
  objective_ranged i = range_of (λ j. term_at s (8 + 6 * j)) (k / 6) i (ap in_range (terms_by_place s 8 (k / 6)) ∙ objective_range)

  pub objective_done :
      (o t u : List ℕ) → length o ≡ objective_size → t ≡ replicate (length o) 0 → u ≡ placed (map (λ j. term_at s (8 + 6 * j)) (row 0 (k / 6))) t
      → u ≡ word_bytes (objective_words p)
  unfolding objective_words
  objective_done o t u n c r =
      let q = lawful_file s p a in
      r
      ∙ ap (λ (ts : List Term). placed ts t) (terms_by_place s 8 (k / 6) ∙ sym objective_terms)
      ∙ ap (placed p.objective) (c ∙ ap (λ (m : ℕ). replicate m 0) n)
      ∙ dense p.variables p.objective (λ x. unsigned (coefficient p.objective x)) q.high q.objective (λ x l. refl)

-- Its locks.
module _ (s : List ℕ) (p : Plan) (a : read s ≡ accepted p) (at k : ℕ) (place : at ≡ behind_objective s) (e : k ≡ locks_in s at) where
  entries : (b : Bool) (at : ℕ) → eqb (tag_at s at) 6 ≡ b → field_locks s at ≡ lock_entries s (at + 3) (locks_in s at)
  unfolding field_locks locks_in lock_entries
  entries true at t = rw t
  entries false at t = rw t

  locks_terms : lock_terms p ≡ map lock_term (lock_entries s (at + 3) k)
  locks_terms =
      ap (map lock_term)
      ((begun_file s p a).locks ∙ ap (field_locks s) (sym place) ∙ entries _ at refl ∙ ap (lock_entries s (at + 3)) (sym e))

  in_field : (b : Bool) → eqb (tag_at s at) 6 ≡ b → 3 * locks_in s at ≤ length_at s at
  unfolding locks_in
  in_field true t = rw t (omega arith)
  in_field false t = rw t (omega arith)

  pub locks_room : at + 3 + 3 * k ≤ length s
  unfolding behind_field
  locks_room = omega (arith, e, in_field _ refl, ap (λ (n : ℕ). n + 3 + length_at s n) place, (begun_file s p a).body)

  locks_range : in_range (map lock_term (lock_entries s (at + 3) k)) ≡ true
  unfolding rising
  locks_range =
      let q = lawful_file s p a in
      ap in_range (sym locks_terms) ∙ lawful_range p.variables 0 (lock_terms p) q.high q.locks.rise q.locks.within

  pub locks_ranged : (i : ℕ) {x : ℕ} → i < k → x ≡ (lock_term (lock_entry s (at + 3 + 3 * i))).variable → (1 ≤ x) × (x ≤ 512)
  locks_ranged i = range_of (λ j. lock_term (lock_entry s (at + 3 + 3 * j))) k i (ap in_range (locks_by_place s (at + 3) k) ∙ locks_range)

  pub locks_done :
      (o t u : List ℕ) → length o ≡ objective_size → t ≡ replicate (length o) 0 → u ≡ placed (map (λ j. lock_term (lock_entry s (at + 3 + 3 * j))) (row 0 k)) t
      → u ≡ word_bytes (lock_words p)
  unfolding lock_words
  locks_done o t u n c r =
      let q = lawful_file s p a in
      r
      ∙ ap (λ (ts : List Term). placed ts t) (locks_by_place s (at + 3) k ∙ sym locks_terms)
      ∙ ap (placed (lock_terms p)) (c ∙ ap (λ (m : ℕ). replicate m 0) n)
      ∙ dense p.variables (lock_terms p) (λ x. lock_word (lock_of p x)) q.high q.locks (λ x l. lock_dense p x q.locks.within l)
