-- The test of the order says that it is the order of the plan in the tables: each run is of rising rules and of terms that name its variable, and all runs
-- together are as many as the terms, so that none of them lacks one.
-- Assumes nothing.
use Prim.Native.Nat.{ℕ, zero, suc, ◌+◌, ◌-◌, ◌≤◌, ◌<◌}
use native.Mathlib.Nat.{add-zero, add-suc, suc-add}
use native.Mathlib.Omega.{arith}
use mathlib.Core.Path.{◌≡◌, refl, sym, ap, ◌∙◌, subst}
use mathlib.Core.Bool.{Bool, true, false}
use mathlib.Core.List.{List, [], ◌∷◌, map, map-map}
use lib.Dec.{T, leb, eqb, le→leb}
use lib.ListN.{length, take, drop}
use borrow.Author.Tests.{leb-true, leb-false, eqb-true, le-leb, eq-eqb}
use Rattle.plpb.specs.Lists.{all, row}
use Rattle.plpb.specs.Plan.{Plan}
use Rattle.plpb.specs.Tallies.{rules_of}
use Rattle.plpb.proofs.Lists.{and_both}
use Rattle.plpb.proofs.Lists.{and_left as left_of, and_right as right_of}
use Rattle.order.specs.Order.{Place, occurrences, order, run_end, cut, is_place, names_at, rise_within, place_word, word_place}
use Rattle.order.proofs.Runs.{Run, occurrences_run, named_of, named_below}
use Rattle.order.proofs.Tested.{Tested, tested_order, tested_ends, run_cut, end_next, ends_ordered, first_end_lem, last_end}
use Rattle.order.proofs.Words.{Small, place_back, words_order}
use Rattle.format.specs.Layout.{end_at, entry_at, order_at}
use Rattle.format.specs.Good.{every_from, entries_from, run_good, order_good}
use Rattle.format.proofs.Bools.{T_true, true_T, and_left, and_right, and_join}
use Rattle.format.proofs.Lists.{length_spread}
use Rattle.format.proofs.Lawful.{RoomyPlan}
use Rattle.format.proofs.Naming.{numbers_rise_lem, numbers_within_lem, place_small}
use Rattle.format.proofs.Good.{every_at, every_all}
use Rattle.format.proofs.Spells.{Spells, spells_map, row_spells}
use Rattle.format.proofs.Sections.{Sections, length_order_entries}
use Rattle.format.proofs.Arranged.{Arranged}
use Rattle.format.proofs.Placed.{entry_names, names_entry}

-- ---- parts of a row

take_row : {A : Type 0} (h : ℕ → A) (i k j : ℕ) → j ≤ k → take j (map h (row i k)) ≡ map h (row i j)
unfolding row
take_row h i k zero l = refl
take_row h i zero (suc j) l = absurd (omega arith)
take_row h i (suc k) (suc j) l = ap (λ us. h i ∷ us) (take_row h (suc i) k j (omega arith))

drop_row : {A : Type 0} (h : ℕ → A) (i k j : ℕ) → j ≤ k → drop j (map h (row i k)) ≡ map h (row (i + j) (k - j))
unfolding row
drop_row h i k zero l = let z : k - 0 ≡ k = omega arith in rw (add-zero i, z) refl
drop_row h i zero (suc j) l = absurd (omega arith)
drop_row h i (suc k) (suc j) l =
    let z : suc k - suc j ≡ k - j = omega arith in
    rw (add-suc i j, ← suc-add i j, z) (drop_row h (suc i) k j (omega arith))

cut_row : {A : Type 0} (h : ℕ → A) (i k b e : ℕ) → b ≤ e → e ≤ k → cut b e (map h (row i k)) ≡ map h (row (i + b) (e - b))
unfolding cut
cut_row h i k b e l u = rw (drop_row h i k b (omega arith)) (take_row h (i + b) (k - b) (e - b) (omega arith))

row_spelt : (f : ℕ → ℕ) (i k : ℕ) → Spells f i (map f (row i k))
row_spelt f i k = row_spells f f i i k (λ j h. refl)

spells_cut : (f : ℕ → ℕ) (i : ℕ) (ws : List ℕ) (b e : ℕ) → b ≤ e → e ≤ length ws → Spells f i ws → Spells f (i + b) (cut b e ws)
spells_cut f i ws b e l u s =
    subst (Spells f (i + b)) (sym (cut_row f i (length ws) b e l u) ∙ ap (cut b e) (spells_map f i ws s)) (row_spelt f (i + b) (e - b))

map_take : {A B : Type 0} (h : A → B) (n : ℕ) (xs : List A) → map h (take n xs) ≡ take n (map h xs)
map_take h zero xs = refl
map_take h (suc n) [] = refl
map_take h (suc n) (x ∷ xs) = ap (λ us. h x ∷ us) (map_take h n xs)

map_drop : {A B : Type 0} (h : A → B) (n : ℕ) (xs : List A) → map h (drop n xs) ≡ drop n (map h xs)
map_drop h zero xs = refl
map_drop h (suc n) [] = refl
map_drop h (suc n) (x ∷ xs) = map_drop h n xs

words_cut : (p : Plan) (x : ℕ) → 1 ≤ x → x ≤ p.variables → cut (run_end p (x - 1)) (run_end p x) (map (place_word p) (order p)) ≡ map (place_word p) (occurrences p x)
words_cut p x low high =
    unfold cut in ap (take (run_end p x - run_end p (x - 1))) (sym (map_drop (place_word p) (run_end p (x - 1)) (order p)))
    ∙ sym (map_take (place_word p) (run_end p x - run_end p (x - 1)) (drop (run_end p (x - 1)) (order p)))
    ∙ ap (map (place_word p)) (run_cut p x low high)

-- The words of a variable's run, where the order stands in the tables.
pub run_words : (p : Plan) → RoomyPlan p → (f : ℕ → ℕ) → Arranged p f → (x : ℕ) → 1 ≤ x → x ≤ p.variables → Spells f (entry_at (run_end p (x - 1))) (map (place_word p) (occurrences p x))
run_words p l f a x low high =
    let size = end_next p x low in
    let most = ends_ordered p x p.variables high in
    let total = last_end p (numbers_within_lem p l) in
    subst (Spells f (entry_at (run_end p (x - 1)))) (words_cut p x low high)
    (spells_cut f order_at (map (place_word p) (order p)) (run_end p (x - 1)) (run_end p x) (omega (arith, size)) (omega (arith, most, total, length_order_entries p l)) a.entries)

-- A place that there is, is that of its word.
pub word_back : (p : Plan) (q : Place) → Small q → word_place (place_word p q) ≡ q
unfolding place_word
word_back p q small = place_back _ q _ small

module _ (p : Plan) (l : RoomyPlan p) (f g : ℕ → ℕ) (s : Sections p f g) where
  abbrev place_at : ℕ → Place
  place_at k = word_place (f k)

  -- ---- a run that passes

  run_rises : (x v k j : ℕ) → v ≤ length (rules_of p) → entries_from f g x v k j ≡ true → T (rise_within v (length (rules_of p)) (map (λ q. q.rule) (map place_at (row (entry_at k) j))))
  unfolding entries_from row rise_within
  run_rises x v k zero h t = le→leb v (length (rules_of p)) h
  run_rises x v k (suc j) h t =
      let e = entry_names p l f g s x v (f (entry_at k)) (and_left _ _ t) in
      let below = named_below p x (place_at (entry_at k)) (named_of p x (place_at (entry_at k)) e.1) in
      let next : entry_at (suc k) ≡ suc (entry_at k) = omega arith in
      and_both (leb v (place_at (entry_at k)).rule) _ (le→leb v (place_at (entry_at k)).rule e.0)
      (subst (λ i. T (rise_within (suc (place_at (entry_at k)).rule) (length (rules_of p)) (map (λ q. q.rule) (map place_at (row i j))))) next
      (run_rises x (suc (place_at (entry_at k)).rule) (suc k) j (omega (arith, below)) (and_right _ _ t)))

  run_names : (x v k j : ℕ) → entries_from f g x v k j ≡ true → T (all (names_at p x) (map place_at (row (entry_at k) j)))
  unfolding entries_from row all
  run_names x v k zero t = tt
  run_names x v k (suc j) t =
      let e = entry_names p l f g s x v (f (entry_at k)) (and_left _ _ t) in
      let next : entry_at (suc k) ≡ suc (entry_at k) = omega arith in
      and_both (names_at p x (place_at (entry_at k))) _ e.1
      (subst (λ i. T (all (names_at p x) (map place_at (row i j)))) next (run_names x (suc (place_at (entry_at k)).rule) (suc k) j (and_right _ _ t)))

  abbrev spelt : ℕ → Bool
  spelt k = eqb (f k) (place_word p (word_place (f k)))

  run_spelt : (x v k j : ℕ) → entries_from f g x v k j ≡ true → every_from spelt (entry_at k) j ≡ true
  unfolding entries_from every_from
  run_spelt x v k zero t = refl
  run_spelt x v k (suc j) t =
      let e = entry_names p l f g s x v (f (entry_at k)) (and_left _ _ t) in
      let next : entry_at (suc k) ≡ suc (entry_at k) = omega arith in
      and_join _ _ (eq-eqb _ _ e.2)
      (subst (λ i. every_from spelt i j ≡ true) next (run_spelt x (suc (place_at (entry_at k)).rule) (suc k) j (and_right _ _ t)))

  -- ---- the order that passes

  module _ (t : order_good f g ≡ true) where
    abbrev n : ℕ
    n = p.variables

    abbrev ends : ℕ → ℕ
    ends x = f (end_at x)

    abbrev places : List Place
    places = map place_at (row order_at (f 3))

    begins : ends 0 ≡ 0
    unfolding order_good
    begins = eqb-true _ _ (and_left _ _ (and_left _ _ (and_left _ _ (and_left _ _ t))))

    last : ends n ≡ f 3
    unfolding order_good
    last = rw s.variables at (eqb-true (f (end_at (f 0))) (f 3) (and_right _ _ (and_left _ _ (and_left _ _ t))))

    run_good_lem : (x : ℕ) → 1 ≤ x → x ≤ n → run_good f g x ≡ true
    unfolding order_good
    run_good_lem x low high =
        every_at (run_good f g) 1 (f 0) (and_right _ _ (and_left _ _ (and_left _ _ (and_left _ _ t)))) x low (omega (arith, s.variables))

    grow : (x : ℕ) → 1 ≤ x → x ≤ n → ends (x - 1) ≤ ends x
    unfolding run_good
    grow x low high = leb-true _ _ (and_left _ _ (and_left _ _ (run_good_lem x low high)))

    inside : (x : ℕ) → 1 ≤ x → x ≤ n → ends x ≤ f 3
    unfolding run_good
    inside x low high = leb-true _ _ (and_right _ _ (and_left _ _ (run_good_lem x low high)))

    entries : (x : ℕ) → 1 ≤ x → x ≤ n → entries_from f g x 0 (ends (x - 1)) (ends x - ends (x - 1)) ≡ true
    unfolding run_good
    entries x low high = and_right _ _ (run_good_lem x low high)

    tested : Tested p places ends
    tested = record {
      begins = begins;
      grow = λ x h. let z : suc x - 1 ≡ x = omega arith in rw z at (grow (suc x) (omega arith) h);
      last = last ∙ sym (length_spread place_at order_at (f 3));
      size = length_spread place_at order_at (f 3) ∙ s.terms;
      runs = λ x low high. subst (Run p x) (sym (cut_row place_at order_at (f 3) (ends (x - 1)) (ends x) (grow x low high) (inside x low high)))
          (record { rise = run_rises x 0 (ends (x - 1)) (ends x - ends (x - 1)) (omega arith) (entries x low high); names = run_names x 0 (ends (x - 1)) (ends x - ends (x - 1)) (entries x low high) });
    }

    -- Each word is that of its place, run by run.
    spelt_below : (x : ℕ) → x ≤ n → every_from spelt order_at (ends x) ≡ true
    spelt_below zero h = rw begins (unfold every_from in refl)
    spelt_below (suc x) h =
        let z : suc x - 1 ≡ x = omega arith in
        let up : ends x ≤ ends (suc x) = rw z at (grow (suc x) (omega arith) h) in
        joined (ends x) (ends (suc x)) up (spelt_below x (omega arith)) (rw z at (run_spelt (suc x) 0 (ends (suc x - 1)) (ends (suc x) - ends (suc x - 1)) (entries (suc x) (omega arith) h)))
      where
        joined : (b e : ℕ) → b ≤ e → every_from spelt order_at b ≡ true → every_from spelt (entry_at b) (e - b) ≡ true → every_from spelt order_at e ≡ true
        joined b e up first rest =
            every_all spelt order_at e (λ j lo hi. at j lo hi (leb j (entry_at b - 1)) refl)
          where
            at : (j : ℕ) → order_at ≤ j → j < order_at + e → (c : Bool) → leb j (entry_at b - 1) ≡ c → spelt j ≡ true
            at j lo hi true c = every_at spelt order_at b first j lo (omega (arith, leb-true j (entry_at b - 1) c))
            at j lo hi false c = every_at spelt (entry_at b) (e - b) rest j (omega (arith, leb-false j (entry_at b - 1) c)) (omega arith)

    every_spelt : (i k : ℕ) → every_from spelt i k ≡ true → T (all (λ w. eqb w (place_word p (word_place w))) (map f (row i k)))
    unfolding every_from row all
    every_spelt i zero h = tt
    every_spelt i (suc k) h = and_both (spelt i) _ (true_T _ (and_left _ _ h)) (every_spelt (suc i) k (and_right _ _ h))

    pub good_arranged : Arranged p f
    unfolding order_good
    good_arranged =
        let rise = numbers_rise_lem p l in
        let within = numbers_within_lem p l in
        let same : map word_place (map f (row order_at (f 3))) ≡ order p = map-map word_place f (row order_at (f 3)) ∙ tested_order p places ends rise within tested in
        let words : map f (row order_at (f 3)) ≡ map (place_word p) (order p) = words_order p (map f (row order_at (f 3))) (every_spelt order_at (f 3) (rw last at (spelt_below n (omega arith)))) same in
        record {
          ends = tested_ends p places ends rise within tested;
          ends_rest = rw s.variables at (and_right _ _ (and_left _ _ t));
          entries = subst (Spells f order_at) words (row_spelt f order_at (f 3));
          entries_rest = rw s.terms at (and_right _ _ t);
        }

  -- ---- the order of the plan passes

  module _ (a : Arranged p f) where
    run_entries : (x v k : ℕ) (qs : List Place) → Spells f (entry_at k) (map (place_word p) qs) → T (rise_within v (length (rules_of p)) (map (λ q. q.rule) qs)) → T (all (names_at p x) qs) → entries_from f g x v k (length qs) ≡ true
    unfolding Spells rise_within all entries_from names_at
    run_entries x v k [] e r t = refl
    run_entries x v k (q ∷ qs) e r t =
        let names = left_of (names_at p x q) (all (names_at p x) qs) t in
        let small = place_small p l q (left_of (is_place p q) _ names) in
        let low = leb-true v q.rule (T_true _ (left_of (leb v q.rule) _ r)) in
        let next : suc (entry_at k) ≡ entry_at (suc k) = omega arith in
        let back : word_place (f (entry_at k)) ≡ q = ap word_place e.0 ∙ word_back p q small in
        and_join _ _ (rw e.0 (names_entry p l f g s x v q small low names))
        (rw back
        (run_entries x (suc q.rule) (suc k) qs (subst (λ i. Spells f i (map (place_word p) qs)) next e.1) (right_of (leb v q.rule) _ r) (right_of (names_at p x q) (all (names_at p x) qs) t)))

    run_passes : (x : ℕ) → 1 ≤ x → x ≤ f 0 → run_good f g x ≡ true
    unfolding run_good
    run_passes x low high =
        let n : x ≤ p.variables = omega (arith, s.variables) in
        let first : f (end_at (x - 1)) ≡ run_end p (x - 1) = a.ends (x - 1) (omega arith) in
        let end : f (end_at x) ≡ run_end p x = a.ends x n in
        let size = end_next p x low in
        let most = ends_ordered p x p.variables n in
        let total = last_end p (numbers_within_lem p l) in
        let r = occurrences_run p x (numbers_rise_lem p l) in
        let here = run_words p l f a x low n in
        let long : length (occurrences p x) ≡ run_end p x - run_end p (x - 1) = omega (arith, size) in
        rw (first, end)
        (and_join _ _ (and_join _ _ (le-leb (run_end p (x - 1)) (run_end p x) (omega (arith, size))) (le-leb (run_end p x) (f 3) (omega (arith, most, total, s.terms))))
        (rw long at (run_entries x 0 (run_end p (x - 1)) (occurrences p x) here r.rise r.names)))

    pub arranged_good : order_good f g ≡ true
    unfolding order_good
    arranged_good =
        let total = last_end p (numbers_within_lem p l) in
        and_join _ _
        (and_join _ _
        (and_join _ _
        (and_join _ _ (eq-eqb (f (end_at 0)) 0 (a.ends 0 (omega arith) ∙ first_end_lem p))
        (every_all (run_good f g) 1 (f 0) (λ x lo hi. run_passes x lo (omega arith))))
        (eq-eqb (f (end_at (f 0))) (f 3) (ap (λ x. f (end_at x)) s.variables ∙ a.ends p.variables (omega arith) ∙ total ∙ sym s.terms)))
        (rw s.variables a.ends_rest))
        (rw s.terms a.entries_rest)
