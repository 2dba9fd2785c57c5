-- The choice over a clause's list: a pick among those picked out, or among all of the list; the noise.
-- Assumes nothing.
use Prim.Native.Nat.{ℕ, zero, suc, ◌+◌, ◌/◌, ◌≤◌, ◌<◌, min}
use native.Mathlib.Decide.{dec_le}
use native.Mathlib.Omega.{arith}
use borrow.Author.Tests.{eq-eqb, ne_eqb}
use mathlib.Core.Path.{◌≡◌, refl, sym, ap, subst, ◌∙◌}
use mathlib.Core.Bool.{Bool, true, false, cond}
use mathlib.Core.List.{List, [], ◌∷◌, map}
use lib.Dec.{T, eqb, leb, ltb, le→leb}
use lib.ListN.{length, get_or}
use Rattle.plpb.specs.Lists.{◌and◌, all, keep, is_empty, row}
use Rattle.plpb.specs.Plan.{Clause, Plan, Assignment}
use Rattle.plpb.specs.Count.{cap, capped_break}
use Rattle.plpb.specs.Expansion.{break_count}
use Rattle.plpb.specs.Numbers.{take_pick}
use Rattle.plpb.specs.Walk.{at}
use Rattle.plpb.specs.Settings.{Settings}
use Rattle.plpb.specs.Try.{Try}
use Rattle.plpb.specs.Choice.{choosable, pick_from, least_break, with_break, noisy_choice, skc_choice}
use Rattle.plpb.proofs.Lists.{and_both, all_still}
use Rattle.plpb.proofs.Capped.{capped_most}
use Rattle.words.specs.Words.{word_at}
use Rattle.format.proofs.Spells.{spells_all, spells_map}
use Rattle.columns.specs.Layout.{column_size, list_at, picks_at}
use Rattle.columns.specs.Columns.{terms_ahead, words_from, Listed}
use Rattle.std.specs.Prelude.{Result, Ok, Err}
use Rattle.numbers.specs.declared.Drawn.{Drawn}
use Rattle.numbers.specs.declared.Short.{Short}
use Rattle.numbers.specs.Numbers.{numbers_of}
use Rattle.numbers.specs.Taking.{taken_of}
use Rattle.numbers.proofs.Taking.{length_numbers_of, picked_at, picked_short, pick_uses, pick_gone}
use Rattle.numbers.proofs.Runs.{empty_by_length, noisy_least, noisy_any, noisy_short, skc_free, skc_noisy}
use Rattle.picks.specs.declared.choice.Choice.{Choice}
use Rattle.picks.specs.Picks.{Noted, Picks, Picked}
use Rattle.picks.specs.Choice.{plan, variables}
use Rattle.picks.proofs.Noting.{noted_weighed, noted_listed, list_few, list_ends, rankable_list, rankable}
use Rattle.picking.specs.Outcome.{Chosen, outcome_of, used_by, Among, Chooses, PickListed, is_one}
use Rattle.picking.proofs.Picking.{later}
use Rattle.skc.specs.Choosing.{Choosable, Drawable}

-- ---- variables of the plan

ones : (n i k : ℕ) → 1 ≤ i → i + k ≤ suc n → T (all (is_one n) (row i k))
unfolding row all is_one
ones n i zero l h = tt
ones n i (suc k) l h = and_both (leb 1 i and leb i n) (all (is_one n) (row (suc i) k)) (and_both (leb 1 i) (leb i n) (le→leb 1 i l) (le→leb i n (omega arith))) (ones n (suc i) k (omega arith) (omega arith))

pub list_ones : (p : Plan) (k : Clause) → T (all (is_one p.variables) (choosable p k))
unfolding choosable
list_ones p k = all_still _ (is_one p.variables) (row 1 p.variables) (ones p.variables 1 p.variables (omega arith) (omega arith))

pub with_ones : (p : Plan) (a : Assignment) (b n : ℕ) (xs : List ℕ) → T (all (is_one n) xs) → T (all (is_one n) (with_break p a b xs))
unfolding with_break
with_ones p a b n xs h = all_still _ (is_one n) xs h

-- ---- the words of picks and lists

pub picks_words : {ys t : List ℕ} {r : ℕ} → r ≡ length ys → Picks ys t → words_from (word_at t) picks_at r ≡ ys
unfolding words_from
picks_words {ys} {t} e k = ap (λ n. map (word_at t) (row picks_at n)) e ∙ spells_map (word_at t) picks_at ys (spells_all (word_at t) picks_at ys 0 k.each)

pub list_words : {p : Plan} {t : List ℕ} {c n : ℕ} → Listed p t → c < length p.clauses → n ≡ length (choosable p (get_or p.clauses c [])) → words_from (word_at t) (list_at (terms_ahead p c)) n ≡ choosable p (get_or p.clauses c [])
list_words {p} {t} {c} k h e = ap (words_from (word_at t) (list_at (terms_ahead p c))) e ∙ (k.each c h).listed

-- ---- a pick among those picked out

module _ {p : Plan} {numbers marks t ys : List ℕ} {used r : ℕ} (room : column_size ≤ length marks) (h : Picked p ys marks t r) (some : 0 < length ys) (listed : used ≤ length numbers / 4) where
  pub picks_pickable : PickListed numbers used t picks_at r
  picks_pickable = record { some = omega (arith, h.counted, some); few = omega (arith, h.counted, h.picks.few); inside = omega (arith, h.counted, h.picks.few); room = rw h.noted.size room; listed = listed }

pub picks_chosen : {p : Plan} {marks t ys ns : List ℕ} {used r n : ℕ} {q : Result Chosen Short} → Picked p ys marks t r → T (all (is_one n) ys)
    → ((m : ℕ) → T (all (is_one m) (words_from (word_at t) picks_at r)) → Chooses (pick_from 0 (words_from (word_at t) picks_at r)) ns used m q)
    → Chooses (pick_from 0 ys) ns used n q
picks_chosen {ns = ns} {used = used} {n = n} {q = q} h one f =
    let e = picks_words h.counted h.picks in
    subst (λ xs. Chooses (pick_from 0 xs) ns used n q) e (f n (rw e one))

-- ---- a pick among all of the list

module _ {q : Choice} {marks numbers : List ℕ} {used : ℕ} (k : Drawable q marks numbers used) {start n : ℕ} (e : start ≡ list_at (terms_ahead (plan q) q.clause)) (f : n ≡ length (variables q)) where
  pub list_pickable : PickListed numbers used marks start n
  list_pickable =
      let p = rankable_list q k.marked in
      record { some = omega (arith, f, k.some); few = omega (arith, f, list_few p); inside = omega (arith, e, f, list_ends p); room = p.listed.room; listed = k.listed }

  pub list_chosen : {r : Result Chosen Short}
      → ((m : ℕ) → T (all (is_one m) (words_from (word_at marks) start n)) → Chooses (pick_from 0 (words_from (word_at marks) start n)) (numbers_of numbers) used m r)
      → Chooses (pick_from 0 (variables q)) (numbers_of numbers) used (plan q).variables r
  list_chosen {r} g =
      let words : words_from (word_at marks) start n ≡ variables q = ap (λ i. words_from (word_at marks) i n) e ∙ list_words k.marked.listed q.there f in
      subst (λ xs. Chooses (pick_from 0 xs) (numbers_of numbers) used (plan q).variables r) words (g _ (rw words (list_ones (plan q) _)))

-- ---- the list behind a choice that came to nothing

pub still_to_choose : {q : Choice} {s t numbers : List ℕ} {used after : ℕ} → Noted (plan q) s t → after ≤ length numbers / 4 → Choosable q s numbers used → Choosable q t numbers after
still_to_choose o l k = record {
  marked = record { weighed = noted_weighed o k.marked.weighed; hinted = o.hints k.marked.hinted; listed = noted_listed o k.marked.listed };
  some = k.some;
  listed = l;
}

-- A clause to choose of can be drawn from, and after what noted hints and picks alone it still can.
pub drawable : {q : Choice} {marks numbers : List ℕ} {used : ℕ} → Choosable q marks numbers used → Drawable q marks numbers used
drawable k = record { marked = rankable k.marked; some = k.some; listed = k.listed }

pub still_to_draw : {q : Choice} {s t numbers : List ℕ} {used after : ℕ} → Noted (plan q) s t → after ≤ length numbers / 4 → Drawable q s numbers used → Drawable q t numbers after
still_to_draw o l k = record {
  marked = record { weighed = noted_weighed o k.marked.weighed; listed = noted_listed o k.marked.listed };
  some = k.some;
  listed = l;
}

-- ---- the noise

pub listed_after : (numbers : List ℕ) (used : ℕ) {r : Result (Drawn ℕ) Short} → taken_of r ≡ take_pick 1_000 (numbers_of numbers) used → {d : Drawn ℕ} → r ≡ Ok d → d.used ≤ length numbers / 4
listed_after numbers used e t = let u = pick_uses 1_000 (numbers_of numbers) used (picked_at e t) in omega (arith, u.1, length_numbers_of numbers)

module _ (numbers : List ℕ) {used : ℕ} {r : Result (Drawn ℕ) Short} (e : taken_of r ≡ take_pick 1_000 (numbers_of numbers) used) where
  module _ (s : Settings) (p : Plan) (a : Try) (xs : List ℕ) {n : ℕ} {d : Drawn ℕ} {b : Bool} {q : Result Chosen Short} (t : r ≡ Ok d) (l : b ≡ ltb d.value s.noise) where
    pub by_least : b ≡ true → Chooses (pick_from 0 (with_break p a.bits (least_break p a.bits xs) xs)) (numbers_of numbers) d.used n q → Chooses (noisy_choice s p a xs) (numbers_of numbers) used n q
    by_least g c =
        let u = pick_uses 1_000 (numbers_of numbers) used (picked_at e t) in
        later (λ f fs. noisy_least s p a xs (numbers_of numbers) (at used f fs) (picked_at e t) (sym l ∙ g)) (omega (arith, u.0)) c

    pub by_any : b ≡ false → Chooses (pick_from 0 xs) (numbers_of numbers) d.used n q → Chooses (noisy_choice s p a xs) (numbers_of numbers) used n q
    by_any g c =
        let u = pick_uses 1_000 (numbers_of numbers) used (picked_at e t) in
        later (λ f fs. noisy_any s p a xs (numbers_of numbers) (at used f fs) (picked_at e t) (sym l ∙ g)) (omega (arith, u.0)) c

  pub noisy_gone : (s : Settings) (p : Plan) (a : Try) (xs : List ℕ) {n : ℕ} {z : Short} → r ≡ Err z → used ≤ length numbers / 4 → Chooses (noisy_choice s p a xs) (numbers_of numbers) used n (Err z)
  unfolding outcome_of used_by Among
  noisy_gone s p a xs t h =
      let u = pick_gone 1_000 (numbers_of numbers) used (picked_short e t) in
      record {
        outcome = λ f fs. noisy_short s p a xs (numbers_of numbers) (at used f fs) (picked_short e t);
        among = tt;
        uses = u.0;
        within = u.1 (rw (length_numbers_of numbers) h);
      }

-- ---- the least is some variable's

longer : (o : Bool) (x : ℕ) (xs : List ℕ) → 0 < length xs → 0 < length (cond o (x ∷ xs) xs)
longer true x xs h = omega arith
longer false x xs h = h

module _ (p : Plan) (a : Assignment) where
  count_small : (x : ℕ) → capped_break p a x ≤ suc cap
  unfolding capped_break
  count_small x = capped_most (break_count p a x)

  -- One variable more, before others of which some have the count l.
  attained_more : (x l : ℕ) (xs : List ℕ) → 0 < length (with_break p a l xs) → 0 < length (with_break p a (min (capped_break p a x) l) (x ∷ xs))
  unfolding keep with_break
  attained_more x l xs h = at_most_lem (dec_le (capped_break p a x) l)
    where
      at_most_lem : Dec (capped_break p a x ≤ l) → 0 < length (with_break p a (min (capped_break p a x) l) (x ∷ xs))
      at_most_lem (yes k) =
          let e : min (capped_break p a x) l ≡ capped_break p a x = omega arith in
          rw (e, eq-eqb (capped_break p a x) (capped_break p a x) refl) (omega arith)
      at_most_lem (no k) =
          let e : min (capped_break p a x) l ≡ l = omega arith in
          subst (λ (m : ℕ). 0 < length (with_break p a m (x ∷ xs))) (sym e) (longer (eqb (capped_break p a x) l) x (with_break p a l xs) h)

  least_attained : (x : ℕ) (xs : List ℕ) → 0 < length (with_break p a (least_break p a (x ∷ xs)) (x ∷ xs))
  unfolding least_break keep with_break
  least_attained x [] =
      let e : capped_break p a x ≡ min (capped_break p a x) (suc cap) = omega (arith, count_small x) in
      rw (eq-eqb (capped_break p a x) (min (capped_break p a x) (suc cap)) e) (omega arith)
  least_attained x (y ∷ ys) = attained_more x (least_break p a (y ∷ ys)) (y ∷ ys) (least_attained y ys)

  pub least_some : (xs : List ℕ) → 0 < length xs → 0 < length (with_break p a (least_break p a xs) xs)
  least_some [] h = absurd (omega arith)
  least_some (x ∷ xs) h = least_attained x xs

-- ---- whether some break nothing

module _ (s : Settings) (p : Plan) (a : Try) (xs : List ℕ) {ns : List ℕ} {used n free : ℕ} {q : Result Chosen Short} (e : free ≡ length (with_break p a.bits 0 xs)) where
  pub free_chosen : 0 < free → Chooses (pick_from 0 (with_break p a.bits 0 xs)) ns used n q → Chooses (skc_choice s p a xs) ns used n q
  free_chosen some g =
      let ys = with_break p a.bits 0 xs in
      let z : is_empty ys ≡ false = empty_by_length ys ∙ ne_eqb (length ys) 0 (λ o. omega (arith, e)) in
      later (λ f fs. skc_free s p a xs ns (at used f fs) z) (omega arith) g

  pub noisy_chosen : free ≤ 0 → Chooses (noisy_choice s p a xs) ns used n q → Chooses (skc_choice s p a xs) ns used n q
  noisy_chosen none g =
      let ys = with_break p a.bits 0 xs in
      let z : is_empty ys ≡ true = empty_by_length ys ∙ eq-eqb (length ys) 0 (omega (arith, e)) in
      later (λ f fs. skc_noisy s p a xs ns (at used f fs) z) (omega arith) g
