-- The least break count, one variable after another.
-- Assumes nothing.
use Prim.Native.Nat.{ℕ, suc, ◌+◌, ◌≤◌, ◌<◌, min}
use native.Mathlib.Decide.{dec_lt}
use native.Mathlib.Omega.{arith}
use mathlib.Core.Path.{◌≡◌, refl, sym, ap, ap₂, ◌∙◌, subst}
use mathlib.Core.Bool.{Bool, true, false, cond}
use mathlib.Core.List.{List, [], ◌∷◌, ◌++◌, append-nil}
use lib.Dec.{ltb}
use lib.ListN.{length, get_or, take, length-append, get_or-append}
use lib.Seq.{take-suc, get_or-append_seam}
use borrow.Author.Tests.{lt-ltb, le-ltb, eq-eqb, ne_eqb}
use Rattle.plpb.specs.Lists.{keep}
use Rattle.plpb.specs.Plan.{Plan, Assignment}
use Rattle.plpb.specs.Count.{cap, capped_break}
use Rattle.plpb.specs.Choice.{least_break, with_break}
use Rattle.words.specs.Words.{word_at}
use Rattle.words.specs.Writes.{Wrote}
use Rattle.columns.specs.Layout.{pick_at, column_size}
use Rattle.picks.specs.Picks.{Picks, Picked}
use Rattle.picks.proofs.Noting.{noted_self, noted_more, pick_noted, picks_none, with_more_lem}
use Rattle.least.specs.declared.Best.{Best}
use Rattle.least.specs.Best.{place_for, Offered}

module _ (p : Plan) (a : Assignment) where
  -- No variable has a count below the least.
  none_lower : (n : ℕ) (xs : List ℕ) → n < least_break p a xs → with_break p a n xs ≡ []
  unfolding least_break with_break keep
  none_lower n [] h = refl
  none_lower n (x ∷ xs) h = rw (ne_eqb (capped_break p a x) n (λ e. omega arith)) (none_lower n xs (omega arith))

  least_last : (x : ℕ) (xs : List ℕ) → least_break p a (xs ++ (x ∷ [])) ≡ min (least_break p a xs) (capped_break p a x)
  unfolding least_break
  least_last x [] = omega arith
  least_last x (y ∷ ys) = ap (min (capped_break p a y)) (least_last x ys) ∙ omega arith

  least_more : (d : ℕ) (xs : List ℕ) → d < length xs → least_break p a (take (suc d) xs) ≡ min (least_break p a (take d xs)) (capped_break p a (get_or xs d 0))
  least_more d xs h = ap (least_break p a) (take-suc xs d 0 h) ∙ least_last (get_or xs d 0) (take d xs)

-- Those of some variables that have the least count are picked.
pub record Leading (p : Plan) (a : Assignment) (xs s t : List ℕ) (b : Best) : Type 0 where
  pub least : b.least ≡ least_break p a xs
  pub picked : Picked p (with_break p a b.least xs) s t b.count

pub leading_none : (p : Plan) (a : Assignment) (s : List ℕ) {b : Best} → b.least ≡ suc cap → b.count ≡ 0 → Leading p a [] s s b
unfolding least_break with_break keep
leading_none p a s e f = record { least = e; picked = record { counted = f; picks = picks_none s; noted = noted_self p s } }

-- One variable comes behind others that were picked.
pushed : (ys : List ℕ) {t : List ℕ} {x : ℕ} → ((i : ℕ) → i < length ys → word_at t (pick_at i) ≡ get_or ys i 0) → word_at t (pick_at (length ys)) ≡ x → length ys < 512 → Picks (ys ++ (x ∷ [])) t
pushed ys {t} {x} h e l = record { few = omega (arith, size); each = λ i k. at i (dec_lt i (length ys)) k }
  where
    size : length (ys ++ (x ∷ [])) ≡ length ys + 1
    size = length-append ys (x ∷ [])

    at : (i : ℕ) → Dec (i < length ys) → i < length (ys ++ (x ∷ [])) → word_at t (pick_at i) ≡ get_or (ys ++ (x ∷ [])) i 0
    at i (yes k) m = h i k ∙ sym (get_or-append ys (x ∷ []) 0 i k)
    at i (no k) m =
        let same : i ≡ length ys = omega (arith, size, k) in
        ap (λ j. word_at t (pick_at j)) same ∙ e ∙ sym (get_or-append_seam ys x [] 0) ∙ ap (λ j. get_or (ys ++ (x ∷ [])) j 0) (sym same)

module _ (p : Plan) (a : Assignment) (xs : List ℕ) (d : ℕ) (h : d < length xs) {s t u : List ℕ} {b r : Best} (g : Leading p a (take d xs) s t b) (few : b.count < 512) (o : Offered p (capped_break p a (get_or xs d 0)) (get_or xs d 0) b t u r) where
  x : ℕ
  x = get_or xs d 0

  n : ℕ
  n = capped_break p a (get_or xs d 0)

  next_least : r.least ≡ least_break p a (take (suc d) xs)
  next_least = o.least ∙ ap (λ m. min m (capped_break p a (get_or xs d 0))) g.least ∙ sym (least_more p a d xs h)

  -- Above the least: nothing is picked.
  above : b.least < n → Picked p (with_break p a r.least (take (suc d) xs)) s u r.count
  unfolding n
  above l =
      let same : r.least ≡ b.least = o.least ∙ omega arith in
      let list : with_break p a r.least (take (suc d) xs) ≡ with_break p a b.least (take d xs) = ap (λ m. with_break p a m (take (suc d) xs)) same ∙ with_more_lem p a b.least d xs h ∙ ap (λ t. with_break p a b.least (take d xs) ++ cond t (get_or xs d 0 ∷ []) []) (ne_eqb n b.least (λ e. omega arith)) ∙ append-nil _ in
      let old = g.picked in
      rw list
      (record {
        counted = o.count ∙ ap (λ t. cond t b.count (place_for n b + 1)) (lt-ltb b.least n l) ∙ old.counted;
        picks = record { few = old.picks.few; each = λ i k. o.kept (omega arith) i (omega (arith, old.counted)) ∙ old.picks.each i k };
        noted = noted_more old.noted o.noted;
      })

  -- Below it: it is the first pick.
  below : n < b.least → Picked p (with_break p a r.least (take (suc d) xs)) s u r.count
  unfolding n place_for
  below l =
      let same : r.least ≡ n = o.least ∙ omega arith in
      let list : with_break p a r.least (take (suc d) xs) ≡ get_or xs d 0 ∷ [] = ap (λ m. with_break p a m (take (suc d) xs)) same ∙ with_more_lem p a n d xs h ∙ ap₂ (λ ys t. ys ++ cond t (get_or xs d 0 ∷ []) []) (none_lower p a n (take d xs) (omega (arith, g.least))) (eq-eqb n n refl) in
      let here : word_at u (pick_at 0) ≡ get_or xs d 0 = ap (λ t. word_at u (pick_at (cond t 0 b.count))) (sym (lt-ltb n b.least l)) ∙ o.new (omega arith) in
      rw list
      (record {
        counted = o.count ∙ ap₂ (λ t v. cond t b.count (cond v 0 b.count + 1)) (le-ltb b.least n (omega arith)) (lt-ltb n b.least l);
        picks = pushed [] (λ i k. absurd (omega arith)) here (omega arith);
        noted = noted_more g.picked.noted o.noted;
      })

  -- At it: it comes behind the others.
  equal : n ≡ b.least → Picked p (with_break p a r.least (take (suc d) xs)) s u r.count
  unfolding n place_for
  equal e =
      let same : r.least ≡ b.least = o.least ∙ omega arith in
      let ys = with_break p a b.least (take d xs) in
      let list : with_break p a r.least (take (suc d) xs) ≡ ys ++ (get_or xs d 0 ∷ []) = ap (λ m. with_break p a m (take (suc d) xs)) same ∙ with_more_lem p a b.least d xs h ∙ ap (λ t. ys ++ cond t (get_or xs d 0 ∷ []) []) (eq-eqb n b.least e) in
      let old = g.picked in
      let here : word_at u (pick_at (length ys)) ≡ get_or xs d 0 = ap (λ m. word_at u (pick_at m)) (sym old.counted) ∙ ap (λ t. word_at u (pick_at (cond t 0 b.count))) (sym (le-ltb n b.least (omega arith))) ∙ o.new (omega arith) in
      let size : length (ys ++ (get_or xs d 0 ∷ [])) ≡ length ys + 1 = length-append ys (get_or xs d 0 ∷ []) in
      rw list
      (record {
        counted = o.count ∙ ap₂ (λ t v. cond t b.count (cond v 0 b.count + 1)) (le-ltb b.least n (omega arith)) (le-ltb n b.least (omega arith)) ∙ omega (arith, old.counted, size);
        picks = pushed ys (λ i k. o.kept (omega arith) i (omega (arith, old.counted)) ∙ old.picks.each i k) here (omega (arith, old.counted));
        noted = noted_more old.noted o.noted;
      })

  pub leading_next : Leading p a (take (suc d) xs) s u r
  unfolding n
  leading_next = record { least = next_least; picked = at (dec_lt b.least n) (dec_lt n b.least) }
    where
      at : Dec (b.least < n) → Dec (n < b.least) → Picked p (with_break p a r.least (take (suc d) xs)) s u r.count
      at (yes l) m = above l
      at (no k) (yes l) = below l
      at (no k) (no l) = equal (omega (arith, k, l))

-- ---- one variable offered

pub place_few : (n : ℕ) (b : Best) → place_for n b ≤ b.count
unfolding place_for
place_few n b = at (ltb n b.least)
  where
    at : (t : Bool) → cond t 0 b.count ≤ b.count
    at true = omega arith
    at false = omega arith

pub offered_in : {p : Plan} {n x v at : ℕ} {b r : Best} {s t : List ℕ} → p.variables ≤ 512 → n ≤ b.least → at ≡ place_for n b → b.count < 512 → column_size ≤ length s → Wrote (pick_at at) v s t → v ≡ x → r.least ≡ n → r.count ≡ at + 1 → Offered p n x b s t r
unfolding place_for
offered_in {p} {n} {x} {v} {at} {b} {r} {s} {t} most h e few room w f l k = record {
  least = l ∙ omega arith;
  count = rw (le-ltb b.least n h) (k ∙ ap (λ m. m + 1) e);
  kept = λ m i z.
      let same : at ≡ b.count = e ∙ ap (λ u. cond u 0 b.count) (le-ltb n b.least m) in
      w.others (pick_at i) (λ q. omega arith);
  new = λ m. ap (λ i. word_at t (pick_at i)) (sym e) ∙ w.here ∙ f;
  noted = pick_noted w (omega arith) (omega (arith, e, place_few n b)) room most;
}

pub offered_same : (p : Plan) (a : Assignment) {x y : ℕ} {b r : Best} {s t : List ℕ} → x ≡ y → Offered p (capped_break p a x) x b s t r → Offered p (capped_break p a y) y b s t r
offered_same p a {b} {r} {s} {t} e o = subst (λ z. Offered p (capped_break p a z) z b s t r) e o
