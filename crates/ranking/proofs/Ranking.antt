-- What the code keeps of a ranking: the raised scores stand as the scores do, ranked variables stand by falling score, and one variable more is put where the
-- definition puts it.
-- Assumes nothing.
use Prim.Native.Nat.{ℕ, suc, max, min, ◌+◌, ◌-◌, ◌≤◌, ◌<◌}
use native.Mathlib.Omega.{arith}
use mathlib.Core.Bool.{Bool, true, false, cond}
use mathlib.Core.List.{List, [], ◌∷◌}
use mathlib.Core.Path.{◌≡◌, refl, sym, ap, ap₂, ◌∙◌}
use lib.Dec.{ltb}
use lib.IntN.{pos, ◌+ℤ◌, ◌-ℤ◌, +ℤ_assoc, +ℤ_comm, -ℤ-+ℤ_cancel, pos-+ℤ-pos}
use lib.Signed.{lt_z}
use borrow.Author.Tests.{lt-ltb, le-ltb}
use Rattle.std.specs.Prelude.{Some, None}
use Rattle.std.proofs.lemmas.Option.{none-some}
use Rattle.plpb.specs.Lists.{◌and◌, ◌or◌}
use Rattle.plpb.specs.Plan.{Plan, Assignment}
use Rattle.plpb.specs.Expansion.{break_count, make_count}
use Rattle.plpb.specs.Count.{cap, given, capped, capped_break, capped_make}
use Rattle.plpb.specs.Novelty.{score, is_older, ranks_before, placed, ranked, latest}
use Rattle.plpb.proofs.Lists.{true_or, false_T}
use Rattle.plpb.proofs.Capped.{capped_most}
use Rattle.plpb.proofs.Integers.{lt_z_shift}
use Rattle.ranking.specs.declared.Standing.{Standing}
use Rattle.ranking.specs.declared.Top.{Top}
use Rattle.ranking.specs.Ranking.{raised_score, Stands, older_than, comes_before, Tops, Ranks}

-- ---- scores

-- A difference raised by what bounds its second number is a natural number.
raised_difference : (m b k : ℕ) → b ≤ k → pos k +ℤ (pos m -ℤ pos b) ≡ pos (m + (k - b))
raised_difference m b k h =
    let e : k ≡ (k - b) + b = omega arith in
    let n : m + (k - b) ≡ (k - b) + m = omega arith in
    ap (λ z. z +ℤ (pos m -ℤ pos b)) (ap pos e ∙ sym (pos-+ℤ-pos (k - b) b))
    ∙ +ℤ_assoc (pos (k - b)) (pos b) (pos m -ℤ pos b)
    ∙ ap (λ z. pos (k - b) +ℤ z) (+ℤ_comm (pos b) (pos m -ℤ pos b) ∙ -ℤ-+ℤ_cancel (pos m) (pos b))
    ∙ pos-+ℤ-pos (k - b) m ∙ ap pos (sym n)

module _ (p : Plan) (a : Assignment) where
  raised_score_lem : (x : ℕ) → pos cap +ℤ score p a x ≡ pos (raised_score p a x)
  unfolding score raised_score given
  raised_score_lem x = raised_difference _ (min (break_count p a x) cap) cap (omega arith)

  -- Scores stand as they do when they are raised.
  pub scores_stand : (x y : ℕ) → lt_z (score p a x) (score p a y) ≡ ltb (raised_score p a x) (raised_score p a y)
  scores_stand x y = sym (lt_z_shift (pos cap) (score p a x) (score p a y)) ∙ ap₂ lt_z (raised_score_lem x) (raised_score_lem y)

-- What a count takes to a score is given out of where it stands.
value_capped : (n : ℕ) → min (capped n) cap ≡ (given n).value
unfolding given capped
value_capped n = omega arith

module _ (p : Plan) (a : Assignment) (x : ℕ) {m : ℕ} (e : m ≡ min (capped_make p a x) cap) where
  makes : m ≡ (given (make_count p a x)).value
  unfolding capped_make
  makes = e ∙ value_capped (make_count p a x)

  breaks : min (capped_break p a x) cap ≡ (given (break_count p a x)).value
  unfolding capped_break
  breaks = value_capped (break_count p a x)

  pub score_is : {b : ℕ} → b ≡ min (capped_break p a x) cap → m + cap - b ≡ raised_score p a x
  unfolding raised_score
  score_is d = omega (arith, d, makes, breaks)

  -- A score is below the least where the make count leaves it there,
  pub score_below : {least : ℕ} → (least ≤ m + cap → ⊥) → raised_score p a x < least
  unfolding raised_score
  score_below h = omega (arith, h, makes)

  -- and where the break count takes more off than what the make count is above it.
  pub score_falls : {least room limit : ℕ} → least + room ≡ m + cap → limit < capped_break p a x → room < cap → limit ≡ room → raised_score p a x < least
  unfolding raised_score
  score_falls h l d i = omega (arith, h, l, d, i, makes, breaks)

-- No count stands above a cut one.
pub none_above : (p : Plan) (a : Assignment) (x : ℕ) {limit : ℕ} → limit < capped_break p a x → limit ≡ suc cap → ⊥
unfolding capped_break
none_above p a x h e = omega (arith, h, e, capped_most (break_count p a x))

-- ---- ranked variables stand by falling score

le_of_not : {m n : ℕ} → (n < m → ⊥) → m ≤ n
le_of_not h = omega (arith, h)

module _ (p : Plan) (a : Assignment) (last : ℕ → ℕ) where
  higher_first : (x y : ℕ) → raised_score p a x < raised_score p a y → ranks_before p a last y x ≡ true
  unfolding ranks_before
  higher_first x y h = rw (scores_stand p a x y, lt-ltb _ _ h) (true_or _)

  lower_behind : (x y : ℕ) → raised_score p a y < raised_score p a x → ranks_before p a last y x ≡ false
  unfolding ranks_before ◌or◌ ◌and◌
  lower_behind x y h =
      let l : raised_score p a y ≤ raised_score p a x = omega (arith, h) in
      rw (scores_stand p a x y, scores_stand p a y x, le-ltb _ _ l, lt-ltb _ _ h) refl

  before_high : (x y : ℕ) → ranks_before p a last y x ≡ true → raised_score p a x ≤ raised_score p a y
  before_high x y e = le_of_not (λ h. false_T (sym e ∙ lower_behind x y h) tt)

  behind_low : (x y : ℕ) → ranks_before p a last y x ≡ false → raised_score p a y ≤ raised_score p a x
  behind_low x y e = le_of_not (λ h. false_T (sym (higher_first x y h) ∙ e) tt)

  -- The first of a list, if there is one, has no higher score than a variable ..
  unfoldable Under : ℕ → List ℕ → Type 0
  Under y [] = Unit {0}
  Under y (z ∷ zs) = raised_score p a z ≤ raised_score p a y

  -- .. and so each of a list than the one before it.
  unfoldable Falls : List ℕ → Type 0
  Falls [] = Unit {0}
  Falls (y ∷ ys) = Under y ys × Falls ys

  under_placed : (x y : ℕ) (ys : List ℕ) → raised_score p a x ≤ raised_score p a y → Under y ys → Under y (placed p a last x ys)
  unfolding placed Under
  under_placed x y [] l u = l
  under_placed x y (z ∷ zs) l u = at (ranks_before p a last z x)
    where
      at : (b : Bool) → Under y (cond b (z ∷ placed p a last x zs) (x ∷ z ∷ zs))
      at true = u
      at false = l

  falls_placed : (x : ℕ) (ys : List ℕ) → Falls ys → Falls (placed p a last x ys)
  unfolding placed Falls Under
  falls_placed x [] f = (tt, tt)
  falls_placed x (y ∷ ys) f = at (ranks_before p a last y x) refl (falls_placed x ys f.1)
    where
      at : (b : Bool) → ranks_before p a last y x ≡ b → Falls (placed p a last x ys) → Falls (cond b (y ∷ placed p a last x ys) (x ∷ y ∷ ys))
      at true e more = (under_placed x y ys (before_high x y e) f.0, more)
      at false e more = (behind_low x y e, f)

  falls_ranked : (xs : List ℕ) → Falls (ranked p a last xs)
  unfolding ranked Falls
  falls_ranked [] = tt
  falls_ranked (x ∷ xs) = falls_placed x (ranked p a last xs) (falls_ranked xs)

  -- A variable whose score is below that of the second stands behind both.
  put_past : (x : ℕ) (ys : List ℕ) (t : Top) (l : ℕ) {g : Standing} → Falls ys → Tops p a last ys t → t.second ≡ Some g → raised_score p a x < g.score
      → Tops p a last (placed p a last x ys) (record { first = t.first; second = t.second; latest = l })
  unfolding Tops placed Falls Under
  put_past x [] t l {g} f k e h = absurd (none-some g (sym k.1 ∙ e))
  put_past x (y ∷ []) t l {g} f k e h = absurd (none-some g (sym k.1 ∙ e))
  put_past x (y ∷ z ∷ ys) t l {g} f k e h =
      let v : Stands p a last z g = rw e at k.1 in
      let b : raised_score p a x < raised_score p a z = omega (arith, v.score, h) in
      rw (higher_first x y (omega (arith, b, f.0)), higher_first x z b) (k.0, k.1)

  pub ranks_past : (x : ℕ) {xs : List ℕ} {t : Top} {l m : ℕ} {g : Standing} → Ranks p a last xs t → t.second ≡ Some g → raised_score p a x < g.score → l ≡ last x → m ≡ max l t.latest
      → Ranks p a last (x ∷ xs) (record { first = t.first; second = t.second; latest = m })
  unfolding ranked latest
  ranks_past x {xs} {t} {l} {m} r e h i j = record { tops = put_past x (ranked p a last xs) t m (falls_ranked xs) r.tops e h; newest = j ∙ ap₂ max i r.newest }

-- ---- one variable more

module _ {p : Plan} {a : Assignment} {last : ℕ → ℕ} where
  pub stands_before : {x y : ℕ} {s t : Standing} → Stands p a last x s → Stands p a last y t → comes_before s t ≡ ranks_before p a last x y
  unfolding comes_before older_than ranks_before is_older
  stands_before {x} {y} {s} {t} j k =
      rw (j.score, k.score, j.last_flip, k.last_flip, j.variable, k.variable, scores_stand p a y x, scores_stand p a x y)

  module _ {x : ℕ} {s : Standing} (h : Stands p a last x s) where
    pub put_alone : (ys : List ℕ) (t : Top) (l : ℕ) → Tops p a last ys t → t.first ≡ None
        → Tops p a last (placed p a last x ys) (record { first = Some s; second = t.second; latest = l })
    unfolding Tops placed
    put_alone [] t l k e = (h, k.1)
    put_alone (y ∷ []) t l k e = absurd (rw e at k.0)
    put_alone (y ∷ z ∷ ys) t l k e = absurd (rw e at k.0)

    module _ (t : Top) (l : ℕ) {f : Standing} (there : t.first ≡ Some f) where
      pub put_first : (ys : List ℕ) → Tops p a last ys t → comes_before f s ≡ false
          → Tops p a last (placed p a last x ys) (record { first = Some s; second = Some f; latest = l })
      unfolding Tops placed
      put_first [] k e = absurd (none-some f (sym k.0 ∙ there))
      put_first (y ∷ []) k e = let w : Stands p a last y f = rw there at k.0 in rw (sym (stands_before w h) ∙ e) (h, w)
      put_first (y ∷ z ∷ ys) k e = let w : Stands p a last y f = rw there at k.0 in rw (sym (stands_before w h) ∙ e) (h, w)

      module _ (e : comes_before f s ≡ true) where
        pub put_behind : (ys : List ℕ) → Tops p a last ys t → t.second ≡ None
            → Tops p a last (placed p a last x ys) (record { first = t.first; second = Some s; latest = l })
        unfolding Tops placed
        put_behind [] k d = absurd (none-some f (sym k.0 ∙ there))
        put_behind (y ∷ []) k d = let w : Stands p a last y f = rw there at k.0 in rw (sym (stands_before w h) ∙ e) (k.0, h)
        put_behind (y ∷ z ∷ ys) k d = absurd (rw d at k.1)

        module _ {g : Standing} (more : t.second ≡ Some g) where
          pub put_last : (ys : List ℕ) → Tops p a last ys t → comes_before g s ≡ true
              → Tops p a last (placed p a last x ys) (record { first = t.first; second = t.second; latest = l })
          unfolding Tops placed
          put_last [] k d = absurd (none-some g (sym k.1 ∙ more))
          put_last (y ∷ []) k d = absurd (none-some g (sym k.1 ∙ more))
          put_last (y ∷ z ∷ ys) k d =
              let w : Stands p a last y f = rw there at k.0 in
              let v : Stands p a last z g = rw more at k.1 in
              rw (sym (stands_before w h) ∙ e, sym (stands_before v h) ∙ d) (k.0, k.1)

          pub put_second : (ys : List ℕ) → Tops p a last ys t → comes_before g s ≡ false
              → Tops p a last (placed p a last x ys) (record { first = t.first; second = Some s; latest = l })
          unfolding Tops placed
          put_second [] k d = absurd (none-some g (sym k.1 ∙ more))
          put_second (y ∷ []) k d = absurd (none-some g (sym k.1 ∙ more))
          put_second (y ∷ z ∷ ys) k d =
              let w : Stands p a last y f = rw there at k.0 in
              let v : Stands p a last z g = rw more at k.1 in
              rw (sym (stands_before w h) ∙ e, sym (stands_before v h) ∙ d) (k.0, h)

    -- The list is ranked, and the last flip among all is known.
    pub ranks_more : {xs : List ℕ} {t u : Top} {l : ℕ} → Ranks p a last xs t → l ≡ max s.last t.latest → Tops p a last (placed p a last x (ranked p a last xs)) u → u.latest ≡ l
        → Ranks p a last (x ∷ xs) u
    unfolding ranked latest
    ranks_more r e k d = record { tops = k; newest = d ∙ e ∙ ap₂ max h.last_flip r.newest }

pub ranks_none : (p : Plan) (a : Assignment) (last : ℕ → ℕ) {xs : List ℕ} {t : Top} → xs ≡ [] → t.first ≡ None → t.second ≡ None → t.latest ≡ 0 → Ranks p a last xs t
unfolding Tops ranked latest
ranks_none p a last e f g l = rw e (record { tops = (f, g); newest = l })
