-- Hints and picks are noted: the weights and the lists stay, and a pick comes behind the others.
-- Assumes nothing.
use Prim.Native.Nat.{ℕ, suc, ◌+◌, ◌*◌, ◌-◌, ◌≤◌, ◌<◌}
use native.Mathlib.Decide.{dec_lt}
use native.Mathlib.Omega.{arith}
use mathlib.Core.Path.{◌≡◌, refl, sym, ap, ◌∙◌}
use mathlib.Core.Bool.{Bool, true, false, cond}
use mathlib.Core.List.{List, [], ◌∷◌, ◌++◌, append-nil}
use lib.Dec.{eqb}
use lib.ListN.{length, get_or, take, length-append, get_or-append}
use lib.Seq.{take-suc, get_or-append_seam}
use Rattle.plpb.specs.Lists.{keep, row}
use Rattle.plpb.specs.Plan.{Plan, Assignment}
use Rattle.plpb.specs.Count.{capped_break}
use Rattle.plpb.specs.Choice.{choosable, with_break}
use Rattle.plpb.proofs.Lists.{keep_append, length_row, row_at, false_T, T_true}
use Rattle.words.specs.Words.{word_at, num_at}
use Rattle.words.specs.Writes.{Wrote}
use Rattle.words.proofs.Words.{num_at_drop}
use Rattle.format.specs.Limits.{max_variables}
use Rattle.format.specs.Tables.{plan_of_tables}
use Rattle.tallies.proofs.Tallied.{get_d_map}
use Rattle.recount.specs.Core.{Laid}
use Rattle.recount.proofs.Laid.{parts}
use Rattle.columns.specs.Layout.{hint_at, picks_at, pick_at, weight_at, list_at, column_size}
use Rattle.columns.specs.Columns.{words_from, terms_ahead, Weighed, Tells, Listed}
use Rattle.columns.proofs.Marks.{Behind, weighed_behind, hinted_same, hinted_wrote, listed_behind}
use Rattle.effects.specs.declared.footing.Footing.{Footing}
use Rattle.effects.specs.Footing.{HasPlaces}
use Rattle.picks.specs.declared.choice.Choice.{Choice}
use Rattle.picks.specs.Picks.{Noted, Picks, HasList, Pickable, Triable, Tried}
use Rattle.picks.specs.Choice.{Rankable, Marked}
use Rattle.picks.proofs.Room.{list_room, choosable_within, choosable_most, keep_fewer}
use Rattle.format.specs.Layout.{term_room}

-- ---- nothing else changes

pub noted_self : (p : Plan) (s : List ℕ) → Noted p s s
noted_self p s = record { size = refl; before = refl; behind = refl; hints = λ h. h }

pub noted_more : {p : Plan} {s t u : List ℕ} → Noted p s t → Noted p t u → Noted p s u
noted_more a b = record { size = b.size ∙ a.size; before = b.before ∙ a.before; behind = b.behind ∙ a.behind; hints = λ h. b.hints (a.hints h) }

-- A pick that is written.
pub pick_noted : {p : Plan} {i v : ℕ} {s t : List ℕ} → Wrote i v s t → picks_at ≤ i → i < weight_at 0 → column_size ≤ length s → p.variables ≤ 512 → Noted p s t
pick_noted w h l room few = record {
  size = w.size;
  before = w.before (4 * hint_at 1) (omega arith);
  behind = w.beyond (4 * weight_at 0) (omega arith) (omega arith);
  hints = hinted_same (λ x k m. w.others (hint_at x) (λ e. omega arith));
}

word_behind : {p : Plan} {s t : List ℕ} → Noted p s t → (i : ℕ) → weight_at 0 ≤ i → word_at t i ≡ word_at s i
unfolding word_at
word_behind {p} {s} {t} n i h =
    let back : 4 * weight_at 0 + (4 * i - 4 * weight_at 0) ≡ 4 * i = omega arith in
    ap (num_at 4 t) (sym back) ∙ sym (num_at_drop 4 (4 * weight_at 0) t (4 * i - 4 * weight_at 0))
    ∙ ap (λ u. num_at 4 u (4 * i - 4 * weight_at 0)) n.behind
    ∙ num_at_drop 4 (4 * weight_at 0) s (4 * i - 4 * weight_at 0) ∙ ap (num_at 4 s) back

noted_behind : {p : Plan} {s t : List ℕ} → Noted p s t → Behind s t
noted_behind n = record { size = n.size; same = word_behind n }

pub noted_weighed : {p : Plan} {s t : List ℕ} → Noted p s t → Weighed p s → Weighed p t
noted_weighed n w = weighed_behind (noted_behind n) w

pub noted_listed : {p : Plan} {s t : List ℕ} → Noted p s t → Listed p s → Listed p t
noted_listed n l = listed_behind (noted_behind n) l

-- ---- picks

pub picks_none : (t : List ℕ) → Picks [] t
picks_none t = record { few = omega arith; each = λ i h. absurd (omega arith) }

-- Those picked before stay, and one more comes behind them where the test is met.
pub picks_tried : {p : Plan} (b : Bool) {ys s t : List ℕ} {x count r : ℕ} → Picks ys s → count ≡ length ys → count < max_variables → Tried p b x count s t r → (r ≡ length (ys ++ cond b (x ∷ []) [])) × Picks (ys ++ cond b (x ∷ []) []) t
picks_tried true {ys} {s} {t} {x} {count} {r} p e l d =
    (omega (arith, d.counted, size), record { few = omega (arith, size); each = each })
  where
    size : length (ys ++ (x ∷ [])) ≡ length ys + 1
    size = length-append ys (x ∷ [])

    at : (i : ℕ) → Dec (i < length ys) → i < length (ys ++ (x ∷ [])) → word_at t (pick_at i) ≡ get_or (ys ++ (x ∷ [])) i 0
    at i (yes k) h = d.kept i (omega (arith, e)) ∙ p.each i k ∙ sym (get_or-append ys (x ∷ []) 0 i k)
    at i (no k) h =
        let same : i ≡ length ys = omega (arith, size, k) in
        ap (λ j. word_at t (pick_at j)) (same ∙ sym e) ∙ d.new refl ∙ sym (get_or-append_seam ys x [] 0) ∙ ap (λ j. get_or (ys ++ (x ∷ [])) j 0) (sym same)

    each : (i : ℕ) → i < length (ys ++ (x ∷ [])) → word_at t (pick_at i) ≡ get_or (ys ++ (x ∷ [])) i 0
    each i h = at i (dec_lt i (length ys)) h
picks_tried false {ys} {s} {t} {x} {count} {r} p e l d =
    rw (append-nil ys) (d.counted ∙ e, record { few = p.few; each = λ i h. d.kept i (omega (arith, e)) ∙ p.each i h })

-- ---- a clause's list

pub listed_at : {p : Plan} {t : List ℕ} (c j : ℕ) → Listed p t → c < length p.clauses → j < length (choosable p (get_or p.clauses c [])) → word_at t (list_at (terms_ahead p c) + j) ≡ get_or (choosable p (get_or p.clauses c [])) j 0
unfolding words_from
listed_at {p} {t} c j l h k =
    let xs = choosable p (get_or p.clauses c []) in
    let i = list_at (terms_ahead p c) in
    ap (word_at t) (sym (row_at i (length xs) j 0 k))
    ∙ sym (get_d_map (word_at t) (row i (length xs)) j 0 0 (rw (length_row i (length xs)) k))
    ∙ ap (λ us. get_or us j 0) (l.each c h).listed

-- One variable more.
pub with_more_lem : (p : Plan) (a : Assignment) (b d : ℕ) (xs : List ℕ) → d < length xs → with_break p a b (take (suc d) xs) ≡ with_break p a b (take d xs) ++ cond (eqb (capped_break p a (get_or xs d 0)) b) (get_or xs d 0 ∷ []) []
unfolding with_break
with_more_lem p a b d xs h =
    let f : ℕ → Bool = λ x. eqb (capped_break p a x) b in
    ap (keep f) (take-suc xs d 0 h) ∙ keep_append f (take d xs) (get_or xs d 0 ∷ []) ∙ ap (λ us. keep f (take d xs) ++ us) (unfold keep in refl)

pub with_fewer : (p : Plan) (a : Assignment) (b : ℕ) (xs : List ℕ) → length (with_break p a b xs) ≤ length xs
unfolding with_break
with_fewer p a b xs = keep_fewer (λ x. eqb (capped_break p a x) b) xs

module _ {tables terms : List ℕ} (l : Laid tables terms) {c : ℕ} (h : c < length (plan_of_tables tables terms).clauses) where
  abbrev p : Plan
  p = plan_of_tables tables terms

  pub list_inside : terms_ahead (plan_of_tables tables terms) c + length (choosable (plan_of_tables tables terms) (get_or (plan_of_tables tables terms).clauses c [])) ≤ term_room
  list_inside = omega (arith, list_room p c h, (parts tables terms l).terms)

-- ---- one variable tried

module _ {p : Plan} {x v : ℕ} {s t : List ℕ} (h : Wrote (hint_at x) v s t) (tells : Tells p x v) (low : 1 ≤ x) (few : x ≤ 512) (most : p.variables ≤ 512) (room : column_size ≤ length s) where
  hint_noted : Noted p s t
  hint_noted = record {
    size = h.size;
    before = h.before (4 * hint_at 1) (omega arith);
    behind = h.beyond (4 * weight_at 0) (omega arith) (omega arith);
    hints = hinted_wrote h tells;
  }

  pub tried_not : {b : Bool} (y : ℕ) {count : ℕ} → b ≡ false → Tried p b y count s t count
  tried_not y e = record {
    counted = rw e refl;
    kept = λ i l. h.others (pick_at i) (λ z. omega arith);
    new = λ f. absurd (false_T e (T_true f));
    noted = hint_noted;
  }

  pub tried_so : {b : Bool} (count : ℕ) {u : List ℕ} {y z : ℕ} → b ≡ true → Wrote (pick_at count) z t u → count < max_variables → z ≡ y → Tried p b y count s u (count + 1)
  tried_so count e w l f = record {
    counted = rw e refl;
    kept = λ i k. w.others (pick_at i) (λ z. omega arith) ∙ h.others (pick_at i) (λ z. omega arith);
    new = λ q. w.here ∙ f;
    noted = noted_more hint_noted (pick_noted w (omega arith) (omega arith) (rw h.size room) most);
  }

-- ---- a clause's list gone through

module _ {q : Footing} {s : List ℕ} {c : ℕ} (k : HasList q s c) where
  abbrev plan : Plan
  plan = plan_of_tables q.tables.now q.terms.now

  abbrev xs : List ℕ
  xs = choosable (plan_of_tables q.tables.now q.terms.now) (get_or (plan_of_tables q.tables.now q.terms.now).clauses c [])

  laid : Laid q.tables.now q.terms.now
  laid = q.ready.laid

  pub list_few : length (choosable (plan_of_tables q.tables.now q.terms.now) (get_or (plan_of_tables q.tables.now q.terms.now).clauses c [])) ≤ 512
  list_few = omega (arith, choosable_most plan (get_or plan.clauses c []), (parts q.tables.now q.terms.now laid).high)

  pub list_ends : terms_ahead (plan_of_tables q.tables.now q.terms.now) c + length (choosable (plan_of_tables q.tables.now q.terms.now) (get_or (plan_of_tables q.tables.now q.terms.now).clauses c [])) ≤ term_room
  list_ends = list_inside laid k.there

  module _ {t : List ℕ} (n : Noted (plan_of_tables q.tables.now q.terms.now) s t) {i first end : ℕ} (e : first ≡ list_at (terms_ahead (plan_of_tables q.tables.now q.terms.now) c)) (f : end ≡ first + length (choosable (plan_of_tables q.tables.now q.terms.now) (get_or (plan_of_tables q.tables.now q.terms.now).clauses c []))) (low : first ≤ i) (high : i < end) where
    d : ℕ
    d = i - first

    inside : i - first < length xs
    inside = omega (arith, f)

    pub list_here : word_at t i ≡ get_or (choosable (plan_of_tables q.tables.now q.terms.now) (get_or (plan_of_tables q.tables.now q.terms.now).clauses c [])) (i - first) 0
    list_here =
        let back : list_at (terms_ahead plan c) + (i - first) ≡ i = omega (arith, e) in
        ap (word_at t) (sym back) ∙ listed_at c (i - first) (noted_listed n k.listed) k.there inside

    pub list_run : HasPlaces q t (word_at t i)
    list_run =
        let within = choosable_within plan (get_or plan.clauses c []) (i - first) inside in
        record { weighed = noted_weighed n k.weighed; low = rw list_here within.0; high = rw list_here within.1 }

-- What can be picked from can be gone over, and each of its variables can be tried.
pub has_list : {q : Footing} {s : List ℕ} {c : ℕ} → Pickable q s c → HasList q s c
has_list k = record { weighed = k.weighed; listed = k.listed; there = k.there }

module _ {q : Footing} {s : List ℕ} {c : ℕ} (k : Pickable q s c) {t : List ℕ} (n : Noted (plan_of_tables q.tables.now q.terms.now) s t) {i first end : ℕ} (e : first ≡ list_at (terms_ahead (plan_of_tables q.tables.now q.terms.now) c)) (f : end ≡ first + length (choosable (plan_of_tables q.tables.now q.terms.now) (get_or (plan_of_tables q.tables.now q.terms.now).clauses c []))) (low : first ≤ i) (high : i < end) where
  pub list_triable : {count : ℕ} → count ≤ i - first → Triable q t i count
  list_triable l =
      let r = list_run (has_list k) n e f low high in
      record {
        run = record { weighed = r.weighed; hinted = n.hints k.hinted; low = r.low; high = r.high };
        inside = omega (arith, n.size, k.weighed.room, list_ends (has_list k), e, f);
        few = omega (arith, list_few (has_list k), e, f);
      }

-- Where a clause's list begins and ends, as its tables tell.
pub listed : (q : Footing) (c : ℕ) {tables terms : List ℕ} {start end : ℕ} → (tables ≡ q.tables.now) × (terms ≡ q.terms.now) → (start ≡ list_at (terms_ahead (plan_of_tables tables terms) c)) × (end ≡ start + length (choosable (plan_of_tables tables terms) (get_or (plan_of_tables tables terms).clauses c [])))
    → (start ≡ list_at (terms_ahead (plan_of_tables q.tables.now q.terms.now) c)) × (end ≡ start + length (choosable (plan_of_tables q.tables.now q.terms.now) (get_or (plan_of_tables q.tables.now q.terms.now).clauses c [])))
listed q c e l = rw (e.0, e.1) at l

-- The marks of a clause to choose of are those that its list is picked from, or gone over.
pub pickable : (q : Choice) {marks : List ℕ} → Marked q marks → Pickable q.footing marks q.clause
pickable q m = record { weighed = m.weighed; hinted = m.hinted; listed = m.listed; there = q.there }

pub rankable_list : (q : Choice) {marks : List ℕ} → Rankable q marks → HasList q.footing marks q.clause
rankable_list q m = record { weighed = m.weighed; listed = m.listed; there = q.there }

-- What can be picked among can be ranked.
pub rankable : {q : Choice} {marks : List ℕ} → Marked q marks → Rankable q marks
rankable m = record { weighed = m.weighed; listed = m.listed }
