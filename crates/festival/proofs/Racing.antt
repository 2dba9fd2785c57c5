-- One race in the code: what its search promises, written to the race's places.
-- Assumes nothing.
use Prim.Native.Nat.{ℕ, ◌+◌, ◌-◌, ◌*◌, ◌/◌, ◌≤◌, ◌<◌}
use native.Mathlib.Nat.{mul-div-le}
use native.Mathlib.Numerals.{add-one}
use native.Mathlib.Omega.{arith}
use mathlib.Core.Path.{◌≡◌, refl, sym, ap, ◌∙◌, subst}
use mathlib.Core.Bool.{Bool, true, false, cond}
use mathlib.Core.List.{List, []}
use lib.Dec.{ltb}
use lib.IntN.{ℤ}
use lib.ListN.{length, get_or, take, drop, length-take}
use Rattle.std.proofs.lemmas.List.{get_or-take}
use lib.Seq.{take_all}
use borrow.Author.Tests.{ltb-false}
use borrow.Rule.Slice.PartMut.{mid_of, put_mid}
use Rattle.words.specs.Writes.{put, front}
use Rattle.words.proofs.Writes.{lent_part, front_whole}
use Rattle.format.specs.Assignment.{assignment_size}
use Rattle.settings.specs.declared.Settings.{Settings as Asked}
use Rattle.answers.specs.declared.Answer.{Answer as Answered}
use Rattle.lending.specs.Lent.{Lent, lent_all}
use Rattle.search.specs.Calls.{Searches}
use Rattle.plpb.specs.Lists.{◌or◌}
use Rattle.division.specs.declared.Stakes.{Stakes}
use Rattle.division.specs.declared.Parts.{Parts}
use Rattle.division.specs.declared.Part.{Part}
use Rattle.division.specs.Split.{refusal_after, parts_after}
use Rattle.division.specs.declared.Refusal.{Refusal}
use Rattle.division.specs.declared.Refusal.TheVariants.{NoRoom}
use Rattle.division.specs.Eight.{kept, refusal_in, parts_in, divided}
use Rattle.std.specs.Prelude.{Result, Ok, Err, IsErrAnd}
use Rattle.division.proofs.Plain.{AllWithin, divided_within, Told, room_told, divided_told}
use Rattle.races.specs.Races.{stakes_in, parts_put}
use Rattle.exchange.specs.Exchange.{settings_size, answer_size, settings_at, answer_bytes}
use Rattle.exchange.proofs.Laws.{length_answer}
use Rattle.festival.specs.Own.{Works, works, Entry, lent_to, answered, own, leaves}
use Rattle.festival.specs.Festival.{Given, Buffers, buffers, place, part_of, entry, raced, race_once, race_next, room_refusal, Fits}
use Rattle.festival.proofs.Apart.{same_works}
use Rattle.festival.proofs.InTurn.{same_buffers, place_length, next_race, no_race}

-- A search's answer is fixed by its promise.
fixed : (r s : Answered) → r.refusal ≡ s.refusal → r.ending ≡ s.ending → r.cost ≡ s.cost → r.finds ≡ s.finds → r.flips ≡ s.flips
    → r.used ≡ s.used → r ≡ s
fixed r s e₁ e₂ e₃ e₄ e₅ e₆ =
    ap (λ (x : ℕ). answer x r.ending r.cost r.finds r.flips r.used) e₁
    ∙ ap (λ (x : ℕ). answer s.refusal x r.cost r.finds r.flips r.used) e₂
    ∙ ap (λ (x : ℤ). answer s.refusal s.ending x r.finds r.flips r.used) e₃
    ∙ ap (λ (x : ℕ). answer s.refusal s.ending s.cost x r.flips r.used) e₄
    ∙ ap (λ (x : ℕ). answer s.refusal s.ending s.cost s.finds x r.used) e₅
    ∙ ap (λ (x : ℕ). answer s.refusal s.ending s.cost s.finds s.flips x) e₆
  where
    answer : ℕ → ℕ → ℤ → ℕ → ℕ → ℕ → Answered
    answer refusal ending cost finds flips used =
        record { refusal = refusal; ending = ending; cost = cost; finds = finds; flips = flips; used = used }

answered_is : {l m : Lent} {k : Asked} {r : Answered} → Searches l k r m → r ≡ answered l k
unfolding answered
answered_is {l} {m} {k} {r} h = fixed r _ h.refusal h.ending h.cost h.finds h.flips h.used

module _ (i : ℕ) (e : Entry) (s o : List ℕ) (w : Works) where
  -- With the race's places by their sizes.
  made : {r : Answered} {ys a b c d m : List ℕ} → Searches (lent_to w e) e.asked r (lent_all e.tables e.terms e.numbers ys a b c d m)
      → {ss os : List ℕ} → ss ≡ put (assignment_size * i) ys s → os ≡ put (answer_size * i) (answer_bytes r) o
      → buffers ss os (works a b c d m) ≡ race_once i e (buffers s o w)
  unfolding race_once own leaves
  made h es eo =
      same_buffers (es ∙ ap (λ (x : List ℕ). put (assignment_size * i) x s) h.assignment)
      (eo ∙ ap (λ (x : Answered). put (answer_size * i) (answer_bytes x) o) (answered_is h))
      (same_works h.work_tables h.work_terms h.work_assignment h.work_tallies h.work_marks)

-- A part lent from a place's first byte to its last.
module _ (n i : ℕ) (s : List ℕ) (h : n * i + n ≤ length s) where
  size_is : n * i + n - n * i ≡ n
  size_is = omega arith

  pub lent_place : mid_of (n * i) (n * i + n - n * i) s ≡ place n i s
  lent_place = ap (λ (k : ℕ). take k (drop (n * i) s)) size_is

  place_put : (ys : List ℕ) → length ys ≡ n → put_mid (n * i) (n * i + n - n * i) s ys ≡ put (n * i) ys s
  place_put ys e = lent_part (n * i) (n * i + n) s ys (omega arith) (e ∙ sym size_is)

module _ (i : ℕ) (tables terms numbers : List ℕ) (k : Asked) (s o : List ℕ) (w : Works)
    (hs : assignment_size * i + assignment_size ≤ length s) (ho : answer_size * i + answer_size ≤ length o)
  where
    abbrev n : ℕ
    n = assignment_size

    abbrev m : ℕ
    m = answer_size

    pub race_made : {r : Answered} {ys zs a b c d x : List ℕ}
        → Searches
        (lent_all tables terms numbers (mid_of (n * i) (n * i + n - n * i) s) w.tables w.terms w.assignment w.tallies w.marks) k r
        (lent_all tables terms numbers ys a b c d x)
        → length ys ≡ length (mid_of (n * i) (n * i + n - n * i) s)
        → zs ≡ front (answer_bytes r) (mid_of (m * i) (m * i + m - m * i) o)
        → buffers (put_mid (n * i) (n * i + n - n * i) s ys) (put_mid (m * i) (m * i + m - m * i) o zs) (works a b c d x)
        ≡ race_once i (record { tables = tables; terms = terms; numbers = numbers; assignment = place n i s; asked = k }) (buffers s o w)
    race_made {r} {ys} {zs} {a} {b} {c} {d} {x} h ly ez =
        let here = lent_place n i s hs in
        let there = lent_place m i o ho in
        let long : length ys ≡ n = ly ∙ ap (λ (l : List ℕ). length l) here ∙ place_length n i s hs in
        let whole : zs ≡ answer_bytes r =
        ez ∙ front_whole (answer_bytes r) _ (length_answer r ∙ sym (ap (λ (l : List ℕ). length l) there ∙ place_length m i o ho)) in
        made i _ s o w
        (subst
        (λ (l : List ℕ). Searches (lent_all tables terms numbers l w.tables w.terms w.assignment w.tallies w.marks) k r
        (lent_all tables terms numbers ys a b c d x)) here h)
        (place_put n i s hs ys long)
        (place_put m i o ho zs (ap (λ (l : List ℕ). length l) whole ∙ length_answer r) ∙ ap (λ (l : List ℕ). put (m * i) l o) whole)

-- ---- race i of the call

-- A part of the list, lent from its first byte to its last.
pub part_is : (numbers : List ℕ) (p : Part) → mid_of (4 * p.first) (4 * p.first + 4 * p.length - 4 * p.first) numbers ≡ part_of numbers p
unfolding part_of
part_is numbers p = ap (λ (k : ℕ). take k (drop (4 * p.first) numbers)) (same (4 * p.first) (4 * p.length))
  where
    same : (a b : ℕ) → a + b - a ≡ b
    same a b = omega arith

module _ (g : Given) (i : ℕ) (p : Part) (b : Buffers) where
  with_these : List ℕ → List ℕ → List ℕ → Asked → Buffers
  with_these t e n k =
      race_once i (record { tables = t; terms = e; numbers = n; assignment = place assignment_size i b.assignments; asked = k }) b

  pub race_is : {t e n : List ℕ} {k : Asked} {c : Buffers} → t ≡ get_or g.tables i [] → e ≡ get_or g.terms i [] → n ≡ part_of g.numbers p
      → k ≡ settings_at g.settings i
      → c ≡ race_once i (record { tables = t; terms = e; numbers = n; assignment = place assignment_size i b.assignments; asked = k }) b
      → c ≡ race_next g i p b
  unfolding race_next entry with_these
  race_is {t} {e} {n} {k} et ee en ek h =
      h ∙ ap (λ (x : List ℕ). with_these x e n k) et ∙ ap (λ (x : List ℕ). with_these (get_or g.tables i []) x n k) ee
      ∙ ap (λ (x : List ℕ). with_these (get_or g.tables i []) (get_or g.terms i []) x k) en
      ∙ ap (λ (x : Asked). with_these (get_or g.tables i []) (get_or g.terms i []) (part_of g.numbers p) x) ek

-- ---- the loop over the races

few_parts : (c : ℕ) (ps : List Part) → length (take c ps) ≤ c
few_parts c ps = omega (arith, length-take c ps)

module _ (g : Given) (c : ℕ) (ps : List Part) (b₀ : Buffers) where
  pub race_first : b₀ ≡ raced g (take 0 (take c ps)) b₀
  race_first = sym (no_race g b₀)

  pub race_turn : {b b' : Buffers} (none : Part) (i : ℕ) → i < c → i < length ps
      → assignment_size * i + assignment_size ≤ length b₀.assignments → b ≡ raced g (take i (take c ps)) b₀
      → b' ≡ race_next g i (get_or ps i none) b → b' ≡ raced g (take (i + 1) (take c ps)) b₀
  race_turn none i h k room is h' =
      h' ∙ ap (λ (x : Buffers). race_next g i (get_or ps i none) x) is
      ∙ ap (λ (p : Part). race_next g i p (raced g (take i (take c ps)) b₀)) (sym (get_or-take c ps i none h))
      ∙ next_race g (take c ps) b₀ i none (omega (arith, length-take c ps, h, k)) room
      ∙ ap (λ (k : ℕ). raced g (take k (take c ps)) b₀) (sym (add-one i))

  pub race_last : {b : Buffers} (i : ℕ) → c ≤ i → b ≡ raced g (take i (take c ps)) b₀ → b ≡ raced g (take c ps) b₀
  race_last i h is = is ∙ ap (λ (qs : List Part). raced g qs b₀) (take_all i (take c ps) (omega (arith, few_parts c ps, h)))

-- ---- the call

room_fine : (settings assignments answers : ℕ) → room_refusal settings assignments answers ≡ 0
    → (8 * settings_size ≤ settings) × (8 * assignment_size ≤ assignments) × (8 * answer_size ≤ answers)
unfolding room_refusal
room_fine settings assignments answers = by _ refl _ refl _ refl
  where
    by : (x : Bool) → ltb settings (8 * settings_size) ≡ x → (y : Bool) → ltb assignments (8 * assignment_size) ≡ y
        → (z : Bool) → ltb answers (8 * answer_size) ≡ z → ◌≡◌ {A = ℕ} (cond (x or y or z) 21 0) 0
        → (8 * settings_size ≤ settings) × (8 * assignment_size ≤ assignments) × (8 * answer_size ≤ answers)
    by true a y b z c e = absurd (unfold ◌or◌ in omega (arith, e))
    by false a true b z c e = absurd (unfold ◌or◌ in omega (arith, e))
    by false a false b true c e = absurd (unfold ◌or◌ in omega (arith, e))
    by false a false b false c e = (ltb-false _ _ a, ltb-false _ _ b, ltb-false _ _ c)

pub room_enough : {b : Bool} {room : ℕ} → room ≡ cond b 0 21 → b ≡ true → room ≡ 0
room_enough e f = rw f at e

pub room_small : {b : Bool} {room : ℕ} → room ≡ cond b 0 21 → b ≡ false → room ≡ 21
room_small e f = rw f at e

pub all_fit : (s : Stakes) (numbers settings assignments answers : ℕ) {p : Parts} → length s.stakes ≡ 8
    → room_refusal settings assignments answers ≡ 0 → divided s (numbers / 4) ≡ Ok p
    → (none : Part) (i : ℕ) → i < p.count → Fits i (get_or p.parts i none).first (get_or p.parts i none).length numbers settings assignments answers
all_fit s numbers settings assignments answers {p} long fine is none i h =
    let d = subst (AllWithin (numbers / 4)) is (divided_within s (numbers / 4) long) i h in
    let r = room_fine settings assignments answers fine in
    record {
      race = d.race;
      part = omega (arith, d.part none, mul-div-le numbers 4);
      setting = omega (arith, d.race, r.0);
      assignment = omega (arith, d.race, r.1);
      answer = omega (arith, d.race, r.2);
    }

pub told_all : (s : Stakes) (m room : ℕ) {p : Result Parts Refusal} → room ≡ 0 → divided s m ≡ p
    → (ss : List ℕ) → s ≡ kept ss → (refusal_in p ≡ refusal_after room ss) × (parts_in p ≡ parts_after room m ss)
told_all s m room {p} fine is ss es =
    let t = subst (Told 0 ss m) (sym (ap (λ (x : Stakes). divided x m) es) ∙ is) (divided_told ss m) in
    (t.refusal ∙ ap (λ (k : ℕ). refusal_after k ss) (sym fine), t.parts ∙ ap (λ (k : ℕ). parts_after k m ss) (sym fine))

pub told_room : (m room : ℕ) → room ≡ 21
    → (ss : List ℕ) → (refusal_in (Err NoRoom) ≡ refusal_after room ss) × (parts_in (Err NoRoom) ≡ parts_after room m ss)
told_room m room small ss =
    let t = room_told ss m in
    (t.refusal ∙ ap (λ (k : ℕ). refusal_after k ss) (sym small), t.parts ∙ ap (λ (k : ℕ). parts_after k m ss) (sym small))

-- A `?` hands the refusal on as it is.
pub handed_on : (r : Result Parts Refusal) {why : Refusal} → IsErrAnd r (λ e. e ≡ why) → r ≡ Err why
handed_on (Ok p) h = absurd h
handed_on (Err e) h = ap Err h

-- Nothing is made for a refusal.
pub none_made : (g : Given) (b : Buffers) (r : Refusal) → b ≡ raced g (parts_in (Err r)) b
unfolding parts_in
none_made g b r = sym (no_race g b)

-- The list of records, with what the races' stakes stand for.
pub called : (ns : List ℕ) (g : Given) (b : Buffers) (room m : ℕ) (p : Result Parts Refusal) {st : Stakes} {b' : Buffers} {xs : List ℕ} → st ≡ kept (stakes_in ns)
    → ((ss : List ℕ) → st ≡ kept ss → (refusal_in p ≡ refusal_after room ss) × (parts_in p ≡ parts_after room m ss))
    → b' ≡ raced g (parts_in p) b → xs ≡ parts_put (parts_in p) ns
    → (refusal_in p ≡ refusal_after room (stakes_in ns)) × (xs ≡ parts_put (parts_after room m (stakes_in ns)) ns)
    × (b' ≡ raced g (parts_after room m (stakes_in ns)) b)
called ns g b room m p es told er ep =
    let t = told (stakes_in ns) es in
    (t.0, ep ∙ ap (λ (ps : List Part). parts_put ps ns) t.1, er ∙ ap (λ (ps : List Part). raced g ps b) t.1)
