-- Laws of the tightening's loops: what tightening from a find comes to, by what the next call comes to; and what has been done since the first find.
-- Assumes nothing.
use Prim.Native.Nat.{ℕ, zero, suc, ◌≤◌, ◌<◌}
use native.Mathlib.Omega.{arith}
use mathlib.Core.Path.{◌≡◌, refl, sym, ap, ap₂, ◌∙◌, subst}
use mathlib.Core.Bool.{true, false}
use mathlib.Core.List.{List, ◌∷◌}
use lib.Dec.{T}
use lib.IntN.{ℤ, pos, negsuc, nat_abs}
use lib.ListN.{length}
use lib.Signed.{le_z, lt_z}
use borrow.Author.Tests.{ltb-true, ltb-false, lt-leb, le-leb}
use mir.Facts.{to_z-of_z}
use mir.Syntax.{w64}
use mir.Val.{to_z, of_z, SFits}
use Rattle.plpb.specs.Lists.{◌and◌, is_empty}
use Rattle.plpb.specs.Plan.{Plan, Assignment, obeys, satisfies, cost, floor_cost}
use Rattle.plpb.specs.Walk.{Walk, done, at, ends, short, run}
use Rattle.plpb.specs.Settings.{Mode, linear, lbs, Settings}
use Rattle.plpb.specs.Search.{reached, call, tightened, lbs_bound, linear_bound, bound_in, Ending, ended, short_found, at_floor, gap, descending, linear_search, lbs_search, tighten, last_find, cost_of, Answer, answer_of as answered, conclude}
use Rattle.plpb.proofs.Lists.{and_right}
use Rattle.plpb.proofs.Costs.{floor_below, gap_zero, above_floor, bound_falls, bound_less, satisfies_tightened}
use Rattle.format.proofs.Bools.{T_true}
use Rattle.format.proofs.Lawful.{lawful_roomy}
use Rattle.counting.proofs.Signed.{small_fits}
use Rattle.costs.proofs.Costs.{floor_size, linear_within, lbs_within}
use Rattle.tallies.specs.Layout.{bits_of}
use Rattle.numbers.specs.Numbers.{numbers_of}
use Rattle.numbers.proofs.Runs.{descending_none, descending_floor, descending_failed, descending_found, descending_short}
use Rattle.progress.specs.declared.Progress.{Progress}
use Rattle.std.specs.Prelude.{Result, Ok, Err, IsErrAnd}
use Rattle.moves.specs.declared.Stop.TheVariants as stop
use Rattle.progress.specs.declared.Ending.{Ending as EndingOf}
use Rattle.progress.specs.declared.Ending.TheVariants as code
use Rattle.progress.specs.declared.Searched.{Searched}
use Rattle.settings.specs.Settings.{mode_in}
use Rattle.settings.specs.declared.Tightening.TheVariants as tightening
use Rattle.lending.specs.Work.{Work}
use Rattle.progress.specs.Bounds.{Halt, basis, Bounded, Tracks, Room, Leaves, called_of, progress_in, FindOr, CallsUnder, UnderBound, answer_of, ending_of, Concludes, Descends, Descent, StoppedAt}
use Rattle.progress.proofs.Bounds.{bounded_basis, cost_small, cost_fits}

-- ---- the loop's test

below_not : (a b : ℤ) → lt_z a b ≡ true → le_z b a ≡ false
below_not (pos a) (pos b) h = lt-leb b a (ltb-true a b h)
below_not (pos a) (negsuc b) h = absurd (let z : ◌≡◌ {A = ℕ} 0 1 = cc in omega arith)
below_not (negsuc a) (pos b) h = refl
below_not (negsuc a) (negsuc b) h = lt-leb a b (ltb-true b a h)

not_below : (a b : ℤ) → lt_z a b ≡ false → le_z b a ≡ true
not_below (pos a) (pos b) h = le-leb b a (ltb-false a b h)
not_below (pos a) (negsuc b) h = refl
not_below (negsuc a) (pos b) h = absurd (let z : ◌≡◌ {A = ℕ} 0 1 = cc in omega arith)
not_below (negsuc a) (negsuc b) h = le-leb a b (ltb-false b a h)

module _ (p : Plan) (a : Assignment) where
  above : lt_z (floor_cost p) (cost p a) ≡ true → at_floor p a ≡ false
  unfolding at_floor ◌and◌
  above h = rw (below_not (floor_cost p) (cost p a) h) refl

  reaches : T (obeys a p) → lt_z (floor_cost p) (cost p a) ≡ false → at_floor p a ≡ true
  unfolding at_floor ◌and◌
  reaches o h = rw (not_below (floor_cost p) (cost p a) h, T_true (le_z (floor_cost p) (cost p a)) (floor_below p a o)) refl

  some_gap : T (obeys a p) → at_floor p a ≡ false → 0 < gap p a
  some_gap o h = positive (gap p a) (λ e. above_floor p a o h (sym (gap_zero p a o e)))
    where
      positive : (n : ℕ) → (n ≡ 0 → ⊥) → 0 < n
      positive zero f = absurd (f refl)
      positive (suc n) f = omega arith

-- The assignment that the first bytes give.
abbrev pub held : Plan → List ℕ → Assignment
held p bytes = bits_of p.variables bytes

module _ {p : Plan} {tables terms : List ℕ} (b : Bounded p tables terms) {numbers assignment : List ℕ} {t : Progress} (st : Tracks p numbers assignment t) where
  pub cost_low : nat_abs (to_z w64 (of_z w64 t.cost)) < 4_294_967_296
  cost_low = rw (to_z-of_z (cost_fits b st)) (omega (arith, cost_small b st))

  cost_read : to_z w64 (of_z w64 t.cost) ≡ cost p (held p assignment)
  cost_read = to_z-of_z (cost_fits b st) ∙ st.costs

  module _ {l : ℤ} (e : l ≡ floor_cost p) where
    floor_read : to_z w64 (of_z w64 l) ≡ floor_cost p
    floor_read =
        let f : SFits w64 l = rw e (small_fits (floor_cost p) (omega (arith, floor_size p (lawful_roomy p b.lawful)))) in
        to_z-of_z f ∙ e

    pub floor_low : nat_abs (to_z w64 (of_z w64 l)) < 4_294_967_296
    floor_low = rw floor_read (omega (arith, floor_size p (lawful_roomy p b.lawful)))

    tested : lt_z (to_z w64 (of_z w64 l)) (to_z w64 (of_z w64 t.cost)) ≡ lt_z (floor_cost p) (cost p (held p assignment))
    tested = ap₂ lt_z floor_read cost_read

    pub test_above : lt_z (to_z w64 (of_z w64 l)) (to_z w64 (of_z w64 t.cost)) ≡ true → at_floor p (held p assignment) ≡ false
    test_above h = above p (held p assignment) (sym tested ∙ h)

    pub test_floor : lt_z (to_z w64 (of_z w64 l)) (to_z w64 (of_z w64 t.cost)) ≡ false → at_floor p (held p assignment) ≡ true
    test_floor h = reaches p (held p assignment) st.obeyed (sym tested ∙ h)

    -- The bound, as the code has it.
    module _ (mode : Mode) {k : ℤ} (f : SFits w64 k) (g : k ≡ bound_in mode (to_z w64 (of_z w64 l)) (to_z w64 (of_z w64 t.cost))) where
      pub bound_read : to_z w64 (of_z w64 k) ≡ bound_in mode (floor_cost p) (cost p (held p assignment))
      bound_read = to_z-of_z f ∙ g ∙ ap₂ (bound_in mode) floor_read cost_read

      pub bound_small : nat_abs (to_z w64 (of_z w64 k)) ≤ 1_000_000_000
      bound_small = rw bound_read (bound_within mode)
        where
          bound_within : (mode : Mode) → nat_abs (bound_in mode (floor_cost p) (cost p (held p assignment))) ≤ 1_000_000_000
          bound_within linear = unfold bound_in in linear_within p (lawful_roomy p b.lawful) (held p assignment)
          bound_within lbs = unfold bound_in in lbs_within p (lawful_roomy p b.lawful) (held p assignment)

-- The bound of each mode.
pub bound_linear : (l v : ℤ) → linear_bound v ≡ bound_in (mode_in tightening.Linear) l v
unfolding bound_in mode_in
bound_linear l v = refl

pub bound_lbs : (l v : ℤ) → lbs_bound l v ≡ bound_in (mode_in tightening.Lbs) l v
unfolding bound_in mode_in
bound_lbs l v = refl

-- ---- the answer

module _ (p : Plan) (t : Progress) (a : Assignment) (fs : List Assignment) (c : t.cost ≡ cost p a) (n : suc (length fs) ≡ t.finds) where
  concluded : (e : EndingOf) → conclude p (ends (ending_of e) (at t.spent.used t.spent.flips (a ∷ fs))) ≡ answer_of e t (reached a)
  unfolding conclude answered answer_of last_find cost_of
  concluded e = λ j. record { ending = ending_of e; cost = sym c j; finds = n j; flips = t.spent.flips; used = t.spent.used; assignment = reached a }

  concluded_short : conclude p (short (at t.spent.used t.spent.flips (a ∷ fs))) ≡ answer_of code.ShortFound t (reached a)
  unfolding conclude answered answer_of last_find cost_of is_empty ending_of
  concluded_short = λ j. record { ending = short_found; cost = sym c j; finds = n j; flips = t.spent.flips; used = t.spent.used; assignment = reached a }

-- ---- what follows the next call

module _ {s : Settings} {p : Plan} {numbers : List ℕ} {t : Progress} {m : ℤ} {r : Result Progress Halt} {entry exit : List ℕ} (c : CallsUnder s p m numbers t r entry exit) {k : ℤ} (e : m ≡ k) where
  called_under : (fs : List Assignment) → run (call s (tightened p k)) (numbers_of numbers) (at t.spent.used t.spent.flips fs) ≡ called_of r (held p exit) fs
  called_under fs = subst (λ n. run (call s (tightened p n)) (numbers_of numbers) (at t.spent.used t.spent.flips fs) ≡ called_of r (held p exit) fs) e (c.outcome fs)

-- A find costs less, so that fewer can follow.
pub falls : {s : Settings} {p : Plan} {numbers : List ℕ} {t u : Progress} {m : ℤ} {entry exit : List ℕ} → CallsUnder s p m numbers t (Ok u) entry exit
    → T (lt_z m (cost p (held p entry))) → gap p (held p exit) < gap p (held p entry)
unfolding FindOr tightened
falls {p = p} {m = m} {entry = entry} {exit = exit} c h =
    let x : T (satisfies (held p exit) (tightened p m)) = c.find.1 in
    let y : T (satisfies (held p exit) p and le_z (cost p (held p exit)) m) = rw (satisfies_tightened p m (held p exit)) at x in
    bound_falls p m (held p entry) (held p exit) (and_right (satisfies (held p exit) p) (le_z (cost p (held p exit)) m) y) h

pub bound_under : (p : Plan) (a : Assignment) (mode : Mode) → T (obeys a p) → at_floor p a ≡ false → {m : ℤ} → m ≡ bound_in mode (floor_cost p) (cost p a) → T (lt_z m (cost p a))
bound_under p a mode o h e = rw e (bound_less p a mode o h)

module _ (s : Settings) (mode : Mode) (o : Plan → ℕ → Assignment → Walk Ending) (p : Plan) (numbers : List ℕ) (t : Progress) (entry : List ℕ) where
  abbrev a : Assignment
  a = bits_of p.variables entry

  abbrev ns : List ℕ
  ns = numbers_of numbers

  abbrev walk : Plan → ℕ → Assignment → Walk Ending
  walk q = descending s q mode (o q)

  at_the_floor : t.cost ≡ cost p (held p entry) → at_floor p (held p entry) ≡ true → Concludes walk p numbers t (held p entry) (answer_of code.Floor t (reached (held p entry)))
  unfolding ending_of
  at_the_floor c h zero fs g n = ap (conclude p) (descending_none s p mode (o p) ns a (at t.spent.used t.spent.flips (a ∷ fs))) ∙ concluded p t a fs c n code.Floor
  at_the_floor c h (suc left) fs g n =
      ap (conclude p) (descending_floor s p mode (o p) ns a (at t.spent.used t.spent.flips (a ∷ fs)) left h) ∙ concluded p t a fs c n code.Floor

  module _ (w : T (obeys (held p entry) p)) (h : at_floor p (held p entry) ≡ false) {m : ℤ} (e : m ≡ bound_in mode (floor_cost p) (cost p (held p entry))) {u : Progress} {exit : List ℕ} where
    on_a_find : CallsUnder s p m numbers t (Ok u) entry exit → (r : Answer) → Concludes walk p numbers u (held p exit) r → Concludes walk p numbers t (held p entry) r
    unfolding called_of FindOr
    on_a_find c r f zero fs g n = absurd (omega (arith, some_gap p a w h))
    on_a_find c r f (suc left) fs g n =
        let less = falls c (bound_under p a mode w h e) in
        ap (conclude p) (descending_found s p mode (o p) ns a (at t.spent.used t.spent.flips (a ∷ fs)) left h (called_under c e (a ∷ fs)))
        ∙ f left (a ∷ fs) (omega arith) (omega (arith, c.find.0))

    -- What follows the first failure.
    on_a_failure : CallsUnder s p m numbers t (Err (stop.Failed u)) entry exit → (r : Answer) → Concludes o p numbers u (held p exit) r → Concludes walk p numbers t (held p entry) r
    unfolding called_of FindOr
    on_a_failure c r f zero fs g n = absurd (omega (arith, some_gap p a w h))
    on_a_failure c r f (suc left) fs g n =
        let same : held p exit ≡ a = ap (held p) c.find.1 in
        let l : Concludes o p numbers u a r = rw same at f in
        ap (conclude p) (descending_failed s p mode (o p) ns a (at t.spent.used t.spent.flips (a ∷ fs)) left h (called_under c e (a ∷ fs)))
        ∙ l (suc left) fs g (n ∙ sym c.find.0)

    where_short : CallsUnder s p m numbers t (Err (stop.Short u)) entry exit → Concludes walk p numbers t (held p entry) (answer_of code.ShortFound u (reached (held p exit)))
    unfolding called_of FindOr progress_in
    where_short c zero fs g n = absurd (omega (arith, some_gap p a w h))
    where_short c (suc left) fs g n =
        let same : held p exit ≡ a = ap (held p) c.find.1 in
        ap (conclude p) (descending_short s p mode (o p) ns a (at t.spent.used t.spent.flips (a ∷ fs)) left h (called_under c e (a ∷ fs)))
        ∙ rw same (concluded_short p u a fs (c.tracks.costs ∙ ap (cost p) same) (n ∙ sym c.find.0))

-- ---- what has been done since the first find

-- Every slice is as long as before.
pub record Long (before after : List ℕ) (find find' : List ℕ) (w v : Work) : Type 0 where
  pub tables : length after ≡ length before
  pub assignment : length find' ≡ length find
  pub tried : length v.assignment ≡ length w.assignment
  pub tallies : length v.tallies ≡ length w.tallies
  pub marks : length v.marks ≡ length w.marks

-- The tightening goes on from where the search is, and comes to what it comes to from the first find, whatever would follow its failure.
pub record Since (s : Settings) (mode : Mode) (p : Plan) (terms numbers tables₀ assignment₀ : List ℕ) (w : Work) (from : Progress) (tables assignment : List ℕ) (v : Work) (t : Progress) : Type 0 where
  pub room : Room p tables terms assignment v
  pub tracks : Tracks p numbers assignment t
  pub leaves : Leaves p tables₀ terms tables assignment₀ assignment w v
  pub comes : (o : Plan → ℕ → Assignment → Walk Ending) (r : Answer)
      → Concludes (λ q. descending s q mode (o q)) p numbers t (bits_of p.variables assignment) r
      → Concludes (λ q. descending s q mode (o q)) p numbers from (bits_of p.variables assignment₀) r

leaves_then : {p : Plan} {terms tables tables' tables'' assignment assignment' assignment'' : List ℕ} {w v u : Work}
    → Leaves p tables terms tables' assignment assignment' w v → Leaves p tables' terms tables'' assignment' assignment'' v u
    → Leaves p tables terms tables'' assignment assignment'' w u
leaves_then l k =
    record {
      bounded = k.bounded;
      table = k.table ∙ l.table;
      find = k.find ∙ l.find;
      beyond = record {
        assignment = k.beyond.assignment ∙ l.beyond.assignment;
        tallies = k.beyond.tallies ∙ l.beyond.tallies;
        marks = k.beyond.marks ∙ l.beyond.marks;
      };
    }

pub room_after : {p : Plan} {terms tables tables' assignment assignment' : List ℕ} {w v : Work}
    → Room p tables terms assignment w → Bounded p tables' terms → Long tables tables' assignment assignment' w v → Room p tables' terms assignment' v
room_after r b l =
    record {
      bounded = b;
      find = omega (arith, r.find, l.assignment);
      tried = omega (arith, r.tried, l.tried);
      tallies = omega (arith, r.tallies, l.tallies);
      marks = omega (arith, r.marks, l.marks);
    }

-- The plan searched stays the one that the tables gave at first.
module _ {p : Plan} {tables terms : List ℕ} (b : Bounded p tables terms) {assignment : List ℕ} where
  pub room_here : {w : Work} → Room p tables terms assignment w → Room (basis tables terms) tables terms assignment w
  room_here r = rw (bounded_basis b) r

  pub tracks_here : {numbers : List ℕ} {t : Progress} → Tracks p numbers assignment t → Tracks (basis tables terms) numbers assignment t
  tracks_here st = rw (bounded_basis b) st

  calls_here : {s : Settings} {m : ℤ} {numbers exit : List ℕ} {t : Progress} {r : Result Progress Halt}
      → CallsUnder s (basis tables terms) m numbers t r assignment exit → CallsUnder s p m numbers t r assignment exit
  calls_here c = rw (bounded_basis b) at c

  leaves_here : {tables' exit : List ℕ} {w v : Work} → Leaves (basis tables terms) tables terms tables' assignment exit w v → Leaves p tables terms tables' assignment exit w v
  leaves_here l = rw (bounded_basis b) at l

-- One turn of the loop.
module _ {s : Settings} {mode : Mode} {p : Plan} {terms numbers tables₀ assignment₀ : List ℕ} {w : Work} {from : Progress} {tables assignment : List ℕ} {v : Work} {t : Progress}
    (i : Since s mode p terms numbers tables₀ assignment₀ w from tables assignment v t)
  where
    pub descent_ends : at_floor p (bits_of p.variables assignment) ≡ true
        → Descends s mode p numbers from (bits_of p.variables assignment₀) (bits_of p.variables assignment) (Ok t)
        × Tracks p numbers assignment (progress_in (Ok t)) × Leaves p tables₀ terms tables assignment₀ assignment w v
    unfolding Descends progress_in
    descent_ends h = (λ o. i.comes o _ (at_the_floor s mode o p numbers t assignment i.tracks.costs h), i.tracks, i.leaves)

    module _ {m : ℤ} {r : Result Progress Halt} {tables' assignment' : List ℕ} {v' : Work} (c : UnderBound s m tables terms numbers t r tables' assignment assignment' v v')
        (h : at_floor p (bits_of p.variables assignment) ≡ false) (e : m ≡ bound_in mode (floor_cost p) (cost p (bits_of p.variables assignment)))
      where
        turn_calls : CallsUnder s p m numbers t r assignment assignment'
        turn_calls = calls_here i.room.bounded c.0

        turn_leaves : Leaves p tables₀ terms tables' assignment₀ assignment' w v'
        turn_leaves = leaves_then i.leaves (leaves_here i.room.bounded c.1)

        turn_found : {u : Progress} → r ≡ Ok u → CallsUnder s p m numbers t (Ok u) assignment assignment'
        turn_found k = subst (λ q. CallsUnder s p m numbers t q assignment assignment') k turn_calls

        pub descent_falls : {u : Progress} → r ≡ Ok u → gap p (bits_of p.variables assignment') < gap p (bits_of p.variables assignment)
        descent_falls k = falls (turn_found k) (bound_under p (bits_of p.variables assignment) mode i.tracks.obeyed h e)

        pub descent_again : {u : Progress} → r ≡ Ok u → Long tables tables' assignment assignment' v v'
            → Since s mode p terms numbers tables₀ assignment₀ w from tables' assignment' v' u
        unfolding progress_in
        descent_again k l =
            record {
              room = room_after i.room turn_leaves.bounded l;
              tracks = (turn_found k).tracks;
              leaves = turn_leaves;
              comes = λ o q g. i.comes o q (on_a_find s mode o p numbers t assignment i.tracks.obeyed h e (turn_found k) q g);
            }

        descent_stop : (why : Halt) → CallsUnder s p m numbers t (Err why) assignment assignment'
            → Descends s mode p numbers from (bits_of p.variables assignment₀) (bits_of p.variables assignment') (Err why)
        unfolding Descends
        descent_stop (stop.Failed u) d = λ o q g. i.comes o q (on_a_failure s mode o p numbers t assignment i.tracks.obeyed h e d q g)
        descent_stop (stop.Short u) d = λ o. i.comes o _ (where_short s mode o p numbers t assignment i.tracks.obeyed h e d)

        pub descent_stops : {why : Halt} → r ≡ Err why
            → Descends s mode p numbers from (bits_of p.variables assignment₀) (bits_of p.variables assignment') (Err why)
            × Tracks p numbers assignment' (progress_in (Err why)) × Leaves p tables₀ terms tables' assignment₀ assignment' w v'
        descent_stops {why} k =
            let d = subst (λ q. CallsUnder s p m numbers t q assignment assignment') k turn_calls in
            (descent_stop why d, d.tracks, turn_leaves)

-- A `?` hands the reason on as it is.
pub handed_on : (r : Result Progress Halt) {why : Halt} → IsErrAnd r (λ e. e ≡ why) → r ≡ Err why
handed_on (Ok t) h = absurd h
handed_on (Err e) h = ap Err h

-- ---- both modes

pub stopped_tracks : {p : Plan} {numbers assignment : List ℕ} (r : Result Progress Halt) (q : Searched) → StoppedAt r q → Tracks p numbers assignment (progress_in r) → Tracks p numbers assignment q.progress
unfolding StoppedAt progress_in
stopped_tracks (Ok t) q k st = rw k.1 st
stopped_tracks (Err (stop.Failed t)) q k st = rw k.1 st
stopped_tracks (Err (stop.Short t)) q k st = rw k.1 st

unfoldable pub Unfailed : Result Progress Halt → Type 0
Unfailed (Ok t) = Unit {0}
Unfailed (Err (stop.Failed t)) = ⊥
Unfailed (Err (stop.Short t)) = Unit {0}

pub unfailed_floor : {r : Result Progress Halt} {t : Progress} → r ≡ Ok t → Unfailed r
unfolding Unfailed
unfailed_floor e = rw e tt

pub unfailed_short : {r : Result Progress Halt} {t : Progress} → r ≡ Err (stop.Short t) → Unfailed r
unfolding Unfailed
unfailed_short e = rw e tt

-- "ended": nothing follows the failure of linear tightening.
ends_there : (p : Plan) (numbers : List ℕ) (t : Progress) (b : Assignment) → t.cost ≡ cost p b → Concludes (λ q left a. done ended) p numbers t b (answer_of code.Ended t (reached b))
unfolding run ending_of
ends_there p numbers t b c left fs g n = concluded p t b fs c n code.Ended

module _ (s : Settings) (p : Plan) (numbers : List ℕ) (from : Progress) (a : Assignment) (exit : List ℕ) (r : Result Progress Halt) (q : Searched) (k : StoppedAt r q) where
  abbrev b : Assignment
  b = bits_of p.variables exit

  -- A tightening that did not fail, whatever would have followed its failure.
  pub unfailed : (mode : Mode) → Unfailed r → Descends s mode p numbers from a (bits_of p.variables exit) r
      → Concludes (tighten mode s) p numbers from a (answer_of q.ending q.progress (reached (bits_of p.variables exit)))
  unfailed mode z d = in_mode mode (either r z k d)
    where
      either : (r : Result Progress Halt) → Unfailed r → StoppedAt r q → Descends s mode p numbers from a b r
          → (o : Plan → ℕ → Assignment → Walk Ending) → Concludes (λ q. descending s q mode (o q)) p numbers from a (answer_of q.ending q.progress (reached b))
      either (Ok t) z k d = unfold Descends StoppedAt in λ o. rw (k.0, k.1) (d o)
      either (Err (stop.Failed t)) z k d = absurd (unfold Unfailed in z)
      either (Err (stop.Short t)) z k d = unfold Descends StoppedAt in λ o. rw (k.0, k.1) (d o)

      in_mode : (mode : Mode) {x : Answer} → ((o : Plan → ℕ → Assignment → Walk Ending) → Concludes (λ q. descending s q mode (o q)) p numbers from a x) → Concludes (tighten mode s) p numbers from a x
      in_mode linear f = unfold tighten linear_search in f (λ q left a. done ended)
      in_mode lbs f = unfold tighten lbs_search in f (linear_search s)

  -- Linear tightening, also where it failed.
  pub linearly : Tracks p numbers exit (progress_in r) → Descends s linear p numbers from a (bits_of p.variables exit) r
      → Concludes (linear_search s) p numbers from a (answer_of q.ending q.progress (reached (bits_of p.variables exit)))
  linearly st d = either r k st d
    where
      either : (r : Result Progress Halt) → StoppedAt r q → Tracks p numbers exit (progress_in r) → Descends s linear p numbers from a b r
          → Concludes (linear_search s) p numbers from a (answer_of q.ending q.progress (reached b))
      either (Ok t) k st d = unfold Descends StoppedAt linear_search in rw (k.0, k.1) (d (λ q left a. done ended))
      either (Err (stop.Failed t)) k st d =
          unfold Descends StoppedAt linear_search progress_in in rw (k.0, k.1) (d (λ q left a. done ended) _ (ends_there p numbers t b st.costs))
      either (Err (stop.Short t)) k st d = unfold Descends StoppedAt linear_search in rw (k.0, k.1) (d (λ q left a. done ended))

  pub tightens_linearly : (m : Mode) → m ≡ linear → Tracks p numbers exit (progress_in r) → Descends s m p numbers from a (bits_of p.variables exit) r
      → Concludes (tighten m s) p numbers from a (answer_of q.ending q.progress (reached (bits_of p.variables exit)))
  unfolding tighten
  tightens_linearly m e st d = rw e (linearly st (rw e at d))

-- LBS has failed at the progress t, and linear tightening has gone on from there.
module _ {p : Plan} {terms numbers tables tables' assignment assignment' : List ℕ} {t : Progress} {w v : Work} {r : Result Progress Halt} (k : r ≡ Err (stop.Failed t))
    (l : Leaves p tables terms tables' assignment assignment' w v)
  where
    pub failed_tracks : Tracks p numbers assignment' (progress_in r) → Tracks (basis tables' terms) numbers assignment' t
    unfolding progress_in
    failed_tracks st = tracks_here l.bounded (subst (λ q. Tracks p numbers assignment' (progress_in q)) k st)

    pub lbs_then_linear : (s : Settings) (from : Progress) (mode : Mode) → mode ≡ lbs
        → Descends s mode p numbers from (bits_of p.variables assignment) (bits_of p.variables assignment') r
        → {tables'' exit : List ℕ} {u : Work} (d : Result Progress Halt) (q : Searched) → StoppedAt d q
        → Descent s linear tables' terms numbers t d tables'' assignment' exit v u
        → Concludes (tighten mode s) p numbers from (bits_of p.variables assignment) (answer_of q.ending q.progress (reached (bits_of p.variables exit)))
        × Tracks p numbers exit q.progress × Leaves p tables terms tables'' assignment exit w u
    unfolding Descends tighten lbs_search
    lbs_then_linear s from mode m f {tables''} {exit} {u} d q z g =
        let g' : Descends s linear p numbers t (bits_of p.variables assignment') (bits_of p.variables exit) d
        × Tracks p numbers exit (progress_in d) × Leaves p tables' terms tables'' assignment' exit v u =
        subst (λ o. Descends s linear o numbers t (bits_of o.variables assignment') (bits_of o.variables exit) d × Tracks o numbers exit (progress_in d) × Leaves o tables' terms tables'' assignment' exit v u) (bounded_basis l.bounded) g in
        let f' : Descends s lbs p numbers from (bits_of p.variables assignment) (bits_of p.variables assignment') (Err (stop.Failed t)) =
        subst (λ o. Descends s lbs p numbers from (bits_of p.variables assignment) (bits_of p.variables assignment') o) k (rw m at f) in
        rw m (f' (linear_search s) _ (linearly s p numbers t _ exit d q z g'.1 g'.0), stopped_tracks d q z g'.1, leaves_then l g'.2)
