-- Every search is sound: a call returns only what satisfies its plan, each bound lies below the last cost, and a failed first call has looked at no plan.
use Prim.Native.Nat.{ℕ, zero, suc, ◌+◌, ◌≤◌, ◌<◌}
use mathlib.Core.Bool.{Bool, true, false, not, cond, true≢false}
use mathlib.Core.List.{List, [], ◌∷◌, reverse_aux}
use mathlib.Core.Logic.{◌↔◌}
use mathlib.Core.Path.{◌≡◌, refl, sym, ◌∙◌, ap, subst}
use native.Mathlib.Omega.{arith}
use lib.Arith.{le-zero}
use borrow.Author.Tests.{eq-eqb}
use lib.Dec.{T, eqb, ltb}
use lib.IntN.{ℤ}
use lib.ListN.{length, get_or}
use lib.Signed.{lt_z}
use Rattle.plpb.specs.Lists.{◌and◌, ◌or◌, any, all, keep, is_empty, row}
use Rattle.plpb.specs.Plan.{Clause, Plan, Assignment, is_locked, obeys, satisfies, cost, floor_cost, names}
use Rattle.plpb.specs.Walk.{Walk, done, pick, flipped, ◌>>=◌, Mark, at, one_find, Outcome, ends, short, run, looks}
use Rattle.plpb.specs.Settings.{Mode, linear, lbs, Heuristic, skc, novelty, Settings}
use Rattle.plpb.specs.Try.{Try, begun, turn_over}
use Rattle.plpb.specs.Novelty.{last_flip, ranks_before, placed, ranked, is_newest}
use Rattle.plpb.specs.Choice.{choosable, pick_from, least_break, with_break, noisy_choice, skc_choice, ranked_choice, novelty_choice, choice_by, choice}
use Rattle.plpb.specs.Search.{Reached, failed, reached, Turn, stuck, turned, turning, move, go_on, flipping, try, or_else, trying, call, tightened, bound_in, Ending, floor, ended, none, short_found, short_none, at_floor, gap, after, descending, linear_search, lbs_search, tighten, search_walk, last_find, cost_of, answer_of, conclude, begin, search}
use Rattle.plpb.specs.Sound.{mark_of, finds_of, looks_of, costs_less, falling, no_plan, Sound}
use Rattle.plpb.proofs.Lists.{T_true, and_left, and_right, and_both, is_false, or_true, or_false, any_reverse}
use Rattle.plpb.proofs.Flip.{length_flip}
use Rattle.plpb.proofs.Locks.{zero_free, length_hold, hold_obeys, flip_obeys}
use Rattle.plpb.proofs.Costs.{gap_zero, at_floor_lem, floor_at, gap_falls, bound_less, tightened_obeys, tightened_find}
use Rattle.plpb.proofs.Walks.{Claim, Meets, Holds, meets_run, meets_bind, onward, run_bind, run_keeps, used_within, Draws, draws_meets}

-- A choice only draws numbers, and comes to one of the variables that it is given, or to 0.
pub pick_draws : {A : Type 0} (P : A → Type 0) (d : A) (xs : List A) → ((i : ℕ) → P (get_or xs i d)) → Draws P (pick_from d xs)
unfolding pick_from Draws
pick_draws P d xs h r = h r

-- What is so of 0 and of each of some variables that passes a test is so of those kept, at any place.
module _ (P : ℕ → Type 0) (q : ℕ → Bool) (z : P 0) where
  behind : (x : ℕ) (xs : List ℕ) → P x → ((i : ℕ) → P (get_or xs i 0)) → (i : ℕ) → P (get_or (x ∷ xs) i 0)
  behind x xs h k zero = h
  behind x xs h k (suc i) = k i

  kept_at : (xs : List ℕ) → ((i : ℕ) → T (q (get_or xs i 0)) → P (get_or xs i 0)) → (i : ℕ) → P (get_or (keep q xs) i 0)
  unfolding keep
  kept_at [] h = λ i. z
  kept_at (x ∷ xs) h = either (q x) refl (kept_at xs (λ i. h (suc i)))
    where
      either : (b : Bool) → q x ≡ b → ((i : ℕ) → P (get_or (keep q xs) i 0)) → (i : ℕ) → P (get_or (cond b (x ∷ keep q xs) (keep q xs)) i 0)
      either false e k = k
      either true e k = behind x (keep q xs) (h 0 (T_true e)) k

-- .. and of those ranked.
module _ (P : ℕ → Type 0) (z : P 0) (p : Plan) (a : Assignment) (last : ℕ → ℕ) where
  placed_at : (x : ℕ) (ys : List ℕ) → P x → ((i : ℕ) → P (get_or ys i 0)) → (i : ℕ) → P (get_or (placed p a last x ys) i 0)
  unfolding placed
  placed_at x [] h k = behind P (λ y. true) z x [] h k
  placed_at x (y ∷ ys) h k = either (ranks_before p a last y x) (placed_at x ys h (λ i. k (suc i)))
    where
      either : (b : Bool) → ((i : ℕ) → P (get_or (placed p a last x ys) i 0)) → (i : ℕ) → P (get_or (cond b (y ∷ placed p a last x ys) (x ∷ y ∷ ys)) i 0)
      either true j = behind P (λ y. true) z y (placed p a last x ys) (k 0) j
      either false j = behind P (λ y. true) z x (y ∷ ys) h k

  ranked_at : (xs : List ℕ) → ((i : ℕ) → P (get_or xs i 0)) → (i : ℕ) → P (get_or (ranked p a last xs) i 0)
  unfolding ranked
  ranked_at [] h = h
  ranked_at (x ∷ xs) h = placed_at x (ranked p a last xs) (h 0) (ranked_at xs (λ i. h (suc i)))

module _ (s : Settings) (p : Plan) (t : Try) (xs : List ℕ) (P : ℕ → Type 0) (z : P 0) (each : (i : ℕ) → P (get_or xs i 0)) where
  noisy_draws : Draws P (noisy_choice s p t xs)
  unfolding noisy_choice Draws ◌>>=◌
  noisy_draws r = pick_draws P 0 _ (either (ltb r s.noise))
    where
      either : (b : Bool) (i : ℕ) → P (get_or (cond b (with_break p t.bits (least_break p t.bits xs) xs) xs) i 0)
      either true = unfold with_break in kept_at P _ z xs (λ i h. each i)
      either false = each

  skc_draws : Draws P (skc_choice s p t xs)
  unfolding skc_choice
  skc_draws = either (is_empty (with_break p t.bits 0 xs))
    where
      either : (b : Bool) → Draws P (cond b (noisy_choice s p t xs) (pick_from 0 (with_break p t.bits 0 xs)))
      either true = noisy_draws
      either false = pick_draws P 0 (with_break p t.bits 0 xs) (unfold with_break in kept_at P _ z xs (λ i h. each i))

  ranked_draws : (last : ℕ → ℕ) (ys : List ℕ) → ((i : ℕ) → P (get_or ys i 0)) → Draws P (ranked_choice s last xs ys)
  unfolding ranked_choice Draws
  ranked_draws last [] h = z
  ranked_draws last (x ∷ []) h = h 0
  ranked_draws last (x ∷ y ∷ ys) h = either (is_newest last xs x)
    where
      one : (b : Bool) → P (cond b y x)
      one true = h 1
      one false = h 0

      either : (b : Bool) → Draws P (cond b (pick 1_000 (λ r. done (cond (ltb r s.noise) y x))) (done x))
      either true = λ r. one (ltb r s.noise)
      either false = h 0

  novelty_draws : (a : Assignment) (last : ℕ → ℕ) → Draws P (novelty_choice s p a last xs)
  unfolding novelty_choice Draws ◌>>=◌
  novelty_draws a last r = either (ltb r s.chance)
    where
      either : (b : Bool) → Draws P (cond b (pick_from 0 xs) (ranked_choice s last xs (ranked p a last xs)))
      either true = pick_draws P 0 xs each
      either false = ranked_draws last (ranked p a last xs) (ranked_at P z p a last xs each)

  pub choice_draws : Draws P (choice s p t xs)
  unfolding choice
  choice_draws = by s.heuristic
    where
      by : (h : Heuristic) → Draws P (choice_by h s p t (last_flip t.flips) xs)
      by skc = unfold choice_by in skc_draws
      by novelty = unfold choice_by in novelty_draws t.bits (last_flip t.flips)

-- "Only unlocked variables of a clause may be chosen"
abbrev Free : Plan → ℕ → Type 0
Free p x = is_locked p x ≡ false

choosable_free : (p : Plan) (c : Clause) (i : ℕ) → Free p (get_or (choosable p c) i 0)
unfolding choosable
choosable_free p c = kept_at (Free p) _ (zero_free p) (row 1 p.variables) (λ i h. is_false (is_locked p _) (and_right (names c _) (not (is_locked p _)) h))

-- A call for a plan q, from finds fs: I holds throughout if J is kept by looks that fail, B holds of every assignment held if it holds of each start
-- and is kept by flips of variables that are not locked, and a call returns with what satisfies q or with nothing.
module _ (s : Settings) (q : Plan) (fs : List Assignment) (I : Claim) (J : List Assignment → Type 0) (B : Assignment → Type 0) where
  pub record Returns (Q : Reached → Claim) : Type 0 where
    pub starts : (ws : List ℕ) → B (begun q ws).bits
    pub turns : (t : Try) (x : ℕ) → is_locked q x ≡ false → B t.bits → B (turn_over t x).bits
    pub during : (u f : ℕ) (ls : List Assignment) → f ≤ u → J ls → I (at u f fs) ls
    pub miss : (a : Assignment) (ls : List Assignment) → satisfies a q ≡ false → J ls → J (a ∷ ls)
    pub hit : (a : Assignment) (u f : ℕ) (ls : List Assignment) → satisfies a q ≡ true → B a → f ≤ u → J ls → Q (reached a) (at u f fs) (a ∷ ls)
    pub lost : (u f : ℕ) (ls : List Assignment) → f ≤ u → J ls → Q failed (at u f fs) ls

  abbrev pub Called : Walk Reached → Type 1
  Called w = (Q : Reached → Claim) → Returns Q → (u f : ℕ) (ls : List Assignment) → f ≤ u → J ls → Meets I Q w (at u f fs) ls

  abbrev CalledFrom : (Try → Walk Reached) → Type 1
  CalledFrom w = (t : Try) (Q : Reached → Claim) → Returns Q → B t.bits → (u f : ℕ) (ls : List Assignment) → f ≤ u → J ls → Meets I Q (w t) (at u f fs) ls

  turning_meets : (Q : Turn → Claim) (t : Try) (c : Clause) (u f : ℕ) (ls : List Assignment)
      → ((v : ℕ) → u ≤ v → I (at v f fs) ls)
      → Q stuck (at u f fs) ls
      → ((x v : ℕ) → is_locked q x ≡ false → u ≤ v → Q (turned (turn_over t x)) (at v (f + 1) fs) ls)
      → Meets I Q (turning s q t (choosable q c)) (at u f fs) ls
  unfolding turning Meets
  turning_meets Q t c u f ls i n h = either (is_empty (choosable q c))
    where
      on : Walk Turn
      on = choice s q t (choosable q c) >>= (λ x. flipped (done (turned (turn_over t x))))

      either : (b : Bool) → Meets I Q (cond b (done stuck) on) (at u f fs) ls
      either true = n
      either false =
          meets_bind I Q (λ x. flipped (done (turned (turn_over t x)))) (choice s q t (choosable q c)) (at u f fs) ls
          (draws_meets (Free q) I _ f fs ls (choice s q t (choosable q c)) u
          (choice_draws s q t (choosable q c) (Free q) (zero_free q) (choosable_free q c)) i h)

  move_meets : (Q : Turn → Claim) (t : Try) (u f : ℕ) (ls : List Assignment)
      → ((v : ℕ) → u ≤ v → I (at v f fs) ls)
      → ((v : ℕ) → u < v → Q stuck (at v f fs) ls)
      → ((x v : ℕ) → is_locked q x ≡ false → u < v → Q (turned (turn_over t x)) (at v (f + 1) fs) ls)
      → Meets I Q (move s q t) (at u f fs) ls
  unfolding move pick_from Meets ◌>>=◌
  move_meets Q t u f ls i n h = (
    i,
    λ r v l. turning_meets Q t _ v f ls (λ w k. i w (omega arith)) (n v (omega arith)) (λ x w o k. h x w o (omega arith)),
  )

  flipping_meets : (left : ℕ) → CalledFrom (flipping s q left)
  unfolding flipping go_on Meets
  flipping_meets zero t Q r b u f ls h j = r.lost u f ls h j
  flipping_meets (suc left) t Q r b u f ls h j = looked (satisfies t.bits q) refl (flipping_meets left)
    where
      looked : (o : Bool) → satisfies t.bits q ≡ o
          → CalledFrom (flipping s q left)
          → Meets I Q (cond o (done (reached t.bits)) (move s q t >>= go_on (flipping s q left))) (at u f fs) (t.bits ∷ ls)
      looked true e on = r.hit t.bits u f ls e b h j
      looked false e on =
          let k = r.miss t.bits ls e j in
          meets_bind I Q (go_on (flipping s q left)) (move s q t) (at u f fs) (t.bits ∷ ls)
          (move_meets _ t u f (t.bits ∷ ls) (λ v l. r.during v f (t.bits ∷ ls) (omega arith) k)
          (λ v l. r.lost v f (t.bits ∷ ls) (omega arith) k)
          (λ x v o l. on (turn_over t x) Q r (r.turns t x o b) v (f + 1) (t.bits ∷ ls) (omega arith) k))

  try_meets : Called (try s q)
  unfolding try Meets
  try_meets Q r u f ls h j =
      (λ v l. r.during v f ls (omega arith) j, λ ws v l. flipping_meets s.flips (begun q ws) Q r (r.starts ws) v f ls (omega arith) j)

  trying_meets : (left : ℕ) → Called (trying s q left)
  unfolding trying or_else Meets
  trying_meets zero Q r u f ls h j = r.lost u f ls h j
  trying_meets (suc left) Q r u f ls h j =
      meets_bind I Q (or_else (trying s q left)) (try s q) (at u f fs) ls
      (try_meets _ (record { starts = r.starts; turns = r.turns; during = r.during; miss = r.miss; hit = r.hit; lost = trying_meets left Q r }) u f ls h j)

  pub call_meets : Called (call s q)
  unfolding call
  call_meets = trying_meets s.tries

-- What is kept through a search, and what its endings say.
abbrev pub seen : Plan → List Assignment → Bool
seen p ls = any (λ a. satisfies a p) ls

-- A value for each variable.
abbrev pub Complete : Plan → Assignment → Type 0
Complete p a = length a ≡ p.variables

-- .. and each locked one its own.
pub record Lawful (p : Plan) (a : Assignment) : Type 0 where
  pub complete : Complete p a
  pub obeyed : T (obeys a p)

start_lawful : (p : Plan) (ws : List ℕ) → Lawful p (begun p ws).bits
unfolding begun
start_lawful p ws = record { complete = length_hold p _; obeyed = hold_obeys p _ }

turn_lawful : (p : Plan) (t : Try) (x : ℕ) → is_locked p x ≡ false → Lawful p t.bits → Lawful p (turn_over t x).bits
unfolding turn_over
turn_lawful p t x e h = record { complete = length_flip t.bits x ∙ h.complete; obeyed = flip_obeys p t.bits x e h.obeyed }

-- The added clause locks nothing.
tightened_lawful : (p : Plan) (m : ℤ) (a : Assignment) → Lawful (tightened p m) a → Lawful p a
unfolding tightened
tightened_lawful p m a h = record { complete = h.complete; obeyed = subst T (tightened_obeys p m a) h.obeyed }

-- What one call returns obeys the locks.
unfoldable Obeyed : Plan → Reached → Type 0
Obeyed p failed = Unit {0}
Obeyed p (reached a) = T (obeys a p)

pub call_obeys : (s : Settings) (p : Plan) (ns : List ℕ) (u f : ℕ) (fs : List Assignment) → f ≤ u
    → {a : Assignment} {m : Mark} → run (call s p) ns (at u f fs) ≡ ends (reached a) m → T (obeys a p)
unfolding Obeyed Holds
call_obeys s p ns u f fs h {a} {m} e =
    subst (λ o. Holds (λ m ls. Unit {0}) (λ r m ls. Obeyed p r) o (reverse_aux (looks (call s p) ns u) [])) e
    (meets_run (λ m ls. Unit {0}) (λ r m ls. Obeyed p r) ns (call s p) (at u f fs) []
    (call_meets s p fs (λ m ls. Unit {0}) (λ ls. Unit {0}) (Lawful p) (λ r m ls. Obeyed p r) (record {
      starts = start_lawful p;
      turns = turn_lawful p;
      during = λ u f ls h k. tt;
      miss = λ a ls e k. tt;
      hit = λ a u f ls e b h k. b.obeyed;
      lost = λ u f ls h k. tt;
    }) u f [] h tt))

pub record Good (p : Plan) (fs : List Assignment) : Type 0 where
  pub complete : T (all (λ a. eqb (length a) p.variables) fs)
  pub satisfied : T (all (λ a. satisfies a p) fs)
  pub obeyed : T (all (λ a. obeys a p) fs)
  pub fell : T (falling p fs)

pub record Kept (p : Plan) (m : Mark) (ls : List Assignment) : Type 0 where
  pub good : Good p m.finds
  pub nothing_seen : is_empty m.finds ≡ not (seen p ls)
  pub fair : m.flips ≤ m.used

-- Whether the last find costs l(O): then the search is over.
unfoldable pub last_at_floor : Plan → List Assignment → Bool
last_at_floor p [] = false
last_at_floor p (a ∷ fs) = at_floor p a

unfoldable pub is_floor : Ending → Bool
is_floor floor = true
is_floor ended = false
is_floor none = false
is_floor short_found = false
is_floor short_none = false

-- .. wherever numbers may be gone,
pub record Going (p : Plan) (m : Mark) (ls : List Assignment) : Type 0 where
  pub kept : Kept p m ls
  pub above : last_at_floor p m.finds ≡ false

-- and where it ended.
pub record Ended (p : Plan) (e : Ending) (m : Mark) (ls : List Assignment) : Type 0 where
  pub kept : Kept p m ls
  pub says : no_plan e ≡ is_empty m.finds
  pub floored : is_floor e ≡ last_at_floor p m.finds

one_good : (p : Plan) (a : Assignment) → Lawful p a → T (satisfies a p) → Good p (a ∷ [])
unfolding all falling costs_less ◌and◌
one_good p a n h = record {
  complete = rw (eq-eqb _ _ n.complete) tt;
  satisfied = and_both (satisfies a p) true h tt;
  obeyed = and_both (obeys a p) true n.obeyed tt;
  fell = tt;
}

more_good : (p : Plan) (b a : Assignment) (fs : List Assignment) → Lawful p b → T (satisfies b p) → T (lt_z (cost p b) (cost p a)) → Good p (a ∷ fs) → Good p (b ∷ a ∷ fs)
unfolding all falling costs_less
more_good p b a fs n h k g = record {
  complete = and_both _ _ (T_true (eq-eqb _ _ n.complete)) g.complete;
  satisfied = and_both (satisfies b p) _ h g.satisfied;
  obeyed = and_both (obeys b p) _ n.obeyed g.obeyed;
  fell = and_both (lt_z (cost p b) (cost p a)) _ k g.fell;
}

-- The last find obeys.
last_obeys : (p : Plan) (a : Assignment) (fs : List Assignment) → Good p (a ∷ fs) → T (obeys a p)
unfolding all
last_obeys p a fs g = and_left (obeys a p) _ g.obeyed

kept_found : (p : Plan) (a : Assignment) (fs : List Assignment) → Good p (a ∷ fs) → (u f : ℕ) (ls : List Assignment) → f ≤ u → seen p ls ≡ true → Kept p (at u f (a ∷ fs)) ls
unfolding is_empty
kept_found p a fs g u f ls h k = record { good = g; nothing_seen = ap not (sym k); fair = h }

kept_none : (p : Plan) (u f : ℕ) (ls : List Assignment) → f ≤ u → seen p ls ≡ false → Kept p (at u f []) ls
unfolding is_empty all falling
kept_none p u f ls h k = record { good = record { complete = tt; satisfied = tt; obeyed = tt; fell = tt }; nothing_seen = ap not (sym k); fair = h }

seen_before : (p : Plan) (a : Assignment) (ls : List Assignment) → seen p ls ≡ true → seen p (a ∷ ls) ≡ true
unfolding any
seen_before p a ls k = ap (λ b. satisfies a p or b) k ∙ or_true (satisfies a p)

seen_now : (p : Plan) (a : Assignment) (ls : List Assignment) {b : Bool} → satisfies a p ≡ b → seen p (a ∷ ls) ≡ b or seen p ls
unfolding any
seen_now p a ls e = ap (λ c. c or seen p ls) e

module _ (s : Settings) (p : Plan) where
  -- A walk that is sound from finds fs onward.
  abbrev Goes : Walk Ending → List Assignment → Type 0
  Goes w fs = (u f : ℕ) (ls : List Assignment) → f ≤ u → seen p ls ≡ true → Meets (Going p) (Ended p) w (at u f fs) ls

  floor_goes : (a : Assignment) (fs : List Assignment) → Good p (a ∷ fs) → at_floor p a ≡ true → Goes (done floor) (a ∷ fs)
  unfolding Meets no_plan is_empty is_floor last_at_floor
  floor_goes a fs g e u f ls h k = record { kept = kept_found p a fs g u f ls h k; says = refl; floored = sym e }

  ended_goes : (a : Assignment) (fs : List Assignment) → Good p (a ∷ fs) → at_floor p a ≡ false → Goes (done ended) (a ∷ fs)
  unfolding Meets no_plan is_empty is_floor last_at_floor
  ended_goes a fs g e u f ls h k = record { kept = kept_found p a fs g u f ls h k; says = refl; floored = sym e }

  -- One call with an added clause whose bound lies below the last cost.
  next_goes : (m : ℤ) (a : Assignment) (fs : List Assignment) → Good p (a ∷ fs) → at_floor p a ≡ false → T (lt_z m (cost p a))
      → (otherwise : Walk Ending) (next : Assignment → Walk Ending)
      → Goes otherwise (a ∷ fs) → ((b : Assignment) → Good p (b ∷ a ∷ fs) → gap p b < gap p a → Goes (next b) (b ∷ a ∷ fs))
      → Goes (call s (tightened p m) >>= after otherwise next) (a ∷ fs)
  unfolding Meets after last_at_floor tightened
  next_goes m a fs g e l otherwise next lost won u f ls h k =
      meets_bind (Going p) (Ended p) (after otherwise next) (call s (tightened p m)) (at u f (a ∷ fs)) ls
      (call_meets s (tightened p m) (a ∷ fs) (Going p) (λ ls. seen p ls ≡ true) (Lawful (tightened p m)) _ (record {
        starts = start_lawful (tightened p m);
        turns = turn_lawful (tightened p m);
        during = λ u f ls h k. record { kept = kept_found p a fs g u f ls h k; above = e };
        miss = λ b ls e k. seen_before p b ls k;
        hit = λ b u f ls e n h k.
            let t = tightened_find p m (cost p a) b l (T_true e) in
            won b (more_good p b a fs (tightened_lawful p m b n) t.0 t.1 g) (gap_falls p a b t.1) u f (b ∷ ls) h (seen_before p b ls k);
        lost = lost;
      }) u f ls h k)

  -- "A found assignment of cost v with v = l(O) ends the search."
  unless_floor : (a : Assignment) (fs : List Assignment) (on : Walk Ending) → Good p (a ∷ fs)
      → (b : Bool) → at_floor p a ≡ b → (at_floor p a ≡ false → Goes on (a ∷ fs))
      → Goes (cond b (done floor) on) (a ∷ fs)
  unless_floor a fs on g true e h = floor_goes a fs g e
  unless_floor a fs on g false e h = h e

  -- A tightening, and what follows its failure.
  module _ (mode : Mode) (otherwise : ℕ → Assignment → Walk Ending)
      (fails : (left : ℕ) (a : Assignment) (fs : List Assignment) → Good p (a ∷ fs) → gap p a ≤ left → at_floor p a ≡ false → Goes (otherwise left a) (a ∷ fs)) where
    descending_goes : (left : ℕ) (a : Assignment) (fs : List Assignment) → Good p (a ∷ fs) → gap p a ≤ left → Goes (descending s p mode otherwise left a) (a ∷ fs)
    unfolding descending
    descending_goes zero a fs g h = floor_goes a fs g (floor_at p a (gap_zero p a (last_obeys p a fs g) (le-zero h)))
    descending_goes (suc left) a fs g h = unless_floor a fs _ g (at_floor p a) refl
        (λ e. next_goes (bound_in mode (floor_cost p) (cost p a)) a fs g e (bound_less p a mode (last_obeys p a fs g) e) (otherwise (suc left) a) (descending s p mode otherwise left)
        (fails (suc left) a fs g h e) (λ b g' l. descending_goes left b (a ∷ fs) g' (omega arith)))

  linear_goes : (left : ℕ) (a : Assignment) (fs : List Assignment) → Good p (a ∷ fs) → gap p a ≤ left → Goes (linear_search s p left a) (a ∷ fs)
  unfolding linear_search
  linear_goes = descending_goes linear (λ left a. done ended) (λ left a fs g h e. ended_goes a fs g e)

  lbs_goes : (left : ℕ) (a : Assignment) (fs : List Assignment) → Good p (a ∷ fs) → gap p a ≤ left → Goes (lbs_search s p left a) (a ∷ fs)
  unfolding lbs_search
  lbs_goes = descending_goes lbs (linear_search s p) (λ left a fs g h e. linear_goes left a fs g h)

  tighten_goes : (m : Mode) (a : Assignment) (fs : List Assignment) → Good p (a ∷ fs) → Goes (tighten m s p (gap p a) a) (a ∷ fs)
  unfolding tighten
  tighten_goes linear a fs g = linear_goes (gap p a) a fs g (omega arith)
  tighten_goes lbs a fs g = lbs_goes (gap p a) a fs g (omega arith)

  -- "the first call has the plan alone"
  pub search_meets : Meets (Going p) (Ended p) (search_walk s p) begin []
  unfolding search_walk Meets after begin any ◌or◌ no_plan is_empty is_floor last_at_floor
  search_meets =
      meets_bind (Going p) (Ended p) (after (done none) (λ a. tighten s.mode s p (gap p a) a)) (call s p) begin []
      (call_meets s p [] (Going p) (λ ls. seen p ls ≡ false) (Lawful p) _ (record {
        starts = start_lawful p;
        turns = turn_lawful p;
        during = λ u f ls h k. record { kept = kept_none p u f ls h k; above = refl };
        miss = λ b ls e k. seen_now p b ls e ∙ k;
        hit = λ b u f ls e n h k. tighten_goes s.mode b [] (one_good p b n (T_true e)) u f (b ∷ ls) h (seen_now p b ls e);
        lost = λ u f ls h k. record { kept = kept_none p u f ls h k; says = refl; floored = refl };
      }) 0 0 [] (omega arith) refl)

-- What a run's outcome says, ended or short.
module _ (p : Plan) (ls : List Assignment) where
  kept_of : (o : Outcome Ending) → Holds (Going p) (Ended p) o ls → Kept p (mark_of o) ls
  unfolding Holds mark_of
  kept_of (ends e m) h = h.kept
  kept_of (short m) h = h.kept

  says_of : (o : Outcome Ending) → Holds (Going p) (Ended p) o ls → no_plan (conclude p o).ending ≡ is_empty (mark_of o).finds
  unfolding Holds mark_of conclude answer_of no_plan is_empty
  says_of (ends e m) h = h.says
  says_of (short m) h = either m.finds
    where
      either : (fs : List Assignment) → no_plan (cond (is_empty fs) short_none short_found) ≡ is_empty fs
      either [] = refl
      either (a ∷ fs) = refl

  floored_of : (o : Outcome Ending) → Holds (Going p) (Ended p) o ls → is_floor (conclude p o).ending ≡ last_at_floor p (mark_of o).finds
  unfolding Holds mark_of conclude answer_of is_empty is_floor
  floored_of (ends e m) h = h.floored
  floored_of (short m) h = either m.finds ∙ sym h.above
    where
      either : (fs : List Assignment) → is_floor (cond (is_empty fs) short_none short_found) ≡ false
      either [] = refl
      either (a ∷ fs) = refl

answer_of_lem : (p : Plan) (o : Outcome Ending) → conclude p o ≡ answer_of p (conclude p o).ending (mark_of o)
unfolding conclude answer_of mark_of
answer_of_lem p (ends e m) = refl
answer_of_lem p (short m) = refl

-- "floor (v = l(O))"
floor_told : (p : Plan) (fs : List Assignment) {r : Reached} {e : Ending} → r ≡ last_find fs → is_floor e ≡ last_at_floor p fs
    → (e ≡ floor) ↔ ((a : Assignment) × (r ≡ reached a) × (cost p a ≡ floor_cost p))
unfolding last_find last_at_floor is_floor
floor_told p [] h k = (λ g. let z : true ≡ false = sym (ap is_floor g) ∙ k in absurd (true≢false z), λ g. let z : failed ≡ reached g.0 = sym h ∙ g.1 in absurd (nothing z))
  where
    nothing : {a : Assignment} → failed ≡ reached a → ⊥
    nothing z = let o : ◌≡◌ {A = ℕ} 0 1 = cc in omega arith
floor_told p (a ∷ fs) {r} {e} h k =
    (λ g. (a, h, at_floor_lem p a (sym k ∙ ap is_floor g)), λ g. floor_only e (k ∙ floor_at p a (let same : a ≡ g.0 = cc in ap (cost p) same ∙ g.2)))
  where
    floor_only : (e : Ending) → is_floor e ≡ true → e ≡ floor
    floor_only floor z = refl
    floor_only ended z = absurd (true≢false (sym z))
    floor_only none z = absurd (true≢false (sym z))
    floor_only short_found z = absurd (true≢false (sym z))
    floor_only short_none z = absurd (true≢false (sym z))

-- No find was made.
abbrev Nothing : Claim
Nothing m ls = m.finds ≡ []

first_of : (o : Outcome Reached) (ls : List Assignment) → Holds Nothing (λ r. Nothing) o ls → (mark_of o).finds ≡ []
unfolding Holds mark_of
first_of (ends r m) ls h = h
first_of (short m) ls h = h

module _ (s : Settings) (p : Plan) (ns : List ℕ) where
  outcome : Outcome Ending
  outcome = run (search_walk s p) ns begin

  outcome_holds : Holds (Going p) (Ended p) outcome (reverse_aux (looks_of s p ns) [])
  unfolding outcome looks_of begin
  outcome_holds = meets_run (Going p) (Ended p) ns (search_walk s p) begin [] (search_meets s p)

  outcome_seen : seen p (reverse_aux (looks_of s p ns) []) ≡ seen p (looks_of s p ns)
  unfolding any
  outcome_seen = any_reverse (λ a. satisfies a p) (looks_of s p ns) [] ∙ or_false (seen p (looks_of s p ns))

  outcome_kept : Kept p (mark_of outcome) (reverse_aux (looks_of s p ns) [])
  outcome_kept = kept_of p _ outcome outcome_holds

  answered : search s p ns ≡ answer_of p (search s p ns).ending (mark_of outcome)
  unfolding search outcome
  answered = answer_of_lem p outcome

  -- The first call makes no find,
  call_finds : (mark_of (run (call s p) ns begin)).finds ≡ []
  unfolding begin
  call_finds = first_of (run (call s p) ns begin) _ (meets_run Nothing (λ r. Nothing) ns (call s p) begin [] (call_meets s p [] Nothing (λ ls. Unit {0}) (λ a. Unit {0}) (λ r. Nothing) (record {
    starts = λ ws. tt;
    turns = λ t x o b. tt;
    during = λ u f ls h k. refl;
    miss = λ a ls e k. tt;
    hit = λ a u f ls e b h k. refl;
    lost = λ u f ls h k. refl;
  }) 0 0 [] (omega arith) tt))

  -- and what follows it decides the ending.
  abbrev then : Reached → Walk Ending
  then = after (done none) (λ a. tighten s.mode s p (gap p a) a)

  followed : search s p ns ≡ conclude p (onward then ns (run (call s p) ns begin))
  unfolding search search_walk
  followed = ap (conclude p) (run_bind then ns (call s p) begin)

  data First : Type 0 where
    failing : (m : Mark) → run (call s p) ns begin ≡ ends failed m → (search s p ns).ending ≡ none → First
    finding : (a : Assignment) (m : Mark) → run (call s p) ns begin ≡ ends (reached a) m → no_plan (search s p ns).ending ≡ false → First
    shorting : (m : Mark) → run (call s p) ns begin ≡ short m → (search s p ns).ending ≡ short_none → First

  some_find : (w : Walk Ending) (a : Assignment) (m : Mark) → is_empty (mark_of (run w ns (one_find a m))).finds ≡ false
  unfolding is_empty
  some_find w a m = run_keeps ns (λ n. is_empty n.finds ≡ false) (λ n v l k h. h) (λ n h. h) (λ n b h. refl) w (one_find a m) refl

  first : First
  first = told (run (call s p) ns begin) refl call_finds
    where
      said : no_plan (search s p ns).ending ≡ is_empty (finds_of s p ns)
      said = unfold search finds_of outcome in says_of p _ outcome outcome_holds

      told : (o : Outcome Reached) → run (call s p) ns begin ≡ o → (mark_of o).finds ≡ [] → First
      told (ends failed m) e n =
          failing m e (unfold onward after run conclude answer_of in ap (λ r. r.ending) (followed ∙ ap (λ o. conclude p (onward then ns o)) e))
      told (ends (reached a) m) e n =
          finding a m e (said ∙ (unfold finds_of search_walk onward after run in
          ap (λ o. is_empty (mark_of o).finds) (run_bind then ns (call s p) begin ∙ ap (onward then ns) e)
          ∙ some_find (tighten s.mode s p (gap p a) a) a m))
      told (short m) e n =
          shorting m e (ap (λ r. r.ending) (followed ∙ ap (λ o. conclude p (onward then ns o)) e) ∙ (unfold onward mark_of conclude answer_of is_empty in ap (λ fs. cond (is_empty fs) short_none short_found) n))

  none_told : First → ((search s p ns).ending ≡ none) ↔ ((m : Mark) × (run (call s p) ns begin ≡ ends failed m))
  unfolding no_plan
  none_told (failing m e h) = (λ g. (m, e), λ g. h)
  none_told (finding a m e h) =
      (λ g. absurd (true≢false (sym (ap no_plan g) ∙ h)), λ g. let z : ◌≡◌ {A = ℕ} 0 1 = cc (sym e ∙ g.1) in absurd (omega arith))
  none_told (shorting m e h) =
      (λ g. let z : ◌≡◌ {A = ℕ} 0 1 = cc in absurd (omega arith), λ g. let z : ◌≡◌ {A = ℕ} 0 1 = cc (sym e ∙ g.1) in absurd (omega arith))

  short_told : First → ((search s p ns).ending ≡ short_none) ↔ ((m : Mark) × (run (call s p) ns begin ≡ short m))
  unfolding no_plan
  short_told (failing m e h) =
      (λ g. let z : ◌≡◌ {A = ℕ} 0 1 = cc in absurd (omega arith), λ g. let z : ◌≡◌ {A = ℕ} 0 1 = cc (sym e ∙ g.1) in absurd (omega arith))
  short_told (finding a m e h) =
      (λ g. absurd (true≢false (sym (ap no_plan g) ∙ h)), λ g. let z : ◌≡◌ {A = ℕ} 0 1 = cc (sym e ∙ g.1) in absurd (omega arith))
  short_told (shorting m e h) = (λ g. (m, e), λ g. h)

  pub search_sound : Sound s p ns
  unfolding search finds_of outcome answer_of
  search_sound =
      let handed : (search s p ns).assignment ≡ last_find (finds_of s p ns) = ap (λ r. r.assignment) answered in
      let said = says_of p _ outcome outcome_holds in
      record {
        each_complete = outcome_kept.good.complete;
        each_satisfies = outcome_kept.good.satisfied;
        each_obeys = outcome_kept.good.obeyed;
        each_costs_less = outcome_kept.good.fell;
        handed_out = handed;
        cost_stated = ap (λ r. r.cost) answered ∙ ap (cost_of p) (sym handed);
        finds_counted = ap (λ r. r.finds) answered;
        none_found = said;
        none_only = said ∙ outcome_kept.nothing_seen ∙ ap not outcome_seen;
        none_exactly = none_told first;
        short_none_exactly = short_told first;
        floor_exactly = floor_told p (finds_of s p ns) handed (floored_of p _ outcome outcome_holds);
      }

  -- .. and it makes no more flips than it uses numbers, of which it uses no more than there are.
  pub search_flips : (search s p ns).flips ≤ (search s p ns).used
  unfolding answer_of
  search_flips = subst (λ r. r.flips ≤ r.used) (sym answered) outcome_kept.fair

  pub search_used : (search s p ns).used ≤ length ns
  unfolding answer_of outcome begin
  search_used = subst (λ r. r.used ≤ length ns) (sym answered) (used_within ns (search_walk s p) begin (omega arith))
