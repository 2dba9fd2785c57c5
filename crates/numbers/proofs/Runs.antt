-- What a run of the walk comes to, one step of a definition at a time and from any mark, so that a loop's code can follow it: each law turns the
-- outcome of a definition's next part into that of the whole. Assumes nothing.
use Prim.Native.Nat.{ℕ, suc, ◌-◌, ◌<◌}
use native.Mathlib.Omega.{arith}
use mathlib.Core.Path.{◌≡◌, refl, sym, ap, ◌∙◌}
use mathlib.Core.Bool.{Bool, true, false, cond}
use mathlib.Core.List.{List, [], ◌∷◌}
use lib.Dec.{ltb, eqb, eqb-suc-zero}
use lib.ListN.{length, get_or}
use Rattle.plpb.specs.Lists.{is_empty}
use Rattle.plpb.specs.Plan.{Plan, Assignment, satisfies, cost, floor_cost}
use Rattle.plpb.specs.Numbers.{Taken, taken, too_few, take_words, take_pick, start_words}
use Rattle.plpb.specs.Walk.{Walk, done, words, pick, flipped, ◌>>=◌, Mark, drawn, one_flip, one_find, ends, short, run}
use Rattle.plpb.specs.Settings.{Mode, Settings}
use Rattle.plpb.specs.Try.{Try, begun, turn_over}
use Rattle.plpb.specs.Choice.{pick_from, least_break, with_break, noisy_choice, skc_choice, choice}
use Rattle.plpb.specs.Search.{Reached, failed, reached, stuck, turned, turning, move, go_on, flipping, try, or_else, trying, call, tightened, bound_in, Ending, floor, none, at_floor, gap, after, descending, tighten, search_walk}
use Rattle.plpb.proofs.Walks.{resume, run_words, run_pick, onward, run_bind}

-- ---- needs, and one walk after another

module _ {X A : Type 0} (f : X → Walk A) (ns : List ℕ) (m : Mark) {u : ℕ} where
  pub resume_taken : {t : Taken X} {x : X} → t ≡ taken x u → resume f ns m t ≡ run (f x) ns (drawn u m)
  unfolding resume
  resume_taken e = ap (resume f ns m) e

  pub resume_short : {t : Taken X} → t ≡ too_few u → resume f ns m t ≡ short (drawn u m)
  unfolding resume
  resume_short e = ap (resume f ns m) e

module _ {A : Type 0} (k : ℕ) (g : List ℕ → Walk A) (ns : List ℕ) (m : Mark) {u : ℕ} where
  pub run_words_taken : {ws : List ℕ} → take_words k ns m.used ≡ taken ws u → run (words k g) ns m ≡ run (g ws) ns (drawn u m)
  run_words_taken e = run_words k g ns m ∙ resume_taken g ns m e

  pub run_words_short : take_words k ns m.used ≡ too_few u → run (words k g) ns m ≡ short (drawn u m)
  run_words_short e = run_words k g ns m ∙ resume_short g ns m e

module _ {A : Type 0} (k : ℕ) (g : ℕ → Walk A) (ns : List ℕ) (m : Mark) {u : ℕ} where
  pub run_pick_taken : {i : ℕ} → take_pick k ns m.used ≡ taken i u → run (pick k g) ns m ≡ run (g i) ns (drawn u m)
  run_pick_taken e = run_pick k g ns m ∙ resume_taken g ns m e

  pub run_pick_short : take_pick k ns m.used ≡ too_few u → run (pick k g) ns m ≡ short (drawn u m)
  run_pick_short e = run_pick k g ns m ∙ resume_short g ns m e

module _ {A B : Type 0} (w : Walk A) (k : A → Walk B) (ns : List ℕ) (m : Mark) {n : Mark} where
  pub bind_ends : {a : A} → run w ns m ≡ ends a n → run (w >>= k) ns m ≡ run (k a) ns n
  unfolding onward
  bind_ends e = run_bind k ns w m ∙ ap (onward k ns) e

  pub bind_short : run w ns m ≡ short n → run (w >>= k) ns m ≡ short n
  unfolding onward
  bind_short e = run_bind k ns w m ∙ ap (onward k ns) e

module _ {A : Type 0} (v w : Walk A) (ns : List ℕ) (m : Mark) {b : Bool} where
  pub run_true : b ≡ true → run (cond b v w) ns m ≡ run v ns m
  run_true e = ap (λ c. run (cond c v w) ns m) e

  pub run_false : b ≡ false → run (cond b v w) ns m ≡ run w ns m
  run_false e = ap (λ c. run (cond c v w) ns m) e

-- What a loop counts down from, for the laws that go by one less.
pub counted : (left : ℕ) → 0 < left → left ≡ suc (left - 1)
counted left h = omega arith

-- ---- the choice

module _ {A : Type 0} (d : A) (xs : List A) (ns : List ℕ) (m : Mark) {u : ℕ} where
  pub pick_from_taken : {i : ℕ} → take_pick (length xs) ns m.used ≡ taken i u → run (pick_from d xs) ns m ≡ ends (get_or xs i d) (drawn u m)
  unfolding pick_from run
  pick_from_taken e = run_pick_taken (length xs) (λ i. done (get_or xs i d)) ns m e

  pub pick_from_short : take_pick (length xs) ns m.used ≡ too_few u → run (pick_from d xs) ns m ≡ short (drawn u m)
  unfolding pick_from
  pick_from_short e = run_pick_short (length xs) (λ i. done (get_or xs i d)) ns m e

pub empty_by_length : {A : Type 0} (xs : List A) → is_empty xs ≡ eqb (length xs) 0
unfolding is_empty
empty_by_length [] = refl
empty_by_length (x ∷ xs) = sym (eqb-suc-zero (length xs))

module _ (s : Settings) (p : Plan) (t : Try) (xs : List ℕ) (ns : List ℕ) (m : Mark) where
  abbrev leasts : List ℕ
  leasts = with_break p t.bits (least_break p t.bits xs) xs

  abbrev frees : List ℕ
  frees = with_break p t.bits 0 xs

  noise_drawn : {r u : ℕ} → take_pick 1_000 ns m.used ≡ taken r u
      → run (noisy_choice s p t xs) ns m ≡ run (pick_from 0 (cond (ltb r s.noise) leasts xs)) ns (drawn u m)
  unfolding noisy_choice run
  noise_drawn e = bind_ends (pick 1_000 done) (λ r. pick_from 0 (cond (ltb r s.noise) leasts xs)) ns m (run_pick_taken 1_000 done ns m e)

  pub noisy_least : {r u : ℕ} → take_pick 1_000 ns m.used ≡ taken r u → ltb r s.noise ≡ true
      → run (noisy_choice s p t xs) ns m ≡ run (pick_from 0 (with_break p t.bits (least_break p t.bits xs) xs)) ns (drawn u m)
  noisy_least {r} {u} e l = noise_drawn e ∙ ap (λ b. run (pick_from 0 (cond b leasts xs)) ns (drawn u m)) l

  pub noisy_any : {r u : ℕ} → take_pick 1_000 ns m.used ≡ taken r u → ltb r s.noise ≡ false
      → run (noisy_choice s p t xs) ns m ≡ run (pick_from 0 xs) ns (drawn u m)
  noisy_any {r} {u} e l = noise_drawn e ∙ ap (λ b. run (pick_from 0 (cond b leasts xs)) ns (drawn u m)) l

  pub noisy_short : {u : ℕ} → take_pick 1_000 ns m.used ≡ too_few u → run (noisy_choice s p t xs) ns m ≡ short (drawn u m)
  unfolding noisy_choice
  noisy_short e = bind_short (pick 1_000 done) (λ r. pick_from 0 (cond (ltb r s.noise) leasts xs)) ns m (run_pick_short 1_000 done ns m e)

  pub skc_free : is_empty (with_break p t.bits 0 xs) ≡ false → run (skc_choice s p t xs) ns m ≡ run (pick_from 0 (with_break p t.bits 0 xs)) ns m
  unfolding skc_choice
  skc_free e = run_false (noisy_choice s p t xs) (pick_from 0 frees) ns m e

  pub skc_noisy : is_empty (with_break p t.bits 0 xs) ≡ true → run (skc_choice s p t xs) ns m ≡ run (noisy_choice s p t xs) ns m
  unfolding skc_choice
  skc_noisy e = run_true (noisy_choice s p t xs) (pick_from 0 frees) ns m e

  -- ---- a turn: a variable is chosen, if there is one, and flipped

  pub turning_stuck : is_empty xs ≡ true → run (turning s p t xs) ns m ≡ ends stuck m
  unfolding turning run
  turning_stuck e = run_true (done stuck) (choice s p t xs >>= (λ x. flipped (done (turned (turn_over t x))))) ns m e

  module _ (e : is_empty xs ≡ false) {n : Mark} where
    pub turning_made : {x : ℕ} → run (choice s p t xs) ns m ≡ ends x n → run (turning s p t xs) ns m ≡ ends (turned (turn_over t x)) (one_flip n)
    unfolding turning run
    turning_made h =
        run_false (done stuck) (choice s p t xs >>= (λ x. flipped (done (turned (turn_over t x))))) ns m e
        ∙ bind_ends (choice s p t xs) (λ x. flipped (done (turned (turn_over t x)))) ns m h

    pub turning_short : run (choice s p t xs) ns m ≡ short n → run (turning s p t xs) ns m ≡ short n
    unfolding turning
    turning_short h =
        run_false (done stuck) (choice s p t xs >>= (λ x. flipped (done (turned (turn_over t x))))) ns m e
        ∙ bind_short (choice s p t xs) (λ x. flipped (done (turned (turn_over t x)))) ns m h

-- ---- flips, a try, tries, a call

module _ (s : Settings) (p : Plan) (ns : List ℕ) where
  module _ (t : Try) (m : Mark) where
    pub flipping_none : run (flipping s p 0 t) ns m ≡ ends failed m
    unfolding flipping run
    flipping_none = refl

    module _ (left : ℕ) where
      abbrev on : Walk Reached
      on = move s p t >>= go_on (flipping s p left)

      pub flipping_found : satisfies t.bits p ≡ true → run (flipping s p (suc left) t) ns m ≡ ends (reached t.bits) m
      unfolding flipping run
      flipping_found e = run_true (done (reached t.bits)) on ns m e

      module _ (e : satisfies t.bits p ≡ false) where
        flipping_on : run (flipping s p (suc left) t) ns m ≡ run on ns m
        unfolding flipping run
        flipping_on = run_false (done (reached t.bits)) on ns m e

        pub flipping_moved : {b : Try} {n : Mark} → run (move s p t) ns m ≡ ends (turned b) n → run (flipping s p (suc left) t) ns m ≡ run (flipping s p left b) ns n
        unfolding go_on
        flipping_moved h = flipping_on ∙ bind_ends (move s p t) (go_on (flipping s p left)) ns m h

        pub flipping_stuck : {n : Mark} → run (move s p t) ns m ≡ ends stuck n → run (flipping s p (suc left) t) ns m ≡ ends failed n
        unfolding go_on run
        flipping_stuck h = flipping_on ∙ bind_ends (move s p t) (go_on (flipping s p left)) ns m h

        pub flipping_short : {n : Mark} → run (move s p t) ns m ≡ short n → run (flipping s p (suc left) t) ns m ≡ short n
        flipping_short h = flipping_on ∙ bind_short (move s p t) (go_on (flipping s p left)) ns m h

  module _ (m : Mark) where
    pub try_started : {ws : List ℕ} {u : ℕ} → take_words (start_words p.variables) ns m.used ≡ taken ws u
        → run (try s p) ns m ≡ run (flipping s p s.flips (begun p ws)) ns (drawn u m)
    unfolding try
    try_started e = run_words_taken (start_words p.variables) (λ ws. flipping s p s.flips (begun p ws)) ns m e

    pub try_short : {u : ℕ} → take_words (start_words p.variables) ns m.used ≡ too_few u → run (try s p) ns m ≡ short (drawn u m)
    unfolding try
    try_short e = run_words_short (start_words p.variables) (λ ws. flipping s p s.flips (begun p ws)) ns m e

    pub trying_none : run (trying s p 0) ns m ≡ ends failed m
    unfolding trying run
    trying_none = refl

    module _ (left : ℕ) {n : Mark} where
      pub trying_next : run (try s p) ns m ≡ ends failed n → run (trying s p (suc left)) ns m ≡ run (trying s p left) ns n
      unfolding trying or_else
      trying_next e = bind_ends (try s p) (or_else (trying s p left)) ns m e

      pub trying_found : {a : Assignment} → run (try s p) ns m ≡ ends (reached a) n → run (trying s p (suc left)) ns m ≡ ends (reached a) n
      unfolding trying or_else run
      trying_found e = bind_ends (try s p) (or_else (trying s p left)) ns m e

      pub trying_short : run (try s p) ns m ≡ short n → run (trying s p (suc left)) ns m ≡ short n
      unfolding trying
      trying_short e = bind_short (try s p) (or_else (trying s p left)) ns m e

    pub run_call : run (call s p) ns m ≡ run (trying s p s.tries) ns m
    unfolding call
    run_call = refl

-- ---- what follows a call

module _ (w : Walk Reached) (otherwise : Walk Ending) (next : Assignment → Walk Ending) (ns : List ℕ) (m : Mark) {n : Mark} where
  after_failed : run w ns m ≡ ends failed n → run (w >>= after otherwise next) ns m ≡ run otherwise ns n
  unfolding after
  after_failed e = bind_ends w (after otherwise next) ns m e

  after_found : {b : Assignment} → run w ns m ≡ ends (reached b) n → run (w >>= after otherwise next) ns m ≡ run (next b) ns (one_find b n)
  unfolding after run
  after_found e = bind_ends w (after otherwise next) ns m e

  after_short : run w ns m ≡ short n → run (w >>= after otherwise next) ns m ≡ short n
  after_short e = bind_short w (after otherwise next) ns m e

-- ---- the tightening, from a find a, with at most so many further finds left

module _ (s : Settings) (p : Plan) (mode : Mode) (otherwise : ℕ → Assignment → Walk Ending) (ns : List ℕ) (a : Assignment) (m : Mark) where
  pub descending_none : run (descending s p mode otherwise 0 a) ns m ≡ ends floor m
  unfolding descending run
  descending_none = refl

  module _ (left : ℕ) where
    abbrev next : Walk Reached
    next = call s (tightened p (bound_in mode (floor_cost p) (cost p a)))

    abbrev onward_from : Walk Ending
    onward_from = next >>= after (otherwise (suc left) a) (descending s p mode otherwise left)

    pub descending_floor : at_floor p a ≡ true → run (descending s p mode otherwise (suc left) a) ns m ≡ ends floor m
    unfolding descending run
    descending_floor e = run_true (done floor) onward_from ns m e

    module _ (e : at_floor p a ≡ false) where
      descending_on : run (descending s p mode otherwise (suc left) a) ns m ≡ run onward_from ns m
      unfolding descending
      descending_on = run_false (done floor) onward_from ns m e

      pub descending_failed : {n : Mark} → run (call s (tightened p (bound_in mode (floor_cost p) (cost p a)))) ns m ≡ ends failed n
          → run (descending s p mode otherwise (suc left) a) ns m ≡ run (otherwise (suc left) a) ns n
      descending_failed h = descending_on ∙ after_failed next (otherwise (suc left) a) (descending s p mode otherwise left) ns m h

      pub descending_found : {b : Assignment} {n : Mark} → run (call s (tightened p (bound_in mode (floor_cost p) (cost p a)))) ns m ≡ ends (reached b) n
          → run (descending s p mode otherwise (suc left) a) ns m ≡ run (descending s p mode otherwise left b) ns (one_find b n)
      descending_found h = descending_on ∙ after_found next (otherwise (suc left) a) (descending s p mode otherwise left) ns m h

      pub descending_short : {n : Mark} → run (call s (tightened p (bound_in mode (floor_cost p) (cost p a)))) ns m ≡ short n → run (descending s p mode otherwise (suc left) a) ns m ≡ short n
      descending_short h = descending_on ∙ after_short next (otherwise (suc left) a) (descending s p mode otherwise left) ns m h

-- ---- the search

module _ (s : Settings) (p : Plan) (ns : List ℕ) (m : Mark) {n : Mark} where
  pub search_none : run (call s p) ns m ≡ ends failed n → run (search_walk s p) ns m ≡ ends none n
  unfolding search_walk run
  search_none h = after_failed (call s p) (done none) (λ a. tighten s.mode s p (gap p a) a) ns m h

  pub search_found : {a : Assignment} → run (call s p) ns m ≡ ends (reached a) n
      → run (search_walk s p) ns m ≡ run (tighten s.mode s p (gap p a) a) ns (one_find a n)
  unfolding search_walk
  search_found h = after_found (call s p) (done none) (λ a. tighten s.mode s p (gap p a) a) ns m h

  pub search_short : run (call s p) ns m ≡ short n → run (search_walk s p) ns m ≡ short n
  unfolding search_walk
  search_short h = after_short (call s p) (done none) (λ a. tighten s.mode s p (gap p a) a) ns m h
