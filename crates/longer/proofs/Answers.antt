-- A longer list never hurts: a walk that ended goes the same way where more numbers follow, and one whose numbers were gone goes on from what it had found.
-- Assumes nothing.
use Prim.Native.Nat.{ℕ, ◌+◌, ◌≤◌, zero-le}
use native.Mathlib.Nat.{le_refl, le_of_lt}
use native.Mathlib.Omega.{arith}
use mathlib.Core.Bool.{true, false, true≢false}
use mathlib.Core.List.{List, [], ◌∷◌, ◌++◌}
use mathlib.Core.Path.{◌≡◌, refl, sym, ap, ◌∙◌, subst}
use lib.Dec.{T, le→leb, ltb→lt}
use lib.IntN.{ℤ, pos, negsuc}
use lib.Signed.{lt_z, le_z}
use lib.ListN.{length, length-append}
use Rattle.plpb.specs.Lists.{◌and◌, is_empty}
use Rattle.plpb.specs.Plan.{Plan, Assignment, cost}
use Rattle.plpb.specs.Numbers.{Taken, taken, too_few, take_words, take_pick}
use Rattle.plpb.specs.Walk.{Walk, done, words, pick, look, flipped, found, Mark, drawn, one_flip, one_find, Outcome, ends, short, run}
use Rattle.plpb.specs.Settings.{Settings}
use Rattle.plpb.specs.Search.{Ending, short_found, Answer, begin, search_walk, last_find, cost_of, answer_of, conclude, search}
use Rattle.plpb.specs.Sound.{mark_of, finds_of, costs_less, falling, no_plan}
use Rattle.longer.specs.Answers.{ran_short, NoWorse, AnswersNeverHurt}
use Rattle.plpb.proofs.Integers.{le_z_refl, le_z_trans}
use Rattle.plpb.proofs.Lists.{and_left, and_right}
use Rattle.plpb.proofs.Walks.{resume, Spends, words_spend, pick_spends, run_keeps}
use Rattle.plpb.proofs.Picks.{pick_longer, words_longer}
use Rattle.plpb.proofs.Soundness.{search_sound}

-- ---- a walk

-- The finds after it are those before it, and newer ones.
abbrev pub Adds : List Assignment → List Assignment → Type 0
Adds before after = (newer : List Assignment) × (after ≡ newer ++ before)

run_adds : {A : Type 0} (w : Walk A) (ns : List ℕ) (m : Mark) → Adds m.finds (mark_of (run w ns m)).finds
run_adds w ns m =
    run_keeps ns (λ n. Adds m.finds n.finds) (λ n v l k a. a) (λ n a. a) (λ n b a. (b ∷ a.0, ap (λ fs. b ∷ fs) a.1)) w m ([], refl)

-- What a walk comes to with a list, and what with a longer one.
unfoldable pub Grows : {A : Type 0} → Outcome A → Outcome A → Type 0
Grows (ends a m) o = o ≡ ends a m
Grows (short m) o = Adds m.finds (mark_of o).finds

module _ (ns more : List ℕ) where
  -- A need that is met with the shorter list is met alike.
  resumed : {X A : Type 0} (f : X → Walk A) (m : Mark) (k : ℕ) (t u : Taken X) → Spends (length ns) m.used k t
      → ((x : X) (v : ℕ) → t ≡ taken x v → u ≡ taken x v)
      → ((x : X) (n : Mark) → n.used ≤ length ns → Grows (run (f x) ns n) (run (f x) (ns ++ more) n))
      → Adds m.finds (mark_of (resume f (ns ++ more) m u)).finds
      → Grows (resume f ns m t) (resume f (ns ++ more) m u)
  unfolding resume Spends Grows
  resumed f m k (taken x v) u s alike on adds = rw (alike x v refl) (on x (drawn v m) s.1)
  resumed f m k (too_few v) u s alike on adds = adds

  pub grows : {A : Type 0} (w : Walk A) (m : Mark) → m.used ≤ length ns → Grows (run w ns m) (run w (ns ++ more) m)
  unfolding run Grows resume
  grows (done a) m h = refl
  grows (words k f) m h =
      resumed f m k (take_words k ns m.used) (take_words k (ns ++ more) m.used) (words_spend ns m.used k) (λ ws v e. words_longer k ns more m.used e)
      (λ ws n l. grows (f ws) n l)
      (run_adds (words k f) (ns ++ more) m)
  grows (pick k f) m h =
      resumed f m 1 (take_pick k ns m.used) (take_pick k (ns ++ more) m.used) (pick_spends ns m.used k) (λ r v e. pick_longer k ns more m.used h e)
      (λ r n l. grows (f r) n l)
      (run_adds (pick k f) (ns ++ more) m)
  grows (look b w) m h = grows w m h
  grows (flipped w) m h = grows w (one_flip m) h
  grows (found b w) m h = grows w (one_find b m) h

-- ---- the order of costs

lt_z_le_z : (a b : ℤ) → T (lt_z a b) → T (le_z a b)
lt_z_le_z (pos a) (pos b) h = le→leb a b (le_of_lt (ltb→lt a b h))
lt_z_le_z (pos a) (negsuc b) h = absurd h
lt_z_le_z (negsuc a) (pos b) h = tt
lt_z_le_z (negsuc a) (negsuc b) h = le→leb b a (le_of_lt (ltb→lt b a h))

module _ (p : Plan) where
  -- The last of falling finds costs no more than any before it.
  falls : (newer : List Assignment) (a : Assignment) (before : List Assignment) → T (falling p (newer ++ (a ∷ before)))
      → T (le_z (cost_of p (last_find (newer ++ (a ∷ before)))) (cost p a))
  unfolding falling costs_less last_find cost_of
  falls [] a before h = le_z_refl (cost p a)
  falls (b ∷ []) a before h = lt_z_le_z (cost p b) (cost p a) (and_left _ _ h)
  falls (b ∷ (c ∷ newer)) a before h =
      le_z_trans (cost p b) (cost p c) (cost p a) (lt_z_le_z (cost p b) (cost p c) (and_left _ _ h)) (falls (c ∷ newer) a before (and_right _ _ h))

-- ---- the search

-- A search that ran short says so; and with a find, that it has one.
module _ (p : Plan) (m : Mark) where
  short_said : (fs : List Assignment) → m.finds ≡ fs → ran_short (conclude p (short m)).ending ≡ true
  unfolding conclude answer_of is_empty ran_short
  short_said [] e = rw e
  short_said (a ∷ fs) e = rw e

  -- Newer finds on top of those that were there when the numbers were gone.
  went_on : (long : Answer) (fs : List Assignment) → m.finds ≡ fs → (conclude p (short m)).ending ≡ short_found → (newer : List Assignment)
      → long.cost ≡ cost_of p (last_find (newer ++ fs)) → long.finds ≡ length (newer ++ fs) → T (falling p (newer ++ fs))
      → T (le_z long.cost (conclude p (short m)).cost) × ((conclude p (short m)).finds ≤ long.finds)
  unfolding conclude answer_of is_empty last_find cost_of no_plan
  went_on long [] e says newer c n fall = absurd (true≢false (ap no_plan (rw e at says)))
  went_on long (a ∷ fs) e says newer c n fall =
      (rw (c, e) (falls p newer a fs fall), rw e (omega (arith, n, length-append newer (a ∷ fs))))

module _ (s : Settings) (p : Plan) (ns more : List ℕ) where
  compared : (o : Outcome Ending) → run (search_walk s p) ns begin ≡ o → Grows o (run (search_walk s p) (ns ++ more) begin)
      → NoWorse (search s p ns) (search s p (ns ++ more))
  unfolding Grows search finds_of
  compared (ends e m) is g =
      let alike : conclude p (run (search_walk s p) (ns ++ more) begin) ≡ conclude p (run (search_walk s p) ns begin) = ap (conclude p) (g ∙ sym is) in
      record { same = λ short. alike; better = λ short. (rw alike (le_z_refl (search s p ns).cost), rw alike (le_refl (search s p ns).finds)) }
  compared (short m) is g =
      let sound = search_sound s p (ns ++ more) in
      rw is
      (record {
        same = λ h. absurd (true≢false (sym (short_said p m m.finds refl) ∙ h));
        better = λ h. went_on p m (search s p (ns ++ more)) m.finds refl h g.0 (sound.cost_stated ∙ ap (cost_of p) (sound.handed_out ∙ ap last_find g.1)) (sound.finds_counted ∙ ap length g.1) (subst (λ fs. T (falling p fs)) g.1 sound.each_costs_less);
      })

pub answers_never_hurt : AnswersNeverHurt
unfolding begin
answers_never_hurt s p ns more = compared s p ns more (run (search_walk s p) ns begin) refl (grows ns more (search_walk s p) begin zero-le)
