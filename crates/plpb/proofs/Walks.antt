-- Laws of walks, each by recursion on the tree: what a run comes to part by part, what it never undoes, and what holds at its end if each step keeps it.
use Prim.Native.Nat.{ℕ, suc, ◌+◌, ◌%◌, ◌≤◌}
use mathlib.Core.Bool.{Bool, true, false, cond}
use mathlib.Core.List.{List, [], ◌∷◌, ◌++◌, reverse_aux}
use mathlib.Core.Path.{◌≡◌, refl, ap}
use native.Mathlib.Omega.{arith}
use borrow.Author.Tests.{leb-true}
use lib.Dec.{leb, ltb}
use lib.ListN.{length, take, drop, length-drop}
use Rattle.plpb.specs.Plan.{Assignment}
use Rattle.plpb.specs.Numbers.{Taken, taken, too_few, take_words, fair, pick_among, take_pick}
use Rattle.plpb.specs.Walk.{Walk, done, words, pick, look, flipped, found, ◌>>=◌, Mark, at, drawn, one_flip, one_find, Outcome, ends, short, run, looks}
use Rattle.plpb.specs.Sound.{mark_of}

-- What may be said of a mark and of what was looked at, the last look first.
abbrev pub Claim : Type 1
Claim = Mark → List Assignment → Type 0

-- What a run comes to, and what is looked at, once a need is met or not.
unfoldable pub resume : {X A : Type 0} → (X → Walk A) → List ℕ → Mark → Taken X → Outcome A
resume f ns m t = elim t [ taken x u ↦ run (f x) ns (drawn u m) | too_few u ↦ short (drawn u m) ]

unfoldable pub resume_looks : {X A : Type 0} → (X → Walk A) → List ℕ → Taken X → List Assignment
resume_looks f ns t = elim t [ taken x u ↦ looks (f x) ns u | too_few u ↦ [] ]

pub run_words : {A : Type 0} (k : ℕ) (f : List ℕ → Walk A) (ns : List ℕ) (m : Mark) → run (words k f) ns m ≡ resume f ns m (take_words k ns m.used)
unfolding run resume
run_words k f ns m = refl

pub run_pick : {A : Type 0} (k : ℕ) (f : ℕ → Walk A) (ns : List ℕ) (m : Mark) → run (pick k f) ns m ≡ resume f ns m (take_pick k ns m.used)
unfolding run resume
run_pick k f ns m = refl

-- One walk after another: the second goes on where the first ended.
unfoldable pub onward : {A B : Type 0} → (A → Walk B) → List ℕ → Outcome A → Outcome B
onward k ns (ends a m) = run (k a) ns m
onward k ns (short m) = short m

unfoldable pub onward_looks : {A B : Type 0} → (A → Walk B) → List ℕ → Outcome A → List Assignment
onward_looks k ns (ends a m) = looks (k a) ns m.used
onward_looks k ns (short m) = []

module _ {A B : Type 0} (k : A → Walk B) (ns : List ℕ) where
  resume_bind : {X : Type 0} (f : X → Walk A) (m : Mark) (t : Taken X)
      → ((x : X) (m : Mark) → run (f x >>= k) ns m ≡ onward k ns (run (f x) ns m))
      → resume (λ x. f x >>= k) ns m t ≡ onward k ns (resume f ns m t)
  unfolding resume onward
  resume_bind f m (taken x u) h = h x (drawn u m)
  resume_bind f m (too_few u) h = refl

  pub run_bind : (w : Walk A) (m : Mark) → run (w >>= k) ns m ≡ onward k ns (run w ns m)
  unfolding run ◌>>=◌ onward resume
  run_bind (done a) m = refl
  run_bind (words n f) m = resume_bind f m (take_words n ns m.used) (λ ws m. run_bind (f ws) m)
  run_bind (pick n f) m = resume_bind f m (take_pick n ns m.used) (λ r m. run_bind (f r) m)
  run_bind (look b w) m = run_bind w m
  run_bind (flipped w) m = run_bind w (one_flip m)
  run_bind (found b w) m = run_bind w (one_find b m)

  resume_looks_lem : {X : Type 0} (f : X → Walk A) (m : Mark) (t : Taken X)
      → ((x : X) (m : Mark) → looks (f x >>= k) ns m.used ≡ looks (f x) ns m.used ++ onward_looks k ns (run (f x) ns m))
      → resume_looks (λ x. f x >>= k) ns t ≡ resume_looks f ns t ++ onward_looks k ns (resume f ns m t)
  unfolding resume resume_looks onward_looks
  resume_looks_lem f m (taken x u) h = h x (drawn u m)
  resume_looks_lem f m (too_few u) h = refl

  pub looks_bind : (w : Walk A) (m : Mark) → looks (w >>= k) ns m.used ≡ looks w ns m.used ++ onward_looks k ns (run w ns m)
  unfolding run looks ◌>>=◌ onward_looks resume resume_looks
  looks_bind (done a) m = refl
  looks_bind (words n f) m = resume_looks_lem f m (take_words n ns m.used) (λ ws m. looks_bind (f ws) m)
  looks_bind (pick n f) m = resume_looks_lem f m (take_pick n ns m.used) (λ r m. looks_bind (f r) m)
  looks_bind (look b w) m = ap {B = List Assignment} (λ l. b ∷ l) (looks_bind w m)
  looks_bind (flipped w) m = looks_bind w (one_flip m)
  looks_bind (found b w) m = looks_bind w (one_find b m)

-- What a need takes of N numbers, u of them used before: at least k, if it is met, and in any case no more than there are.
unfoldable pub Spends : {X : Type 0} → ℕ → ℕ → ℕ → Taken X → Type 0
Spends N u k (taken x v) = (u + k ≤ v) × (v ≤ N)
Spends N u k (too_few v) = (u ≤ v) × (u ≤ N → v ≤ N)

module _ (ns : List ℕ) (u k : ℕ) where
  next_spend : {X : Type 0} (x : X) (b : Bool) → leb (u + k) (length ns) ≡ b → Spends (length ns) u k (cond b (taken x (u + k)) (too_few u))
  unfolding Spends
  next_spend x true e = (omega arith, leb-true (u + k) (length ns) e)
  next_spend x false e = (omega arith, λ h. h)

  pub words_spend : Spends (length ns) u k (take_words k ns u)
  unfolding take_words
  words_spend = next_spend (take k (drop u ns)) (leb (u + k) (length ns)) refl

-- A pick goes through the numbers that are left, and uses those that it discards.
unfoldable Goes : ℕ → ℕ → Taken ℕ → Type 0
Goes u left (taken x v) = (u + 1 ≤ v) × (v ≤ u + left)
Goes u left (too_few v) = v ≡ u + left

among_goes : (k : ℕ) (left : List ℕ) (u : ℕ) → Goes u (length left) (pick_among k left u)
unfolding pick_among Goes
among_goes k [] u = omega arith
among_goes k (r ∷ rest) u = either (ltb r (fair k)) (pick_among k rest (u + 1)) (among_goes k rest (u + 1))
  where
    on : (t : Taken ℕ) → Goes (u + 1) (length rest) t → Goes u (suc (length rest)) t
    on (taken x v) g = (omega (arith, g.0), omega (arith, g.1))
    on (too_few v) g = omega (arith, g)

    either : (b : Bool) (t : Taken ℕ) → Goes (u + 1) (length rest) t → Goes u (suc (length rest)) (cond b (taken (r % k) (u + 1)) t)
    either true t g = (omega arith, omega arith)
    either false t g = on t g

pub pick_spends : (ns : List ℕ) (u k : ℕ) → Spends (length ns) u 1 (take_pick k ns u)
unfolding take_pick Goes Spends
pick_spends ns u k = told (pick_among k (drop u ns) u) (among_goes k (drop u ns) u)
  where
    told : (t : Taken ℕ) → Goes u (length (drop u ns)) t → Spends (length ns) u 1 t
    told (taken x v) g = (g.0, omega (arith, g.0, g.1, length-drop u ns))
    told (too_few v) g = (omega (arith, g), λ h. omega (arith, g, length-drop u ns))

-- What each step keeps, a run keeps.
module _ (ns : List ℕ) (I : Mark → Type 0)
    (draw : (m : Mark) (v : ℕ) → m.used ≤ v → (m.used ≤ length ns → v ≤ length ns) → I m → I (drawn v m))
    (turn : (m : Mark) → I m → I (one_flip m))
    (note : (m : Mark) (b : Assignment) → I m → I (one_find b m)) where
  resume_keeps : {X A : Type 0} (f : X → Walk A) (k : ℕ) (m : Mark) (t : Taken X)
      → Spends (length ns) m.used k t → ((x : X) (m : Mark) → I m → I (mark_of (run (f x) ns m))) → I m
      → I (mark_of (resume f ns m t))
  unfolding resume mark_of Spends
  resume_keeps f k m (taken x v) s h i = h x _ (draw m v (omega arith) (λ l. s.1) i)
  resume_keeps f k m (too_few v) s h i = draw m v s.0 s.1 i

  pub run_keeps : {A : Type 0} (w : Walk A) (m : Mark) → I m → I (mark_of (run w ns m))
  unfolding run resume mark_of
  run_keeps (done a) m i = i
  run_keeps (words k f) m i = resume_keeps f k m (take_words k ns m.used) (words_spend ns m.used k) (λ ws m i. run_keeps (f ws) m i) i
  run_keeps (pick k f) m i = resume_keeps f 1 m (take_pick k ns m.used) (pick_spends ns m.used k) (λ r m i. run_keeps (f r) m i) i
  run_keeps (look b w) m i = run_keeps w m i
  run_keeps (flipped w) m i = run_keeps w _ (turn m i)
  run_keeps (found b w) m i = run_keeps w _ (note m b i)

module _ {A : Type 0} (ns : List ℕ) (w : Walk A) (m : Mark) where
  pub used_within : m.used ≤ length ns → (mark_of (run w ns m)).used ≤ length ns
  used_within h = run_keeps ns (λ n. n.used ≤ length ns) (λ n v l k h. k h) (λ n h. h) (λ n b h. h) w m h

-- A walk meets I and Q if, whatever numbers come, I holds wherever a need may not be met, and Q at its end.
module _ {A : Type 0} (I : Claim) (Q : A → Claim) where
  unfoldable pub Meets : Walk A → Mark → List Assignment → Type 0
  Meets (done a) m ls = Q a m ls
  Meets (words k f) m ls =
      ((v : ℕ) → m.used ≤ v → I (drawn v m) ls) × ((ws : List ℕ) (v : ℕ) → m.used + k ≤ v → Meets (f ws) (drawn v m) ls)
  Meets (pick k f) m ls =
      ((v : ℕ) → m.used ≤ v → I (drawn v m) ls) × ((r v : ℕ) → m.used + 1 ≤ v → Meets (f r) (drawn v m) ls)
  Meets (look b w) m ls = Meets w m (b ∷ ls)
  Meets (flipped w) m ls = Meets w (one_flip m) ls
  Meets (found b w) m ls = Meets w (one_find b m) ls

  -- .. which is then so of a run: I where the numbers were gone, Q where it ended.
  unfoldable pub Holds : Outcome A → List Assignment → Type 0
  Holds (ends a m) ls = Q a m ls
  Holds (short m) ls = I m ls

  module _ (ns : List ℕ) where
    resume_meets : {X : Type 0} (f : X → Walk A) (k : ℕ) (m : Mark) (ls : List Assignment) (t : Taken X)
        → Spends (length ns) m.used k t → ((v : ℕ) → m.used ≤ v → I (drawn v m) ls)
        → ((x : X) (v : ℕ) → m.used + k ≤ v → Holds (run (f x) ns (drawn v m)) (reverse_aux (looks (f x) ns v) ls))
        → Holds (resume f ns m t) (reverse_aux (resume_looks f ns t) ls)
    unfolding resume resume_looks Holds Spends
    resume_meets f k m ls (taken x v) s i h = h x v s.0
    resume_meets f k m ls (too_few v) s i h = i v s.0

    pub meets_run : (w : Walk A) (m : Mark) (ls : List Assignment) → Meets w m ls → Holds (run w ns m) (reverse_aux (looks w ns m.used) ls)
    unfolding run looks resume resume_looks Meets Holds
    meets_run (done a) m ls h = h
    meets_run (words k f) m ls h =
        resume_meets f k m ls (take_words k ns m.used) (words_spend ns m.used k) h.0 (λ ws v l. meets_run (f ws) _ ls (h.1 ws v l))
    meets_run (pick k f) m ls h =
        resume_meets f 1 m ls (take_pick k ns m.used) (pick_spends ns m.used k) h.0 (λ r v l. meets_run (f r) _ ls (h.1 r v l))
    meets_run (look b w) m ls h = meets_run w m (b ∷ ls) h
    meets_run (flipped w) m ls h = meets_run w _ ls h
    meets_run (found b w) m ls h = meets_run w _ ls h

-- One walk after another meets them if the first ends where the second meets them.
module _ {A B : Type 0} (I : Claim) (Q : B → Claim) (k : A → Walk B) where
  pub meets_bind : (w : Walk A) (m : Mark) (ls : List Assignment) → Meets I (λ a. Meets I Q (k a)) w m ls → Meets I Q (w >>= k) m ls
  unfolding Meets ◌>>=◌
  meets_bind (done a) m ls h = h
  meets_bind (words n f) m ls h = (h.0, λ ws v l. meets_bind (f ws) _ ls (h.1 ws v l))
  meets_bind (pick n f) m ls h = (h.0, λ r v l. meets_bind (f r) _ ls (h.1 r v l))
  meets_bind (look b w) m ls h = meets_bind w m (b ∷ ls) h
  meets_bind (flipped w) m ls h = meets_bind w _ ls h
  meets_bind (found b w) m ls h = meets_bind w _ ls h

-- A walk that only draws numbers, as a choice does, and comes to what has a property, whatever they are.
unfoldable pub Draws : {A : Type 0} → (A → Type 0) → Walk A → Type 0
Draws P (done a) = P a
Draws P (words k f) = (ws : List ℕ) → Draws P (f ws)
Draws P (pick k f) = (r : ℕ) → Draws P (f r)
Draws P (look b w) = ⊥
Draws P (flipped w) = ⊥
Draws P (found b w) = ⊥

-- It meets what holds however many numbers it draws.
module _ {A : Type 0} (P : A → Type 0) (I : Claim) (Q : A → Claim) (f : ℕ) (fs ls : List Assignment) where
  pub draws_meets : (w : Walk A) (u : ℕ) → Draws P w → ((v : ℕ) → u ≤ v → I (at v f fs) ls) → ((a : A) (v : ℕ) → P a → u ≤ v → Q a (at v f fs) ls)
      → Meets I Q w (at u f fs) ls
  unfolding Draws Meets
  draws_meets (done a) u d i q = q a u d (omega arith)
  draws_meets (words k g) u d i q =
      (i, λ ws v l. draws_meets (g ws) v (d ws) (λ v h. i v (omega arith)) (λ a v p h. q a v p (omega arith)))
  draws_meets (pick k g) u d i q =
      (i, λ r v l. draws_meets (g r) v (d r) (λ v h. i v (omega arith)) (λ a v p h. q a v p (omega arith)))
  draws_meets (look b w) u d i q = absurd d
  draws_meets (flipped w) u d i q = absurd d
  draws_meets (found b w) u d i q = absurd d
