-- What the last flip reaches is not looked at: each look comes before a flip, and a move itself looks at nothing.
use Prim.Native.Nat.{ℕ, zero, suc}
use mathlib.Core.Bool.{Bool, true, false, cond}
use mathlib.Core.List.{List, [], ◌∷◌, ◌++◌}
use mathlib.Core.Path.{◌≡◌, refl, sym, ap, ◌∙◌}
use lib.ListN.{take}
use lib.Seq.{take-nil}
use Rattle.plpb.specs.Lists.{is_empty}
use Rattle.plpb.specs.Plan.{Plan, satisfies}
use Rattle.plpb.specs.Numbers.{Taken, taken, too_few, take_words, take_pick}
use Rattle.plpb.specs.Walk.{Walk, done, words, pick, look, flipped, found, ◌>>=◌, at, Outcome, ends, short, run, looks}
use Rattle.plpb.specs.Settings.{Settings}
use Rattle.plpb.specs.Try.{Try, turn_over}
use Rattle.plpb.specs.Choice.{choosable, choice}
use Rattle.plpb.specs.Search.{reached, Turn, stuck, turned, turning, move, go_on, flipping}
use Rattle.plpb.specs.Sound.{held_after, held, LooksBeforeFlips}
use Rattle.plpb.proofs.Walks.{Draws, resume_looks, onward_looks, looks_bind}
use Rattle.plpb.proofs.Soundness.{pick_draws, choice_draws}

-- On no way does a walk look at anything.
unfoldable pub Blind : {A : Type 0} → Walk A → Type 0
Blind (done a) = Unit {0}
Blind (words k f) = (ws : List ℕ) → Blind (f ws)
Blind (pick k f) = (r : ℕ) → Blind (f r)
Blind (look b w) = ⊥
Blind (flipped w) = Blind w
Blind (found b w) = Blind w

module _ (ns : List ℕ) where
  resume_blind : {X A : Type 0} (f : X → Walk A) (t : Taken X) → ((x : X) (u : ℕ) → looks (f x) ns u ≡ []) → resume_looks f ns t ≡ []
  unfolding resume_looks
  resume_blind f (taken x u) h = h x u
  resume_blind f (too_few u) h = refl

  pub blind_looks : {A : Type 0} (w : Walk A) (u : ℕ) → Blind w → looks w ns u ≡ []
  unfolding Blind looks resume_looks
  blind_looks (done a) u b = refl
  blind_looks (words k f) u b = resume_blind f (take_words k ns u) (λ ws v. blind_looks (f ws) v (b ws))
  blind_looks (pick k f) u b = resume_blind f (take_pick k ns u) (λ r v. blind_looks (f r) v (b r))
  blind_looks (look a w) u b = absurd b
  blind_looks (flipped w) u b = blind_looks w u b
  blind_looks (found a w) u b = blind_looks w u b

draws_blind : {A : Type 0} (P : A → Type 0) (w : Walk A) → Draws P w → Blind w
unfolding Blind Draws
draws_blind P (done a) d = tt
draws_blind P (words k f) d = λ ws. draws_blind P (f ws) (d ws)
draws_blind P (pick k f) d = λ r. draws_blind P (f r) (d r)
draws_blind P (look b w) d = absurd d
draws_blind P (flipped w) d = absurd d
draws_blind P (found b w) d = absurd d

bind_blind : {A B : Type 0} (k : A → Walk B) (w : Walk A) → Blind w → ((a : A) → Blind (k a)) → Blind (w >>= k)
unfolding Blind ◌>>=◌
bind_blind k (done a) b h = h a
bind_blind k (words j f) b h = λ ws. bind_blind k (f ws) (b ws) h
bind_blind k (pick j f) b h = λ r. bind_blind k (f r) (b r) h
bind_blind k (look a w) b h = b
bind_blind k (flipped w) b h = bind_blind k w b h
bind_blind k (found a w) b h = bind_blind k w b h

module _ (s : Settings) (p : Plan) (t : Try) where
  turning_blind : (xs : List ℕ) → Blind (turning s p t xs)
  unfolding turning
  turning_blind xs = either (is_empty xs)
    where
      either : (b : Bool) → Blind (cond b (done stuck) (choice s p t xs >>= (λ x. flipped (done (turned (turn_over t x))))))
      either true = unfold Blind in tt
      either false = bind_blind _ (choice s p t xs) (draws_blind _ _ (choice_draws s p t xs (λ x. Unit {0}) tt (λ i. tt))) (λ x. unfold Blind in tt)

  move_blind : Blind (move s p t)
  unfolding move
  move_blind = bind_blind _ _ (draws_blind (λ c. Unit {0}) _ (pick_draws _ [] _ (λ i. tt))) (λ c. turning_blind (choosable p c))

-- What is looked at behind a move is what the try holds behind it, but for the last.
behind : (s : Settings) (p : Plan) (left : ℕ) (ns : List ℕ) (o : Outcome Turn)
    → ((t : Try) (used : ℕ) → looks (flipping s p left t) ns used ≡ take left (held s p left t ns used))
    → onward_looks (go_on (flipping s p left)) ns o ≡ take left (held_after (λ t used. held s p left t ns used) o)
unfolding onward_looks go_on held_after looks
behind s p left ns (ends stuck m) h = sym (take-nil left)
behind s p left ns (ends (turned t) m) h = h t m.used
behind s p left ns (short m) h = sym (take-nil left)

pub looks_before_flips : LooksBeforeFlips
unfolding flipping held looks
looks_before_flips s p zero t ns used = refl
looks_before_flips s p (suc left) t ns used = ap (λ l. t.bits ∷ l) (either (satisfies t.bits p) (looks_before_flips s p left))
  where
    either : (b : Bool) → ((t : Try) (ns : List ℕ) (used : ℕ) → looks (flipping s p left t) ns used ≡ take left (held s p left t ns used))
        → looks (cond b (done (reached t.bits)) (move s p t >>= go_on (flipping s p left))) ns used
        ≡ take left (cond b [] (held_after (λ next u. held s p left next ns u) (run (move s p t) ns (at used 0 []))))
    either true h = sym (take-nil left)
    either false h =
        looks_bind (go_on (flipping s p left)) ns (move s p t) (at used 0 [])
        ∙ ap (λ l. l ++ onward_looks (go_on (flipping s p left)) ns (run (move s p t) ns (at used 0 []))) (blind_looks ns (move s p t) used (move_blind s p t))
        ∙ behind s p left ns (run (move s p t) ns (at used 0 [])) (λ t u. h t ns u)
