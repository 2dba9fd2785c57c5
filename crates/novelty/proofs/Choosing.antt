-- Laws of the choice by Novelty+: what it comes to, number by number.
-- Assumes nothing.
use Prim.Native.Nat.{ℕ, suc, ◌/◌, ◌≤◌, ◌<◌}
use native.Mathlib.Omega.{arith}
use mathlib.Core.Bool.{Bool, true, false, cond}
use mathlib.Core.List.{List, [], ◌∷◌}
use mathlib.Core.Path.{◌≡◌, refl, sym, ap, ap₂, ◌∙◌}
use lib.Dec.{T, ltb}
use lib.ListN.{length}
use borrow.Author.Tests.{lt-ltb}
use Rattle.plpb.specs.Lists.{all, row}
use Rattle.plpb.specs.Plan.{Clause, Plan, Assignment, is_variable}
use Rattle.plpb.specs.Numbers.{take_pick, taken, too_few}
use Rattle.plpb.specs.Walk.{Walk, done, pick, at, ends, run}
use Rattle.plpb.specs.Settings.{Settings}
use Rattle.plpb.specs.Novelty.{ranked, latest, is_newest}
use Rattle.plpb.specs.Choice.{choosable, pick_from, ranked_choice, novelty_choice}
use Rattle.plpb.proofs.Lists.{and_left, and_right, and_both, all_still, T_true, is_true}
use Rattle.plpb.proofs.Locks.{all_in_row, variable_range}
use Rattle.plpb.proofs.Novelty.{length_ranked, all_ranked}
use Rattle.std.specs.Prelude.{Option, Some, None, IsSomeAnd, is_some, Result, Ok, Err}
use Rattle.std.proofs.lemmas.Option.{none-some}
use Rattle.numbers.specs.declared.Drawn.{Drawn}
use Rattle.numbers.specs.declared.Short.{Short}
use Rattle.numbers.specs.Numbers.{numbers_of}
use Rattle.numbers.specs.Taking.{taken_of}
use Rattle.numbers.proofs.Taking.{length_numbers_of, picked_at, picked_short, pick_uses, pick_gone}
use Rattle.numbers.proofs.Runs.{bind_ends, bind_short, run_pick_taken, run_pick_short, run_true, run_false}
use Rattle.picking.specs.Outcome.{Chosen, outcome_of, used_by, Among, Chooses}
use Rattle.picking.proofs.Picking.{later}
use Rattle.ranking.specs.declared.Standing.{Standing}
use Rattle.ranking.specs.declared.Top.{Top}
use Rattle.ranking.specs.Ranking.{Stands, Tops, Ranks}
use Rattle.novelty.specs.Noise.{asks_noise}

-- ---- the walk chance

-- What follows the number drawn for it.
abbrev follows : Settings → Plan → Assignment → (ℕ → ℕ) → List ℕ → ℕ → Walk ℕ
follows s p a last xs k = cond (ltb k s.chance) (pick_from 0 xs) (ranked_choice s last xs (ranked p a last xs))

pub listed_after : (numbers : List ℕ) (used : ℕ) {k after : ℕ} → take_pick 1_000 (numbers_of numbers) used ≡ taken k after → after ≤ length numbers / 4
listed_after numbers used e = let u = pick_uses 1_000 (numbers_of numbers) used e in omega (arith, u.1, length_numbers_of numbers)

module _ (s : Settings) (p : Plan) (a : Assignment) (last : ℕ → ℕ) (xs numbers : List ℕ) (used : ℕ) (r : Result (Drawn ℕ) Short) (e : taken_of r ≡ take_pick 1_000 (numbers_of numbers) used) where
  module _ {d : Drawn ℕ} (t : r ≡ Ok d) where
    drew : (f : ℕ) (fs : List Assignment) → run (novelty_choice s p a last xs) (numbers_of numbers) (at used f fs) ≡ run (follows s p a last xs d.value) (numbers_of numbers) (at d.used f fs)
    unfolding novelty_choice run
    drew f fs = bind_ends (pick 1_000 done) (follows s p a last xs) (numbers_of numbers) (at used f fs) (run_pick_taken 1_000 done (numbers_of numbers) (at used f fs) (picked_at e t))

    uses_one : used ≤ d.used
    uses_one = let u = pick_uses 1_000 (numbers_of numbers) used (picked_at e t) in omega (arith, u.0)

    module _ {b : Bool} (l : b ≡ ltb d.value s.chance) {n : ℕ} {q : Result Chosen Short} where
      pub by_walk : b ≡ true → Chooses (pick_from 0 xs) (numbers_of numbers) d.used n q → Chooses (novelty_choice s p a last xs) (numbers_of numbers) used n q
      by_walk g = later (λ f fs. drew f fs ∙ run_true (pick_from 0 xs) _ (numbers_of numbers) (at d.used f fs) (sym l ∙ g)) uses_one

      pub by_rank : b ≡ false → Chooses (ranked_choice s last xs (ranked p a last xs)) (numbers_of numbers) d.used n q → Chooses (novelty_choice s p a last xs) (numbers_of numbers) used n q
      by_rank g = later (λ f fs. drew f fs ∙ run_false (pick_from 0 xs) _ (numbers_of numbers) (at d.used f fs) (sym l ∙ g)) uses_one

  pub chance_gone : {n : ℕ} {z : Short} → r ≡ Err z → used ≤ length numbers / 4 → Chooses (novelty_choice s p a last xs) (numbers_of numbers) used n (Err z)
  unfolding outcome_of used_by Among novelty_choice
  chance_gone t h =
      let u = pick_gone 1_000 (numbers_of numbers) used (picked_short e t) in
      record {
        outcome = λ f fs. bind_short (pick 1_000 done) (follows s p a last xs) (numbers_of numbers) (at used f fs) (run_pick_short 1_000 done (numbers_of numbers) (at used f fs) (picked_short e t));
        among = tt;
        uses = u.0;
        within = u.1 (rw (length_numbers_of numbers) h);
      }

-- ---- the ranked choice, from the first two

-- The first of some variables is one.
first_within : (p : Plan) (x : ℕ) (ys : List ℕ) → T (all (is_variable p) (x ∷ ys)) → (1 ≤ x) × (x ≤ p.variables)
unfolding all
first_within p x ys h = variable_range p x (is_true _ (and_left _ _ h))

second_within : (p : Plan) (x y : ℕ) (ys : List ℕ) → T (all (is_variable p) (x ∷ y ∷ ys)) → (1 ≤ y) × (y ≤ p.variables)
unfolding all
second_within p x y ys v = first_within p y ys (and_right _ _ v)

-- What is known to be of some kind is there.
kept_some : {A : Type 0} (P : A → Type 0) (o : Option A) → IsSomeAnd o P → is_some o ≡ true
kept_some P None k = absurd k
kept_some P (Some x) k = refl

-- Where a variable is chosen without a number.
chosen_now : {x n : ℕ} (w : Walk ℕ) (numbers : List ℕ) (used : ℕ) → ((f : ℕ) (fs : List Assignment) → run w (numbers_of numbers) (at used f fs) ≡ ends x (at used f fs))
    → (1 ≤ x) × (x ≤ n) → used ≤ length numbers / 4 → Chooses w (numbers_of numbers) used n (Ok (record { value = x; used = used }))
unfolding outcome_of used_by Among
chosen_now w numbers used o m l = record { outcome = o; among = m; uses = omega arith; within = rw (length_numbers_of numbers) l }

either_within : (n : ℕ) (b : Bool) {x y : ℕ} → (1 ≤ x) × (x ≤ n) → (1 ≤ y) × (y ≤ n) → (1 ≤ cond b x y) × (cond b x y ≤ n)
either_within n true h k = h
either_within n false h k = k

module _ (s : Settings) (p : Plan) (a : Assignment) (last : ℕ → ℕ) (xs : List ℕ) (t : Top) (newest : t.latest ≡ latest last xs) (numbers : List ℕ) (used : ℕ) {f : Standing} (there : t.first ≡ Some f) where
  -- The first of those that are ranked is the one that is kept.
  first_is : (x : ℕ) (ys : List ℕ) → Tops p a last (x ∷ ys) t → Stands p a last x f
  unfolding Tops
  first_is x [] k = rw there at k.0
  first_is x (y ∷ ys) k = rw there at k.0

  -- A second number is asked for exactly where the first is the one most recently flipped.
  asks_is : (x y : ℕ) (ys : List ℕ) → Tops p a last (x ∷ y ∷ ys) t → asks_noise f t.latest ≡ is_newest last xs x
  unfolding asks_noise is_newest
  asks_is x y ys k = let w = first_is x (y ∷ ys) k in rw (newest, w.last_flip) refl

  alone_now : (ys : List ℕ) → Tops p a last ys t → T (all (is_variable p) ys) → used ≤ length numbers / 4 → t.second ≡ None
      → Chooses (ranked_choice s last xs ys) (numbers_of numbers) used p.variables (Ok (record { value = f.variable; used = used }))
  unfolding Tops ranked_choice run
  alone_now [] k v l e = absurd (none-some f (sym k.0 ∙ there))
  alone_now (x ∷ []) k v l e =
      let w = first_is x [] k in
      rw w.variable (chosen_now (done x) numbers used (λ f fs. refl) (first_within p x [] v) l)
  alone_now (x ∷ y ∷ ys) k v l e = absurd (rw e at k.1)

  first_now : (ys : List ℕ) → Tops p a last ys t → T (all (is_variable p) ys) → used ≤ length numbers / 4 → asks_noise f t.latest ≡ false
      → Chooses (ranked_choice s last xs ys) (numbers_of numbers) used p.variables (Ok (record { value = f.variable; used = used }))
  unfolding Tops ranked_choice run
  first_now [] k v l e = absurd (none-some f (sym k.0 ∙ there))
  first_now (x ∷ []) k v l e = alone_now (x ∷ []) k v l k.1
  first_now (x ∷ y ∷ ys) k v l e =
      let w = first_is x (y ∷ ys) k in
      rw w.variable
      (chosen_now _ numbers used (λ f fs. run_false _ (done x) (numbers_of numbers) (at used f fs) (sym (asks_is x y ys k) ∙ e)) (first_within p x (y ∷ ys) v) l)

  module _ {g : Standing} (more : t.second ≡ Some g) (e : asks_noise f t.latest ≡ true) where
    drawn_two : (ys : List ℕ) → Tops p a last ys t → T (all (is_variable p) ys)
        → {i after : ℕ} → take_pick 1_000 (numbers_of numbers) used ≡ taken i after
        → {z : ℕ} → z ≡ cond (ltb i s.noise) g.variable f.variable
        → Chooses (ranked_choice s last xs ys) (numbers_of numbers) used p.variables (Ok (record { value = z; used = after }))
    unfolding Tops ranked_choice run outcome_of used_by Among
    drawn_two [] k v d z = absurd (none-some g (sym k.1 ∙ more))
    drawn_two (x ∷ []) k v d z = absurd (none-some g (sym k.1 ∙ more))
    drawn_two (x ∷ y ∷ ys) k v {i} {after} d {z} e_z =
        let u = pick_uses 1_000 (numbers_of numbers) used d in
        let w = first_is x (y ∷ ys) k in
        let q : Stands p a last y g = rw more at k.1 in
        let told : z ≡ cond (ltb i s.noise) y x = e_z ∙ ap₂ (cond (ltb i s.noise)) q.variable w.variable in
        record {
          outcome = λ g gs. run_true _ (done x) (numbers_of numbers) (at used g gs) (sym (asks_is x y ys k) ∙ e)
              ∙ run_pick_taken 1_000 (λ r. done (cond (ltb r s.noise) y x)) (numbers_of numbers) (at used g gs) d
              ∙ ap (λ w. ends w (at after g gs)) (sym told);
          among = rw told (either_within p.variables (ltb i s.noise) (second_within p x y ys v) (first_within p x (y ∷ ys) v));
          uses = omega (arith, u.0);
          within = u.1;
        }

    gone_two : (ys : List ℕ) → Tops p a last ys t → used ≤ length numbers / 4
        → {after : ℕ} → take_pick 1_000 (numbers_of numbers) used ≡ too_few after
        → Chooses (ranked_choice s last xs ys) (numbers_of numbers) used p.variables (Err (record { used = after }))
    unfolding Tops ranked_choice outcome_of used_by Among
    gone_two [] k l d = absurd (none-some g (sym k.1 ∙ more))
    gone_two (x ∷ []) k l d = absurd (none-some g (sym k.1 ∙ more))
    gone_two (x ∷ y ∷ ys) k l d =
        let u = pick_gone 1_000 (numbers_of numbers) used d in
        record {
          outcome = λ g gs. run_true _ (done x) (numbers_of numbers) (at used g gs) (sym (asks_is x y ys k) ∙ e)
              ∙ run_pick_short 1_000 (λ r. done (cond (ltb r s.noise) y x)) (numbers_of numbers) (at used g gs) d;
          among = tt;
          uses = u.0;
          within = u.1 (rw (length_numbers_of numbers) l);
        }

module _ (s : Settings) {p : Plan} {a : Assignment} {last : ℕ → ℕ} {xs : List ℕ} {t : Top} (r : Ranks p a last xs t) (v : T (all (is_variable p) xs)) (numbers : List ℕ) (used : ℕ) {f : Standing} (there : t.first ≡ Some f) where
  all_listed : T (all (is_variable p) (ranked p a last xs))
  all_listed = all_ranked p a last (is_variable p) xs v

  pub ranked_alone : used ≤ length numbers / 4 → t.second ≡ None
      → Chooses (ranked_choice s last xs (ranked p a last xs)) (numbers_of numbers) used p.variables (Ok (record { value = f.variable; used = used }))
  ranked_alone = alone_now s p a last xs t r.newest numbers used there (ranked p a last xs) r.tops all_listed

  pub ranked_first : used ≤ length numbers / 4 → asks_noise f t.latest ≡ false
      → Chooses (ranked_choice s last xs (ranked p a last xs)) (numbers_of numbers) used p.variables (Ok (record { value = f.variable; used = used }))
  ranked_first = first_now s p a last xs t r.newest numbers used there (ranked p a last xs) r.tops all_listed

  module _ {g : Standing} (more : t.second ≡ Some g) (e : asks_noise f t.latest ≡ true) where
    pub ranked_drawn : {k after : ℕ} → take_pick 1_000 (numbers_of numbers) used ≡ taken k after
        → {z : ℕ} → z ≡ cond (ltb k s.noise) g.variable f.variable
        → Chooses (ranked_choice s last xs (ranked p a last xs)) (numbers_of numbers) used p.variables (Ok (record { value = z; used = after }))
    ranked_drawn = drawn_two s p a last xs t r.newest numbers used there more e (ranked p a last xs) r.tops all_listed

    pub ranked_gone : used ≤ length numbers / 4 → {after : ℕ} → take_pick 1_000 (numbers_of numbers) used ≡ too_few after
        → Chooses (ranked_choice s last xs (ranked p a last xs)) (numbers_of numbers) used p.variables (Err (record { used = after }))
    ranked_gone = gone_two s p a last xs t r.newest numbers used there more e (ranked p a last xs) r.tops

-- Of some variables a first is kept, since the ranking holds them all.
tops_some : (p : Plan) (a : Assignment) (last : ℕ → ℕ) (t : Top) (ys : List ℕ) → Tops p a last ys t → 0 < length ys → is_some t.first ≡ true
unfolding Tops
tops_some p a last t [] k h = absurd (omega arith)
tops_some p a last t (y ∷ []) k h = kept_some _ t.first k.0
tops_some p a last t (y ∷ z ∷ ys) k h = kept_some _ t.first k.0

pub first_there : {p : Plan} {a : Assignment} {last : ℕ → ℕ} {xs : List ℕ} {t : Top} → Ranks p a last xs t → 0 < length xs → is_some t.first ≡ true
first_there {p} {a} {last} {xs} {t} r h = tops_some p a last t (ranked p a last xs) r.tops (rw length_ranked h)

-- ---- those to choose from are variables of the plan

rows_within : (p : Plan) → T (all (is_variable p) (row 1 p.variables))
unfolding is_variable
rows_within p = all_in_row _ 1 p.variables (λ x l u. and_both _ _ (T_true (lt-ltb 0 x l)) (T_true (lt-ltb x (suc p.variables) (omega arith))))

pub list_within : (p : Plan) (k : Clause) → T (all (is_variable p) (choosable p k))
unfolding choosable
list_within p k = all_still _ (is_variable p) (row 1 p.variables) (rows_within p)
