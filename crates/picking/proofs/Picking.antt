-- A pick among listed variables, by whether a number is left; a walk that goes on from a later place of the list of numbers.
-- Assumes nothing.
use Prim.Native.Nat.{ℕ, ◌+◌, ◌≤◌, ◌<◌}
use native.Mathlib.Omega.{arith}
use mathlib.Core.Path.{◌≡◌, sym, ap, ◌∙◌}
use mathlib.Core.List.{List}
use lib.Dec.{T, leb, leb→le}
use lib.ListN.{length, get_or, length-map}
use Rattle.plpb.specs.Lists.{all, row}
use Rattle.plpb.specs.Plan.{Assignment}
use Rattle.plpb.specs.Numbers.{take_pick}
use Rattle.plpb.specs.Walk.{Walk, at, ends, run}
use Rattle.plpb.specs.Choice.{pick_from}
use Rattle.plpb.proofs.Lists.{and_left, and_right, all_at, length_row}
use Rattle.words.specs.Words.{word_at}
use Rattle.format.proofs.Placed.{get_d_row}
use Rattle.columns.specs.Columns.{words_from}
use Rattle.std.specs.Prelude.{Result, Ok, Err}
use Rattle.numbers.specs.declared.Drawn.{Drawn}
use Rattle.numbers.specs.declared.Short.{Short}
use Rattle.numbers.specs.Numbers.{numbers_of}
use Rattle.numbers.specs.Taking.{taken_of}
use Rattle.numbers.proofs.Taking.{length_numbers_of, picked_at, picked_short, place_below, pick_uses, pick_gone}
use Rattle.numbers.proofs.Runs.{pick_from_taken, pick_from_short}
use Rattle.picking.specs.Outcome.{Chosen, outcome_of, used_by, Among, Chooses, is_one, PickListed}

pub length_words : (f : ℕ → ℕ) (i k : ℕ) → length (words_from f i k) ≡ k
unfolding words_from
length_words f i k = length-map (row i k) f ∙ length_row i k

pub words_at : (f : ℕ → ℕ) (i k j d : ℕ) → j < k → get_or (words_from f i k) j d ≡ f (i + j)
unfolding words_from
words_at f i k j d h = get_d_row f i k j d h

module _ {numbers marks : List ℕ} {used from m : ℕ} (h : PickListed numbers used marks from m) {r : Result (Drawn ℕ) Short} (e : taken_of r ≡ take_pick m (numbers_of numbers) used) where
  module _ {d : Drawn ℕ} (t : r ≡ Ok d) where
    pub place_found : d.value < m
    place_found = place_below m (numbers_of numbers) used h.some (picked_at e t)

    pub word_picked : {x : ℕ} → x ≡ word_at marks (from + d.value) → (n : ℕ) → T (all (is_one n) (words_from (word_at marks) from m)) → Chooses (pick_from 0 (words_from (word_at marks) from m)) (numbers_of numbers) used n (Ok (record { value = x; used = d.used }))
    unfolding outcome_of used_by Among is_one
    word_picked {x} s n each =
        let ns = numbers_of numbers in
        let xs = words_from (word_at marks) from m in
        let long = length_words (word_at marks) from m in
        let u = pick_uses m ns used (picked_at e t) in
        let z : get_or xs d.value 0 ≡ x = words_at (word_at marks) from m d.value 0 place_found ∙ sym s in
        let one = rw z at (all_at (is_one n) xs d.value 0 each (rw long place_found)) in
        record {
          outcome = λ f fs. pick_from_taken 0 xs ns (at used f fs) (rw (← long) at (picked_at e t)) ∙ ap (λ y. ends y (at d.used f fs)) z;
          among = (leb→le 1 x (and_left (leb 1 x) (leb x n) one), leb→le x n (and_right (leb 1 x) (leb x n) one));
          uses = omega (arith, u);
          within = u.1;
        }

  pub words_gone : {s : Short} → r ≡ Err s → (n : ℕ) → Chooses (pick_from 0 (words_from (word_at marks) from m)) (numbers_of numbers) used n (Err s)
  unfolding outcome_of used_by Among
  words_gone t n =
      let ns = numbers_of numbers in
      let xs = words_from (word_at marks) from m in
      let long = length_words (word_at marks) from m in
      let u = pick_gone m ns used (picked_short e t) in
      record {
        outcome = λ f fs. pick_from_short 0 xs ns (at used f fs) (rw (← long) at (picked_short e t));
        among = tt;
        uses = u.0;
        within = u.1 (rw (length_numbers_of numbers) h.listed);
      }

-- A walk that comes to another from a later place in the list.
pub later : {w v : Walk ℕ} {ns : List ℕ} {used after n : ℕ} {q : Result Chosen Short} → ((f : ℕ) (fs : List Assignment) → run w ns (at used f fs) ≡ run v ns (at after f fs)) → used ≤ after → Chooses v ns after n q → Chooses w ns used n q
later e h c = record { outcome = λ f fs. e f fs ∙ c.outcome f fs; among = c.among; uses = omega (arith, c.uses); within = c.within }
