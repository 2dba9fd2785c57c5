-- What opening answers, test by test: the first one that fails decides.
use Prim.Native.Nat.{ℕ, ◌≤◌}
use native.Mathlib.Omega.{arith}
use mathlib.Core.Path.{◌≡◌, refl, sym, ap, ◌∙◌}
use Rattle.std.specs.Prelude.{Result, Ok, Err}
use Rattle.std.specs.Result.{IsErrAnd}
use mathlib.Core.Bool.{Bool, true, false, not}
use mathlib.Core.List.{List}
use lib.Dec.{T, nltb→le}
use lib.ListN.{length}
use Rattle.plpb.specs.Lists.{◌or◌}
use Rattle.plpb.proofs.Lists.{and_left, and_right, not_or, T_true}
use Rattle.words.specs.Words.{word_at}
use Rattle.format.specs.File.{refuse}
use Rattle.format.specs.Tables.{plan_of_tables, plan_in, is_loaded}
use Rattle.format.proofs.Lawful.{plan_parts}
use Rattle.format.proofs.IsLoaded.{is_loaded_lawful}
use Rattle.tallies.specs.Layout.{are_bits}
use Rattle.tallies.specs.Calls.{Lent, plan, too_small, open_refusal}
use Rattle.format.specs.Layout.{table_size}
use Rattle.recount.specs.declared.tables.Tables.{Tables}
use Rattle.calls.specs.Refusals.{number_of, Tested}
use Rattle.calls.specs.declared.tests.Refusal.{Refusal}
use Rattle.calls.specs.declared.tests.Refusal.TheVariants.{TooSmall, NotLoaded, NoVariable, NotBits, Stale, Locked}

-- A refusal's number is none of an accepted call.
pub some_number : (r : Refusal) → number_of r ≡ 0 → ⊥
some_number TooSmall e = omega arith
some_number NotLoaded e = omega arith
some_number NoVariable e = omega arith
some_number NotBits e = omega arith
some_number Stale e = omega arith
some_number Locked e = omega arith

-- A refusal passed on keeps its number.
pub passed_on : (r : Result Tables Refusal) (q : Refusal) {k : ℕ} {tables terms : List ℕ} → IsErrAnd r (λ e. e ≡ q) → number_of q ≡ k → Tested k tables terms r
passed_on (Ok u) q h n = absurd h
passed_on (Err e) q h n = record { number = ap number_of h ∙ n; handed = tt }

-- The first test decides where it holds, and else the second.
pub or_first : (b c : Bool) {v : Bool} → v ≡ b → b ≡ true → v ≡ (b or c)
unfolding ◌or◌
or_first b c e f = e ∙ f ∙ sym (ap (λ t. t or c) f)

pub or_second : (b c : Bool) {v : Bool} → v ≡ c → b ≡ false → v ≡ (b or c)
unfolding ◌or◌
or_second b c e f = e ∙ sym (ap (λ t. t or c) f)

module _ (l : Lent) where
  pub first_words : (plan l).variables ≡ word_at l.tables 0
  unfolding plan plan_of_tables plan_in
  first_words = refl

  pub large_assignment : too_small l ≡ false → 512 ≤ length l.assignment
  unfolding too_small
  large_assignment e =
      let t : T (not (too_small l)) = rw e tt in
      nltb→le (length l.assignment) 512 (and_right _ _ (rw not_or at (and_left _ _ (rw not_or at t))))

  pub large_tables : too_small l ≡ false → table_size ≤ length l.tables
  unfolding too_small
  large_tables e =
      let t : T (not (too_small l)) = rw e tt in
      nltb→le (length l.tables) table_size (and_left _ _ (rw not_or at (and_left _ _ (rw not_or at (and_left _ _ (rw not_or at t))))))

  pub refused_21 : too_small l ≡ true → 21 ≡ open_refusal l
  unfolding open_refusal refuse
  refused_21 e = rw e

  pub refused_22 : too_small l ≡ false → is_loaded l.tables l.terms ≡ false → 22 ≡ open_refusal l
  unfolding open_refusal refuse
  refused_22 e f = rw (e, f)

  pub refused_24 : too_small l ≡ false → is_loaded l.tables l.terms ≡ true → (n : ℕ) → n ≡ word_at l.tables 0
      → are_bits n l.assignment ≡ false → 24 ≡ open_refusal l
  unfolding open_refusal refuse
  refused_24 e f n m t = rw (e, f, first_words, sym m, t)

  pub refused_none : too_small l ≡ false → is_loaded l.tables l.terms ≡ true → (n : ℕ) → n ≡ word_at l.tables 0
      → are_bits n l.assignment ≡ true → 0 ≡ open_refusal l
  unfolding open_refusal refuse
  refused_none e f n m t = rw (e, f, first_words, sym m, t)

  pub room_for_bits : too_small l ≡ false → is_loaded l.tables l.terms ≡ true → (n : ℕ) → n ≡ word_at l.tables 0 → n ≤ length l.assignment
  unfolding plan
  room_for_bits e f n m =
      let high = (plan_parts _ (is_loaded_lawful l.tables l.terms (T_true f))).high in
      omega (arith, high, large_assignment e, first_words, m)
