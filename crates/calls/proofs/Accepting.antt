-- What an accepted or refused call comes to: an accepted one has tested all that the cores need, a refused one leaves what it was lent.
use Prim.Native.Nat.{ℕ, zero, suc, ◌≤◌, ◌<◌}
use native.Mathlib.Omega.{arith}
use mathlib.Core.Path.{◌≡◌, refl, sym, ◌∙◌}
use mathlib.Core.Bool.{true, false, cond}
use mathlib.Core.List.{[], ◌∷◌}
use lib.Dec.{ltb, eqb-suc-zero}
use lib.ListN.{length, take}
use borrow.Author.Tests.{lt-ltb, le-ltb}
use Rattle.plpb.specs.Lists.{◌and◌}
use Rattle.plpb.specs.Plan.{is_variable, is_locked}
use Rattle.plpb.specs.Expansion.{break_count, make_count}
use Rattle.plpb.specs.Tallies.{rules_named}
use Rattle.plpb.specs.Count.{given, capped_break, capped_make}
use Rattle.plpb.proofs.Capped.{given_capped}
use Rattle.counting.specs.Count.{count_words}
use Rattle.counting.proofs.Marks.{words_uncut}
use Rattle.words.specs.Words.{word_at}
use Rattle.format.specs.File.{refuse}
use Rattle.format.specs.Tables.{plan_of_tables, same_bytes}
use Rattle.format.proofs.IsLoaded.{is_loaded_tables, same_equal}
use Rattle.format.proofs.Lawful.{plan_parts}
use Rattle.format.proofs.LockWords.{lock_word_lem, word_locked}
use Rattle.tallies.specs.Layout.{tally_size, bits_of}
use Rattle.tallies.specs.Calls.{Lent, plan, fresh_bytes, open_refusal, open_tallies, call_refusal, flip_refusal, turned, flip_assignment, flip_tallies, flip_rules, counts_break, counts_make}
use Rattle.recount.specs.Core.{Flippable, recounted}
use Rattle.calls.proofs.Opening.{first_words}
use Rattle.tallies.proofs.Refusals.{Opens, opens, takes, flips, only_variable, plan_lawful}
use Rattle.recount.proofs.Callers.{takes_flippable}
use Rattle.format.specs.Layout.{table_size, lock_at}

module _ (l : Lent) where
  pub loaded_tables : Opens l → table_size ≤ length l.tables
  loaded_tables o = is_loaded_tables l.tables l.terms o.loaded

  pub open_refused : (k : ℕ) → k ≡ open_refusal l → (k ≡ 0 → ⊥) → l.tallies ≡ open_tallies l
  unfolding open_tallies
  open_refused zero e n = absurd (n refl)
  open_refused (suc k) e n = rw (sym e, eqb-suc-zero k)

  pub open_accepted : open_refusal l ≡ 0 → recounted l.tables l.terms l.assignment l.tallies ≡ open_tallies l
  unfolding open_tallies fresh_bytes plan
  open_accepted e = rw e

-- ---- flip and counts

some : (x : ℕ) → (x ≡ 0 → ⊥) → 0 < x
some zero n = absurd (n refl)
some (suc x) n = omega arith

module _ (l : Lent) (x : ℕ) where
  pub call_25 : open_refusal l ≡ 0 → same_bytes (take tally_size l.tallies) (fresh_bytes l) ≡ false → 25 ≡ call_refusal l x
  unfolding call_refusal refuse
  call_25 e f = rw (e, f)

  call_variable : open_refusal l ≡ 0 → same_bytes (take tally_size l.tallies) (fresh_bytes l) ≡ true → cond (is_variable (plan l) x) 0 23 ≡ call_refusal l x
  call_variable e f = sym (only_variable l x (opens l e) (same_equal _ _ f))

  pub call_zero : open_refusal l ≡ 0 → same_bytes (take tally_size l.tallies) (fresh_bytes l) ≡ true → x ≡ 0 → 23 ≡ call_refusal l x
  unfolding is_variable ◌and◌
  call_zero e f z =
      let n : is_variable (plan l) x ≡ false = rw (le-ltb 0 x (omega arith)) in
      rw n at (call_variable e f)

  pub call_high : open_refusal l ≡ 0 → same_bytes (take tally_size l.tallies) (fresh_bytes l) ≡ true → (x ≡ 0 → ⊥) → word_at l.tables 0 < x
      → 23 ≡ call_refusal l x
  unfolding is_variable ◌and◌
  call_high e f z h =
      let n : is_variable (plan l) x ≡ false = rw (lt-ltb 0 x (some x z), first_words l, le-ltb x (suc (word_at l.tables 0)) h) in
      rw n at (call_variable e f)

  pub call_none : open_refusal l ≡ 0 → same_bytes (take tally_size l.tallies) (fresh_bytes l) ≡ true → (x ≡ 0 → ⊥) → x ≤ word_at l.tables 0
      → 0 ≡ call_refusal l x
  unfolding is_variable ◌and◌
  call_none e f z h =
      let n : is_variable (plan l) x ≡ true = rw (lt-ltb 0 x (some x z), first_words l, lt-ltb x (suc (word_at l.tables 0)) (omega arith)) in
      rw n at (call_variable e f)

  pub call_first : (k : ℕ) → k ≡ open_refusal l → (k ≡ 0 → ⊥) → k ≡ call_refusal l x
  unfolding call_refusal
  call_first zero e n = absurd (n refl)
  call_first (suc k) e n = rw (sym e, eqb-suc-zero k)

  pub flippable : call_refusal l x ≡ 0 → Flippable l.tables l.terms l.assignment l.tallies x
  flippable e = takes_flippable l x (takes l x e)

  pub flip_first : (k : ℕ) → k ≡ call_refusal l x → (k ≡ 0 → ⊥) → k ≡ flip_refusal l x
  unfolding flip_refusal
  flip_first zero e n = absurd (n refl)
  flip_first (suc k) e n = rw (sym e, eqb-suc-zero k)

  pub few_variables : call_refusal l x ≡ 0 → x ≤ 512
  unfolding plan
  few_variables e =
      let high = (plan_parts (plan l) (plan_lawful l (takes l x e).opening)).high in
      omega (arith, high, (flippable e).high)

  -- The word of a variable among the locks says whether it is locked.
  lock_tested : call_refusal l x ≡ 0 → ltb 0 (word_at l.tables (lock_at x)) ≡ is_locked (plan l) x
  unfolding plan
  lock_tested e =
      let f = flippable e in
      word_locked (plan l) x _ (lock_word_lem (plan l) l.tables l.terms f.ready.laid.room f.ready.laid.holds x f.low (few_variables e))

  pub flip_locked : call_refusal l x ≡ 0 → 0 < word_at l.tables (lock_at x) → 26 ≡ flip_refusal l x
  unfolding flip_refusal refuse
  flip_locked e h = rw (e, sym (lock_tested e) ∙ lt-ltb 0 (word_at l.tables (lock_at x)) h)

  pub flip_free : call_refusal l x ≡ 0 → word_at l.tables (lock_at x) ≤ 0 → 0 ≡ flip_refusal l x
  unfolding flip_refusal refuse
  flip_free e h = rw (e, sym (lock_tested e) ∙ le-ltb 0 (word_at l.tables (lock_at x)) h)

  pub flip_refused : (k : ℕ) → k ≡ flip_refusal l x → (k ≡ 0 → ⊥)
      → (0 ≡ flip_rules l x) × (l.assignment ≡ flip_assignment l x) × (l.tallies ≡ flip_tallies l x)
  unfolding flip_rules flip_assignment flip_tallies
  flip_refused zero e n = absurd (n refl)
  flip_refused (suc k) e n = (rw (sym e, eqb-suc-zero k), rw (sym e, eqb-suc-zero k), rw (sym e, eqb-suc-zero k))

  pub flip_accepted : flip_refusal l x ≡ 0
      → (rules_named (plan_of_tables l.tables l.terms) x ≡ flip_rules l x)
      × (turned l.assignment x ≡ flip_assignment l x)
      × (recounted l.tables l.terms (turned l.assignment x) l.tallies ≡ flip_tallies l x)
  unfolding flip_rules flip_assignment flip_tallies fresh_bytes plan
  flip_accepted e = (rw e, rw e, rw e)

  pub flip_tested : flip_refusal l x ≡ 0 → Flippable l.tables l.terms l.assignment l.tallies x
  flip_tested e = flippable (flips l x e).0

  pub counts_refused : (k : ℕ) → k ≡ call_refusal l x → (k ≡ 0 → ⊥) → (0 ∷ 0 ∷ [] ≡ count_words (counts_break l x)) × (0 ∷ 0 ∷ [] ≡ count_words (counts_make l x))
  unfolding counts_break counts_make
  counts_refused zero e n = absurd (n refl)
  counts_refused (suc k) e n =
      (rw (sym e, eqb-suc-zero k) (words_uncut 0 (omega arith)), rw (sym e, eqb-suc-zero k) (words_uncut 0 (omega arith)))

  pub counts_accepted : call_refusal l x ≡ 0
      → (given (capped_break (plan l) (bits_of (plan l).variables l.assignment) x) ≡ counts_break l x)
      × (given (capped_make (plan l) (bits_of (plan l).variables l.assignment) x) ≡ counts_make l x)
  unfolding counts_break counts_make capped_break capped_make
  counts_accepted e =
      (rw e (given_capped (break_count (plan l) (bits_of (plan l).variables l.assignment) x)), rw e (given_capped (make_count (plan l) (bits_of (plan l).variables l.assignment) x)))
