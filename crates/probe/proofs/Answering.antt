-- What the exports answer, by the tests that led there.
-- Assumes nothing.
use Prim.Native.Nat.{ℕ, suc, ◌+◌, ◌<◌, zero-le}
use native.Mathlib.Omega.{arith}
use mathlib.Core.Bool.{Bool, true, false}
use Rattle.std.specs.Prelude.{Option}
use Rattle.std.specs.Bool.{then_some}
use Rattle.counting.specs.Bound.{bound_of}
use mathlib.Core.Path.{◌≡◌, refl, ap, ◌∙◌}
use borrow.Author.Tests.{lt-ltb, le-ltb, ltb-true, leb-true, eq-eqb, ne_eqb}
use mathlib.Core.List.{[], ◌∷◌}
use Rattle.plpb.specs.Lists.{◌and◌}
use Rattle.plpb.specs.Count.{cap, given, capped}
use Rattle.plpb.proofs.Capped.{given_capped}
use Rattle.counting.specs.Count.{count_words}
use Rattle.counting.specs.Shares.{capped_shares}
use Rattle.counting.specs.declared.count.Marked.{Marked}
use Rattle.counting.proofs.Marks.{words_uncut}
use Rattle.plpb.specs.Equations.{Shares, lost, gained}
use Rattle.format.proofs.Bools.{and_left, and_right}
use Rattle.rules.specs.declared.place.Stands.{Stands}
use Rattle.rules.specs.declared.place.Stands.TheVariants.{Out, On, Off}
use Rattle.rules.specs.declared.state.State.{State}
use Rattle.rules.specs.Places.{standing_in}
use Rattle.rules.specs.State.{Balanced, shares_from}
use Rattle.probe.specs.Answers.{is_word, number_in, share_words, is_within, is_balanced, shares_answer, bound_if}

abbrev none : Shares
none = record { e = 0; f = 0; g = 0 }

pub is_word_lem : (m : ℕ) → m < 4_294_967_296 → is_word m ≡ true
unfolding is_word
is_word_lem m h = lt-ltb m 4_294_967_296 h

pub no_word : (m : ℕ) → 4_294_967_295 < m → is_word m ≡ false
unfolding is_word
no_word m h = le-ltb m 4_294_967_296 (omega arith)

-- Whether a state's numbers go together, by the two tests.
pub both : (s : State) {t : Bool} → s.n + s.p < 4_294_967_296 → t ≡ is_within (standing_in s.stands) s.n s.p → t ≡ is_balanced s
unfolding is_balanced ◌and◌
both s h e = rw (is_word_lem (s.n + s.p) h) e

pub no_sum : (s : State) → 4_294_967_295 < s.n + s.p → false ≡ is_balanced s
unfolding is_balanced ◌and◌
no_sum s h = rw (no_word (s.n + s.p) h) refl

-- A state whose numbers go together is balanced, and its shares are answered; another's are 0.
module _ (s : State) where
  pub balanced : is_balanced s ≡ true → Balanced s
  unfolding is_balanced is_word is_within lost gained
  balanced e = by s.stands refl
    where
      small : s.n + s.p < 4_294_967_296
      small = ltb-true (s.n + s.p) 4_294_967_296 (and_left _ _ e)

      by : (z : Stands) → s.stands ≡ z → Balanced s
      by Out h = record { small = small; loses = rw h zero-le; gains = rw h zero-le }
      by (On w) h = record { small = small; loses = rw h (leb-true w s.p (rw h at (and_right _ _ e))); gains = rw h zero-le }
      by (Off w) h = record { small = small; loses = rw h zero-le; gains = rw h (leb-true w s.n (rw h at (and_right _ _ e))) }

  pub answered : is_balanced s ≡ true → shares_from s ≡ shares_answer (standing_in s.stands) s.n s.p (bound_of s.a) (bound_of s.b)
  unfolding is_balanced shares_from shares_answer
  answered e = rw e refl

  pub unanswered : is_balanced s ≡ false → none ≡ shares_answer (standing_in s.stands) s.n s.p (bound_of s.a) (bound_of s.b)
  unfolding is_balanced shares_answer
  unanswered e = rw e refl

-- Capped first or not, three counts are given out alike.
pub words_capped : (s : Shares) → share_words (capped_shares s) ≡ share_words s
unfolding share_words capped_shares
words_capped s = rw (given_capped s.e, given_capped s.f, given_capped s.g)

pub none_words : 0 ∷ 0 ∷ 0 ∷ 0 ∷ 0 ∷ 0 ∷ [] ≡ share_words none
unfolding share_words
none_words = rw (← words_uncut 0 (omega arith))

-- A count that is handed in, by its mark.
pub in_uncut : (m : Marked) → m.cut ≡ 0 → m.value ≡ number_in m
unfolding number_in
in_uncut m h = rw (eq-eqb m.cut 0 h)

pub in_cut : (m : Marked) → (m.cut ≡ 0 → ⊥) → suc cap ≡ number_in m
unfolding number_in
in_cut m h = rw (ne_eqb m.cut 0 h)

-- A bound from whether it is said to be there.
pub present_or : {o : Option ℕ} (b : Bool) (k : ℕ) → o ≡ then_some b k → bound_of o ≡ bound_if b k
present_or true k e = rw e refl
present_or false k e = rw e refl

-- What is given out of a count, of what it is the count of; and of three.
pub given_by : {n : ℕ} (k : ℕ) → n ≡ capped k → count_words (given n) ≡ count_words (given k)
given_by k e = ap (λ m. count_words (given m)) e ∙ ap count_words (given_capped k)

pub shared : {s : Shares} (t : Shares) → s ≡ capped_shares t → share_words s ≡ share_words t
shared t e = ap share_words e ∙ words_capped t
