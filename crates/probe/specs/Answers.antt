-- What the exports answer. Numbers that no lawful plan has are answered by 0.
-- Assumes nothing.
use Rattle.std.specs.Prelude.{ℕ, suc, ◌+◌, ◌-◌, Bool, true, false, cond, List, ◌++◌, ltb, leb, eqb}
use Rattle.plpb.specs.Lists.{◌and◌}
use Rattle.plpb.specs.Plan.{Bound, absent, present}
use Rattle.plpb.specs.Count.{cap, given}
use Rattle.plpb.specs.Equations.{binom, Standing, out, on, off, Shares, shares}
use Rattle.plpb.specs.Factors.{factors}
use Rattle.counting.specs.Count.{count_words, marked_words}
use Rattle.counting.specs.declared.count.Marked.{Marked}
use Rattle.rules.specs.declared.state.State.{State}
use Rattle.rules.specs.Places.{standing_in}
use Rattle.probe.specs.declared.Three.{Three}

-- The numbers that a binomial is worked out of: those of 32 bits.
unfoldable pub is_word : ℕ → Bool
is_word m = ltb m 4_294_967_296

unfoldable pub binomial_answer : ℕ → ℕ → ℕ
binomial_answer m k = cond (is_word m) (binom m k) 0

unfoldable pub factors_answer : ℕ → ℕ → ℕ
factors_answer m k = cond (is_word m) (factors m k) 0

unfoldable pub difference_answer : ℕ → ℕ → ℕ → ℕ
difference_answer m w k = cond (is_word (m + w)) (binom (m + w) k - binom m k) 0

-- Where a count that is handed in stands: it is cut where its mark is not 0, whatever its value.
unfoldable pub number_in : Marked → ℕ
number_in m = cond (eqb m.cut 0) m.value (suc cap)

-- The three of a Three.
abbrev pub three_in : Three → Shares
three_in t = record { e = number_in t.e; f = number_in t.f; g = number_in t.g }

-- Three counts as they are given out: each its value and its mark.
abbrev pub three_words : Three → List ℕ
three_words t = marked_words t.e ++ marked_words t.f ++ marked_words t.g

unfoldable pub share_words : Shares → List ℕ
share_words s = count_words (given s.e) ++ count_words (given s.f) ++ count_words (given s.g)

-- A bound's size, where the bound is said to be there.
abbrev pub bound_if : Bool → ℕ → Bound ℕ
bound_if true k = present k
bound_if false k = absent

-- Case 0: the variable does not occur. Case 1: its literal is true. Any other: its literal is false.
unfoldable pub standing_for : ℕ → ℕ → Standing
standing_for case w = cond (eqb case 0) out (cond (eqb case 1) (on w) (off w))

-- A literal's weight is part of the sum that it counts in: P where it is true, N where it is false.
unfoldable pub is_within : Standing → ℕ → ℕ → Bool
is_within out n p = true
is_within (on w) n p = leb w p
is_within (off w) n p = leb w n

-- So a state is, whose numbers go together.
unfoldable pub is_balanced : State → Bool
is_balanced s = is_word (s.n + s.p) and is_within (standing_in s.stands) s.n s.p

unfoldable pub shares_answer : Standing → ℕ → ℕ → Bound ℕ → Bound ℕ → Shares
shares_answer s n p A B = cond (is_word (n + p) and is_within s n p) (shares s n p A B) (record { e = 0; f = 0; g = 0 })
