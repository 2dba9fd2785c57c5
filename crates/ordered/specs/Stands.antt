-- The test of a word in the two parts that the code makes of it: the word itself is compared by its two marks, for its place is read from it.
-- Assumes nothing.
use Rattle.std.specs.Prelude.{ℕ, ◌+◌, ◌*◌, ◌/◌, ◌%◌, Bool, cond, leb, ltb, eqb}
use Rattle.plpb.specs.Lists.{◌and◌}
use Rattle.plpb.specs.Normal.{is_negative}
use Rattle.words.specs.Words.{signed}
use Rattle.order.specs.Order.{word_place}
use Rattle.format.specs.Layout.{clause_count_at, clause_first_at, rule_count_at}
use Rattle.format.specs.Good.{term_here}

-- Its clause is one of the table's, its rule one of the clause's, and its highest bit says whether the clause has more than one.
unfoldable pub rule_stands : (ℕ → ℕ) → ℕ → Bool
rule_stands f w =
    ltb (word_place w).clause (f 1)
    and leb (f (clause_first_at (word_place w).clause)) (word_place w).rule
    and ltb (word_place w).rule (f (clause_first_at (word_place w).clause) + f (clause_count_at (word_place w).clause))
    and eqb (w / 2_147_483_648) (cond (ltb 1 (f (clause_count_at (word_place w).clause))) 1 0)

-- Its term is one of the rule's and names x, and its lowest bit says whether the coefficient is negative.
unfoldable pub term_stands : (ℕ → ℕ) → (ℕ → ℕ) → ℕ → ℕ → Bool
term_stands f g x w =
    ltb (word_place w).term (f (rule_count_at (word_place w).rule))
    and eqb (g (2 * term_here f (word_place w))) x
    and eqb (w % 2) (cond (is_negative (signed (g (2 * term_here f (word_place w) + 1)))) 1 0)
