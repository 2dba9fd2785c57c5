-- The statements of an OPB text by the places of their parts ("the text form of the 2006 evaluation", document 02, T-02), after the grammar of that
-- evaluation:
--     objective   ::= "min:" zeroOrMoreSpace sum ";"
--     constraint  ::= sum relational_operator zeroOrMoreSpace integer zeroOrMoreSpace ";"
--     sum         ::= weightedterm | weightedterm sum
--     weightedterm ::= integer oneOrMoreSpace "x" unsigned_integer oneOrMoreSpace
--     integer     ::= unsigned_integer | "+" unsigned_integer | "-" unsigned_integer
--     relational_operator ::= ">=" | "="
-- A part that is not there ends where it begins.
-- Assumes nothing.
use Rattle.std.specs.Prelude.{ℕ, zero, suc, ◌+◌, Bool, not, cond, List, [], ◌∷◌, ltb, eqb, ℤ, pos, neg_ℤ, length, get_or}
use Rattle.plpb.specs.Lists.{◌and◌, ◌or◌, is_empty}
use Rattle.plpb.specs.Plan.{absent, present, Term, Rule}
use Rattle.tokens.specs.Tokens.{blanks_end, digits_end, line_end, number_at, word_end}

-- Where the digits of an integer begin and end, whether there are any, and its value.
unfoldable pub unsigned_from : List ℕ → ℕ → ℕ
unsigned_from s at = cond (eqb (get_or s at 0) 43 or eqb (get_or s at 0) 45) (at + 1) at

unfoldable pub integer_end : List ℕ → ℕ → ℕ
integer_end s at = digits_end s (unsigned_from s at)

unfoldable pub is_integer : List ℕ → ℕ → Bool
is_integer s at = ltb (unsigned_from s at) (integer_end s at)

unfoldable pub with_sign : Bool → ℕ → ℤ
with_sign negative size = cond negative (neg_ℤ (pos size)) (pos size)

unfoldable pub integer_at : List ℕ → ℕ → ℤ
integer_at s at = with_sign (eqb (get_or s at 0) 45) (number_at s (unsigned_from s at))

-- A weightedterm: where its "x" stands, where its number begins and ends, and where the blanks behind it end.
unfoldable pub letter_at : List ℕ → ℕ → ℕ
letter_at s at = blanks_end s (integer_end s at)

unfoldable pub index_from : List ℕ → ℕ → ℕ
index_from s at = word_end (120 ∷ []) s (letter_at s at)

unfoldable pub index_end : List ℕ → ℕ → ℕ
index_end s at = digits_end s (index_from s at)

unfoldable pub term_end : List ℕ → ℕ → ℕ
term_end s at = blanks_end s (index_end s at)

-- Each part is there.
unfoldable pub is_term : List ℕ → ℕ → Bool
is_term s at =
    is_integer s at and ltb (integer_end s at) (letter_at s at) and ltb (letter_at s at) (index_from s at)
    and ltb (index_from s at) (index_end s at) and ltb (index_end s at) (term_end s at)

unfoldable pub term_at : List ℕ → ℕ → Term
term_at s at = record { variable = number_at s (index_from s at); weight = integer_at s at }

-- A sum: its terms, and where they end. A term takes a byte at least, so that there are no more terms than bytes.
unfoldable pub terms_from : ℕ → List ℕ → ℕ → List Term
terms_from zero s at = []
terms_from (suc left) s at = cond (is_term s at) (term_at s at ∷ terms_from left s (term_end s at)) []

unfoldable pub end_from : ℕ → List ℕ → ℕ → ℕ
end_from zero s at = at
end_from (suc left) s at = cond (is_term s at) (end_from left s (term_end s at)) at

abbrev pub sum_at : List ℕ → ℕ → List Term
sum_at s at = terms_from (length s) s at

abbrev pub sum_end : List ℕ → ℕ → ℕ
sum_end s at = end_from (length s) s at

-- A sum has a term at least.
unfoldable pub has_terms : List ℕ → ℕ → Bool
has_terms s at = not (is_empty (sum_at s at))

-- What a line begins with tells its kind: "*" a comment, "m" an objective, anything else a constraint.
unfoldable pub is_comment : List ℕ → ℕ → Bool
is_comment s at = eqb (get_or s at 0) 42

unfoldable pub is_objective : List ℕ → ℕ → Bool
is_objective s at = eqb (get_or s at 0) 109

unfoldable pub is_constraint : List ℕ → ℕ → Bool
is_constraint s at = not (is_comment s at) and not (is_objective s at)

-- "min:"
abbrev pub min_word : List ℕ
min_word = 109 ∷ 105 ∷ 110 ∷ 58 ∷ []

-- Where the sum of a line begins.
unfoldable pub sum_from : List ℕ → ℕ → ℕ
sum_from s at = cond (is_objective s at) (blanks_end s (word_end min_word s at)) at

abbrev pub terms_in : List ℕ → ℕ → List Term
terms_in s at = sum_at s (sum_from s at)

-- A relation at a place, whether it is "=", and where it ends.
unfoldable pub is_exact : List ℕ → ℕ → Bool
is_exact s at = eqb (get_or s at 0) 61

unfoldable pub relation_end : List ℕ → ℕ → ℕ
relation_end s at = cond (is_exact s at) (at + 1) (word_end (62 ∷ 61 ∷ []) s at)

-- Where the bound behind it begins, and the blanks behind that end.
unfoldable pub bound_from : List ℕ → ℕ → ℕ
bound_from s at = blanks_end s (relation_end s at)

unfoldable pub bound_end : List ℕ → ℕ → ℕ
bound_end s at = blanks_end s (integer_end s (bound_from s at))

unfoldable pub is_bounded : List ℕ → ℕ → Bool
is_bounded s at = ltb at (relation_end s at) and is_integer s (bound_from s at)

-- ";" stands at a place, and the line feed that ends the line right behind it.
unfoldable pub closes : List ℕ → ℕ → ℕ → Bool
closes s at end = eqb (get_or s at 0) 59 and eqb (at + 1) end

-- The rest of an objective and of a constraint, whose sum has a term.
unfoldable pub objective_formed : List ℕ → ℕ → Bool
objective_formed s at = ltb at (word_end min_word s at) and closes s (sum_end s (sum_from s at)) (line_end s at)

unfoldable pub constraint_formed : List ℕ → ℕ → Bool
constraint_formed s at = is_bounded s (sum_end s at) and closes s (bound_end s (sum_end s at)) (line_end s at)

-- "each constraint a clause of one rule, `=` in mode 3": a constraint's bound and its rule.
unfoldable pub bound_at : List ℕ → ℕ → ℤ
bound_at s at = integer_at s (bound_from s (sum_end s at))

unfoldable pub rule_at : List ℕ → ℕ → Rule
rule_at s at =
    record {
      lower = present (bound_at s at);
      upper = cond (is_exact s (sum_end s at)) (present (bound_at s at)) absent;
      terms = sum_at s at;
    }
