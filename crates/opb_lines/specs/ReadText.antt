-- An OPB text as a definition: from any list of bytes to the plan, or the refusal's number with the offset of the statement's first byte (document 02, T-02).
-- Assumes nothing.
use Rattle.std.specs.Prelude.{ℕ, ◌+◌, Bool, true, false, not, cond, List, [], ◌∷◌, map, leb, ltb, eqb, nat_abs, length, get_or}
use Rattle.plpb.specs.Lists.{◌and◌, ◌or◌, keep, is_empty}
use Rattle.plpb.specs.Plan.{Term, Plan}
use Rattle.format.specs.Limits.{max_variables, max_clauses, max_terms, max_bound, terms_lawful}
use Rattle.format.specs.File.{Reading, refused, accepted, refuse}
use Rattle.tokens.specs.Tokens.{blanks_end, digits_end, line_end, number_at, word_end}
use Rattle.statements.specs.Grammar.{sum_at, terms_in, is_comment, is_objective, is_constraint, objective_formed, constraint_formed, bound_at, rule_at}
unfoldable pub use Rattle.statements.specs.Parts.{passes}

-- "a first line `* #variable= n #constraint= m`": a star, then two numbers, each behind its name.
abbrev pub star : List ℕ
star = 42 ∷ []

abbrev pub variable_name : List ℕ
variable_name = 35 ∷ 118 ∷ 97 ∷ 114 ∷ 105 ∷ 97 ∷ 98 ∷ 108 ∷ 101 ∷ 61 ∷ []

abbrev pub constraint_name : List ℕ
constraint_name = 35 ∷ 99 ∷ 111 ∷ 110 ∷ 115 ∷ 116 ∷ 114 ∷ 97 ∷ 105 ∷ 110 ∷ 116 ∷ 61 ∷ []

-- A number behind its name: where its digits begin and end, and whether both are there.
unfoldable pub named_from : List ℕ → List ℕ → ℕ → ℕ
named_from name s at = blanks_end s (word_end name s at)

unfoldable pub named_end : List ℕ → List ℕ → ℕ → ℕ
named_end name s at = digits_end s (named_from name s at)

unfoldable pub is_named : List ℕ → List ℕ → ℕ → Bool
is_named name s at = ltb at (word_end name s at) and ltb (named_from name s at) (named_end name s at)

-- Where the two begin, and where the blanks behind them end.
unfoldable pub variables_at : List ℕ → ℕ
variables_at s = blanks_end s (word_end star s 0)

unfoldable pub constraints_at : List ℕ → ℕ
constraints_at s = blanks_end s (named_end variable_name s (variables_at s))

unfoldable pub first_end : List ℕ → ℕ
first_end s = blanks_end s (named_end constraint_name s (constraints_at s))

unfoldable pub first_formed : List ℕ → Bool
first_formed s =
    ltb 0 (word_end star s 0) and is_named variable_name s (variables_at s)
    and ltb (named_end variable_name s (variables_at s)) (constraints_at s) and is_named constraint_name s (constraints_at s)
    and eqb (get_or s (first_end s) 0) 10

-- n and m.
unfoldable pub variables_in : List ℕ → ℕ
variables_in s = number_at s (named_from variable_name s (variables_at s))

unfoldable pub constraints_in : List ℕ → ℕ
constraints_in s = number_at s (named_from constraint_name s (constraints_at s))

-- "Each of these is one line that ends in a line feed": the places of the lines behind the first, each behind a line feed that does not end the text.
unfoldable pub starts : ℕ → List ℕ → List ℕ
starts at [] = []
starts at (b ∷ bs) = cond (eqb b 10 and not (is_empty bs)) ((at + 1) ∷ starts (at + 1) bs) (starts (at + 1) bs)

abbrev pub lines_of : List ℕ → List ℕ
lines_of s = starts 0 s

-- The terms of the first objective among lines; there is none behind it.
unfoldable pub objective_of : List ℕ → List ℕ → List Term
objective_of s [] = []
objective_of s (at ∷ ats) = cond (is_objective s at) (terms_in s at) (objective_of s ats)

-- The plan of a text: "each constraint a clause of one rule", no lock.
unfoldable pub plan_of_text : List ℕ → Plan
plan_of_text s =
    record {
      variables = variables_in s;
      objective = objective_of s (lines_of s);
      locks = [];
      clauses = map (λ at. rule_at s at ∷ []) (keep (is_constraint s) (lines_of s));
    }

-- "31 for malformed text, 32 for a variable above n, then 4 to 6 as in a plan": in a statement 31, 32, 4, 6, 5, the first that is met.
unfoldable pub first_met : Bool → Bool → Bool → Bool → Bool → ℕ
first_met malformed above full wide wrong = refuse malformed 31 (refuse above 32 (refuse full 4 (refuse wide 6 (refuse wrong 5 0))))

-- An objective stands where none does and no constraint does before it; it meets neither 4 nor 6.
unfoldable pub objective_fault : ℕ → List ℕ → Bool → ℕ → ℕ
objective_fault n s free at =
    first_met (not (free and objective_formed s at)) (passes n (terms_in s at)) false false (not (terms_lawful n (terms_in s at)))

-- A constraint behind so many, which have so many terms: the 513th, or one that brings the terms of constraints above 6,000, meets 4; a bound outside
-- ±1,000,000,000 meets 6.
unfoldable pub constraint_fault : ℕ → List ℕ → ℕ → ℕ → ℕ → ℕ
constraint_fault n s constraints terms at =
    first_met (not (constraint_formed s at)) (passes n (sum_at s at)) (leb max_clauses constraints or ltb max_terms (terms + length (sum_at s at)))
    (ltb max_bound (nat_abs (bound_at s at))) (not (terms_lawful n (sum_at s at)))

-- A line without a line feed is malformed, and so is a sum without a term.
unfoldable pub fault : ℕ → List ℕ → Bool → ℕ → ℕ → ℕ → ℕ
fault n s free constraints terms at =
    refuse (leb (length s) (line_end s at)) 31
    (cond (is_comment s at) 0
    (refuse (is_empty (terms_in s at)) 31
    (cond (is_objective s at) (objective_fault n s free at) (constraint_fault n s constraints terms at))))

-- "the first statement at fault deciding, .. each with its statement's offset [..]; last, 32 at 0 for a number of constraints other than m": the lines
-- from some place on, behind so many constraints with so many terms.
unfoldable pub judging : List ℕ → Bool → ℕ → ℕ → List ℕ → Reading Plan
judging s free constraints terms [] = cond (eqb constraints (constraints_in s)) (accepted (plan_of_text s)) (refused 32 0)
judging s free constraints terms (at ∷ ats) =
    cond (ltb 0 (fault (variables_in s) s free constraints terms at)) (refused (fault (variables_in s) s free constraints terms at) at)
    (cond (is_comment s at) (judging s free constraints terms ats)
    (cond (is_objective s at) (judging s false constraints terms ats)
    (judging s false (constraints + 1) (terms + length (sum_at s at)) ats)))

-- "the first line is one": 31, and 4 for a number of variables outside 1 to 512.
unfoldable pub read_text : List ℕ → Reading Plan
read_text s =
    cond (not (first_formed s)) (refused 31 0)
    (cond (not (leb 1 (variables_in s) and leb (variables_in s) max_variables)) (refused 4 0) (judging s true 0 0 (lines_of s)))
