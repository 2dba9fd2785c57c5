-- The plain book of demand 3 (document 01, "Tallies"): what a list of flips and counts calls is to answer, and which bits it leaves.
-- It is fed the plan, the assignment opened and each call's kind and variable, and nothing else.
-- Assumes nothing.
use Rattle.std.specs.Prelude.{ℕ, cond, List, [], ◌∷◌}
use Rattle.plpb.specs.Plan.{Plan, Assignment, flip, is_variable, is_locked}
use Rattle.plpb.specs.Expansion.{break_count, make_count}
use Rattle.plpb.specs.Count.{Count, given}
use Rattle.plpb.specs.Tallies.{rules_named}

-- "Its calls are flip and counts, in any order and number, none too. Each gets [..] any variable number"
pub data Call : Type 0 where
  flip_call : ℕ → Call
  counts_call : ℕ → Call

pub data Answer : Type 0 where
  refused : ℕ → Answer
  accepted : ℕ → Answer
  counted : Count → Count → Answer

-- What a call answers and the bits after it.
pub record Entry : Type 0 where
  pub answer : Answer
  pub bits : Assignment

-- A refused call: "no bit changes".
unfoldable pub refusal : ℕ → Assignment → Entry
refusal n a = record { answer = refused n; bits = a }

-- "A variable outside 1 to n: 23, and no bit changes. Flip: accepted, and that bit turns over. Counts: the capped numbers of expansion
-- clauses that turning that bit over would spoil and mend; no bit changes." "The counts of document 01, and what is claimed of them, carry this
-- mark." (T-08) "a flip of a locked variable is one of the refused calls: the book answers 26,
-- and no bit changes." "the number of rules naming the variable [..] The book's answer to a flip gives that number too." (T-05)
unfoldable pub entry : Plan → Assignment → Call → Entry
entry p a (flip_call x) =
    cond (is_variable p x)
    (cond (is_locked p x) (refusal 26 a) (record { answer = accepted (rules_named p x); bits = flip a x }))
    (refusal 23 a)
entry p a (counts_call x) =
    cond (is_variable p x) (record { answer = counted (given (break_count p a x)) (given (make_count p a x)); bits = a }) (refusal 23 a)

-- A whole list of calls: the answers in order, and the bits after the last.
pub record Account : Type 0 where
  pub answers : List Answer
  pub bits : Assignment

unfoldable pub book : Plan → Assignment → List Call → Account
book p a [] = record { answers = []; bits = a }
book p a (c ∷ cs) =
    let rest = book p (entry p a c).bits cs in
    record { answers = (entry p a c).answer ∷ rest.answers; bits = rest.bits }
