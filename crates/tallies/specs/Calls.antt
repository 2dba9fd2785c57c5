-- Opening, flip and counts as definitions on what is lent: the refusal, the answer and the bytes left (document 01, "Who can cause which
-- refusal" and "Tallies").
-- Assumes nothing.
use Rattle.std.specs.Prelude.{ℕ, zero, suc, ◌-◌, Bool, not, cond, List, ltb, eqb, length, get_or, set, take}
use Rattle.plpb.specs.Lists.{◌or◌}
use Rattle.plpb.specs.Plan.{Plan, Assignment, is_variable, is_locked}
use Rattle.plpb.specs.Expansion.{break_count, make_count}
use Rattle.plpb.specs.Count.{Count, given}
use Rattle.plpb.specs.Tallies.{rules_named, fresh_count}
use Rattle.plpb.specs.Book.{Call, flip_call, counts_call, Answer, refused, accepted, counted}
use Rattle.format.specs.File.{refuse}
use Rattle.format.specs.Tables.{table_size, term_size, plan_of_tables, is_loaded, same_bytes}
use Rattle.tallies.specs.Layout.{assignment_size, tally_size, bits_of, are_bits, with_bits, tally_bytes, with_tallies}

-- What the host program lends: the two tables, the assignment and the tallies.
pub record Lent : Type 0 where
  pub tables : List ℕ
  pub terms : List ℕ
  pub assignment : List ℕ
  pub tallies : List ℕ

abbrev pub lent : List ℕ → List ℕ → List ℕ → List ℕ → Lent
lent tables terms assignment tallies = record { tables = tables; terms = terms; assignment = assignment; tallies = tallies }

-- The plan in the tables that are lent, and the bits of the assignment.
unfoldable pub plan : Lent → Plan
plan l = plan_of_tables l.tables l.terms

abbrev pub bits : Lent → Assignment
bits l = bits_of (plan l).variables l.assignment

-- What is lent, with some bits as its assignment and their fresh count as its tallies. All else is as it was.
unfoldable pub told : Plan → Lent → Assignment → Lent
told p l b = lent l.tables l.terms (with_bits p.variables b l.assignment) (with_tallies p b l.tallies)

-- "21: a buffer or table smaller than the full limits need"
unfoldable pub too_small : Lent → Bool
too_small l =
    ltb (length l.tables) table_size or ltb (length l.terms) term_size or ltb (length l.assignment) assignment_size
    or ltb (length l.tallies) tally_size

-- The tallies that a fresh count gives for what is lent as assignment.
unfoldable pub fresh_bytes : Lent → List ℕ
fresh_bytes l = tally_bytes (fresh_count (plan l) (bits l))

-- "Opening (tallies from an assignment): 21, 22, 24."
unfoldable pub open_refusal : Lent → ℕ
open_refusal l =
    refuse (too_small l) 21 (refuse (not (is_loaded l.tables l.terms)) 22 (refuse (not (are_bits (plan l).variables l.assignment)) 24 0))

-- "Opening writes them, and 0 in unused entries." "Opening writes tallies alone"
unfoldable pub open_tallies : Lent → List ℕ
open_tallies l = cond (eqb (open_refusal l) 0) (with_tallies (plan l) (bits l) l.tallies) l.tallies

-- "Flip and counts: 21, 22, 24, 25, 23." "25: tallies other than opening would write for this assignment, unused entries too."
unfoldable pub call_refusal : Lent → ℕ → ℕ
call_refusal l x =
    cond (eqb (open_refusal l) 0)
    (refuse (not (same_bytes (take tally_size l.tallies) (fresh_bytes l))) 25 (refuse (not (is_variable (plan l) x)) 23 0))
    (open_refusal l)

-- "26 for a flip of a locked variable, after 23" (T-01). Counts has no such refusal, and opening takes values other than those of the locks.
unfoldable pub flip_refusal : Lent → ℕ → ℕ
flip_refusal l x = cond (eqb (call_refusal l x) 0) (refuse (is_locked (plan l) x) 26 0) (call_refusal l x)

-- "An accepted flip turns over one assignment byte"
unfoldable pub turned : List ℕ → ℕ → List ℕ
turned bytes zero = bytes
turned bytes (suc i) = set bytes i (1 - get_or bytes i 0)

unfoldable pub flip_assignment : Lent → ℕ → List ℕ
flip_assignment l x = cond (eqb (flip_refusal l x) 0) (turned l.assignment x) l.assignment

-- .. and leaves the fresh count of what is then the assignment.
unfoldable pub flip_tallies : Lent → ℕ → List ℕ
flip_tallies l x =
    cond (eqb (flip_refusal l x) 0)
    (with_tallies (plan l) (bits_of (plan l).variables (turned l.assignment x)) l.tallies)
    l.tallies

-- "A flip's answer gives the count of rule tallies it rewrote, which equals the number of rules naming the variable" (T-05); 0 with a refusal.
unfoldable pub flip_rules : Lent → ℕ → ℕ
flip_rules l x = cond (eqb (flip_refusal l x) 0) (rules_named (plan l) x) 0

-- The counts of expansion clauses that the variable's flip would spoil and mend; 0, uncut, with a refusal.
unfoldable pub counts_break : Lent → ℕ → Count
counts_break l x = given (cond (eqb (call_refusal l x) 0) (break_count (plan l) (bits l) x) 0)

unfoldable pub counts_make : Lent → ℕ → Count
counts_make l x = given (cond (eqb (call_refusal l x) 0) (make_count (plan l) (bits l) x) 0)

-- One call of a list, on what is lent: what it answers.
unfoldable pub answer : Lent → Call → Answer
answer l (flip_call x) = cond (eqb (flip_refusal l x) 0) (accepted (flip_rules l x)) (refused (flip_refusal l x))
answer l (counts_call x) = cond (eqb (call_refusal l x) 0) (counted (counts_break l x) (counts_make l x)) (refused (call_refusal l x))

-- .. and what it leaves: "each handed what the last one left".
unfoldable pub left_by : Lent → Call → Lent
left_by l (flip_call x) = lent l.tables l.terms (flip_assignment l x) (flip_tallies l x)
left_by l (counts_call x) = l
