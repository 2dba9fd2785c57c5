-- Laws that join what a search answers and leaves to the two lines of its answer.
-- Assumes nothing.
use Prim.Native.Nat.{ℕ, ◌+◌, ◌≤◌}
use native.Mathlib.Omega.{arith}
use mathlib.Core.Path.{◌≡◌, refl, sym, ap, ap₂, ◌∙◌}
use mathlib.Core.Bool.{Bool, true, not, cond}
use mathlib.Core.List.{List, [], ◌∷◌, ◌++◌}
use lib.Dec.{T}
use lib.ListN.{length, drop, length-append, length-map, length-drop}
use borrow.Author.Tests.{le-ltb}
use Rattle.plpb.specs.Lists.{◌or◌, is_empty}
use Rattle.plpb.specs.Plan.{Plan, Assignment}
use Rattle.plpb.specs.Settings.{Settings}
use Rattle.plpb.specs.Search.{Ending, floor, ended, none, short_found, short_none, Reached, last_find, search}
use Rattle.plpb.specs.Sound.{finds_of, no_plan}
use Rattle.plpb.proofs.Soundness.{search_sound}
use Rattle.words.specs.Words.{word_at}
use Rattle.format.specs.File.{refuse}
use Rattle.format.specs.Tables.{table_size, term_size, plan_of_tables, plan_in, is_loaded}
use Rattle.format.proofs.Bools.{T_true}
use Rattle.format.proofs.Lawful.{plan_parts}
use Rattle.format.proofs.IsLoaded.{is_loaded_lawful}
use Rattle.tallies.specs.Layout.{assignment_size, bit_bytes}
use Rattle.numbers.specs.Numbers.{numbers_of}
use Rattle.settings.specs.declared.Settings.{Settings as Asked}
use Rattle.settings.specs.Settings.{settings_refusal, settings_of}
use Rattle.answers.specs.declared.Answer.{Answer as Answered}
use Rattle.finds.specs.Whole.{with_find}
use Rattle.columns.specs.Layout.{column_size, kept_size}
use Rattle.lending.specs.Lent.{Lent, too_small, search_refusal}
use Rattle.search.specs.Calls.{answer, search_assignment, ending_number, unless, Searches}
use Rattle.answers.specs.Found.{has_plan}
use Rattle.lines.specs.Text.{ending_of, result_line, found_line, assignment_line, answer_text}
use Rattle.lines.proofs.Printed.{nothing_found, something_found}

-- The endings by their numbers.
ending_back : (e : Ending) → ending_of (ending_number e) ≡ e
unfolding ending_of ending_number
ending_back floor = refl
ending_back ended = refl
ending_back none = refl
ending_back short_found = refl
ending_back short_none = refl

-- ---- the second line

told : (e : Ending) → has_plan (ending_number e) ≡ not (no_plan e)
unfolding has_plan ending_number no_plan ◌or◌
told floor = refl
told ended = refl
told none = refl
told short_found = refl
told short_none = refl

module _ (n : ℕ) (entry : List ℕ) (room : n ≤ length entry) where
  -- The bytes of a find, and those behind it, are as many as before: so the find has n bits.
  as_long : (a : Assignment) (exit : List ℕ) → exit ≡ bit_bytes a ++ drop n entry → length exit ≡ length entry → length a ≡ n
  unfolding bit_bytes
  as_long a exit e same =
      let long : length exit ≡ length (bit_bytes a) + length (drop n entry) = ap length e ∙ length-append (bit_bytes a) (drop n entry) in
      omega (arith, long, same, length-map {B = ℕ} a (λ b. cond b 1 0), length-drop n entry)

  second_line : (fs : List Assignment) (exit : List ℕ) → exit ≡ with_find (last_find fs) n entry → length exit ≡ length entry
      → assignment_line (not (is_empty fs)) n exit ≡ found_line (last_find fs)
  unfolding with_find last_find is_empty
  second_line [] exit e same = nothing_found n exit
  second_line (a ∷ fs) exit e same =
      ap₂ (λ (k : ℕ) (s : List ℕ). assignment_line true k s) (sym (as_long a exit e same)) e ∙ something_found a (drop n entry)

module _ (s : Settings) (p : Plan) (ns : List ℕ) (entry exit : List ℕ) (room : p.variables ≤ length entry) (e : exit ≡ with_find (search s p ns).assignment p.variables entry)
    (same : length exit ≡ length entry)
  where
    second_told : assignment_line (has_plan (ending_number (search s p ns).ending)) p.variables exit ≡ found_line (search s p ns).assignment
    second_told =
        let o = search_sound s p ns in
        let some : has_plan (ending_number (search s p ns).ending) ≡ not (is_empty (finds_of s p ns)) = told (search s p ns).ending ∙ ap not o.none_found in
        ap (λ (b : Bool). assignment_line b p.variables exit) some
        ∙ second_line p.variables entry room (finds_of s p ns) exit (e ∙ ap (λ (r : Reached). with_find r p.variables entry) o.handed_out) same
        ∙ ap found_line (sym o.handed_out)

-- ---- a search that is not refused

unrefused : (l : Lent) (k : Asked) → T (is_loaded l.tables l.terms) → table_size ≤ length l.tables → term_size ≤ length l.terms
    → assignment_size ≤ length l.assignment → table_size ≤ length l.work_tables → term_size ≤ length l.work_terms
    → assignment_size ≤ length l.work_assignment → kept_size ≤ length l.work_tallies → column_size ≤ length l.work_marks → settings_refusal k ≡ 0
    → search_refusal l k ≡ 0
unfolding search_refusal too_small refuse ◌or◌
unrefused l k t a b c d e f g h z =
    rw
    (le-ltb _ _ a, le-ltb _ _ b, le-ltb _ _ c, le-ltb _ _ d, le-ltb _ _ e, le-ltb _ _ f, le-ltb _ _ g, le-ltb _ _ h, T_true (is_loaded l.tables l.terms) t)
    z

pub few_variables : (tables terms : List ℕ) → T (is_loaded tables terms) → word_at tables 0 ≤ 512
unfolding plan_of_tables plan_in
few_variables tables terms t = (plan_parts _ (is_loaded_lawful tables terms t)).high

-- What is written of the answer is its text.
module _ (l : Lent) (k : Asked) (r : Answered) (left : Lent) (h : Searches l k r left) (z : search_refusal l k ≡ 0) where
  ending_is : r.ending ≡ ending_number (answer l k).ending
  unfolding unless
  ending_is = h.ending ∙ rw z

  cost_is : r.cost ≡ (answer l k).cost
  unfolding unless
  cost_is = h.cost ∙ rw z

  finds_is : r.finds ≡ (answer l k).finds
  unfolding unless
  finds_is = h.finds ∙ rw z

  flips_is : r.flips ≡ (answer l k).flips
  unfolding unless
  flips_is = h.flips ∙ rw z

  used_is : r.used ≡ (answer l k).used
  unfolding unless
  used_is = h.used ∙ rw z

  find_is : left.assignment ≡ with_find (answer l k).assignment (plan_of_tables l.tables l.terms).variables l.assignment
  unfolding search_assignment
  find_is = h.assignment ∙ rw z

  first_is : result_line (ending_of r.ending) r.cost r.finds r.flips r.used
      ≡ result_line (answer l k).ending (answer l k).cost (answer l k).finds (answer l k).flips (answer l k).used
  first_is = λ i. result_line ((ap ending_of ending_is ∙ ending_back (answer l k).ending) i) (cost_is i) (finds_is i) (flips_is i) (used_is i)

  second_is : word_at l.tables 0 ≤ length l.assignment → length left.assignment ≡ length l.assignment
      → assignment_line (has_plan r.ending) (word_at l.tables 0) left.assignment ≡ found_line (answer l k).assignment
  unfolding answer plan_of_tables plan_in
  second_is room same =
      ap (λ (n : ℕ). assignment_line (has_plan n) (word_at l.tables 0) left.assignment) ending_is
      ∙ second_told (settings_of k) (plan_of_tables l.tables l.terms) (numbers_of l.numbers) l.assignment left.assignment room find_is same

  answer_written : word_at l.tables 0 ≤ length l.assignment → length left.assignment ≡ length l.assignment
      → result_line (ending_of r.ending) r.cost r.finds r.flips r.used ++ assignment_line (has_plan r.ending) (word_at l.tables 0) left.assignment
      ≡ answer_text (search (settings_of k) (plan_of_tables l.tables l.terms) (numbers_of l.numbers))
  unfolding answer answer_text
  answer_written room same = ap₂ ◌++◌ first_is (second_is room same)

-- Of what a search is lent each table is as long after it as before.
pub search_written : (l : Lent) (k : Asked) (r : Answered) (left : Lent) → Searches l k r left → T (is_loaded l.tables l.terms)
    → table_size ≤ length l.tables → term_size ≤ length l.terms → settings_refusal k ≡ 0
    → length left.assignment ≡ length l.assignment → assignment_size ≤ length l.assignment
    → table_size ≤ length l.work_tables → term_size ≤ length l.work_terms → assignment_size ≤ length l.work_assignment
    → kept_size ≤ length l.work_tallies → column_size ≤ length l.work_marks
    → result_line (ending_of r.ending) r.cost r.finds r.flips r.used ++ assignment_line (has_plan r.ending) (word_at l.tables 0) left.assignment
    ≡ answer_text (search (settings_of k) (plan_of_tables l.tables l.terms) (numbers_of l.numbers))
search_written l k r left h t a b z same c d e f g m =
    answer_written l k r left h (unrefused l k t a b c d e f g m z) (omega (arith, few_variables l.tables l.terms t, c)) same
