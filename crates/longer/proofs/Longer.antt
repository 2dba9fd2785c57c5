-- A longer list never hurts: the numbers of a longer list of bytes begin with those of the shorter one, and the rest is what a search does with numbers.
-- Assumes nothing.
use Prim.Native.Nat.{ℕ, zero, suc, ◌+◌, ◌-◌, ◌*◌, ◌/◌, ◌≤◌}
use native.Mathlib.Nat.{zero-add}
use native.Mathlib.Omega.{arith}
use mathlib.Core.Bool.{cond}
use mathlib.Core.List.{List, ◌∷◌, ◌++◌, map, map-append}
use mathlib.Core.Path.{◌≡◌, refl, sym, ap, ap₂, ◌∙◌, subst}
use lib.Dec.{eqb}
use lib.ListN.{length, length-append, get_or-append}
use Rattle.plpb.specs.Lists.{◌or◌, row}
use Rattle.plpb.specs.Search.{Ending, floor, ended, none, short_found, short_none, Answer, search}
use Rattle.words.specs.Words.{num_at, word_at}
use Rattle.format.proofs.Lists.{row_split}
use Rattle.finds.specs.Whole.{with_find}
use lib.IntN.{pos}
use Rattle.format.specs.Tables.{plan_of_tables}
use Rattle.format.specs.Layout.{table_size, term_size}
use Rattle.columns.specs.Layout.{column_size, kept_size}
use Rattle.format.specs.Assignment.{assignment_size}
use Rattle.numbers.specs.Numbers.{numbers_of}
use Rattle.settings.specs.declared.Settings.{Settings as Asked}
use Rattle.settings.specs.Settings.{settings_of}
use Rattle.lending.specs.Lent.{Lent, too_small, search_refusal}
use Rattle.answers.specs.declared.Answer.{Answer as Answered}
use Rattle.search.specs.Calls.{answer, search_assignment, cleared, ending_number, unless, Searches}
use Rattle.longer.specs.Answers.{ran_short, NoWorse}
use Rattle.longer.proofs.Answers.{answers_never_hurt}
use Rattle.longer.specs.Longer.{with_more, ends_short, SameEnd, NeverHurts, LongerNeverHurts}

-- ---- the numbers of a longer list

module _ (s more : List ℕ) where
  num_before : (k at : ℕ) → at + k ≤ length s → num_at k (s ++ more) at ≡ num_at k s at
  unfolding num_at
  num_before zero at h = refl
  num_before (suc k) at h =
      ap₂ (λ b n. b + 256 * n) (get_or-append s more 0 at (omega arith)) (num_before k (suc at) (omega arith))

  words_before : (i k : ℕ) → 4 * (i + k) ≤ length s → map (word_at (s ++ more)) (row i k) ≡ map (word_at s) (row i k)
  unfolding row word_at
  words_before i zero h = refl
  words_before i (suc k) h = ap₂ ◌∷◌ (num_before 4 (4 * i) (omega arith)) (words_before (suc i) k (omega arith))

  -- "one list begins with all of another", a last number of fewer than 4 bytes too: what follows may make a whole number of it.
  rest : List ℕ
  rest = map (word_at (s ++ more)) (row (length s / 4) (length (s ++ more) / 4 - length s / 4))

  numbers_longer : numbers_of (s ++ more) ≡ numbers_of s ++ rest
  unfolding numbers_of rest
  numbers_longer =
      let fewer : length s / 4 + (length (s ++ more) / 4 - length s / 4) ≡ length (s ++ more) / 4 = omega (arith, length-append s more) in
      ap (λ n. map (word_at (s ++ more)) (row 0 n)) (sym fewer)
      ∙ ap (map (word_at (s ++ more))) (row_split 0 (length s / 4) (length (s ++ more) / 4 - length s / 4))
      ∙ map-append (word_at (s ++ more)) (row 0 (length s / 4)) _
      ∙ ap₂ (λ ws i. ws ++ map (word_at (s ++ more)) (row i (length (s ++ more) / 4 - length s / 4))) (words_before 0 (length s / 4) (omega arith)) (zero-add (length s / 4))

-- ---- what is lent

module _ (l : Lent) (more : List ℕ) (k : Asked) where
  same_refusal : search_refusal (with_more l more) k ≡ search_refusal l k
  unfolding with_more search_refusal too_small
  same_refusal = refl

  no_worse : NoWorse (answer l k) (answer (with_more l more) k)
  unfolding with_more answer
  no_worse =
      let p = plan_of_tables l.tables l.terms in
      subst (λ ns. NoWorse (answer l k) (search (settings_of k) p ns)) (sym (numbers_longer l.numbers more))
      (answers_never_hurt (settings_of k) p (numbers_of l.numbers) (rest l.numbers more))

  -- What the answers leave, told by the answers.
  left_alike : answer (with_more l more) k ≡ answer l k → search_assignment (with_more l more) k ≡ search_assignment l k
  unfolding search_assignment with_more search_refusal too_small
  left_alike e =
      ap (λ (a : Answer). cond (eqb (search_refusal l k) 0) (with_find a.assignment (plan_of_tables l.tables l.terms).variables l.assignment) l.assignment) e

  cleared_alike : (size : ℕ) (bytes : List ℕ) → cleared (with_more l more) k size bytes ≡ cleared l k size bytes
  unfolding cleared with_more search_refusal too_small
  cleared_alike size bytes = refl

-- An ending's number tells whether it ran short.
short_number : (e : Ending) → ends_short (ending_number e) ≡ ran_short e
unfolding ends_short ending_number ran_short ◌or◌
short_number floor = refl
short_number ended = refl
short_number none = refl
short_number short_found = refl
short_number short_none = refl

found_number : (e : Ending) → ending_number e ≡ 4 → e ≡ short_found
unfolding ending_number
found_number floor h = absurd (omega arith)
found_number ended h = absurd (omega arith)
found_number none h = absurd (omega arith)
found_number short_found h = refl
found_number short_none h = absurd (omega arith)

-- A search that is not refused gives the answer of its walk.
told : {A : Type 0} (l : Lent) (k : Asked) (refused answered : A) → search_refusal l k ≡ 0 → unless l k refused answered ≡ answered
unfolding unless
told l k refused answered z = rw z

-- ---- the theorem

module _ (l : Lent) (more : List ℕ) (k : Asked) (r r' : Answered) (left left' : Lent) (q : Searches l k r left) (q' : Searches (with_more l more) k r' left')
    (z : search_refusal l k ≡ 0) where
  -- What the longer list's search answers, with nothing refused either.
  z' : search_refusal (with_more l more) k ≡ 0
  z' = same_refusal l more k ∙ z

  says : r.ending ≡ ending_number (answer l k).ending
  says = q.ending ∙ told l k 0 (ending_number (answer l k).ending) z

  same_end : answer (with_more l more) k ≡ answer l k → SameEnd r r' left left'
  unfolding with_more
  same_end e =
      record {
        ending = q'.ending ∙ told (with_more l more) k 0 _ z' ∙ ap (λ (a : Answer). ending_number a.ending) e ∙ sym says;
        cost = q'.cost ∙ told (with_more l more) k (pos 0) _ z' ∙ ap (λ (a : Answer). a.cost) e ∙ sym (q.cost ∙ told l k (pos 0) _ z);
        finds = q'.finds ∙ told (with_more l more) k 0 _ z' ∙ ap (λ (a : Answer). a.finds) e ∙ sym (q.finds ∙ told l k 0 _ z);
        flips = q'.flips ∙ told (with_more l more) k 0 _ z' ∙ ap (λ (a : Answer). a.flips) e ∙ sym (q.flips ∙ told l k 0 _ z);
        used = q'.used ∙ told (with_more l more) k 0 _ z' ∙ ap (λ (a : Answer). a.used) e ∙ sym (q.used ∙ told l k 0 _ z);
        assignment = q'.assignment ∙ left_alike l more k e ∙ sym q.assignment;
        work_tables = q'.work_tables ∙ cleared_alike l more k table_size l.work_tables ∙ sym q.work_tables;
        work_terms = q'.work_terms ∙ cleared_alike l more k term_size l.work_terms ∙ sym q.work_terms;
        work_assignment = q'.work_assignment ∙ cleared_alike l more k assignment_size l.work_assignment ∙ sym q.work_assignment;
        work_tallies = q'.work_tallies ∙ cleared_alike l more k kept_size l.work_tallies ∙ sym q.work_tallies;
        work_marks = q'.work_marks ∙ cleared_alike l more k column_size l.work_marks ∙ sym q.work_marks;
      }

  never_hurts : NeverHurts r r' left left'
  never_hurts =
      let both = no_worse l more k in
      let lower = q'.cost ∙ told (with_more l more) k (pos 0) _ z' in
      let above = q.cost ∙ told l k (pos 0) _ z in
      let many = q'.finds ∙ told (with_more l more) k 0 _ z' in
      let few = q.finds ∙ told l k 0 _ z in
      record {
        accepted = q'.refusal ∙ z';
        same = λ h. same_end (both.same (sym (short_number (answer l k).ending) ∙ ap ends_short (sym says) ∙ h));
        better = λ h. let b = both.better (found_number (answer l k).ending (sym says ∙ h)) in (rw (lower, above) b.0, rw (many, few) b.1);
      }

pub longer_never_hurts : LongerNeverHurts
longer_never_hurts l more k r r' left left' accepted q q' = never_hurts l more k r r' left left' q q' (sym q.refusal ∙ accepted)
