-- What is reported of runs that passed their tests, and what is left.
-- Assumes nothing.
use Prim.Native.Nat.{ℕ, zero, suc}
use mathlib.Core.Path.{◌≡◌, refl, sym, ap, ap₂, ◌∙◌}
use mathlib.Core.List.{List, ◌++◌}
use lib.ListN.{length, drop, replicate}
use Rattle.plpb.specs.Plan.{Plan}
use Rattle.plpb.specs.Settings.{Settings}
use Rattle.format.specs.Tables.{table_size, term_size}
use Rattle.columns.specs.Layout.{column_size, kept_size}
use Rattle.format.specs.Assignment.{assignment_size}
use Rattle.settings.specs.Settings.{settings_of}
use Rattle.lending.specs.Lent.{Lent, lent_all}
use Rattle.xorwow.specs.declared.Xorwow.{Xorwow}
use Rattle.xorwow.specs.Xorwow.{after}
use Rattle.figures.specs.declared.Sums.{Sums}
use Rattle.figures.specs.declared.Figures.{Figures}
use Rattle.figures.specs.Figures.{figures_by, figures_of}
use Rattle.figures.specs.Runs.{answers, numbers_size}
use Rattle.runs.specs.Repeating.{AsBefore, plan_in, Repeats}
use Rattle.trials.specs.declared.Trial.{Trial}
use Rattle.trials.specs.Trials.{runs_refusal}
use Rattle.reports.specs.Calls.{reported, zeroed, Reports}

length_answers : (s : Settings) (p : Plan) (k runs : ℕ) (g : Xorwow) → length (answers s p k runs g) ≡ runs
unfolding answers
length_answers s p k zero g = refl
length_answers s p k (suc runs) g = ap suc (length_answers s p k runs (after k g))

-- A buffer cleared to its limit, which was as before past it.
cleared_is : {n : ℕ} {s t u : List ℕ} → u ≡ replicate n 0 ++ drop n t → AsBefore n s t → u ≡ replicate n 0 ++ drop n s
cleared_is {n} e a = e ∙ ap (λ r. replicate n 0 ++ r) a.beyond

module _ (l : Lent) (t : Trial) (z : runs_refusal l t ≡ 0) {wide : ℕ} (w : wide ≡ t.runs)
    {s : Sums} {m : Lent} (h : Repeats l t.settings t.count t.runs t.state s m)
  where
    figures_is : {f : Figures} → f ≡ figures_by wide s → f ≡ figures_of (answers (settings_of t.settings) (plan_in l) t.count t.runs t.state)
    unfolding figures_of
    figures_is e =
        e ∙ ap₂ figures_by (w ∙ sym (length_answers (settings_of t.settings) (plan_in l) t.count t.runs t.state)) h.sums

    pub reporting : {f : Figures} {numbers assignment work_tables work_terms work_assignment work_tallies work_marks : List ℕ}
        → f ≡ figures_by wide s
        → numbers ≡ replicate numbers_size 0 ++ drop numbers_size m.numbers
        → assignment ≡ replicate assignment_size 0 ++ drop assignment_size m.assignment
        → work_tables ≡ replicate table_size 0 ++ drop table_size m.work_tables
        → work_terms ≡ replicate term_size 0 ++ drop term_size m.work_terms
        → work_assignment ≡ replicate assignment_size 0 ++ drop assignment_size m.work_assignment
        → work_tallies ≡ replicate kept_size 0 ++ drop kept_size m.work_tallies
        → work_marks ≡ replicate column_size 0 ++ drop column_size m.work_marks
        → Reports l t f (lent_all l.tables l.terms numbers assignment work_tables work_terms work_assignment work_tallies work_marks)
    unfolding reported zeroed
    reporting e a b c d f g k =
        record {
          figures = rw z (figures_is e);
          numbers = rw z (cleared_is a h.within.numbers);
          assignment = rw z (cleared_is b h.within.assignment);
          work_tables = rw z (cleared_is c h.within.work_tables);
          work_terms = rw z (cleared_is d h.within.work_terms);
          work_assignment = rw z (cleared_is f h.within.work_assignment);
          work_tallies = rw z (cleared_is g h.within.work_tallies);
          work_marks = rw z (cleared_is k h.within.work_marks);
        }
