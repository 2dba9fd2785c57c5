-- With no refusal all that the runs need is there; with one nothing has changed.
-- Assumes nothing.
use Prim.Native.Nat.{ℕ, zero, suc, ◌≤◌}
use mathlib.Core.Path.{◌≡◌, refl, sym}
use lib.Dec.{eqb-suc-zero}
use borrow.Author.Tests.{ltb-false}
use Rattle.format.proofs.Fields.{unrefused}
use Rattle.lending.specs.Lent.{Lent}
use Rattle.search.proofs.Refusing.{accepted}
use Rattle.figures.specs.declared.Figures.{Figures}
use Rattle.figures.specs.Figures.{refused_with}
use Rattle.runs.specs.Repeating.{Ready}
use Rattle.trials.specs.declared.Trial.{Trial}
use Rattle.trials.specs.Trials.{runs_refusal}
use Rattle.trials.proofs.Refusing.{inside}
use Rattle.reports.specs.Calls.{reported, zeroed, Reports}

-- ---- none fails

pub record Passed (l : Lent) (t : Trial) : Type 0 where
  pub ready : Ready l
  pub some : 1 ≤ t.runs
  pub few : t.runs ≤ 1_000
  pub short : t.count ≤ 16_384

pub passed : (l : Lent) (t : Trial) → runs_refusal l t ≡ 0 → Passed l t
unfolding runs_refusal
passed l t e =
    let a = unrefused _ 40 _ e in
    let b = unrefused _ 41 _ a.1 in
    let c = unrefused _ 42 _ b.1 in
    let d = unrefused _ 20 _ c.1 in
    let runs = inside 1_000 t.runs b.0 in
    record {
      ready = record { searchable = accepted l t.settings d.1; numbers = ltb-false _ _ d.0 };
      some = runs.0;
      few = runs.1;
      short = (inside 16_384 t.count c.0).1;
    }

-- ---- one fails

pub refusing : (l : Lent) (t : Trial) (n : ℕ) {r : Figures} → n ≡ runs_refusal l t → (n ≡ 0 → ⊥) → r ≡ refused_with n → Reports l t r l
unfolding reported zeroed
refusing l t zero e n f = absurd (n refl)
refusing l t (suc m) e n f =
    record {
      figures = rw (sym e, eqb-suc-zero m) f;
      numbers = rw (sym e, eqb-suc-zero m);
      assignment = rw (sym e, eqb-suc-zero m);
      work_tables = rw (sym e, eqb-suc-zero m);
      work_terms = rw (sym e, eqb-suc-zero m);
      work_assignment = rw (sym e, eqb-suc-zero m);
      work_tallies = rw (sym e, eqb-suc-zero m);
      work_marks = rw (sym e, eqb-suc-zero m);
    }
