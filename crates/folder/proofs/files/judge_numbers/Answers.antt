-- `folder::files::judge_numbers` meets its contract, by its two answers.
-- Assumes nothing.
use native.Mathlib.Omega.{arith}
use mathlib.Core.Path.{refl}
use borrow.Author.Tests.{eq-eqb, ne_eqb}
use Rattle.format.specs.File.{refuse}
use Rattle.folder.specs.Files.{numbers_refusal}
use Rattle.folder.proofs.files.judge_numbers.Goals as goal

pub returns-then-file-eq0 : goal.returns-then-file-eq0
unfolding numbers_refusal refuse
returns-then-file-eq0 c = rw (eq-eqb _ _ c.if-file-eq0.true)

pub returns-else-file-eq0 : goal.returns-else-file-eq0
unfolding numbers_refusal refuse
returns-else-file-eq0 c = (rw (ne_eqb _ _ c.if-file-eq0.false), refl, omega arith)
