-- The goals that the search leaves.
use Prim.Native.Nat.{◌-◌}
use native.Mathlib.Omega.{arith}
use mathlib.Core.Path.{sym, ◌∙◌}
use Rattle.format.specs.Tables.{plan_of_tables}
use Rattle.format.proofs.IsLoaded.{is_loaded_lawful}
use Rattle.settings.specs.Settings.{settings_of}
use Rattle.figures.proofs.Adding.{most_more, total_all}
use Rattle.runs.proofs.Repeated.{then, none_left, go_on, stays}
use Rattle.runs.proofs.repeat_runs.Goals as goal

pub loop-run-preserved : goal.loop-run-preserved
loop-run-preserved c =
    let l = c.loop-run in
    let once = c.run_once-ran in
    let s = settings_of c.args.t.settings in
    let p = plan_of_tables c.args.tables.now c.args.terms.now in
    let some = c.loop-run-test.true in
    let lawful = is_loaded_lawful _ _ c.requires.0.searchable.loaded in (
      stays s p c.args.t.count lawful c.requires.2 l.ran once.result l._run once.ensures.sums l.invariant.0,
      go_on s p c.args.t.count l.ran once.result c.args.t.runs l._run some once.ensures.state once.ensures.sums ∙ l.invariant.1,
      then l.invariant.2 once.ensures.within,
    )

pub returns : goal.returns
returns c =
    let l = c.loop-run in
    let s = settings_of c.args.t.settings in
    let p = plan_of_tables c.args.tables.now c.args.terms.now in
    record {
      sums = sym (none_left s p c.args.t.count l.ran.sums l.ran.state (c.args.t.runs - l._run) (omega arith)) ∙ l.invariant.1 ∙ total_all _;
      most = most_more _ 1_000 _ (omega (arith, c.requires.1)) l.invariant.0;
      within = l.invariant.2;
    }
