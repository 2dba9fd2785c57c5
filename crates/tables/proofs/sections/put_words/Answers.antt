-- The goals that the search leaves.
use mathlib.Core.Path.{◌∙◌}
use Rattle.tables.proofs.Dense.{laying_start, laying_more, laying_end}
use Rattle.tables.proofs.sections.put_words.Goals as goal

pub loop-i-init : goal.loop-i-init
loop-i-init g c = (c.requires.out_len, λ h e. laying_start h _ _)

pub loop-i-preserved : goal.loop-i-preserved
loop-i-preserved g c = (
  c.write_u32.auto.s ∙ c.loop-i.invariant.0,
  λ h e.
      let lays = e c.loop-i.i c.entry-laid.result c.loop-i-test.true c.entry-laid.ensures in
      laying_more h _ _ _ _ (c.loop-i.invariant.1 h e) _ c.loop-i-test.true lays.0 lays.1 c.write_u32.ensures,
)

pub returns : goal.returns
returns g c = λ h e. laying_end h _ _ _ _ (c.loop-i.invariant.1 h e) c.loop-i-test.false
