-- The goals that the search leaves.
use native.Mathlib.Omega.{arith}
use mathlib.Core.Path.{sym, ◌∙◌}
use Rattle.bodies.proofs.Tags.{tag_byte}
use Rattle.tables.proofs.Entered.{here_room}
use Rattle.tables.proofs.Found.{begun_file, begun_front, begun_room, rules_room, behind_room, rules_on}
use Rattle.tables.proofs.Filled.{lawful_file, rule_start, rule_few, rule_space, rule_first, rule_here, rule_part, rule_more_terms, rule_more, rule_count_lem, rule_terms, rule_end}
use Rattle.tables.proofs.Lawful.rule_section.Goals as goal

pub loop-at-init : goal.loop-at-init
loop-at-init c =
    rule_start _ _ _ _ (lawful_file _ _ c.args.self.accepts) c.requires.out_len (begun_file _ _ c.args.self.accepts) c.first_rule-at.ensures

pub overflow_mul-place : goal.overflow_mul-place
overflow_mul-place c = omega (arith, rule_few c.loop-at.invariant)

pub slice_bounds-put_rule-count : goal.slice_bounds-put_rule-count
slice_bounds-put_rule-count c = rule_space c.loop-at.invariant

pub slice_bounds-put_rule-start : goal.slice_bounds-put_rule-start
slice_bounds-put_rule-start c = rule_space c.loop-at.invariant

pub put_rule-requires : goal.put_rule-requires
put_rule-requires c = record { rule_here = rule_here c.loop-at.invariant c.loop-at-test.true; in_bounds = (rule_part c.loop-at.invariant c.loop-at-test.true, omega (arith, rule_first c.loop-at.invariant)) }

pub terms_of-first-requires : goal.terms_of-first-requires
terms_of-first-requires c =
    let h = rule_here c.loop-at.invariant c.loop-at-test.true in
    (here_room _ _ h, omega (arith, h.size))

pub overflow_add-first : goal.overflow_add-first
overflow_add-first c =
    omega (arith, c.terms_of-first.ensures, rule_more_terms c.loop-at.invariant c.loop-at-test.true)

pub overflow_add-rules : goal.overflow_add-rules
overflow_add-rules c = omega (arith, rule_few c.loop-at.invariant)

pub next_rule-at-requires : goal.next_rule-at-requires
next_rule-at-requires c =
    behind_room c.loop-at.invariant.left (sym (tag_byte _ _) ∙ c.loop-at-test.true)

pub loop-at-smaller : goal.loop-at-smaller
loop-at-smaller c =
    omega (arith, c.next_rule-at.ensures, rules_on c.loop-at.invariant.left, rules_room c.loop-at.invariant.left)

pub loop-at-preserved : goal.loop-at-preserved
loop-at-preserved c =
    rule_more c.loop-at.invariant c.loop-at-test.true _ _ _ c.next_rule-at.ensures c.terms_of-first.ensures c.put_rule.ensures

pub overflow_mul-end : goal.overflow_mul-end
overflow_mul-end c = omega (arith, rule_few c.loop-at.invariant)

pub slice_bounds-clear-count : goal.slice_bounds-clear-count
slice_bounds-clear-count c = rule_space c.loop-at.invariant

pub slice_bounds-clear-start : goal.slice_bounds-clear-start
slice_bounds-clear-start c = rule_space c.loop-at.invariant

pub returns : goal.returns
returns c = (
  rule_count_lem c.loop-at.invariant c.loop-at-test.false,
  rule_terms c.loop-at.invariant c.loop-at-test.false,
  rule_end c.loop-at.invariant c.loop-at-test.false _ c.clear.ensures,
)

pub first_rule-at-requires : goal.first_rule-at-requires
first_rule-at-requires c = (begun_front _ _ c.args.self.accepts, begun_room _ _ c.args.self.accepts)

pub bounds-file-at : goal.bounds-file-at
bounds-file-at c = omega (arith, rules_room c.loop-at.invariant.left)
