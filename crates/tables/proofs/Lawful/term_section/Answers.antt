-- The goals that the search leaves.
use native.Mathlib.Omega.{arith}
use Prim.Native.Nat.{◌+◌, ◌-◌}
use mathlib.Core.Path.{refl, sym, ap, ◌∙◌}
use mathlib.Core.List.{List}
use lib.ListN.{length}
use borrow.Rule.Slice.PartMut.{mid_of}
use Rattle.plpb.specs.Plan.{Term}
use Rattle.words.specs.Words.{word_bytes}
use Rattle.words.specs.Writes.{front}
use Rattle.format.specs.Tables.{term_entries}
use Rattle.bodies.proofs.Tags.{tag_byte}
use Rattle.tables.proofs.Entered.{here_room, rule_part}
use Rattle.tables.proofs.Found.{begun_file, begun_front, begun_room, rules_room, behind_room, rules_on}
use Rattle.tables.proofs.Filled.{lawful_file, term_start, term_space, term_here_lem, term_file, term_more_space, term_part, term_more, term_end_lem}
use Rattle.tables.proofs.Lawful.term_section.Goals as goal

pub loop-at-init : goal.loop-at-init
loop-at-init c =
    term_start _ _ _ _ (lawful_file _ _ c.args.self.accepts) c.requires.terms_len (begun_file _ _ c.args.self.accepts) c.first_rule-at.ensures

pub terms_of-count-requires : goal.terms_of-count-requires
terms_of-count-requires c = let h = term_here_lem c.loop-at.invariant c.loop-at-test.true in (here_room _ _ h, omega (arith, h.size))

pub overflow_mul-behind : goal.overflow_mul-behind
overflow_mul-behind c = omega (arith, c.terms_of-count.ensures, term_file c.loop-at.invariant c.loop-at-test.true)

pub overflow_add-behind-in-loop-at : goal.overflow_add-behind-in-loop-at
overflow_add-behind-in-loop-at c = omega (arith, c.terms_of-count.ensures, term_file c.loop-at.invariant c.loop-at-test.true)

pub slice_bounds-put_terms-end : goal.slice_bounds-put_terms-end
slice_bounds-put_terms-end c = omega (arith, c.terms_of-count.ensures, term_file c.loop-at.invariant c.loop-at-test.true)

pub slice_bounds-put_terms-count-in-loop-at : goal.slice_bounds-put_terms-count-in-loop-at
slice_bounds-put_terms-count-in-loop-at c = term_space c.loop-at.invariant

pub slice_bounds-put_terms-start-in-loop-at : goal.slice_bounds-put_terms-start-in-loop-at
slice_bounds-put_terms-start-in-loop-at c = term_space c.loop-at.invariant

pub put_terms-requires : goal.put_terms-requires
put_terms-requires c =
    let room = term_file c.loop-at.invariant c.loop-at-test.true in
    let part = rule_part c.args.self.file.now (c.loop-at.at + 12) c.terms_of-count.result refl (omega (arith, c.terms_of-count.ensures, room)) in
    omega (arith, part.0, c.terms_of-count.ensures, term_part c.loop-at.invariant c.loop-at-test.true)

pub overflow_add-end : goal.overflow_add-end
overflow_add-end c =
    omega (arith, c.terms_of-count.ensures, term_more_space c.loop-at.invariant c.loop-at-test.true)

pub next_rule-at-requires : goal.next_rule-at-requires
next_rule-at-requires c =
    behind_room c.loop-at.invariant.left (sym (tag_byte _ _) ∙ c.loop-at-test.true)

pub loop-at-smaller : goal.loop-at-smaller
loop-at-smaller c =
    omega (arith, c.next_rule-at.ensures, rules_on c.loop-at.invariant.left, rules_room c.loop-at.invariant.left)

pub loop-at-preserved : goal.loop-at-preserved
loop-at-preserved c =
    let room = term_file c.loop-at.invariant c.loop-at-test.true in
    let part = rule_part c.args.self.file.now (c.loop-at.at + 12) c.terms_of-count.result refl (omega (arith, c.terms_of-count.ensures, room)) in
    term_more c.loop-at.invariant c.loop-at-test.true _ _ _ c.next_rule-at.ensures c.terms_of-count.ensures
    (c.put_terms.ensures ∙ ap (λ (ts : List Term). front (word_bytes (term_entries ts)) (mid_of c.loop-at.end (length c.loop-at.terms - c.loop-at.end) c.loop-at.terms)) part.1)

pub slice_bounds-clear-count : goal.slice_bounds-clear-count
slice_bounds-clear-count c = term_space c.loop-at.invariant

pub slice_bounds-clear-start : goal.slice_bounds-clear-start
slice_bounds-clear-start c = term_space c.loop-at.invariant

pub returns : goal.returns
returns c =
    term_end_lem c.loop-at.invariant c.loop-at-test.false _ c.clear.ensures

pub first_rule-at-requires : goal.first_rule-at-requires
first_rule-at-requires c = (begun_front _ _ c.args.self.accepts, begun_room _ _ c.args.self.accepts)

pub bounds-file-at : goal.bounds-file-at
bounds-file-at c = omega (arith, rules_room c.loop-at.invariant.left)
