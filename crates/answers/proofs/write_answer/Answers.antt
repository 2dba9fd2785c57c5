-- `answers::write_answer` meets its contract: the second line is written behind the first, which is short enough to leave it room.
-- Assumes nothing.
use native.Mathlib.Omega.{arith}
use mathlib.Core.Path.{◌≡◌, refl, ap, ◌∙◌}
use lib.ListN.{length}
use lib.Seq.{length-take-le}
use Rattle.std.specs.Option.{option_copied}
use Rattle.lines.specs.Text.{assignment_line, bits_line}
use Rattle.words.proofs.Writes.{lent_long}
use Rattle.answers.proofs.Lines.{first_short, second_short, bits_short, bits_told, both_written}
use Rattle.answers.proofs.write_answer.Goals as goal

pub slice_bounds-assignment_line-count : goal.slice_bounds-assignment_line-count
slice_bounds-assignment_line-count c =
    let q = c.struct_told-1.given in
    let s = first_short c.args.r.ending c.args.r.cost c.args.r.finds c.args.r.flips c.args.r.used
    (record { sfits = q.1.1.0.1 }) q.1.1.1.0.1 q.1.1.1.1.0.1 q.1.1.1.1.1.0.1 c.args.out.now c.result_line-first.ensures in
    omega (arith, s, c.result_line-first.auto.out, c.requires.3)

pub slice_bounds-assignment_line-start : goal.slice_bounds-assignment_line-start
slice_bounds-assignment_line-start c =
    let q = c.struct_told-1.given in
    let s = first_short c.args.r.ending c.args.r.cost c.args.r.finds c.args.r.flips c.args.r.used
    (record { sfits = q.1.1.0.1 }) q.1.1.1.0.1 q.1.1.1.1.0.1 q.1.1.1.1.1.0.1 c.args.out.now c.result_line-first.ensures in
    omega (arith, s, c.result_line-first.auto.out, c.requires.3)

pub assignment_line-second-requires : goal.assignment_line-second-requires
assignment_line-second-requires c =
    let q = c.struct_told-1.given in
    let s = first_short c.args.r.ending c.args.r.cost c.args.r.finds c.args.r.flips c.args.r.used
    (record { sfits = q.1.1.0.1 }) q.1.1.1.0.1 q.1.1.1.1.0.1 q.1.1.1.1.1.0.1 c.args.out.now c.result_line-first.ensures in
    let i = c.index-n.ensures in (
      omega (arith, s, c.result_line-first.auto.out, c.requires.3, lent_long c.result_line-first.result c.result_line-first.new.out),
      rw c.then_some-bits.ensures (bits_short _ _ (omega (arith, length-take-le c.index-n.result c.args.assignment.now (omega (arith, i, c.requires.2)), i, c.requires.1))),
    )

pub overflow_add-result : goal.overflow_add-result
overflow_add-result c =
    let q = c.struct_told-1.given in
    let s = first_short c.args.r.ending c.args.r.cost c.args.r.finds c.args.r.flips c.args.r.used
    (record { sfits = q.1.1.0.1 }) q.1.1.1.0.1 q.1.1.1.1.0.1 q.1.1.1.1.1.0.1 c.args.out.now c.result_line-first.ensures in
    let i = c.index-n.ensures in
    let told : bits_line (option_copied c.then_some-bits.result) ≡ assignment_line c.is_found.result c.index-n.result c.args.assignment.now =
    rw c.then_some-bits.ensures (bits_told c.is_found.result _ c.index-n.result c.args.assignment.now refl) in
    let k = c.assignment_line-second.ensures.1 ∙ ap length told in
    let short = second_short c.is_found.result c.index-n.result c.args.assignment.now (omega (arith, i, c.requires.2)) in
    record { fits = omega (arith, s, k, short, i, c.requires.1) }

pub returns : goal.returns
returns c =
    let q = c.struct_told-1.given in
    let s = first_short c.args.r.ending c.args.r.cost c.args.r.finds c.args.r.flips c.args.r.used
    (record { sfits = q.1.1.0.1 }) q.1.1.1.0.1 q.1.1.1.1.0.1 q.1.1.1.1.1.0.1 c.args.out.now c.result_line-first.ensures in
    let told : bits_line (option_copied c.then_some-bits.result) ≡ assignment_line c.is_found.result c.index-n.result c.args.assignment.now =
    rw c.then_some-bits.ensures (bits_told c.is_found.result _ c.index-n.result c.args.assignment.now refl) in
    both_written c.args.r.ending c.args.r.cost c.args.r.finds c.args.r.flips c.args.r.used
    (record { sfits = q.1.1.0.1 }) q.1.1.1.0.1 q.1.1.1.1.0.1 q.1.1.1.1.1.0.1 c.args.out.now c.result_line-first.ensures
    c.args.tables.now c.args.assignment.now c.is_found.ensures c.index-n.ensures (omega (arith, s, c.result_line-first.auto.out, c.requires.3)) (rw told at c.assignment_line-second.ensures)
