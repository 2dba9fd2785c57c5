-- `division::divide` meets its contract: the tests that led to each answer.
-- Assumes nothing.
use borrow.Author.Rules.{rules}
use mathlib.Core.Path.{◌≡◌, refl, sym, ap, ◌∙◌}
use Rattle.std.specs.Prelude.{Ok}
use native.Mathlib.Omega.{arith}
use lib.ListN.{length}
use Rattle.division.proofs.Laws.{good_sum, good_some, told, counted, few_races}
use Rattle.division.specs.Eight.{divided}
use Rattle.division.proofs.divide.Goals as goal

pub returns-then-not-contains : goal.returns-then-not-contains
unfolding divided
returns-then-not-contains c =
    let r = c.new.ensures in
    rw (counted c.args.s.count _ _, sym (told _ r.start r.end r.exhausted c.contains.ensures.value) ∙ c.if-not-contains.true) refl

pub returns-then-any_bad : goal.returns-then-any_bad
unfolding divided
returns-then-any_bad c =
    let r = c.new.ensures in
    rw (counted c.args.s.count _ _, sym (told _ r.start r.end r.exhausted c.contains.ensures.value) ∙ c.if-not-contains.false, sym c.any_bad.ensures ∙ c.if-any_bad.true) refl

pub parts-requires : goal.parts-requires
parts-requires c =
    let s = c.args.s in
    let n : length s.stakes ≡ 8 = search rules in
    let e = sym c.any_bad.ensures ∙ c.if-any_bad.false in
    let r = c.new.ensures in
    let k = few_races s.count (sym (told _ r.start r.end r.exhausted c.contains.ensures.value) ∙ c.if-not-contains.false) in (
      good_some s.count s.stakes k.0 (omega (arith, n)) e,
      omega (arith, n, good_sum s.count 0 s.stakes e),
    )

pub returns : goal.returns
unfolding divided
returns c =
    let r = c.new.ensures in
    rw (counted c.args.s.count _ _, sym (told _ r.start r.end r.exhausted c.contains.ensures.value) ∙ c.if-not-contains.false, sym c.any_bad.ensures ∙ c.if-any_bad.false) (ap Ok c.parts.ensures)
