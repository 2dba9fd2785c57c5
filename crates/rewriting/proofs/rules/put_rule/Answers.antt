-- `rules::put_rule` meets its contract: the terms are written first, then head and bounds before them.
-- Assumes nothing.
use native.Mathlib.Omega.{arith}
use mathlib.Core.Path.{refl, sym, ap, ◌∙◌}
use Prim.Native.Nat.{◌+◌}
use Rattle.format.specs.File.{terms_at}
use Rattle.fates.specs.Codes.{decoded}
use Rattle.fates.proofs.Judging.{rule_room_lem, rule_terms, terms_room}
use Rattle.rewriting.specs.Written.{terms_written}
use Rattle.rewriting.proofs.Rulewise.{rule_laid_as}
use Rattle.rewriting.proofs.rules.put_rule.Goals as goal

pub terms_of-count-requires : goal.terms_of-count-requires
terms_of-count-requires c = let r = c.requires.0 in (omega (arith, rule_room_lem r), omega (arith, r.size))

pub keep_terms-end-requires : goal.keep_terms-end-requires
keep_terms-end-requires c =
    let r = c.requires.0 in
    rw c.terms_of-count.ensures (terms_room r, rw (rule_terms r) at r.small, omega (arith, c.requires.1))

pub returns : goal.returns
returns c =
    let a = c.args in
    let f = decoded a.map.words.now in
    let r = c.requires.0 in
    rule_laid_as a.file.now a.to _ _ _ _ c.mode.ensures c.number.ensures c.number-2.ensures
    (ap (λ k. terms_written f (terms_at a.file.now (a.at + 12) k)) c.terms_of-count.ensures ∙ ap (terms_written f) (sym (rule_terms r)))
    (omega (arith, rule_room_lem r, c.requires.1)) c.keep_terms-end.ensures.0 c.keep_terms-end.ensures.1 refl c.put_bounds.ensures

pub overflow_add-at : goal.overflow_add-at
overflow_add-at c = omega (arith, rule_room_lem c.requires.0)

pub overflow_add-to : goal.overflow_add-to
overflow_add-to c = omega (arith, rule_room_lem c.requires.0, c.requires.1)

pub put_bounds-requires : goal.put_bounds-requires
put_bounds-requires c = omega (arith, rule_room_lem c.requires.0, c.requires.1)
