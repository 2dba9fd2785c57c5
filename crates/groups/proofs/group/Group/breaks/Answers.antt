-- `breaks` meets its contract: a rule outside the group holds, none is spoiled, or the group decides.
-- Assumes nothing.
use native.Mathlib.Omega.{arith}
use mathlib.Core.Path.{◌≡◌, sym, ◌∙◌}
use Rattle.recount.proofs.Laid.{parts}
use Rattle.plpb.specs.Lists.{count}
use Rattle.plpb.specs.Plan.{rule_holds}
use Rattle.groups.specs.Group.{bits, clause, rules}
use Rattle.groups.proofs.Stretch.{holding_word, unspoiled, held_outside, held_most, none_held, group_decides}
use Rattle.groups.proofs.Runs.{group_stretch}
use Rattle.groups.proofs.group.Group.breaks.Goals.{else-holding-gt0-via-then-holding-gt0+else-holding-held, else-holding-gt0-via-else-holding-gt0}
use Rattle.groups.proofs.group.Group.breaks.Goals as goal

pub returns-then-not-any_spoils : goal.returns-then-not-any_spoils
returns-then-not-any_spoils c = let g = c.args.self.now in unspoiled (group_stretch g.run.now g.whole) g.whole (sym c.any_spoils.ensures ∙ c.if-not-any_spoils.true)

pub returns-then-self-holding : goal.returns-then-self-holding
returns-then-self-holding c =
    let g = c.args.self.now in
    let s = group_stretch g.run.now g.whole in
    held_outside s g.whole (λ e. omega (arith, c.if-self-holding.true, holding_word s g.whole c.index-holding.ensures, e, held_most s g.whole))

pub returns-then-holding-held : goal.returns-then-holding-held
returns-then-holding-held c =
    let g = c.args.self.now in
    let s = group_stretch g.run.now g.whole in
    held_outside s g.whole (λ e. c.if-holding-held.true (holding_word s g.whole c.index-holding.ensures ∙ e ∙ sym c.held.ensures))

pub returns : goal.returns
returns c =
    let g = c.args.self.now in
    let s = group_stretch g.run.now g.whole in
    let word = holding_word s g.whole c.index-holding.ensures in
    -- All that hold are in the group: they were counted, or there are none.
    let inside : count (rule_holds (bits g)) (clause g) ≡ count (rule_holds (bits g)) (rules g) =
    elim c.else-holding-gt0.branch [
      | else-holding-gt0-via-then-holding-gt0+else-holding-held w ↦ sym word ∙ w.if-holding-held.false ∙ w.held.ensures
      | else-holding-gt0-via-else-holding-gt0 w ↦ none_held s g.whole (omega (arith, word, w.if-holding-gt0.false))
    ] in
    group_decides s g.whole (sym c.any_spoils.ensures ∙ c.if-not-any_spoils.false) inside c.all_fail.ensures

pub any_spoils-requires : goal.any_spoils-requires
any_spoils-requires c = let g = c.args.self.now in (omega (arith, g.whole.first, g.run.now.begins), omega (arith, g.whole.last, g.run.now.ends))

pub overflow_add-self : goal.overflow_add-self
overflow_add-self c = let g = c.args.self.now in omega (arith, g.whole.clause_there, (parts _ _ g.run.now.going.kept.ready.laid).clause_count)

pub index-holding-requires : goal.index-holding-requires
index-holding-requires c = let g = c.args.self.now in omega (arith, g.whole.clause_there, (parts _ _ g.run.now.going.kept.ready.laid).clause_count, g.run.now.footing.now.sized.room)
