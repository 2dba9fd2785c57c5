-- `rule::fate` meets its contract: mode and bounds by the rule's three sums.
-- Assumes nothing.
use mir.Syntax.{w32}
use Prim.Native.Nat.{◌+◌}
use native.Mathlib.Omega.{arith}
use mathlib.Core.Path.{ap₂, ◌∙◌}
use mathlib.Core.List.{List}
use mir.Facts.{to_z-of_z}
use Rattle.plpb.specs.Plan.{Term}
use Rattle.format.specs.File.{mode_at, lower_at, upper_at}
use Rattle.fates.specs.Maps.{codes}
use Rattle.fates.specs.Sums.{Part, part_total}
use Rattle.fates.specs.declared.map.Map.{Map}
use Rattle.fates.proofs.Judging.{rule_room_lem, byte_at, fated, left_lower, left_upper, left_least, left_greatest}
use Rattle.fates.proofs.rule.fate.Goals as goal

pub less-lower-requires : goal.less-lower-requires
unfolding lower_at
less-lower-requires c =
    let r = c.requires in
    (omega (arith, rule_room_lem r), r.lower, rw (to_z-of_z (record { sfits = c.given-given.type_inv })) c.given-given.ensures.1)

pub less-upper-requires : goal.less-upper-requires
unfolding upper_at
less-upper-requires c =
    let r = c.requires in
    (omega (arith, rule_room_lem r), r.upper, rw (to_z-of_z (record { sfits = c.given-given.type_inv })) c.given-given.ensures.1)

pub returns : goal.returns
unfolding mode_at lower_at upper_at
returns c =
    let s = c.args.file.now in
    let map = c.args.map.words.now in
    let at = c.args.at in
    let modes = byte_at s (at + 3) in
    let taken = λ (p : Part). ap₂ (λ (m : Map) (ts : List Term). part_total p (codes m) ts) c.terms-terms.ensures.0 c.terms-terms.ensures.1 in
    let givens = to_z-of_z {w = w32} (record { sfits = c.given-given.type_inv }) ∙ c.given-given.ensures.0 ∙ taken _ in
    let leasts = to_z-of_z {w = w32} (record { sfits = c.least.type_inv }) ∙ c.least.ensures.0 ∙ taken _ in
    let greatests = to_z-of_z {w = w32} (record { sfits = c.greatest.type_inv }) ∙ c.greatest.ensures.0 ∙ taken _ in
    let lowers = to_z-of_z {w = w32} (record { sfits = c.less-lower.type_inv }) ∙ c.less-lower.ensures in
    let uppers = to_z-of_z {w = w32} (record { sfits = c.less-upper.type_inv }) ∙ c.less-upper.ensures in
    fated _ (c.by_mode-bounds.ensures.0 ∙ left_lower s map at modes givens leasts greatests lowers uppers)
    (c.by_mode-bounds.ensures.1 ∙ left_upper s map at modes givens leasts greatests lowers uppers)
    (left_least s map at modes givens leasts greatests lowers uppers) (left_greatest s map at modes givens leasts greatests lowers uppers) _ c.left.ensures

pub overflow_add-at : goal.overflow_add-at
overflow_add-at c = omega (arith, rule_room_lem c.requires)

pub overflow_add-at-2 : goal.overflow_add-at-2
overflow_add-at-2 c = omega (arith, rule_room_lem c.requires)

pub overflow_add-at-3 : goal.overflow_add-at-3
overflow_add-at-3 c = omega (arith, rule_room_lem c.requires)

pub bounds-file-at : goal.bounds-file-at
bounds-file-at c = omega (arith, rule_room_lem c.requires)
