-- `settings_refusal` meets its contract: each test answers what the definition asks next.
-- Assumes nothing.
use native.Mathlib.Omega.{arith}
use mathlib.Core.Path.{◌∙◌}
use Rattle.settings.proofs.Refusing.{noise_11, tries_12, flips_13, mode_14, by_choice, told}
use Rattle.settings.proofs.settings_refusal.Goals as goal

pub returns-then-s-gt1000 : goal.returns-then-s-gt1000
returns-then-s-gt1000 c = noise_11 _ (omega arith)

pub returns-then-not-contains : goal.returns-then-not-contains
returns-then-not-contains c =
    let a = c.new.ensures in
    tries_12 _ (omega arith) (told _ a.start a.end a.exhausted c.contains.ensures.value c.if-not-contains.true)

pub returns-then-not-contains-2 : goal.returns-then-not-contains-2
returns-then-not-contains-2 c =
    let a = c.new.ensures in
    let b = c.new-2.ensures in
    flips_13 _ (omega arith) (told _ a.start a.end a.exhausted c.contains.ensures.value c.if-not-contains.false)
    (told _ b.start b.end b.exhausted c.contains-2.ensures.value c.if-not-contains-2.true)

pub returns-then-s-gt1 : goal.returns-then-s-gt1
returns-then-s-gt1 c =
    let a = c.new.ensures in
    let b = c.new-2.ensures in
    mode_14 _ (omega arith) (told _ a.start a.end a.exhausted c.contains.ensures.value c.if-not-contains.false)
    (told _ b.start b.end b.exhausted c.contains-2.ensures.value c.if-not-contains-2.false) (omega arith)

pub returns : goal.returns
returns c =
    let a = c.new.ensures in
    let b = c.new-2.ensures in
    c.choice_refusal.ensures
    ∙ by_choice _ (omega arith) (told _ a.start a.end a.exhausted c.contains.ensures.value c.if-not-contains.false)
    (told _ b.start b.end b.exhausted c.contains-2.ensures.value c.if-not-contains-2.false) (omega arith)
