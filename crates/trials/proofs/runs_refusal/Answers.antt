-- `runs_refusal` meets its contract: each test answers what the definition asks next.
-- Assumes nothing.
use native.Mathlib.Omega.{arith}
use mathlib.Core.Path.{ap, ◌∙◌}
use mathlib.Core.Bool.{not}
use Rattle.trials.proofs.Refusing.{outside_told, state_41, runs_42, count_43, room_21, by_search}
use Rattle.trials.proofs.runs_refusal.Goals as goal

pub returns-then-all_zero : goal.returns-then-all_zero
returns-then-all_zero c = state_41 _ _ c.all_zero.ensures c.if-all_zero.true

pub returns-then-not-contains : goal.returns-then-not-contains
returns-then-not-contains c =
    let a = c.new.ensures in
    runs_42 _ _ c.all_zero.ensures c.if-all_zero.false (outside_told _ a.start a.end a.exhausted c.contains.ensures.value) (ap not c.if-not-contains.true)

pub returns-then-not-contains-2 : goal.returns-then-not-contains-2
returns-then-not-contains-2 c =
    let a = c.new.ensures in
    let b = c.new-2.ensures in
    count_43 _ _ c.all_zero.ensures c.if-all_zero.false (outside_told _ a.start a.end a.exhausted c.contains.ensures.value) (ap not c.if-not-contains.false)
    (outside_told _ b.start b.end b.exhausted c.contains-2.ensures.value) (ap not c.if-not-contains-2.true)

pub returns-then-lent-lt-NUMBERS : goal.returns-then-lent-lt-NUMBERS
returns-then-lent-lt-NUMBERS c =
    let a = c.new.ensures in
    let b = c.new-2.ensures in
    room_21 _ _ c.all_zero.ensures c.if-all_zero.false (outside_told _ a.start a.end a.exhausted c.contains.ensures.value) (ap not c.if-not-contains.false)
    (outside_told _ b.start b.end b.exhausted c.contains-2.ensures.value) (ap not c.if-not-contains-2.false) (omega arith)

pub returns : goal.returns
returns c =
    let a = c.new.ensures in
    let b = c.new-2.ensures in
    c.refusal.ensures
    ∙ by_search _ _ c.all_zero.ensures c.if-all_zero.false (outside_told _ a.start a.end a.exhausted c.contains.ensures.value) (ap not c.if-not-contains.false)
    (outside_told _ b.start b.end b.exhausted c.contains-2.ensures.value) (ap not c.if-not-contains-2.false) (omega arith)
