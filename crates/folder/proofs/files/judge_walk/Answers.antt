-- `folder::files::judge_walk` meets its contract: the field's faults, bytes after it, then the settings.
-- Assumes nothing.
use native.Mathlib.Omega.{arith}
use Prim.Native.Nat.{◌-◌}
use mathlib.Core.Path.{◌≡◌, ap, ◌∙◌}
use lib.ListN.{length}
use Rattle.words.specs.Words.{num_at}
use Rattle.folder.specs.Files.{if_long}
use Rattle.std.proofs.lemmas.Result.{err_from_is_err_and}
use Rattle.folder.proofs.Judging.{sized, read_fault, read_more, read_settings}
use Rattle.folder.proofs.files.judge_walk.Goals as goal

pub returns-in_err-size : goal.returns-in_err-size
returns-in_err-size c =
    let p = err_from_is_err_and c.from_residual.result c.from_residual.ensures.1 in
    let e = c.in_err-size.ensures in
    rw (p.1, p.2) (read_fault _ c.in_err-size.field-0.0 e.0 e.1 e.2)

pub overflow_add-size : goal.overflow_add-size
overflow_add-size c = omega (arith, (sized _ c.in_ok-size.ensures.0 _ c.in_ok-size.ensures.1).1)

pub returns-then-size-file : goal.returns-then-size-file
returns-then-size-file c = read_more _ c.in_ok-size.ensures.0 _ c.in_ok-size.ensures.1 c.if-size-file.true

pub read_u16-requires : goal.read_u16-requires
read_u16-requires c = let r = sized _ c.in_ok-size.ensures.0 _ c.in_ok-size.ensures.1 in omega (arith, r.0, r.2)

pub read_u16-requires-2 : goal.read_u16-requires-2
read_u16-requires-2 c = let r = sized _ c.in_ok-size.ensures.0 _ c.in_ok-size.ensures.1 in omega (arith, r.0, r.2)

pub read_u32-requires : goal.read_u32-requires
read_u32-requires c = let r = sized _ c.in_ok-size.ensures.0 _ c.in_ok-size.ensures.1 in omega (arith, r.0, r.2)

pub bounds-file-11 : goal.bounds-file-11
bounds-file-11 c = let r = sized _ c.in_ok-size.ensures.0 _ c.in_ok-size.ensures.1 in omega (arith, r.0, r.2)

pub returns : goal.returns
returns c =
    let size : length c.args.file.now - 3 ≡ c.in_ok-size.size =
    let r = sized _ c.in_ok-size.ensures.0 _ c.in_ok-size.ensures.1 in omega (arith, r.2, c.if-size-file.false) in
    c.judge_settings.ensures
    ∙ read_settings _ c.in_ok-size.ensures.0 _ c.in_ok-size.ensures.1 c.if-size-file.false
    c.read_u16.ensures c.read_u16-2.ensures c.read_u32.ensures c.from.ensures
    (c.choice_in-heuristic.ensures.heuristic ∙ ap (λ n. if_long n (num_at 1 c.args.file.now 12)) size)
    (c.choice_in-heuristic.ensures.chance ∙ ap (λ n. if_long n (num_at 2 c.args.file.now 13)) size)
