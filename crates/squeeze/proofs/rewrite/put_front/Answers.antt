-- `rewrite::put_front` meets its contract: each field is written before the one behind it.
-- Assumes nothing.
use native.Mathlib.Omega.{arith}
use Prim.Native.Nat.{◌+◌, ◌/◌}
use mathlib.Core.Path.{◌≡◌, refl, ap, ◌∙◌}
use lib.ListN.{length}
use Rattle.words.specs.Writes.{put}
use Rattle.words.proofs.Words.{Below}
use Rattle.format.specs.File.{length_at, terms_at}
use Rattle.tables.specs.Places.{behind_objective, plan_of_file}
use Rattle.tables.proofs.Found.{begun_front}
use Rattle.fates.specs.Codes.{decoded}
use Rattle.rewriting.specs.Written.{terms_written}
use Rattle.squeeze.specs.Rewritten.{front_bytes}
use Rattle.squeeze.proofs.Opening.{objective_is, objective_small}
use Rattle.squeeze.proofs.Wholly.{front_laid}
use Rattle.squeeze.proofs.rewrite.put_front.Goals.{After-keep_terms-arg-1, After-slice_known-5-1}
use Rattle.squeeze.proofs.rewrite.put_front.Goals as goal

-- The objective's field, as it is read.
module _ (c : After-keep_terms-arg-1) where
  bytes_2 : Below 256 c.args.file.now
  bytes_2 i = (c.slice_known-1.given i).fits

  count_is_2 : c.read_size-count.result / 6 ≡ length_at c.args.file.now 5 / 6
  unfolding length_at
  count_is_2 = ap (λ k. k / 6) c.read_size-count.ensures

-- The objective's field, as it is read.
module _ (c : After-slice_known-5-1) where
  bytes_4 : Below 256 c.args.file.now
  bytes_4 i = (c.slice_known-1.given i).fits

  count_is_4 : c.read_size-count.result / 6 ≡ length_at c.args.file.now 5 / 6
  unfolding length_at
  count_is_4 = ap (λ k. k / 6) c.read_size-count.ensures

pub read_size-count-requires : goal.read_size-count-requires
unfolding behind_objective
read_size-count-requires c = omega (arith, begun_front _ _ c.requires.accepts)

pub keep_terms-end-requires : goal.keep_terms-end-requires
unfolding behind_objective
keep_terms-end-requires c = (
  omega (arith, begun_front _ _ c.requires.accepts, count_is_2 c),
  rw (count_is_2 c) (objective_small _ _ (bytes_2 c) c.requires.accepts),
  omega arith,
)

pub returns : goal.returns
unfolding front_bytes behind_objective
returns c =
    let s = c.args.file.now in
    let f = decoded c.args.map.words.now in
    let is = ap (λ k. terms_written f (terms_at s 8 k)) (count_is_4 c) ∙ ap (terms_written f) (objective_is s (plan_of_file s) (bytes_4 c) c.requires.accepts) in
    front_laid s c.args.variables (terms_written f (plan_of_file s).objective) (omega (arith, begun_front _ _ c.requires.accepts))
    (c.keep_terms-end.ensures.0 ∙ ap (λ ts. put 8 ts s) is) (c.keep_terms-end.ensures.1 ∙ ap (λ ts. 8 + length ts) is) refl
    c.put_head.ensures c.write_u16.ensures c.put_head-2.ensures

pub put_head-requires : goal.put_head-requires
unfolding behind_objective
put_head-requires c = omega (arith, c.keep_terms-end.auto.file, begun_front _ _ c.requires.accepts)

pub write_u16-requires : goal.write_u16-requires
unfolding behind_objective
write_u16-requires c = omega (arith, c.put_head.auto.s, c.keep_terms-end.auto.file, begun_front _ _ c.requires.accepts)

pub put_head-requires-2 : goal.put_head-requires-2
unfolding behind_objective
put_head-requires-2 c =
    omega (arith, c.write_u16.auto.s, c.put_head.auto.s, c.keep_terms-end.auto.file, begun_front _ _ c.requires.accepts)
