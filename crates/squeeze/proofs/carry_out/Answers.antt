-- `carry_out` meets its contract: the list, the constant, then the file.
-- Assumes nothing.
use mir.Syntax.{w64}
use native.Mathlib.Omega.{arith}
use Prim.Native.Nat.{ℕ}
use mathlib.Core.Path.{refl, sym, ap, ◌∙◌}
use mir.Facts.{to_z-of_z}
use mathlib.Core.Bool.{Bool}
use lib.ListN.{length-take}
use Rattle.plpb.specs.Lists.{keep, row}
use Rattle.words.specs.Words.{word_at, word_bytes}
use Rattle.format.specs.Tables.{pad_to}
use Rattle.numbering.specs.Numbered.{is_number}
use Rattle.tables.specs.Places.{behind_objective, plan_of_file}
use Rattle.tables.proofs.Found.{begun_file, begun_front}
use Rattle.tables.proofs.Filled.{lawful_file}
use Rattle.squeeze.proofs.Outcomes.{list_whole, list_short}
use Rattle.squeeze.proofs.carry_out.Goals as goal

pub read_size-requires : goal.read_size-requires
unfolding behind_objective
read_size-requires c = omega (arith, begun_front _ _ c.requires.accepts)

pub list_old-requires : goal.list_old-requires
list_old-requires c =
    let variables = c.read_size.ensures ∙ sym (begun_file _ _ c.requires.accepts).variables in (
      omega (arith, variables, (lawful_file _ _ c.requires.accepts).high),
      length-take 2048 c.args.old.now ∙ omega (arith, c.requires.list_len),
    )

pub returns : goal.returns
returns c =
    let new : ℕ → Bool = λ x. is_number (word_at c.args.map.words.now x) in
    let n = (plan_of_file c.args.file.now).variables in
    let variables = c.read_size.ensures ∙ sym (begun_file _ _ c.requires.accepts).variables in
    let listed = c.list_old.ensures ∙ ap (λ k. word_bytes (pad_to 512 (keep new (row 1 k)))) variables in
    record {
      refusal_value =
          (refl, refl, c.rewrite-length.ensures.1, to_z-of_z {w = w64} (record { sfits = c.constant-constant.type_inv }) ∙ c.constant-constant.ensures);
      file_after = c.rewrite-length.ensures.0;
      after = list_whole (keep new (row 1 n)) c.args.old.now _ (list_short new n (lawful_file _ _ c.requires.accepts).high) listed;
    }
