-- `tables::entries::put_rule` meets its contract: lawful bounds are written as they stand in the file.
-- Assumes nothing.
use native.Mathlib.Omega.{arith}
use mathlib.Core.Path.{ap, ◌∙◌}
use mathlib.Core.List.{List}
use Prim.Native.Nat.{ℕ}
use Rattle.words.specs.Words.{word_bytes}
use Rattle.words.specs.Writes.{front}
use Rattle.tables.proofs.Entered.{size_small, here_room, here_body, rule_words_lem}
use Rattle.tables.proofs.entries.put_rule.Goals as goal

pub terms_of-requires : goal.terms_of-requires
terms_of-requires c = (here_room _ _ c.requires.rule_here, omega (arith, c.requires.rule_here.size))

pub narrow-terms-requires : goal.narrow-terms-requires
narrow-terms-requires c =
    omega (
      arith,
      c.terms_of.ensures,
      size_small c.args.file.now c.args.at (λ i. (c.shared_slice_known-1.given i).fits),
    )

pub overflow_add-at : goal.overflow_add-at
overflow_add-at c = omega (arith, here_body _ _ c.requires.rule_here)

pub bounds-file-at : goal.bounds-file-at
bounds-file-at c = omega (arith, here_body _ _ c.requires.rule_here)

pub overflow_add-at-2 : goal.overflow_add-at-2
overflow_add-at-2 c = omega (arith, here_body _ _ c.requires.rule_here)

pub read_u32-lower-requires : goal.read_u32-lower-requires
read_u32-lower-requires c = omega (arith, here_body _ _ c.requires.rule_here)

pub overflow_add-at-3 : goal.overflow_add-at-3
overflow_add-at-3 c = omega (arith, here_body _ _ c.requires.rule_here)

pub read_u32-upper-requires : goal.read_u32-upper-requires
read_u32-upper-requires c = omega (arith, here_body _ _ c.requires.rule_here)

pub returns : goal.returns
returns c =
    c.put5.ensures
    ∙ ap (λ (ws : List ℕ). front (word_bytes ws) c.args.out.now)
    (rule_words_lem _ _ c.requires.rule_here _ c.narrow.ensures (c.narrow-terms.ensures ∙ c.terms_of.ensures)
    c.from-mode.ensures c.read_u32-lower.ensures c.read_u32-lower.type_inv c.read_u32-upper.ensures c.read_u32-upper.type_inv)
