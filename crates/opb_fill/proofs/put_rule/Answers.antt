-- `opb_fill::put_rule` meets its contract.
-- Assumes nothing.
use Prim.Native.Nat.{ℕ, ◌+◌}
use mathlib.Core.Bool.{cond}
use mathlib.Core.Path.{◌≡◌, ap, ◌∙◌}
use denote.Enum.Declared.{tag_of}
use Rattle.std.proofs.lemmas.Option.{MatchOption-at_some}
use Rattle.words.specs.Words.{word_bytes}
use Rattle.words.specs.Writes.{front}
use Rattle.format.specs.declared.Mode.{Mode}
use Rattle.format.specs.contracts.Mode.{the_type}
use Rattle.tokens.proofs.Runs.{read_behind}
use Rattle.statements.specs.Grammar.{is_exact}
use Rattle.opb_fill.proofs.Filled.{bound_word, rule_entry_lem}
use Rattle.opb_fill.proofs.put_rule.Goals as goal
use Rattle.opb_fill.proofs.put_rule.Goals.{then-relation, else-relation}

-- The number of a mode that stands beside a word.
abbrev number : Mode × ℕ → ℕ
number p = tag_of the_type p.0 + 1

pub returns : goal.returns
returns c =
    let t = c.args.t in
    let sum = (MatchOption-at_some _ _ _ c.unwrap-sum.ensures c.sum_at.ensures).1 in
    let r = (MatchOption-at_some _ _ _ c.unwrap-relation.ensures c.relation_at.ensures).1 in
    let exact = c.unwrap-relation.result.exact in
    let bound = bound_word t.bytes.now t.at sum.rest _ r c.requires.0.bound c.signed_word-bound.ensures in
    let mode : number c.if-relation.mode ≡ cond exact 3 1 =
    elim c.if-relation.branch [ then-relation w ↦ rw w.if-relation.true (ap number w.mode-is) | else-relation w ↦ rw w.if-relation.false (ap number w.mode-is) ] in
    let upper : c.if-relation.mode.1 ≡ cond exact c.signed_word-bound.result 0 =
    elim c.if-relation.branch [ then-relation w ↦ rw w.if-relation.true (ap (λ (p : Mode × ℕ). p.1) w.mode-is) | else-relation w ↦ rw w.if-relation.false (ap (λ (p : Mode × ℕ). p.1) w.mode-is) ] in (
      sum.count,
      c.put5.ensures
          ∙ ap (λ ws. front (word_bytes ws) c.args.out.now)
          (rule_entry_lem t.bytes.now t.at c.args.first _ (r.exact ∙ read_behind sum.rest is_exact) c.narrow.ensures (c.narrow-2.ensures ∙ sum.count) mode bound upper),
    )
