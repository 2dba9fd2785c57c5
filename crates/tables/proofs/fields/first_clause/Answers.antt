-- `tables::fields::first_clause` meets its contract: a field of locks is passed over.
-- Assumes nothing.
use Prim.Native.Nat.{ℕ, ◌≤◌}
use mathlib.Core.Path.{sym, ap, ◌∙◌, subst}
use lib.ListN.{length}
use Rattle.tables.specs.Places.{past_locks}
use Rattle.tables.proofs.Found.{past_field, past_none}
use Rattle.tables.proofs.fields.first_clause.Goals as goal

pub after-requires : goal.after-requires
after-requires c =
    subst (λ (n : ℕ). n ≤ length c.args.file.now) (sym (past_field _ _ c.if-file-at.true ∙ ap (past_locks _) c.behind_objective-at.ensures)) c.requires.1

pub returns-then-file-at : goal.returns-then-file-at
returns-then-file-at c = c.after.ensures ∙ past_field _ _ c.if-file-at.true ∙ ap (past_locks _) c.behind_objective-at.ensures

pub returns-else-file-at : goal.returns-else-file-at
returns-else-file-at c = past_none _ _ c.if-file-at.false ∙ ap (past_locks _) c.behind_objective-at.ensures
