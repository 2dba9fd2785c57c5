-- Where a clause's first rule has its first term: as many terms stand before it.
-- Assumes nothing.
use Prim.Native.Nat.{ℕ, suc, ◌<◌}
use native.Mathlib.Omega.{arith}
use mathlib.Core.Path.{◌≡◌, ap, ◌∙◌}
use mathlib.Core.List.{List, []}
use lib.ListN.{length, get_or}
use Rattle.plpb.specs.Plan.{Plan}
use Rattle.plpb.specs.Tallies.{rules_of}
use Rattle.plpb.proofs.Lists.{all_at}
use Rattle.words.specs.Words.{word_at}
use Rattle.order.specs.Order.{first_rule}
use Rattle.order.proofs.Runs.{first_next, first_within}
use Rattle.format.specs.Tables.{plan_of_tables}
use Rattle.format.specs.Layout.{clause_first_at, rule_first_at, rule_room, clause_room}
use Rattle.format.proofs.Bools as bools
use Rattle.format.proofs.Lawful.{clause_lawful, clause_some}
use Rattle.format.proofs.Placed.{clause_first, rule_first}
use Rattle.recount.specs.Core.{Laid}
use Rattle.recount.proofs.Laid.{parts, sections}
use Rattle.columns.specs.Columns.{terms_ahead}

module _ {tables terms : List ℕ} (l : Laid tables terms) {c : ℕ} (h : c < length (plan_of_tables tables terms).clauses) where
  abbrev p : Plan
  p = plan_of_tables tables terms

  pub clause_low : c < clause_room
  clause_low = omega (arith, (parts tables terms l).clause_count)

  first_few : first_rule p.clauses c < length (rules_of p)
  unfolding rules_of
  first_few =
      let some : 0 < length (get_or p.clauses c []) = clause_some p.variables (get_or p.clauses c []) (bools.T_true _ (all_at (clause_lawful p.variables) p.clauses c [] (bools.true_T _ (parts tables terms l).clauses) h)) in
      omega (arith, first_next p.clauses c h, first_within p.clauses (suc c))

  pub first_word : {r : ℕ} → r ≡ word_at tables (clause_first_at c) → r < rule_room
  first_word e = omega (arith, e, clause_first p (parts tables terms l) (word_at tables) (word_at terms) (sections tables terms l) c h, first_few, (parts tables terms l).rule_count)

  pub ahead_word : {r n : ℕ} → r ≡ word_at tables (clause_first_at c) → n ≡ word_at tables (rule_first_at r) → n ≡ terms_ahead (plan_of_tables tables terms) c
  unfolding terms_ahead
  ahead_word e f =
      f ∙ ap (λ r. word_at tables (rule_first_at r)) (e ∙ clause_first p (parts tables terms l) (word_at tables) (word_at terms) (sections tables terms l) c h)
      ∙ rule_first p (parts tables terms l) (word_at tables) (word_at terms) (sections tables terms l) (first_rule p.clauses c) first_few
