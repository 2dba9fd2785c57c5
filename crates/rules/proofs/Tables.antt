-- For callers: the rules of tables that hold a plan of n variables can be read, and their states are those under the first n bytes of the assignment.
-- Assumes nothing.
use Prim.Native.Nat.{ℕ, ◌+◌, ◌*◌, ◌≤◌, ◌<◌}
use native.Mathlib.Omega.{arith}
use mathlib.Core.Path.{◌≡◌, refl}
use mathlib.Core.List.{List}
use lib.Dec.{T}
use lib.ListN.{length}
use Rattle.plpb.specs.Plan.{Rule, rising}
use Rattle.words.specs.Words.{word_at}
use Rattle.format.specs.Limits.{max_variables, terms_lawful, rule_lawful}
use Rattle.format.specs.Tables.{rule_of}
use Rattle.format.proofs.Bools.{T_true, true_T}
use Rattle.format.proofs.Lawful.{rule_parts, terms_whole}
use Rattle.rules.specs.Terms.{terms_at}
use Rattle.rules.specs.Rules.{rule_at, RuleReadable}
use Rattle.rules.proofs.Terms.{readable}
use Rattle.format.specs.Layout.{rule_count_at, rule_first_at, rule_lower_at, rule_mode_at, rule_room, rule_upper_at, table_size}

-- A rule with lawful terms can be read ..
module _ (tables terms assignment : List ℕ) (at n : ℕ) where
  pub rule_readable : 4 * at + 20 ≤ length tables → 8 * (word_at tables at + word_at tables (at + 1)) ≤ length terms → n ≤ max_variables → n ≤ length assignment → T (terms_lawful n (rule_at (word_at tables) (word_at terms) at).terms) → RuleReadable tables terms assignment at
  unfolding rule_at
  rule_readable entry inside small bytes t =
      record { entry = entry; body = readable terms assignment (word_at tables at) (word_at tables (at + 1)) n inside small bytes t }

-- A lawful rule has lawful terms, whose numbers rise.
module _ (n : ℕ) (q : Rule) (t : T (rule_lawful n q)) where
  pub rule_terms : T (terms_lawful n q.terms)
  rule_terms = true_T _ (terms_whole n q.terms (rule_parts n q (T_true _ t)).terms)

  pub rule_rises : T (rising q.terms)
  rule_rises = true_T _ (rule_parts n q (T_true _ t)).terms.rise

-- Rule r has its entry at word 1,542 + 5·r.
pub rule_at_lem : (f g : ℕ → ℕ) (r : ℕ) → rule_at f g (rule_first_at r) ≡ rule_of f g r
unfolding rule_at rule_of terms_at
rule_at_lem f g r =
    let one : rule_first_at r + 1 ≡ rule_count_at r = omega arith in
    let two : rule_first_at r + 2 ≡ rule_mode_at r = omega arith in
    let three : rule_first_at r + 3 ≡ rule_lower_at r = omega arith in
    let four : rule_first_at r + 4 ≡ rule_upper_at r = omega arith in
    rw (one, two, three, four) refl

-- Both at once, for a lawful rule of the tables.
module _ (tables terms assignment : List ℕ) (n r : ℕ) (t : T (rule_lawful n (rule_of (word_at tables) (word_at terms) r))) where
  terms_at_lem : T (terms_lawful n (rule_at (word_at tables) (word_at terms) (rule_first_at r)).terms)
  terms_at_lem = rw (rule_at_lem (word_at tables) (word_at terms) r) (rule_terms n (rule_of (word_at tables) (word_at terms) r) t)

  pub table_rule_readable : table_size ≤ length tables → r < rule_room → 8 * (word_at tables (rule_first_at r) + word_at tables (rule_count_at r)) ≤ length terms → n ≤ max_variables → n ≤ length assignment → RuleReadable tables terms assignment (rule_first_at r)
  table_rule_readable whole few inside small bytes =
      let one : rule_first_at r + 1 ≡ rule_count_at r = omega arith in
      rule_readable tables terms assignment (rule_first_at r) n (omega arith) (rw one inside) small bytes terms_at_lem
