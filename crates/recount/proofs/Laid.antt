-- What tables that hold a plan say, entry by entry: the clauses share out the rules in order and the rules the terms, and every rule can be read.
-- Assumes nothing.
use Prim.Native.Nat.{ℕ, zero, suc, ◌+◌, ◌*◌, ◌≤◌, ◌<◌}
use native.Mathlib.Nat.{zero-add, add-zero, add-suc, suc-add}
use native.Mathlib.Omega.{arith}
use mathlib.Core.Path.{◌≡◌, refl, sym, ap, ◌∙◌}
use mathlib.Core.List.{List, [], ◌∷◌}
use lib.Dec.{T}
use lib.ListN.{length, get_or, length-take}
use Rattle.plpb.specs.Lists.{sum_by}
use Rattle.plpb.specs.Plan.{Rule, Plan, numbers_rise}
use Rattle.plpb.specs.Tallies.{rules_of}
use Rattle.plpb.proofs.Lists.{all_at}
use Rattle.order.specs.Order.{first_rule}
use Rattle.order.proofs.Runs.{first_all, first_within}
use Rattle.words.specs.Words.{word_at}
use Rattle.words.proofs.Words.{length_word_bytes}
use Rattle.format.specs.Limits.{rule_lawful, term_count}
use Rattle.format.specs.Tables.{rule_entries, table_words, term_words, Holds, rule_of, clause_of, plan_in, plan_of_tables}
use Rattle.format.proofs.Bools.{true_T}
use Rattle.format.proofs.Lawful.{RoomyPlan, roomy_parts}
use Rattle.format.proofs.Naming.{numbers_rise_lem}
use Rattle.format.proofs.Placed.{clause_is, clause_first, clause_end}
use Rattle.format.proofs.Spells.{Spells, spells_at}
use Rattle.format.proofs.Sections.{Sections, length_table_words, length_term_words}
use Rattle.format.proofs.Entries.{entry_here, entries_behind}
use Rattle.format.proofs.ReadBack.{rules_spelt, holds_sections}
use Rattle.rules.specs.Rules.{RuleInside, RuleReadable}
use Rattle.rules.proofs.Tables.{table_rule_readable}
use Rattle.recount.specs.Core.{Laid, Ready, RunReadable}
use Rattle.tallies.proofs.Exact.{rules_lawful}
use Rattle.format.specs.Layout.{clause_count_at, clause_first_at, clause_room, rule_count_at, rule_first_at, rule_room, table_size, term_size}

-- ---- entries

-- A rule's terms end where all terms do or before.
rule_end :
    (f : ℕ → ℕ) (i first : ℕ) (rs : List Rule) → Spells f (rule_first_at i) (rule_entries first rs) → (r : ℕ) → r < length rs
    → f (rule_first_at (i + r)) + f (rule_count_at (i + r)) ≤ first + sum_by (λ q. length q.terms) rs
unfolding sum_by
rule_end f i first [] s r h = absurd (omega arith)
rule_end f i first (q ∷ rs) s zero h =
    let e = entry_here f i first q rs s in
    rw (add-zero i) (omega (arith, e.start, e.count))
rule_end f i first (q ∷ rs) s (suc r) h =
    let ih = rule_end f (suc i) (first + length q.terms) rs (entries_behind f i first q rs s) r (omega arith) in
    rw (add-suc i r, ← suc-add i r) (omega (arith, ih))

-- ---- tables that hold a plan

module _ (tables terms : List ℕ) (l : Laid tables terms) where
  abbrev here : Plan
  here = plan_of_tables tables terms

  pub parts : RoomyPlan (plan_of_tables tables terms)
  parts = roomy_parts here l.room

  pub sections : Sections (plan_of_tables tables terms) (word_at tables) (word_at terms)
  sections = holds_sections here parts tables terms l.holds

  pub tables_long : table_size ≤ length tables
  unfolding Holds
  tables_long =
      omega (arith, sym (length-take table_size tables) ∙ ap length l.holds.0 ∙ length_word_bytes (table_words here) ∙ ap (λ k. 4 * k) (length_table_words here parts))

  pub terms_long : term_size ≤ length terms
  unfolding Holds
  terms_long =
      omega (arith, sym (length-take term_size terms) ∙ ap length l.holds.1 ∙ length_word_bytes (term_words here) ∙ ap (λ k. 4 * k) (length_term_words here parts))

  pub variables_word : (plan_of_tables tables terms).variables ≡ word_at tables 0
  unfolding plan_of_tables plan_in
  variables_word = refl

  pub clauses_word : word_at tables 1 ≡ length (plan_of_tables tables terms).clauses
  clauses_word = sections.clause_count

  pub rules_word : word_at tables 2 ≡ length (rules_of (plan_of_tables tables terms))
  rules_word = sections.rule_count

  pub clauses_few : word_at tables 1 ≤ clause_room
  clauses_few = omega (arith, clauses_word, parts.clause_count)

  pub rules_few : word_at tables 2 ≤ rule_room
  rules_few = omega (arith, rules_word, parts.rule_count)

  -- The clauses and the rules as they are read.
  pub clause_here : (c : ℕ) → c < word_at tables 1 → get_or (plan_of_tables tables terms).clauses c [] ≡ clause_of (word_at tables) (word_at terms) c
  clause_here c h = clause_is here parts (word_at tables) (word_at terms) sections c (omega (arith, clauses_word))

  pub rule_here : (r : ℕ) (d : Rule) → r < word_at tables 2 → get_or (rules_of (plan_of_tables tables terms)) r d ≡ rule_of (word_at tables) (word_at terms) r
  rule_here r d h =
      sym (rw zero-add at (spells_at (rule_of (word_at tables) (word_at terms)) 0 (rules_of here) (rules_spelt here parts (word_at tables) (word_at terms) sections) d r (omega (arith, rules_word))))

  -- The rules of a clause begin where those of the one before it end.
  module _ (c : ℕ) (h : c < word_at tables 1) where
    pub first_rule_lem : word_at tables (clause_first_at c) ≡ first_rule (plan_of_tables tables terms).clauses c
    first_rule_lem = clause_first here parts (word_at tables) (word_at terms) sections c (omega (arith, clauses_word))

    pub next_rule_lem : first_rule (plan_of_tables tables terms).clauses (suc c) ≡ word_at tables (clause_first_at c) + word_at tables (clause_count_at c)
    next_rule_lem = sym (clause_end here parts (word_at tables) (word_at terms) sections c (omega (arith, clauses_word)))

    pub rules_inside : word_at tables (clause_first_at c) + word_at tables (clause_count_at c) ≤ word_at tables 2
    unfolding rules_of
    rules_inside = omega (arith, next_rule_lem, first_within here.clauses (suc c), rules_word)

    pub run_readable : RunReadable tables c
    run_readable = record { inside = omega (arith, tables_long, clauses_few); few = omega (arith, rules_inside, rules_few) }

  pub last_rule : first_rule (plan_of_tables tables terms).clauses (word_at tables 1) ≡ word_at tables 2
  unfolding rules_of
  last_rule = ap (first_rule here.clauses) clauses_word ∙ first_all here.clauses ∙ sym rules_word

  -- A rule is lawful, and can be read with its terms.
  module _ (r : ℕ) (h : r < word_at tables 2) where
    pub rule_lawful_lem : T (rule_lawful (plan_of_tables tables terms).variables (rule_of (word_at tables) (word_at terms) r))
    rule_lawful_lem =
        let q = rule_of (word_at tables) (word_at terms) r in
        rw (rule_here r q h) at (all_at (rule_lawful here.variables) (rules_of here) r q (true_T _ (rules_lawful here parts)) (omega (arith, rules_word)))

    pub entry_inside : 4 * (rule_first_at r) + 20 ≤ length tables
    entry_inside = omega (arith, tables_long, rules_few)

    pub terms_inside : 8 * (word_at tables (rule_first_at r) + word_at tables (rule_count_at r)) ≤ length terms
    unfolding term_count
    terms_inside =
        let e = rw zero-add at (rule_end (word_at tables) 0 0 (rules_of here) sections.rule_entry r (omega (arith, rules_word))) in
        omega (arith, e, parts.terms, terms_long)

    pub rule_inside : RuleInside tables terms (rule_first_at r)
    rule_inside =
        let one : rule_first_at r + 1 ≡ rule_count_at r = omega arith in
        record { entry = entry_inside; body = rw one terms_inside }

  -- Variable numbers rise in every rule.
  pub rises : T (numbers_rise (plan_of_tables tables terms))
  rises = numbers_rise_lem here parts

pub rule_ready : (tables terms assignment : List ℕ) → Ready tables terms assignment → (r : ℕ) → r < word_at tables 2 → RuleReadable tables terms assignment (rule_first_at r)
rule_ready tables terms assignment y r h =
    let l = y.laid in
    table_rule_readable tables terms assignment (plan_of_tables tables terms).variables r (rule_lawful_lem tables terms l r h)
    (tables_long tables terms l) (omega (arith, rules_few tables terms l)) (terms_inside tables terms l r h) (parts tables terms l).high y.bytes
