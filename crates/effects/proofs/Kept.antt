-- What the walk's columns say of a rule: P, K, the sizes, its state.
-- Assumes nothing.
use Prim.Native.Nat.{ℕ, ◌+◌, ◌*◌, ◌-◌, ◌≤◌, ◌<◌}
use native.Mathlib.Omega.{arith}
use mathlib.Core.Path.{◌≡◌, refl, sym, ap, ap₂, ◌∙◌, subst}
use mathlib.Core.Bool.{Bool, true, false, not, cond}
use mathlib.Core.List.{List}
use lib.Dec.{T, leb}
use lib.IntN.{ℤ, nat_abs}
use lib.ListN.{length}
use borrow.Author.Tests.{leb-true}
use Rattle.plpb.specs.Plan.{Bound, absent, present, map_bound, Rule, Plan, Assignment, rising}
use Rattle.plpb.specs.Normal.{is_negative, K, P, N, rise, size_a, size_b}
use Rattle.plpb.specs.Equations.{on, off, standing}
use Rattle.plpb.specs.Tallies.{rules_of}
use Rattle.plpb.proofs.Lists.{all_at}
use Rattle.plpb.proofs.Normal.{P_at_most_K}
use Rattle.words.specs.Words.{word_at}
use Rattle.order.specs.Order.{no_rule, rule_at}
use Rattle.order.specs.Breaks.{spoils_part}
use Rattle.order.proofs.Groups.{spoils_true, spoils_false}
use Rattle.format.specs.Limits.{rule_lawful, bound_lawful, max_bound}
use Rattle.format.specs.Tables.{plan_of_tables}
use Rattle.format.specs.Layout.{rule_room}
use Rattle.format.proofs.Bools.{true_T}
use Rattle.format.proofs.Bools as bools
use Rattle.format.proofs.Lawful.{LawfulRule, RoomyPlan, rule_parts, terms_short}
use Rattle.format.proofs.Naming.{each_rule_lawful}
use Rattle.rules.specs.declared.place.Stands.{Stands}
use Rattle.rules.specs.declared.state.State.{State}
use Rattle.rules.specs.Places.{standing_in}
use Rattle.rules.specs.Rules.{reach, lower_size, upper_size}
use Rattle.rules.specs.State.{StateOf}
use Rattle.rules.proofs.Finding.{lost_in_P, gained_beside_P}
use Rattle.rules.proofs.Sizes.{rule_lower, rule_upper}
use Rattle.rules.proofs.Summing.{rise_at_most_K}
use Rattle.tallies.proofs.Exact.{K_small}
use Rattle.tallies.proofs.Tallied.{rule_word, fresh_words}
use Rattle.tallies.proofs.TallyBytes.{roomy_fits}
use Rattle.recount.specs.Core.{Laid}
use Rattle.recount.proofs.Laid.{parts}
use Rattle.columns.specs.Layout.{total_at, need_at}
use Rattle.columns.specs.Columns.{never, need}
use Rattle.effects.specs.Kept.{lent_bits, Walkable, size_in, Countable, Told}
use Rattle.effects.proofs.Words.{Below, size_back, need_reaches}

-- ---- a lawful rule

module _ (n : ℕ) (q : Rule) (high : n ≤ 512) (lawful : rule_lawful n q ≡ true) where
  l : LawfulRule n q
  l = rule_parts n q lawful

  pub K_fits : K q.terms ≤ 512_000_000
  unfolding rising
  K_fits = omega (arith, K_small n q.terms l.terms.within, terms_short n 0 q.terms l.terms.rise l.terms.within (omega arith))

  reach_small : (base : ℕ) (up : Bool) (m : ℕ) → base ≤ 512_000_000 → m ≤ max_bound → reach base up m < never
  unfolding reach
  reach_small base true m h k = omega arith
  reach_small base false m h k = omega arith

  size_small : (base : ℕ) (up : ℤ → Bool) (b : Bound ℤ) → base ≤ 512_000_000 → bound_lawful b ≡ true → Below (map_bound (λ u. reach base (up u) (nat_abs u)) b)
  unfolding bound_lawful map_bound
  size_small base up absent h e = tt
  size_small base up (present u) h e = reach_small base (up u) (nat_abs u) h (leb-true _ _ e)

  pub lower_small : Below (size_a q)
  unfolding rule_lawful lower_size
  lower_small =
      subst Below (rule_lower q)
      (size_small (K q.terms - rise q.terms) is_negative q.lower (omega (arith, K_fits)) (bools.and_right _ _ (bools.and_left _ _ (bools.and_left _ _ (bools.and_left _ _ lawful)))))

  pub upper_small : Below (size_b q)
  unfolding rule_lawful upper_size
  upper_small =
      subst Below (rule_upper q)
      (size_small (rise q.terms) (λ u. not (is_negative u)) q.upper (omega (arith, K_fits, rise_at_most_K q.terms)) (bools.and_right _ _ (bools.and_left _ _ (bools.and_left _ _ lawful))))

-- ---- a rule of the plan

module _ {tables terms assignment tallies marks : List ℕ} (w : Walkable tables terms assignment tallies marks) {r : ℕ} (h : r < length (rules_of (plan_of_tables tables terms))) where
  abbrev p : Plan
  p = plan_of_tables tables terms

  abbrev a : Assignment
  a = lent_bits tables terms assignment

  abbrev q : Rule
  q = rule_at (plan_of_tables tables terms) r

  laid : Laid tables terms
  laid = w.ready.laid

  roomy : RoomyPlan p
  roomy = parts tables terms laid

  pub rule_few : r < rule_room
  rule_few = omega (arith, roomy.rule_count)

  lawful : rule_lawful p.variables q ≡ true
  unfolding rule_at
  lawful = bools.T_true _ (all_at (rule_lawful p.variables) (rules_of p) r no_rule (true_T _ (each_rule_lawful p roomy)) h)

  pub rule_rising : T (rising (rule_at (plan_of_tables tables terms) r).terms)
  rule_rising = true_T _ (rule_parts p.variables q lawful).terms.rise

  pub rule_within : LawfulRule (plan_of_tables tables terms).variables (rule_at (plan_of_tables tables terms) r)
  rule_within = rule_parts p.variables q lawful

  pub weight_word : word_at tallies r ≡ P (lent_bits tables terms assignment) (rule_at (plan_of_tables tables terms) r).terms
  unfolding rule_at
  weight_word = fresh_words p laid.room a tallies w.fresh r (omega (arith, rule_few)) ∙ rule_word p (roomy_fits p laid.room) a r no_rule h

  total_word : word_at tallies (total_at r) ≡ K q.terms
  total_word = (w.sized.each r h).total

  pub rule_countable : Countable (word_at tallies) r
  rule_countable = record { few = rule_few; part = rw (weight_word, total_word) (P_at_most_K a q.terms) }

  falses_word : word_at tallies (total_at r) - word_at tallies r ≡ N a q.terms
  unfolding N
  falses_word = ap₂ ◌-◌ total_word weight_word

  -- What its words tell is its state.
  pub told_state : {x : ℕ} {z : Stands} {s : State} → standing_in z ≡ standing (lent_bits tables terms assignment) x (rule_at (plan_of_tables tables terms) r).terms → Told (word_at tallies) r z s → StateOf (lent_bits tables terms assignment) x (rule_at (plan_of_tables tables terms) r) s
  unfolding N
  told_state {x} {z} {s} e t = record {
    falses = falses;
    trues = trues;
    stands = stands;
    lower = t.lower ∙ ap size_in (w.sized.each r h).lower ∙ size_back (size_a q) (lower_small p.variables q roomy.high lawful);
    upper = t.upper ∙ ap size_in (w.sized.each r h).upper ∙ size_back (size_b q) (upper_small p.variables q roomy.high lawful);
    balanced = record {
      small = omega (arith, falses, trues, P_at_most_K a q.terms, K_fits p.variables q roomy.high lawful);
      loses = rw (stands, trues) (lost_in_P a x q.terms);
      gains = rw (stands, falses) (omega (arith, gained_beside_P a x q.terms));
    };
  }
    where
      falses : s.n ≡ N a q.terms
      falses = t.falses ∙ falses_word

      trues : s.p ≡ P a q.terms
      trues = t.trues ∙ weight_word

      stands : standing_in s.stands ≡ standing a x q.terms
      stands = ap standing_in t.stands ∙ e

  -- A weight that meets the need of its side spoils the rule, and no other does.
  pub need_spoils : (x weight : ℕ) (b : Bool) → 0 < weight → weight < never → standing (lent_bits tables terms assignment) x (rule_at (plan_of_tables tables terms) r).terms ≡ cond b (on weight) (off weight) → leb (word_at tallies (need_at (2 * r + cond b 1 0))) weight ≡ spoils_part (lent_bits tables terms assignment) x (rule_at (plan_of_tables tables terms) r)
  need_spoils x weight true some small e =
      ap (λ n. leb n weight) ((w.needed.each r h).on ∙ ap (need (size_a q)) left)
      ∙ need_reaches (size_a q) (N a q.terms) weight some small ∙ sym (spoils_true a x q weight e)
    where
      left : K q.terms - word_at tallies r ≡ N a q.terms
      left = ap (λ n. K q.terms - n) weight_word ∙ unfold N in refl
  need_spoils x weight false some small e =
      ap (λ n. leb (word_at tallies n) weight) plain
      ∙ ap (λ n. leb n weight) ((w.needed.each r h).off ∙ ap (need (size_b q)) weight_word)
      ∙ need_reaches (size_b q) (P a q.terms) weight some small ∙ sym (spoils_false a x q weight e)
    where
      plain : need_at (2 * r + 0) ≡ need_at (2 * r)
      plain = omega arith
