-- A flip along the run on what is kept: what stands after each place, and behind the last.
-- Assumes nothing.
use Prim.Native.Nat.{ℕ, ◌+◌, ◌*◌, ◌-◌, ◌%◌, ◌≤◌, ◌<◌}
use native.Mathlib.Decide.{ℕ_discrete}
use native.Mathlib.Omega.{arith}
use mathlib.Core.Path.{◌≡◌, refl, sym, ap, ap₂, ◌∙◌, subst}
use mathlib.Core.Logic.{◌≢◌}
use mathlib.Core.Bool.{Bool, true, false, not, cond}
use mathlib.Core.List.{List}
use lib.Dec.{ltb, eqb}
use lib.ListN.{length, get_or, drop}
use lib.Seq.{get_or-take, get_or-drop}
use Rattle.plpb.specs.Lists.{◌and◌}
use Rattle.plpb.specs.Plan.{Term, Rule, Plan, Assignment, flip, value}
use Rattle.plpb.specs.Normal.{is_negative, literal, literal_true, size, K, P, size_a, size_b}
use Rattle.plpb.specs.Tallies.{rules_of}
use Rattle.plpb.proofs.Normal.{P_at_most_K}
use Rattle.plpb.proofs.Flip.{flip_literal_same, length_flip}
use Rattle.words.specs.Words.{word_at}
use Rattle.words.proofs.Words.{Below}
use Rattle.order.specs.Order.{Place, order, occurrences, run_end, cut, rule_at, term_at, no_term, spelled, place_word, word_place}
use Rattle.order.specs.Along.{holds_by, moved, exchanged}
use Rattle.order.proofs.Along.{holds_by_P}
use Rattle.order.proofs.Runs.{named_below}
use Rattle.order.proofs.Tested.{run_cut, end_next}
use Rattle.format.specs.Layout.{end_at, entry_at, holding_at, rule_room, clause_room}
use Rattle.format.specs.Tables.{plan_of_tables}
use Rattle.rules.specs.Terms.{bits_in}
use Rattle.recount.proofs.Laid.{parts}
use Rattle.columns.specs.Layout.{need_at, kept_size, weight_at}
use Rattle.columns.specs.Columns.{no_place, never, SizedRule, Sized, NeededRule, Needed}
use Rattle.columns.proofs.Kept.{sized_kept, needed_rule_kept}
use Rattle.flips.specs.Passing.{Followable, Passed}
use Rattle.flips.proofs.Following.{Going, Visit, nowhere, going_start, going_end, inside_bits, run_start, run_size, run_terms, visit, place_weight, place_moved, place_passable, place_step}
use Rattle.sizing.proofs.Sizes.{SmallRule, plan_small}
use Rattle.needs.specs.Needs.{need_word}
use Rattle.needs.proofs.Words.{below_word, need_word_lem}
use Rattle.needs.proofs.Parts.{literal_part}
use Rattle.keeping.specs.Keeping.{was_true, holds_at, PlaceTurnable, PlaceTurned}
use Rattle.keeping.specs.Flip.{Followed, Kept}

-- ---- words

holds_words : {q : Rule} {f : ℕ → ℕ} {r : ℕ} (n : ℕ) → SizedRule q f r → n ≤ K q.terms → K q.terms < never → holds_at f r n ≡ holds_by q n
unfolding holds_at holds_by
holds_words {q} {f} {r} n s l m =
    ap₂ (λ x y. x and y)
    (ap₂ ltb (ap (λ k. k - n) s.total) s.lower ∙ below_word (K q.terms - n) (size_a q) (omega arith))
    (ap (ltb n) s.upper ∙ below_word n (size_b q) (omega arith))

-- The lowest bit of a place's word is the sign.
odd : (q : Place) (b n : Bool) → spelled b q n % 2 ≡ cond n 1 0
unfolding spelled
odd q true true = omega arith
odd q true false = omega arith
odd q false true = omega arith
odd q false false = omega arith

sign_told : (p : Plan) (q : Place) → eqb (place_word p q % 2) 1 ≡ is_negative (term_at p q).weight
unfolding place_word
sign_told p q = at _ (is_negative (term_at p q).weight)
  where
    at : (b n : Bool) → eqb (spelled b q n % 2) 1 ≡ n
    at b true = ap (λ m. eqb m 1) (odd q b true)
    at b false = ap (λ m. eqb m 1) (odd q b false)

was_told : (s v : Bool) → cond s v (not v) ≡ not (cond s (not v) v)
was_told true true = refl
was_told true false = refl
was_told false true = refl
was_told false false = refl

literal_before : (b : Assignment) (x : ℕ) (t : Term) → 0 < x → x ≤ length b → t.variable ≡ x → not (cond (is_negative t.weight) (not (value b t.variable)) (value b t.variable)) ≡ literal_true (flip b x) (literal t)
unfolding literal_true literal
literal_before b x t low high e = sym (flip_literal_same b x (literal t) low high e)

-- ---- one place

-- What stands after i places: the tallies on their way, and all that is kept.
pub record Keeping (tables terms bits s : List ℕ) (x i : ℕ) (t : List ℕ) : Type 0 where
  pub going : Going tables terms bits x i t
  pub sized : Sized (plan_of_tables tables terms) t
  pub needed : Needed (plan_of_tables tables terms) t
  pub size_same : length t ≡ length s
  pub beyond : drop kept_size t ≡ drop kept_size s

pub keeping_at : {tables terms bits s t : List ℕ} {x i j : ℕ} → i ≡ j → Keeping tables terms bits s x i t → Keeping tables terms bits s x j t
keeping_at {tables} {terms} {bits} {s} {t} {x} e g = subst (λ k. Keeping tables terms bits s x k t) e g

pub kept_at : {p : Plan} {a b : Assignment} {s t : List ℕ} → a ≡ b → Kept p a s t → Kept p b s t
kept_at {p} {a} {b} {s} {t} e k = subst (λ c. Kept p c s t) e k

module _ {tables terms marks bits s : List ℕ} {x : ℕ} (z : Followed tables terms marks bits s x) where
  abbrev p : Plan
  p = plan_of_tables tables terms

  abbrev y : Followable tables terms bits s x
  y = z.follow

  -- The bits before the flip.
  abbrev a : Assignment
  a = flip (bits_in bits) x

  rules_few : length (rules_of p) ≤ rule_room
  rules_few = (parts tables terms y.ready.laid).rule_count

  pub keeping_start : Keeping tables terms bits s x 0 s
  keeping_start = record { going = going_start y; sized = z.sized; needed = z.needed; size_same = refl; beyond = refl }

  pub keeping_end : {i : ℕ} {t : List ℕ} → Keeping tables terms bits s x i t → i ≡ length (occurrences (plan_of_tables tables terms) x) → Below 256 t → Kept (plan_of_tables tables terms) (bits_in bits) s t
  keeping_end g e b = record {
    fresh = going_end y g.going e b (omega (arith, g.sized.room));
    sized = g.sized;
    needed = g.needed;
    size = g.size_same;
    beyond = g.beyond;
  }

  module _ {i o w : ℕ} {v : Bool} (h : i < length (occurrences (plan_of_tables tables terms) x)) (e : o ≡ word_at tables (entry_at (word_at tables (end_at (x - 1)) + i))) (f : w ≡ word_at marks (weight_at (word_at tables (end_at (x - 1)) + i))) (k : v ≡ value (bits_in bits) x) where
    abbrev q : Place
    q = word_place o

    abbrev rule : Rule
    rule = rule_at p q.rule

    at : Visit p a x i o
    at = visit y h e

    there : q.rule < length (rules_of p)
    there = named_below p x q at.named

    low : q.rule < rule_room
    low = omega (arith, there, rules_few)

    small : SmallRule rule
    small = plan_small tables terms y.ready.laid q.rule there

    on_told : was_true o v ≡ literal_true a (literal (term_at p q))
    unfolding was_true
    on_told =
        ap₂ (λ s u. cond s u (not u)) (ap (λ n. eqb (n % 2) 1) at.spelt ∙ sign_told p q) (k ∙ ap (value (bits_in bits)) (sym at.named.named))
        ∙ was_told (is_negative (term_at p q).weight) (value (bits_in bits) (term_at p q).variable)
        ∙ literal_before (bits_in bits) x (term_at p q) y.low long at.named.named
      where
        long : x ≤ length (bits_in bits)
        long = rw (length_flip (bits_in bits) x) at (inside_bits y)

    order_told : get_or (order p) (word_at tables (end_at (x - 1)) + i) no_place ≡ q
    unfolding no_place nowhere cut
    order_told =
        ap (λ n. get_or (order p) (n + i) no_place) (run_start y)
        ∙ sym (get_or-drop (run_end p (x - 1)) (order p) i no_place)
        ∙ sym (get_or-take (run_end p x - run_end p (x - 1)) (drop (run_end p (x - 1)) (order p)) i no_place (omega (arith, end_next p x y.low)))
        ∙ ap (λ ys. get_or ys i no_place) (run_cut p x y.low y.high)
        ∙ sym at.place

    weight_told : w ≡ size (term_at p q)
    weight_told = f ∙ z.weighed.each (word_at tables (end_at (x - 1)) + i) (omega (arith, run_size y, run_terms y)) ∙ ap (λ u. size (term_at p u)) order_told

    module _ {t : List ℕ} (g : Keeping tables terms bits s x i t) where
      weight : word_at t q.rule ≡ P a rule.terms
      weight = place_weight y h e g.going

      sizes : SizedRule rule (word_at t) q.rule
      sizes = g.sized.each q.rule there

      pub place_ready : PlaceTurnable (was_true o v) w (word_place o) t
      place_ready = record {
        rule = record {
          rule = record { room = g.sized.room; rule = low; weight = rw (sizes.total, weight) (P_at_most_K a rule.terms) };
          part = rw (on_told, weight_told, sizes.total, weight) (unfold term_at in literal_part a no_term rule.terms q.term at.named.term_there);
        };
        clause = rw (holds_words (word_at t q.rule) sizes (rw weight (P_at_most_K a rule.terms)) small.total) (place_passable y h e g.going (omega (arith, g.sized.room))).countable;
      }

      module _ {u : List ℕ} (d : PlaceTurned (was_true o v) w (word_place o) t u) where
        after : word_at u q.rule ≡ P (bits_in bits) rule.terms
        after = d.weight ∙ ap₂ (λ b n. moved b n (word_at t q.rule)) on_told weight_told ∙ place_moved y h e g.going

        passed : Passed rule (bits_in bits) q.rule q.clause t u
        passed = record {
          weight = after;
          holding =
              d.holding
              ∙ ap₂ (λ b c. exchanged b c (word_at t (holding_at q.clause)))
              (holds_words (word_at t q.rule) sizes (rw weight (P_at_most_K a rule.terms)) small.total)
              (holds_words (word_at u q.rule) sizes (rw after (P_at_most_K (bits_in bits) rule.terms)) small.total ∙ ap (holds_by rule) after ∙ holds_by_P (bits_in bits) rule);
          total = d.total;
          others = λ j l b c n. d.others j b (λ m. omega (arith, m)) (λ m. omega (arith, m)) c n;
        }

        clause_low : q.clause < clause_room
        clause_low = place_ready.clause.clause

        needed_at : (r : ℕ) → r < length (rules_of p) → Dec (r ≡ q.rule) → NeededRule (rule_at p r) (word_at u) r
        needed_at r l (yes m) = rw m (record {
          off = d.off ∙ ap (λ n. need_word n (word_at u q.rule)) sizes.upper ∙ need_word_lem (size_b rule) (word_at u q.rule) small.upper;
          on = d.on ∙ ap₂ (λ n k. need_word n (k - word_at u q.rule)) sizes.lower sizes.total ∙ need_word_lem (size_a rule) (K rule.terms - word_at u q.rule) small.lower;
        })
        needed_at r l (no m) =
            needed_rule_kept (same r (omega (arith, l, rules_few)) m)
            (other (need_at (2 * r)) (omega arith) (λ n. m (omega (arith, n))) (λ n. omega (arith, n)))
            (other (need_at (2 * r + 1)) (omega arith) (λ n. omega (arith, n)) (λ n. m (omega (arith, n))))
            (g.needed.each r l)
          where
            same : (j : ℕ) → j < rule_room → j ≢ q.rule → word_at u j ≡ word_at t j
            same j b n = d.others j n (λ m. omega (arith, m)) (λ m. omega (arith, m)) (λ m. omega (arith, m)) (λ m. omega (arith, m))

            other : (j : ℕ) → need_at 0 ≤ j → j ≢ need_at (2 * q.rule) → j ≢ need_at (2 * q.rule + 1) → word_at u j ≡ word_at t j
            other j b n o = d.others j (λ m. omega (arith, m, low)) n o (λ m. omega (arith, m, clause_low)) (λ m. omega (arith, m))

        pub place_kept : Keeping tables terms bits s x (i + 1) u
        place_kept = record {
          going = place_step y h e g.going passed;
          sized = sized_kept rules_few d.size (λ j b c. d.others j (λ m. omega (arith, m, low)) (λ m. omega (arith, m)) (λ m. omega (arith, m)) (λ m. omega (arith, m, clause_low)) (λ m. omega (arith, m))) g.sized;
          needed = record { each = λ r l. needed_at r l (ℕ_discrete r q.rule) };
          size_same = d.size ∙ g.size_same;
          beyond = d.beyond ∙ g.beyond;
        }
