-- The words of one rule, and of the rules so far.
-- Assumes nothing.
use Prim.Native.Nat.{ℕ, ◌+◌, ◌≤◌, ◌<◌}
use native.Mathlib.Decide.{ℕ_discrete}
use native.Mathlib.Omega.{arith}
use mathlib.Core.Path.{◌≡◌, ap, ap₂, ◌∙◌}
use mathlib.Core.List.{List}
use lib.ListN.{length}
use Rattle.plpb.specs.Plan.{Assignment}
use Rattle.plpb.proofs.Normal.{N_and_P}
use Rattle.counting.specs.Bound.{bound_of}
use Rattle.words.specs.Words.{word_at}
use Rattle.words.specs.Writes.{Wrote}
use Rattle.order.specs.Order.{rule_at, no_rule}
use Rattle.format.specs.Layout.{rule_room}
use Rattle.format.specs.Tables.{rule_of, plan_of_tables}
use Rattle.rules.specs.declared.state.State.{State}
use Rattle.rules.specs.State.{StateOf}
use Rattle.recount.specs.Core.{Laid, Ready}
use Rattle.recount.proofs.Laid.{parts, rules_word, rule_here, rule_lawful_lem, terms_long}
use Rattle.columns.specs.Layout.{total_at, lower_size_at, upper_size_at, need_at, kept_size}
use Rattle.columns.specs.Columns.{SizedRule, Sized, size_word}
use Rattle.columns.specs.Frames.{Only}
use Rattle.columns.proofs.Frames.{only_next, only_wider, wrote_only}
use Rattle.sizing.specs.Sizing.{Small, SizesPut, RuleSized}
use Rattle.sizing.proofs.Sizes.{lower_small, upper_small}

-- ---- one rule

pub sizes_put : {r k a b : ℕ} {s t u v : List ℕ} → Wrote (total_at r) k s t → Wrote (lower_size_at r) a t u → Wrote (upper_size_at r) b u v → SizesPut r k a b s v
sizes_put {r} x y z = record {
  total = z.others (total_at r) (λ e. omega (arith, e)) ∙ y.others (total_at r) (λ e. omega (arith, e)) ∙ x.here;
  lower = z.others (lower_size_at r) (λ e. omega (arith, e)) ∙ y.here;
  upper = z.here;
  only = only_next (wrote_only (omega arith) (omega arith) x) (only_next (wrote_only (omega arith) (omega arith) y) (wrote_only (omega arith) (omega arith) z));
}

module _ (tables terms : List ℕ) (r : ℕ) {b : Assignment} {z : State} (h : StateOf b 0 (rule_of (word_at tables) (word_at terms) r) z) where
  module _ (l : Laid tables terms) (i : r < word_at tables 2) where
    pub lower_fits : Small (bound_of z.a)
    lower_fits = rw h.lower (lower_small _ _ (parts tables terms l).high (rule_lawful_lem tables terms l r i))

    pub upper_fits : Small (bound_of z.b)
    upper_fits = rw h.upper (upper_small _ _ (parts tables terms l).high (rule_lawful_lem tables terms l r i))

  pub rule_sized : {a c : ℕ} {s t : List ℕ} → a ≡ size_word (bound_of z.a) → c ≡ size_word (bound_of z.b) → SizesPut r (z.n + z.p) a c s t → RuleSized tables terms r s t
  rule_sized {a} {c} {s} {t} e f p = record {
    sizes = record {
      total = p.total ∙ ap₂ ◌+◌ h.falses h.trues ∙ N_and_P b _;
      lower = p.lower ∙ e ∙ ap size_word h.lower;
      upper = p.upper ∙ f ∙ ap size_word h.upper;
    };
    only = p.only;
  }

-- Any bytes long enough are an assignment.
pub terms_ready : (tables terms : List ℕ) → Laid tables terms → Ready tables terms terms
terms_ready tables terms l = record { laid = l; bytes = omega (arith, (parts tables terms l).high, terms_long tables terms l) }

-- ---- the rules so far

-- The rules before r.
pub record Before (tables terms s : List ℕ) (r : ℕ) (t : List ℕ) : Type 0 where
  pub each : (i : ℕ) → i < r → SizedRule (rule_of (word_at tables) (word_at terms) i) (word_at t) i
  pub only : Only (total_at 0) (need_at 0) s t

pub before_next : {tables terms s t u : List ℕ} {r : ℕ} → r < rule_room → Before tables terms s r t → RuleSized tables terms r t u → Before tables terms s (r + 1) u
before_next {tables} {terms} {s} {t} {u} {r} few b n = record { each = λ i h. at i h (ℕ_discrete i r); only = only_next b.only (only_wider (omega arith) (omega (arith, few)) n.only) }
  where
    at : (i : ℕ) → i < r + 1 → Dec (i ≡ r) → SizedRule (rule_of (word_at tables) (word_at terms) i) (word_at u) i
    at i h (yes e) = rw e n.sizes
    at i h (no e) =
        let k = b.each i (omega (arith, e)) in
        record {
          total = n.only.low (total_at i) (omega (arith, e)) ∙ k.total;
          lower = n.only.low (lower_size_at i) (omega (arith, e)) ∙ k.lower;
          upper = n.only.low (upper_size_at i) (omega (arith, e)) ∙ k.upper;
        }

pub before_all : {tables terms s t : List ℕ} {r : ℕ} → Laid tables terms → word_at tables 2 ≤ r → kept_size ≤ length s → Before tables terms s r t → Sized (plan_of_tables tables terms) t
unfolding rule_at
before_all {tables} {terms} {s} {t} {r} l h room b = record {
  room = rw b.only.size room;
  each = λ i k. rw (rule_here tables terms l i no_rule (omega (arith, rules_word tables terms l))) (b.each i (omega (arith, rules_word tables terms l)));
}
