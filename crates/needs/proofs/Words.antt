-- The needs by their words are the needs, and whether a rule holds is told by what is kept of it.
-- Assumes nothing.
use Prim.Native.Nat.{ℕ, zero, suc, ◌+◌, ◌-◌, ◌≤◌, ◌<◌}
use native.Mathlib.Omega.{arith}
use mathlib.Core.Path.{◌≡◌, refl, ap, ◌∙◌}
use mathlib.Core.Bool.{Bool, true, false, not, cond}
use lib.Dec.{ltb}
use borrow.Author.Tests.{eq-eqb, ne_eqb, lt-ltb}
use Rattle.plpb.specs.Lists.{◌or◌}
use Rattle.plpb.specs.Plan.{Bound, absent, present, Rule}
use Rattle.plpb.specs.Normal.{K, size_a, size_b, below_size}
use Rattle.order.specs.Along.{moved}
use Rattle.columns.specs.Columns.{SizedRule, never, need, size_word}
use Rattle.sizing.specs.Sizing.{Small}
use Rattle.needs.specs.declared.KeptRule.{KeptRule}
use Rattle.needs.specs.Rules.{ReadAs, Moved}
use Rattle.needs.specs.Needs.{need_word}

-- ---- a need

pub need_none : (size m : ℕ) → size ≡ 0 → never ≡ need_word size m
unfolding need_word ◌or◌
need_none size m e = rw (eq-eqb size 0 e) refl

pub need_never : (size m : ℕ) → (size ≡ 0 → ⊥) → size ≡ never → never ≡ need_word size m
unfolding need_word ◌or◌
need_never size m z e = rw (ne_eqb size 0 z, eq-eqb size never e) refl

pub need_some : (size m : ℕ) → (size ≡ 0 → ⊥) → (size ≡ never → ⊥) → size - m ≡ need_word size m
unfolding need_word ◌or◌
need_some size m z e = rw (ne_eqb size 0 z, ne_eqb size never e) refl

pub need_word_lem : (b : Bound ℕ) (m : ℕ) → Small b → need_word (size_word b) m ≡ need b m
unfolding need_word size_word need ◌or◌
need_word_lem absent m s = refl
need_word_lem (present zero) m s = refl
need_word_lem (present (suc k)) m s = rw (ne_eqb (suc k) 0 (λ e. omega (arith, e)), ne_eqb (suc k) never (λ e. omega (arith, e, s))) refl

-- ---- a rule

pub below_word : (n : ℕ) (b : Bound ℕ) → n < never → ltb n (size_word b) ≡ below_size n b
unfolding size_word below_size
below_word n absent h = lt-ltb n never h
below_word n (present k) h = refl

-- What is kept of a rule q that stands with P = n.
pub record KeptOf (q : Rule) (n : ℕ) (k : KeptRule) : Type 0 where
  pub falses : k.n ≡ K q.terms - n
  pub trues : k.p ≡ n
  pub lower : k.a ≡ size_word (size_a q)
  pub upper : k.b ≡ size_word (size_b q)
  pub within : n ≤ K q.terms
  pub small : K q.terms < never

pub kept_read : {q : Rule} {f : ℕ → ℕ} {r : ℕ} {k : KeptRule} → SizedRule q f r → f r ≤ K q.terms → K q.terms < never → ReadAs f r k → KeptOf q (f r) k
kept_read {q} {f} {r} s l m k = record {
  falses = k.falses ∙ ap (λ n. n - f r) s.total;
  trues = k.trues;
  lower = k.lower ∙ s.lower;
  upper = k.upper ∙ s.upper;
  within = l;
  small = m;
}

-- A literal is turned over, by cases.
pub true_moved : {on : Bool} {w : ℕ} {k m : KeptRule} → on ≡ true → m.n ≡ k.n + w → m.p ≡ k.p - w → m.a ≡ k.a → m.b ≡ k.b → Moved on w k m
unfolding moved
true_moved e f g a b = record { falses = rw e f; trues = rw e g; lower = a; upper = b }

pub false_moved : {on : Bool} {w : ℕ} {k m : KeptRule} → on ≡ false → m.n ≡ k.n - w → m.p ≡ k.p + w → m.a ≡ k.a → m.b ≡ k.b → Moved on w k m
unfolding moved
false_moved e f g a b = record { falses = rw e f; trues = rw e g; lower = a; upper = b }

pub moved_rest : (on : Bool) (w n k : ℕ) → n ≤ k → w ≤ cond on n (k - n) → (moved (not on) w (k - n) ≡ k - moved on w n) × (moved on w n ≤ k)
unfolding moved
moved_rest true w n k l h = (omega arith, omega arith)
moved_rest false w n k l h = (omega arith, omega arith)
