-- The needs of one rule as they are written, and of the rules so far.
-- Assumes nothing.
use Prim.Native.Nat.{ℕ, ◌+◌, ◌*◌, ◌-◌, ◌≤◌, ◌<◌}
use native.Mathlib.Decide.{ℕ_discrete}
use native.Mathlib.Omega.{arith}
use mathlib.Core.Path.{◌≡◌, sym, ap, ap₂, ◌∙◌}
use mathlib.Core.List.{List}
use lib.ListN.{length}
use Rattle.plpb.specs.Plan.{Rule, Plan}
use Rattle.plpb.specs.Normal.{K, size_a, size_b}
use Rattle.plpb.specs.Tallies.{rules_of}
use Rattle.words.specs.Words.{word_at}
use Rattle.words.specs.Writes.{Wrote}
use Rattle.order.specs.Order.{rule_at}
use Rattle.format.specs.Layout.{rule_room}
use Rattle.columns.specs.Layout.{need_at, kept_word_count, total_at}
use Rattle.columns.specs.Columns.{Sized, NeededRule}
use Rattle.columns.specs.Frames.{Only}
use Rattle.columns.proofs.Frames.{only_next, only_wider, wrote_only}
use Rattle.columns.proofs.Kept.{needed_rule_kept, sized_rule_kept}
use Rattle.sizing.proofs.Sizes.{SmallRule}
use Rattle.needs.specs.declared.KeptRule.{KeptRule}
use Rattle.needs.specs.Rules.{Readable, ReadAs}
use Rattle.needs.specs.Needs.{need_word, NeedsPut, Weighable}
use Rattle.needs.proofs.Words.{KeptOf, kept_read, need_word_lem}

pub needs_put : {r : ℕ} {k : KeptRule} {v w : ℕ} {s t u : List ℕ} → v ≡ need_word k.b k.p → w ≡ need_word k.a k.n → Wrote (need_at (2 * r)) v s t → Wrote (need_at (2 * r + 1)) w t u → NeedsPut r k s u
needs_put {r} e f x y = record {
  off = y.others (need_at (2 * r)) (λ z. omega (arith, z)) ∙ x.here ∙ e;
  on = y.here ∙ f;
  only = only_next (wrote_only (omega arith) (omega arith) x) (wrote_only (omega arith) (omega arith) y);
}

-- They are those of the rule that is kept so.
pub put_needed : {q : Rule} {n r : ℕ} {k : KeptRule} {s t : List ℕ} → SmallRule q → KeptOf q n k → NeedsPut r k s t → word_at t r ≡ n → NeededRule q (word_at t) r
put_needed {q} {n} {r} {k} {s} {t} m h p e = record {
  off = p.off ∙ ap₂ need_word h.upper (h.trues ∙ sym e) ∙ need_word_lem (size_b q) (word_at t r) m.upper;
  on = p.on ∙ ap₂ need_word h.lower (h.falses ∙ ap (λ z. K q.terms - z) (sym e)) ∙ need_word_lem (size_a q) (K q.terms - word_at t r) m.lower;
}

-- ---- the rules so far

-- The needs of the rules before r.
pub record Filled (p : Plan) (s : List ℕ) (r : ℕ) (t : List ℕ) : Type 0 where
  pub each : (i : ℕ) → i < r → NeededRule (rule_at p i) (word_at t) i
  pub only : Only (need_at 0) kept_word_count s t

module _ {p : Plan} {s t : List ℕ} {r : ℕ} (z : Sized p s) (w : Weighable p s) (few : length (rules_of p) ≤ rule_room) (h : r < length (rules_of p)) (f : Filled p s r t) (m : SmallRule (rule_at p r)) where
  there : word_at t r ≡ word_at s r
  there = f.only.low r (omega (arith, few))

  weight : word_at t r ≤ K (rule_at p r).terms
  weight = rw there (w.each r h)

  pub filled_readable : Readable r t
  filled_readable = record {
    room = rw f.only.size z.room;
    rule = omega (arith, few);
    weight = rw (f.only.low (total_at r) (omega (arith, few)) ∙ (z.each r h).total) weight;
  }

  pub filled_next : {k : KeptRule} {u : List ℕ} → ReadAs (word_at t) r k → NeedsPut r k t u → Filled p s (r + 1) u
  filled_next {k} {u} a n = record { each = λ i l. at i l (ℕ_discrete i r); only = only_next f.only (only_wider (omega arith) (omega (arith, few)) n.only) }
    where
      kept : KeptOf (rule_at p r) (word_at t r) k
      kept = kept_read (sized_rule_kept (omega (arith, few)) (λ i g l. f.only.low i (omega arith)) (z.each r h)) weight m.total a

      at : (i : ℕ) → i < r + 1 → Dec (i ≡ r) → NeededRule (rule_at p i) (word_at u) i
      at i l (yes e) = rw e (put_needed m kept n (n.only.low r (omega (arith, few))))
      at i l (no e) =
          needed_rule_kept (n.only.low i (omega (arith, few, e))) (n.only.low (need_at (2 * i)) (omega (arith, e))) (n.only.low (need_at (2 * i + 1)) (omega (arith, e))) (f.each i (omega (arith, e)))
