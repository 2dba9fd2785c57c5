-- K, A and B of the rules, and their needs, depend on their own words alone: what writes others keeps them.
-- Assumes nothing.
use Prim.Native.Nat.{ℕ, ◌+◌, ◌*◌, ◌-◌, ◌≤◌, ◌<◌}
use native.Mathlib.Omega.{arith}
use mathlib.Core.Path.{◌≡◌, sym, ap, ◌∙◌}
use mathlib.Core.List.{List}
use lib.ListN.{length, drop}
use Rattle.plpb.specs.Plan.{Rule, Plan}
use Rattle.plpb.specs.Normal.{K, size_a, size_b}
use Rattle.plpb.specs.Tallies.{rules_of}
use Rattle.words.specs.Words.{num_at, word_at}
use Rattle.words.proofs.Words.{num_at_drop}
use Rattle.format.specs.Layout.{rule_room, tally_size}
use Rattle.columns.specs.Layout.{total_at, lower_size_at, upper_size_at, need_at}
use Rattle.columns.specs.Columns.{SizedRule, Sized, NeededRule, need}
use Rattle.columns.specs.Frames.{Only}

-- ---- one rule

pub sized_rule_kept : {q : Rule} {f g : ℕ → ℕ} {r : ℕ} → r < rule_room → ((i : ℕ) → total_at 0 ≤ i → i < need_at 0 → g i ≡ f i) → SizedRule q f r → SizedRule q g r
sized_rule_kept {q} {f} {g} {r} h same k = record {
  total = same (total_at r) (omega arith) (omega arith) ∙ k.total;
  lower = same (lower_size_at r) (omega arith) (omega arith) ∙ k.lower;
  upper = same (upper_size_at r) (omega arith) (omega arith) ∙ k.upper;
}

pub needed_rule_kept : {q : Rule} {f g : ℕ → ℕ} {r : ℕ} → g r ≡ f r → g (need_at (2 * r)) ≡ f (need_at (2 * r)) → g (need_at (2 * r + 1)) ≡ f (need_at (2 * r + 1)) → NeededRule q f r → NeededRule q g r
needed_rule_kept {q} e u v k = record {
  off = u ∙ k.off ∙ ap (need (size_b q)) (sym e);
  on = v ∙ k.on ∙ ap (λ n. need (size_a q) (K q.terms - n)) (sym e);
}

-- ---- all rules

module _ {p : Plan} {s t : List ℕ} (few : length (rules_of p) ≤ rule_room) where
  pub sized_kept : length t ≡ length s → ((i : ℕ) → total_at 0 ≤ i → i < need_at 0 → word_at t i ≡ word_at s i) → Sized p s → Sized p t
  sized_kept size same k = record {
    room = rw size k.room;
    each = λ r h. sized_rule_kept (omega (arith, few)) same (k.each r h);
  }

  pub sized_behind : {from end : ℕ} → need_at 0 ≤ from → Only from end s t → Sized p s → Sized p t
  sized_behind l o = sized_kept o.size (λ i a b. o.low i (omega arith))

  -- The tallies are counted anew, as opening does, and what stands behind them is as it was.
  pub sized_recounted : length t ≡ length s → drop tally_size t ≡ drop tally_size s → Sized p s → Sized p t
  sized_recounted size beyond = sized_kept size (λ i a b. word_beyond i a)
    where
      word_beyond : (i : ℕ) → total_at 0 ≤ i → word_at t i ≡ word_at s i
      word_beyond i a = unfold word_at in
          let e : 4 * i ≡ tally_size + (4 * i - tally_size) = omega arith in
          rw e (sym (num_at_drop 4 tally_size t (4 * i - tally_size)) ∙ ap (λ u. num_at 4 u (4 * i - tally_size)) beyond ∙ num_at_drop 4 tally_size s (4 * i - tally_size))
