-- A hint that tells the side of a place tells the weight of its term too.
-- Assumes nothing.
use Prim.Native.Nat.{ℕ, ◌+◌, ◌*◌, ◌-◌, ◌/◌, ◌%◌}
use native.Mathlib.Omega.{arith}
use mathlib.Core.Path.{◌≡◌, refl, ◌∙◌}
use mathlib.Core.Bool.{cond}
use mathlib.Core.List.{List}
use lib.ListN.{get_or}
use Rattle.plpb.specs.Normal.{literal, literal_true, size}
use Rattle.words.specs.Words.{word_at}
use Rattle.order.specs.Order.{term_at, word_place}
use Rattle.format.specs.Tables.{plan_of_tables}
use Rattle.format.specs.Layout.{entry_at}
use Rattle.columns.specs.Columns.{hint_of}
use Rattle.effects.specs.Kept.{lent_bits, place_at, Visited}
use Rattle.effects.proofs.Places.{place_entry, place_side}

module _ {tables terms assignment tallies marks : List ℕ} {x k w : ℕ} (v : Visited tables terms assignment tallies marks x k) (e : w ≡ hint_of (plan_of_tables tables terms) (place_at tables terms k)) where
  pub hint_weight : w / 4_096 - 2 ≡ size (term_at (plan_of_tables tables terms) (place_at tables terms k))
  unfolding hint_of
  hint_weight = omega (arith, e)

  pub hint_side : {y : ℕ} → y ≡ get_or assignment (x - 1) 0 → 2 * (word_place w).rule + (w % 2 + y) % 2 ≡ 2 * (place_at tables terms k).rule + cond (literal_true (lent_bits tables terms assignment) (literal (term_at (plan_of_tables tables terms) (place_at tables terms k)))) 1 0
  unfolding hint_of word_place
  hint_side {y} f =
      let o = word_at tables (entry_at k) in
      let same : 2 * (w % 4_096 / 2) + (w % 2 + y) % 2 ≡ 2 * (o % 4_096 / 2) + (o % 2 + y) % 2 = omega (arith, e, place_entry v) in
      same ∙ place_side v refl f
