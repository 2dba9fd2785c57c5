-- `list_entry` meets its contract: the test says whether the clause has the variable already.
-- Assumes nothing.
use Prim.Native.Nat.{ℕ, ◌+◌, ◌-◌, ◌≤◌, ◌<◌}
use native.Mathlib.Omega.{arith}
use mathlib.Core.Path.{◌≡◌}
use mathlib.Core.Bool.{Bool, false}
use mathlib.Core.List.{List}
use lib.Dec.{ltb, eqb}
use Rattle.plpb.specs.Lists.{◌and◌}
use Rattle.plpb.specs.Plan.{is_locked}
use Rattle.words.specs.Words.{word_at}
use Rattle.order.specs.Order.{word_place}
use Rattle.format.specs.Layout.{end_at, entry_at, term_room, clause_room}
use Rattle.recount.specs.Plans.{plan}
use Rattle.recount.proofs.Laid.{tables_long}
use Rattle.columns.specs.Layout.{list_at, list_count_at}
use Rattle.columns.specs.Columns.{terms_ahead}
use Rattle.columns.proofs.Frames.{only_none}
use Rattle.listing.specs.Listing.{Listing}
use Rattle.listing.specs.declared.Variable.{Variable}
use Rattle.listing.proofs.Listing.{variables_few, entry_few, below, clause_few, list_room, list_same, place_few, list_only, list_more}
use Rattle.listing.proofs.Variable.list_entry.Goals as goal

-- Entry k is one of the variable's run, and the lists have come so far.
abbrev Entry : Variable → ℕ → List ℕ → Type 0
Entry v k s =
    (is_locked (plan v.plan) v.x ≡ false) × (word_at v.plan.tables.now (end_at (v.x - 1)) ≤ k) × (k < word_at v.plan.tables.now (end_at v.x))
    × Listing (plan v.plan) v.x (k - word_at v.plan.tables.now (end_at (v.x - 1))) s

module _ (v : Variable) {k w d : ℕ} {s : List ℕ} (y : Entry v k s) (e : w ≡ word_at v.plan.tables.now (entry_at k)) (f : d ≡ (word_place w).clause) where
  few : d < clause_room
  few = clause_few v.plan.laid v.low v.high y.1 y.2 e f

  module _ {at n : ℕ} (o : at ≡ terms_ahead (plan v.plan) d) (u : n ≡ word_at s (list_count_at d)) where
    room : at + n ≤ term_room
    room = list_room v.plan.laid v.low v.high y.1 y.2 e f o y.0 y.3 u

    space : {b : Bool} → b ≡ (ltb 0 n and eqb (word_at s (list_at (at + n - 1))) v.x) → b ≡ false → at + n < term_room
    space h t = place_few v.plan.laid v.low v.high y.1 y.2 e f o y.0 y.3 u h t

pub returns-then-ends_with : goal.returns-then-ends_with
returns-then-ends_with c =
    let v = c.args.self.now in
    let y = c.requires in
    (list_same v.plan.laid v.low v.high y.1 y.2 c.word.ensures c.clause_in-c.ensures c.terms_ahead-at.ensures y.0 y.3 c.index-n.ensures c.ends_with.ensures c.if-ends_with.true, only_none _ _ _)

pub returns : goal.returns
returns c =
    let v = c.args.self.now in
    let y = c.requires in (
      list_more v.plan.laid v.low v.high y.1 y.2 c.word.ensures c.clause_in-c.ensures c.terms_ahead-at.ensures y.0 y.3 c.index-n.ensures c.ends_with.ensures c.if-ends_with.false c.narrow.ensures c.write_word.ensures c.narrow-2.ensures c.write_word-2.ensures,
      list_only v.plan.laid v.low v.high y.1 y.2 c.word.ensures c.clause_in-c.ensures c.terms_ahead-at.ensures y.0 y.3 c.index-n.ensures c.ends_with.ensures c.if-ends_with.false c.narrow.ensures c.write_word.ensures c.narrow-2.ensures c.write_word-2.ensures,
    )

pub overflow_add-k : goal.overflow_add-k
overflow_add-k c = let v = c.args.self.now in omega (arith, entry_few v.plan.laid v.low v.high c.requires.1 c.requires.2)

pub word-requires : goal.word-requires
word-requires c = let v = c.args.self.now in omega (arith, entry_few v.plan.laid v.low v.high c.requires.1 c.requires.2, tables_long _ _ v.plan.laid)

pub terms_ahead-at-requires : goal.terms_ahead-at-requires
terms_ahead-at-requires c = let v = c.args.self.now in below v.plan.laid v.low v.high c.requires.1 c.requires.2 c.word.ensures c.clause_in-c.ensures

pub overflow_add-c : goal.overflow_add-c
overflow_add-c c = omega (arith, few c.args.self.now c.requires c.word.ensures c.clause_in-c.ensures)

pub index-n-requires : goal.index-n-requires
index-n-requires c = omega (arith, few c.args.self.now c.requires c.word.ensures c.clause_in-c.ensures, c.requires.3.room)

pub ends_with-requires : goal.ends_with-requires
ends_with-requires c = (room c.args.self.now c.requires c.word.ensures c.clause_in-c.ensures c.terms_ahead-at.ensures c.index-n.ensures, c.requires.3.room)

pub overflow_add-at : goal.overflow_add-at
overflow_add-at c =
    omega (arith, space c.args.self.now c.requires c.word.ensures c.clause_in-c.ensures c.terms_ahead-at.ensures c.index-n.ensures c.ends_with.ensures c.if-ends_with.false)

pub overflow_add-at-2 : goal.overflow_add-at-2
overflow_add-at-2 c =
    omega (arith, space c.args.self.now c.requires c.word.ensures c.clause_in-c.ensures c.terms_ahead-at.ensures c.index-n.ensures c.ends_with.ensures c.if-ends_with.false)

pub narrow-requires : goal.narrow-requires
narrow-requires c = omega (arith, c.args.self.now.high, variables_few c.args.self.now.plan.laid)

pub write_word-requires : goal.write_word-requires
write_word-requires c =
    omega (arith, space c.args.self.now c.requires c.word.ensures c.clause_in-c.ensures c.terms_ahead-at.ensures c.index-n.ensures c.ends_with.ensures c.if-ends_with.false, c.requires.3.room)

pub overflow_add-c-2 : goal.overflow_add-c-2
overflow_add-c-2 c = omega (arith, few c.args.self.now c.requires c.word.ensures c.clause_in-c.ensures)

pub overflow_add-n : goal.overflow_add-n
overflow_add-n c =
    omega (arith, space c.args.self.now c.requires c.word.ensures c.clause_in-c.ensures c.terms_ahead-at.ensures c.index-n.ensures c.ends_with.ensures c.if-ends_with.false)

pub narrow-requires-2 : goal.narrow-requires-2
narrow-requires-2 c =
    omega (arith, space c.args.self.now c.requires c.word.ensures c.clause_in-c.ensures c.terms_ahead-at.ensures c.index-n.ensures c.ends_with.ensures c.if-ends_with.false)

pub write_word-requires-2 : goal.write_word-requires-2
write_word-requires-2 c = omega (arith, few c.args.self.now c.requires c.word.ensures c.clause_in-c.ensures, c.marks-1.given, c.requires.3.room)
