-- The goals that the search leaves.
use native.Mathlib.Omega.{arith}
use native.Mathlib.Nat.{le_refl}
use borrow.Author.Rules.{rules}
use Prim.Native.Nat.{ℕ, ◌+◌, ◌*◌, ◌-◌, ◌<◌}
use mathlib.Core.Path.{◌≡◌, ap, ◌∙◌}
use mathlib.Core.List.{List}
use lib.ListN.{length, take, drop, replicate, length-take}
use Rattle.std.proofs.Common.{length-drop}
use Rattle.words.specs.Words.{word_at}
use Rattle.recount.specs.Plans.{plan}
use Rattle.recount.specs.Core.{Laid}
use Rattle.recount.proofs.Laid.{tables_long, clauses_few}
use Rattle.listing.proofs.Listing.{cleared, cleared_all}
use Rattle.listing.proofs.clear_counts.Goals as goal

few_clauses : {tables terms : List ℕ} {n : ℕ} → Laid tables terms → n ≡ word_at tables 1 → n < 514
few_clauses l e = omega (arith, e, clauses_few _ _ l)

pub index-clauses-requires : goal.index-clauses-requires
index-clauses-requires c = omega (arith, tables_long _ _ c.args.t.now.laid)

pub overflow_add-clauses : goal.overflow_add-clauses
overflow_add-clauses c = omega (arith, c.index-clauses.ensures, clauses_few _ _ c.args.t.now.laid)

pub overflow_mul-clauses : goal.overflow_mul-clauses
overflow_mul-clauses c = omega (arith, c.index-clauses.ensures, clauses_few _ _ c.args.t.now.laid)

pub slice_bounds-fill-end : goal.slice_bounds-fill-end
slice_bounds-fill-end c = omega (arith, few_clauses c.args.t.now.laid c.index-clauses.ensures, c.requires)

pub returns : goal.returns
returns c =
    let l = c.args.t.now.laid in
    let size : length (take (4 * (8_176 + c.index-clauses.result) - 32_704) (drop 32_704 c.args.marks.now)) ≡ 4 * (8_176 + c.index-clauses.result) - 32_704 =
    omega (arith, few_clauses l c.index-clauses.ensures, c.requires, length-take (4 * (8_176 + c.index-clauses.result) - 32_704) (drop 32_704 c.args.marks.now), length-drop 32_704 c.args.marks.now) in
    let zeros = c.fill.ensures.after (λ y h. search rules) ∙ ap (λ n. replicate n 0) size in
    cleared_all l c.requires c.index-clauses.ensures (le_refl c.index-clauses.result) (cleared (plan c.args.t.now) c.index-clauses.result c.fill.new.self (few_clauses l c.index-clauses.ensures) c.requires zeros)
