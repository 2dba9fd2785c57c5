-- `rank_clause` meets its contract, from the last of the list to the first.
-- Assumes nothing.
use native.Mathlib.Omega.{arith}
use Prim.Native.Nat.{ℕ, suc, ◌+◌, ◌-◌, ◌≤◌, ◌<◌}
use mathlib.Core.Path.{◌≡◌, refl, sym, ap, ap₂, ◌∙◌}
use mathlib.Core.List.{List, ◌∷◌}
use lib.ListN.{length, drop}
use lib.Seq.{drop-cons, drop-length}
use Rattle.words.specs.Words.{word_at}
use Rattle.effects.specs.declared.footing.Footing.{Footing}
use Rattle.effects.specs.Footing.{HasPlaces}
use Rattle.picks.specs.Picks.{of_clause, HasList}
use Rattle.picks.proofs.Noting.{listed, noted_self, list_ends, list_here, list_run, rankable_list}
use Rattle.ranking.proofs.Ranking.{ranks_none}
use Rattle.ranking.proofs.rank_clause.Invariants.{list_start, from}
use Rattle.ranking.proofs.rank_clause.Goals as goal

module _ {q : Footing} {marks : List ℕ} {c : ℕ} (k : HasList q marks c) {i : ℕ} (some : list_start q c < i) (few : i ≤ list_start q c + length (of_clause q c)) where
  abbrev d : ℕ
  d = i - 1 - list_start q c

  next : word_at marks (i - 1) ∷ from q c i ≡ from q c (i - 1)
  next =
      let one : i - list_start q c ≡ suc d = omega arith in
      ap₂ (λ x n. x ∷ drop n (of_clause q c)) (list_here k (noted_self _ marks) refl refl (omega arith) (omega arith)) one ∙ sym (drop-cons (of_clause q c) d 0 (omega arith))

  run : HasPlaces q marks (word_at marks (i - 1))
  run = list_run k (noted_self _ marks) refl refl (omega arith) (omega arith)

pub list_of-list-requires : goal.list_of-list-requires
list_of-list-requires c = let e = c.plan.ensures in rw (e.0, e.1) (c.args.choice.now.there, c.requires.listed)

pub loop-i-init : goal.loop-i-init
loop-i-init c =
    let q = c.args.choice.now.footing in
    let k = c.args.choice.now.clause in
    let l = listed q k c.plan.ensures c.list_of-list.ensures in
    let all : c.list_of-list.result.end - list_start q k ≡ length (of_clause q k) = omega (arith, l.0, l.1) in
    (omega (arith, l.0, l.1), omega (arith, l.0, l.1), ranks_none _ _ _ (ap (λ n. drop n (of_clause q k)) all ∙ drop-length (of_clause q k)) refl refl refl)

pub word-requires : goal.word-requires
word-requires c =
    let k = rankable_list c.args.choice.now c.requires in
    omega (arith, c.loop-i-test.true, list_ends k, k.listed.room, c.loop-i.invariant.1)

pub ranked_too-top-requires : goal.ranked_too-top-requires
ranked_too-top-requires c =
    let q = c.args.choice.now in
    let l = listed q.footing q.clause c.plan.ensures c.list_of-list.ensures in
    rw c.word.ensures (run (rankable_list q c.requires) (omega (arith, l.0, c.loop-i-test.true)) c.loop-i.invariant.1)

pub loop-i-preserved : goal.loop-i-preserved
loop-i-preserved c =
    let q = c.args.choice.now.footing in
    let k = c.args.choice.now.clause in
    let i = c.loop-i.invariant in
    let l = listed q k c.plan.ensures c.list_of-list.ensures in
    let some : list_start q k < c.loop-i.i = omega (arith, l.0, c.loop-i-test.true) in (
      omega (arith, some),
      omega (arith, i.1),
      rw (← next (rankable_list c.args.choice.now c.requires) some i.1, ← c.word.ensures) (c.ranked_too-top.ensures _ i.2),
    )

pub returns : goal.returns
returns c =
    let q = c.args.choice.now.footing in
    let l = listed q c.args.choice.now.clause c.plan.ensures c.list_of-list.ensures in
    let z : c.loop-i.i - list_start q c.args.choice.now.clause ≡ 0 = omega (arith, c.loop-i-test.false, l.0) in
    rw z at c.loop-i.invariant.2
