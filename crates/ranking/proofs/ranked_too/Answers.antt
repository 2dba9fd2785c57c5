-- `ranked_too` meets its contract: a variable is joined, or comes behind both.
-- Assumes nothing.
use native.Mathlib.Omega.{arith}
use mathlib.Core.Path.{◌≡◌, refl}
use mathlib.Core.List.{◌∷◌}
use borrow.Author.Rules.{rules}
use Rattle.counting.proofs.Bounds.{by_bound}
use Rattle.effects.specs.Footing.{plan_on, bits_on}
use Rattle.effects.proofs.Runs.{going_few}
use Rattle.effects.proofs.Visits.{going_on}
use Rattle.stamps.specs.Stamps.{stamp_in}
use Rattle.ranking.specs.Ranking.{Ranks}
use Rattle.ranking.proofs.Ranking.{ranks_past}
use Rattle.ranking.proofs.ranked_too.Goals as goal

pub of-run-requires : goal.of-run-requires
of-run-requires c = c.requires

pub last_flip-last-requires : goal.last_flip-last-requires
last_flip-last-requires c = (omega (arith, going_few (going_on _ c.requires)), omega (arith, c.requires.weighed.room))

pub returns-in-Some : goal.returns-in-Some
returns-in-Some c = λ xs r.
    let e = c.of-run.ensures in
    c.joined.ensures _ _ _ _ _ r (record { score = rw (e.0, e.2) at c.in-Some.ensures; last_flip = c.last_flip-last.ensures; variable = refl })

pub returns-in-None : goal.returns-in-None
returns-in-None c = λ xs r.
    let t = c.args.top in
    let p = plan_on c.args.footing.now in
    let a = bits_on c.args.footing.now in
    let last = stamp_in c.args.marks.now in
    let e = c.of-run.ensures in
    let below = rw (e.0, e.2) at c.in-None.ensures in
    by_bound (λ o. t.second ≡ o → Ranks p a last (c.args.x ∷ xs) (record { first = t.first; second = t.second; latest = c.max.result })) t.second c.map_or-least.ensures
    (λ n q. absurd (omega (arith, below, n)))
    (λ s h q. let n : c.map_or-least.result ≡ s.score = search rules in ranks_past p a last c.args.x r q (omega (arith, below, n)) c.last_flip-last.ensures c.max.ensures) refl
