-- The goals that the search leaves.
use native.Mathlib.Omega.{arith}
use mathlib.Core.Path.{sym, ◌∙◌}
use Rattle.bodies.proofs.Tags.{tag_byte}
use Rattle.fates.proofs.Resting.{rest_room}
use Rattle.rewriting.specs.Moved.{ClauseMoved}
use Rattle.rewriting.proofs.Clausewise.{passing_more, passing_end, clause_here}
use Rattle.rewriting.proofs.rules.keep_clauses.Goals as goal

pub keep_clause-places-requires : goal.keep_clause-places-requires
keep_clause-places-requires c =
    let p = c.loop-file.invariant _ _ c.requires.0.2 in
    let (first, rest, here) = clause_here _ _ _ p.rest (sym (tag_byte _ _) ∙ c.loop-file-test.true) in
    ((_, first, rest, here), p.behind)

pub loop-file-smaller : goal.loop-file-smaller
unfolding ClauseMoved
loop-file-smaller c =
    let p = c.loop-file.invariant _ _ c.requires.0.2 in omega (arith, c.keep_clause-places.ensures.0, rest_room p.rest, p.laying.same)

pub bounds-file-at : goal.bounds-file-at
bounds-file-at c = let p = c.loop-file.invariant _ _ c.requires.0.2 in omega (arith, rest_room p.rest)

pub loop-file-preserved : goal.loop-file-preserved
loop-file-preserved c = passing_more _ _ _ _ _ _ _ c.loop-file.invariant (sym (tag_byte _ _) ∙ c.loop-file-test.true) c.keep_clause-places.auto.file c.keep_clause-places.ensures

pub returns : goal.returns
returns c = passing_end _ _ _ _ _ _ _ c.loop-file.invariant (λ t. c.loop-file-test.false (tag_byte _ _ ∙ t))
