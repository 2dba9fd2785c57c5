-- The goals that the search leaves.
use Prim.Native.Nat.{◌<◌}
use native.Mathlib.Omega.{arith}
use native.Mathlib.Numerals.{add-one}
use Rattle.words.specs.Words.{word_at}
use Rattle.clauselines.proofs.Clauses.{going_room, going_few, going_fits, going_more, going_done, atom_small}
use Rattle.clauselines.proofs.put_clauses.Goals as goal

pub put_clause-next-requires : goal.put_clause-next-requires
put_clause-next-requires c =
    let test : c.loop-c.c < word_at c.args.tables.now 1 = omega (arith, c.loop-c-test.true, c.index-clauses.ensures) in
    record { clause_fits = going_fits c.args.tables.now c.args.terms.now c.args.at c.args.out.now c.loop-c.invariant test c.requires.clauses_fit; room = going_room c.args.tables.now c.args.terms.now c.args.at c.args.out.now c.loop-c.invariant test c.requires.room }

pub new_atoms-k-requires : goal.new_atoms-k-requires
new_atoms-k-requires c =
    let test : c.loop-c.c < word_at c.args.tables.now 1 = omega (arith, c.loop-c-test.true, c.index-clauses.ensures) in
    let fit = going_fits c.args.tables.now c.args.terms.now c.args.at c.args.out.now c.loop-c.invariant test c.requires.clauses_fit in
    (fit.entry, omega (arith, fit.rules.few))

pub overflow_add-k : goal.overflow_add-k
overflow_add-k c =
    let test : c.loop-c.c < word_at c.args.tables.now 1 = omega (arith, c.loop-c-test.true, c.index-clauses.ensures) in
    let fit = going_fits c.args.tables.now c.args.terms.now c.args.at c.args.out.now c.loop-c.invariant test c.requires.clauses_fit in
    omega (arith, going_few c.args.tables.now c.args.terms.now c.args.at c.args.out.now c.loop-c.invariant c.requires.clauses_fit, c.new_atoms-k.ensures, atom_small _ _ fit.rules.few)

pub loop-c-preserved : goal.loop-c-preserved
loop-c-preserved c =
    let test : c.loop-c.c < word_at c.args.tables.now 1 = omega (arith, c.loop-c-test.true, c.index-clauses.ensures) in
    rw (add-one c.loop-c.c) (going_more c.args.tables.now c.args.terms.now c.args.at c.args.out.now c.loop-c.invariant test c.put_clause-next.ensures c.new_atoms-k.ensures)

pub returns : goal.returns
returns c = going_done c.args.tables.now c.args.terms.now c.args.at c.args.out.now c.loop-c.invariant (omega (arith, c.loop-c-test.false, c.index-clauses.ensures))
