-- Loading asks of the tables only whether they are long enough, and writes the same words over whatever stood there.
-- Assumes nothing.
use Prim.Native.Nat.{ℕ}
use mathlib.Core.Path.{◌≡◌, refl, sym, ap₂, ◌∙◌}
use mathlib.Core.Bool.{Bool, true, false, cond}
use mathlib.Core.List.{List}
use lib.Dec.{T}
use Rattle.plpb.specs.Lists.{◌or◌}
use Rattle.plpb.specs.Plan.{Plan}
use Rattle.words.specs.Writes.{SameWithin}
use Rattle.format.specs.File.{Reading, refused, accepted, read}
use Rattle.format.specs.Limits.{lawful}
use Rattle.format.specs.Tables.{table_size, term_size, Holds}
use Rattle.format.proofs.Accepted.{accepted_lawful}
use Rattle.format.proofs.Within.{short_within}
use Rattle.verdict.specs.Answers.{Refused}
use Rattle.tables.specs.Load.{outcome, too_small, loading, tables_of, terms_of, tables_after, terms_after, LoadsWithin}
use Rattle.tables.proofs.Holding.{words_hold}

-- Both leave what held before, or the words of the plan.
left_within : (r : Reading Plan) (t u t' u' : List ℕ) → ((p : Plan) → r ≡ accepted p → T (lawful p)) → SameWithin table_size t t' → SameWithin term_size u u'
    → SameWithin table_size (tables_of r t) (tables_of r t') × SameWithin term_size (terms_of r u) (terms_of r u')
unfolding tables_of terms_of Holds
left_within (refused n o) t u t' u' w e f = (e, f)
left_within (accepted p) t u t' u' w e f =
    let h = words_hold p t u (w p refl) in
    let h' = words_hold p t' u' (w p refl) in
    (h.0 ∙ sym h'.0, h.1 ∙ sym h'.1)

pub loads_within : LoadsWithin
unfolding loading tables_after terms_after
loads_within file t u t' u' e f = go (too_small t u) (too_small t' u') same
  where
    same : too_small t u ≡ too_small t' u'
    same = unfold too_small in ap₂ ◌or◌ (short_within table_size t t' e) (short_within term_size u u' f)

    go : (a b : Bool) → a ≡ b
        → (cond a (Refused 21 0) (outcome (read file)) ≡ cond b (Refused 21 0) (outcome (read file)))
        × SameWithin table_size (cond a t (tables_of (read file) t)) (cond b t' (tables_of (read file) t'))
        × SameWithin term_size (cond a u (terms_of (read file) u)) (cond b u' (terms_of (read file) u'))
    go a true s = rw s (refl, e, f)
    go a false s = let w = left_within (read file) t u t' u' (accepted_lawful file) e f in rw s (refl, w.0, w.1)
