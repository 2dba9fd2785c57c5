-- Tables that are the same within the full limits are loaded both or neither, and hold one plan: what a loading leaves is said of the first bytes alone.
-- Assumes nothing.
use Prim.Native.Nat.{ℕ, ◌<◌}
use native.Mathlib.Decide.{dec_lt}
use native.Mathlib.Omega.{arith}
use mathlib.Core.Path.{◌≡◌, sym, ap, ◌∙◌}
use mathlib.Core.List.{List}
use lib.Dec.{T, ltb}
use lib.ListN.{length, length-take}
use borrow.Author.Tests.{lt-ltb, le-ltb}
use Rattle.plpb.specs.Plan.{Plan}
use Rattle.words.specs.Writes.{SameWithin}
use Rattle.format.specs.Tables.{table_size, term_size, Holds, Loaded, plan_of_tables, is_loaded}
use Rattle.format.proofs.Bools.{T_true, true_T, same_test}
use Rattle.format.proofs.Lawful.{lawful_roomy}
use Rattle.format.proofs.ReadBack.{read_back}
use Rattle.format.proofs.IsLoaded.{is_loaded_lawful, is_loaded_holds, is_loaded_loaded, loaded_is_loaded}

-- A list that is too short for n bytes is so by its first n.
pub short_within : (n : ℕ) (s t : List ℕ) → SameWithin n s t → ltb (length s) n ≡ ltb (length t) n
short_within n s t e = at (dec_lt (length s) n)
  where
    at : Dec (length s < n) → ltb (length s) n ≡ ltb (length t) n
    at (yes h) = lt-ltb (length s) n h ∙ sym (lt-ltb (length t) n (omega (arith, ap length e, length-take n s, length-take n t)))
    at (no h) = le-ltb (length s) n (omega arith) ∙ sym (le-ltb (length t) n (omega (arith, ap length e, length-take n s, length-take n t)))

holds_within : (p : Plan) (t u t' u' : List ℕ) → SameWithin table_size t t' → SameWithin term_size u u' → Holds p t u → Holds p t' u'
unfolding Holds
holds_within p t u t' u' e f h = (sym e ∙ h.0, sym f ∙ h.1)

loaded_one : (t u t' u' : List ℕ) → SameWithin table_size t t' → SameWithin term_size u u' → T (is_loaded t u) → T (is_loaded t' u')
unfolding Loaded
loaded_one t u t' u' e f h =
    let (file, p, bytes, read, holds) = is_loaded_loaded t u h in
    loaded_is_loaded t' u' (file, p, bytes, read, holds_within p t u t' u' e f holds)

pub loaded_within : (t u t' u' : List ℕ) → SameWithin table_size t t' → SameWithin term_size u u' → is_loaded t u ≡ is_loaded t' u'
loaded_within t u t' u' e f =
    same_test _ _ (λ h. T_true _ (loaded_one t u t' u' e f (true_T _ h))) (λ h. T_true _ (loaded_one t' u' t u (sym e) (sym f) (true_T _ h)))

pub plan_within : (t u t' u' : List ℕ) → SameWithin table_size t t' → SameWithin term_size u u' → T (is_loaded t u) → plan_of_tables t u ≡ plan_of_tables t' u'
plan_within t u t' u' e f h =
    sym (read_back (plan_of_tables t u) t' u' (lawful_roomy _ (is_loaded_lawful t u h)) (holds_within _ t u t' u' e f (is_loaded_holds t u h)))
