-- Laws that join the tests of the program, one after the other, to the definition of its output.
-- Assumes nothing.
use Prim.Native.Nat.{ℕ, ◌≤◌}
use native.Mathlib.Omega.{arith}
use mathlib.Core.Path.{◌≡◌, sym, ap, ◌∙◌}
use mathlib.Core.Bool.{Bool, true, false}
use mathlib.Core.List.{List}
use lib.Dec.{T}
use lib.ListN.{length}
use borrow.Author.Tests.{le-ltb}
use Rattle.plpb.specs.Lists.{◌or◌}
use Rattle.plpb.specs.Plan.{Plan}
use Rattle.format.specs.File.{Reading, refused, accepted, read}
use Rattle.format.specs.Writer.{write}
use Rattle.format.specs.Tables.{table_size, term_size, Holds, Loaded, plan_of_tables, is_loaded}
use Rattle.format.specs.Limits.{lawful}
use Rattle.format.proofs.Lawful.{lawful_roomy}
use Rattle.format.proofs.Accepted.{accepted_lawful}
use Rattle.format.proofs.ReadBack.{read_back}
use Rattle.format.proofs.WriteBytes.{write_bytes}
use Rattle.format.proofs.RoundTrip.{read_write}
use Rattle.format.proofs.IsLoaded.{loaded_is_loaded}
use Rattle.verdict.specs.Answers.{Answer, refusal_of, offset_of}
use Rattle.verdict.specs.Answers as loads
use Rattle.tables.proofs.Holding.{loading_holds}
use Rattle.tables.specs.Load.{outcome, too_small, loading, tables_after, terms_after}
use Rattle.folder.specs.Files.{read_walk}
use Rattle.lines.specs.Text.{refusal_line}
use Rattle.folder.specs.Files.{too_long}
use Rattle.report.specs.Report.{with_settings}
use Rattle.respond.specs.Program.{with_plan, output}

-- ---- "Any of them above 65,536 bytes gives 9, before all else"

module _ (more : Bool) (plan walk numbers : List ℕ) where
  module _ {long : Bool} (e : long ≡ (more or too_long plan or too_long walk or too_long numbers)) where
    pub output_long : long ≡ true → refusal_line 9 0 ≡ output more plan walk numbers
    unfolding output
    output_long t = rw (sym e ∙ t)

    pub output_read : long ≡ false → with_plan walk numbers (read plan) ≡ output more plan walk numbers
    unfolding output
    output_read t = rw (sym e ∙ t)

-- ---- the plan

unsure : (n o : ℕ) → ◌≡◌ {A = Answer} (loads.Refused n o) loads.Accepted → ⊥
unsure n o e = let z : ◌≡◌ {A = ℕ} 0 1 = cc in omega arith

reading_refused : (r : Reading Plan) (n o : ℕ) → loads.Refused n o ≡ outcome r → r ≡ refused n o
unfolding outcome refusal_of offset_of
reading_refused (refused m k) n o e = let a : n ≡ m = ap refusal_of e in let b : o ≡ k = ap offset_of e in λ i. refused (sym a i) (sym b i)
reading_refused (accepted p) n o e = absurd (unsure n o e)

module _ (file tables terms : List ℕ) (nt : table_size ≤ length tables) (ns : term_size ≤ length terms) where
  large : too_small tables terms ≡ false
  unfolding too_small ◌or◌
  large = rw (le-ltb _ _ nt, le-ltb _ _ ns)

  outcome_is : loading file tables terms ≡ outcome (read file)
  unfolding loading
  outcome_is = rw large

  module _ {a : Answer} (e : a ≡ loading file tables terms) where
    pub plan_refused : {n o : ℕ} (walk numbers : List ℕ) → a ≡ loads.Refused n o → refusal_line n o ≡ with_plan walk numbers (read file)
    unfolding with_plan
    plan_refused {n} {o} walk numbers t = rw (reading_refused (read file) n o (sym t ∙ e ∙ outcome_is))

    module _ (t : a ≡ loads.Accepted) where
      here : (p : Plan) × (read file ≡ accepted p) × Holds p (tables_after file tables terms) (terms_after file tables terms)
      here = loading_holds file tables terms (sym e ∙ t)

      abbrev plan : Plan
      plan = here.0

      plan_lawful : T (lawful plan)
      plan_lawful = accepted_lawful file plan here.1

      module _ {tables' terms' : List ℕ} (f : tables' ≡ tables_after file tables terms) (g : terms' ≡ terms_after file tables terms) where
        held : Holds plan tables' terms'
        held = rw (f, g) here.2

        pub plan_loaded : T (is_loaded tables' terms')
        unfolding Loaded
        plan_loaded = loaded_is_loaded tables' terms' (write plan, plan, write_bytes plan, read_write plan plan_lawful, held)

        pub plan_accepted : (walk numbers : List ℕ) → with_settings (plan_of_tables tables' terms') numbers (read_walk walk) ≡ with_plan walk numbers (read file)
        unfolding with_plan
        plan_accepted walk numbers =
            rw here.1
            (ap (λ (p : Plan). with_settings p numbers (read_walk walk)) (read_back plan tables' terms' (lawful_roomy plan plan_lawful) held))
