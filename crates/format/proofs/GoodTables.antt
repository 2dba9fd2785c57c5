-- The test of tables means what 22 says: good tables are those that some accepted loading leaves, and no others.
-- The plan read back is the witness, and its own file the file.
use Prim.Native.Nat.{ℕ, ◌≤◌}
use mathlib.Core.Path.{◌≡◌}
use mathlib.Core.Bool.{true}
use mathlib.Core.List.{List}
use lib.Dec.{T}
use lib.ListN.{length}
use Rattle.words.specs.Words.{word_at}
use Rattle.words.proofs.Words.{Below, word_at_lt}
use Rattle.format.specs.Limits.{lawful}
use Rattle.format.specs.Writer.{write}
use Rattle.format.specs.Tables.{table_size, term_size, Holds, Loaded, plan_in, plan_of_tables}
use Rattle.format.specs.Good.{good_by}
use Rattle.format.proofs.Lawful.{LawfulPlan, plan_parts, plan_whole, room_for}
use Rattle.format.proofs.Sections.{Sections}
use Rattle.format.proofs.Bools.{and_left, and_right, and_join}
use Rattle.format.proofs.Arranged.{Arranged}
use Rattle.format.proofs.GoodOrder.{good_arranged, arranged_good}
use Rattle.format.proofs.Sound.{Sound, good_sound, sound_good}
use Rattle.format.proofs.GoodPlan.{plan_sound, plan_sections}
use Rattle.format.proofs.PlanGood.{sections_sound}
use Rattle.format.proofs.ReadBack.{holds_sections, holds_arranged, sections_holds}
use Rattle.format.proofs.WriteBytes.{write_bytes}
use Rattle.format.proofs.RoundTrip.{read_write}
use Rattle.format.proofs.Accepted.{accepted_lawful}

module _ (tables terms : List ℕ) where
  -- Good tables of full size hold the plan read back from them, and it is lawful.
  module _ (bt : Below 256 tables) (bs : Below 256 terms) (good : good_by (word_at tables) (word_at terms) ≡ true) where
    sound_here : Sound (word_at tables) (word_at terms)
    unfolding good_by
    sound_here = good_sound (word_at tables) (word_at terms) (and_left _ _ good)

    lawful_here : LawfulPlan (plan_in (word_at tables) (word_at terms))
    lawful_here = plan_sound (word_at tables) (word_at terms) (λ i. word_at_lt tables i bt) (λ i. word_at_lt terms i bs) sound_here

    sections_here : Sections (plan_in (word_at tables) (word_at terms)) (word_at tables) (word_at terms)
    sections_here = plan_sections (word_at tables) (word_at terms) (λ i. word_at_lt tables i bt) (λ i. word_at_lt terms i bs) sound_here

    arranged_here : Arranged (plan_in (word_at tables) (word_at terms)) (word_at tables)
    unfolding good_by
    arranged_here = good_arranged _ (room_for _ lawful_here) (word_at tables) (word_at terms) sections_here (and_right _ _ good)

    pub good_lawful : T (lawful (plan_of_tables tables terms))
    unfolding plan_of_tables
    good_lawful = plan_whole _ lawful_here

    pub good_holds : table_size ≤ length tables → term_size ≤ length terms → Holds (plan_of_tables tables terms) tables terms
    unfolding plan_of_tables
    good_holds nt ns = sections_holds _ (room_for _ lawful_here) tables terms bt bs nt ns sections_here arranged_here

    pub good_loaded : table_size ≤ length tables → term_size ≤ length terms → Loaded tables terms
    unfolding Loaded
    good_loaded nt ns =
        let p = plan_of_tables tables terms in
        (write p, p, write_bytes p, read_write p good_lawful, good_holds nt ns)

  -- The other way there is nothing to ask of the tables.
  pub loaded_good : Loaded tables terms → good_by (word_at tables) (word_at terms) ≡ true
  unfolding Loaded good_by
  loaded_good l =
      let (file, p, bytes, accepted, holds) = l in
      let q = plan_parts p (accepted_lawful file p accepted) in
      let s = holds_sections p (room_for p q) tables terms holds in
      and_join _ _ (sound_good _ _ (sections_sound p q (word_at tables) (word_at terms) s))
      (arranged_good p (room_for p q) (word_at tables) (word_at terms) s (holds_arranged p (room_for p q) tables terms holds))
