-- Laws of the whole search: the copied tables hold the plan, the first call decides, and from a first find the tightening goes on; what is handed out satisfies the plan.
-- Assumes nothing.
use Prim.Native.Nat.{ℕ, zero, suc, ◌≤◌, ◌<◌}
use native.Mathlib.Omega.{arith}
use mathlib.Core.Path.{◌≡◌, refl, sym, ap, ap₂, ◌∙◌, subst}
use mathlib.Core.Bool.{true, false}
use mathlib.Core.List.{List, [], ◌∷◌, ◌++◌}
use lib.Dec.{T}
use lib.IntN.{ℤ, pos, nat_abs}
use lib.ListN.{length, take, drop, length-append}
use lib.Seq.{length-take-le, drop_at}
use lib.Signed.{le_z}
use mir.Facts.{to_z-of_z}
use mir.Syntax.{w64}
use mir.Val.{to_z, of_z, SFits}
use Rattle.plpb.specs.Lists.{◌and◌, is_empty}
use Rattle.plpb.specs.Plan.{Plan, Assignment, obeys, cost, floor_cost}
use Rattle.plpb.proofs.Soundness.{call_obeys}
use Rattle.plpb.specs.Walk.{Mark, ends, run}
use Rattle.plpb.specs.Settings.{Mode, linear, lbs, Settings}
use Rattle.plpb.specs.Search.{Reached, failed, reached, tightened, floor, at_floor, gap, linear_search, lbs_search, tighten, last_find, cost_of, answer_of as answered, conclude, begin, search}
use Rattle.plpb.specs.Walk.{at}
use Rattle.plpb.proofs.Costs.{floor_below}
use Rattle.words.specs.Words.{word_bytes, word_at}
use Rattle.words.proofs.Words.{length_word_bytes}
use Rattle.format.specs.Limits.{lawful, roomy}
use Rattle.format.specs.Tables.{Holds, plan_of_tables, table_words, term_words, table_size, term_size}
use Rattle.format.proofs.Bools.{T_true}
use Rattle.format.proofs.Lawful.{plan_parts, roomy_parts, lawful_roomy}
use Rattle.format.proofs.IsLoaded.{is_loaded_lawful, is_loaded_holds}
use Rattle.format.proofs.ReadBack.{read_back}
use Rattle.format.proofs.Sections.{length_table_words, length_term_words}
use Rattle.costs.specs.Sums.{Summable, cost_in, floor_in}
use Rattle.costs.proofs.Costs.{summable, variables_in_lem, cost_in_lem, floor_in_lem, some_objective}
use Rattle.objective.specs.Added.{Boundable}
use Rattle.objective.proofs.TightenedTables.{copied_hold, roomy_tightened, bound_holds}
use Rattle.tallies.specs.Layout.{assignment_size, bits_of, bit_bytes, are_bits}
use Rattle.recount.specs.Core.{Laid}
use Rattle.tallies.proofs.Bits.{whole_bytes}
use Rattle.recount.proofs.Callers.{held_laid}
use Rattle.numbers.specs.Numbers.{numbers_of}
use Rattle.numbers.proofs.Runs.{descending_none, descending_floor, search_none, search_found, search_short}
use Rattle.std.specs.Prelude.{Result, Ok, Err}
use Rattle.tries.specs.declared.Spent.{Spent}
use Rattle.moves.specs.declared.Stop.TheVariants as reason
use Rattle.progress.specs.declared.Progress.{Progress}
use Rattle.progress.specs.declared.Ending.{Ending as EndingOf}
use Rattle.progress.specs.declared.Ending.TheVariants as code
use Rattle.progress.specs.declared.Searched.{Searched}
use Rattle.lending.specs.Work.{Work, Beyond}
use Rattle.tries.specs.Steps.{Unreached, Startable, tried_of, spent_by, IfReached}
use Rattle.progress.specs.Bounds.{basis, Bounded, Tracks, Room, Leaves, answer_of, ending_of, Concludes}
use Rattle.finds.specs.Whole.{with_find, CallsFirst, Copyable, Empty, FirstCall, Roomy, FirstFind, FromFind, Searchable, Unfound, Whole}
use Rattle.progress.proofs.Bounds.{bounded_basis, front_bits, front_are_bits, front_beyond}

-- ---- a find copied out

module _ (n : ℕ) (found entry : List ℕ) (room : n ≤ length found) {exit : List ℕ} (e : exit ≡ take n found ++ drop n entry) where
  copied_bits : bits_of n exit ≡ bits_of n found
  copied_bits = ap (bits_of n) e ∙ front_bits n found entry room

  copied_are_bits : T (are_bits n found) → T (are_bits n exit)
  copied_are_bits t = rw (e, front_are_bits n found entry room) t

  copied_beyond : drop n exit ≡ drop n entry
  copied_beyond = ap (drop n) e ∙ front_beyond n found entry room

-- The bytes of a find are those of its bits, and what stood behind them.
find_bytes : (n : ℕ) (entry exit : List ℕ) → T (are_bits n exit) → drop n exit ≡ drop n entry → exit ≡ with_find (reached (bits_of n exit)) n entry
unfolding with_find
find_bytes n entry exit t e = whole_bytes n exit t ∙ ap (λ d. bit_bytes (bits_of n exit) ++ d) e

-- ---- a find that costs l(O)

module _ (s : Settings) (p : Plan) (ns : List ℕ) (a : Assignment) (m : Mark) (e : at_floor p a ≡ true) where
  floor_ends : (mode : Mode) (left : ℕ) → run (tighten mode s p left a) ns m ≡ ends floor m
  unfolding tighten linear_search lbs_search
  floor_ends linear zero = descending_none s p linear _ ns a m
  floor_ends linear (suc left) = descending_floor s p linear _ ns a m left e
  floor_ends lbs zero = descending_none s p lbs _ ns a m
  floor_ends lbs (suc left) = descending_floor s p lbs _ ns a m left e

first_answer : (p : Plan) (a : Assignment) (used flips : ℕ) (v : ℤ) → v ≡ cost p a
    → conclude p (ends floor (at used flips (a ∷ [])))
    ≡ answer_of code.Floor (record { cost = v; finds = 1; spent = record { used = used; flips = flips } }) (reached a)
unfolding conclude answered last_find cost_of answer_of ending_of
first_answer p a used flips v e = λ j. record { ending = floor; cost = (sym e) j; finds = 1; flips = flips; used = used; assignment = reached a }

-- ---- from the first find on

module _ {tables terms numbers : List ℕ} {used flips : ℕ} {assignment : List ℕ} {w : Work} (h : FirstFind tables terms numbers used flips assignment w) where
  abbrev here : Plan
  here = plan_of_tables tables terms

  abbrev find : Assignment
  find = bits_of (plan_of_tables tables terms).variables w.assignment

  room : T (roomy (plan_of_tables tables terms))
  room = lawful_roomy here h.lawful

  few : here.variables ≤ 512
  few = (plan_parts here h.lawful).high

  count : word_at tables 0 ≡ here.variables
  count = variables_in_lem here tables terms room h.holds

  pub find_summable : Summable tables
  find_summable = summable here tables terms room h.holds

  pub find_keepable : Summable tables × (word_at tables 0 ≤ length w.assignment) × (word_at tables 0 ≤ length assignment)
  find_keepable = (find_summable, omega (arith, few, count, h.work.assignment), omega (arith, few, count, h.room))

  module _ {v least : ℤ} {kept : List ℕ}
      (k : (v ≡ cost_in tables (bits_of (word_at tables 0) w.assignment)) × (kept ≡ take (word_at tables 0) w.assignment ++ drop (word_at tables 0) assignment))
      (f : least ≡ floor_in tables) (vf : SFits w64 v) (lf : SFits w64 least)
    where
      bytes : here.variables ≤ length w.assignment
      bytes = omega (arith, few, h.work.assignment)

      costs : to_z w64 (of_z w64 v) ≡ cost here find
      costs =
          to_z-of_z vf ∙ k.0 ∙ cost_in_lem here tables terms room h.holds _ ∙ ap (λ n. cost here (bits_of n w.assignment)) count

      floored : to_z w64 (of_z w64 least) ≡ floor_cost here
      floored = to_z-of_z lf ∙ f ∙ floor_in_lem here tables terms room h.holds

      copied : kept ≡ take here.variables w.assignment ++ drop here.variables assignment
      copied = k.1 ∙ ap (λ n. take n w.assignment ++ drop n assignment) count

      kept_bits : bits_of here.variables kept ≡ find
      kept_bits = copied_bits here.variables w.assignment assignment bytes copied

      kept_are_bits : T (are_bits here.variables kept)
      kept_are_bits = copied_are_bits here.variables w.assignment assignment bytes copied h.bits

      kept_beyond : drop here.variables kept ≡ drop here.variables assignment
      kept_beyond = copied_beyond here.variables w.assignment assignment bytes copied

      abbrev progress : Progress
      progress = record { cost = to_z w64 (of_z w64 v); finds = 1; spent = record { used = used; flips = flips } }

      -- "A found assignment of cost v with v = l(O) ends the search."
      pub from_floor : (s : Settings) → le_z (to_z w64 (of_z w64 v)) (to_z w64 (of_z w64 least)) ≡ true
          → FromFind s tables terms numbers used flips
          (record { ending = code.Floor; progress = record { cost = to_z w64 (of_z w64 v); finds = 1; spent = record { used = used; flips = flips } } })
          assignment kept w w
      unfolding at_floor ◌and◌
      from_floor s t =
          let low : le_z (cost here find) (floor_cost here) ≡ true = sym (ap₂ le_z costs floored) ∙ t in
          let ground : at_floor here find ≡ true = rw (low, T_true (le_z (floor_cost here) (cost here find)) (floor_below here find h.obeyed)) in
          record {
            answers =
                ap (conclude here) (floor_ends s here (numbers_of numbers) find (at used flips (find ∷ [])) ground s.mode (gap here find))
                ∙ first_answer here find used flips _ costs
                ∙ ap (λ b. answer_of code.Floor progress (reached b)) (sym kept_bits);
            find = find_bytes here.variables assignment kept kept_are_bits kept_beyond;
            beyond = record { assignment = refl; tallies = refl; marks = refl };
          }

      -- A find above l(O) shows that the objective has a term, so that the clause can be added.
      some_term : le_z (to_z w64 (of_z w64 v)) (to_z w64 (of_z w64 least)) ≡ false → 0 < length here.objective
      unfolding at_floor ◌and◌
      some_term t =
          let high : le_z (cost here find) (floor_cost here) ≡ false = sym (ap₂ le_z costs floored) ∙ t in
          let above : at_floor here find ≡ false = rw high in some_objective here find above

      pub boundable : le_z (to_z w64 (of_z w64 v)) (to_z w64 (of_z w64 least)) ≡ false → Boundable tables terms
      boundable t = record { lawful = h.lawful; holds = h.holds; some = some_term t }

      -- Else the clause is added, and the tightening goes on with it.
      module _ (t : le_z (to_z w64 (of_z w64 v)) (to_z w64 (of_z w64 least)) ≡ false) (m : ℤ) (within : nat_abs m ≤ 1_000_000_000) {tables' terms' : List ℕ}
          (e : tables' ≡ word_bytes (table_words (tightened (plan_of_tables tables terms) m)) ++ drop table_size tables)
          (g : terms' ≡ word_bytes (term_words (tightened (plan_of_tables tables terms) m)) ++ drop term_size terms)
        where
          some : 0 < length here.objective
          some = some_term t

          bounded : Bounded here tables' terms'
          bounded =
              record {
                lawful = h.lawful;
                some = some;
                bound = m;
                within = within;
                holds = bound_holds here h.lawful tables terms h.holds some m within tables' terms' e g;
              }

          same : basis tables' terms' ≡ here
          same = bounded_basis bounded

          long : here.variables ≤ length kept
          long =
              omega
              (arith, ap length copied, length-append (take here.variables w.assignment) (drop here.variables assignment), length-take-le here.variables w.assignment bytes)

          pub tighten_ready :
              Room (basis tables' terms') tables' terms' kept w
              × Tracks (basis tables' terms') numbers kept (record { cost = to_z w64 (of_z w64 v); finds = 1; spent = record { used = used; flips = flips } })
              × (to_z w64 (of_z w64 least) ≡ floor_cost (basis tables' terms'))
          tighten_ready =
              subst (λ q. Room q tables' terms' kept w × Tracks q numbers kept progress × (to_z w64 (of_z w64 least) ≡ floor_cost q)) (sym same) (
                record {
                  bounded = bounded;
                  find = long;
                  tried = bytes;
                  tallies = h.work.tallies;
                  marks = h.work.marks;
                },
                record {
                  bits = kept_are_bits;
                  obeyed = subst (λ a. T (obeys a here)) (sym kept_bits) h.obeyed;
                  costs = costs ∙ ap (cost here) (sym kept_bits);
                  finds = h.some;
                  flips = h.few;
                  within = h.within;
                },
                floored,
              )

          beyond_terms : drop term_size terms' ≡ drop term_size terms
          beyond_terms =
              let l = roomy_parts (tightened here m) (roomy_tightened here h.lawful some m within) in
              let n = length_word_bytes (term_words (tightened here m)) in
              ap (drop term_size) g
              ∙ drop_at (word_bytes (term_words (tightened here m))) (drop term_size terms) term_size (omega (arith, n, length_term_words (tightened here m) l))

          beyond_table : drop table_size tables' ≡ drop table_size tables
          beyond_table =
              let l = roomy_parts (tightened here m) (roomy_tightened here h.lawful some m within) in
              let n = length_word_bytes (table_words (tightened here m)) in
              ap (drop table_size) e
              ∙ drop_at (word_bytes (table_words (tightened here m))) (drop table_size tables) table_size (omega (arith, n, length_table_words (tightened here m) l))

          pub from_tightened : (s : Settings) {r : Searched} {out exit : List ℕ} {u : Work}
              → Concludes (tighten s.mode s) (basis tables' terms') numbers (record { cost = to_z w64 (of_z w64 v); finds = 1; spent = record { used = used; flips = flips } })
              (bits_of (basis tables' terms').variables kept) (answer_of r.ending r.progress (reached (bits_of (basis tables' terms').variables exit)))
              × Tracks (basis tables' terms') numbers exit r.progress
              × Leaves (basis tables' terms') tables' terms' out kept exit w u
              → FromFind s tables terms numbers used flips r assignment exit w u
              × (drop table_size out ≡ drop table_size tables)
              × (drop term_size terms' ≡ drop term_size terms)
          from_tightened s {r} {out} {exit} {u} k =
              let c = subst (λ q. Concludes (tighten s.mode s) q numbers progress (bits_of q.variables kept) (answer_of r.ending r.progress (reached (bits_of q.variables exit)))) same k.0 in
              let b = subst (λ q. Tracks q numbers exit r.progress) same k.1 in
              let l = subst (λ q. Leaves q tables' terms' out kept exit w u) same k.2 in (
                record {
                  answers =
                      rw kept_bits at (c (gap here find) [] (subst (λ a. gap here a ≤ gap here find) (sym kept_bits) (omega arith)) refl);
                  find = find_bytes here.variables assignment exit b.bits (l.find ∙ kept_beyond);
                  beyond = l.beyond;
                },
                l.table ∙ beyond_table,
                beyond_terms,
              )

-- ---- the first call, with the plan alone

unfoldable unreached : Assignment → Reached → Assignment
unreached d failed = d
unreached d (reached a) = a

nowhere : (a : Assignment) → failed ≡ reached a → ⊥
nowhere a e = let z : ◌≡◌ {A = ℕ} 0 1 = cc in omega arith

-- What a search answers where it found nothing.
module _ (s : Settings) (p : Plan) (numbers : List ℕ) (r : Searched) where
  unfound : {e : EndingOf} {used flips : ℕ}
      → search s p (numbers_of numbers) ≡ record { ending = ending_of e; cost = pos 0; finds = 0; flips = flips; used = used; assignment = failed } → Unfound e used flips r
      → search s p (numbers_of numbers) ≡ answer_of r.ending r.progress failed
  unfolding answer_of
  unfound e k =
      e ∙ (λ j. record {
        ending = ending_of (sym k.ending j);
        cost = sym k.cost j;
        finds = sym k.finds j;
        flips = sym k.flips_made j;
        used = sym k.numbers_used j;
        assignment = failed;
      })

  -- .. and what it leaves.
  empty_whole : {entry : List ℕ} {w v : Work} → search s p (numbers_of numbers) ≡ answer_of r.ending r.progress failed → Beyond p.variables w v
      → Whole s p numbers r entry entry w v
  unfolding answer_of with_find
  empty_whole {entry} {w} {v} e b =
      let f : (search s p (numbers_of numbers)).assignment ≡ failed = ap (λ x. x.assignment) e in
      record {
        answers = e ∙ ap (answer_of r.ending r.progress) (sym f);
        last = λ a g. absurd (nowhere a (sym f ∙ g));
        find = rw f refl;
        beyond = b;
      }

  found_whole : {entry exit : List ℕ} {w v : Work} → search s p (numbers_of numbers) ≡ answer_of r.ending r.progress (reached (bits_of p.variables exit))
      → exit ≡ with_find (reached (bits_of p.variables exit)) p.variables entry → Beyond p.variables w v → Whole s p numbers r entry exit w v
  unfolding answer_of unreached
  found_whole {entry} {exit} {w} {v} e x b =
      let f : (search s p (numbers_of numbers)).assignment ≡ reached (bits_of p.variables exit) = ap (λ y. y.assignment) e in
      record {
        answers = e ∙ ap (answer_of r.ending r.progress) (sym f);
        last = λ a g. ap (unreached a) (sym f ∙ g);
        find = rw f x;
        beyond = b;
      }

unchanged : {n : ℕ} {w : Work} → Beyond n w w
unchanged = record { assignment = refl; tallies = refl; marks = refl }

beyond_both : {n : ℕ} {w v u : Work} → Beyond n w v → Beyond n v u → Beyond n w u
beyond_both a b =
    record { assignment = b.assignment ∙ a.assignment; tallies = b.tallies ∙ a.tallies; marks = b.marks ∙ a.marks }

-- By what the first call came to.
module _ {s : Settings} {tables terms numbers : List ℕ} {t : Result Spent Unreached} {assignment : List ℕ} {w : Work} (h : FirstCall s tables terms numbers t assignment w) where
  abbrev plan : Plan
  plan = plan_of_tables tables terms

  told_as : (x : Result Spent Unreached) → t ≡ x → FirstCall s tables terms numbers x assignment w
  told_as x e = subst (λ y. FirstCall s tables terms numbers y assignment w) e h

  pub call_first : {d : Spent} → t ≡ Ok d → FirstFind tables terms numbers d.used d.flips assignment w
  unfolding IfReached spent_by tried_of
  call_first {d} e =
      let k = told_as (Ok d) e in
      record {
        lawful = h.lawful;
        holds = h.holds;
        room = h.room;
        work = h.work;
        bits = k.finds.bits;
        obeyed = call_obeys s plan (numbers_of numbers) 0 0 [] (omega arith) (k.outcome []);
        some = k.finds.uses;
        few = k.flipped;
        within = k.within;
      }

  pub call_found : {d : Spent} {r : Searched} {exit : List ℕ} {u : Work} → t ≡ Ok d
      → FromFind s tables terms numbers d.used d.flips r assignment exit w u → Whole s (plan_of_tables tables terms) numbers r assignment exit w u
  unfolding tried_of search begin
  call_found {d} {r} {exit} {u} e z =
      let k = told_as (Ok d) e in
      let found : search s plan (numbers_of numbers) ≡ answer_of r.ending r.progress (reached (bits_of plan.variables exit)) =
      ap (conclude plan) (search_found s plan (numbers_of numbers) begin (k.outcome [])) ∙ z.answers in
      found_whole s plan numbers r found z.find z.beyond

  -- It reached nothing.
  pub call_empty : {r : Searched} → (why : Unreached) → t ≡ Err why → Empty (Err why) r → Whole s (plan_of_tables tables terms) numbers r assignment assignment w w
  unfolding tried_of search conclude answered last_find cost_of ending_of is_empty begin Empty
  call_empty {r} (reason.Failed d) e z =
      let k = told_as (Err (reason.Failed d)) e in
      empty_whole s plan numbers r (unfound s plan numbers r (ap (conclude plan) (search_none s plan (numbers_of numbers) begin (k.outcome []))) z) unchanged
  call_empty {r} (reason.Short d) e z =
      let k = told_as (Err (reason.Short d)) e in
      empty_whole s plan numbers r (unfound s plan numbers r (ap (conclude plan) (search_short s plan (numbers_of numbers) begin (k.outcome []))) z) unchanged

-- The work tables hold the plan once it is copied.
module _ {plan planTerms tables terms : List ℕ} {w : Work} (h : Copyable plan planTerms tables terms w) {tables' terms' : List ℕ}
    (e : tables' ≡ take table_size plan ++ drop table_size tables) (f : terms' ≡ take term_size planTerms ++ drop term_size terms)
  where
    abbrev lent : Plan
    lent = plan_of_tables plan planTerms

    abbrev copy : Plan
    copy = plan_of_tables tables' terms'

    plan_lawful : T (lawful lent)
    plan_lawful = is_loaded_lawful plan planTerms h.loaded

    held : Holds lent tables' terms'
    held = rw (e, f) (copied_hold lent (lawful_roomy lent plan_lawful) plan planTerms tables terms (is_loaded_holds plan planTerms h.loaded))

    back : copy ≡ lent
    back = read_back lent tables' terms' (lawful_roomy lent plan_lawful) held

    laid : Laid tables' terms'
    laid = held_laid lent tables' terms' (lawful_roomy lent plan_lawful) held

    small : copy.variables ≤ 512
    small = rw back (plan_parts lent plan_lawful).high

    pub copied_startable : Startable tables' terms' w
    copied_startable =
        record {
          ready = record { laid = laid; bytes = omega (arith, small, h.work.assignment) };
          room = h.work.tallies;
          columns = h.work.marks;
        }

-- What the first call leaves, and the whole from there.
module _ {s : Settings} {plan planTerms numbers : List ℕ} {t : Result Spent Unreached} {tables tables' terms terms' : List ℕ} {w v : Work} (h : Copyable plan planTerms tables terms w)
    (c : CallsFirst s plan planTerms numbers t tables tables' terms terms' w v)
  where
    read_again : plan_of_tables tables' terms' ≡ plan_of_tables plan planTerms
    read_again = back h c.copied c.copied_terms

    pub first_called : {assignment : List ℕ} → assignment_size ≤ length assignment → Roomy v → FirstCall s tables' terms' numbers t assignment v
    first_called room y =
        record {
          lawful = rw read_again (plan_lawful h c.copied c.copied_terms);
          holds = (laid h c.copied c.copied_terms).holds;
          room = room;
          work = y;
          outcome = c.called.outcome;
          finds = c.called.finds;
          flipped = c.called.flipped;
          within = c.called.within;
        }

    pub first_whole : {r : Searched} {assignment exit : List ℕ} {u : Work} → Whole s (plan_of_tables tables' terms') numbers r assignment exit v u
        → Whole s (plan_of_tables plan planTerms) numbers r assignment exit w u
    first_whole {r} {assignment} {exit} {u} z =
        subst (λ p. Whole s p numbers r assignment exit w u) read_again
        (record { answers = z.answers; last = z.last; find = z.find; beyond = beyond_both c.called.beyond z.beyond })

    pub first_table : drop table_size tables' ≡ drop table_size tables
    first_table = ap (drop table_size) c.copied ∙ drop_at (take table_size plan) (drop table_size tables) table_size (length-take-le table_size plan h.long)

    pub first_terms : drop term_size terms' ≡ drop term_size terms
    first_terms = ap (drop term_size) c.copied_terms ∙ drop_at (take term_size planTerms) (drop term_size terms) term_size (length-take-le term_size planTerms h.long_terms)

-- Room for everything is room for a copy.
pub searchable_copy : {plan planTerms assignment tables terms : List ℕ} {w : Work} → Searchable plan planTerms assignment tables terms w → Copyable plan planTerms tables terms w
searchable_copy h =
    record {
      loaded = h.loaded;
      long = h.long;
      long_terms = h.long_terms;
      work_long = h.work_long;
      work_long_terms = h.work_long_terms;
      work = h.work;
    }

-- Buffers of the same lengths have the same room.
pub same_room : {w v : Work} → Roomy w → length v.assignment ≡ length w.assignment → length v.tallies ≡ length w.tallies
    → length v.marks ≡ length w.marks → Roomy v
same_room h a t m =
    record {
      assignment = omega (arith, h.assignment);
      tallies = omega (arith, h.tallies);
      marks = omega (arith, h.marks);
    }
