-- Laws of the tightening: tables with the added clause, what a call under its bound comes to, and what tightening from a find comes to, step by step.
-- Assumes nothing.
use Prim.Native.Nat.{ℕ, ◌+◌, ◌-◌, ◌≤◌}
use native.Mathlib.Omega.{arith}
use mathlib.Core.Path.{◌≡◌, refl, sym, ap, ◌∙◌, subst}
use mathlib.Core.List.{List, [], ◌∷◌, ◌++◌}
use lib.Dec.{T, leb}
use lib.IntN.{ℤ, nat_abs}
use lib.ListN.{length, take, drop, length-append, length-take}
use lib.Seq.{take_at, drop_at}
use mir.Facts.{to_z-of_z}
use mir.Syntax.{w64}
use mir.Val.{to_z, of_z, SFits}
use Rattle.plpb.specs.Lists.{all}
use Rattle.plpb.specs.Plan.{absent, present, Clause, Plan, Assignment, obeys, satisfies, cost}
use Rattle.plpb.proofs.Costs.{tightened_obeys}
use Rattle.plpb.proofs.Soundness.{call_obeys}
use Rattle.plpb.specs.Walk.{ends, run}
use Rattle.plpb.specs.Settings.{Settings}
use Rattle.plpb.specs.Search.{reached, call, tightened}
use Rattle.plpb.specs.Walk.{at}
use Rattle.words.specs.Words.{word_bytes, word_at}
use Rattle.words.proofs.Words.{length_word_bytes}
use Rattle.format.specs.Limits.{roomy}
use Rattle.format.specs.Tables.{plan_of_tables, table_words, table_size}
use Rattle.format.proofs.Lawful.{lawful_roomy, roomy_parts}
use Rattle.format.proofs.ReadBack.{read_back}
use Rattle.format.proofs.Sections.{length_table_words}
use Rattle.counting.proofs.Signed.{small_fits}
use Rattle.objective.specs.Added.{rebound}
use Rattle.costs.specs.Sums.{Summable, cost_in}
use Rattle.costs.proofs.Costs.{table_room, variables_in_lem, summable, cost_in_lem, cost_size}
use Rattle.objective.proofs.TightenedTables.{roomy_tightened, rebound_rules, rebound_bytes, rebound_holds, rebound_back}
use Rattle.format.specs.Assignment.{bits_in}
use Rattle.tallies.specs.Layout.{bits_of, are_bits}
use Rattle.recount.specs.Core.{Laid}
use Rattle.recount.proofs.Callers.{held_laid}
use Rattle.numbers.specs.Numbers.{numbers_of}
use Rattle.std.specs.Prelude.{Result, Ok, Err}
use Rattle.tries.specs.declared.Spent.{Spent}
use Rattle.moves.specs.declared.Stop.TheVariants as stop
use Rattle.progress.specs.declared.Progress.{Progress}
use Rattle.lending.specs.Work.{Work, Beyond}
use Rattle.tries.specs.Steps.{Unreached, Startable, tried_of, spent_by, used_by, flips_by, IfReached, Finds, Tries}
use Rattle.progress.specs.Bounds.{Halt, untightened, basis, Bounded, Tracks, Room, Leaves, called_of, progress_in, FindOr, CallsUnder}
use Rattle.format.specs.Layout.{rule_room}

-- ---- a plan with an added clause, and without it

pub without_added : (p : Plan) (m : ℤ) → untightened (tightened p m) ≡ p
unfolding untightened tightened
without_added p m =
    let c : List Clause = (record { lower = absent; upper = present m; terms = p.objective } ∷ []) ∷ [] in
    let e : take (length (p.clauses ++ c) - 1) (p.clauses ++ c) ≡ p.clauses = take_at p.clauses c (length (p.clauses ++ c) - 1) (omega (arith, length-append p.clauses c)) in
    λ j. record { variables = p.variables; objective = p.objective; locks = p.locks; clauses = e j }

same_variables : (p : Plan) (m : ℤ) → (tightened p m).variables ≡ p.variables
unfolding tightened
same_variables p m = refl

same_cost : (p : Plan) (m : ℤ) (a : Assignment) → cost (tightened p m) a ≡ cost p a
unfolding tightened cost
same_cost p m a = refl

-- ---- the tables that hold it

module _ {p : Plan} {tables terms : List ℕ} (b : Bounded p tables terms) where
  bounded_room : T (roomy (tightened p b.bound))
  bounded_room = roomy_tightened p b.lawful b.some b.bound b.within

  bounded_back : plan_of_tables tables terms ≡ tightened p b.bound
  bounded_back = read_back (tightened p b.bound) tables terms bounded_room b.holds

  pub bounded_basis : basis tables terms ≡ p
  unfolding basis
  bounded_basis = ap untightened bounded_back ∙ without_added p b.bound

  pub bounded_laid : Laid tables terms
  bounded_laid = held_laid (tightened p b.bound) tables terms bounded_room b.holds

  pub bounded_variables : (plan_of_tables tables terms).variables ≡ p.variables
  bounded_variables = ap (λ q. q.variables) bounded_back ∙ same_variables p b.bound

  pub bounded_word : word_at tables 0 ≡ p.variables
  bounded_word = variables_in_lem (tightened p b.bound) tables terms bounded_room b.holds ∙ same_variables p b.bound

  pub bounded_summable : Summable tables
  bounded_summable = summable (tightened p b.bound) tables terms bounded_room b.holds

  pub bounded_cost : (a : Assignment) → cost_in tables a ≡ cost p a
  bounded_cost a = cost_in_lem (tightened p b.bound) tables terms bounded_room b.holds a ∙ same_cost p b.bound a

  pub bounded_long : table_size ≤ length tables
  bounded_long = table_room (tightened p b.bound) tables terms bounded_room b.holds

  pub bounded_rules : word_at tables 2 ≤ rule_room
  bounded_rules = rebound_rules p b.lawful b.some b.bound b.bound b.within b.within tables terms b.holds

  module _ (m : ℤ) (within : nat_abs m ≤ 1_000_000_000) where
    pub rebounded : Bounded p (rebound m tables) terms
    rebounded =
        record {
          lawful = b.lawful;
          some = b.some;
          bound = m;
          within = within;
          holds = rebound_holds p b.lawful b.some b.bound m b.within within tables terms b.holds;
        }

    pub rebound_beyond : drop table_size (rebound m tables) ≡ drop table_size tables
    rebound_beyond =
        let l = roomy_parts (tightened p m) (roomy_tightened p b.lawful b.some m within) in
        let n = length_word_bytes (table_words (tightened p m)) in
        ap (drop table_size) (rebound_bytes p b.lawful b.some b.bound m b.within within tables terms b.holds)
        ∙ drop_at (word_bytes (table_words (tightened p m))) (drop table_size tables) table_size (omega (arith, n, length_table_words (tightened p m) l))

-- The cost of a find is small.
module _ {p : Plan} {tables terms : List ℕ} (b : Bounded p tables terms) where
  pub cost_small : {numbers assignment : List ℕ} {t : Progress} → Tracks p numbers assignment t → nat_abs t.cost ≤ 512_000_000
  cost_small {assignment = assignment} st = rw st.costs (cost_size p (lawful_roomy p b.lawful) (bits_of p.variables assignment))

  pub cost_fits : {numbers assignment : List ℕ} {t : Progress} → Tracks p numbers assignment t → SFits w64 t.cost
  cost_fits {t = t} st = small_fits t.cost (omega (arith, cost_small st))

-- ---- a find copied over the one before

module _ (n : ℕ) (x y : List ℕ) (h : n ≤ length x) where
  front : take n (take n x ++ drop n y) ≡ take n x
  front = take_at (take n x) (drop n y) n (omega (arith, length-take n x))

  pub front_bits : bits_of n (take n x ++ drop n y) ≡ bits_of n x
  unfolding bits_of
  front_bits = ap bits_in front

  pub front_are_bits : are_bits n (take n x ++ drop n y) ≡ are_bits n x
  unfolding are_bits
  front_are_bits = ap (all (λ b. leb b 1)) front

  pub front_beyond : drop n (take n x ++ drop n y) ≡ drop n y
  front_beyond = drop_at (take n x) (drop n y) n (omega (arith, length-take n x))

-- ---- a call under a bound

abbrev pub TriesUnder : Settings → List ℕ → List ℕ → List ℕ → Progress → Work → Work → Result Spent Unreached → Type 0
TriesUnder s tables terms numbers from w v r = Tries (call s (plan_of_tables tables terms)) tables terms numbers from.spent.used from.spent.flips (from.spent.used + 1) r w v

module _ {p : Plan} {tables terms assignment : List ℕ} {w : Work} (room : Room p tables terms assignment w) (m : ℤ) (within : nat_abs m ≤ 1_000_000_000)
    {after : List ℕ} (told : after ≡ rebound (to_z w64 (of_z w64 m)) tables)
  where
    e : after ≡ rebound m tables
    e = told ∙ ap (λ k. rebound k tables) (to_z-of_z (small_fits m (omega arith)))

    pub under_bounded : Bounded p after terms
    under_bounded = rw e (rebounded room.bounded m within)

    under_back : plan_of_tables after terms ≡ tightened p m
    under_back =
        let b = room.bounded in
        ap (λ s. plan_of_tables s terms) e ∙ rebound_back p b.lawful b.some b.bound m b.within within tables terms b.holds

    pub under_startable : Startable after terms w
    under_startable =
        let l = bounded_laid under_bounded in
        let n = bounded_variables under_bounded in
        record {
          ready = record { laid = l; bytes = omega (arith, n, room.tried) };
          room = room.tallies;
          columns = room.marks;
        }

    module _ (s : Settings) {numbers : List ℕ} {from : Progress} (st : Tracks p numbers assignment from) {v : Work} where
      under_outcome : {r : Result Spent Unreached} → TriesUnder s after terms numbers from w v r → (fs : List Assignment)
          → run (call s (tightened p m)) (numbers_of numbers) (at from.spent.used from.spent.flips fs) ≡ tried_of r (bits_of p.variables v.assignment) fs
      unfolding tightened
      under_outcome {r} t fs =
          subst (λ q. run (call s q) (numbers_of numbers) (at from.spent.used from.spent.flips fs) ≡ tried_of r (bits_of q.variables v.assignment) fs) under_back (t.outcome fs)

      under_beyond : {r : Result Spent Unreached} → TriesUnder s after terms numbers from w v r → Beyond p.variables w v
      under_beyond t = rw (← bounded_variables under_bounded) t.beyond

      module _ {r : Result Spent Unreached} {d : Spent} where
        -- A find.
        module _ (k : r ≡ Ok d) (t : TriesUnder s after terms numbers from w v r) (long : p.variables ≤ length v.assignment) {z : ℤ} {exit : List ℕ}
            (c : z ≡ cost_in after (bits_of (word_at after 0) v.assignment))
            (x : exit ≡ take (word_at after 0) v.assignment ++ drop (word_at after 0) assignment)
          where
            reached_by_lem : TriesUnder s after terms numbers from w v (Ok d)
            reached_by_lem = subst (TriesUnder s after terms numbers from w v) k t

            reached_finds : Finds after terms (from.spent.used + 1) d.used v
            unfolding IfReached spent_by
            reached_finds = reached_by_lem.finds

            exit_is : exit ≡ take p.variables v.assignment ++ drop p.variables assignment
            exit_is = x ∙ ap (λ n. take n v.assignment ++ drop n assignment) (bounded_word under_bounded)

            exit_bits : bits_of p.variables exit ≡ bits_of p.variables v.assignment
            exit_bits = ap (bits_of p.variables) exit_is ∙ front_bits p.variables v.assignment assignment long

            exit_are_bits : T (are_bits p.variables exit)
            exit_are_bits =
                rw (exit_is, front_are_bits p.variables v.assignment assignment long) (rw (bounded_variables under_bounded) at reached_finds.bits)

            exit_costs : z ≡ cost p (bits_of p.variables exit)
            exit_costs = c ∙ bounded_cost under_bounded _ ∙ ap (cost p) (bits_of_lem ∙ sym exit_bits)
              where
                bits_of_lem : bits_of (word_at after 0) v.assignment ≡ bits_of p.variables v.assignment
                bits_of_lem = ap (λ n. bits_of n v.assignment) (bounded_word under_bounded)

            exit_satisfies : T (satisfies (bits_of (tightened p m).variables exit) (tightened p m))
            exit_satisfies =
                let g : T (satisfies (bits_of (tightened p m).variables v.assignment) (tightened p m)) =
                subst (λ q. T (satisfies (bits_of q.variables v.assignment) q)) under_back reached_finds.satisfied in
                subst (λ a. T (satisfies a (tightened p m))) (sym (rw (← same_variables p m) at exit_bits)) g

            exit_obeys : T (obeys (bits_of p.variables exit) p)
            unfolding tried_of
            exit_obeys =
                subst (λ a. T (obeys a p)) (sym exit_bits)
                (subst T (tightened_obeys p m _) (call_obeys s (tightened p m) (numbers_of numbers) from.spent.used from.spent.flips [] st.flips (under_outcome reached_by_lem [])))

            pub called_found :
                CallsUnder s p m numbers from (Ok (record { cost = z; finds = from.finds + 1; spent = d })) assignment exit
                × Leaves p tables terms after assignment exit w v
            unfolding tried_of called_of progress_in FindOr spent_by
            called_found = (
              record {
                outcome = λ fs. under_outcome reached_by_lem fs ∙ ap (λ a. ends (reached a) (at d.used d.flips fs)) (sym exit_bits);
                find = (refl, exit_satisfies);
                tracks = record {
                  bits = exit_are_bits;
                  obeyed = exit_obeys;
                  costs = exit_costs;
                  finds = omega (arith, st.finds, reached_finds.uses);
                  flips = reached_by_lem.flipped;
                  within = reached_by_lem.within;
                };
              },
              record {
                bounded = under_bounded;
                table = ap (drop table_size) e ∙ rebound_beyond room.bounded m within;
                find = ap (drop p.variables) exit_is ∙ front_beyond p.variables v.assignment assignment long;
                beyond = under_beyond t;
              },
            )

        -- None.
        module _ (t : TriesUnder s after terms numbers from w v r) where
          -- The assignment stays, and only what is spent changes.
          unreached : {h : Halt} → spent_by r ≡ d → progress_in (Err h) ≡ record { cost = to_z w64 (of_z w64 from.cost); finds = from.finds; spent = d }
              → FindOr (tightened p m) from.finds assignment assignment (Err h)
              → ((fs : List Assignment) → tried_of r (bits_of p.variables v.assignment) fs ≡ called_of (Err h) (bits_of p.variables assignment) fs)
              → CallsUnder s p m numbers from (Err h) assignment assignment × Leaves p tables terms after assignment assignment w v
          unreached k g f o =
              let l : used_by r ≡ d.used = ap (λ (q : Spent). q.used) k in
              let n : flips_by r ≡ d.flips = ap (λ (q : Spent). q.flips) k in (
                record {
                  outcome = λ fs. under_outcome t fs ∙ o fs;
                  find = f;
                  tracks = rw g (record {
                    bits = st.bits;
                    obeyed = st.obeyed;
                    costs = to_z-of_z (cost_fits room.bounded st) ∙ st.costs;
                    finds = omega (arith, st.finds, t.uses);
                    flips = omega (arith, t.flipped);
                    within = omega (arith, t.within);
                  });
                },
                record { bounded = under_bounded; table = ap (drop table_size) e ∙ rebound_beyond room.bounded m within; find = refl; beyond = under_beyond t },
              )

          pub called_failed : r ≡ Err (stop.Failed d) →
              CallsUnder s p m numbers from (Err (stop.Failed (record { cost = to_z w64 (of_z w64 from.cost); finds = from.finds; spent = d }))) assignment assignment
              × Leaves p tables terms after assignment assignment w v
          unfolding tried_of called_of progress_in FindOr spent_by
          called_failed k = unreached (ap spent_by k) refl (refl, refl) (λ fs. ap (λ q. tried_of q (bits_of p.variables v.assignment) fs) k)

          pub called_short : r ≡ Err (stop.Short d) →
              CallsUnder s p m numbers from (Err (stop.Short (record { cost = to_z w64 (of_z w64 from.cost); finds = from.finds; spent = d }))) assignment assignment
              × Leaves p tables terms after assignment assignment w v
          unfolding tried_of called_of progress_in FindOr spent_by
          called_short k = unreached (ap spent_by k) refl (refl, refl) (λ fs. ap (λ q. tried_of q (bits_of p.variables v.assignment) fs) k)
