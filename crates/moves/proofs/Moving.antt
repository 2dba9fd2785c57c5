-- Laws of a move: the tallies say which clause a pick takes, what a flip needs and what it leaves.
-- Assumes nothing.
use Prim.Native.Nat.{ℕ, zero, suc, ◌+◌, ◌*◌, ◌/◌, ◌≤◌, ◌<◌}
use native.Mathlib.Omega.{arith}
use mathlib.Core.Path.{◌≡◌, refl, sym, ap, ◌∙◌, subst}
use mathlib.Core.Bool.{false}
use mathlib.Core.List.{List, [], ◌∷◌}
use lib.ListN.{length, get_or, take, drop}
use lib.Dec.{T, ltb, lt→ltb}
use borrow.Author.Tests.{eq-eqb, ne_eqb}
use Rattle.plpb.specs.Lists.{all, count, keep, is_empty, row}
use Rattle.plpb.specs.Plan.{Clause, Plan, Assignment, flip, is_variable, rule_holds}
use Rattle.plpb.specs.Tallies.{unsatisfied}
use Rattle.plpb.specs.Numbers.{take_pick}
use Rattle.plpb.specs.Walk.{Walk, at, ends, run}
use Rattle.plpb.specs.Settings.{Settings}
use Rattle.plpb.specs.Try.{turn_over}
use Rattle.plpb.specs.Novelty.{last_flip}
use Rattle.plpb.specs.Choice.{choosable, pick_from, choice_by, choice}
use Rattle.plpb.specs.Search.{turned as turnedTo, turning, move}
use Rattle.words.specs.Words.{num_at, word_at}
use Rattle.words.proofs.Words.{num_at_take}
use Rattle.format.specs.Tables.{plan_of_tables}
use Rattle.tallies.specs.Layout.{tally_size, bits_of}
use Rattle.tallies.specs.Calls.{turned}
use Rattle.tallies.proofs.Bits.{length_turned, turned_bits, turned_are_bits, turned_beyond}
use Rattle.tallies.proofs.TallyBytes.{roomy_fits, length_fresh}
use Rattle.tallies.proofs.Tallied.{fresh_words, clause_word, total_word}
use Rattle.recount.proofs.Laid.{parts, clauses_word, clauses_few}
use Rattle.plpb.proofs.Lists.{all_still, and_both, count_le, is_true}
use Rattle.plpb.proofs.Locks.{variable_range}
use Rattle.plpb.proofs.Novelty.{Agree, agree_all, choices_agree}
use Rattle.words.specs.Writes.{Wrote}
use Rattle.stamps.specs.Stamps.{stamp_in, Stamped}
use Rattle.stamps.proofs.Stamping.{stamped_more}
use Rattle.costs.proofs.Costs.{room_of}
use Rattle.std.specs.Prelude.{Option, Some, IsSome, Result, Ok, Err, IsErrAnd}
use Rattle.std.specs.List.{slice_get}
use Rattle.std.proofs.lemmas.Option.{slice_get-get_or, get_or_from_slice_get}
use Rattle.numbers.proofs.Keep.{length_places}
use Rattle.numbers.specs.declared.Drawn.{Drawn}
use Rattle.numbers.specs.declared.Short.{Short}
use Rattle.numbers.specs.Numbers.{numbers_of}
use Rattle.numbers.specs.Taking.{taken_of}
use Rattle.numbers.specs.Finding.{zero_words}
use Rattle.numbers.proofs.Taking.{length_numbers_of, picked_at, picked_short, place_below, pick_uses, pick_gone}
use Rattle.numbers.proofs.Finding.{zero_places, clause_found, clause_within}
use Rattle.numbers.proofs.Runs.{bind_ends, bind_short, pick_from_taken, pick_from_short, empty_by_length, turning_stuck, turning_made, turning_short}
use Rattle.picking.specs.Outcome.{Chosen, outcome_of, used_by, Among, Chooses}
use Rattle.columns.specs.Layout.{column_size, kept_size, list_count_at, hint_at, weight_at}
use Rattle.columns.specs.Columns.{Weighed, Hinted, Listed}
use Rattle.columns.proofs.Marks.{Behind, dropped_behind, dropped_more, behind_more, wrote_behind, weighed_behind, hinted_same, listed_behind}
use Rattle.keeping.specs.Flip.{Keepable, Kept}
use Rattle.effects.specs.declared.footing.Footing.{Footing}
use Rattle.effects.specs.Footing.{plan_on}
use Rattle.skc.specs.Choosing.{ToChoose}
use Rattle.picks.specs.Picks.{Noted}
use Rattle.moves.specs.declared.Stop.TheVariants as stop
use Rattle.lending.specs.Work.{Work}
use Rattle.moves.specs.Moves.{Unmoved, bits_in, try_in, Prepared, Walking, moved_of, used_in, IfMade, InClause, Moves}
use Rattle.format.specs.Layout.{clause_room, holding_at, rule_room, unsatisfied_at, stamp_at}

-- The variables that may be chosen are the plan's.
rows_within : (p : Plan) (i k : ℕ) → 1 ≤ i → i + k ≤ suc p.variables → T (all (is_variable p) (row i k))
unfolding row all is_variable
rows_within p i zero l h = tt
rows_within p i (suc k) l h = and_both _ _ (and_both (ltb 0 i) (ltb i (suc p.variables)) (lt→ltb 0 i l) (lt→ltb i (suc p.variables) (omega arith))) (rows_within p (suc i) k (omega arith) (omega arith))

choosable_variables : (p : Plan) (c : Clause) → T (all (is_variable p) (choosable p c))
unfolding choosable
choosable_variables p c = all_still _ (is_variable p) (row 1 p.variables) (rows_within p 1 p.variables (omega arith) (omega arith))

-- ---- what a choice leaves of the marks: the numbers of the last flips, the weights and the lists, and what stands past all of them

record Spared (s t : List ℕ) : Type 0 where
  size : length t ≡ length s
  stamps : (x : ℕ) → 1 ≤ x → x ≤ 512 → stamp_in t x ≡ stamp_in s x
  behind : (i : ℕ) → weight_at 0 ≤ i → word_at t i ≡ word_at s i
  beyond : drop column_size t ≡ drop column_size s

stamp_before : (s t : List ℕ) (x : ℕ) → x ≤ 512 → take (4 * hint_at 1) t ≡ take (4 * hint_at 1) s → stamp_in t x ≡ stamp_in s x
unfolding word_at
stamp_before s t x h e =
    let i = 4 * stamp_at x in
    sym (num_at_take 4 (4 * hint_at 1) t i (omega arith)) ∙ ap (λ u. num_at 4 u i) e ∙ num_at_take 4 (4 * hint_at 1) s i (omega arith)

noted_spared : {p : Plan} {s t : List ℕ} → Noted p s t → Spared s t
noted_spared {p} {s} {t} n = record {
  size = n.size;
  stamps = λ x l h. stamp_before s t x h n.before;
  behind = (dropped_behind (4 * weight_at 0) (omega arith) n.size n.behind).same;
  beyond = dropped_more (4 * weight_at 0) column_size s t (omega arith) n.behind;
}

-- ---- a variable of the clause is chosen and flipped

module _ {walk : Walk ℕ} {ns : List ℕ} {used n : ℕ} {r : Result Chosen Short} (h : Chooses walk ns used n r) where
  module _ {x : Chosen} (e : r ≡ Ok x) where
    pub chosen_among : (1 ≤ x.value) × (x.value ≤ n)
    unfolding Among
    chosen_among = subst (Among n) e h.among

    pub chosen_uses : (used ≤ x.used) × (x.used ≤ length ns)
    unfolding used_by
    chosen_uses = let u : used_by r ≡ x.used = ap used_by e in (omega (arith, h.uses), omega (arith, h.within))

  module _ {z : Short} (e : r ≡ Err z) where
    pub gone_uses : (used ≤ z.used) × (z.used ≤ length ns)
    unfolding used_by
    gone_uses = let u : used_by r ≡ z.used = ap used_by e in (omega (arith, h.uses), omega (arith, h.within))

module _ {tables terms : List ℕ} {w : Work} (k : Walking tables terms w) where
  pub keepable : {x : ℕ} {marks : List ℕ} → (1 ≤ x) × (x ≤ (plan_of_tables tables terms).variables) → Noted (plan_of_tables tables terms) w.marks marks → Keepable tables terms marks w.assignment w.tallies x
  keepable b n = let o = noted_spared n in record {
    flip = record { ready = k.ready; bits = k.bits; low = b.0; high = b.1; fresh = k.fresh };
    sized = k.prepared.sized;
    needed = k.needed;
    weighed = weighed_behind (record { size = o.size; same = o.behind }) k.prepared.weighed;
  }

  -- How many variables of the clause may be chosen.
  pub some_listed : {c some : ℕ} → c < word_at tables 1 → some ≡ word_at w.marks (list_count_at c) → some ≡ length (choosable (plan_of_tables tables terms) (get_or (plan_of_tables tables terms).clauses c []))
  some_listed {c} h e = e ∙ (k.prepared.listed.each c (rw (← clauses_word tables terms k.ready.laid) h)).counted

-- There is one.
pub to_choose : {q : Footing} {marks numbers : List ℕ} {c some used : ℕ} → Weighed (plan_on q) marks → Hinted (plan_on q) marks → Listed (plan_on q) marks → c < word_at q.tables.now 1 → some ≡ word_at marks (list_count_at c) → (some ≡ 0 → ⊥) → used ≤ length numbers / 4 → ToChoose q marks c numbers used
to_choose {q} {c = c} w i l h e n u =
    let there : c < length (plan_on q).clauses = rw (← clauses_word q.tables.now q.terms.now q.ready.laid) h in
    record { pickable = record { weighed = w; hinted = i; listed = l; there = there }; some = omega (arith, e ∙ (l.each c there).counted, n); listed = u }

module _ {tables terms : List ℕ} (numbers : List ℕ) (used c : ℕ) {w : Work} (k : Walking tables terms w) {some : ℕ}
    (m : some ≡ length (choosable (plan_of_tables tables terms) (get_or (plan_of_tables tables terms).clauses c []))) where
  abbrev q : Plan
  q = plan_of_tables tables terms

  abbrev among : List ℕ
  among = choosable q (get_or q.clauses c [])

  -- There is none.
  pub stuck_in : (s : Settings) {turn : ℕ} → used ≤ length numbers / 4 → some ≡ 0 → InClause s tables terms numbers used turn c (Err (stop.Failed used)) w w
  unfolding moved_of used_in IfMade
  stuck_in s l n =
      record {
        reaches = λ h t e. record {
          next = h;
          outcome = λ f fs. turning_stuck s q (try_in tables terms h w) among (numbers_of numbers) (at used f fs)
              (empty_by_length among ∙ eq-eqb (length among) 0 (omega (arith, m)));
          stamped = tt;
        };
        walking = tt;
        prepared = k.prepared;
        uses = omega arith;
        within = l;
        beyond = record { assignment = refl; tallies = refl; marks = refl };
      }

  module _ (s : Settings) (n : some ≡ 0 → ⊥) {r : Result Chosen Short}
      (h : Chooses (choice_by s.heuristic s (plan_of_tables tables terms) (try_in tables terms [] w) (stamp_in w.marks) (choosable (plan_of_tables tables terms) (get_or (plan_of_tables tables terms).clauses c []))) (numbers_of numbers) used (plan_of_tables tables terms).variables r)
      {marks : List ℕ} (noted : Noted (plan_of_tables tables terms) w.marks marks) where
    o : Spared w.marks marks
    o = noted_spared noted

    filled : is_empty among ≡ false
    filled = empty_by_length among ∙ ne_eqb (length among) 0 (λ e. n (omega (arith, m)))

    -- The stamps of those to choose from are the numbers of their last flips.
    agreed : (flips : List ℕ) → Stamped q.variables flips w.marks → Agree (stamp_in w.marks) (last_flip flips) among
    agreed flips t = agree_all (stamp_in w.marks) (last_flip flips) (is_variable q) (λ x v. let b = variable_range q x (is_true _ v) in t.last x b.0 b.1) among (choosable_variables q (get_or q.clauses c []))

    chose : (flips : List ℕ) → Stamped q.variables flips w.marks
        → (f : ℕ) (fs : List Assignment) → run (choice s q (try_in tables terms flips w) among) (numbers_of numbers) (at used f fs) ≡ outcome_of r f fs
    unfolding choice
    chose flips t f fs =
        ap (λ c. run c (numbers_of numbers) (at used f fs)) (sym (choices_agree q _ (stamp_in w.marks) (last_flip flips) s.heuristic s [] flips _ (agreed flips t)))
        ∙ h.outcome f fs

    behind : Behind w.marks marks
    behind = record { size = o.size; same = o.behind }

    pub turned_in : {z : Chosen} {turn : ℕ} {v : Work} → r ≡ Ok z
        → v.assignment ≡ turned w.assignment z.value
        → Kept (plan_of_tables tables terms) (bits_of (plan_of_tables tables terms).variables (turned w.assignment z.value)) w.tallies v.tallies
        → Wrote (stamp_at z.value) (turn + 1) marks v.marks
        → InClause s tables terms numbers used turn c (Ok z.used) w v
    unfolding moved_of used_in IfMade turn_over outcome_of
    turned_in {z} {turn} {v} e a y g =
        let x = z.value in
        let b = chosen_among h e in
        let u = chosen_uses h e in
        let few = (parts tables terms k.ready.laid).high in
        let bits : bits_in tables terms v ≡ flip (bits_in tables terms w) x =
        ap (bits_of q.variables) a ∙ turned_bits q.variables w.assignment x k.bits k.ready.bytes b.0 b.1 in
        let on : Behind w.marks v.marks = behind_more behind (wrote_behind (omega (arith, b.1, few)) g) in
        let kept : Prepared tables terms v = record {
          sized = y.sized;
          weighed = weighed_behind on k.prepared.weighed;
          hinted = hinted_same (λ i l m. g.others (hint_at i) (λ d. omega (arith, b.1, few))) (noted.hints k.prepared.hinted);
          listed = listed_behind on k.prepared.listed;
        } in
        record {
          reaches = λ flips t made. record {
            next = x ∷ flips;
            outcome = λ f fs. turning_made s q (try_in tables terms flips w) among (numbers_of numbers) (at used f fs) filled (chose flips t f fs ∙ ap (λ d. outcome_of d f fs) e)
                ∙ ap (λ d. ends (turnedTo (record { bits = d; flips = x ∷ flips })) (at z.used (f + 1) fs)) (sym bits);
            stamped = (stamped_more (record { last = λ y l m. o.stamps y l (omega (arith, m, few)) ∙ t.last y l m }) x g (omega (arith, made)), refl);
          };
          walking = (
            record {
              ready = record { laid = k.ready.laid; bytes = omega (arith, k.ready.bytes, ap length a, length_turned w.assignment x) };
              bits = rw a (turned_are_bits q.variables w.assignment x k.bits k.ready.bytes b.0 b.1);
              fresh = rw a y.fresh;
              prepared = kept;
              needed = y.needed;
            },
            omega (arith, u.0),
          );
          prepared = kept;
          uses = u.0;
          within = omega (arith, u.1, length_numbers_of numbers);
          beyond = record {
            assignment = ap (drop q.variables) a ∙ turned_beyond q.variables w.assignment x k.bits k.ready.bytes b.0 b.1;
            tallies = y.beyond;
            marks = g.beyond column_size (omega (arith, b.1, few)) (omega (arith, o.size, k.prepared.weighed.room)) ∙ o.beyond;
          };
        }

    pub gone_in : {z : Short} {turn : ℕ} {v : Work} → r ≡ Err z
        → v.assignment ≡ w.assignment → v.tallies ≡ w.tallies → v.marks ≡ marks
        → InClause s tables terms numbers used turn c (Err (stop.Short z.used)) w v
    unfolding moved_of used_in IfMade outcome_of
    gone_in {v = v} e a y g =
        let u = gone_uses h e in
        record {
          reaches = λ flips t made. record {
            next = flips;
            outcome = λ f fs. turning_short s q (try_in tables terms flips w) among (numbers_of numbers) (at used f fs) filled (chose flips t f fs ∙ ap (λ d. outcome_of d f fs) e);
            stamped = tt;
          };
          walking = tt;
          prepared = record { sized = rw y k.prepared.sized; weighed = rw g (weighed_behind behind k.prepared.weighed); hinted = rw g (noted.hints k.prepared.hinted); listed = rw g (listed_behind behind k.prepared.listed) };
          uses = u.0;
          within = omega (arith, u.1, length_numbers_of numbers);
          beyond = record { assignment = ap (drop q.variables) a; tallies = ap (drop kept_size) y; marks = ap (drop column_size) g ∙ o.beyond };
        }

-- A `?` tells a lack of numbers on as the reason why no flip was made.
pub told_on : (r : Result ℕ Unmoved) {z : Short} → IsErrAnd r (λ e. e ≡ stop.Short z.used) → r ≡ Err (stop.Short z.used)
told_on (Ok x) h = absurd h
told_on (Err e) h = ap Err h

-- ---- a clause is picked by the tallies

-- A flip that used no fewer numbers from a later place used more from an earlier one.
made_more : (q : Result ℕ Unmoved) (A : Type 0) (used after : ℕ) → used + 1 ≤ after → IfMade q (A × (after + 0 ≤ used_in q)) → IfMade q (A × (used + 1 ≤ used_in q))
unfolding IfMade
made_more (Ok u) A v w l h = (h.0, omega (arith, h.1))
made_more (Err e) A v w l h = tt

module _ {tables terms : List ℕ} {w : Work} (k : Walking tables terms w) where
  pub tally_room : tally_size ≤ length w.tallies
  tally_room =
      let p = plan_of_tables tables terms in
      room_of tally_size w.tallies _ k.fresh (length_fresh p (roomy_fits p k.ready.laid.room) (bits_in tables terms w))

  holding_word : (i : ℕ) → i < length (plan_of_tables tables terms).clauses
      → word_at w.tallies (holding_at i) ≡ count (rule_holds (bits_in tables terms w)) (get_or (plan_of_tables tables terms).clauses i [])
  holding_word i l =
      let p = plan_of_tables tables terms in
      fresh_words p k.ready.laid.room (bits_in tables terms w) w.tallies k.fresh (holding_at i) (omega (arith, (roomy_fits p k.ready.laid.room).clauses))
      ∙ clause_word p (roomy_fits p k.ready.laid.room) (bits_in tables terms w) i l

  pub unsatisfied_word : word_at w.tallies unsatisfied_at ≡ count (unsatisfied (bits_in tables terms w)) (plan_of_tables tables terms).clauses
  unsatisfied_word =
      let p = plan_of_tables tables terms in
      fresh_words p k.ready.laid.room (bits_in tables terms w) w.tallies k.fresh unsatisfied_at (omega arith)
      ∙ total_word p (roomy_fits p k.ready.laid.room) (bits_in tables terms w)

  -- Unsatisfied clauses are no more than the clauses.
  pub unsatisfied_few : word_at w.tallies unsatisfied_at ≤ clause_room
  unsatisfied_few =
      let p = plan_of_tables tables terms in
      omega (arith, unsatisfied_word, count_le (unsatisfied (bits_in tables terms w)) p.clauses, clauses_few tables terms k.ready.laid, clauses_word tables terms k.ready.laid)

  module _ (numbers : List ℕ) (used : ℕ) {m : ℕ} (r : Result (Drawn ℕ) Short) (total : m ≡ word_at w.tallies unsatisfied_at) (e : taken_of r ≡ take_pick m (numbers_of numbers) used) where
    drawn_among : take_pick m (numbers_of numbers) used ≡ take_pick (length (keep (unsatisfied (bits_in tables terms w)) (plan_of_tables tables terms).clauses)) (numbers_of numbers) used
    unfolding count
    drawn_among = ap (λ j. take_pick j (numbers_of numbers) used) (total ∙ unsatisfied_word)

    module _ (some : 0 < m) {d : Drawn ℕ} (t' : r ≡ Ok d) {n : ℕ} {o : Option ℕ} (few : n ≡ word_at tables 1)
        (y : o ≡ slice_get (zero_words w.tallies rule_room n) d.value) where
      abbrev clauses : List Clause
      clauses = (plan_of_tables tables terms).clauses

      place_few : d.value < count (unsatisfied (bits_in tables terms w)) clauses
      place_few = let b = place_below m (numbers_of numbers) used some (picked_at e t') in omega (arith, total, unsatisfied_word)

      -- The tallies have as many words that are 0.
      pub picked_there : IsSome o
      picked_there =
          let p = plan_of_tables tables terms in
          let a = bits_in tables terms w in
          let same : length (zero_words w.tallies rule_room n) ≡ count (unsatisfied a) clauses =
          ap (λ i. length (zero_words w.tallies rule_room i)) (few ∙ clauses_word tables terms k.ready.laid)
          ∙ ap length (zero_places p a w.tallies rule_room holding_word) ∙ length_places [] (unsatisfied a) clauses in
          let e : o ≡ Some (get_or (zero_words w.tallies rule_room n) d.value n) = y ∙ slice_get-get_or _ d.value n (rw same place_few) in
          subst IsSome (sym e) refl

      module _ {c : ℕ} (x : o ≡ Some c) where
        z : c ≡ get_or (zero_words w.tallies rule_room n) d.value n
        z = sym (get_or_from_slice_get (zero_words w.tallies rule_room n) d.value c n (sym y ∙ x))

        zero_found : c ≡ get_or (zero_words w.tallies rule_room (length clauses)) d.value n
        zero_found = z ∙ ap (λ i. get_or (zero_words w.tallies rule_room i) d.value n) (few ∙ clauses_word tables terms k.ready.laid)

        pub picked_within : c < word_at tables 1
        picked_within =
            rw (clauses_word tables terms k.ready.laid)
            (clause_within (plan_of_tables tables terms) (bits_in tables terms w) w.tallies rule_room holding_word d.value c n zero_found place_few)

        pub picked_uses : (used + 1 ≤ d.used) × (d.used ≤ length numbers / 4)
        picked_uses = let u = pick_uses m (numbers_of numbers) used (picked_at e t') in (u.0, omega (arith, u.1, length_numbers_of numbers))

        pub picked_moves : (s : Settings) {turn : ℕ} {q : Result ℕ Unmoved} {v : Work} → InClause s tables terms numbers d.used turn c q w v → Moves s tables terms numbers used turn q w v
        unfolding move
        picked_moves s {turn} {q} {v} h =
            let p = plan_of_tables tables terms in
            let a = bits_in tables terms w in
            let found = clause_found p a w.tallies rule_room holding_word d.value c n zero_found place_few in
            record {
              reaches = λ flips t made.
                  let r = h.reaches flips t made in
                  let now = try_in tables terms flips w in
                  record {
                    next = r.next;
                    outcome = λ f fs. bind_ends (pick_from [] (keep (unsatisfied a) p.clauses)) (λ c. turning s p now (choosable p c)) (numbers_of numbers) (at used f fs)
                        (pick_from_taken [] (keep (unsatisfied a) p.clauses) (numbers_of numbers) (at used f fs) (sym drawn_among ∙ picked_at e t'))
                        ∙ ap (λ k. run (turning s p now (choosable p k)) (numbers_of numbers) (at d.used f fs)) found ∙ r.outcome f fs;
                    stamped = r.stamped;
                  };
              walking = made_more q _ _ _ picked_uses.0 h.walking;
              prepared = h.prepared;
              uses = omega (arith, picked_uses.0, h.uses);
              within = h.within;
              beyond = h.beyond;
            }

    pub gone_moves : (s : Settings) {z : Short} {turn : ℕ} → used ≤ length numbers / 4 → r ≡ Err z
        → Moves s tables terms numbers used turn (Err (stop.Short z.used)) w w
    unfolding move moved_of used_in IfMade
    gone_moves s l t =
        let p = plan_of_tables tables terms in
        let b = bits_in tables terms w in
        let u = pick_gone _ (numbers_of numbers) used (picked_short e t) in
        record {
          reaches = λ flips stamped made. record {
            next = flips;
            outcome = λ f fs. bind_short (pick_from [] (keep (unsatisfied b) p.clauses)) _ (numbers_of numbers) (at used f fs)
                (pick_from_short [] (keep (unsatisfied b) p.clauses) (numbers_of numbers) (at used f fs) (sym drawn_among ∙ picked_short e t));
            stamped = tt;
          };
          walking = tt;
          prepared = k.prepared;
          uses = u.0;
          within = rw (length_numbers_of numbers) at (u.1 (rw (length_numbers_of numbers) l));
          beyond = record { assignment = refl; tallies = refl; marks = refl };
        }
