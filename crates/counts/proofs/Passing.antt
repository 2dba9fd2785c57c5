-- A sum of what the clauses of a run mend goes past those that are met.
-- Assumes nothing.
use Prim.Native.Nat.{ℕ, suc, zero, ◌+◌, ◌-◌, ◌≤◌, ◌<◌}
use native.Mathlib.Nat.{add-zero}
use native.Mathlib.Omega.{arith}
use mathlib.Core.List.{[]}
use mathlib.Core.Logic.{⊎_elim}
use mathlib.Core.Path.{◌≡◌, refl, sym, ap, ◌∙◌, subst}
use lib.Dec.{eqb}
use lib.ListN.{get_or}
use borrow.Author.Tests.{eq-eqb, ne_eqb}
use Rattle.std.specs.List.{find, range_with_len}
use Rattle.std.specs.Option.{unwrap_or}
use Rattle.std.proofs.Math.Nat.{eq-or-lt_of_le}
use Rattle.std.proofs.lemmas.Bool.{cases_eq}
use Rattle.plpb.specs.Lists.{count}
use Rattle.plpb.specs.Plan.{rule_holds}
use Rattle.plpb.specs.Equations.{clause_make}
use Rattle.plpb.specs.Count.{capped, capped_make}
use Rattle.plpb.proofs.Capped.{capped_zero, capped_twice}
use Rattle.counting.specs.Count.{number}
use Rattle.words.specs.Words.{word_at}
use Rattle.order.specs.Order.{order, run_end, cut}
use Rattle.order.specs.Blocks.{same_clause}
use Rattle.order.proofs.Groups.{no_make}
use Rattle.format.specs.Layout.{clause_room, holding_at}
use Rattle.tallies.proofs.Tallied.{clause_word, fresh_words}
use Rattle.tallies.proofs.TallyBytes.{roomy_fits}
use Rattle.recount.proofs.Laid.{parts}
use Rattle.effects.specs.declared.run.Run.{Run}
use Rattle.effects.specs.Run.{plan, bits, Inside, clause, place}
use Rattle.effects.proofs.Visits.{visited}
use Rattle.effects.proofs.Places.{place_named}
use Rattle.groups.specs.Run.{end_of_group, Begins}
use Rattle.groups.proofs.Runs.{group_stretch}
use Rattle.groups.proofs.Stretch.{same_more, same_stops}
use Rattle.freely.proofs.Sums.{Summing, sum_start, sum_next, sum_end_lem, make_counted}
use Rattle.spoiling.specs.Along.{Starts, Stepped}
use Rattle.spoiling.specs.declared.Step.{Step}
use Rattle.spoiling.proofs.Counting.{sum_starts}
use Rattle.mending.proofs.Mending.{clause_held}
use Rattle.counts.specs.Met.{held, PastMet}

module _ (r : Run) where
  -- The word of a clause among the tallies.
  pub held_word : {k w : ℕ} → Inside r k → w ≡ word_at r.footing.now.tallies.now (holding_at (place r k).clause) → w ≡ held r k
  held_word {k} v e =
      let t = r.going.kept in
      let laid = t.ready.laid in
      let there = (place_named (visited r v)).clause_there in
      let few : (place r k).clause < clause_room = omega (arith, there, (parts _ _ laid).clause_count) in
      e ∙ fresh_words (plan r) laid.room (bits r) r.footing.now.tallies.now t.fresh (holding_at (place r k).clause) (omega arith) ∙ clause_word (plan r) (roomy_fits (plan r) laid.room) (bits r) (place r k).clause there

  -- ---- the first place of a clause that is not met

  -- The first place from i on of a clause that is not met, or the run's end.
  abbrev first_unmet : ℕ → ℕ → ℕ
  first_unmet i n = unwrap_or (find (λ j. eqb (held r j) 0) (range_with_len i n)) r.end

  here : {i : ℕ} → i ≤ r.end → held r i ≡ 0 → PastMet r i i
  here l z = record { low = omega arith; high = l; passed = λ j a b. absurd (omega (arith, a, b)); stops = λ h. z }

  behind : {i j : ℕ} → (held r i ≡ 0 → ⊥) → PastMet r (i + 1) j → PastMet r i j
  behind z d = record {
    low = omega (arith, d.low);
    high = d.high;
    passed = λ j a b. ⊎_elim (λ s. subst (λ n. 0 < held r n) s (omega (arith, z))) (λ s. d.passed j (omega (arith, s)) b) (eq-or-lt_of_le a);
    stops = d.stops;
  }

  found : (n i : ℕ) → r.end - i ≡ n → i ≤ r.end → PastMet r i (first_unmet i n)
  found zero i e l = record { low = l; high = omega arith; passed = λ j a b. absurd (omega (arith, e, a, b)); stops = λ h. absurd (omega (arith, h)) }
  found (suc n) i e l =
      ⊎_elim (λ z. rw (eq-eqb (held r i) 0 z) (here l z)) (λ z. rw (ne_eqb (held r i) 0 z) (behind z (found n (i + 1) (omega (arith, e)) (omega (arith, e))))) (cases_eq (held r i) 0)

  pub unmet_found : {i j : ℕ} → i ≤ r.end → j ≡ unwrap_or (find (λ j. eqb (held r j) 0) (range_with_len i (r.end - i))) r.end → PastMet r i j
  unmet_found {i} l e = rw e (found (r.end - i) i refl l)

  -- ---- the places of a group are of one clause

  module _ (c : ℕ) where
    abbrev end_from : ℕ → ℕ
    end_from i = i + same_clause c (cut i (run_end (plan r) r.x) (order (plan r)))

    front : (i j : ℕ) → j ≡ end_from i → j ≤ r.end → i < j → (place r i).clause ≡ c
    front i j e l h = ⊎_elim (λ z. z) (λ z. absurd (omega (arith, e, h, same_stops r.going i c (omega (arith, h, l, r.ends)) z))) (cases_eq (place r i).clause c)

    along : (d i j : ℕ) → j ≡ end_from i → j ≤ r.end → i + d < j → (place r (i + d)).clause ≡ c
    along zero i j e l h = let same : i + 0 ≡ i = omega arith in rw same (front i j e l (omega (arith, h)))
    along (suc d) i j e l h =
        let here = front i j e l (omega (arith, h)) in
        let same : i + suc d ≡ i + 1 + d = omega arith in
        rw same (along d (i + 1) j (e ∙ sym (same_more r.going i c (omega (arith, h, l, r.ends)) here)) l (omega (arith, h)))

  held_alike : {k j : ℕ} → Begins r k → k ≤ j → j < end_of_group r k → held r j ≡ held r k
  held_alike {k} {j} g l h =
      let there : k + (j - k) ≡ j = omega (arith, l) in
      let one : (place r j).clause ≡ (place r k).clause = rw there at (along (place r k).clause (j - k) k (end_of_group r k) refl (omega (arith, g.last, r.ends)) (omega (arith, there, h))) in
      ap (λ c. count (rule_holds (bits r)) (get_or (plan r).clauses c [])) one

  -- ---- a sum goes on

  -- A sum of what the clauses before a place mend; one that is cut stays so.
  abbrev pub Sum : ℕ → ℕ → Type 0
  Sum k sum = Summing (plan r) r.x (clause_make (bits r) r.x) (capped_make (plan r) (bits r) r.x) k sum × (capped sum ≡ sum)

  pub sum_none : Sum r.first 0
  sum_none = (rw (make_counted r.going, ← r.begins) at (sum_start r.going (clause_make (bits r) r.x)), capped_zero)

  module _ {k sum : ℕ} (s : Sum k sum) (h : k < r.end) where
    pub starts : Starts r k
    starts = sum_starts r (no_make _ r.x) s.0 h

    -- by what a clause mends,
    pub goes : {t : Step} {next : ℕ} → Stepped (clause_make (bits r) r.x) r k t → next ≡ capped (sum + number t.count) → Sum t.next next
    goes t n = (sum_next r.going (no_make _ r.x) s.0 (omega (arith, h, r.ends)) t.ends t.counted n, ap capped n ∙ capped_twice _ ∙ sym n)

    pub further : {j : ℕ} → j ≡ end_of_group r k → (k < j) × (j ≤ r.end)
    further e = let g = starts.begins in (omega (arith, e, g.some), omega (arith, e, g.last, r.ends))

    -- and by nothing behind one that is met.
    met : 0 < held r k → Sum (end_of_group r k) sum
    met l =
        let g = starts.begins in
        let none : clause_make (bits r) r.x (clause r k) ≡ 0 = clause_held (group_stretch r g) g l in
        (sum_next r.going (no_make _ r.x) s.0 (omega (arith, h, r.ends)) refl (sym (ap capped none ∙ capped_zero)) (sym (ap capped (add-zero sum) ∙ s.1)), s.1)

  -- The group of a clause that is met is passed whole.
  met_whole : {k j : ℕ} → Begins r k → PastMet r k j → k < j → end_of_group r k ≤ j
  met_whole {k} {j} g d h =
      let inner : j < end_of_group r k → ⊥ = λ i. omega (arith, d.passed k (omega arith) h, held_alike g d.low i, d.stops (omega (arith, i, g.last, r.ends))) in
      omega (arith, inner)

  shorter : {k j e : ℕ} → PastMet r k j → k ≤ e → e ≤ j → PastMet r e j
  shorter d l h = record { low = h; high = d.high; passed = λ i a b. d.passed i (omega (arith, l, a)) b; stops = d.stops }

  passes : (n k : ℕ) {sum j : ℕ} → j - k ≤ n → PastMet r k j → Sum k sum → Sum j sum
  passes zero k {sum} {j} l d s = let same : j ≡ k = omega (arith, l, d.low) in rw same s
  passes (suc n) k {sum} {j} l d s =
      ⊎_elim (λ e. subst (λ i. Sum i sum) e s)
      (λ b.
      let h : k < r.end = omega (arith, b, d.high) in
      let g = (starts s h).begins in
      let e = met_whole g d b in
      passes n (end_of_group r k) (omega (arith, l, g.some, e)) (shorter d (omega (arith, g.some)) e) (met s h (d.passed k (omega arith) b)))
      (eq-or-lt_of_le d.low)

  -- Behind clauses that are met the sum is the same.
  pub past : {k sum j : ℕ} → PastMet r k j → Sum k sum → Sum j sum
  past {k} {sum} {j} d s = passes (j - k) k (omega arith) d s

  -- At the run's end the sum is the count.
  pub sum_all : {k sum : ℕ} → Sum k sum → r.end ≤ k → sum ≡ capped_make (plan r) (bits r) r.x
  sum_all s h = sym s.1 ∙ sum_end_lem r.going (no_make _ r.x) s.0 (omega (arith, h, r.ends))
