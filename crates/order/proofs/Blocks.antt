-- A variable's run clause by clause: what a sum over the clauses comes to along the run.
-- Assumes nothing.
use Prim.Native.Nat.{ℕ, zero, suc, ◌+◌, ◌-◌, ◌≤◌, ◌<◌}
use native.Mathlib.Nat.{zero-add, add-zero, le_refl}
use native.Mathlib.Numerals.{add-one}
use native.Mathlib.Omega.{arith}
use mathlib.Core.Path.{◌≡◌, refl, sym, ap, ap₂, ◌∙◌}
use mathlib.Core.Bool.{Bool, true, false, cond}
use mathlib.Core.List.{List, [], ◌∷◌, ◌++◌, map, append-nil}
use lib.Dec.{T}
use lib.ListN.{length, get_or, take, drop, length-append}
use lib.Seq.{drop-cons, drop-length, take-append_seam, drop-append_seam}
use borrow.Author.Tests.{eq-eqb, ne_eqb}
use Rattle.plpb.specs.Lists.{◌or◌, keep, any, all, sum_by}
use Rattle.plpb.specs.Plan.{Rule, Clause, Plan, rising, numbers_rise, named_in, names}
use Rattle.plpb.specs.Tallies.{rules_of}
use Rattle.plpb.specs.Count.{capped}
use Rattle.plpb.proofs.Lists.{and_left, and_right, all_at}
use Rattle.plpb.proofs.Capped.{same_sum, capped_twice}
use Rattle.order.specs.Order.{Place, in_rules, in_clauses, occurrences, order, run_end, cut, rule_at, first_rule, numbers_within}
use Rattle.order.specs.Grouped.{naming}
use Rattle.order.specs.Blocks.{rules_along, same_clause, Group}
use Rattle.order.proofs.Occurrences.{place_in, placed, terms_placed}
use Rattle.order.proofs.Runs.{first_none, first_next, rule_in_clause}
use Rattle.order.proofs.Tested.{cut_length, cut_join, run_cut, order_length, ends_ordered, last_end}
use Rattle.order.proofs.Shares.{group_rules}
use Rattle.order.proofs.Grouped.{rule_first}

-- ---- cuts

module _ {A : Type 0} where
  -- The first of a cut.
  pub cut_cons : (k e : ℕ) (xs : List A) (d : A) → k < e → e ≤ length xs → cut k e xs ≡ get_or xs k d ∷ cut (k + 1) e xs
  unfolding cut
  cut_cons k e xs d h l =
      let n : e - k ≡ suc (e - (k + 1)) = omega arith in
      rw (drop-cons xs k d (omega arith), n, add-one k) refl

  pub cut_past : (k e : ℕ) (xs : List A) → e ≤ k → cut k e xs ≡ []
  unfolding cut
  cut_past k e xs h = let n : e - k ≡ 0 = omega arith in rw n refl

  -- A cut that is two lists is parted where the first ends.
  pub cut_parts : (k e : ℕ) (xs bs cs : List A) → k ≤ e → e ≤ length xs → cut k e xs ≡ bs ++ cs → (k + length bs ≤ e) × (cut k (k + length bs) xs ≡ bs) × (cut (k + length bs) e xs ≡ cs)
  cut_parts k e xs bs cs h l same =
      let size : e - k ≡ length bs + length cs = sym (cut_length k e xs h l) ∙ ap length same ∙ length-append bs cs in
      let inside : k + length bs ≤ e = omega (arith, size) in
      let whole : cut k (k + length bs) xs ++ cut (k + length bs) e xs ≡ bs ++ cs = cut_join k (k + length bs) e xs (omega arith) inside ∙ same in
      let long : length (cut k (k + length bs) xs) ≡ length bs = cut_length k (k + length bs) xs (omega arith) (omega (arith, inside)) ∙ omega arith in (
        inside,
        sym (take-append_seam (cut k (k + length bs) xs) (cut (k + length bs) e xs)) ∙ ap₂ take long whole ∙ take-append_seam bs cs,
        sym (drop-append_seam (cut k (k + length bs) xs) (cut (k + length bs) e xs)) ∙ ap₂ drop long whole ∙ drop-append_seam bs cs,
      )

-- ---- the places of a clause

keep_fewer : {A : Type 0} (f : A → Bool) (xs : List A) → length (keep f xs) ≤ length xs
unfolding keep
keep_fewer f [] = le_refl 0
keep_fewer f (x ∷ xs) = at (f x) (keep_fewer f xs)
  where
    at : (b : Bool) → length (keep f xs) ≤ length xs → length (cond b (x ∷ keep f xs) (keep f xs)) ≤ suc (length xs)
    at true h = omega arith
    at false h = omega arith

-- A clause that does not name x has none, and one that does has a first, which is of the clause.
data Front (x c r : ℕ) (k : List Rule) : Type 0 where
  none : in_rules x c r k ≡ [] → names k x ≡ false → Front x c r k
  some : (q : Place) (qs : List Place) → in_rules x c r k ≡ q ∷ qs → q.clause ≡ c → Front x c r k

front : (x c r : ℕ) (k : List Rule) → T (all (λ q. rising q.terms) k) → Front x c r k
unfolding in_rules all names any ◌or◌ placed
front x c r [] t = none refl refl
front x c r (q ∷ qs) t = at (named_in x q.terms) refl (front x c (suc r) qs (and_right (rising q.terms) (all (λ q. rising q.terms) qs) t))
  where
    head : in_rules x c r (q ∷ qs) ≡ placed x c r q.terms ++ in_rules x c (suc r) qs
    head = ap (λ us. us ++ in_rules x c (suc r) qs) (terms_placed x c r q.terms (and_left (rising q.terms) (all (λ q. rising q.terms) qs) t))

    at : (b : Bool) → named_in x q.terms ≡ b → Front x c (suc r) qs → Front x c r (q ∷ qs)
    at true e f = some (record { clause = c; rule = r; term = place_in x q.terms }) (in_rules x c (suc r) qs) (head ∙ rw e refl) refl
    at false e (none h n) = none (head ∙ rw e h) (rw e n)
    at false e (some u us h n) = some u us (head ∙ rw e h) n

-- All of them are.
all_of : (x c r : ℕ) (k : List Rule) (rest : List Place) → T (all (λ q. rising q.terms) k) → same_clause c (in_rules x c r k ++ rest) ≡ length (in_rules x c r k) + same_clause c rest
unfolding in_rules all same_clause
all_of x c r [] rest t = sym (zero-add (same_clause c rest))
all_of x c r (q ∷ qs) rest t = at (named_in x q.terms) (all_of x c (suc r) qs rest (and_right (rising q.terms) (all (λ q. rising q.terms) qs) t)) (rule_first x c r q qs rest t0) (rule_first x c r q qs [] t0)
  where
    t0 : T (rising q.terms)
    t0 = and_left (rising q.terms) (all (λ q. rising q.terms) qs) t

    us : List Place
    us = in_rules x c (suc r) qs

    u : Place
    u = record { clause = c; rule = r; term = place_in x q.terms }

    at : (b : Bool) → same_clause c (us ++ rest) ≡ length us + same_clause c rest → in_rules x c r (q ∷ qs) ++ rest ≡ cond b (u ∷ (us ++ rest)) (us ++ rest) → in_rules x c r (q ∷ qs) ++ [] ≡ cond b (u ∷ (us ++ [])) (us ++ []) → same_clause c (in_rules x c r (q ∷ qs) ++ rest) ≡ length (in_rules x c r (q ∷ qs)) + same_clause c rest
    at true ih h k = rw (h, sym (append-nil (in_rules x c r (q ∷ qs))) ∙ k, append-nil us, eq-eqb c c refl) (omega (arith, ih))
    at false ih h k = rw (h, sym (append-nil (in_rules x c r (q ∷ qs))) ∙ k, append-nil us) ih

-- ---- the clauses from c on

module _ (p : Plan) (x : ℕ) (rise : T (numbers_rise p)) where
  abbrev ks : List Clause
  ks = p.clauses

  -- The places in clause c, and those from clause c on.
  abbrev pub block : ℕ → List Place
  block c = in_rules x c (first_rule p.clauses c) (get_or p.clauses c [])

  unfoldable pub places_from : ℕ → List Place
  places_from c = in_clauses x c (first_rule p.clauses c) (drop c p.clauses)

  rises_at : (c : ℕ) → c < length ks → T (all (λ q. rising q.terms) (get_or ks c []))
  unfolding numbers_rise
  rises_at c h = all_at (all (λ q. rising q.terms)) ks c [] rise h

  places_next : (c : ℕ) → c < length ks → places_from c ≡ block c ++ places_from (suc c)
  unfolding places_from in_clauses
  places_next c h = rw (drop-cons ks c [] h, first_next ks c h) refl

  places_end : places_from (length ks) ≡ []
  unfolding places_from in_clauses
  places_end = rw (drop-length ks) refl

  pub places_start : places_from 0 ≡ occurrences p x
  unfolding places_from occurrences
  places_start = ap (λ r. in_clauses x 0 r ks) (first_none ks)

  -- The first place from clause c on is in a clause behind c or in c, of which the places come first.
  pub record Next (c : ℕ) (q : Place) : Type 0 where
    pub later : c ≤ q.clause
    pub there : q.clause < length p.clauses
    pub parts : places_from c ≡ block q.clause ++ places_from (suc q.clause)
    pub sum : (count : Clause → ℕ) → ((k : Clause) → names k x ≡ false → count k ≡ 0) → sum_by count (drop c p.clauses) ≡ count (get_or p.clauses q.clause []) + sum_by count (drop (suc q.clause) p.clauses)

  sum_next : (count : Clause → ℕ) (c : ℕ) → c < length ks → sum_by count (drop c ks) ≡ count (get_or ks c []) + sum_by count (drop (suc c) ks)
  unfolding sum_by
  sum_next count c h = rw (drop-cons ks c [] h) refl

  next_here : (c : ℕ) → c < length ks → (q : Place) → q.clause ≡ c → Next c q
  next_here c h q e = record {
    later = omega arith;
    there = omega arith;
    parts = rw e (places_next c h);
    sum = λ count zero. rw e (sum_next count c h);
  }

  next_behind : (c : ℕ) → c < length ks → (q : Place) → in_rules x c (first_rule ks c) (get_or ks c []) ≡ [] → names (get_or ks c []) x ≡ false → Next (suc c) q → Next c q
  next_behind c h q f g n = record {
    later = omega (arith, n.later);
    there = n.there;
    parts = places_next c h ∙ ap (λ us. us ++ places_from (suc c)) f ∙ n.parts;
    sum = λ count zero. sum_next count c h ∙ ap₂ ◌+◌ (zero (get_or ks c []) g) (n.sum count zero) ∙ zero-add _;
  }

  pub next : (n c : ℕ) → c + n ≡ length p.clauses → (q : Place) (qs : List Place) → places_from c ≡ q ∷ qs → Next c q
  next zero c e q qs h =
      let last : c ≡ length ks = omega arith in
      let nothing : places_from c ≡ [] = ap places_from last ∙ places_end in
      let z : ◌≡◌ {A = ℕ} 0 1 = cc in
      absurd (omega arith)
  next (suc n) c e q qs h = at (front x c (first_rule ks c) (get_or ks c []) (rises_at c (omega arith))) (next n (suc c) (omega arith) q qs)
    where
      here : c < length ks
      here = omega arith

      at : Front x c (first_rule ks c) (get_or ks c []) → (places_from (suc c) ≡ q ∷ qs → Next (suc c) q) → Next c q
      at (none f g) ih = next_behind c here q f g (ih (sym (places_next c here ∙ ap (λ us. us ++ places_from (suc c)) f) ∙ h))
      at (some u us f g) ih =
          let both : u ∷ (us ++ places_from (suc c)) ≡ q ∷ qs = sym (places_next c here ∙ ap (λ vs. vs ++ places_from (suc c)) f) ∙ h in
          let same : u ≡ q = cc in
          next_here c here q (ap (λ v. v.clause) (sym same) ∙ g)

  -- Where no place is left, the clauses left count nothing.
  pub nothing_left : (count : Clause → ℕ) → ((k : Clause) → names k x ≡ false → count k ≡ 0) → (n c : ℕ) → c + n ≡ length p.clauses → places_from c ≡ [] → sum_by count (drop c p.clauses) ≡ 0
  nothing_left count z zero c e h = let last : c ≡ length ks = omega arith in rw (last, drop-length ks) (unfold sum_by in refl)
  nothing_left count z (suc n) c e h = at (front x c (first_rule ks c) (get_or ks c []) (rises_at c (omega arith))) (nothing_left count z n (suc c) (omega arith))
    where
      here : c < length ks
      here = omega arith

      at : Front x c (first_rule ks c) (get_or ks c []) → (places_from (suc c) ≡ [] → sum_by count (drop (suc c) ks) ≡ 0) → sum_by count (drop c ks) ≡ 0
      at (none f g) ih = sum_next count c here ∙ ap₂ ◌+◌ (z (get_or ks c []) g) (ih (sym (places_next c here ∙ ap (λ us. us ++ places_from (suc c)) f) ∙ h))
      at (some u us f g) ih =
          let both : u ∷ (us ++ places_from (suc c)) ≡ [] = sym (places_next c here ∙ ap (λ vs. vs ++ places_from (suc c)) f) ∙ h in
          let z : ◌≡◌ {A = ℕ} 0 1 = cc in
          absurd (omega arith)

  -- The places from a later clause on are of none before it.
  other_clause : (c : ℕ) → c < length ks → same_clause c (places_from (suc c)) ≡ 0
  unfolding same_clause
  other_clause c h = at (places_from (suc c)) refl
    where
      at : (qs : List Place) → places_from (suc c) ≡ qs → same_clause c qs ≡ 0
      at [] e = refl
      at (q ∷ qs) e =
          let m = next (length ks - suc c) (suc c) (omega arith) q qs e in
          rw (ne_eqb q.clause c (λ z. omega (arith, m.later))) refl

  -- How far a clause's places go.
  block_goes : (c : ℕ) → c < length ks → same_clause c (block c ++ places_from (suc c)) ≡ length (block c)
  block_goes c h = all_of x c (first_rule ks c) (get_or ks c []) (places_from (suc c)) (rises_at c h) ∙ ap (λ n. length (block c) + n) (other_clause c h) ∙ add-zero _

  block_rules : (c : ℕ) → c < length ks → map (λ q. rule_at p q.rule) (block c) ≡ naming x (get_or ks c [])
  unfolding rule_at rules_of
  block_rules c h = group_rules p x c (first_rule ks c) (get_or ks c []) (rises_at c h) (λ i l. rule_in_clause ks c i h l)

  -- ---- along the order

  -- What stands when a run is gone through as far as place k, which begins a clause's places: a sum so far, which with what the clauses behind count comes to
  -- the whole.
  pub record Along (count : Clause → ℕ) (whole k sum : ℕ) : Type 0 where
    pub clause : ℕ
    pub inside : clause ≤ length p.clauses
    pub first : run_end p (x - 1) ≤ k
    pub last : k ≤ run_end p x
    pub places : cut k (run_end p x) (order p) ≡ places_from clause
    pub counted : capped (sum + sum_by count (drop clause p.clauses)) ≡ whole

  module _ (within : T (numbers_within p)) (low : 1 ≤ x) (high : x ≤ p.variables) where
    long : run_end p x ≤ length (order p)
    long = omega (arith, ends_ordered p x p.variables high, last_end p within, order_length p within)

    pub along_start : (count : Clause → ℕ) → Along count (capped (sum_by count p.clauses)) (run_end p (x - 1)) 0
    along_start count = record {
      clause = 0;
      inside = omega arith;
      first = le_refl (run_end p (x - 1));
      last = ends_ordered p (x - 1) x (omega arith);
      places = run_cut p x low high ∙ sym places_start;
      counted = ap capped (zero-add (sum_by count ks));
    }

    module _ {count : Clause → ℕ} (zero : (k : Clause) → names k x ≡ false → count k ≡ 0) {whole k sum : ℕ} (g : Along count whole k sum) where
      -- Behind the last place the sum is the whole.
      pub along_end : run_end p x ≤ k → capped sum ≡ whole
      along_end h = ap capped (sym (add-zero sum) ∙ ap (λ n. sum + n) (sym (nothing_left count zero (length ks - g.clause) g.clause (omega (arith, g.inside)) (sym g.places ∙ cut_past k (run_end p x) (order p) h)))) ∙ g.counted

      module _ (here : k < run_end p x) (d : Place) where
        q : Place
        q = get_or (order p) k d

        first_of : places_from g.clause ≡ q ∷ cut (k + 1) (run_end p x) (order p)
        unfolding q
        first_of = sym g.places ∙ cut_cons k (run_end p x) (order p) d here long

        n : Next g.clause q
        n = next (length ks - g.clause) g.clause (omega (arith, g.inside)) q _ first_of

        split : cut k (run_end p x) (order p) ≡ block q.clause ++ places_from (suc q.clause)
        split = g.places ∙ n.parts

        size : same_clause q.clause (cut k (run_end p x) (order p)) ≡ length (block q.clause)
        size = ap (same_clause q.clause) split ∙ block_goes q.clause n.there

        module _ {j : ℕ} (e : j ≡ k + same_clause (get_or (order p) k d).clause (cut k (run_end p x) (order p))) where
          j_is : k + length (block q.clause) ≡ j
          unfolding q
          j_is = ap (λ m. k + m) (sym size) ∙ sym e

          parted : (j ≤ run_end p x) × (cut k j (order p) ≡ block q.clause) × (cut j (run_end p x) (order p) ≡ places_from (suc q.clause))
          parted = rw j_is at (cut_parts k (run_end p x) (order p) (block q.clause) (places_from (suc q.clause)) g.last long split)

          further : k < j
          unfolding q same_clause
          further = rw (e, cut_cons k (run_end p x) (order p) d here long, eq-eqb (get_or (order p) k d).clause (get_or (order p) k d).clause refl) (omega arith)

          -- The places up to the next clause's are a group,
          pub along_group : Group p x (get_or (order p) k d).clause k j
          unfolding q rules_along
          along_group = record {
            clause_there = n.there;
            first = g.first;
            some = further;
            last = parted.0;
            rules = ap (map (λ q. rule_at p q.rule)) parted.1 ∙ block_rules q.clause n.there;
          }

          -- which adds what its clause counts.
          pub along_next : {share next : ℕ} → share ≡ capped (count (get_or p.clauses (get_or (order p) k d).clause [])) → next ≡ capped (sum + share) → Along count whole j next
          unfolding q
          along_next {share} {next} s t = record {
            clause = suc q.clause;
            inside = n.there;
            first = omega (arith, g.first, further);
            last = parted.0;
            places = parted.2;
            counted = same ∙ ap (λ m. capped (sum + m)) (sym (n.sum count zero)) ∙ g.counted;
          }
            where
              c : ℕ
              c = (get_or (order p) k d).clause

              rest : ℕ
              rest = sum_by count (drop (suc c) ks)

              assoc : sum + count (get_or ks c []) + rest ≡ sum + (count (get_or ks c []) + rest)
              assoc = omega arith

              same : capped (next + rest) ≡ capped (sum + (count (get_or ks c []) + rest))
              same =
                  same_sum next (sum + count (get_or ks c [])) rest rest
                  (ap capped t ∙ capped_twice (sum + share) ∙ same_sum sum sum share (count (get_or ks c [])) refl (ap capped s ∙ capped_twice _)) refl
                  ∙ ap capped assoc
