-- A stretch of a run place by place, and what a group says of its clause.
-- Assumes nothing.
use Prim.Native.Nat.{ℕ, zero, suc, ◌+◌, ◌-◌, ◌≤◌, ◌<◌}
use native.Mathlib.Omega.{arith}
use mathlib.Core.Path.{◌≡◌, refl, sym, ap, ap₂, ◌∙◌}
use mathlib.Core.Bool.{Bool, true, false, cond, not}
use mathlib.Core.Logic.{⊎_elim}
use mathlib.Core.List.{List, [], ◌∷◌, map}
use lib.Dec.{T, ltb, eqb}
use lib.ListN.{length, get_or, length-map}
use borrow.Author.Tests.{eq-eqb, ne_eqb}
use Rattle.std.specs.Prelude.{◌&&◌, ◌||◌, Option, Some}
use Rattle.std.specs.List.{filter, find, list_any, list_all, range_with_len}
use Rattle.std.specs.Option.{unwrap_or}
use Rattle.std.proofs.lemmas.Bool.{cases_eq}
use Rattle.plpb.specs.Lists.{◌and◌, ◌or◌, keep, any, all, count}
use Rattle.plpb.specs.Plan.{Rule, Clause, Plan, Assignment, named_in, rule_holds, rising, numbers_rise}
use Rattle.plpb.specs.Equations.{clause_break}
use Rattle.plpb.proofs.Lists.{count_cons, count_le, all_at, true_and, and_true, and_false, false_and}
use Rattle.words.specs.Words.{word_at}
use Rattle.order.specs.Order.{Place, order, run_end, cut, rule_at}
use Rattle.order.specs.Breaks.{spoils_part, false_after}
use Rattle.order.specs.Grouped.{naming}
use Rattle.order.specs.Blocks.{rules_along, same_clause, Group}
use Rattle.order.proofs.Tested.{cut_length}
use Rattle.order.proofs.Blocks.{cut_cons, cut_past}
use Rattle.order.proofs.Groups.{clause_by_naming}
use Rattle.format.specs.Tables.{plan_of_tables}
use Rattle.format.specs.Layout.{holding_at, term_room, clause_room}
use Rattle.tallies.proofs.Tallied.{clause_word, fresh_words}
use Rattle.tallies.proofs.TallyBytes.{roomy_fits}
use Rattle.recount.proofs.Laid.{parts}
use Rattle.columns.specs.Columns.{no_place}
use Rattle.effects.specs.Kept.{lent_bits, Going, place_at, place_rule}
use Rattle.effects.proofs.Runs.{going_rises, going_bits, run_inside, run_few}

-- The places from k on, below j, are some of x's run.
pub record Stretch (tables terms assignment tallies marks : List ℕ) (x k j : ℕ) : Type 0 where
  pub going : Going tables terms assignment tallies marks x
  pub first : run_end (plan_of_tables tables terms) (x - 1) ≤ k
  pub last : j ≤ run_end (plan_of_tables tables terms) x

-- ---- place by place

module _ (p : Plan) where
  pub along_cons : (i j : ℕ) → i < j → j ≤ length (order p) → rules_along p i j ≡ rule_at p (get_or (order p) i no_place).rule ∷ rules_along p (i + 1) j
  unfolding rules_along
  along_cons i j h l = ap (map (λ q. rule_at p q.rule)) (cut_cons i j (order p) no_place h l)

  pub along_none : (i j : ℕ) → j ≤ i → rules_along p i j ≡ []
  unfolding rules_along
  along_none i j h = ap (map (λ q. rule_at p q.rule)) (cut_past i j (order p) h)

  pub along_length : (i j : ℕ) → i ≤ j → j ≤ length (order p) → length (rules_along p i j) ≡ j - i
  unfolding rules_along
  along_length i j h l = length-map (cut i j (order p)) (λ q. rule_at p q.rule) ∙ cut_length i j (order p) h l

  -- The rules of a stretch, each said by its place's number.
  pub along_row : (n i j : ℕ) → j - i ≡ n → j ≤ length (order p) → map (λ k. rule_at p (get_or (order p) k no_place).rule) (range_with_len i n) ≡ rules_along p i j
  along_row zero i j e l = sym (along_none i j (omega arith))
  along_row (suc n) i j e l = ap (λ xs. rule_at p (get_or (order p) i no_place).rule ∷ xs) (along_row n (i + 1) j (omega arith) l) ∙ sym (along_cons i j (omega arith) l)

-- ---- the library's tests of a list, and those of the plan's definitions

module _ {A B : Type 0} (f : B → Bool) (h : A → B) where
  or_same : (b c : Bool) → (b || c) ≡ (b or c)
  unfolding ◌or◌
  or_same true c = refl
  or_same false c = refl

  and_same : (b c : Bool) → (b && c) ≡ (b and c)
  unfolding ◌and◌
  and_same true c = refl
  and_same false c = refl

  pub any_of : (xs : List A) → list_any (λ x. f (h x)) xs ≡ any f (map h xs)
  unfolding any
  any_of [] = refl
  any_of (x ∷ xs) = or_same _ _ ∙ ap (λ b. f (h x) or b) (any_of xs)

  pub all_of : (xs : List A) → list_all (λ x. f (h x)) xs ≡ all f (map h xs)
  unfolding all
  all_of [] = refl
  all_of (x ∷ xs) = and_same _ _ ∙ ap (λ b. f (h x) and b) (all_of xs)

  kept_more : (b : Bool) (x : A) (xs : List A) (ys : List B) → length xs ≡ length ys → length (cond b (x ∷ xs) xs) ≡ length (cond b (h x ∷ ys) ys)
  kept_more true x xs ys e = ap suc e
  kept_more false x xs ys e = e

  pub count_of : (xs : List A) → length (filter (λ x. f (h x)) xs) ≡ count f (map h xs)
  unfolding count keep
  count_of [] = refl
  count_of (x ∷ xs) = kept_more (f (h x)) x _ _ (count_of xs)

-- Of some items no more are so than of all.
kept_count : {A : Type 0} (f q : A → Bool) (xs : List A) → count f (keep q xs) ≤ count f xs
unfolding keep
kept_count f q [] = omega arith
kept_count f q (x ∷ xs) = at (q x) (kept_count f q xs)
  where
    at : (b : Bool) → count f (keep q xs) ≤ count f xs → count f (cond b (x ∷ keep q xs) (keep q xs)) ≤ count f (x ∷ xs)
    at true h = rw (count_cons f x (keep q xs), count_cons f x xs) (omega (arith, h))
    at false h = rw (count_cons f x xs) (omega (arith, h))

module _ {tables terms assignment tallies marks : List ℕ} {x k j : ℕ} (s : Stretch tables terms assignment tallies marks x k j) where
  abbrev p : Plan
  p = plan_of_tables tables terms

  abbrev a : Assignment
  a = lent_bits tables terms assignment

  pub stretch_inside : j ≤ length (order (plan_of_tables tables terms))
  stretch_inside = omega (arith, s.last, run_inside s.going)

  pub stretch_few : j ≤ term_room
  stretch_few = omega (arith, s.last, run_few s.going)

  -- What a test says of the places' numbers it says of their rules.
  abbrev rule : ℕ → Rule
  rule i = place_rule tables terms i

  pub any_along : (f : Rule → Bool) → list_any (λ i. f (place_rule tables terms i)) (range_with_len k (j - k)) ≡ any f (rules_along (plan_of_tables tables terms) k j)
  any_along f = any_of f rule _ ∙ ap (any f) (along_row p (j - k) k j refl stretch_inside)

  pub all_along : (f : Rule → Bool) → list_all (λ i. f (place_rule tables terms i)) (range_with_len k (j - k)) ≡ all f (rules_along (plan_of_tables tables terms) k j)
  all_along f = all_of f rule _ ∙ ap (all f) (along_row p (j - k) k j refl stretch_inside)

  pub count_along : (f : Rule → Bool) → length (filter (λ i. f (place_rule tables terms i)) (range_with_len k (j - k))) ≡ count f (rules_along (plan_of_tables tables terms) k j)
  count_along f = count_of f rule _ ∙ ap (count f) (along_row p (j - k) k j refl stretch_inside)

  -- ---- a group

  module _ {c : ℕ} (g : Group (plan_of_tables tables terms) x c k j) where
    abbrev clause : Clause
    clause = get_or p.clauses c []

    low : 0 < x
    low = omega (arith, s.going.low)

    rises : T (all (λ q. rising q.terms) clause)
    unfolding numbers_rise
    rises = all_at (all (λ q. rising q.terms)) p.clauses c [] (going_rises s.going) g.clause_there

    pub holding_word : {n : ℕ} → n ≡ word_at tallies (holding_at c) → n ≡ count (rule_holds (lent_bits tables terms assignment)) (get_or (plan_of_tables tables terms).clauses c [])
    holding_word e =
        let laid = s.going.kept.ready.laid in
        let few : c < clause_room = omega (arith, g.clause_there, (parts tables terms laid).clause_count) in
        e ∙ fresh_words p laid.room a tallies s.going.kept.fresh (holding_at c) (omega arith) ∙ clause_word p (roomy_fits p laid.room) a c g.clause_there

    decided : ltb 0 (clause_break a x clause) ≡ eqb (count (rule_holds a) clause) (count (rule_holds a) (rules_along p k j)) and (all (false_after a x) (rules_along p k j) and any (spoils_part a x) (rules_along p k j))
    decided = rw g.rules (clause_by_naming a x low (going_bits s.going) clause rises)

    -- None is spoiled; a rule outside the group holds; or the group decides.
    pub unspoiled : any (spoils_part (lent_bits tables terms assignment) x) (rules_along (plan_of_tables tables terms) k j) ≡ false → false ≡ ltb 0 (clause_break (lent_bits tables terms assignment) x (get_or (plan_of_tables tables terms).clauses c []))
    unspoiled h = sym (decided ∙ ap (λ t. eqb (count (rule_holds a) clause) (count (rule_holds a) (rules_along p k j)) and (all (false_after a x) (rules_along p k j) and t)) h ∙ ap (λ t. eqb (count (rule_holds a) clause) (count (rule_holds a) (rules_along p k j)) and t) (and_false _) ∙ and_false _)

    pub held_outside : (count (rule_holds (lent_bits tables terms assignment)) (get_or (plan_of_tables tables terms).clauses c []) ≡ count (rule_holds (lent_bits tables terms assignment)) (rules_along (plan_of_tables tables terms) k j) → ⊥) → false ≡ ltb 0 (clause_break (lent_bits tables terms assignment) x (get_or (plan_of_tables tables terms).clauses c []))
    held_outside h = sym (decided ∙ ap (λ t. t and (all (false_after a x) (rules_along p k j) and any (spoils_part a x) (rules_along p k j))) (ne_eqb (count (rule_holds a) clause) (count (rule_holds a) (rules_along p k j)) h) ∙ false_and _)

    pub held_most : count (rule_holds (lent_bits tables terms assignment)) (rules_along (plan_of_tables tables terms) k j) ≤ j - k
    held_most = omega (arith, count_le (rule_holds a) (rules_along p k j), along_length p k j (omega (arith, g.some)) stretch_inside)

    -- Where no rule of the clause holds, none of the group does.
    pub none_held : count (rule_holds (lent_bits tables terms assignment)) (get_or (plan_of_tables tables terms).clauses c []) ≤ 0 → count (rule_holds (lent_bits tables terms assignment)) (get_or (plan_of_tables tables terms).clauses c []) ≡ count (rule_holds (lent_bits tables terms assignment)) (rules_along (plan_of_tables tables terms) k j)
    unfolding naming
    none_held h = rw g.rules (omega (arith, h, kept_count (rule_holds a) (λ q. named_in x q.terms) clause))

    pub group_decides : {b : Bool} → any (spoils_part (lent_bits tables terms assignment) x) (rules_along (plan_of_tables tables terms) k j) ≡ true → count (rule_holds (lent_bits tables terms assignment)) (get_or (plan_of_tables tables terms).clauses c []) ≡ count (rule_holds (lent_bits tables terms assignment)) (rules_along (plan_of_tables tables terms) k j) → b ≡ all (false_after (lent_bits tables terms assignment) x) (rules_along (plan_of_tables tables terms) k j) → b ≡ ltb 0 (clause_break (lent_bits tables terms assignment) x (get_or (plan_of_tables tables terms).clauses c []))
    group_decides {b} h e f =
        f ∙ sym (and_true _) ∙ sym (true_and _)
        ∙ sym (decided ∙ ap₂ ◌and◌ (eq-eqb (count (rule_holds a) clause) (count (rule_holds a) (rules_along p k j)) e) (ap (λ t. all (false_after a x) (rules_along p k j) and t) h))

-- ---- how far a group goes

module _ {tables terms assignment tallies marks : List ℕ} {x : ℕ} (g : Going tables terms assignment tallies marks x) (i c : ℕ) where
  abbrev end : ℕ
  end = run_end (plan_of_tables tables terms) x

  abbrev ps : List Place
  ps = order (plan_of_tables tables terms)

  pub same_more : i < run_end (plan_of_tables tables terms) x → (place_at tables terms i).clause ≡ c → i + 1 + same_clause c (cut (i + 1) (run_end (plan_of_tables tables terms) x) (order (plan_of_tables tables terms))) ≡ i + same_clause c (cut i (run_end (plan_of_tables tables terms) x) (order (plan_of_tables tables terms)))
  unfolding same_clause
  same_more h e = rw (cut_cons i end ps no_place h (run_inside g), eq-eqb (get_or ps i no_place).clause c e) (omega arith)

  pub same_stops : i < run_end (plan_of_tables tables terms) x → ((place_at tables terms i).clause ≡ c → ⊥) → i ≡ i + same_clause c (cut i (run_end (plan_of_tables tables terms) x) (order (plan_of_tables tables terms)))
  unfolding same_clause
  same_stops h e = rw (cut_cons i end ps no_place h (run_inside g), ne_eqb (get_or ps i no_place).clause c e) (omega arith)

  pub same_ends : run_end (plan_of_tables tables terms) x ≤ i → i ≡ i + same_clause c (cut i (run_end (plan_of_tables tables terms) x) (order (plan_of_tables tables terms)))
  unfolding same_clause
  same_ends h = rw (cut_past i end ps h) (omega arith)

module _ {tables terms assignment tallies marks : List ℕ} {x : ℕ} (g : Going tables terms assignment tallies marks x) (c end : ℕ) (ends : end ≡ run_end (plan_of_tables tables terms) x) where
  -- The first place from i on of another clause, or the run's end.
  pub first_other : (n i : ℕ) → end - i ≡ n → i ≤ end → unwrap_or (find (λ j. not (eqb (place_at tables terms j).clause c)) (range_with_len i n)) end ≡ i + same_clause c (cut i (run_end (plan_of_tables tables terms) x) (order (plan_of_tables tables terms)))
  first_other zero i e l =
      let all : end ≡ i = omega (arith, e, l) in
      all ∙ same_ends g i c (omega (arith, all, ends))
  first_other (suc n) i e l =
      let h : i < run_end (plan_of_tables tables terms) x = omega (arith, e, ends) in
      let rest : Option ℕ = find (λ j. not (eqb (place_at tables terms j).clause c)) (range_with_len (i + 1) n) in
      ⊎_elim
      (λ q. ap (λ b. unwrap_or (cond (not b) (Some i) rest) end) (eq-eqb (place_at tables terms i).clause c q) ∙ first_other n (i + 1) (omega (arith, e)) (omega (arith, h, ends)) ∙ same_more g i c h q)
      (λ q. ap (λ b. unwrap_or (cond (not b) (Some i) rest) end) (ne_eqb (place_at tables terms i).clause c q) ∙ same_stops g i c h q)
      (cases_eq (place_at tables terms i).clause c)
