-- A flip is narrow because P and the sum of a rule look only at the variables that it names; twice the same flip of the bits is none.
use Prim.Native.Nat.{ℕ, zero, suc, ◌+◌, ◌-◌, ◌/◌, ◌≤◌, ◌<◌}
use native.Mathlib.Nat.{le_trans}
use native.Mathlib.Decide.{dec_lt}
use native.Mathlib.Omega.{arith}
use mathlib.Core.Path.{◌≡◌, refl, sym, ap, ap₂, subst, ◌∙◌}
use mathlib.Core.Bool.{Bool, true, false, not, cond, true≢false, false≢true}
use mathlib.Core.List.{List, [], ◌∷◌, ◌++◌, map}
use borrow.Author.Tests.{eq-eqb, eqb-true, eqb-false}
use lib.Dec.{eqb, eqb-suc-zero}
use lib.IntN.{pos, ◌+ℤ◌}
use lib.ListN.{length, get_or, drop, length-map, get_or-append, get_or-eq_default}
use lib.Seq.{get_or-append-add, get_or-set_same, get_or-set_other}
use Rattle.plpb.specs.Lists.{◌or◌, ◌and◌, any, count, sum_by}
use Rattle.plpb.specs.Plan.{Term, Rule, Clause, Plan, Assignment, flip, total, at_least, at_most, rule_holds, named_in, names}
use Rattle.plpb.specs.Normal.{literal, size, P}
use Rattle.plpb.specs.Tallies.{rules_of, fresh_count}
use Rattle.plpb.specs.Book.{Call, flip_call, counts_call, refused, accepted}
use Rattle.plpb.proofs.Lists.{count_nil, count_cons}
use Rattle.plpb.proofs.Flip.{length_flip, flip_other, flip_twice, flip_literal_other}
use Rattle.plpb.proofs.Locks.{variable_range}
use Rattle.words.specs.Words.{bytes_of, word_bytes}
use Rattle.words.proofs.Words.{length_bytes_of}
use Rattle.format.specs.Layout.{clause_room, holding_at, rule_room, tally_word_count, unsatisfied_at}
use Rattle.format.proofs.Bools.{and_left, and_right}
use Rattle.tallies.specs.Layout.{tally_size, tally_words, tally_bytes, tally_word}
use Rattle.tallies.specs.Calls.{Lent, plan, bits, told, flip_refusal, turned, flip_assignment, flip_rules, answer, left_by}
use Rattle.tallies.specs.Narrow.{rules_naming, clauses_naming, concerns, is_refused, is_flip_of, Narrow, Step, EveryCall}
use Rattle.tallies.specs.Demand.{EachStep}
use Rattle.tallies.proofs.Order.{order_rule, order_clause, order_whole}
use Rattle.tallies.proofs.TallyBytes.{Fits, length_fresh_words, length_fresh}
use Rattle.tallies.proofs.Tallied.{weights_at, holding_at_lem}
use Rattle.tallies.proofs.Bits.{length_bits_of, length_turned}
use Rattle.tallies.proofs.Refusals.{either, Opens, Takes, takes, flips, plan_fits, assignment_room, counts_left, refused_left}
use Rattle.tallies.proofs.Steps.{told_tallies_room, told_flip, told_flip_refusal, lent_told}

-- ---- what a flip leaves of a rule and a clause that do not name its variable

pub or_none : (a b : Bool) → a or b ≡ false → (a ≡ false) × (b ≡ false)
unfolding ◌or◌
or_none true b e = absurd (true≢false e)
or_none false b e = (refl, e)

module _ (a : Assignment) (x : ℕ) where
  pub P_unnamed : (ts : List Term) → named_in x ts ≡ false → P (flip a x) ts ≡ P a ts
  unfolding named_in any P sum_by literal
  P_unnamed [] e = refl
  P_unnamed (t ∷ ts) e =
      let h = or_none (eqb t.variable x) (named_in x ts) e in
      ap₂ (λ v n. cond v (size t) 0 + n) (flip_literal_other a x (literal t) (eqb-false t.variable x h.0)) (P_unnamed ts h.1)

  pub total_unnamed : (ts : List Term) → named_in x ts ≡ false → total (flip a x) ts ≡ total a ts
  unfolding named_in any total
  total_unnamed [] e = refl
  total_unnamed (t ∷ ts) e =
      let h = or_none (eqb t.variable x) (named_in x ts) e in
      ap₂ (λ v s. cond v t.weight (pos 0) +ℤ s) (flip_other a x t.variable (eqb-false t.variable x h.0)) (total_unnamed ts h.1)

  pub rule_unnamed : (r : Rule) → named_in x r.terms ≡ false → rule_holds (flip a x) r ≡ rule_holds a r
  unfolding rule_holds
  rule_unnamed r e = ap (λ s. at_least r.lower s and at_most r.upper s) (total_unnamed r.terms e)

  pub clause_unnamed : (c : Clause) → names c x ≡ false → count (rule_holds (flip a x)) c ≡ count (rule_holds a) c
  unfolding names any
  clause_unnamed [] e = simp count_nil
  clause_unnamed (r ∷ c) e =
      let h = or_none (named_in x r.terms) (names c x) e in
      simp count_cons (ap₂ (λ v n. cond v 1 0 + n) (rule_unnamed r h.0) (clause_unnamed c h.1))

-- By index, in the lists of a fresh count.
map_unless : {A : Type 0} (q : A → Bool) (f g : A → ℕ) → ((r : A) → q r ≡ false → f r ≡ g r) → (rs : List A) (i : ℕ) → get_or (map q rs) i false ≡ false → get_or (map f rs) i 0 ≡ get_or (map g rs) i 0
map_unless q f g h [] i e = refl
map_unless q f g h (r ∷ rs) zero e = h r e
map_unless q f g h (r ∷ rs) (suc i) e = map_unless q f g h rs i e

module _ (p : Plan) (a : Assignment) (x : ℕ) where
  pub other_rules : (i : ℕ) → get_or (rules_naming p x) i false ≡ false → get_or (fresh_count p (flip a x)).true_weights i 0 ≡ get_or (fresh_count p a).true_weights i 0
  unfolding rules_naming fresh_count
  other_rules = map_unless (λ r. named_in x r.terms) (λ r. P (flip a x) r.terms) (λ r. P a r.terms) (λ r. P_unnamed a x r.terms) (rules_of p)

  pub other_clauses : (i : ℕ) → get_or (clauses_naming p x) i false ≡ false → get_or (fresh_count p (flip a x)).rules_holding i 0 ≡ get_or (fresh_count p a).rules_holding i 0
  unfolding clauses_naming fresh_count
  other_clauses = map_unless (λ c. names c x) (count (rule_holds (flip a x))) (count (rule_holds a)) (clause_unnamed a x) p.clauses

-- ---- in words and bytes

behind : (xs ys : List ℕ) (k i : ℕ) → length xs ≡ k → k ≤ i → get_or (xs ++ ys) i 0 ≡ get_or ys (i - k) 0
behind xs ys k i e h = ap (λ j. get_or (xs ++ ys) j 0) (omega arith) ∙ get_or-append-add xs ys (i - k) 0

-- Two lists of two parts, the first parts of one size, are the same at a place where the parts are.
same_parts : (xs us ys vs : List ℕ) (k i : ℕ) → length xs ≡ k → length us ≡ k → (i < k → get_or xs i 0 ≡ get_or us i 0) → (k ≤ i → get_or ys (i - k) 0 ≡ get_or vs (i - k) 0) → get_or (xs ++ ys) i 0 ≡ get_or (us ++ vs) i 0
same_parts xs us ys vs k i e d f g = at (dec_lt i k)
  where
    at : Dec (i < k) → get_or (xs ++ ys) i 0 ≡ get_or (us ++ vs) i 0
    at (yes h) = get_or-append xs ys 0 i (rw e h) ∙ f h ∙ sym (get_or-append us vs 0 i (rw d h))
    at (no h) = behind xs ys k i e (omega arith) ∙ g (omega arith) ∙ sym (behind us vs k i d (omega arith))

same_bytes_at : (ws us : List ℕ) (i : ℕ) → length ws ≡ length us → get_or ws (i / 4) 0 ≡ get_or us (i / 4) 0 → get_or (word_bytes ws) i 0 ≡ get_or (word_bytes us) i 0
unfolding word_bytes
same_bytes_at [] [] i e h = refl
same_bytes_at [] (u ∷ us) i e h = omega arith
same_bytes_at (w ∷ ws) [] i e h = omega arith
same_bytes_at (w ∷ ws) (u ∷ us) i e h =
    same_parts (bytes_of 4 w) (bytes_of 4 u) (word_bytes ws) (word_bytes us) 4 i (length_bytes_of 4 w) (length_bytes_of 4 u)
    (λ l. let z : i / 4 ≡ 0 = omega arith in ap (λ v. get_or (bytes_of 4 v) i 0) (rw z at h))
    (λ l. let z : i / 4 ≡ suc ((i - 4) / 4) = omega arith in same_bytes_at ws us (i - 4) (omega arith) (rw z at h))

-- Which words concern a variable, section by section.
module _ (p : Plan) (fits : Fits p) (x : ℕ) where
  few_rules : length (rules_naming p x) ≤ rule_room
  unfolding rules_naming
  few_rules = simp length-map fits.rules

  few_clauses : length (clauses_naming p x) ≤ clause_room
  unfolding clauses_naming
  few_clauses = simp length-map fits.clauses

  pub concerns_rule : (r : ℕ) → r < rule_room → concerns p x r ≡ get_or (rules_naming p x) r false
  unfolding concerns
  concerns_rule r h = order_rule false _ _ _ few_rules few_clauses r h

  pub concerns_clause : (c : ℕ) → c < clause_room → concerns p x (holding_at c) ≡ get_or (clauses_naming p x) c false
  unfolding concerns
  concerns_clause c h = order_clause false _ _ _ few_rules few_clauses c h

  concerns_total : concerns p x unsatisfied_at ≡ true
  unfolding concerns
  concerns_total = order_whole false _ _ _ few_rules few_clauses

-- Past the total there is no word.
past_words : (p : Plan) → Fits p → (a : Assignment) (i : ℕ) → tally_word_count ≤ i → tally_word p a i ≡ 0
unfolding tally_word
past_words p fits a i h = get_or-eq_default (tally_words (fresh_count p a)) 0 (rw (length_fresh_words p fits a) h)

module _ (p : Plan) (fits : Fits p) (a : Assignment) (x : ℕ) where
  other_clause : (i : ℕ) → rule_room ≤ i → i < unsatisfied_at → concerns p x i ≡ false → tally_word p (flip a x) i ≡ tally_word p a i
  other_clause i h k e =
      let z : i ≡ holding_at (i - rule_room) = omega arith in
      let c = i - rule_room in
      let l : c < clause_room = omega arith in
      rw z (holding_at_lem p fits (flip a x) c l ∙ other_clauses p a x c (sym (concerns_clause p fits x c l) ∙ rw z at e) ∙ sym (holding_at_lem p fits a c l))

  pub other_words : (i : ℕ) → concerns p x i ≡ false → tally_word p (flip a x) i ≡ tally_word p a i
  other_words i e = at (dec_lt i rule_room) (dec_lt i unsatisfied_at) (dec_lt unsatisfied_at i)
    where
      at : Dec (i < rule_room) → Dec (i < unsatisfied_at) → Dec (unsatisfied_at < i) → tally_word p (flip a x) i ≡ tally_word p a i
      at (yes h) k m = weights_at p fits (flip a x) i h ∙ other_rules p a x i (sym (concerns_rule p fits x i h) ∙ e) ∙ sym (weights_at p fits a i h)
      at (no h) (yes k) m = other_clause i (omega arith) k e
      at (no h) (no k) (yes m) = past_words p fits (flip a x) i m ∙ sym (past_words p fits a i m)
      at (no h) (no k) (no m) = let z : i ≡ unsatisfied_at = omega arith in absurd (true≢false (sym (concerns_total p fits x) ∙ rw z at e))

  pub other_bytes : (i : ℕ) (rest : List ℕ) → concerns p x (i / 4) ≡ false → get_or (tally_bytes (fresh_count p (flip a x)) ++ rest) i 0 ≡ get_or (tally_bytes (fresh_count p a) ++ rest) i 0
  unfolding tally_bytes tally_word
  other_bytes i rest e =
      same_parts (tally_bytes (fresh_count p (flip a x))) (tally_bytes (fresh_count p a)) rest rest tally_size i
      (length_fresh p fits (flip a x)) (length_fresh p fits a)
      (λ h. same_bytes_at (tally_words (fresh_count p (flip a x))) (tally_words (fresh_count p a)) i
      (length_fresh_words p fits (flip a x) ∙ sym (length_fresh_words p fits a)) (other_words (i / 4) e))
      (λ h. refl)

-- ---- the calls

get_d_turned : (a : List ℕ) (x i : ℕ) → x ≤ length a → get_or (turned a x) i 0 ≡ cond (eqb (suc i) x) (1 - get_or a i 0) (get_or a i 0)
unfolding turned
get_d_turned a zero i h = rw eqb-suc-zero
get_d_turned a (suc j) i h =
    either (eqb (suc i) (suc j))
    (λ e. let z : i ≡ j = omega (arith, eqb-true (suc i) (suc j) e) in rw (e, z) (get_or-set_same a j (1 - get_or a j 0) 0 h))
    (λ e. rw e (get_or-set_other a j i (1 - get_or a j 0) 0 (λ q. eqb-false (suc i) (suc j) e (ap suc q))))

module _ (l : Lent) (x : ℕ) (e : flip_refusal l x ≡ 0) where
  b : Assignment
  b = bits l

  tested : Takes l x
  tested = takes l x (flips l x e).0

  o : Opens l
  o = tested.opening

  bits_size : length b ≡ (plan l).variables
  unfolding b
  bits_size = length_bits_of (plan l).variables l.assignment (assignment_room l o)

  lent_now : l ≡ told (plan l) l b
  unfolding b
  lent_now = lent_told l o tested.fresh

  left : left_by l (flip_call x) ≡ told (plan l) l (flip b x)
  left = ap (λ m. left_by m (flip_call x)) lent_now ∙ told_flip l o b bits_size x tested.variable (flips l x e).1

  left_size : length (flip b x) ≡ (plan l).variables
  left_size = length_flip b x ∙ bits_size

  left_assignment : (left_by l (flip_call x)).assignment ≡ turned l.assignment x
  unfolding left_by flip_assignment
  left_assignment = rw e refl

  left_tallies : (left_by l (flip_call x)).tallies ≡ (told (plan l) l (flip b x)).tallies
  left_tallies = ap (λ m. m.tallies) left

  other_tallies : (i : ℕ) → concerns (plan l) x (i / 4) ≡ false → get_or (left_by l (flip_call x)).tallies i 0 ≡ get_or l.tallies i 0
  unfolding told
  other_tallies i h =
      ap (λ s. get_or s i 0) left_tallies
      ∙ other_bytes (plan l) (plan_fits l o) b x i (drop tally_size l.tallies) h
      ∙ sym (ap (λ m. get_or m.tallies i 0) lent_now)

  again : is_refused (answer (told (plan l) l (flip b x)) (flip_call x)) ≡ false
  unfolding answer is_refused
  again = rw (told_flip_refusal l o (flip b x) left_size x, tested.variable, (flips l x e).1)

  narrow : Narrow (plan l) x l (left_by l (flip_call x))
  narrow =
      let v = variable_range (plan l) x tested.variable in
      record {
        one_byte = λ i. rw left_assignment (get_d_turned l.assignment x i (le_trans v.1 (assignment_room l o)));
        other_tallies = other_tallies;
        assignment_length = rw left_assignment (length_turned l.assignment x);
        tallies_length = rw left_tallies (told_tallies_room l o (flip b x) left_size);
        tables_kept = unfold left_by in refl;
        terms_kept = unfold left_by in refl;
        accepted_again = rw left again;
        restored = rw left (told_flip l o (flip b x) left_size x tested.variable (flips l x e).1 ∙ ap (told (plan l) l) (flip_twice b x) ∙ sym lent_now);
      }

-- A call is an accepted flip of a variable where it is a flip of it that is not refused.
accepted_only : (k n : ℕ) → not (is_refused (cond (eqb k 0) (accepted n) (refused k))) ≡ eqb k 0
unfolding is_refused
accepted_only zero n = refl
accepted_only (suc k) n = rw (eqb-suc-zero k)

is_flip : (l : Lent) (x y : ℕ) → is_flip_of x (flip_call y) (answer l (flip_call y)) ≡ (eqb y x and eqb (flip_refusal l y) 0)
unfolding is_flip_of answer
is_flip l x y = ap (λ b. eqb y x and b) (accepted_only (flip_refusal l y) (flip_rules l y))

flip_step : (l : Lent) (x y : ℕ) → is_flip_of x (flip_call y) (answer l (flip_call y)) ≡ true → Narrow (plan l) x l (left_by l (flip_call y))
flip_step l x y h =
    let t = sym (is_flip l x y) ∙ h in
    let z : x ≡ y = sym (eqb-true y x (and_left _ _ t)) in
    rw z (narrow l y (eqb-true (flip_refusal l y) 0 (and_right _ _ t)))

flip_refused : (l : Lent) (y : ℕ) → is_flip_of y (flip_call y) (answer l (flip_call y)) ≡ false → left_by l (flip_call y) ≡ l
unfolding ◌and◌
flip_refused l y h = go (flip_refusal l y) refl
  where
    go : (k : ℕ) → flip_refusal l y ≡ k → left_by l (flip_call y) ≡ l
    go zero e = absurd (true≢false (sym (is_flip l y y ∙ rw (e, eq-eqb y y refl) refl) ∙ h))
    go (suc k) e = refused_left l y e

pub every_call : EveryCall
every_call l (flip_call y) = record { flip_narrow = λ x h. flip_step l x y h; others_nothing = λ h. flip_refused l y (h y) }
every_call l (counts_call y) = record { flip_narrow = λ x h. absurd (false≢true (unfold is_flip_of in h)); others_nothing = λ h. counts_left l y }

-- .. and of each call of a list, because no call changes the tables.
left_plan : (l : Lent) (c : Call) → plan (left_by l c) ≡ plan l
unfolding plan left_by
left_plan l (flip_call x) = refl
left_plan l (counts_call x) = refl

pub each_call : (p : Plan) (l : Lent) (cs : List Call) → plan l ≡ p → EachStep p l cs
each_call p l [] e = tt
each_call p l (c ∷ cs) e = (subst (λ q. Step q l c) e (every_call l c), each_call p (left_by l c) cs (left_plan l c ∙ e))
