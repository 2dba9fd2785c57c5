-- Laws of the counts of a variable: the shares of a clause joined rule by rule, its counts summed clause by clause, each capped at each step.
-- Assumes nothing.
use Prim.Native.Nat.{ℕ, ◌+◌, ◌-◌, ◌≤◌, ◌<◌}
use native.Mathlib.Nat.{add-zero, zero-add}
use native.Mathlib.Omega.{arith}
use mathlib.Core.Path.{◌≡◌, refl, sym, ap, ◌∙◌}
use mathlib.Core.Bool.{Bool, true, false}
use mathlib.Core.List.{List, [], ◌∷◌, map}
use lib.ListN.{length, take}
use lib.Dec.{eqb}
use borrow.Author.Tests.{eqb-true}
use Rattle.plpb.specs.Lists.{◌and◌, sum_by, row}
use Rattle.plpb.specs.Plan.{Clause, Assignment, names}
use Rattle.plpb.specs.Count.{capped, capped_break, capped_make}
use Rattle.plpb.specs.Equations.{shares_of, clause_break, clause_make, break_sum, make_sum}
use Rattle.plpb.specs.Equations.{Shares as SharesOf}
use Rattle.plpb.proofs.Equations.{break_formula, make_formula}
use Rattle.plpb.proofs.Capped.{capped_zero, capped_twice, sum_step}
use Rattle.counting.specs.Shares.{capped_shares, start_shares, joined_shares, joined_along}
use Rattle.counting.proofs.Joining.{same_shares, capped_stays, capped_start, joined_step, clause_shares_lem}
use Rattle.format.proofs.Bools.{and_left, and_right}
use Rattle.words.specs.Words.{word_at}
use Rattle.format.specs.Tables.{rule_of, clause_of, plan_in, plan_of_tables}
use Rattle.rules.specs.Terms.{bits_in}
use Rattle.rules.specs.Rules.{rule_at}
use Rattle.rules.specs.State.{StateOf, shares_from}
use Rattle.rules.specs.declared.state.State.{State}
use Rattle.rules.proofs.States.{shares_rule}
use Rattle.rules.proofs.Tables.{rule_at_lem}
use Rattle.tallies.specs.Layout.{bits_of}
use Rattle.exact.specs.declared.Counts.{Counts}
use Rattle.recount.specs.Core.{Ready}
use Rattle.exact.specs.Counted.{CountsAre}
use Rattle.recount.proofs.Along.{along_step, along_end}
use Rattle.tallies.proofs.Bits.{length_bits_of}
use Rattle.recount.proofs.Laid.{rises}
use Rattle.recount.proofs.Unnamed.{no_break, no_make}
use Rattle.recount.proofs.Cores.{first_bits_of}
use Rattle.format.specs.Layout.{clause_count_at, clause_first_at, rule_first_at}

-- ---- a rule

pub rule_joined : (f g : ℕ → ℕ) (a : Assignment) (r x : ℕ) {s : State} (before after : SharesOf) → StateOf a x (rule_at f g (rule_first_at r)) s → after ≡ capped_shares (joined_shares before (capped_shares (shares_from s))) → after ≡ capped_shares (joined_shares before (capped_shares (shares_of a x (rule_of f g r))))
rule_joined f g a r x {s} before after h e =
    let here : StateOf a x (rule_of f g r) s = rw (rule_at_lem f g r) at h in
    e ∙ ap (λ t. capped_shares (joined_shares before (capped_shares t))) (shares_rule here)

-- ---- the rules of a clause

-- Those before r are joined.
pub record SharesDone (f g : ℕ → ℕ) (a : Assignment) (c x end r : ℕ) (s : SharesOf) : Type 0 where
  pub ends : end ≡ f (clause_first_at c) + f (clause_count_at c)
  pub high : r ≤ end
  pub stays : capped_shares s ≡ s
  pub along : capped_shares (joined_along (shares_of a x) s (map (rule_of f g) (row r (end - r)))) ≡ capped_shares (joined_along (shares_of a x) start_shares (clause_of f g c))

-- No part is spoiled, mended or left.
unfoldable none : SharesOf
none = record { e = 0; f = 0; g = 0 }

none_left : (s : SharesOf) → (eqb s.e 0 and eqb s.f 0 and eqb s.g 0) ≡ true → s ≡ none
unfolding none
none_left s h =
    let two = and_left _ _ h in
    same_shares (eqb-true _ _ (and_left _ _ two)) (eqb-true _ _ (and_right _ _ two)) (eqb-true _ _ (and_right _ _ h))

none_joined : (t : SharesOf) → joined_shares none t ≡ none
unfolding none joined_shares
none_joined t = same_shares (omega arith) (omega arith) (omega arith)

none_along : {A : Type 0} (h : A → SharesOf) (rs : List A) → joined_along h none rs ≡ none
unfolding joined_along
none_along h [] = refl
none_along h (r ∷ rs) = ap (λ s. joined_along h s rs) (none_joined (h r)) ∙ none_along h rs

none_capped : capped_shares none ≡ none
unfolding none capped_shares
none_capped = same_shares capped_zero capped_zero capped_zero

all_settled : {A : Type 0} (h : A → SharesOf) (s : SharesOf) (rs : List A) → s ≡ none → s ≡ capped_shares (joined_along h s rs)
all_settled h s rs e = rw e (sym (ap capped_shares (none_along h rs) ∙ none_capped))

module _ (f g : ℕ → ℕ) (a : Assignment) (c x : ℕ) where
  pub shares_start : (first end : ℕ) (s : SharesOf) → first ≡ f (clause_first_at c) → end ≡ f (clause_first_at c) + f (clause_count_at c) → s ≡ start_shares → SharesDone f g a c x end first s
  unfolding clause_of
  shares_start first end s e k z =
      let n : end - first ≡ f (clause_count_at c) = omega arith in
      record { ends = k; high = omega arith; stays = rw z capped_start; along = rw (n, e, z) refl }

  module _ (end r : ℕ) (s : SharesOf) (d : SharesDone f g a c x end r s) where
    pub shares_step : (t : SharesOf) → r < end → t ≡ capped_shares (joined_shares s (capped_shares (shares_of a x (rule_of f g r)))) → SharesDone f g a c x end (r + 1) t
    shares_step t h e =
        let rest = map (rule_of f g) (row (r + 1) (end - (r + 1))) in
        record {
          ends = d.ends;
          high = omega arith;
          stays = capped_stays t (joined_shares s (capped_shares (shares_of a x (rule_of f g r)))) e;
          along =
              joined_step (shares_of a x) s t (capped_shares (shares_of a x (rule_of f g r))) (rule_of f g r) rest refl e
              ∙ ap (λ l. capped_shares (joined_along (shares_of a x) s l)) (sym (along_step (rule_of f g) r end h))
              ∙ d.along;
        }

    pub shares_end : end ≤ r → s ≡ capped_shares (joined_along (shares_of a x) start_shares (clause_of f g c))
    unfolding joined_along
    shares_end h = sym d.stays ∙ rw (along_end (rule_of f g) r end h) at d.along

    -- Where no part is left, the rules behind leave none.
    pub shares_settled : {b : Bool} → b ≡ (eqb s.e 0 and eqb s.f 0 and eqb s.g 0) → b ≡ true → s ≡ capped_shares (joined_along (shares_of a x) start_shares (clause_of f g c))
    shares_settled k t = all_settled _ s (map (rule_of f g) (row r (end - r))) (none_left s (sym k ∙ t)) ∙ d.along

-- ---- a clause

module _ (a : Assignment) (x : ℕ) (c : Clause) where
  pub shares_break : (s : SharesOf) → s ≡ capped_shares (joined_along (shares_of a x) start_shares c) → s.e ≡ capped (clause_break a x c)
  unfolding capped_shares
  shares_break s h = ap (λ t. t.e) (h ∙ ap capped_shares (clause_shares_lem a x c))

  pub shares_make : (s : SharesOf) → s ≡ capped_shares (joined_along (shares_of a x) start_shares c) → s.f ≡ capped (clause_make a x c)
  unfolding capped_shares
  shares_make s h = ap (λ t. t.f) (h ∙ ap capped_shares (clause_shares_lem a x c))

  pub none_broken : names c x ≡ false → 0 ≡ capped (clause_break a x c)
  none_broken e = sym (ap capped (no_break a x c e) ∙ capped_zero)

  pub none_made : names c x ≡ false → 0 ≡ capped (clause_make a x c)
  none_made e = sym (ap capped (no_make a x c e) ∙ capped_zero)

-- ---- a sum over clauses

-- Those before c are summed.
pub record SumDone (h : Clause → ℕ) (f g : ℕ → ℕ) (c n : ℕ) : Type 0 where
  pub high : c ≤ f 1
  pub stays : capped n ≡ n
  pub along : capped (n + sum_by h (map (clause_of f g) (row c (f 1 - c)))) ≡ capped (sum_by h (map (clause_of f g) (row 0 (f 1))))

module _ (h : Clause → ℕ) (f g : ℕ → ℕ) where
  pub sum_start : SumDone h f g 0 0
  sum_start =
      let z : f 1 - 0 ≡ f 1 = omega arith in
      record { high = omega arith; stays = capped_zero; along = rw (z, zero-add) refl }

  module _ (c n : ℕ) (d : SumDone h f g c n) where
    pub sum_more : (share m : ℕ) → c < f 1 → share ≡ capped (h (clause_of f g c)) → m ≡ capped (n + share) → SumDone h f g (c + 1) m
    sum_more share m l e k =
        record {
          high = omega arith;
          stays = ap capped k ∙ capped_twice (n + share) ∙ sym k;
          along =
              sum_step h n m share (clause_of f g c) (map (clause_of f g) (row (c + 1) (f 1 - (c + 1)))) e k
              ∙ ap (λ q. capped (n + sum_by h q)) (sym (along_step (clause_of f g) c (f 1) l))
              ∙ d.along;
        }

    pub sum_end_lem : f 1 ≤ c → n ≡ capped (sum_by h (map (clause_of f g) (row 0 (f 1))))
    unfolding sum_by
    sum_end_lem l = sym d.stays ∙ ap capped (sym (add-zero n)) ∙ rw (along_end (clause_of f g) c (f 1) l) at d.along

-- ---- a plan

module _ (tables terms : List ℕ) (a : Assignment) (x : ℕ) where
  pub sum_breaks : (n : ℕ) → n ≡ capped (sum_by (clause_break a x) (map (clause_of (word_at tables) (word_at terms)) (row 0 (word_at tables 1)))) → n ≡ capped (break_sum (plan_of_tables tables terms) a x)
  unfolding break_sum plan_of_tables plan_in
  sum_breaks n e = e

  pub sum_makes : (n : ℕ) → n ≡ capped (sum_by (clause_make a x) (map (clause_of (word_at tables) (word_at terms)) (row 0 (word_at tables 1)))) → n ≡ capped (make_sum (plan_of_tables tables terms) a x)
  unfolding make_sum plan_of_tables plan_in
  sum_makes n e = e

module _ (tables terms assignment : List ℕ) (y : Ready tables terms assignment) (n : ℕ) (e : n ≡ word_at tables 0) (x : ℕ) (low : 0 < x) (high : x ≤ (plan_of_tables tables terms).variables) where
  -- The sums of the equations are the numbers of expansion clauses.
  pub counts_whole : {r : Counts} → CountsAre (capped (break_sum (plan_of_tables tables terms) (bits_in (take n assignment)) x)) (capped (make_sum (plan_of_tables tables terms) (bits_in (take n assignment)) x)) r → CountsAre (capped_break (plan_of_tables tables terms) (bits_of (plan_of_tables tables terms).variables assignment) x) (capped_make (plan_of_tables tables terms) (bits_of (plan_of_tables tables terms).variables assignment) x) r
  unfolding capped_break capped_make
  counts_whole {r} k =
      let p = plan_of_tables tables terms in
      let a = bits_of p.variables assignment in
      let same = first_bits_of tables terms assignment y n e in
      let long : x ≤ length a = rw (length_bits_of p.variables assignment y.bytes) high in
      record {
        breaks = k.breaks ∙ ap (λ b. capped (break_sum p b x)) same ∙ ap capped (sym (break_formula p a x (rises tables terms y.laid) low long));
        makes = k.makes ∙ ap (λ b. capped (make_sum p b x)) same ∙ ap capped (sym (make_formula p a x (rises tables terms y.laid) low long));
      }
