-- The fault of a line, case by case.
-- Assumes nothing.
use Prim.Native.Nat.{ℕ, ◌+◌, ◌≤◌, ◌<◌}
use native.Mathlib.Omega.{arith}
use mathlib.Core.Path.{◌≡◌, refl, sym, ap, ◌∙◌}
use mathlib.Core.Bool.{Bool, true, false, not}
use mathlib.Core.List.{List, [], ◌∷◌}
use lib.Dec.{leb, ltb, eqb}
use lib.IntN.{nat_abs}
use lib.ListN.{length, get_or}
use borrow.Author.Tests.{le-leb, lt-leb, leb-false, ltb-false}
use Rattle.plpb.specs.Lists.{◌or◌, is_empty}
use Rattle.format.specs.File.{refuse}
use Rattle.std.specs.Prelude.{Option, Some, None, is_some, MatchOption}
use Rattle.tokens.specs.Tokens.{line_end, number_at, begins, word_end, seen}
use Rattle.tokens.specs.declared.text.Text.{Text}
use Rattle.tokens.specs.Found.{left, Reads, Behind, takes, Found}
use Rattle.tokens.proofs.Runs.{word_there}
use Rattle.tokens.proofs.Numbers.{seen_ltb}
use Rattle.statements.specs.declared.Sum.{Sum}
use Rattle.statements.specs.Grammar.{unsigned_from, integer_at, bound_from, bound_at, is_comment, is_objective, min_word, sum_from, sum_at, sum_end, terms_in}
use Rattle.statements.specs.Parts.{behind_min, SumAt}
use Rattle.statements.proofs.Parts.{size_signed}
use Rattle.std.specs.Prelude.{Result, Ok, Err}
use Rattle.std.specs.Option.{ok_or}
use Rattle.opb_judge.specs.declared.Fault.{Fault}
use Rattle.opb_judge.specs.declared.Fault.TheVariants.{TermsUnlawful}
use Rattle.opb_judge.specs.Steps.{number_of, Finds, Unless}
use Rattle.opb_lines.specs.ReadText.{variables_in, first_met, objective_fault, constraint_fault, fault}

false_true : false ≡ true → ⊥
false_true e = let z : ◌≡◌ {A = ℕ} 0 1 = cc in omega arith

-- No condition is met.
pub met_none : (a b c d e : Bool) → first_met a b c d e ≡ 0 → (a ≡ false) × (b ≡ false) × (c ≡ false) × (d ≡ false) × (e ≡ false)
unfolding first_met refuse
met_none true b c d e h = absurd (omega arith)
met_none false true c d e h = absurd (omega arith)
met_none false false true d e h = absurd (omega arith)
met_none false false false true e h = absurd (omega arith)
met_none false false false false true h = absurd (omega arith)
met_none false false false false false h = (refl, refl, refl, refl, refl)

-- The same tests meet the same condition.
pub met_same :
    {a a' b b' c c' d d' e e' : Bool} → a ≡ a' → b ≡ b' → c ≡ c' → d ≡ d' → e ≡ e' → first_met (not a) b c d (not e) ≡ first_met (not a') b' c' d' (not e')
met_same p q r u v i = first_met (not (p i)) (q i) (r i) (u i) (not (v i))

-- A sum without a term is malformed, before anything else is looked at.
pub refused_none : (b : Bool) (x : ℕ) → not b ≡ false → 31 ≡ refuse b 31 x
unfolding refuse
refused_none true x h = refl
refused_none false x h = absurd (false_true (sym h))

pub refused_late : (b : Bool) {x : ℕ} → 31 ≡ x → 31 ≡ refuse b 31 x
unfolding refuse
refused_late true h = refl
refused_late false h = h

pub refused_some : (b : Bool) (x : ℕ) → not b ≡ true → x ≡ refuse b 31 x
unfolding refuse
refused_some true x h = absurd (false_true h)
refused_some false x h = refl

pub refused_zero : (b : Bool) (x : ℕ) → refuse b 31 x ≡ 0 → (b ≡ false) × (x ≡ 0)
unfolding refuse
refused_zero true x h = absurd (omega arith)
refused_zero false x h = (refl, h)

-- A statement that is not formed is malformed.
pub malformed_is : {a : Bool} (b c d e : Bool) → a ≡ false → 31 ≡ first_met (not a) b c d e
unfolding first_met refuse
malformed_is b c d e h = rw h

-- A formed statement's faults, one after another: each is told where it is met and none before it is.
pub above_first : {b : Bool} (c d e : Bool) → b ≡ true → 32 ≡ first_met false b c d e
unfolding first_met refuse
above_first c d e h = rw h

pub full_next : {b c : Bool} (d e : Bool) → b ≡ false → c ≡ true → 4 ≡ first_met false b c d e
unfolding first_met refuse
full_next d e h k = rw (h, k)

pub wide_next : {b c d : Bool} (e : Bool) → b ≡ false → c ≡ false → d ≡ true → 6 ≡ first_met false b c d e
unfolding first_met refuse
wide_next e h k l = rw (h, k, l)

pub lawful_last :
    {b c d : Bool} (e : Bool) → b ≡ false → c ≡ false → d ≡ false → (r : Result (Unit {0}) Fault) → Unless e TermsUnlawful r
    → Finds (first_met false b c d e) r
unfolding first_met refuse
lawful_last e h k l (Ok u) m = rw (h, k, l, m)
lawful_last e h k l (Err f) (m, f_is) = rw (h, k, l, m, f_is)

same_fault : {A E : Type 0} {f g : E} → ◌≡◌ {A = Result A E} (Err f) (Err g) → f ≡ g
same_fault e = cc

same_found : {A E : Type 0} {x y : A} → ◌≡◌ {A = Result A E} (Ok x) (Ok y) → x ≡ y
same_found e = cc

-- What is told of a statement is told of its line.
pub told_on : {n m : ℕ} → n ≡ m → {f g : Fault} → g ≡ f → number_of f ≡ n → number_of g ≡ m
told_on e p q = ap number_of p ∙ q ∙ e

-- What is not there is the fault that stands for it, and what is there is found.
pub not_there : {A E : Type 0} (r : Option A) (p : Type 0) (q : A → Type 0) → MatchOption r p q → {f e : E} → ◌≡◌ {A = Result A E} (Err f) (ok_or r e) → p × (f ≡ e)
not_there None p q h e = (h, same_fault e)
not_there (Some x) p q h e = cc

pub there : {A E : Type 0} (r : Option A) (p : Type 0) (q : A → Type 0) (f : E) → MatchOption r p q → {x : A} → ◌≡◌ {A = Result A E} (Ok x) (ok_or r f) → q x
there None p q f h e = cc
there (Some y) p q f h e = rw (same_found e) h

-- "min:" is there where its end is behind its place.
pub named_is : (t : Text) (r : Option Text) → Found (begins min_word (left t)) (Reads (Behind (word_end min_word)) t) r → is_some r ≡ takes (word_end min_word) t
named_is t None e = sym (word_there 109 (105 ∷ 110 ∷ 58 ∷ []) t.bytes.now t.at ∙ e)
named_is t (Some k) (e, h) = sym (word_there 109 (105 ∷ 110 ∷ 58 ∷ []) t.bytes.now t.at ∙ e)

-- Where the sum of a statement begins.
module _ (s : List ℕ) (at : ℕ) where
  pub sum_behind : is_objective s at ≡ true → {u : Text} → Behind behind_min s at u → Behind sum_from s at u
  unfolding sum_from
  sum_behind h b = record { bytes = b.bytes; at = rw h b.at }

  pub sum_plain : is_objective s at ≡ false → at ≡ sum_from s at
  unfolding sum_from
  sum_plain h = rw h

pub sum_moved : {s s' : List ℕ} {x y n m : ℕ} {r : Sum} → s' ≡ s → x ≡ y → n ≡ m → SumAt s' x n r → SumAt s y m r
sum_moved d e f h = rw (sym d, sym e, sym f) h

-- A bound's size is judged by what is seen of it.
pub bound_seen : (s : List ℕ) (at : ℕ) {k : ℕ} → k ≡ seen (number_at s (unsigned_from s (bound_from s (sum_end s at)))) → ltb 1_000_000_000 k ≡ ltb 1_000_000_000 (nat_abs (bound_at s at))
unfolding bound_at integer_at
bound_seen s at e =
    let k = number_at s (unsigned_from s (bound_from s (sum_end s at))) in
    ap (ltb 1_000_000_000) e ∙ seen_ltb 1_000_000_000 k (omega arith)
    ∙ ap (ltb 1_000_000_000) (sym (size_signed (eqb (get_or s (bound_from s (sum_end s at)) 0) 45) k))

-- A constraint that meets no condition is one of 512 at most, with its terms one of those of 6,000.
pub constraint_few : (n : ℕ) (s : List ℕ) (c t at : ℕ) → constraint_fault n s c t at ≡ 0 → (c < 512) × (t + length (sum_at s at) ≤ 6_000)
unfolding constraint_fault ◌or◌
constraint_few n s c t at h = go (leb 512 c) refl (met_none _ _ _ _ _ h).2
  where
    go : (b : Bool) → leb 512 c ≡ b → leb 512 c or ltb 6_000 (t + length (sum_at s at)) ≡ false → (c < 512) × (t + length (sum_at s at) ≤ 6_000)
    go true e q = absurd (false_true (sym (rw e at q)))
    go false e q = (leb-false 512 c e, ltb-false 6_000 _ (rw e at q))

module _ (s : List ℕ) (free : Bool) (c t at : ℕ) where
  pub fault_feed : length s ≤ line_end s at → fault (variables_in s) s free c t at ≡ 31
  unfolding fault refuse
  fault_feed h = rw (le-leb (length s) (line_end s at) h)

  module _ (l : line_end s at < length s) where
    pub fault_comment : is_comment s at ≡ true → fault (variables_in s) s free c t at ≡ 0
    unfolding fault refuse
    fault_comment h = rw (lt-leb (length s) (line_end s at) l, h)

    module _ (k : is_comment s at ≡ false) where
      pub fault_objective :
          is_objective s at ≡ true → fault (variables_in s) s free c t at ≡ refuse (is_empty (terms_in s at)) 31 (objective_fault (variables_in s) s free at)
      unfolding fault refuse
      fault_objective h = rw (lt-leb (length s) (line_end s at) l, k, h)

      pub fault_constraint :
          is_objective s at ≡ false → fault (variables_in s) s free c t at ≡ refuse (is_empty (terms_in s at)) 31 (constraint_fault (variables_in s) s c t at)
      unfolding fault refuse
      fault_constraint h = rw (lt-leb (length s) (line_end s at) l, k, h)
