-- A rule's entry, as it is read, is that of the rule in the tables.
-- Assumes nothing.
use Prim.Native.Nat.{ℕ, ◌+◌, ◌≤◌}
use native.Mathlib.Omega.{arith}
use mathlib.Core.Bool.{Bool, true, false, cond}
use lib.Dec.{eqb}
use mathlib.Core.List.{List, ◌++◌}
use mathlib.Core.Path.{◌≡◌, refl, sym, ap, ap₂, ◌∙◌}
use lib.IntN.{ℤ, nat_abs}
use Rattle.std.proofs.Common.{Option, Some, None, IfSome}
use Rattle.plpb.specs.Plan.{Bound, absent, present}
use Rattle.counting.specs.Bound.{bound_of}
use Rattle.words.specs.Words.{word_at}
use Rattle.format.specs.File.{bound_of as bound_in}
use Rattle.format.specs.Tables.{rule_of}
use Rattle.rules.specs.declared.entry.Entry.{Entry}
use Rattle.rules.specs.Rules.{EntryAt}
use Rattle.extremes.specs.Terms.{terms_in}
use Rattle.extremes.specs.Sums.{terms_of}
use Rattle.opb.specs.Tau.{straight, both_lines, rule_lines}
use Rattle.constraints.specs.Bytes.{lines_bytes}
use Rattle.rulelines.specs.declared.Rule.{Rule}
use Rattle.rulelines.specs.Rules.{bound_line, atom_lines, RuleFits}
use Rattle.rulelines.specs.Read.{rule_in, RuleRead}
use Rattle.rulelines.proofs.Lines.{rule_bytes, straight_bytes}
use Rattle.format.specs.Layout.{rule_count_at, rule_first_at, rule_lower_at, rule_mode_at, rule_upper_at}

-- A bound that is there is the number that was read for it, and so as small.
size_in : Bound ℤ → ℕ
size_in absent = 0
size_in (present b) = nat_abs b

bound_small : (o : Option ℤ) (without mode : ℕ) (v : ℤ) {n : ℕ} → bound_of o ≡ bound_in without mode v → nat_abs v ≤ n → IfSome o (λ b. nat_abs b ≤ n)
unfolding bound_in size_in
bound_small None without mode v e h = tt
bound_small (Some b) without mode v {n} e h = rw (ap size_in e) (by (eqb mode without))
  where
    by : (t : Bool) → size_in (cond t absent (present v)) ≤ n
    by true = omega arith
    by false = h

-- Its bounds, whatever table its terms stand in.
module _ (tables : List ℕ) (g : ℕ → ℕ) (r : ℕ) (e : Entry) (h : EntryAt (word_at tables) (rule_first_at r) e) where
  pub entry_lower : bound_of e.lower ≡ (rule_of (word_at tables) g r).lower
  unfolding rule_of
  entry_lower =
      let mode : rule_first_at r + 2 ≡ rule_mode_at r = omega arith in
      let lower : rule_first_at r + 3 ≡ rule_lower_at r = omega arith in
      rw (mode, lower) at h.lower

  pub entry_upper : bound_of e.upper ≡ (rule_of (word_at tables) g r).upper
  unfolding rule_of
  entry_upper =
      let mode : rule_first_at r + 2 ≡ rule_mode_at r = omega arith in
      let upper : rule_first_at r + 4 ≡ rule_upper_at r = omega arith in
      rw (mode, upper) at h.upper

module _ (tables terms : List ℕ) (r : ℕ) (e : Entry) (h : EntryAt (word_at tables) (rule_first_at r) e) where
  abbrev f : ℕ → ℕ
  f = word_at tables

  abbrev g : ℕ → ℕ
  g = word_at terms

  first_is : e.first ≡ f (rule_first_at r)
  first_is = h.first

  count_is : e.count ≡ f (rule_count_at r)
  count_is = let n : rule_first_at r + 1 ≡ rule_count_at r = omega arith in h.count ∙ ap f n

  entry_terms : terms_in g e.first e.count ≡ (rule_of f g r).terms
  unfolding rule_of terms_in
  entry_terms = ap₂ (terms_in g) first_is count_is

  module _ (fit : RuleFits tables terms r) where
    lower_small : IfSome e.lower (λ b. nat_abs b ≤ 1_000_000_000)
    unfolding rule_of
    lower_small = bound_small e.lower 2 _ _ (entry_lower tables g r e h) fit.lower

    upper_small : IfSome e.upper (λ b. nat_abs b ≤ 1_000_000_000)
    unfolding rule_of
    upper_small = bound_small e.upper 1 _ _ (entry_upper tables g r e h) fit.upper

    read_is : (s : Rule) → s.lower ≡ e.lower → s.upper ≡ e.upper → terms_of s.sum ≡ terms_in g e.first e.count → rule_in s ≡ rule_of f g r
    unfolding rule_of
    read_is s a b d = rw (ap bound_of a ∙ entry_lower tables g r e h, ap bound_of b ∙ entry_upper tables g r e h, d ∙ entry_terms) refl

    pub rule_read : (s : Rule) → s.lower ≡ e.lower → s.upper ≡ e.upper → terms_of s.sum ≡ terms_in g e.first e.count → RuleRead tables terms r s
    rule_read s a b d = record {
      is = read_is s a b d;
      lower = rw a lower_small;
      upper = rw b upper_small;
    }

-- The lines of a rule that was read.
module _ {tables terms : List ℕ} {i : ℕ} {r : Rule} (h : RuleRead tables terms i r) where
  pub rule_parts :
      (k : ℕ) → lines_bytes (rule_lines k (rule_of (word_at tables) (word_at terms) i))
      ≡ lines_bytes (atom_lines true (k + 2) (bound_of r.upper) (terms_of r.sum))
      ++ (lines_bytes (atom_lines false (k + 1) (bound_of r.lower) (terms_of r.sum)) ++ lines_bytes (both_lines k))
  rule_parts k = ap (λ q. lines_bytes (rule_lines k q)) (sym h.is) ∙ rule_bytes k (rule_in r)

  pub straight_parts :
      lines_bytes (straight (rule_of (word_at tables) (word_at terms) i))
      ≡ lines_bytes (bound_line false (bound_of r.lower) (terms_of r.sum)) ++ lines_bytes (bound_line true (bound_of r.upper) (terms_of r.sum))
  straight_parts = ap (λ q. lines_bytes (straight q)) (sym h.is) ∙ straight_bytes (rule_in r)
