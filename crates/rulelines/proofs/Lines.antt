-- The lines of a rule as bytes, by which bounds it has, and the sizes of their numbers.
-- Assumes nothing.
use Prim.Native.Nat.{ℕ, ◌+◌, ◌≤◌, ◌<◌}
use native.Mathlib.Omega.{arith}
use mathlib.Core.Path.{◌≡◌, refl, sym, ap, ◌∙◌}
use mathlib.Core.Bool.{Bool, true, false, not}
use mathlib.Core.List.{List, [], ◌∷◌, ◌++◌}
use lib.IntN.{ℤ, pos, nat_abs, ◌-ℤ◌}
use mir.Syntax.{w32}
use mir.Val.{SFits, to_z, of_z}
use mir.Facts.{to_z-of_z}
use Rattle.plpb.specs.Plan.{absent, present, Term, Rule}
use Rattle.counting.specs.Bound.{bound_of}
use Rattle.counting.proofs.Signed.{size_sum}
use Rattle.integers.proofs.Sizes.{size_less, small_fits}
use Rattle.opb.specs.Spell.{spell_line}
use Rattle.opb.specs.Tau.{weighted, geq, leq, fixed, lower_line, upper_line, straight, minus_lines, plus_lines, both_lines, rule_lines}
use Rattle.constraints.specs.Bytes.{lines_bytes, sided, Small}
use Rattle.constraints.proofs.Bytes.{lines_none, lines_cons, lines_one, lines_append}
use Rattle.constraints.proofs.Sides.{sided_plain}
use Rattle.extremes.specs.Terms.{extreme_of}
use Rattle.std.proofs.Common.{Option, Some}
use Rattle.rulelines.specs.Rules.{past_of, bound_line, atom_lines}

lines_two : (c d : _) → lines_bytes (c ∷ d ∷ []) ≡ spell_line c ++ spell_line d
lines_two c d = lines_cons c (d ∷ []) ∙ ap (λ l. spell_line c ++ l) (lines_one d)

-- A line with some terms and one more of a variable x.
abbrev pub line_of : Bool → List Term → ℕ → ℤ → ℤ → List ℕ
line_of t ts x w b = spell_line (sided t (ts ++ (weighted w x ∷ [])) b)

-- ---- (16) to (19)

pub atom_absent : (t : Bool) (x : ℕ) (ts : List Term) → lines_bytes (fixed x) ≡ lines_bytes (atom_lines t x absent ts)
unfolding atom_lines minus_lines plus_lines
atom_absent true x ts = refl
atom_absent false x ts = refl

pub atom_present :
    (t : Bool) (x : ℕ) (b : ℤ) (ts : List Term) → lines_bytes (atom_lines t x (present b) ts)
    ≡ line_of t ts x (extreme_of t ts -ℤ b) (extreme_of t ts) ++ line_of (not t) ts x (past_of t b -ℤ extreme_of (not t) ts) (past_of t b)
unfolding atom_lines minus_lines plus_lines sided past_of extreme_of
atom_present true x b ts = lines_two _ _
atom_present false x b ts = lines_two _ _

-- ---- straight

pub bound_absent : (t : Bool) (ts : List Term) → [] ≡ lines_bytes (bound_line t absent ts)
unfolding bound_line lower_line upper_line
bound_absent true ts = sym lines_none
bound_absent false ts = sym lines_none

pub bound_present : (t : Bool) (b : ℤ) (ts : List Term) → lines_bytes (bound_line t (present b) ts) ≡ line_of t ts 0 (pos 0) b
unfolding bound_line lower_line upper_line
bound_present true b ts = lines_one (leq ts b) ∙ sym (sided_plain true ts 0 b ∙ same)
  where
    same : spell_line (sided true ts b) ≡ spell_line (leq ts b)
    same = unfold sided in refl
bound_present false b ts = lines_one (geq ts b) ∙ sym (sided_plain false ts 0 b ∙ same)
  where
    same : spell_line (sided false ts b) ≡ spell_line (geq ts b)
    same = unfold sided in refl

-- ---- whole rules

pub straight_bytes : (r : Rule) → lines_bytes (straight r) ≡ lines_bytes (bound_line false r.lower r.terms) ++ lines_bytes (bound_line true r.upper r.terms)
unfolding straight bound_line
straight_bytes r = lines_append (lower_line r.lower r.terms) (upper_line r.upper r.terms)

pub rule_bytes :
    (k : ℕ) (r : Rule) → lines_bytes (rule_lines k r)
    ≡ lines_bytes (atom_lines true (k + 2) r.upper r.terms) ++ (lines_bytes (atom_lines false (k + 1) r.lower r.terms) ++ lines_bytes (both_lines k))
unfolding rule_lines atom_lines
rule_bytes k r =
    lines_append (minus_lines (k + 2) r.upper r.terms) (plus_lines (k + 1) r.lower r.terms ++ both_lines k)
    ∙ ap (λ l. lines_bytes (minus_lines (k + 2) r.upper r.terms) ++ l) (lines_append (plus_lines (k + 1) r.lower r.terms) (both_lines k))

-- ---- sizes

pub bound_fits : (b : ℤ) → nat_abs b ≤ 1_000_000_000 → SFits w32 b
bound_fits b h = small_fits b (omega arith)

pub small_by : {r z : ℤ} → r ≡ z → nat_abs z < 2_147_483_648 → Small r
small_by e h = rw e h

difference_small : (a b : ℤ) → nat_abs a + nat_abs b < 2_147_483_648 → nat_abs (a -ℤ b) < 2_147_483_648
difference_small a b h = omega (arith, h, size_less a b)

pub past_size : (t : Bool) (b : ℤ) → nat_abs b ≤ 1_000_000_000 → nat_abs (past_of t b) ≤ 1_000_000_001
unfolding past_of
past_size true b h = omega (arith, h, size_sum b (pos 1))
past_size false b h = omega (arith, h, size_less b (pos 1))

-- The numbers of the two lines, as the machine holds them: of the sum at one end and the bound, and of the number past the bound and the sum at the other end.
pub record Numbers (t : Bool) (ts : List Term) (b end other next : ℤ) : Type 0 where
  pub bound : nat_abs b ≤ 1_000_000_000
  pub end_is : end ≡ extreme_of t ts
  pub other_is : other ≡ extreme_of (not t) ts
  pub next_is : next ≡ past_of t b
  pub end_size : nat_abs end ≤ 512_000_000
  pub other_size : nat_abs other ≤ 512_000_000

module _ {t : Bool} {ts : List Term} {b end other next : ℤ} (n : Numbers t ts b end other next) where
  pub next_size : nat_abs next ≤ 1_000_000_001
  next_size = omega (arith, ap nat_abs n.next_is, past_size t b n.bound)

  pub first_small : nat_abs end + nat_abs b < 2_147_483_648
  first_small = omega (arith, n.end_size, n.bound)

  pub second_small : nat_abs next + nat_abs other < 2_147_483_648
  second_small = omega (arith, next_size, n.other_size)

  module _ {far near : ℤ} (f : far ≡ end -ℤ b) (g : near ≡ next -ℤ other) where
    pub far_small : Small far × Small end
    far_small = (small_by f (difference_small end b first_small), omega (arith, n.end_size))

    pub near_small : Small near × Small next
    near_small = (small_by g (difference_small next other second_small), omega (arith, next_size))

    pub numbers_lines : (x : ℕ) → lines_bytes (atom_lines t x (present b) ts) ≡ line_of t ts x far end ++ line_of (not t) ts x near next
    numbers_lines x = rw (f, g, n.end_is, n.other_is, n.next_is) (atom_present t x b ts)

-- The same as the machine holds them.
abbrev pub held : ℤ → ℤ
held z = to_z w32 (of_z w32 z)

pub bound_held : {b : ℤ} → nat_abs b ≤ 1_000_000_000 → held b ≡ b
bound_held {b} h = to_z-of_z (bound_fits b h)

pub numbers_held :
    {t u : Bool} {ts : List Term} (b : ℤ) {end other next : ℤ} → nat_abs b ≤ 1_000_000_000 → u ≡ not t
    → SFits w32 end → (end ≡ extreme_of t ts) × (nat_abs end ≤ 512_000_000) → SFits w32 other → (other ≡ extreme_of u ts) × (nat_abs other ≤ 512_000_000)
    → SFits w32 next → next ≡ past_of t (held b) → Numbers t ts (held b) (held end) (held other) (held next)
numbers_held {ts = ts} b h u fe e fo o fn n = record {
  bound = rw (bound_held h) h;
  end_is = to_z-of_z fe ∙ e.0;
  other_is = to_z-of_z fo ∙ o.0 ∙ ap (λ v. extreme_of v ts) u;
  next_is = to_z-of_z fn ∙ n;
  end_size = rw (to_z-of_z fe) e.1;
  other_size = rw (to_z-of_z fo) o.1;
}

pub atom_parts :
    {t : Bool} {ts : List Term} {o : Option ℤ} {b end other next far near : ℤ} → o ≡ Some b → nat_abs b ≤ 1_000_000_000 → Numbers t ts (held b) end other next
    → far ≡ end -ℤ held b → near ≡ next -ℤ other
    → (x : ℕ) → lines_bytes (atom_lines t x (bound_of o) ts) ≡ line_of t ts x far end ++ line_of (not t) ts x near next
atom_parts {t} {ts} e h n f g x =
    ap (λ o. lines_bytes (atom_lines t x (bound_of o) ts)) e
    ∙ ap (λ z. lines_bytes (atom_lines t x (present z) ts)) (sym (bound_held h))
    ∙ numbers_lines n f g x
