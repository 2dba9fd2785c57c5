-- A variable's run in the tables: where it begins and ends, and the variable's byte.
-- Assumes nothing.
use Prim.Native.Nat.{ℕ, zero, suc, ◌-◌, ◌≤◌}
use native.Mathlib.Omega.{arith}
use mathlib.Core.Path.{◌≡◌, refl, sym}
use mathlib.Core.Bool.{false, cond}
use mathlib.Core.List.{List, map}
use lib.Dec.{T, leb, eqb}
use lib.ListN.{length, get_or, take, length-take, get_or-map}
use lib.Seq.{get_or-take}
use borrow.Author.Tests.{leb-true}
use Rattle.plpb.specs.Plan.{Plan, Assignment, value, numbers_rise}
use Rattle.plpb.proofs.Lists.{all_at}
use Rattle.words.specs.Words.{word_at}
use Rattle.order.specs.Order.{order, run_end, numbers_within}
use Rattle.order.proofs.Tested.{order_length, ends_ordered, last_end}
use Rattle.format.specs.Tables.{plan_of_tables}
use Rattle.format.specs.Assignment.{bits_in}
use Rattle.format.specs.Layout.{end_at, table_size, term_room}
use Rattle.format.proofs.Bools as bools
use Rattle.format.proofs.Lawful.{RoomyPlan}
use Rattle.format.proofs.Naming.{numbers_within_lem}
use Rattle.format.proofs.Arranged.{Arranged}
use Rattle.format.proofs.ReadBack.{holds_arranged}
use Rattle.tallies.specs.Layout.{bits_of, are_bits}
use Rattle.tallies.proofs.Bits.{length_bits_of}
use Rattle.recount.specs.Core.{Laid}
use Rattle.recount.proofs.Laid.{parts, tables_long, rises}
use Rattle.effects.specs.Kept.{lent_bits, Going}

-- ---- the byte of a variable

module _ (n : ℕ) (bytes : List ℕ) where
  pub byte_value : (x : ℕ) → 1 ≤ x → x ≤ n → x ≤ length bytes → T (are_bits n bytes) → get_or bytes (x - 1) 0 ≡ cond (value (bits_of n bytes) x) 1 0
  unfolding value bits_of bits_in are_bits
  byte_value zero l h m t = absurd (omega arith)
  byte_value (suc i) l h m t =
      let z : suc i - 1 ≡ i = omega arith in
      rw z
      (at (get_or bytes i 0) (sym (get_or-take n bytes i 0 (omega arith)))
      (leb-true _ _ (bools.T_true _ (all_at (λ b. leb b 1) (take n bytes) i 0 t (omega (arith, length-take n bytes)))))
      (get_or-map (λ b. eqb b 1) (take n bytes) i 0))
    where
      at : (b : ℕ) → b ≡ get_or (take n bytes) i 0 → get_or (take n bytes) i 0 ≤ 1 → get_or (map (λ b. eqb b 1) (take n bytes)) i false ≡ eqb (get_or (take n bytes) i 0) 1 → b ≡ cond (get_or (map (λ b. eqb b 1) (take n bytes)) i false) 1 0
      at zero e k v = rw (v, ← e) refl
      at (suc zero) e k v = rw (v, ← e) refl
      at (suc (suc b)) e k v = absurd (omega arith)

-- ---- a variable's run

module _ {tables terms assignment tallies marks : List ℕ} {x : ℕ} (g : Going tables terms assignment tallies marks x) where
  abbrev p : Plan
  p = plan_of_tables tables terms

  abbrev a : Assignment
  a = lent_bits tables terms assignment

  laid : Laid tables terms
  laid = g.kept.ready.laid

  l : RoomyPlan p
  l = parts tables terms laid

  arranged : Arranged p (word_at tables)
  arranged = holds_arranged p l tables terms laid.holds

  pub going_rises : T (numbers_rise (plan_of_tables tables terms))
  going_rises = rises tables terms laid

  pub going_within : T (numbers_within (plan_of_tables tables terms))
  going_within = numbers_within_lem p l

  pub going_few : x ≤ 512
  going_few = omega (arith, g.high, l.high)

  pub going_tables : table_size ≤ length tables
  going_tables = tables_long tables terms laid

  pub going_byte : x ≤ length assignment
  going_byte = omega (arith, g.high, g.kept.ready.bytes)

  pub going_bits : x ≤ length (lent_bits tables terms assignment)
  going_bits = omega (arith, length_bits_of p.variables assignment g.kept.ready.bytes, g.high)

  -- Where the run begins and ends.
  pub run_first : word_at tables (end_at (x - 1)) ≡ run_end (plan_of_tables tables terms) (x - 1)
  run_first = arranged.ends (x - 1) (omega (arith, g.high))

  pub run_last : word_at tables (end_at x) ≡ run_end (plan_of_tables tables terms) x
  run_last = arranged.ends x g.high

  pub run_inside : run_end (plan_of_tables tables terms) x ≤ length (order (plan_of_tables tables terms))
  run_inside = omega (arith, ends_ordered p x p.variables g.high, last_end p going_within, order_length p going_within)

  pub run_few : run_end (plan_of_tables tables terms) x ≤ term_room
  run_few = omega (arith, ends_ordered p x p.variables g.high, last_end p going_within, l.terms)
