-- Laws of opening: the first n bytes say the plan's variables, and cleared tallies have 0 in unused entries.
-- Assumes nothing.
use Prim.Native.Nat.{ℕ, ◌≤◌}
use native.Mathlib.Omega.{arith}
use mathlib.Core.Path.{◌≡◌, refl, sym, ap, ap₂, ◌∙◌}
use mathlib.Core.List.{List, ◌++◌}
use lib.ListN.{length, take, drop, replicate, length-append, length-replicate}
use lib.Seq.{length-take-le, drop_at}
use Rattle.plpb.specs.Plan.{Plan}
use Rattle.plpb.specs.Tallies.{fresh_count}
use Rattle.words.specs.Words.{word_at}
use Rattle.words.proofs.Writes.{zero_word}
use Rattle.format.specs.Tables.{plan_of_tables}
use Rattle.rules.specs.Terms.{bits_in}
use Rattle.tallies.specs.Layout.{tally_size, bits_of, tally_bytes}
use Rattle.recount.specs.Core.{Ready, Unused, recounted}
use Rattle.recount.proofs.Laid.{variables_word}
use Rattle.format.specs.Layout.{holding_at}

-- ---- the first n bytes

pub bits_first : (n : ℕ) (bytes : List ℕ) → bits_in (take n bytes) ≡ bits_of n bytes
unfolding bits_in bits_of
bits_first n bytes = refl

module _ (tables terms assignment : List ℕ) (y : Ready tables terms assignment) (n : ℕ) (e : n ≡ word_at tables 0) where
  pub first_length : n ≡ length (take n assignment)
  first_length = sym (length-take-le n assignment (omega (arith, y.bytes, variables_word tables terms y.laid)))

  pub first_ready : Ready tables terms (take n assignment)
  first_ready = record { laid = y.laid; bytes = omega (arith, first_length, variables_word tables terms y.laid) }

  pub first_bits_of : bits_in (take n assignment) ≡ bits_of (plan_of_tables tables terms).variables assignment
  first_bits_of = bits_first n assignment ∙ ap (λ k. bits_of k assignment) (e ∙ sym (variables_word tables terms y.laid))

  pub first_counted : (t r u : List ℕ) → r ≡ drop tally_size t → u ≡ tally_bytes (fresh_count (plan_of_tables tables terms) (bits_in (take n assignment))) ++ r → u ≡ recounted tables terms assignment t
  first_counted t r u h k = k ∙ ap₂ (λ a l. tally_bytes (fresh_count (plan_of_tables tables terms) a) ++ l) first_bits_of h

-- ---- cleared tallies

module _ (s ys : List ℕ) (room : tally_size ≤ length s) (e : ys ≡ replicate (length (take tally_size s)) 0) where
  full : length (take tally_size s) ≡ tally_size
  full = length-take-le tally_size s room

  long : length ys ≡ tally_size
  long = ap length e ∙ length-replicate {A = ℕ} (length (take tally_size s)) 0 ∙ full

  pub cleared_room : tally_size ≤ length (ys ++ drop tally_size s)
  cleared_room = rw (length-append ys (drop tally_size s)) (omega (arith, long))

  pub cleared_beyond : drop tally_size (ys ++ drop tally_size s) ≡ drop tally_size s
  cleared_beyond = drop_at ys (drop tally_size s) tally_size long

  pub cleared_unused : (p : Plan) → Unused p (ys ++ drop tally_size s)
  cleared_unused p =
      record {
        rules = λ i h k. zero_word (length (take tally_size s)) ys (drop tally_size s) i e (omega (arith, full));
        clauses = λ c h k. zero_word (length (take tally_size s)) ys (drop tally_size s) (holding_at c) e (omega (arith, full));
      }
