-- For callers: tallies counted anew, with the needs filled behind them, are kept like those that a flip leaves.
-- Assumes nothing.
use Prim.Native.Nat.{◌-◌, ℕ}
use native.Mathlib.Omega.{arith}
use mathlib.Core.Path.{◌≡◌, sym, ap, ◌∙◌}
use mathlib.Core.List.{List}
use lib.ListN.{length, take, drop, length-append, length-drop}
use lib.Seq.{drop-drop}
use Rattle.plpb.specs.Plan.{Plan}
use Rattle.plpb.specs.Tallies.{fresh_count}
use Rattle.plpb.proofs.Normal.{P_at_most_K}
use Rattle.order.specs.Order.{rule_at, no_rule}
use Rattle.format.specs.Tables.{plan_of_tables}
use Rattle.tallies.specs.Layout.{tally_size, tally_bytes, bits_of}
use Rattle.tallies.proofs.TallyBytes.{Fits, roomy_fits, length_fresh, take_fresh, drop_fresh}
use Rattle.tallies.proofs.Tallied.{fresh_words, rule_word}
use Rattle.recount.specs.Core.{Laid, recounted}
use Rattle.recount.proofs.Laid.{parts}
use Rattle.columns.specs.Layout.{need_at, kept_word_count, kept_size}
use Rattle.columns.specs.Columns.{Sized, Needed}
use Rattle.columns.specs.Frames.{Only}
use Rattle.columns.proofs.Kept.{sized_recounted}
use Rattle.needs.specs.Needs.{Weighable}
use Rattle.keeping.specs.Flip.{Kept}

module _ {tables terms : List ℕ} (assignment : List ℕ) {s t : List ℕ} (l : Laid tables terms) (z : Sized (plan_of_tables tables terms) s) (e : t ≡ recounted tables terms assignment s) where
  abbrev p : Plan
  p = plan_of_tables tables terms

  fits : Fits p
  fits = roomy_fits p l.room

  fresh : take tally_size t ≡ tally_bytes (fresh_count p (bits_of p.variables assignment))
  fresh = ap (take tally_size) e ∙ take_fresh p fits (bits_of p.variables assignment) (drop tally_size s)

  size : length t ≡ length s
  size =
      ap length e
      ∙ length-append (tally_bytes (fresh_count p (bits_of p.variables assignment))) (drop tally_size s)
      ∙ omega (arith, length_fresh p fits (bits_of p.variables assignment), length-drop tally_size s, z.room)

  pub opened_sized : Sized (plan_of_tables tables terms) t
  opened_sized = sized_recounted (parts tables terms l).rule_count size (ap (drop tally_size) e ∙ drop_fresh p fits (bits_of p.variables assignment) (drop tally_size s)) z

  pub opened_weighable : Weighable (plan_of_tables tables terms) t
  unfolding rule_at
  opened_weighable = record {
    each = λ r h.
        rw (fresh_words p l.room (bits_of p.variables assignment) t fresh r (omega (arith, h, (parts tables terms l).rule_count)) ∙ rule_word p fits (bits_of p.variables assignment) r no_rule h)
        (P_at_most_K (bits_of p.variables assignment) _);
  }

  -- The needs are filled.
  pub opened_kept : {u : List ℕ} → Needed (plan_of_tables tables terms) u → Sized (plan_of_tables tables terms) u → Only (need_at 0) kept_word_count t u → Kept (plan_of_tables tables terms) (bits_of (plan_of_tables tables terms).variables assignment) s u
  opened_kept {u} n k o = record {
    fresh = o.ahead tally_size (omega arith) ∙ fresh;
    sized = k;
    needed = n;
    size = o.size ∙ size;
    beyond = o.beyond kept_size (omega arith) (rw size z.room) ∙ further;
  }
    where
      further : drop kept_size t ≡ drop kept_size s
      further =
          sym (drop-drop (kept_size - tally_size) tally_size t)
          ∙ ap (drop (kept_size - tally_size)) (ap (drop tally_size) e ∙ drop_fresh p fits (bits_of p.variables assignment) (drop tally_size s))
          ∙ drop-drop (kept_size - tally_size) tally_size s
