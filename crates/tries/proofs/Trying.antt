-- Laws of flips, tries and calls: what a loop has come to, and how it ends. Assumes nothing.
use Prim.Native.Nat.{ℕ, suc, ◌+◌, ◌-◌, ◌/◌, ◌≤◌, ◌<◌}
use native.Mathlib.Nat.{sub-zero}
use native.Mathlib.Omega.{arith}
use mathlib.Core.Path.{◌≡◌, refl, sym, ap, ap₂, ◌∙◌, subst}
use mathlib.Core.Bool.{Bool, true, false, cond}
use mathlib.Core.Logic.{◌≢◌}
use mathlib.Core.List.{List, [], ◌++◌}
use lib.Dec.{leb, eqb}
use lib.ListN.{length, take, drop}
use borrow.Author.Tests.{eq-eqb, ne_eqb}
use Rattle.plpb.specs.Plan.{Plan, Assignment, hold, satisfies}
use Rattle.plpb.proofs.Locks.{length_hold}
use Rattle.plpb.specs.Tallies.{fresh_count}
use Rattle.plpb.specs.Numbers.{taken, too_few, take_words, start_words, start_of}
use Rattle.plpb.specs.Walk.{Walk, at, short, run}
use Rattle.plpb.specs.Settings.{Settings}
use Rattle.plpb.specs.Try.{begun as beginning}
use Rattle.plpb.specs.Search.{Reached, flipping, try, trying, call}
use Rattle.words.specs.Words.{word_at}
use Rattle.format.specs.Tables.{plan_of_tables}
use Rattle.tallies.specs.Layout.{bits_of, bit_bytes}
use Rattle.recount.specs.Core.{Ready}
use Rattle.tallies.proofs.Bits.{length_bit_bytes, drop_bytes, bits_of_bytes, are_bits_bytes}
use Rattle.recount.proofs.Laid.{parts, tables_long, variables_word}
use Rattle.std.specs.Prelude.{Result, Ok, Err}
use Rattle.numbers.specs.declared.Short.{Short}
use Rattle.numbers.specs.Numbers.{numbers_of}
use Rattle.numbers.specs.Taking.{Starts}
use Rattle.numbers.proofs.Taking.{length_numbers_of, length_start, started_taken, started_short, words_use}
use Rattle.plpb.proofs.Tallies.{look_by_count}
use Rattle.numbers.proofs.Runs.{flipping_none, flipping_found, flipping_moved, flipping_stuck, flipping_short, try_started, try_short, trying_none, trying_next, trying_found, trying_short, run_call}
use Rattle.moves.specs.declared.Stop.TheVariants as stop
use Rattle.tries.specs.declared.Spent.{Spent}
use Rattle.lending.specs.Work.{Work, Beyond}
use Rattle.moves.specs.Moves.{Unmoved, bits_in, try_in, Prepared, Walking, moved_of, used_in, IfMade, Moves}
use Rattle.tries.specs.Steps.{Unreached, Startable, tried_of, stopped_at, spent_by, used_by, flips_by, IfReached, Tries}
use Rattle.moves.proofs.Moving.{unsatisfied_word}
use Rattle.format.specs.Layout.{table_size, unsatisfied_at, mark_size}
use Rattle.stamps.specs.Stamps.{Stamped, unstamped}
use Rattle.stamps.proofs.Stamping.{stamped_none, cleared_size, cleared_beyond}
use Rattle.columns.specs.Layout.{column_size, column_word_count, kept_size, need_at, total_at, hint_at}
use Rattle.columns.specs.Columns.{Hinted, Listed, Sized as RulesSized, Weighed}
use Rattle.columns.specs.Frames.{Only}
use Rattle.columns.proofs.Marks.{Behind, weighed_behind, listed_behind, dropped_behind, dropped_more, dropped_hinted}
use Rattle.keeping.specs.Flip.{Kept}
use Rattle.locks.specs.Held.{held_bytes}
use Rattle.locks.proofs.Holding.{bytes_held}

pub beyond_same : (n : ℕ) (w : Work) → Beyond n w w
beyond_same n w = record { assignment = refl; tallies = refl; marks = refl }

pub beyond_on : {n : ℕ} {w v u : Work} → Beyond n w v → Beyond n v u → Beyond n w u
beyond_on b c =
    record { assignment = c.assignment ∙ b.assignment; tallies = c.tallies ∙ b.tallies; marks = c.marks ∙ b.marks }

-- The buffers are as long as they were.
pub record Sized (w v : Work) : Type 0 where
  pub assignment : length v.assignment ≡ length w.assignment
  pub tallies : length v.tallies ≡ length w.tallies
  pub marks : length v.marks ≡ length w.marks

-- How many turns are left before one, by how many are left behind it.
turns_left : (n turn : ℕ) → turn < n → n - turn ≡ suc (n - (turn + 1))
turns_left n turn h = omega arith

-- ---- flips

-- The look, by the tallies.
module _ {tables terms : List ℕ} {w : Work} (k : Walking tables terms w) where
  looked : satisfies (bits_in tables terms w) (plan_of_tables tables terms) ≡ eqb (word_at w.tallies unsatisfied_at) 0
  unfolding fresh_count
  looked = look_by_count (plan_of_tables tables terms) (bits_in tables terms w) ∙ ap (λ i. eqb i 0) (sym (unsatisfied_word k))

  look_true : word_at w.tallies unsatisfied_at ≡ 0 → satisfies (bits_in tables terms w) (plan_of_tables tables terms) ≡ true
  look_true e = looked ∙ eq-eqb (word_at w.tallies unsatisfied_at) 0 e

  look_false : word_at w.tallies unsatisfied_at ≢ 0 → satisfies (bits_in tables terms w) (plan_of_tables tables terms) ≡ false
  look_false e = looked ∙ ne_eqb (word_at w.tallies unsatisfied_at) 0 e

-- What the flips have come to after so many turns: the others are left, from another assignment and another place in the list.
pub record Flipping (s : Settings) (tables terms numbers : List ℕ) (begun : Spent) (w : Work) (spent : Spent) (turn : ℕ) (v : Work) : Type 0 where
  pub flips : List ℕ
  pub stamped : Stamped (plan_of_tables tables terms).variables flips v.marks
  pub counted : length flips ≡ turn
  pub walking : Walking tables terms v
  pub outcome :
      (fs : List Assignment)
      → run (flipping s (plan_of_tables tables terms) s.flips (try_in tables terms [] w)) (numbers_of numbers) (at begun.used begun.flips fs)
      ≡ run (flipping s (plan_of_tables tables terms) (s.flips - turn) (try_in tables terms flips v)) (numbers_of numbers) (at spent.used spent.flips fs)
  pub uses : begun.used ≤ spent.used
  pub flipped : spent.flips ≤ spent.used
  pub within : spent.used ≤ length numbers / 4
  pub beyond : Beyond (plan_of_tables tables terms).variables w v

module _ {s : Settings} {tables terms numbers : List ℕ} {begun : Spent} {w : Work} {spent : Spent} {turn : ℕ} {v : Work} (i : Flipping s tables terms numbers begun w spent turn v) where
  abbrev p : Plan
  p = plan_of_tables tables terms

  pub flips_found : turn < s.flips → word_at v.tallies unsatisfied_at ≡ 0
      → Tries (flipping s p s.flips (try_in tables terms [] w)) tables terms numbers begun.used begun.flips begun.used (Ok spent) w v
  unfolding tried_of spent_by IfReached
  flips_found h e =
      let sat = look_true i.walking e in
      record {
        outcome = λ fs. i.outcome fs ∙ ap (λ k. run (flipping s p k (try_in tables terms i.flips v)) (numbers_of numbers) (at spent.used spent.flips fs)) (turns_left s.flips turn h)
            ∙ flipping_found s p (numbers_of numbers) (try_in tables terms i.flips v) (at spent.used spent.flips fs) (s.flips - (turn + 1)) sat;
        finds = record { bits = i.walking.bits; satisfied = rw sat tt; uses = i.uses };
        uses = i.uses;
        within = i.within;
        flipped = i.flipped;
        prepared = i.walking.prepared;
        beyond = i.beyond;
      }

  module _ (h : turn < s.flips) (e : word_at v.tallies unsatisfied_at ≢ 0) where
    on : (fs : List Assignment) → run (flipping s p s.flips (try_in tables terms [] w)) (numbers_of numbers) (at begun.used begun.flips fs)
        ≡ run (flipping s p (suc (s.flips - (turn + 1))) (try_in tables terms i.flips v)) (numbers_of numbers) (at spent.used spent.flips fs)
    on fs = i.outcome fs ∙ ap (λ k. run (flipping s p k (try_in tables terms i.flips v)) (numbers_of numbers) (at spent.used spent.flips fs)) (turns_left s.flips turn h)

    pub flips_more : {r : Result ℕ Unmoved} {after : ℕ} {u : Work} → Moves s tables terms numbers spent.used turn r v u → r ≡ Ok after
        → Flipping s tables terms numbers begun w (record { used = after; flips = spent.flips + 1 }) (turn + 1) u
    unfolding moved_of used_in IfMade
    flips_more {r} {after} {u} m t =
        let same = subst (λ q. Moves s tables terms numbers spent.used turn q v u) t m in
        let on-from = same.reaches i.flips i.stamped i.counted in
        record {
          flips = on-from.next;
          stamped = on-from.stamped.0;
          counted = omega (arith, on-from.stamped.1, i.counted);
          walking = same.walking.0;
          outcome = λ fs. on fs
              ∙ flipping_moved s p (numbers_of numbers) (try_in tables terms i.flips v) (at spent.used spent.flips fs) (s.flips - (turn + 1)) (look_false i.walking e) (on-from.outcome spent.flips fs);
          uses = omega (arith, i.uses, same.uses);
          flipped = omega (arith, i.flipped, same.walking.1);
          within = same.within;
          beyond = beyond_on i.beyond same.beyond;
        }

    -- No flip was made, and what is spent then says how the try ends.
    stopped : {r : Result ℕ Unmoved} {u : Work} → Moves s tables terms numbers spent.used turn r v u → (e : Unreached) → used_by (Err e) ≡ used_in r → flips_by (Err e) ≡ spent.flips
        → ((fs : List Assignment) → run (flipping s p s.flips (try_in tables terms [] w)) (numbers_of numbers) (at begun.used begun.flips fs) ≡ tried_of (Err e) (bits_in tables terms u) fs)
        → Tries (flipping s p s.flips (try_in tables terms [] w)) tables terms numbers begun.used begun.flips begun.used (Err e) w u
    unfolding IfReached
    stopped m e q f o =
        record {
          outcome = o;
          finds = tt;
          uses = omega (arith, i.uses, m.uses, q);
          within = omega (arith, m.within, q);
          flipped = omega (arith, i.flipped, m.uses, q, f);
          prepared = m.prepared;
          beyond = beyond_on i.beyond m.beyond;
        }

    -- The try is stuck, or the numbers are gone.
    pub flips_stopped : {r : Result ℕ Unmoved} (why : Unmoved) {u : Work} → r ≡ Err why → Moves s tables terms numbers spent.used turn r v u
        → Tries (flipping s p s.flips (try_in tables terms [] w)) tables terms numbers begun.used begun.flips begun.used (Err (stopped_at why spent.flips)) w u
    unfolding stopped_at moved_of used_in tried_of spent_by
    flips_stopped (stop.Failed after) {u} e' n =
        let m = subst (λ q. Moves s tables terms numbers spent.used turn q v u) e' n in
        let on-from = m.reaches i.flips i.stamped i.counted in
        stopped m _ refl refl (λ fs. on fs ∙ flipping_stuck s p (numbers_of numbers) (try_in tables terms i.flips v) (at spent.used spent.flips fs) (s.flips - (turn + 1)) (look_false i.walking e) (on-from.outcome spent.flips fs))
    flips_stopped (stop.Short after) {u} e' n =
        let m = subst (λ q. Moves s tables terms numbers spent.used turn q v u) e' n in
        let on-from = m.reaches i.flips i.stamped i.counted in
        stopped m _ refl refl (λ fs. on fs ∙ flipping_short s p (numbers_of numbers) (try_in tables terms i.flips v) (at spent.used spent.flips fs) (s.flips - (turn + 1)) (look_false i.walking e) (on-from.outcome spent.flips fs))

  pub flips_end : s.flips ≤ turn → Tries (flipping s p s.flips (try_in tables terms [] w)) tables terms numbers begun.used begun.flips begun.used (Err (stop.Failed spent)) w v
  unfolding tried_of spent_by IfReached
  flips_end h =
      let e : s.flips - turn ≡ 0 = omega arith in
      record {
        outcome = λ fs. i.outcome fs ∙ ap (λ k. run (flipping s p k (try_in tables terms i.flips v)) (numbers_of numbers) (at spent.used spent.flips fs)) e
            ∙ flipping_none s p (numbers_of numbers) (try_in tables terms i.flips v) (at spent.used spent.flips fs);
        finds = tt;
        uses = i.uses;
        within = i.within;
        flipped = i.flipped;
        prepared = i.walking.prepared;
        beyond = i.beyond;
      }

-- ---- a try

if_reached : (r : Result Spent Unreached) {A B : Type 0} → (A → B) → IfReached r A → IfReached r B
unfolding IfReached
if_reached (Ok t) f a = f a
if_reached (Err e) f a = tt

-- A walk that ends as another does, which begins with no fewer numbers used, comes to what the other comes to.
ends_as : {walk on : Walk Reached} {tables terms numbers : List ℕ} {used flips least used' flips' least' : ℕ} {r : Result Spent Unreached} {w v u : Work}
    → Tries on tables terms numbers used' flips' least' r v u → used ≤ used' → least ≤ least' → Beyond (plan_of_tables tables terms).variables w v
    → ((fs : List Assignment) → run walk (numbers_of numbers) (at used flips fs) ≡ tried_of r (bits_in tables terms u) fs)
    → Tries walk tables terms numbers used flips least r w u
ends_as {r = r} g low fewer b o =
    record {
      outcome = o;
      finds = if_reached r (λ f. record { bits = f.bits; satisfied = f.satisfied; uses = omega (arith, f.uses) }) g.finds;
      uses = omega (arith, g.uses);
      within = g.within;
      flipped = g.flipped;
      prepared = g.prepared;
      beyond = beyond_on b g.beyond;
    }

-- Where too few are left, none is taken.
few_left : (b : Bool) (ws : List ℕ) (w : ℕ) {u v : ℕ} → cond b (taken ws w) (too_few u) ≡ too_few v → u ≡ v
few_left true ws w e = let z : ◌≡◌ {A = ℕ} 0 1 = cc in absurd (omega arith)
few_left false ws w e = cc

words_left : (k : ℕ) (ns : List ℕ) {u v : ℕ} → take_words k ns u ≡ too_few v → u ≡ v
unfolding take_words
words_left k ns {u} e = few_left (leb (u + k) (length ns)) (take k (drop u ns)) (u + k) e

module _ {tables terms : List ℕ} (numbers : List ℕ) {used made : ℕ} {w : Work} (k : Startable tables terms w) (few : made ≤ used) (g₀ : Prepared tables terms w)
    {n : ℕ} (size : n ≡ word_at tables 0) {r : Result ℕ Short} {bytes : List ℕ} (h : Starts n (take_words (start_words n) (numbers_of numbers) used) w.assignment r bytes) where
  abbrev q : Plan
  q = plan_of_tables tables terms

  named : n ≡ q.variables
  named = size ∙ sym (variables_word tables terms k.ready.laid)

  module _ {after : ℕ} (e : r ≡ Ok after) where
    abbrev drew : (ws : List ℕ) × (take_words (start_words n) (numbers_of numbers) used ≡ taken ws after) × (bytes ≡ bit_bytes (start_of n ws) ++ drop n w.assignment)
    drew = started_taken (take_words (start_words n) (numbers_of numbers) used) h e

    abbrev begin : Assignment
    begin = (beginning q drew.0).bits

    start_size : length (start_of n drew.0) ≡ n
    start_size = sym (length_bit_bytes (start_of n drew.0)) ∙ length_start n drew.0

    begin_size : length begin ≡ n
    unfolding beginning
    begin_size = length_hold q _ ∙ sym named

    pub started_uses : (used + 1 ≤ after) × (after ≤ length numbers / 4) × (made ≤ after)
    unfolding start_words
    started_uses =
        let u = words_use (start_words n) (numbers_of numbers) used drew.1 in
        let low : 1 ≤ n = omega (arith, named, (parts tables terms k.ready.laid).low) in
        (omega (arith, u.0), omega (arith, u.1, length_numbers_of numbers), omega (arith, u.0))

    -- What holding the locks needs.
    pub started_holdable : length bytes ≡ length w.assignment → (n ≤ 512) × (n ≤ length bytes) × (table_size ≤ length tables)
    started_holdable l =
        (omega (arith, named, (parts tables terms k.ready.laid).high), omega (arith, named, k.ready.bytes), tables_long tables terms k.ready.laid)

    module _ {kept : List ℕ} (o : kept ≡ held_bytes tables n bytes) where
      -- The locked variables have their value.
      held_start : kept ≡ bit_bytes begin ++ drop n w.assignment
      unfolding beginning
      held_start =
          let y = k.ready.laid in
          o ∙ ap₂ (held_bytes tables) named drew.2
          ∙ bytes_held q tables terms y.room y.holds (parts tables terms y).high (start_of n drew.0) (drop n w.assignment) (start_size ∙ named)
          ∙ ap (λ m. bit_bytes (hold q (start_of m drew.0)) ++ drop n w.assignment) named

      started_bits : bits_of q.variables kept ≡ begin
      started_bits = ap (λ m. bits_of m kept) (sym named) ∙ ap (bits_of n) held_start ∙ bits_of_bytes n begin (drop n w.assignment) begin_size

      pub started_ready : length kept ≡ length bytes → length bytes ≡ length w.assignment → Ready tables terms kept
      started_ready m l = record { laid = k.ready.laid; bytes = omega (arith, k.ready.bytes) }

      module _ {tallies marks : List ℕ} (l : length kept ≡ length bytes) (l' : length bytes ≡ length w.assignment) (y : Kept (plan_of_tables tables terms) (bits_of (plan_of_tables tables terms).variables kept) w.tallies tallies)
          (z : marks ≡ unstamped w.marks) where
        abbrev begun : Work
        begun = record { assignment = kept; tallies = tallies; marks = marks }

        pub started_stamps : Stamped (plan_of_tables tables terms).variables [] marks
        started_stamps = stamped_none w.marks (omega (arith, k.columns)) z q.variables (parts tables terms k.ready.laid).high

        same_marks : length marks ≡ length w.marks
        same_marks = cleared_size w.marks (omega (arith, k.columns)) z

        behind : Behind w.marks marks
        behind = dropped_behind mark_size (omega arith) same_marks (cleared_beyond w.marks (omega (arith, k.columns)) z)

        pub started_walking : Walking tables terms begun
        started_walking =
            record {
              ready = started_ready l l';
              bits = rw (← named, held_start) (are_bits_bytes n begin (drop n w.assignment) begin_size);
              fresh = y.fresh;
              prepared = record {
                sized = y.sized;
                weighed = weighed_behind behind g₀.weighed;
                hinted = dropped_hinted mark_size (omega arith) (cleared_beyond w.marks (omega (arith, k.columns)) z) g₀.hinted;
                listed = listed_behind behind g₀.listed;
              };
              needed = y.needed;
            }

        pub tried_once : (s : Settings) {t : Result Spent Unreached} {v : Work} → Tries (flipping s q s.flips (try_in tables terms [] begun)) tables terms numbers after made after t begun v
            → Tries (try s q) tables terms numbers used made (used + 1) t w v
        unfolding beginning
        tried_once s {t} {v} g =
            ends_as g (omega (arith, started_uses.0)) started_uses.0 (record {
              assignment = rw (← named, held_start) (drop_bytes n begin (drop n w.assignment) begin_size);
              tallies = y.beyond;
              marks = dropped_more mark_size column_size w.marks marks (omega arith) (cleared_beyond w.marks (omega (arith, k.columns)) z);
            })
            (λ fs. try_started s q (numbers_of numbers) (at used made fs) (ap (λ m. take_words (start_words m) (numbers_of numbers) used) (sym named) ∙ drew.1)
            ∙ ap (λ a. run (flipping s q s.flips (record { bits = a; flips = [] })) (numbers_of numbers) (at after made fs)) (sym started_bits)
            ∙ g.outcome fs)

  pub no_start : (s : Settings) {gone : Short} {v : Work} → used ≤ length numbers / 4 → r ≡ Err gone
      → v.assignment ≡ bytes → v.tallies ≡ w.tallies → v.marks ≡ w.marks
      → Tries (try s q) tables terms numbers used made (used + 1) (Err (stop.Short (record { used = used; flips = made }))) w v
  unfolding tried_of spent_by IfReached
  no_start s {gone} {v} l e a y m =
      let d = started_short (take_words (start_words n) (numbers_of numbers) used) h e in
      let same = words_left (start_words n) (numbers_of numbers) d.0 in
      record {
        outcome = λ fs. try_short s q (numbers_of numbers) (at used made fs) (ap (λ m. take_words (start_words m) (numbers_of numbers) used) (sym named) ∙ d.0) ∙ ap (λ u. short (at u made fs)) (sym same);
        finds = tt;
        uses = omega arith;
        within = l;
        flipped = few;
        prepared = record { sized = rw y g₀.sized; weighed = rw m g₀.weighed; hinted = rw m g₀.hinted; listed = rw m g₀.listed };
        beyond = record { assignment = ap (drop q.variables) (a ∙ d.1); tallies = ap (drop kept_size) y; marks = ap (drop column_size) m };
      }

-- ---- a call

-- What the tries have come to after so many turns: the others are left, from another place in the list.
pub record Calling (s : Settings) (tables terms numbers : List ℕ) (begun : Spent) (w : Work) (spent : Spent) (turn : ℕ) (v : Work) : Type 0 where
  pub startable : Startable tables terms v
  pub prepared : Prepared tables terms v
  pub outcome :
      (fs : List Assignment)
      → run (call s (plan_of_tables tables terms)) (numbers_of numbers) (at begun.used begun.flips fs)
      ≡ run (trying s (plan_of_tables tables terms) (s.tries - turn)) (numbers_of numbers) (at spent.used spent.flips fs)
  pub uses : begun.used ≤ spent.used
  pub flipped : spent.flips ≤ spent.used
  pub within : spent.used ≤ length numbers / 4
  pub beyond : Beyond (plan_of_tables tables terms).variables w v

startable_on : {tables terms : List ℕ} {w v : Work} → Startable tables terms w → Sized w v → Startable tables terms v
startable_on k z =
    record {
      ready = record { laid = k.ready.laid; bytes = omega (arith, k.ready.bytes, z.assignment) };
      room = omega (arith, k.room, z.tallies);
      columns = omega (arith, k.columns, z.marks);
    }

pub calls_begin : (s : Settings) {tables terms numbers : List ℕ} {begun : Spent} {w : Work} → Startable tables terms w → begun.used ≤ length numbers / 4 → begun.flips ≤ begun.used
    → Prepared tables terms w
    → Calling s tables terms numbers begun w begun 0 w
calls_begin s k l h g =
    record {
      startable = k;
      prepared = g;
      outcome = λ fs. rw (sub-zero s.tries) (run_call s _ _ (at _ _ fs));
      uses = omega arith;
      flipped = h;
      within = l;
      beyond = beyond_same _ _;
    }

module _ {s : Settings} {tables terms numbers : List ℕ} {begun : Spent} {w : Work} {spent : Spent} {turn : ℕ} {v : Work} (i : Calling s tables terms numbers begun w spent turn v) where
  abbrev o : Plan
  o = plan_of_tables tables terms

  module _ (h : turn < s.tries) where
    again : (fs : List Assignment) → run (call s o) (numbers_of numbers) (at begun.used begun.flips fs) ≡ run (trying s o (suc (s.tries - (turn + 1)))) (numbers_of numbers) (at spent.used spent.flips fs)
    again fs = i.outcome fs ∙ ap (λ k. run (trying s o k) (numbers_of numbers) (at spent.used spent.flips fs)) (turns_left s.tries turn h)

    module _ {u : Work} {t : Result Spent Unreached} (n : Tries (try s o) tables terms numbers spent.used spent.flips (spent.used + 1) t v u) where
      abbrev told : {q : Result Spent Unreached} → t ≡ q → Tries (try s o) tables terms numbers spent.used spent.flips (spent.used + 1) q v u
      told e = subst (λ q. Tries (try s o) tables terms numbers spent.used spent.flips (spent.used + 1) q v u) e n

      pub calls_more : {after : Spent} → t ≡ Err (stop.Failed after) → Sized v u → Calling s tables terms numbers begun w after (turn + 1) u
      unfolding tried_of spent_by
      calls_more e z =
          let g = told e in
          record {
            startable = startable_on i.startable z;
            prepared = g.prepared;
            outcome = λ fs. again fs ∙ trying_next s o (numbers_of numbers) (at spent.used spent.flips fs) (s.tries - (turn + 1)) (g.outcome fs);
            uses = omega (arith, i.uses, g.uses);
            flipped = g.flipped;
            within = g.within;
            beyond = beyond_on i.beyond g.beyond;
          }

      pub calls_found : {found : Spent} → t ≡ Ok found → Tries (call s o) tables terms numbers begun.used begun.flips (begun.used + 1) (Ok found) w u
      unfolding tried_of
      calls_found e =
          let g = told e in
          ends_as g i.uses (omega (arith, i.uses)) i.beyond (λ fs. again fs ∙ trying_found s o (numbers_of numbers) (at spent.used spent.flips fs) (s.tries - (turn + 1)) (g.outcome fs))

      pub calls_gone : {gone : Spent} → t ≡ Err (stop.Short gone)
          → Tries (call s o) tables terms numbers begun.used begun.flips (begun.used + 1) (Err (stop.Short gone)) w u
      unfolding tried_of
      calls_gone e =
          let g = told e in
          ends_as g i.uses (omega (arith, i.uses)) i.beyond (λ fs. again fs ∙ trying_short s o (numbers_of numbers) (at spent.used spent.flips fs) (s.tries - (turn + 1)) (g.outcome fs))

  pub calls_end : s.tries ≤ turn → Tries (call s o) tables terms numbers begun.used begun.flips (begun.used + 1) (Err (stop.Failed spent)) w v
  unfolding tried_of spent_by IfReached
  calls_end h =
      let e : s.tries - turn ≡ 0 = omega arith in
      record {
        outcome = λ fs. i.outcome fs ∙ ap (λ k. run (trying s o k) (numbers_of numbers) (at spent.used spent.flips fs)) e ∙ trying_none s o (numbers_of numbers) (at spent.used spent.flips fs);
        finds = tt;
        uses = i.uses;
        within = i.within;
        flipped = i.flipped;
        prepared = i.prepared;
        beyond = i.beyond;
      }

-- ---- what is kept of the plan is worked out before the tries

module _ {tables terms : List ℕ} {w : Work} (k : Startable tables terms w) {tallies marks : List ℕ}
    (g : RulesSized (plan_of_tables tables terms) tallies × Weighed (plan_of_tables tables terms) marks × Listed (plan_of_tables tables terms) marks
    × Hinted (plan_of_tables tables terms) marks × Only (total_at 0) (need_at 0) w.tallies tallies × Only (hint_at 1) column_word_count w.marks marks) where
  pub prepared_start : Startable tables terms (record { assignment = w.assignment; tallies = tallies; marks = marks })
  prepared_start = record { ready = k.ready; room = omega (arith, k.room, g.4.size); columns = omega (arith, k.columns, g.5.size) }

  pub tried_prepared : {walk : Walk Reached} {numbers : List ℕ} {used flips least : ℕ} {r : Result Spent Unreached} {v : Work}
      → Tries walk tables terms numbers used flips least r (record { assignment = w.assignment; tallies = tallies; marks = marks }) v
      → Tries walk tables terms numbers used flips least r w v
  tried_prepared t =
      ends_as t (omega arith) (omega arith) (record {
        assignment = refl;
        tallies = g.4.beyond kept_size (omega arith) k.room;
        marks = g.5.beyond column_size (omega arith) k.columns;
      }) t.outcome
