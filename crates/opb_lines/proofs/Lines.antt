-- From line to line.
-- Assumes nothing.
use Prim.Native.Nat.{ℕ, suc, ◌+◌, ◌≤◌, ◌<◌}
use native.Mathlib.Omega.{arith}
use mathlib.Core.Path.{◌≡◌, refl, sym, ap, ◌∙◌}
use mathlib.Core.Bool.{Bool, true, false, not, cond}
use mathlib.Core.List.{List, [], ◌∷◌}
use lib.Dec.{ltb, eqb}
use lib.ListN.{length, get_or, drop, length-drop, drop_of_length-le}
use lib.Seq.{drop-drop, get_or-drop}
use borrow.Author.Tests.{lt-ltb, le-ltb, ltb-true, ltb-false}
use Rattle.plpb.specs.Lists.{◌and◌, is_empty}
use Rattle.std.specs.Prelude.{Option, Some, None}
use Rattle.std.specs.Option.{unwrap_or}
use Rattle.tokens.specs.Tokens.{run, run_end, is_inside, line_end, begins, word_end}
use Rattle.tokens.specs.declared.text.Text.{Text}
use Rattle.tokens.specs.Found.{left, Reads, Behind, Found}
use Rattle.tokens.proofs.Runs.{here, run_from, read_behind}
use Rattle.opb_lines.specs.ReadText.{starts}
use Rattle.opb_lines.specs.Lines.{next_line, lines_from}

-- The lines behind a line feed at a place, the rest from it on being this.
behind : ℕ → List ℕ → List ℕ
behind k [] = []
behind k (b ∷ []) = []
behind k (b ∷ c ∷ bs) = (k + 1) ∷ starts (k + 1) (c ∷ bs)

starts_feed : (at b : ℕ) (bs : List ℕ) → cond (not (is_empty bs)) ((at + 1) ∷ starts (at + 1) bs) (starts (at + 1) bs) ≡ behind at (b ∷ bs)
unfolding behind starts is_empty
starts_feed at b [] = refl
starts_feed at b (c ∷ cs) = refl

step : (t : Bool) (at b : ℕ) (bs : List ℕ)
    → starts (at + 1) bs ≡ behind (at + 1 + run is_inside bs) (drop (run is_inside bs) bs)
    → cond (t and not (is_empty bs)) ((at + 1) ∷ starts (at + 1) bs) (starts (at + 1) bs)
    ≡ behind (at + cond (not t) (suc (run is_inside bs)) 0) (drop (cond (not t) (suc (run is_inside bs)) 0) (b ∷ bs))
unfolding ◌and◌
step true at b bs h = starts_feed at b bs ∙ ap (λ k. behind k (b ∷ bs)) (let e : at ≡ at + 0 = omega arith in e)
step false at b bs h = h ∙ ap (λ k. behind k (drop (run is_inside bs) bs)) (let e : at + 1 + run is_inside bs ≡ at + suc (run is_inside bs) = omega arith in e)

starts_run : (u : List ℕ) (at : ℕ) → starts at u ≡ behind (at + run is_inside u) (drop (run is_inside u) u)
unfolding starts run is_inside behind
starts_run [] at = refl
starts_run (b ∷ bs) at = step (eqb b 10) at b bs (starts_run bs (at + 1))

behind_at : (s : List ℕ) (k : ℕ) → k < length s → behind k (drop k s) ≡ lines_from s (k + 1)
unfolding behind lines_from
behind_at s k h = rw (here s k h) (go (drop (k + 1) s) refl)
  where
    go : (u : List ℕ) → drop (k + 1) s ≡ u → behind k (get_or s k 0 ∷ u) ≡ lines_from s (k + 1)
    go [] e = let n : length s ≤ k + 1 = omega (arith, length-drop (k + 1) s, ap length e) in rw (le-ltb (k + 1) (length s) n)
    go (c ∷ cs) e =
        let n : k + 1 < length s = omega (arith, length-drop (k + 1) s, ap length e) in
        rw (lt-ltb (k + 1) (length s) n) (ap (λ x. (k + 1) ∷ starts (k + 1) x) (sym e))

nothing : (s : List ℕ) (k : ℕ) → length s ≤ k → behind k (drop k s) ≡ lines_from s (length s)
unfolding behind lines_from
nothing s k h = rw (drop_of_length-le s h, le-ltb (length s) (length s) (omega arith))

-- The first of the lines from a place on, and none from the end on.
module _ (s : List ℕ) (at : ℕ) where
  pub lines_here : at < length s → lines_from s at ≡ at ∷ starts at (drop at s)
  unfolding lines_from
  lines_here h = rw (lt-ltb at (length s) h)

  pub lines_none : length s ≤ at → lines_from s at ≡ []
  unfolding lines_from
  lines_none h = rw (le-ltb at (length s) h)

module _ (s : List ℕ) (at : ℕ) (h : at ≤ length s) where
  abbrev end : ℕ
  end = line_end s at

  pub next_found : {e : ℕ} → e ≡ line_end s at → e < length s → e + 1 ≡ next_line s at
  unfolding next_line
  next_found {e} q k = let r : line_end s at < length s = rw (sym q) k in rw (lt-ltb _ _ r) (ap (λ x. x + 1) q)

  -- The lines behind a line are those from the next on.
  pub lines_behind : starts at (drop at s) ≡ lines_from s (next_line s at)
  unfolding next_line run_end
  lines_behind = starts_run (drop at s) at ∙ ap (behind end) (drop-drop (run is_inside (drop at s)) at s) ∙ go (ltb end (length s)) refl
    where
      go : (t : Bool) → ltb end (length s) ≡ t → behind end (drop end s) ≡ lines_from s (cond t (end + 1) (length s))
      go true e = behind_at s end (ltb-true end (length s) e)
      go false e = nothing s end (ltb-false end (length s) e)

  -- The next line stands behind.
  pub next_on : at < length s → at < next_line s at
  unfolding next_line
  next_on k = go (ltb end (length s)) refl
    where
      go : (t : Bool) → ltb end (length s) ≡ t → at < cond t (end + 1) (length s)
      go true e = omega (arith, run_from is_inside s at)
      go false e = k

-- Where bytes that are such end within a list, a byte stands that is none.
stop_by :
    (such : ℕ → Bool) (t : Bool) (b : ℕ) (bs : List ℕ) → such b ≡ t → (run such bs < length bs → such (get_or bs (run such bs) 0) ≡ false)
    → cond t (suc (run such bs)) 0 < length (b ∷ bs) → such (get_or (b ∷ bs) (cond t (suc (run such bs)) 0) 0) ≡ false
stop_by such true b bs e f h = f (omega arith)
stop_by such false b bs e f h = e

run_stops : (such : ℕ → Bool) (bs : List ℕ) → run such bs < length bs → such (get_or bs (run such bs) 0) ≡ false
unfolding run
run_stops such [] h = absurd (omega arith)
run_stops such (b ∷ bs) h = stop_by such (such b) b bs refl (run_stops such bs) h

one_byte : (t : Bool) → not t ≡ false → t and true ≡ true
unfolding ◌and◌
one_byte true e = refl
one_byte false e = absurd (let n : true ≡ false = e in let z : ◌≡◌ {A = ℕ} 0 1 = cc in omega arith)

module _ (s : List ℕ) (at : ℕ) (h : at ≤ length s) where
  -- A line feed stands where a line ends before the text does.
  feed_at : line_end s at < length s → begins (10 ∷ []) (drop (line_end s at) s) ≡ true
  unfolding begins run_end is_inside
  feed_at k =
      let l : run is_inside (drop at s) < length (drop at s) = omega (arith, length-drop at s) in
      let e = run_stops is_inside (drop at s) l in
      rw (here s (line_end s at) k) (one_byte _ (ap is_inside (sym (get_or-drop at s (run is_inside (drop at s)) 0)) ∙ e))

  no_feed : length s ≤ line_end s at → begins (10 ∷ []) (drop (line_end s at) s) ≡ false
  unfolding begins
  no_feed k = rw (drop_of_length-le s {i = line_end s at} k) refl

  -- The text behind that line feed, or the end of the text.
  pub next_passed :
      {end : Text} → Behind line_end s at end → (feed : Option Text)
      → Found (begins (10 ∷ []) (left end)) (Reads (Behind (word_end (10 ∷ []))) end) feed → Behind next_line s at (unwrap_or feed end)
  unfolding next_line word_end
  next_passed {end} b feed found = go (ltb (line_end s at) (length s)) refl feed found
    where
      there : {t : Bool} → begins (10 ∷ []) (left end) ≡ t → begins (10 ∷ []) (drop (line_end s at) s) ≡ t
      there e = sym (read_behind b (λ s at. begins (10 ∷ []) (drop at s))) ∙ e

      go :
          (t : Bool) → ltb (line_end s at) (length s) ≡ t → (feed : Option Text)
          → Found (begins (10 ∷ []) (left end)) (Reads (Behind (word_end (10 ∷ []))) end) feed → Behind next_line s at (unwrap_or feed end)
      go true e None f = absurd (let z : true ≡ false = sym (feed_at (ltb-true _ _ e)) ∙ there f in let y : ◌≡◌ {A = ℕ} 0 1 = cc in omega arith)
      go true e (Some k) (f, g) = record { bytes = g.bytes ∙ b.bytes; at = rw e (g.at ∙ rw f (ap (λ x. x + 1) b.at)) }
      go false e None f = record { bytes = b.bytes; at = rw e (omega (arith, ltb-false _ _ e, b.at, end.within, ap length b.bytes)) }
      go false e (Some k) (f, g) =
          let n : length s ≤ line_end s at = ltb-false _ _ e in
          absurd (let z : true ≡ false = sym (there f) ∙ no_feed n in let y : ◌≡◌ {A = ℕ} 0 1 = cc in omega arith)

-- All lines behind the first.
pub lines_of : (s : List ℕ) → starts 0 s ≡ lines_from s (next_line s 0)
lines_of s = lines_behind s 0 (omega arith)
