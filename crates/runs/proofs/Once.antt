-- One run: what is read of the numbers just written, what the search of them adds, and what it leaves as it was.
-- Assumes nothing.
use Prim.Native.Nat.{ℕ, ◌*◌, ◌/◌, ◌≤◌, ◌<◌}
use native.Mathlib.Omega.{arith}
use mathlib.Core.Path.{◌≡◌, refl, sym, ap, ◌∙◌, subst}
use mathlib.Core.List.{List, [], ◌++◌, append-nil}
use lib.Dec.{T}
use lib.IntN.{nat_abs}
use lib.ListN.{length, take, drop}
use lib.Seq.{take_at, drop_at, ext_get_or}
use mir.Facts.{to_z-of_z}
use mir.Syntax.{w64}
use mir.Val.{to_z, of_z}
use Rattle.plpb.specs.Plan.{Plan, Assignment}
use Rattle.plpb.specs.Search.{Reached, failed, reached, cost_of, search}
use Rattle.plpb.proofs.Soundness.{search_sound, search_flips, search_used}
use Rattle.words.specs.Words.{word_bytes, word_at}
use Rattle.words.specs.Writes.{front, put}
use Rattle.words.proofs.Words.{Below, length_word_bytes, word_at_word_bytes}
use Rattle.words.proofs.Writes.{drop_put}
use Rattle.format.specs.Assignment.{assignment_size, bit_bytes, bits_of}
use Rattle.format.specs.Limits.{lawful}
use Rattle.columns.specs.Layout.{column_size}
use Rattle.format.specs.Tables.{plan_of_tables, is_loaded}
use Rattle.format.proofs.Lawful.{plan_parts, lawful_roomy}
use Rattle.format.proofs.IsLoaded.{is_loaded_lawful}
use Rattle.costs.proofs.Costs.{cost_size}
use Rattle.counting.proofs.Signed.{small_fits}
use Rattle.tallies.proofs.Bits.{length_bits_of, length_bit_bytes}
use Rattle.numbers.specs.Numbers.{numbers_of}
use Rattle.numbers.proofs.Taking.{length_numbers_of, numbers_of_at}
use Rattle.columns.proofs.Marks.{dropped_more}
use Rattle.progress.specs.declared.Searched.{Searched}
use Rattle.progress.specs.Bounds.{answer_of}
use Rattle.settings.specs.declared.Settings.{Settings as Asked}
use Rattle.settings.specs.Settings.{settings_of}
use Rattle.lending.specs.Work.{Work}
use Rattle.finds.specs.Whole.{with_find, Whole}
use Rattle.xorwow.specs.declared.Xorwow.{Xorwow}
use Rattle.xorwow.specs.Xorwow.{stream}
use Rattle.xorwow.proofs.Stream.{length_stream, stream_below}
use Rattle.figures.specs.declared.Sums.{Sums}
use Rattle.figures.specs.Figures.{plus, plus_run}
use Rattle.figures.specs.Runs.{numbers_size}
use Rattle.runs.specs.Repeating.{AsBefore}

-- ---- bytes past a place

past : (xs s : List ℕ) (m n : ℕ) → length xs ≡ n → n ≤ m → drop m (xs ++ drop n s) ≡ drop m s
past xs s m n e h = dropped_more n m s (xs ++ drop n s) h (drop_at xs (drop n s) n e)

-- ---- the numbers

words_back : (ws : List ℕ) → Below 4_294_967_296 ws → numbers_of (word_bytes ws) ≡ ws
words_back ws b =
    let long : length (word_bytes ws) / 4 ≡ length ws = omega (arith, length_word_bytes ws) in
    ext_get_or 0 (numbers_of (word_bytes ws)) ws (length_numbers_of (word_bytes ws) ∙ long)
    (λ i h.
    let here : i < length ws = omega (arith, length_numbers_of (word_bytes ws)) in
    numbers_of_at (word_bytes ws) i (omega arith)
    ∙ ap (λ s. word_at s i) (sym (append-nil (word_bytes ws)))
    ∙ word_at_word_bytes ws [] i b here)

module _ (k : ℕ) (g : Xorwow) (s : List ℕ) {t : List ℕ} (e : t ≡ front (word_bytes (stream k g)) s) where
  written_long : length (word_bytes (stream k g)) ≡ 4 * k
  written_long = length_word_bytes (stream k g) ∙ ap (λ n. 4 * n) (length_stream k g)

  pub numbers_read : numbers_of (take (4 * k) t) ≡ stream k g
  unfolding front
  numbers_read =
      ap (λ u. numbers_of (take (4 * k) u)) e
      ∙ ap numbers_of (take_at (word_bytes (stream k g)) (drop (length (word_bytes (stream k g))) s) (4 * k) written_long)
      ∙ words_back (stream k g) (stream_below k g)

  pub numbers_past : k ≤ 16_384 → numbers_size ≤ length s → drop numbers_size t ≡ drop numbers_size s
  unfolding front put
  numbers_past h l = ap (drop numbers_size) e ∙ drop_put numbers_size 0 (word_bytes (stream k g)) s (omega (arith, written_long)) l

-- ---- what the search of them adds

pub cost_bounded : (p : Plan) → T (lawful p) → (r : Reached) → nat_abs (cost_of p r) ≤ 512_000_000
unfolding cost_of
cost_bounded p l failed = omega arith
cost_bounded p l (reached a) = cost_size p (lawful_roomy p l) a

module _ (tables terms numbers : List ℕ) (k : Asked) (count : ℕ) (g : Xorwow) (loaded : T (is_loaded tables terms)) (few : count ≤ 16_384)
    (read : numbers_of numbers ≡ stream count g) {r : Searched} {entry exit : List ℕ} {w v : Work}
    (h : Whole (settings_of k) (plan_of_tables tables terms) numbers r entry exit w v)
  where
    abbrev p : Plan
    p = plan_of_tables tables terms

    lawful_here : T (lawful p)
    lawful_here = is_loaded_lawful tables terms loaded

    few_here : p.variables ≤ 512
    few_here = (plan_parts p lawful_here).high

    flips_is : (search (settings_of k) p (numbers_of numbers)).flips ≡ r.progress.spent.flips
    unfolding answer_of
    flips_is = ap (λ x. x.flips) h.answers

    cost_is : (search (settings_of k) p (numbers_of numbers)).cost ≡ r.progress.cost
    unfolding answer_of
    cost_is = ap (λ x. x.cost) h.answers

    finds_is : (search (settings_of k) p (numbers_of numbers)).finds ≡ r.progress.finds
    unfolding answer_of
    finds_is = ap (λ x. x.finds) h.answers

    pub flips_few : r.progress.spent.flips ≤ 16_384
    flips_few =
        let ns = numbers_of numbers in
        omega (arith, search_flips (settings_of k) p ns, search_used (settings_of k) p ns, ap length read, length_stream count g, flips_is)

    cost_few : nat_abs r.progress.cost ≤ 512_000_000
    cost_few =
        subst (λ z. nat_abs z ≤ 512_000_000) (sym (search_sound (settings_of k) p (numbers_of numbers)).cost_stated ∙ cost_is)
        (cost_bounded p lawful_here (search (settings_of k) p (numbers_of numbers)).assignment)

    held : to_z w64 (of_z w64 r.progress.cost) ≡ r.progress.cost
    held = to_z-of_z (small_fits r.progress.cost (omega (arith, cost_few)))

    pub cost_small : nat_abs (to_z w64 (of_z w64 r.progress.cost)) ≤ 512_000_000
    cost_small = rw held cost_few

    pub run_added : (s : Sums) {t : Sums} → t ≡ plus s r.progress.finds r.progress.spent.flips (to_z w64 (of_z w64 r.progress.cost))
        → t ≡ plus_run s (search (settings_of k) p (stream count g))
    run_added s e =
        e ∙ ap (plus s r.progress.finds r.progress.spent.flips) held
        ∙ rw (sym flips_is, sym cost_is, sym finds_is) (ap (λ ns. plus_run s (search (settings_of k) p ns)) read)

    -- ---- and what it leaves as it was

    find_past : (a : Reached) → exit ≡ with_find a p.variables entry
        → ((b : Assignment) → a ≡ reached b → bits_of p.variables exit ≡ b)
        → assignment_size ≤ length exit → drop assignment_size exit ≡ drop assignment_size entry
    unfolding with_find
    find_past failed e l m = ap (drop assignment_size) e
    find_past (reached b) e l m =
        let long : length (bit_bytes b) ≡ p.variables = length_bit_bytes b ∙ sym (ap length (l b refl)) ∙ length_bits_of p.variables exit (omega (arith, few_here)) in
        ap (drop assignment_size) e ∙ past (bit_bytes b) entry assignment_size p.variables long few_here

    pub assignment_past : assignment_size ≤ length entry → length exit ≡ length entry → AsBefore assignment_size entry exit
    assignment_past m e =
        record { size = e; beyond = find_past _ h.find h.last (omega arith) }

    pub tried_past : length v.assignment ≡ length w.assignment → AsBefore assignment_size w.assignment v.assignment
    tried_past e = record { size = e; beyond = dropped_more _ assignment_size w.assignment v.assignment few_here h.beyond.assignment }

    pub marks_past : length v.marks ≡ length w.marks → AsBefore column_size w.marks v.marks
    marks_past e = record { size = e; beyond = h.beyond.marks }
