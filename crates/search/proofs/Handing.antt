-- What a search that is not refused answers, leaves and hands out.
-- Assumes nothing.
use Prim.Native.Nat.{ℕ, ◌≤◌}
use native.Mathlib.Omega.{arith}
use mathlib.Core.Path.{◌≡◌, refl, sym, ap, ◌∙◌, subst}
use mathlib.Core.Bool.{false}
use mathlib.Core.List.{List, [], ◌∷◌, ◌++◌}
use lib.Dec.{T}
use lib.ListN.{drop, replicate}
use mir.Facts.{to_z-of_z}
use mir.Syntax.{w64}
use mir.Val.{to_z, of_z, SFits}
use Rattle.plpb.specs.Lists.{◌or◌, all, is_empty}
use Rattle.plpb.specs.Plan.{Plan, Assignment, obeys, satisfies, cost}
use Rattle.plpb.specs.Settings.{Settings}
use Rattle.plpb.specs.Search.{reached, Ending, floor, ended, none, short_found, short_none, last_find, cost_of, search}
use Rattle.plpb.specs.Sound.{finds_of, no_plan}
use Rattle.plpb.proofs.Lists.{and_left}
use Rattle.plpb.proofs.Soundness.{search_sound}
use Rattle.format.specs.Tables.{plan_of_tables, table_size, term_size}
use Rattle.format.proofs.Lawful.{plan_parts}
use Rattle.format.proofs.IsLoaded.{is_loaded_lawful}
use Rattle.tallies.specs.Layout.{assignment_size, bits_of}
use Rattle.numbers.specs.Numbers.{numbers_of}
use Rattle.progress.specs.declared.Searched.{Searched}
use Rattle.settings.specs.declared.Settings.{Settings as Asked}
use Rattle.settings.specs.Settings.{settings_of}
use Rattle.columns.proofs.Marks.{dropped_more}
use Rattle.lending.specs.Work.{Work}
use Rattle.lending.specs.Lent.{Lent, search_refusal}
use Rattle.search.specs.Calls.{answer, search_assignment, cleared, ending_number, unless, Searches, HandsOut}
use Rattle.answers.specs.Found.{has_plan}
use Rattle.progress.specs.Bounds.{answer_of, ending_of}
use Rattle.finds.specs.Whole.{Whole}
use Rattle.columns.specs.Layout.{column_size, kept_size}
use Rattle.search.proofs.Refusing.{accepted}

-- ---- what is handed out

plan_told : (e : Ending) → T (has_plan (ending_number e)) → no_plan e ≡ false
unfolding has_plan ending_number no_plan ◌or◌
plan_told floor t = refl
plan_told ended t = refl
plan_told none t = absurd t
plan_told short_found t = refl
plan_told short_none t = absurd t

last_lawful : (p : Plan) (fs : List Assignment) → is_empty fs ≡ false → T (all (λ a. satisfies a p) fs) → T (all (λ a. obeys a p) fs)
    → (a : Assignment) × (last_find fs ≡ reached a) × T (satisfies a p) × T (obeys a p)
unfolding is_empty all last_find
last_lawful p [] e t o = absurd (let z : ◌≡◌ {A = ℕ} 0 1 = cc in omega arith)
last_lawful p (a ∷ fs) e t o = (a, refl, and_left _ _ t, and_left _ _ o)

-- "A plan handed out satisfies every clause", obeys the locks, and the cost is its cost.
pub handed_out : {s : Settings} {p : Plan} {numbers : List ℕ} {r : Searched} {entry exit : List ℕ} {w v : Work} → Whole s p numbers r entry exit w v
    → T (has_plan (ending_number (ending_of r.ending)))
    → T (satisfies (bits_of p.variables exit) p) × T (obeys (bits_of p.variables exit) p) × (r.progress.cost ≡ cost p (bits_of p.variables exit))
unfolding answer_of cost_of
handed_out {s} {p} {numbers} {r} {entry} {exit} {w} {v} h t =
    let ns = numbers_of numbers in
    let o = search_sound s p ns in
    let same : (search s p ns).ending ≡ ending_of r.ending = ap (λ x. x.ending) h.answers in
    let some : is_empty (finds_of s p ns) ≡ false = sym o.none_found ∙ ap no_plan same ∙ plan_told _ t in
    let l = last_lawful p (finds_of s p ns) some o.each_satisfies o.each_obeys in
    let is : (search s p ns).assignment ≡ reached l.0 = o.handed_out ∙ l.1 in
    let bits = h.last l.0 is in (
      subst (λ a. T (satisfies a p)) (sym bits) l.2,
      subst (λ a. T (obeys a p)) (sym bits) l.3,
      sym (ap (λ x. x.cost) h.answers) ∙ o.cost_stated ∙ ap (cost_of p) is ∙ ap (cost p) (sym bits),
    )

-- ---- what a search answers and leaves

module _ (l : Lent) (k : Asked) (z : search_refusal l k ≡ 0) {r : Searched} {exit : List ℕ} {v : Work}
    (h : Whole (settings_of k) (plan_of_tables l.tables l.terms) l.numbers r l.assignment exit
    (record { assignment = l.work_assignment; tallies = l.work_tallies; marks = l.work_marks }) v)
    {n : ℕ} (e : n ≡ ending_number (ending_of r.ending)) (f : SFits w64 r.progress.cost)
  where
    few_here : (plan_of_tables l.tables l.terms).variables ≤ 512
    few_here = (plan_parts _ (is_loaded_lawful l.tables l.terms (accepted l k z).loaded)).high

    is : answer l k ≡ answer_of r.ending r.progress (answer l k).assignment
    unfolding answer
    is = h.answers

    pub searched : {a b c d m : List ℕ}
        → a ≡ replicate table_size 0 ++ drop table_size l.work_tables
        → b ≡ replicate term_size 0 ++ drop term_size l.work_terms
        → c ≡ replicate assignment_size 0 ++ drop assignment_size v.assignment
        → d ≡ replicate kept_size 0 ++ drop kept_size v.tallies
        → m ≡ replicate column_size 0 ++ drop column_size v.marks
        → Searches l k (record { refusal = 0; ending = n; cost = to_z w64 (of_z w64 r.progress.cost); finds = r.progress.finds; flips = r.progress.spent.flips; used = r.progress.spent.used })
        (record {
          tables = l.tables;
          terms = l.terms;
          numbers = l.numbers;
          assignment = exit;
          work_tables = a;
          work_terms = b;
          work_assignment = c;
          work_tallies = d;
          work_marks = m;
        })
    unfolding unless search_assignment cleared answer_of
    searched ea eb ec ed em =
        record {
          refusal = sym z;
          ending = rw z (e ∙ ap (λ x. ending_number x.ending) (sym is));
          cost = rw z (to_z-of_z f ∙ ap (λ x. x.cost) (sym is));
          finds = rw z (ap (λ x. x.finds) (sym is));
          flips = rw z (ap (λ x. x.flips) (sym is));
          used = rw z (ap (λ x. x.used) (sym is));
          assignment = rw z (unfold answer in h.find);
          work_tables = rw z ea;
          work_terms = rw z eb;
          work_assignment = rw z (ec ∙ ap (λ s. replicate assignment_size 0 ++ s) (dropped_more _ assignment_size l.work_assignment v.assignment few_here h.beyond.assignment));
          work_tallies = rw z (ed ∙ ap (λ s. replicate kept_size 0 ++ s) h.beyond.tallies);
          work_marks = rw z (em ∙ ap (λ s. replicate column_size 0 ++ s) h.beyond.marks);
        }

    pub hands : HandsOut l (record { refusal = 0; ending = n; cost = to_z w64 (of_z w64 r.progress.cost); finds = r.progress.finds; flips = r.progress.spent.flips; used = r.progress.spent.used }) exit
    unfolding HandsOut
    hands t = let o = handed_out h (subst (λ x. T (has_plan x)) e t) in (o.0, o.1, to_z-of_z f ∙ o.2)
