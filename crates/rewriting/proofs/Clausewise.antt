-- Clauses rewritten one after the other: a clause with a rule that all values meet is passed over.
-- Assumes nothing.
use Prim.Native.Nat.{ℕ, ◌+◌, ◌≤◌}
use native.Mathlib.Omega.{arith}
use mathlib.Core.Path.{◌≡◌, refl, sym, ap, ◌∙◌, subst}
use mathlib.Core.Bool.{Bool, true, false, cond}
use mathlib.Core.List.{List, [], ◌∷◌, ◌++◌, map, append-nil}
use lib.ListN.{length, drop, length-append}
use Rattle.plpb.specs.Lists.{keep, any, concat}
use Rattle.plpb.specs.Plan.{Clause}
use Rattle.words.specs.Words.{bytes_of}
use Rattle.words.specs.Writes.{put}
use Rattle.format.specs.File.{tag_at}
use Rattle.format.specs.Writer.{field, rule_field, clause_fields}
use Rattle.squeezed.specs.Squeezed.{Becomes, put_in, always, rules_left, remains, clauses_left}
use Rattle.fates.specs.Rest.{Rest, Ran}
use Rattle.fates.proofs.Resting.{rest_clause, rest_opened, no_clauses, rest_room}
use Rattle.rewriting.specs.Written.{rules_written, clauses_written}
use Rattle.rewriting.specs.Moved.{Laid, RulesMoved, ClauseMoved, ClausesMoved}
use Rattle.fields.proofs.Writing.{put_on}
use Rattle.rewriting.proofs.Putting.{drop_put, Laying, laying_more, laying_done}
use Rattle.rewriting.proofs.Rulewise.{laid_none, rest_same}

-- ---- one clause

module _ (f : ℕ → Becomes) (c : Clause) where
  dropped_by : any always (map (put_in f) c) ≡ true → clauses_written f (c ∷ []) ≡ []
  unfolding clauses_written clauses_left keep remains concat
  dropped_by e = rw e

  stays_by : any always (map (put_in f) c) ≡ false → field 3 [] ++ rules_written f c ≡ clauses_written f (c ∷ [])
  unfolding clauses_written clauses_left keep remains concat clause_fields rules_written
  stays_by e = rw e (sym (append-nil (field 3 [] ++ concat (map rule_field (rules_left f c)))))

-- A head with length 0.
head_is : (tag : ℕ) → tag ∷ bytes_of 2 0 ≡ field tag []
unfolding field
head_is tag = ap (λ l. tag ∷ l) (sym (append-nil (bytes_of 2 0)))

pub head_put : (tag at : ℕ) (s : List ℕ) {t : List ℕ} → t ≡ put at (tag ∷ bytes_of 2 0) s → t ≡ put at (field tag []) s
head_put tag at s e = e ∙ ap (λ bs. put at bs s) (head_is tag)

pub head_long : (tag : ℕ) → length (field tag []) ≡ 3
unfolding field bytes_of
head_long tag = refl

module _ (s : List ℕ) (at to : ℕ) (behind : to ≤ at) where
  -- The clause behind its head, which is written already.
  pub opened : {n : ℕ} {c : Clause} {cs : List Clause} {t : List ℕ} → Rest n s at [] (c ∷ cs) → t ≡ put to (3 ∷ bytes_of 2 0) s → Rest n t (at + 3) c cs
  opened {t = t} h e =
      let room = rest_room h in
      rest_same
      (ap (drop (at + 3)) (head_put 3 to s e) ∙ drop_put (at + 3) to (field 3 []) s (omega arith) (omega (arith, head_long 3)))
      (rest_opened h)

module _ (f : ℕ → Becomes) (s : List ℕ) (at to : ℕ) (behind : to ≤ at) where
  pub clause_dropped : (met kept : Bool) (next : ℕ) → Ran f s (at + 3) met kept next → met ≡ true → ClauseMoved f s at to s next to
  unfolding Ran ClauseMoved
  clause_dropped met kept next ran e = (
    ran.0,
    λ n c cs h.
        let (m, k, rest) = ran.1 n c cs (rest_opened h) in
        (laid_none s to (dropped_by f c (sym m ∙ e)), omega (arith, ran.0), rest),
  )

  pub clause_stays : (met kept : Bool) (next : ℕ) {t : List ℕ} (u : List ℕ) (at' end : ℕ) → Ran f s (at + 3) met kept next → met ≡ false → t ≡ put to (3 ∷ bytes_of 2 0) s
      → RulesMoved f t (at + 3) (to + 3) u at' end → ClauseMoved f s at to u at' end
  unfolding Ran RulesMoved ClauseMoved Laid
  clause_stays met kept next {t} u at' end ran e p moved = (
    moved.0,
    λ n c cs h.
        let (m, k, rest) = ran.1 n c cs (rest_opened h) in
        let (laid, below, behindIt) = moved.1 n c cs (opened s at to behind h p) in
        let is = stays_by f c (sym m ∙ e) in
        let room = rest_room h in
        let l = head_long 3 in
        let whole = put_on s to (field 3 []) (rules_written f c) (omega arith) (head_put 3 to s p) (omega arith) laid.0 in
        ((whole ∙ ap (λ bs. put to bs s) is, omega (arith, laid.1, ap length is, length-append (field 3 []) (rules_written f c))), below, behindIt),
  )

-- ---- clauses one after the other

-- Where a clause begins, it is the first of those left.
pub clause_here : (n : ℕ) (s : List ℕ) (at : ℕ) {cs : List Clause} → Rest n s at [] cs → tag_at s at ≡ 3
    → (c : Clause) × (rest : List Clause) × Rest n s at [] (c ∷ rest)
clause_here n s at h tag =
    let b = rest_clause h tag in
    (b.first, b.rest, subst (λ x. Rest n s at [] x) b.split h)

clauses_by : (f : ℕ → Becomes) (t : Bool) (c : Clause) (cs : List Clause)
    → concat (map clause_fields (map (rules_left f) (cond t (c ∷ cs) cs)))
    ≡ concat (map clause_fields (map (rules_left f) (cond t (c ∷ []) []))) ++ concat (map clause_fields (map (rules_left f) cs))
unfolding concat
clauses_by f true c cs = ap (λ l. l ++ concat (map clause_fields (map (rules_left f) cs))) (sym (append-nil (clause_fields (rules_left f c))))
clauses_by f false c cs = refl

clauses_split : (f : ℕ → Becomes) (c : Clause) (cs : List Clause) → clauses_written f (c ∷ cs) ≡ clauses_written f (c ∷ []) ++ clauses_written f cs
unfolding clauses_written clauses_left keep
clauses_split f c cs = clauses_by f (remains f c) c (keep (remains f) cs)

module _ (f : ℕ → Becomes) (s₀ : List ℕ) (from to : ℕ) where
  -- Where rewriting is.
  pub record ClausesAt (s : List ℕ) (at end n : ℕ) (cs : List Clause) : Type 0 where
    pub left : List Clause
    pub rest : Rest n s at [] left
    pub laying : Laying s₀ to (clauses_written f cs) s end (clauses_written f left)
    pub behind : end ≤ at

  abbrev pub Passing : List ℕ → ℕ → ℕ → Type 0
  Passing s at end = (n : ℕ) (cs : List Clause) → Rest n s₀ from [] cs → ClausesAt s at end n cs

  module _ (s : List ℕ) (at end : ℕ) where
    pub passing_more : {t : List ℕ} {next e : ℕ} → Passing s at end → tag_at s at ≡ 3 → length t ≡ length s → ClauseMoved f s at end t next e → Passing t next e
    unfolding ClauseMoved Laid
    passing_more {t} {next} {e} p tag same moved n cs r =
        let a = p n cs r in
        let b = rest_clause a.rest tag in
        let (laid, below, rest) = moved.1 n b.first b.rest (subst (λ x. Rest n s at [] x) b.split a.rest) in
        let room = rest_room rest in
        record {
          left = b.rest;
          rest = rest;
          laying =
              laying_more (clauses_written f (b.first ∷ [])) (clauses_written f b.rest) a.laying
              (ap (clauses_written f) b.split ∙ clauses_split f b.first b.rest) (omega (arith, laid.1)) laid.0 laid.1;
          behind = below;
        }

    pub passing_end : Passing s at end → (tag_at s at ≡ 3 → ⊥) → ClausesMoved f s₀ from to s end
    unfolding ClausesMoved Laid clauses_written clauses_left keep concat
    passing_end p tag n cs r =
        let a = p n cs r in
        (laying_done a.laying (ap (clauses_written f) (no_clauses a.rest tag)), omega (arith, a.behind, rest_room a.rest, a.laying.same))
