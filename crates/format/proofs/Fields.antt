-- One field of a file: what it is for a field to meet no condition, and what reading does then. Each law follows `fault` and `read_from` by cases.
use Prim.Native.Nat.{ℕ, zero, suc, ◌+◌, ◌≤◌}
use mathlib.Core.Path.{◌≡◌, refl, sym}
use mathlib.Core.Bool.{Bool, true, false, not}
use mathlib.Core.List.{List}
use native.Mathlib.Omega.{arith}
use lib.Dec.{eqb}
use lib.ListN.{length}
use borrow.Author.Tests.{le-ltb, ltb-false}
use Rattle.format.specs.Limits.{terms_lawful}
use Rattle.plpb.specs.Lists.{◌or◌}
use Rattle.format.specs.File.{at_locks, at_clause, State, may_stand, tag_at, length_at, length_lawful, past_limits, wrong_bounds, field_terms, refuse, locks_fault, fault, next, add_field, map_reading, finish, read_from}

-- A field that meets none of the conditions.
pub record Clean (s : List ℕ) (st : State) : Type 0 where
  pub head : st.at + 3 ≤ length s
  pub tag : may_stand st.stage (tag_at s st.at) ≡ true
  pub size : length_lawful (tag_at s st.at) (length_at s st.at) ≡ true
  pub body : st.at + 3 + length_at s st.at ≤ length s
  pub limits : past_limits s st ≡ false
  pub bounds : wrong_bounds s st.at ≡ false
  pub terms : terms_lawful st.variables (field_terms s st.at) ≡ true
  pub locks : locks_fault s st ≡ 0

pub clean_fault : (s : List ℕ) (st : State) → Clean s st → fault s st ≡ 0
unfolding fault refuse
clean_fault s st c =
    rw (le-ltb (length s) (st.at + 3) c.head, c.tag, c.size, le-ltb (length s) (st.at + 3 + length_at s st.at) c.body, c.limits, c.bounds, c.terms, c.locks)

-- Where no condition is met, neither the first is nor any of the rest.
pub unrefused : (b : Bool) (k rest : ℕ) → refuse b (suc k) rest ≡ 0 → (b ≡ false) × (rest ≡ 0)
unfolding refuse
unrefused true k rest e = absurd (omega arith)
unrefused false k rest e = (refl, e)

not_false : (b : Bool) → not b ≡ false → b ≡ true
not_false true e = refl
not_false false e = sym e

pub fault_clean : (s : List ℕ) (st : State) → fault s st ≡ 0 → Clean s st
unfolding fault
fault_clean s st e =
    let a = unrefused _ 0 _ e in
    let b = unrefused _ 1 _ a.1 in
    let c = unrefused _ 2 _ b.1 in
    let d = unrefused _ 0 _ c.1 in
    let f = unrefused _ 3 _ d.1 in
    let g = unrefused _ 5 _ f.1 in
    let h = unrefused _ 4 _ g.1 in
    record {
      head = ltb-false _ _ a.0;
      tag = not_false _ b.0;
      size = not_false _ c.0;
      body = ltb-false _ _ d.0;
      limits = f.0;
      bounds = g.0;
      terms = not_false _ h.0;
      locks = h.1;
    }

-- Reading such a field that is no end: the contents behind it, and what it adds.
pub read_on :
    (s : List ℕ) (left : ℕ) (st : State) → Clean s st → eqb (tag_at s st.at) 5 ≡ false
    → read_from s (suc left) st ≡ map_reading (add_field s st.at) (read_from s left (next s st))
unfolding read_from
read_on s left st c e = rw (clean_fault s st c, e)

-- Reading one that is the end.
pub read_end : (s : List ℕ) (left : ℕ) (st : State) → Clean s st → eqb (tag_at s st.at) 5 ≡ true → read_from s (suc left) st ≡ finish s st
unfolding read_from
read_end s left st c e = rw (clean_fault s st c, e)

-- Where no field 06 stands, reading goes on as from behind one.
pub read_past :
    (s : List ℕ) (left at n C R k : ℕ) → eqb (tag_at s at) 6 ≡ false
    → read_from s left (record { at = at; stage = at_locks; variables = n; clauses = C; rules = R; terms = k })
    ≡ read_from s left (record { at = at; stage = at_clause; variables = n; clauses = C; rules = R; terms = k })
unfolding read_from fault may_stand past_limits locks_fault next finish ◌or◌
read_past s zero at n C R k e = refl
read_past s (suc left) at n C R k e = rw e
