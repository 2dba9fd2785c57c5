-- What is claimed of a squeezed plan: "Unlocked assignments satisfy new and old plan alike, at costs that differ by the constant." (document 02, T-12)
-- Assumes nothing.
use Rattle.std.specs.Prelude.{ℕ, ◌-◌, ◌≤◌, ◌≡◌, Bool, false, map, T, ◌+ℤ◌, length, get_or}
use Rattle.plpb.specs.Lists.{row}
use Rattle.plpb.specs.Plan.{Plan, Assignment, value, is_locked, obeys, satisfies, cost}
use Rattle.format.specs.Limits.{lawful}
use Rattle.squeezed.specs.Squeezed.{Becomes, locked, renumbered, unlocked, new_number, becomes, squeezed, constant, all_locked, clause_lost}

-- The value of an old variable, given those of the new ones.
unfoldable pub value_of : Becomes → Assignment → Bool
value_of (locked v) b = v
value_of (renumbered k) b = value b k

-- An assignment of the unlocked variables as one of all: the locked ones at their values.
unfoldable pub extended : Plan → Assignment → Assignment
extended p b = map (λ x. value_of (becomes p x) b) (row 1 p.variables)

-- .. and back.
unfoldable pub restricted : Plan → Assignment → Assignment
restricted p a = map (value a) (unlocked p)

-- "Unlocked assignments satisfy new and old plan alike, at costs that differ by the constant."
abbrev pub Alike : Type 0
Alike = (p : Plan) (b : Assignment)
    → (satisfies (extended p b) p ≡ satisfies b (squeezed p)) × (cost p (extended p b) ≡ constant p +ℤ cost (squeezed p) b)

-- The assignments of the unlocked variables are those of all variables that obey the locks: each way and back gives the same.
abbrev pub OneToOne : Type 0
OneToOne = (p : Plan)
    → ((b : Assignment) → length b ≡ length (unlocked p) → T (obeys (extended p b) p) × (restricted p (extended p b) ≡ b))
    × ((a : Assignment) → length a ≡ p.variables → T (obeys a p)
    → (length (restricted p a) ≡ length (unlocked p)) × (extended p (restricted p a) ≡ a))

-- "which old variable each new one was": the unlocked variables rise, each is at its new number's place, and no other number is.
abbrev pub ListSays : Type 0
ListSays = (p : Plan) (x : ℕ) → 1 ≤ x → x ≤ p.variables → is_locked p x ≡ false
    → (1 ≤ new_number p x) × (new_number p x ≤ length (unlocked p)) × (get_or (unlocked p) (new_number p x - 1) 0 ≡ x)

-- The new plan is one that a file may hold, so that loading accepts its file.
abbrev pub Lawful : Type 0
Lawful = (p : Plan) → T (lawful p) → all_locked p ≡ false → clause_lost p ≡ false → T (lawful (squeezed p))
