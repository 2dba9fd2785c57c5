-- The groups of a variable's run.
-- Assumes nothing.
use Rattle.std.specs.Prelude.{ℕ}
use Rattle.order.specs.Blocks.{Group}
use Rattle.effects.specs.declared.run.Run.{Run}
use Rattle.effects.specs.Run.{plan, place}
use Rattle.groups.specs.Stretch.{group_end}

-- The places from k on, below j, are those of clause c.
abbrev pub IsGroup : Run → (c k j : ℕ) → Type 0
IsGroup r c k j = Group (plan r) r.x c k j

-- Where the group ends that begins at place k.
abbrev pub end_of_group : Run → ℕ → ℕ
end_of_group r k = group_end (plan r) r.x k

-- A group begins at place k.
abbrev pub Begins : Run → ℕ → Type 0
Begins r k = IsGroup r (place r k).clause k (end_of_group r k)
