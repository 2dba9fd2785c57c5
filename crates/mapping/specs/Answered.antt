-- What the call answers with a refusal.
-- Assumes nothing.
use Rattle.lists.specs.Refusals.{Refusal}
use Rattle.mapping.specs.declared.Mapped.{Mapped}

abbrev pub refused_by : Refusal → Mapped
refused_by f = record { refusal = f.number; list = f.list; row = f.row; length = 0 }
