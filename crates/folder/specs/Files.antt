-- walk.bin and numbers.bin as definitions: from any list of bytes to the settings, or the refusal's number with its offset
-- (document 01, "The program and its two lines"; document 02, T-09).
-- Assumes nothing.
use Rattle.std.specs.Prelude.{ℕ, ◌+◌, ◌%◌, ◌<◌, ◌≡◌, Bool, not, cond, List, ltb, eqb, length, Result, Ok, Err}
use Rattle.plpb.specs.Lists.{◌or◌}
use Rattle.words.specs.Words.{num_at}
use Rattle.format.specs.File.{Reading, refused, accepted, refuse, tag_at, length_at}
use Rattle.settings.specs.declared.Settings.{Settings as Asked}
use Rattle.settings.specs.Settings.{settings_refusal}
use Rattle.folder.specs.declared.files.Refusal.{Refusal}
use Rattle.folder.specs.declared.files.Refusal.TheVariants.{Short, Tag, Length, Behind, Setting, Numbers}

-- "walk.bin may have length 12" besides 9.
unfoldable pub may_measure : ℕ → Bool
may_measure size = eqb size 9 or eqb size 12

-- "length 9 means SKC": a setting that only a field of length 12 has, else 0.
unfoldable pub if_long : ℕ → ℕ → ℕ
if_long size setting = cond (eqb size 12) setting 0

-- "one field, tag 16, length 9: noise 2 bytes, tries 2, flips 4, mode 1"; "length 12, with a heuristic byte (0 SKC, 1 this) and a two-byte walk chance"
unfoldable pub asked_in : List ℕ → Asked
asked_in s = record {
  noise = num_at 2 s 3;
  tries = num_at 2 s 5;
  flips = num_at 4 s 7;
  mode = num_at 1 s 11;
  heuristic = if_long (length_at s 0) (num_at 1 s 12);
  chance = if_long (length_at s 0) (num_at 2 s 13);
}

-- "In a field: 1 for the head, 2, 3, 1 for the body": the number of the first condition met, 0 for none.
unfoldable pub walk_fault : List ℕ → ℕ
walk_fault s =
    refuse (ltb (length s) 3) 1
    (refuse (not (eqb (tag_at s 0) 16)) 2
    (refuse (not (may_measure (length_at s 0))) 3
    (refuse (ltb (length s) (3 + length_at s 0)) 1 0)))

-- ".. then 11 to 14.", and 15 and 16 after them. "Offset is 0 for 8, 9 and 11 to 14."
unfoldable pub judged : Asked → Reading Asked
judged k = cond (ltb 0 (settings_refusal k)) (refused (settings_refusal k) 0) (accepted k)

-- "walk.bin meets 1, 2, 3 and 7 with offsets as a plan does": 7 has the offset of the first byte after the field.
unfoldable pub read_walk : List ℕ → Reading Asked
read_walk s =
    cond (ltb 0 (walk_fault s)) (refused (walk_fault s) 0)
    (cond (ltb (3 + length_at s 0) (length s)) (refused 7 (3 + length_at s 0)) (judged (asked_in s)))

-- The code's refusals in numbers: the number, and the offset.
abbrev pub refusal_number : Refusal → ℕ
refusal_number Short = 1
refusal_number Tag = 2
refusal_number Length = 3
refusal_number (Behind at) = 7
refusal_number (Setting n) = n
refusal_number Numbers = 8

abbrev pub refusal_offset : Refusal → ℕ
refusal_offset (Behind at) = at
refusal_offset _ = 0

-- What the code read off, as the definition has it.
abbrev pub reading : Result Asked Refusal → Reading Asked
reading (Ok k) = accepted k
reading (Err r) = refused (refusal_number r) (refusal_offset r)

-- The code refuses with a number, and offset 0.
abbrev pub Refuses : ℕ → Refusal → Type 0
Refuses n r = (n ≡ refusal_number r) × (refusal_offset r ≡ 0) × (0 < refusal_number r)

-- "Numbers.bin: 8 when its length is no multiple of 4."
unfoldable pub numbers_refusal : List ℕ → ℕ
numbers_refusal s = refuse (not (eqb (length s % 4) 0)) 8 0

-- "above 65,536 bytes"
unfoldable pub too_long : List ℕ → Bool
too_long file = ltb 65_536 (length file)
