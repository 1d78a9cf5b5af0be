-- Document 01: "Float words may hold any bits"; "24 number not in its section", "Numbers start at 0". What a word may be is its kind. A word is judged by its
-- kind, by how many records its number counts below, by the words of its column before it, and by itself: its refusal, if any.
use Rattle.std.specs.Prelude.{ℕ, ◌+◌, ◌*◌, ◌%◌, ◌<◌, ◌≡◌, Bool, true, false, Option, None, Some, IfSome, List, ltb, length, get_or, take}
use Rattle.bits.specs.Choice.{pick}
use Rattle.bits.specs.declared.refusal.Refusal.{Refusal}
use Rattle.bits.specs.declared.refusal.Refusal.TheVariants.{NoSuchRecord}
use Rattle.files_records.specs.Records.{same_column}
use Rattle.files_checks.specs.Checks.{Ruling}
use Rattle.files_formats.specs.declared.firsts.Found.{Found}
use Rattle.files_formats.specs.declared.kinds.Kind.{Kind}
use Rattle.files_formats.specs.declared.kinds.Kind.TheVariants.{Figure, Number}

-- ---- A figure may hold any bits; a number is that of one of `below` records.
abbrev pub fault_of : Kind → (below : ℕ) (before : List ℕ) (word : ℕ) → Option Refusal
fault_of Figure below before w = None
fault_of Number below before w = pick (ltb w below) None (Some NoSuchRecord)

-- Whether anything is asked of a kind's words.
abbrev pub asks : Kind → Bool
asks Figure = false
asks Number = true

-- ---- A table is the kinds of a record's columns, in their order, and its width is how many they are. The kind of a column; and the ruling of a table.
abbrev pub kind_at : List Kind → (column : ℕ) → Kind
kind_at kinds column = get_or kinds column Figure

unfoldable pub ruling_of : List Kind → (below : ℕ) → Ruling
unfolding same_column
ruling_of kinds below before w = fault_of (kind_at kinds (length before % length kinds)) below (same_column (length kinds) before) w

-- ---- What the code's inner steps answer. The refusal of word k of a section's words: by its table, and where its kind is known.
unfoldable pub table_fault : List Kind → (below : ℕ) (words : List ℕ) (k : ℕ) → Option Refusal
unfolding ruling_of
table_fault kinds below words k = ruling_of kinds below (take k words) (get_or words k 0)

unfoldable pub kind_fault : Kind → (below w : ℕ) (words : List ℕ) (k : ℕ) → Option Refusal
unfolding same_column
kind_fault kind below w words k = fault_of kind below (same_column w (take k words)) (get_or words k 0)

-- The first number below a bound that has a fault, if any: of the numbers of a column, and of all. `reached`: no fault stands before it.
abbrev pub reached : Option Found → (bound : ℕ) → ℕ
reached None bound = bound
reached (Some found) bound = found.at

pub record FirstOfColumn (fault : ℕ → Option Refusal) (w column bound : ℕ) (found : Option Found) : Type 0 where
  pub quiet : (i : ℕ) → i * w + column < reached found bound → fault (i * w + column) ≡ None
  pub bad : IfSome found (λ first. (first.at < bound) × (first.at % w ≡ column) × (fault first.at ≡ Some first.refusal))

pub record FirstOf (fault : ℕ → Option Refusal) (bound : ℕ) (found : Option Found) : Type 0 where
  pub quiet : (j : ℕ) → j < reached found bound → fault j ≡ None
  pub bad : IfSome found (λ first. (first.at < bound) × (fault first.at ≡ Some first.refusal))
