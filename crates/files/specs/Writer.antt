-- Document 01: "The writer takes the three sections as runs of words, and refuses in this order: 27 a run isn't whole records, 23, 24, 26 fewer room bytes than
-- the file needs. Under one number the first in file order counts. Its place is the first byte of that word in the file that would have been, for 27 the
-- section (0 to 2), for 26 the length needed. Else it answers the length. Room beyond the file keeps its bytes."
use Rattle.std.specs.Prelude.{ℕ, ◌/◌, ◌%◌, ◌≤◌, ◌≡◌, Result, Ok, Err, List, [], ◌∷◌, leb, eqb, length}
use Rattle.files_words.specs.Bytes.{as_bytes, put}
use Rattle.files_records.specs.Records.{all_words}
use Rattle.bits.specs.declared.refusal.Refusal.TheVariants.{TooMany, RoomTooShort, NotWholeRecords}
use Rattle.files_checks.specs.declared.Fault.{Fault}
use Rattle.files_checks.specs.Checks.{Check, sound, need, ◌⟫◌}
use Rattle.files_formats.specs.declared.elements.Edition.{Edition}
use Rattle.files_formats.specs.declared.elements.Section.{Section}
use Rattle.files_formats.specs.declared.elements.Section.TheVariants.{Centres, States, Requests}
use Rattle.files_formats.specs.declared.shapes.Shape.{Shape}
use Rattle.files_formats.specs.Elements.{edition_word, sections, limit_of, width_of}
use Rattle.files_formats.specs.Shapes.{shape_of, with_count, count_of, words_of, place_of, end_of, run_check}
use Rattle.files.specs.declared.Sections.{Sections}

-- ---- "the three sections as runs of words": what is written has a run for each section.
abbrev pub Runs : Type 0
Runs = Section → List ℕ

abbrev pub runs_of : (centres states requests : List ℕ) → Runs
runs_of centres states requests Centres = centres
runs_of centres states requests States = states
runs_of centres states requests Requests = requests

abbrev pub runs_in : Sections → Runs
runs_in sections = runs_of sections.centres.now sections.states.now sections.requests.now

-- The records in so many words of a section; and the shape of the file that runs make. It says every place, and the length.
abbrev pub records_in : Edition → Section → (words : ℕ) → ℕ
records_in edition section words = words / width_of edition section

abbrev pub shape_by : Edition → Runs → Shape
shape_by edition runs =
    shape_of edition (records_in edition Centres (length (runs Centres))) (records_in edition States (length (runs States)))
    (records_in edition Requests (length (runs Requests)))

-- ---- "Under one number the first in file order counts": one check for each of some sections, in their order.
unfoldable pub each : (Section → Check) → List Section → Check
each check [] = sound
each check (section ∷ rest) = check section ⟫ each check rest

-- ---- 27, by the number of words in a run; its place is "the section (0 to 2)".
abbrev pub index_of : Section → ℕ
index_of Centres = 0
index_of States = 1
index_of Requests = 2

abbrev pub whole_check : Edition → Section → (words : ℕ) → Check
whole_check edition section words = need (eqb (words % width_of edition section) 0) NotWholeRecords (index_of section)

-- ---- 23, by a count: the word at fault would be the count word.
abbrev pub limit_check : Shape → Section → (count : ℕ) → Check
limit_check shape section count = need (leb count (limit_of section)) TooMany (place_of shape section)

-- ---- 26, by the bytes of the file.
abbrev pub room_check : (size room : ℕ) → Check
room_check size room = need (leb size room) RoomTooShort size

-- ---- "refuses in this order: 27 .., 23, 24, 26". 24 is the walk of the reader, over the words that would follow each count word.
abbrev pub whole_checks : Edition → Runs → Check
whole_checks edition runs = each (λ section. whole_check edition section (length (runs section))) sections

abbrev pub limit_checks : Shape → Check
limit_checks shape = each (λ section. limit_check shape section (count_of shape section)) sections

abbrev pub word_checks : Shape → Runs → Check
word_checks shape runs = each (λ section. run_check (runs section) shape section) sections

unfoldable pub write_check : Edition → Runs → (room : ℕ) → Check
unfolding each run_check
write_check edition runs room =
    let shape = shape_by edition runs in
    whole_checks edition runs ⟫ limit_checks shape ⟫ word_checks shape runs ⟫ room_check (end_of shape) room

-- ---- "the edition, 1; then sections in a fixed order, each after its count".
abbrev pub section_words : Shape → Runs → Section → List ℕ
section_words shape runs section = count_of shape section ∷ runs section

abbrev pub words_by : Shape → Runs → List ℕ
words_by shape runs = edition_word shape.edition ∷ all_words (section_words shape runs) sections

unfoldable pub file_of : Edition → Runs → List ℕ
unfolding as_bytes
file_of edition runs = as_bytes (words_by (shape_by edition runs) runs)

-- ---- "Else it answers the length. Room beyond the file keeps its bytes." A refusal leaves the whole room as it was.
abbrev pub room_by : Check → (room file : List ℕ) → List ℕ
room_by (Ok done) room file = put room 0 file
room_by (Err fault) room file = room

unfoldable pub writing_of : Edition → Runs → (room : List ℕ) → Result ℕ Fault
unfolding write_check
writing_of edition runs room = write_check edition runs (length room) ⟫ Ok (end_of (shape_by edition runs))

unfoldable pub room_of : Edition → Runs → (room : List ℕ) → List ℕ
unfolding write_check file_of put
room_of edition runs room = room_by (write_check edition runs (length room)) room (file_of edition runs)

-- ---- What the writer's inner steps answer: after 23, the shape with a count; after 27 and 23, the shape of the file.
abbrev pub counted_by : Shape → Section → (count : ℕ) → Result Shape Fault
counted_by shape section count = limit_check shape section count ⟫ Ok (with_count shape section count)

abbrev pub counts_shape : Edition → Runs → Result Shape Fault
counts_shape edition runs = let shape = shape_by edition runs in (whole_checks edition runs ⟫ limit_checks shape) ⟫ Ok shape

-- ---- What the stores need: runs of as many words as a shape says, and room for the file.
pub record Fits (shape : Shape) (runs : Runs) (room : ℕ) : Type 0 where
  pub whole : (section : Section) → length (runs section) ≡ words_of shape section
  pub roomy : end_of shape ≤ room
