-- The shape of an element file: its edition and how many records each section has. It says where everything stands. "A section place is the byte of its count
-- word".
use Rattle.std.specs.Prelude.{ℕ, ◌+◌, ◌*◌, List, [], length}
use Rattle.files_records.specs.Records.{record_place}
use Rattle.files_checks.specs.Checks.{Check, walk, counted_check}
use Rattle.files_formats.specs.declared.elements.Edition.{Edition}
use Rattle.files_formats.specs.declared.elements.Section.{Section}
use Rattle.files_formats.specs.declared.elements.Section.TheVariants.{Centres, States, Requests}
use Rattle.files_formats.specs.declared.shapes.Shape.{Shape}
use Rattle.files_formats.specs.Kinds.{ruling_of}
use Rattle.files_formats.specs.Elements.{limit_of, kinds_of, width_of}

abbrev pub shape_of : Edition → (centres states requests : ℕ) → Shape
shape_of edition centres states requests = record { edition = edition; centres = centres; states = states; requests = requests }

-- How many records a section has; and how many there are that its numbers are held to: "centre number", "state number".
abbrev pub count_of : Shape → Section → ℕ
count_of shape Centres = shape.centres
count_of shape States = shape.states
count_of shape Requests = shape.requests

abbrev pub below_of : Shape → Section → ℕ
below_of shape Centres = 0
below_of shape States = shape.centres
below_of shape Requests = shape.states

abbrev pub with_count : Shape → Section → (count : ℕ) → Shape
with_count shape Centres n = shape_of shape.edition n shape.states shape.requests
with_count shape States n = shape_of shape.edition shape.centres n shape.requests
with_count shape Requests n = shape_of shape.edition shape.centres shape.states n

-- The words of a section, and the bytes of it with its count word.
abbrev pub words_of : Shape → Section → ℕ
words_of shape section = count_of shape section * width_of shape.edition section

abbrev pub span_of : Shape → Section → ℕ
span_of shape section = 8 + 8 * words_of shape section

-- ---- "the edition, 1; then sections in a fixed order, each after its count": the place of a section's count word, that of its record i, and that of the end.
abbrev pub place_of : Shape → Section → ℕ
place_of shape Centres = 8
place_of shape States = 8 + span_of shape Centres
place_of shape Requests = 8 + span_of shape Centres + span_of shape States

abbrev pub record_of : Shape → Section → (i : ℕ) → ℕ
record_of shape section i = record_place (width_of shape.edition section) (place_of shape section + 8) i

abbrev pub end_of : Shape → ℕ
end_of shape = place_of shape Requests + span_of shape Requests

-- ---- A section of a file of this shape: its count within its limit, then that many records, each word as its column's kind asks.
unfoldable pub section_check : List ℕ → Shape → Section → Check
unfolding counted_check ruling_of
section_check file shape section =
    counted_check file (place_of shape section) (limit_of section) (width_of shape.edition section)
    (ruling_of (kinds_of shape.edition section) (below_of shape section))

-- The same of a run of words that would follow the section's count word.
unfoldable pub run_check : List ℕ → Shape → Section → Check
unfolding walk ruling_of
run_check run shape section =
    walk (ruling_of (kinds_of shape.edition section) (below_of shape section)) (place_of shape section + 8) [] (length run) run
