-- Document 01: "The reader walks forward, answers either the three section places or a number with its byte place: 21 a needed word not whole, 22 edition, 23
-- count above limit, 24 number not in its section, 25 bytes left after the last section. A section place is the byte of its count word, and the count comes
-- with it. The place of a refusal is the first byte of the word at fault, for 25 the first byte left." The shape of a file says its places and counts.
use Rattle.std.specs.Prelude.{ℕ, Result, Ok, List, [], ◌∷◌}
use Rattle.files_words.specs.Bytes.{word_at}
use Rattle.files_checks.specs.declared.Fault.{Fault}
use Rattle.files_checks.specs.Checks.{Check, ◌⟫◌, edition_check, end_check}
use Rattle.files_formats.specs.declared.elements.Edition.{Edition}
use Rattle.files_formats.specs.declared.elements.Edition.TheVariants.{One}
use Rattle.files_formats.specs.declared.elements.Section.{Section}
use Rattle.files_formats.specs.declared.elements.Section.TheVariants.{Centres, States, Requests}
use Rattle.files_formats.specs.declared.shapes.Shape.{Shape}
use Rattle.files_formats.specs.Elements.{is_edition, edition_of, sections, limit_of}
use Rattle.files_formats.specs.Shapes.{shape_of, with_count, place_of, end_of, section_check}

-- "at most 56,160 bytes": every section at its limit. The longest file of an edition, and of all editions.
abbrev pub longest_of : Edition → ℕ
longest_of edition = end_of (shape_of edition (limit_of Centres) (limit_of States) (limit_of Requests))

abbrev pub longest_file : ℕ
longest_file = longest_of One

-- ---- "The reader walks forward": each section tells by its count where the next one stands. A shape with the count that a file has of one section more,
-- which stands where the counts before it tell; and with those of sections in their order.
abbrev pub grown : List ℕ → Shape → Section → Shape
grown file shape section = with_count shape section (word_at file (place_of shape section))

abbrev pub grown_by : List ℕ → Shape → List Section → Shape
grown_by file shape [] = shape
grown_by file shape (section ∷ rest) = grown_by file (grown file shape section) rest

unfoldable pub shape_in : Edition → List ℕ → Shape
unfolding word_at
shape_in edition file = grown_by file (shape_of edition 0 0 0) sections

-- The check of sections in their order, and that nothing is left after the last.
unfoldable pub sections_check : List ℕ → Shape → List Section → Check
unfolding section_check word_at
sections_check file shape [] = end_check file (end_of shape)
sections_check file shape (section ∷ rest) = section_check file shape section ⟫ sections_check file (grown file shape section) rest

-- The edition, the sections, the end.
abbrev pub edition_in : List ℕ → Edition
edition_in file = edition_of (word_at file 0)

abbrev pub first_check : List ℕ → Check
first_check file = edition_check file (is_edition (word_at file 0))

unfoldable pub file_check : List ℕ → Check
unfolding edition_check sections_check
file_check file = first_check file ⟫ sections_check file (shape_of (edition_in file) 0 0 0) sections

-- The answer.
unfoldable pub reading_of : List ℕ → Result Shape Fault
unfolding file_check shape_in
reading_of file = file_check file ⟫ Ok (shape_in (edition_in file) file)
