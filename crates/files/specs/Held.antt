-- What the laws of the reader and the writer are about.
use Rattle.std.specs.Prelude.{ℕ, ◌+◌, ◌*◌, ◌^◌, ◌<◌, ◌≤◌, ◌≡◌, ◌⊎◌, Ok, List, ◌++◌, length, take, drop}
use Rattle.files_words.specs.Bytes.{words_from, Below}
use Rattle.files_checks.specs.Checks.{IsFault}
use Rattle.files_formats.specs.declared.elements.Edition.{Edition}
use Rattle.files_formats.specs.declared.elements.Section.{Section}
use Rattle.files_formats.specs.declared.shapes.Shape.{Shape}
use Rattle.files_formats.specs.Elements.{limit_of, width_of}
use Rattle.files_formats.specs.Shapes.{words_of, place_of}
use Rattle.files_reader.specs.Reader.{reading_of}
use Rattle.files.specs.Writer.{Runs, shape_by, words_by, file_of, writing_of, room_of}

-- The words of a section's records in a file: those after its count word, as many as the count says.
abbrev pub held : List ℕ → Shape → Runs
held file shape section = take (words_of shape section) (words_from file (place_of shape section + 8))

-- A file reads as these sections, words included.
pub record ReadsAs (file : List ℕ) (shape : Shape) (runs : Runs) : Type 0 where
  pub accepted : reading_of file ≡ Ok shape
  pub same : (section : Section) → held file shape section ≡ runs section

-- Runs of words, written with this room, are exactly this file, at the start of the room; beyond it the room is as it was.
pub record WrittenAs (edition : Edition) (runs : Runs) (room file : List ℕ) : Type 0 where
  pub accepted : writing_of edition runs room ≡ Ok (length file)
  pub same : room_of edition runs room ≡ file ++ drop (length file) room

-- Some runs of words, with some room, are written as this file.
pub record Writable (file : List ℕ) : Type 0 where
  pub edition : Edition
  pub runs : Runs
  pub room : List ℕ
  pub words : (section : Section) → Below (2 ^ 64) (runs section)
  pub written : WrittenAs edition runs room file

-- "Its place is the first byte of that word in the file that would have been": what the writer refuses in three runs the reader refuses in that file.
pub record RefusedAlike (edition : Edition) (runs : Runs) (room file : List ℕ) : Type 0 where
  -- 24, and then no count is above its limit: the reader says the same.
  pub by_number : (place : ℕ) → IsFault (writing_of edition runs room) 24 place →
      ((section : Section) → length (runs section) ≤ limit_of section * width_of edition section) × IsFault (reading_of file) 24 place
  -- 23: the reader says the same, but the writer has 23 before 24, and the reader walks forward: it may meet a bad number before that count.
  pub by_count : (place : ℕ) → IsFault (writing_of edition runs room) 23 place →
      IsFault (reading_of file) 23 place ⊎ ((at : ℕ) × (at < place) × IsFault (reading_of file) 24 at)
  -- 26, with the length needed: nothing is wrong with that file, and it is so long.
  pub by_room : (needed : ℕ) → IsFault (writing_of edition runs room) 26 needed →
      (length room < needed) × (needed ≡ length file) × (shape : Shape) × (reading_of file ≡ Ok shape)

-- For any runs that can be a file's: its words, each count among them, are below 2 ^ 64.
abbrev pub RefusesAlike : Type 0
RefusesAlike =
    (edition : Edition) (runs : Runs) (room : List ℕ) → Below (2 ^ 64) (words_by (shape_by edition runs) runs) →
    RefusedAlike edition runs room (file_of edition runs)
