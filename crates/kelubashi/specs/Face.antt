-- Every entry point returns a refusal's number, or 0, and writes its whole answer run, refused or not: the run is the answer itself.
-- 60, the project's own number, comes before all else: the answer run is not exactly as long as the answer, and nothing is written.
use Rattle.std.specs.Prelude.{not, List, [], ◌∷◌, ℕ, Result, Ok, Err, eqb, length, get_or}
use Rattle.bits.specs.Choice.{pick}
use Rattle.bits.specs.Refusal.{number_of, number_in as refusal_in}
use Rattle.bits.specs.declared.refusal.Refusal.{Refusal}
use Rattle.files_checks.specs.declared.Fault.{Fault}
use Rattle.files_formats.specs.declared.elements.Edition.TheVariants.{One}
use Rattle.files_formats.specs.declared.elements.Section.TheVariants.{Centres, States, Requests}
use Rattle.files_formats.specs.declared.shapes.Shape.{Shape}
use Rattle.files_formats.specs.Shapes.{place_of}
use Rattle.files_formats.specs.Rows.{entry_width}
use Rattle.files_reader.specs.Reader.{reading_of}
use Rattle.files.specs.Writer.{runs_of, writing_of, room_of}
use Rattle.files_results.specs.Results.{outcome_of}
use Rattle.files_summary.specs.declared.changes.Change.{Change}
use Rattle.files_summary.specs.Entries.{roster_of}
use Rattle.files_summary.specs.Changes.{Asked, count_after, change_beside, run_beside, settled_by, put_entry}

-- What is returned, for an answer of n words and a run as it was handed in.
abbrev pub returned : ℕ → List ℕ → ℕ → ℕ
returned n run refusal = pick (not (eqb (length run) n)) 60 refusal

-- What the answer run holds afterwards.
abbrev pub answer_after : ℕ → List ℕ → List ℕ → List ℕ
answer_after n run answer = pick (not (eqb (length run) n)) run answer

-- What a lent run behind the answer run holds afterwards: 60 leaves it as it was.
abbrev pub lent_behind : ℕ → List ℕ → (lent after : List ℕ) → List ℕ
lent_behind n run lent after = pick (not (eqb (length run) n)) lent after

-- The number of an answer whose refusal has a place, or 0.
abbrev pub fault_number : {T : Type 0} → Result T Fault → ℕ
fault_number (Ok value) = 0
fault_number (Err fault) = number_of fault.refusal

-- The reader's answer: number, place, then place and count of centres, states, requests. The place is 0 where the file is accepted, the last six are 0 where
-- it is refused.
unfoldable pub reading_words : Result Shape Fault → List ℕ
reading_words (Ok shape) =
    0 ∷ 0 ∷ place_of shape Centres ∷ shape.centres ∷ place_of shape States ∷ shape.states ∷ place_of shape Requests ∷ shape.requests ∷ []
reading_words (Err fault) = number_of fault.refusal ∷ fault.place ∷ 0 ∷ 0 ∷ 0 ∷ 0 ∷ 0 ∷ 0 ∷ []

-- The answer of what writes to a room or a run: number, then the size of what is written, or the place of the refusal.
abbrev pub size_or_place : Result ℕ Fault → ℕ
size_or_place (Ok size) = size
size_or_place (Err fault) = fault.place

abbrev pub sized_words : Result ℕ Fault → List ℕ
sized_words sized = fault_number sized ∷ size_or_place sized ∷ []

-- The writer's answer: number, then the place of the refusal, or the length written.
abbrev pub writing_words : Result ℕ Fault → List ℕ
writing_words writing = sized_words writing

-- The results' answer: number, then the length written or needed.
abbrev pub outcome_words : Result ℕ Fault → List ℕ
outcome_words outcome = sized_words outcome

-- A change of the states of a run, so many of which are in use, beside a list of so many centres' entries; and what the run and the list hold afterwards.
-- The states are edition 1's.
module _ (asked : Asked) (states : List ℕ) (count centres : ℕ) (list : List ℕ) where
  abbrev pub change_made : Result Change Refusal
  change_made = change_beside entry_width (length list) asked states (roster_of One count centres)

  abbrev pub states_made : List ℕ
  states_made = run_beside entry_width (length list) asked states (roster_of One count centres)

  abbrev pub list_made : List ℕ
  list_made = settled_by put_entry list change_made

-- The answer of a change of the states, of which so many were in use: number, then the states in use afterwards.
abbrev pub in_use_after : (count : ℕ) → Result Change Refusal → ℕ
in_use_after count change = count_after change count

abbrev pub change_words : (count : ℕ) → Result Change Refusal → List ℕ
change_words count change = refusal_in change ∷ in_use_after count change ∷ []

-- The answer to a file of rows: number, then the place of the refusal, or the rows.
abbrev pub judged_words : Result ℕ Fault → List ℕ
judged_words judged = sized_words judged

-- The number of an answer is its first word.
abbrev pub number_in : List ℕ → ℕ
number_in words = get_or words 0 0

-- The answers of the reader and of the results, as words.
abbrev pub read_words : (file : List ℕ) → List ℕ
read_words file = reading_words (reading_of file)

abbrev pub results_words : (file room : List ℕ) → List ℕ
results_words file room = outcome_words (outcome_of file room)

-- For the writer: what is returned, and what the answer run and the room hold afterwards.
abbrev pub write_number : (run centres states requests room : List ℕ) → ℕ
write_number run centres states requests room = returned 2 run (number_in (writing_words (writing_of One (runs_of centres states requests) room)))

abbrev pub write_answer : (run centres states requests room : List ℕ) → List ℕ
write_answer run centres states requests room = answer_after 2 run (writing_words (writing_of One (runs_of centres states requests) room))

abbrev pub write_room : (run centres states requests room : List ℕ) → List ℕ
write_room run centres states requests room = lent_behind 2 run room (room_of One (runs_of centres states requests) room)
