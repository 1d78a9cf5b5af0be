-- Document 01: "The program writes edition 1, the request count, then per request 11 words: refusal or 0, points, position, velocity, end acceleration. A
-- refused file gives three words: 1, 0, its number."
use Rattle.std.specs.Prelude.{◌≡◌, refl, Result, Ok, Err, List, [], ◌∷◌, ◌++◌, ℕ, zero, suc, ◌<◌, leb, length, take, get_or}
use Rattle.bits.specs.declared.refusal.Refusal.TheVariants.{RoomTooShort}
use Rattle.bits.specs.Refusal.{number_of}
use Rattle.states_start.specs.Given.{figure_refusal, FirstBad}
use Rattle.states.specs.Call.{answer_words, propagate_of}
use Rattle.files_words.specs.Bytes.{as_bytes, put}
use Rattle.files_checks.specs.declared.Fault.{Fault}
use Rattle.files_checks.specs.Checks.{need, ◌⟫◌}
use Rattle.files_formats.specs.declared.shapes.Shape.{Shape}
use Rattle.files_formats.specs.Rows.{result_edition, result_width, most_results, result_place, refused_words}
use Rattle.files_reader.specs.Reader.{reading_of}
use Rattle.files_results.specs.Requests.{request_words}

-- ---- How long a result file can be, by the most requests that an element file can have.
abbrev pub longest_result : ℕ
longest_result = result_place most_results

-- ---- "per request 11 words: refusal or 0, points, position, velocity, end acceleration": the first eleven words of an answer.
unfoldable pub row_of : List ℕ → List ℕ
row_of words = take result_width (answer_words (propagate_of words))

-- A row that is refused before any point is tried.
abbrev pub refused_row : (refusal : ℕ) → List ℕ
refused_row refusal = refusal ∷ 0 ∷ 0 ∷ 0 ∷ 0 ∷ 0 ∷ 0 ∷ 0 ∷ 0 ∷ 0 ∷ 0 ∷ []

-- T-05, for a row: it names the first figure that is NaN or infinite, exactly where there is one. By `eight_words` μ is the centre's, x to vz are the state's,
-- and τ comes from the request's time and the state's epoch.
abbrev pub RowsName : Type 0
RowsName =
    (file : List ℕ) (shape : Shape) (k figure : ℕ) →
    let words = request_words file shape k in
    (FirstBad words figure → row_of words ≡ refused_row (number_of (figure_refusal figure)))
    × (figure < 8 → get_or (row_of words) 0 0 ≡ number_of (figure_refusal figure) → FirstBad words figure)

-- The rows of the first n requests.
unfoldable pub rows_of : List ℕ → Shape → (n : ℕ) → List ℕ
rows_of file shape zero = []
rows_of file shape (suc n) = rows_of file shape n ++ row_of (request_words file shape n)

-- ---- The whole file.
abbrev pub sections_words : List ℕ → Shape → List ℕ
sections_words file shape = result_edition ∷ shape.requests ∷ rows_of file shape shape.requests

abbrev pub refused_file : (number : ℕ) → List ℕ
refused_file number = result_edition ∷ 0 ∷ number ∷ []

refused_size : (number : ℕ) → length (refused_file number) ≡ refused_words
refused_size number = refl

abbrev pub result_by : List ℕ → Result Shape Fault → List ℕ
result_by file (Ok shape) = sections_words file shape
result_by file (Err fault) = refused_file (number_of fault.refusal)

unfoldable pub result_file : List ℕ → List ℕ
result_file file = as_bytes (result_by file (reading_of file))

-- ---- What is answered: the file's size in bytes, or 26 with the size needed for its place.
unfoldable pub outcome_in : (result room : List ℕ) → Result ℕ Fault
outcome_in result room = need (leb (length result) (length room)) RoomTooShort (length result) ⟫ Ok (length result)

abbrev pub outcome_of : List ℕ → (room : List ℕ) → Result ℕ Fault
outcome_of file room = outcome_in (result_file file) room

-- ---- What the code's inner steps leave in a room: row k at its place; the first n rows at theirs.
abbrev pub with_row : List ℕ → Shape → (k : ℕ) → (room : List ℕ) → List ℕ
with_row file shape k room = put room (result_place k) (as_bytes (row_of (request_words file shape k)))

abbrev pub with_rows : List ℕ → Shape → (n : ℕ) → (room : List ℕ) → List ℕ
with_rows file shape n room = put room (result_place 0) (as_bytes (rows_of file shape n))
