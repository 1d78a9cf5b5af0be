-- Result files and the room that is lent for them, computed: 0 and the file's bytes, or 26 and the bytes that are needed, and then the room is as it was.
use Rattle.std.specs.Prelude.{◌≡◌, refl, Result, Ok, Err, List, [], ◌∷◌, ◌++◌, ℕ, replicate}
use Rattle.states_arcs.specs.Results.{figures_of}
use Rattle.states.specs.Call.{answer_words}
use Rattle.bits.specs.Refusal.{number_of}
use Rattle.files_words.specs.Bytes.{as_bytes, put}
use Rattle.files_checks.specs.declared.Fault.{Fault}
use Rattle.files_reader.specs.Cases.{p10_file}
use Rattle.files_reader.specs.Reader.{reading_of}
use Rattle.files_results.specs.Results.{longest_result, row_of, rows_of, result_file, outcome_in, outcome_of}

-- An answer as two words.
abbrev as_words : Result ℕ Fault → List ℕ
as_words (Ok size) = 0 ∷ size ∷ []
as_words (Err fault) = number_of fault.refusal ∷ fault.place ∷ []

-- An element file and a room of so many bytes, each 7: what is answered, a number and a size.
abbrev Answers : (file : List ℕ) (room number size : ℕ) → Type 0
Answers file room number size = as_words (outcome_of file (replicate room 7)) ≡ number ∷ size ∷ []

-- And what the room holds afterwards.
abbrev Leaves : (file : List ℕ) (room : ℕ) (after : List ℕ) → Type 0
Leaves file room after = put (replicate room 7) 0 (result_file file) ≡ after

-- P10's result file has thirteen words: 104 bytes, and not one less.
p10 : Answers p10_file 104 0 104 × Answers p10_file 103 26 104
unfolding outcome_in result_file reading_of rows_of row_of answer_words figures_of as_bytes
p10 = (refl, refl)

-- A file of a state and no requests: the edition and the count, 0.
abbrev no_requests : List ℕ
no_requests = as_bytes (1 ∷ 1 ∷ 398600 ∷ 1 ∷ 0 ∷ 7 ∷ 1 ∷ 2 ∷ 3 ∷ 4 ∷ 5 ∷ 6 ∷ 0 ∷ [])

no_requests_lem : Answers no_requests 16 0 16 × Leaves no_requests 16 (1 ∷ 0 ∷ 0 ∷ 0 ∷ 0 ∷ 0 ∷ 0 ∷ 0 ∷ 0 ∷ 0 ∷ 0 ∷ 0 ∷ 0 ∷ 0 ∷ 0 ∷ 0 ∷ [])
unfolding outcome_in put result_file reading_of rows_of as_bytes
no_requests_lem = (refl, refl)

-- "A refused file gives three words: 1, 0, its number": 24 bytes. An empty file is 21.
abbrev empty : List ℕ
empty = 1 ∷ 0 ∷ 0 ∷ 0 ∷ 0 ∷ 0 ∷ 0 ∷ 0 ∷ 0 ∷ 0 ∷ 0 ∷ 0 ∷ 0 ∷ 0 ∷ 0 ∷ 0 ∷ 21 ∷ 0 ∷ 0 ∷ 0 ∷ 0 ∷ 0 ∷ 0 ∷ 0 ∷ []

refused : Answers [] 24 0 24 × Answers [] 25 0 24 × Answers [] 23 26 24
unfolding outcome_in result_file reading_of as_bytes
refused = (refl, refl, refl)

refused_room : Leaves [] 24 empty × Leaves [] 25 (empty ++ (7 ∷ [])) × Leaves [] 23 (replicate 23 7)
unfolding put result_file reading_of as_bytes
refused_room = (refl, refl, refl)

-- 1,500 requests: the edition and the count, and 1,500 rows of 88 bytes.
longest : longest_result ≡ 132016
longest = refl
