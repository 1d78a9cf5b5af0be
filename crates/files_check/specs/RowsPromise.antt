-- What a file of rows means, by its rows and not its bytes: each row has its own verdict, in its own place; and those that we answered ourselves have 1.
use Rattle.std.specs.Prelude.{◌≡◌, ◌⊎◌, Ok, IsOk, List, ◌∷◌, ◌++◌, map, ℕ, ◌+◌, ◌*◌, ◌<◌, ◌≤◌, ◌^◌, length, drop, replicate}
use Rattle.search.specs.Search.{Proposing}
use Rattle.states_revolutions.specs.Revolutions.{interval_of}
use Rattle.states.specs.Call.{refusal_of, propagate_by}
use Rattle.states_check.specs.RowPromise.{anomaly_in, nine_in}
use Rattle.files_words.specs.Bytes.{as_bytes, Below}
use Rattle.files_checks.specs.Checks.{sound, IsFault}
use Rattle.files_records.specs.Records.{AllOf, all_words}
use Rattle.files_check.specs.RowsFile.{rows_in, rows_check, verdict_of, judged_of, verdicts_after}

-- "rows with eight input words, a proposed anomaly and the nine end figures".
pub record Row : Type 0 where
  pub given : List ℕ
  pub anomaly : ℕ
  pub nine : List ℕ

abbrev pub words_in : Row → List ℕ
words_in r = r.given ++ (r.anomaly ∷ r.nine)

pub record IsRow (r : Row) : Type 0 where
  pub eight_given : length r.given ≡ 8
  pub nine_figures : length r.nine ≡ 9
  pub are_words : Below (2 ^ 64) (words_in r)

abbrev pub AreRows : List Row → Type 0
AreRows rows = AllOf IsRow rows

-- "Rows come 18 words each after a count": the bytes of a file of these rows.
abbrev pub file_of : List Row → List ℕ
file_of rows = as_bytes (length rows ∷ all_words words_in rows)

abbrev pub verdict_on : Row → ℕ
verdict_on r = verdict_of r.given r.anomaly r.nine

-- A file of up to 400 rows can be refused by 26 alone; the rows are told; and all verdicts stand in the run, before what it held behind them.
pub record JudgedRows (rows : List Row) (run : List ℕ) : Type 0 where
  pub answer : length rows ≤ length run → judged_of (file_of rows) (length run) ≡ Ok (length rows)
  pub too_short : length run < length rows → IsFault (judged_of (file_of rows) (length run)) 26 (length rows)
  pub verdicts : length rows ≤ length run → verdicts_after (file_of rows) run ≡ map verdict_on rows ++ drop (length rows) run

abbrev pub JudgesRows : Type 0
JudgesRows = (rows : List Row) → AreRows rows → length rows ≤ 400 → (run : List ℕ) → JudgedRows rows run

-- And no other file: one that passes has at most 400 rows, and no byte more or less than they take.
pub record SoundFile (file : List ℕ) : Type 0 where
  pub few : rows_in file ≤ 400
  pub size : length file ≡ 8 + 144 * rows_in file

abbrev pub SoundSo : Type 0
SoundSo = (file : List ℕ) → rows_check file ≡ sound → SoundFile file

-- Demand 1: "lent memory unchanged" under every refusal.
abbrev pub KeptOrJudged : Type 0
KeptOrJudged = (file run : List ℕ) → IsOk (judged_of file (length run)) ⊎ (verdicts_after file run ≡ run)

-- "Every row we ourselves answer must be accepted": its input with the anomaly and the nine figures of our answer, whatever formula proposes the inner points.
abbrev pub our_row : Proposing → (given : List ℕ) → Row
our_row pr given = let a = propagate_by interval_of pr given in record { given = given; anomaly = anomaly_in a; nine = nine_in a }

abbrev pub OurRowsPass : Type 0
OurRowsPass = (pr : Proposing) (given : List ℕ) → refusal_of (propagate_by interval_of pr given) ≡ 0 → verdict_on (our_row pr given) ≡ 1

-- Such a row is one of a file: 18 words, each below 2 ^ 64, where its input is eight words.
pub record Answered (pr : Proposing) (given : List ℕ) : Type 0 where
  pub eight : length given ≡ 8
  pub are_words : Below (2 ^ 64) given
  pub not_refused : refusal_of (propagate_by interval_of pr given) ≡ 0

abbrev pub OurRowIs : Type 0
OurRowIs = (pr : Proposing) (given : List ℕ) → Answered pr given → IsRow (our_row pr given)

-- So a file of up to 400 of our own rows, each by any formula, is answered with their number, and every verdict is 1.
pub record Ours (r : Row) : Type 0 where
  pub by : Proposing
  pub input : List ℕ
  pub answered : Answered by input
  pub same : r ≡ our_row by input

pub record AllPass (rows : List Row) (run : List ℕ) : Type 0 where
  pub answer : judged_of (file_of rows) (length run) ≡ Ok (length rows)
  pub verdicts : verdicts_after (file_of rows) run ≡ replicate (length rows) 1 ++ drop (length rows) run

abbrev pub OurFilesPass : Type 0
OurFilesPass = (rows : List Row) → AllOf Ours rows → length rows ≤ 400 → (run : List ℕ) → length rows ≤ length run → AllPass rows run
