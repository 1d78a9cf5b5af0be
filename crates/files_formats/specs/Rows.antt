-- Formats beside the element file, each a count and its rows, whose words may hold any bits; and the records of the lists that calls are lent.
use Rattle.std.specs.Prelude.{ℕ, ◌+◌, ◌*◌}
use Rattle.files_records.specs.Records.{record_place}
use Rattle.files_formats.specs.declared.elements.Section.TheVariants.{Requests}
use Rattle.files_formats.specs.Elements.{limit_of}

-- ---- Document 01: "The program writes edition 1, the request count, then per request 11 words: refusal or 0, points, position, velocity, end acceleration. A
-- refused file gives three words: 1, 0, its number."
abbrev pub result_edition : ℕ
result_edition = 1

abbrev pub result_count_place : ℕ
result_count_place = 8

abbrev pub result_width : ℕ
result_width = 11

abbrev pub most_results : ℕ
most_results = limit_of Requests

-- Where row k stands; a file of k rows ends there.
abbrev pub result_place : ℕ → ℕ
result_place k = record_place result_width (result_count_place + 8) k

-- The columns of a row; position, velocity and end acceleration are `result_figures` figures from `result_figure` on.
abbrev pub result_refusal : ℕ
result_refusal = 0

abbrev pub result_figure : ℕ
result_figure = 2

abbrev pub result_figures : ℕ
result_figures = 9

abbrev pub refused_words : ℕ
refused_words = 3

-- ---- Document 02, T-06: "Rows come 18 words each after a count of 0 to 400": "eight input words, a proposed anomaly and the nine end figures".
abbrev pub checked_count_place : ℕ
checked_count_place = 0

abbrev pub checked_width : ℕ
checked_width = 18

abbrev pub most_checked : ℕ
most_checked = 400

abbrev pub checked_place : ℕ → ℕ
checked_place k = record_place checked_width (checked_count_place + 8) k

-- The eight input words begin at column 0; then the anomaly, and the nine.
abbrev pub given_words : ℕ
given_words = 8

abbrev pub checked_anomaly : ℕ
checked_anomaly = 8

abbrev pub checked_figure : ℕ
checked_figure = 9

abbrev pub checked_figures : ℕ
checked_figures = 9

-- ---- T-07: what is told of a row: its kind, then a kind and a distance for each of its figures.
abbrev pub told_width : ℕ
told_width = 1 + 2 * result_figures

-- ---- T-02: an entry of the summary: "how many states there are and the earliest and latest epoch", and the count of NaN epochs.
abbrev pub entry_width : ℕ
entry_width = 4
