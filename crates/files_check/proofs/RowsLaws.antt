-- A file of rows has them, each in its place.
use Prim.Native.Nat.{ℕ, zero, suc, ◌+◌, ◌*◌, ◌^◌, ◌≤◌}
use mathlib.Core.Path.{◌≡◌, refl, sym, ap, ap₂, subst, ◌∙◌}
use mathlib.Core.Bool.{Bool, true, false}
use mathlib.Core.List.{List, [], ◌∷◌, ◌++◌, map, append_assoc, append-nil}
use native.Mathlib.Omega.{arith}
use native.Mathlib.Nat.{add-zero, zero-add}
use borrow.Author.Tests.{le-leb, lt-leb}
use lib.Dec.{leb}
use Rattle.std.specs.Prelude.{Result, Ok}
use Rattle.bits.specs.declared.refusal.Refusal.TheVariants.{RoomTooShort}
use lib.ListN.{length, length-append, take, drop, get_or}
use lib.Seq.{append_snoc, take_at, take-suc, drop_at, get_or_at}
use Rattle.files_words.specs.Bytes.{words_from, Below}
use Rattle.files_words.proofs.WordLaws.{length-as_bytes, words_after, words_later, word_of_words}
use Rattle.files_records.specs.Records.{all_words}
use Rattle.files_records.proofs.AllLaws.{all_length, all_below}
use Rattle.files_checks.specs.declared.Fault.{Fault}
use Rattle.files_checks.specs.Checks.{sound, need, IsFault, ◌⟫◌}
use Rattle.files_checks.proofs.CountedLaws.{sound_filled}
use Rattle.files_formats.specs.Rows.{checked_count_place, checked_width, most_checked, checked_place, given_words, checked_anomaly, checked_figure, checked_figures}
use Rattle.states_check.proofs.RowLaws.{accepts_own}
use Rattle.files_check.specs.RowsFile.{rows_in, rows_check, each_of, fields_at, given_at, proposed_at, nine_at, verdict_of, verdict_at, verdicts_of, rows_fit, judged_of, with_verdicts, unless_fault, verdicts_after}
use Rattle.files_check.specs.RowsPromise.{Row, words_in, IsRow, AreRows, file_of, verdict_on, JudgesRows, OurRowsPass}

pub our_rows_pass : OurRowsPass
unfolding verdict_of
our_rows_pass pr given z = rw (accepts_own pr given z)

-- ---- The words of rows.
row_length : (r : Row) → IsRow r → length (words_in r) ≡ checked_width
row_length r is = length-append r.given (r.anomaly ∷ r.nine) ∙ omega (arith, is.eight_given, is.nine_figures)

abbrev rows_words : List Row → List ℕ
rows_words rows = all_words words_in rows

-- ---- The file.
module _ (rows : List Row) (are : AreRows rows) (few : length rows ≤ most_checked) where
  abbrev file : List ℕ
  file = file_of rows

  abbrev n : ℕ
  n = length rows

  file_length : length file ≡ checked_place n
  file_length = length-as_bytes (n ∷ rows_words rows) ∙ omega (arith, all_length words_in IsRow checked_width row_length rows are)

  all_below_2^64 : Below (2 ^ 64) (n ∷ rows_words rows)
  all_below_2^64 = (omega (arith, few), all_below words_in IsRow (2 ^ 64) (λ r is. is.are_words) rows are)

  count_here : rows_in file ≡ n
  count_here = sym (word_of_words file checked_count_place 0) ∙ ap (λ (ws : List ℕ). get_or ws 0 0) (words_after [] (n ∷ rows_words rows) all_below_2^64)

  rest_here : words_from file (checked_place 0) ≡ rows_words rows
  rest_here = words_after (n ∷ []) (rows_words rows) all_below_2^64.1

  sound_rows : rows_check file ≡ sound
  unfolding rows_check
  sound_rows =
      sound_filled file checked_count_place most_checked checked_width (omega (arith, file_length)) (omega (arith, count_here, few)) (omega (arith, file_length, count_here))

-- So many words from a place on.
fields_are : (file : List ℕ) (place n : ℕ) → n ≤ length (words_from file place) → fields_at file place n ≡ take n (words_from file place)
unfolding each_of
fields_are file place zero h = refl
fields_are file place (suc n) h =
    ap₂ (λ (ws : List ℕ) (w : ℕ). ws ++ (w ∷ [])) (fields_are file place n (omega arith)) (sym (word_of_words file place n))
    ∙ sym (take-suc (words_from file place) n 0 (omega arith))

-- The words at a place that begin with those of a row.
module _ (file : List ℕ) (place : ℕ) (r : Row) (is : IsRow r) (rest : List ℕ) (here : words_from file place ≡ words_in r ++ rest) where
  abbrev behind : List ℕ
  behind = (r.anomaly ∷ r.nine) ++ rest

  opened : words_from file place ≡ r.given ++ behind
  opened = here ∙ append_assoc r.given (r.anomaly ∷ r.nine) rest

  given_is : given_at file place ≡ r.given
  given_is =
      fields_are file place given_words (omega (arith, ap length opened, length-append r.given behind, is.eight_given))
      ∙ ap (take given_words) opened ∙ take_at r.given behind given_words is.eight_given

  anomaly_is : proposed_at file place ≡ r.anomaly
  anomaly_is =
      sym (word_of_words file place checked_anomaly)
      ∙ ap (λ (ws : List ℕ). get_or ws checked_anomaly 0) opened ∙ get_or_at r.given r.anomaly (r.nine ++ rest) 0 checked_anomaly is.eight_given

  nine_here : words_from file (place + 8 * checked_figure) ≡ r.nine ++ rest
  nine_here =
      words_later file place checked_figure
      ∙ ap (drop checked_figure) (opened ∙ sym (append_snoc r.given r.anomaly (r.nine ++ rest)))
      ∙ drop_at (r.given ++ (r.anomaly ∷ [])) (r.nine ++ rest) checked_figure (length-append r.given (r.anomaly ∷ []) ∙ omega (arith, is.eight_given))

  nine_is : nine_at file place ≡ r.nine
  nine_is =
      fields_are file (place + 8 * checked_figure) checked_figures (omega (arith, ap length nine_here, length-append r.nine rest, is.nine_figures))
      ∙ ap (take checked_figures) nine_here ∙ take_at r.nine rest checked_figures is.nine_figures

-- The verdicts of the rows from row k on.
each : (file : List ℕ) (k : ℕ) (rows : List Row) → AreRows rows → words_from file (checked_place k) ≡ rows_words rows →
    verdicts_of file (k + length rows) ≡ verdicts_of file k ++ map verdict_on rows
unfolding each_of
each file k [] are here = ap (verdicts_of file) (add-zero k) ∙ sym (append-nil (verdicts_of file k))
each file k (r ∷ rs) are here =
    let row = checked_place k in
    let behind : checked_place (suc k) ≡ row + 8 * checked_width = omega arith in
    let one_more : k + suc (length rs) ≡ suc k + length rs = omega arith in
    ap (verdicts_of file) one_more
    ∙ each file (suc k) rs are.1
    (ap (words_from file) behind ∙ words_later file row checked_width ∙ ap (drop checked_width) here ∙ drop_at (words_in r) (rows_words rs) checked_width (row_length r are.0))
    ∙ append_assoc (verdicts_of file k) (verdict_at file k ∷ []) (map verdict_on rs)
    ∙ (λ i. verdicts_of file k ++ (
    verdict_of (given_is file row r are.0 (rows_words rs) here i) (anomaly_is file row r are.0 (rows_words rs) here i) (nine_is file row r are.0 (rows_words rs) here i)
    ∷ map verdict_on rs
    ))

pub judges_rows : JudgesRows
unfolding judged_of verdicts_after each_of
judges_rows rows are few run =
    let file = file_of rows in
    let n = length rows in
    let s = sound_rows rows are few in
    let c = count_here rows are few in
    let all : verdicts_of file n ≡ map verdict_on rows = ap (verdicts_of file) (sym (zero-add n)) ∙ each file 0 rows are (rest_here rows are few) in
    let fit : (b : Bool) → leb n (length run) ≡ b → rows_fit file (length run) ≡ need b RoomTooShort n =
    λ b e. (λ i. s i ⟫ need (leb (c i) (length run)) RoomTooShort (c i)) ∙ ap (λ (b : Bool). need b RoomTooShort n) e
    in
    record {
      answer = λ h. (λ i. fit true (le-leb n (length run) h) i ⟫ Ok (c i));
      too_short = λ h. subst (λ (r : Result ℕ Fault). IsFault r 26 n) (sym (λ i. fit false (lt-leb n (length run) h) i ⟫ Ok (c i))) (refl, refl);
      verdicts =
          λ h. (λ i. unless_fault (fit true (le-leb n (length run) h) i) run (with_verdicts file (c i) run))
          ∙ ap (λ (l : List ℕ). l ++ drop n run) all;
    }
