-- A result file is its rows, one after another.
use mathlib.Core.Bool.{false}
use mathlib.Core.Path.{◌≡◌, refl, sym, ap, ◌∙◌}
use mathlib.Core.List.{List, [], ◌∷◌}
use Prim.Native.Nat.{ℕ, zero, suc, ◌*◌, ◌≤◌}
use native.Mathlib.Omega.{arith}
use borrow.Author.Tests.{leb-true, leb-false}
use lib.Dec.{leb}
use lib.Ieee.{of_bits, to_bits}
use lib.ListN.{length, length-append, take, get_or}
use Rattle.states_start.specs.Given.{figure_refusal}
use Rattle.states_start.proofs.StartLaws.{figure_number}
use Rattle.states_arcs.specs.Results.{figures_of}
use Rattle.states.specs.Call.{Answering, refused, refusal_of, answer_words, propagate_of}
use Rattle.states.proofs.NamedFigures.{names_figure}
use Rattle.std.specs.Prelude.{Ok, Err}
use Rattle.bits.specs.declared.refusal.Refusal.{Refusal}
use Rattle.bits.specs.declared.refusal.Refusal.TheVariants.{RoomTooShort}
use Rattle.bits.specs.Refusal.{number_of}
use Rattle.files_checks.specs.declared.Fault.{Fault}
use Rattle.files_checks.specs.Checks.{Check, sound, need, ◌⟫◌}
use Rattle.files_checks.proofs.CheckLaws.{needed, needed_not}
use Rattle.files_words.specs.Bytes.{as_bytes, put}
use Rattle.files_words.proofs.WordLaws.{length-as_bytes, as_bytes_append}
use Rattle.files_words.proofs.PutLaws.{put_next, put_outside, length-put}
use Rattle.files_formats.specs.declared.shapes.Shape.{Shape}
use Rattle.files_results.specs.Requests.{request_words}
use Rattle.files_formats.specs.Rows.{result_edition, result_width, result_place}
use Rattle.files_results.specs.Results.{row_of, refused_row, RowsName, rows_of, sections_words, outcome_in, with_row, with_rows}

-- ---- Rows.
pub row_length : (words : List ℕ) → length (row_of words) ≡ result_width
unfolding row_of answer_words figures_of
row_length words = refl

pub rows_length : (file : List ℕ) (shape : Shape) (n : ℕ) → length (rows_of file shape n) ≡ n * result_width
unfolding rows_of
rows_length file shape zero = refl
rows_length file shape (suc n) =
    length-append (rows_of file shape n) (row_of (request_words file shape n))
    ∙ (omega (arith, rows_length file shape n, row_length (request_words file shape n)))

-- T-05: a row is of the call's answer, and its first word the call's refusal.
row_from : Answering → List ℕ
row_from a = take result_width (answer_words a)

of_answer : (words : List ℕ) → row_of words ≡ row_from (propagate_of words)
unfolding row_of row_from
of_answer words = refl

first_word : (words : List ℕ) → get_or (row_of words) 0 0 ≡ refusal_of (propagate_of words)
unfolding row_of answer_words figures_of
first_word words = refl

of_refusal : (r : Refusal) → row_from (refused r 0) ≡ refused_row (number_of r)
unfolding row_from answer_words figures_of to_bits of_bits
of_refusal r = refl

eight : (file : List ℕ) (shape : Shape) (k : ℕ) → length (request_words file shape k) ≡ 8
unfolding request_words
eight file shape k = refl

pub rows_name : RowsName
rows_name file shape k figure =
    let words = request_words file shape k in
    let names = (names_figure _ _ words (eight file shape k)).0 in (
      λ f. of_answer words ∙ ap row_from (names.named figure f) ∙ of_refusal (figure_refusal figure),
      λ l e. names.told figure l (sym (first_word words) ∙ e ∙ figure_number figure l),
    )

module _ (file : List ℕ) (shape : Shape) where
  rows_bytes : (n : ℕ) → length (as_bytes (rows_of file shape n)) ≡ 8 * (n * result_width)
  rows_bytes n = length-as_bytes (rows_of file shape n) ∙ (omega (arith, rows_length file shape n))

  pub row_after : (room : List ℕ) (k : ℕ) → result_place (suc k) ≤ length room →
      with_row file shape k (with_rows file shape k room) ≡ with_rows file shape (suc k) room
  unfolding rows_of
  row_after room k h =
      let r = length-as_bytes (row_of (request_words file shape k)) in
      let l = row_length (request_words file shape k) in
      put_next room (as_bytes (rows_of file shape k)) (as_bytes (row_of (request_words file shape k))) (result_place 0) (result_place k)
      (omega (arith, rows_bytes k)) (omega (arith, rows_bytes k, r, l))
      ∙ ap (put room (result_place 0)) (sym (as_bytes_append (rows_of file shape k) (row_of (request_words file shape k))))

  pub result_length : length (as_bytes (sections_words file shape)) ≡ result_place shape.requests
  result_length = length-as_bytes (sections_words file shape) ∙ (omega (arith, rows_length file shape shape.requests))

  pub all_rows : (room : List ℕ) → result_place shape.requests ≤ length room →
      with_rows file shape shape.requests (put room 0 (as_bytes (result_edition ∷ shape.requests ∷ [])))
      ≡ put room 0 (as_bytes (sections_words file shape))
  all_rows room h =
      let n = shape.requests in
      let two = length-as_bytes (result_edition ∷ n ∷ []) in
      put_next room (as_bytes (result_edition ∷ n ∷ [])) (as_bytes (rows_of file shape n)) 0 (result_place 0) (omega (arith, two)) (omega (arith, two, rows_bytes n))
      ∙ ap (put room 0) (sym (as_bytes_append (result_edition ∷ n ∷ []) (rows_of file shape n)))

  pub room_length : (room : List ℕ) (k : ℕ) → result_place k ≤ length room → length (with_rows file shape k room) ≡ length room
  room_length room k h = length-put room (as_bytes (rows_of file shape k)) (result_place 0) (omega (arith, rows_bytes k))

-- ---- What is answered, by what was found of the room.
module _ (result room : List ℕ) {n : ℕ} (size : length result ≡ n) where
  by_room : {c : Check} → need (leb n (length room)) RoomTooShort n ≡ c → (c ⟫ Ok n) ≡ outcome_in result room
  unfolding outcome_in
  by_room e = λ i. (sym e ∙ (λ j. need (leb (sym size j) (length room)) RoomTooShort (sym size j))) i ⟫ Ok (sym size i)

  pub too_short : {f : Fault} → need (leb n (length room)) RoomTooShort n ≡ Err f → (Err f ≡ outcome_in result room) × (room ≡ put room 0 result)
  too_short e =
      let h : leb n (length room) ≡ false = (needed_not _ _ _ e).0 in
      let l = leb-false n (length room) h in
      (by_room e, sym (put_outside room result 0 (omega (arith, l))))

  pub long_enough : need (leb n (length room)) RoomTooShort n ≡ sound → (Ok n ≡ outcome_in result room) × (n ≤ length room)
  long_enough e = (by_room e, leb-true n (length room) (needed _ RoomTooShort n e))
