-- A file of rows has them, each in its place; two such files are compared row by row.
use Prim.Native.Nat.{ℕ, suc, ◌+◌, ◌*◌, ◌^◌, ◌<◌, ◌≤◌}
use mathlib.Core.Path.{◌≡◌, refl, sym, ap, ap₂, subst, ◌∙◌}
use mathlib.Core.List.{List, [], ◌∷◌, ◌++◌, append_assoc, append-nil}
use native.Mathlib.Nat.{add-zero, zero-add}
use borrow.Author.Tests.{eq-eqb}
use native.Mathlib.Omega.{arith}
use lib.ListN.{length, length-append, drop, get_or, get_or-append}
use lib.Seq.{drop_at}
use Rattle.files_words.specs.Bytes.{words, words_from, word_at, as_bytes, Below}
use Rattle.files_words.proofs.WordLaws.{length-as_bytes, as_bytes_append, words_as_bytes, words_after, word_whole, word_in_part, words_later, word_of_words, length-words_from}
use Rattle.std.specs.Prelude.{Ok}
use Rattle.bits.specs.declared.refusal.Refusal.TheVariants.{BytesLeft}
use Rattle.files_checks.specs.Checks.{Check, sound, fault, IsFault, ◌⟫◌, edition_check, filled_check}
use Rattle.files_records.specs.Records.{all_words}
use Rattle.files_formats.specs.Rows.{result_edition, result_count_place, result_width, most_results, result_place, result_refusal, result_figure, result_figures, told_width}
use Rattle.files_checks.proofs.CheckLaws.{sound_both}
use Rattle.files_records.proofs.AllLaws.{all_length, all_below}
use Rattle.files_checks.proofs.CountedLaws.{sound_filled, left_behind, sound_edition}
use Rattle.files_differences.specs.declared.told.RowKind.{RowKind}
use Rattle.files_differences.specs.Told.{row_kind_of, row_kind_word, figure_in, figure_words}
use Rattle.files_compare.specs.Compare.{edition_known, results_check, row_count, word_on, kind_on, figure_on, figures_told, row_told, row_at, rows_told, largest_of}
use Rattle.files_compare.specs.ComparePromise.{RefusedFileIs25, Row, words_in, IsRow, AreRows, file_of, figures_between, between, all_between, FiguresOf, ComparesRows}
use Rattle.files_compare.proofs.Orders.{refuses_in_order, keeps_or_tells}

-- ---- A file of words: the edition, the count, and the words of rows.
module _ (count : ℕ) (rest : List ℕ) (small : count < 2 ^ 64) where
  abbrev file : List ℕ
  file = as_bytes (result_edition ∷ count ∷ rest)

  pub words_length : length file ≡ 16 + 8 * length rest
  words_length = length-as_bytes (result_edition ∷ count ∷ rest) ∙ omega arith

  first_two : words 2 file ≡ result_edition ∷ count ∷ []
  first_two =
      ap (words 2) (as_bytes_append (result_edition ∷ count ∷ []) rest)
      ∙ words_as_bytes (result_edition ∷ count ∷ []) (as_bytes rest) (omega arith, (small, tt))

  edition_here : word_at file 0 ≡ result_edition
  unfolding words
  edition_here = word_whole file 0 (omega (arith, words_length)) ∙ ap (λ (ws : List ℕ). get_or ws 0 0) first_two

  pub count_here : row_count file ≡ count
  unfolding words
  count_here = word_whole file result_count_place (omega (arith, words_length)) ∙ ap (λ (ws : List ℕ). get_or ws 1 0) first_two

  edition_sound : edition_check file (edition_known file) ≡ sound
  edition_sound = sound_edition file (edition_known file) (omega (arith, words_length)) (eq-eqb (word_at file 0) result_edition edition_here)

  -- As many words as the count tells, or more.
  pub exactly : count ≤ most_results → length rest ≡ count * result_width → results_check file ≡ sound
  unfolding results_check
  exactly few size =
      sound_both (edition_check file (edition_known file)) (filled_check file result_count_place most_results result_width) edition_sound
      (sound_filled file result_count_place most_results result_width (omega (arith, words_length)) (omega (arith, count_here, few)) (omega (arith, words_length, count_here, size)))

  pub and_more : count ≤ most_results → count * result_width < length rest → results_check file ≡ fault BytesLeft (16 + 8 * (count * result_width))
  unfolding results_check
  and_more few more =
      let end : result_count_place + 8 + 8 * (row_count file * result_width) ≡ 16 + 8 * (count * result_width) = omega (arith, count_here) in
      ap₂ ◌⟫◌ edition_sound
      (left_behind file result_count_place most_results result_width (omega (arith, words_length)) (omega (arith, count_here, few)) (omega (arith, words_length, count_here, more))
      ∙ ap (λ (p : ℕ). fault BytesLeft p) end)

  rest_here : Below (2 ^ 64) rest → words_from file (result_place 0) ≡ rest
  rest_here below = words_after (result_edition ∷ count ∷ []) rest below

pub refused_file_is_25 : RefusedFileIs25
refused_file_is_25 number = subst (λ (c : Check). IsFault c 25 16) (sym (and_more 0 (number ∷ []) (omega arith) (omega arith) (omega arith))) (refl, refl)

-- ---- The words of rows.
row_words : (r : Row) → IsRow r → length (words_in r) ≡ result_width
row_words r is = omega (arith, is.nine)

abbrev rows_words : List Row → List ℕ
rows_words rs = all_words words_in rs

all_words_lem : (rs : List Row) → AreRows rs → length (rows_words rs) ≡ length rs * result_width
all_words_lem rs h = all_length words_in IsRow result_width row_words rs h

below_all : (rs : List Row) → AreRows rs → Below (2 ^ 64) (rows_words rs)
below_all rs h = all_below words_in IsRow (2 ^ 64) (λ r is. is.are_words) rs h

-- ---- Row k of a file, where the words of a row stand.
module _ (file : List ℕ) (k : ℕ) (r : Row) (is : IsRow r) (rest : List ℕ) (here : words_from file (result_place k) ≡ words_in r ++ rest) where
  whole : result_place k + 8 * result_width ≤ length file
  whole = omega (arith, length-words_from file (result_place k), ap length here, length-append (words_in r) rest, row_words r is)

  word_is : (n : ℕ) → n < result_width → word_on (row_at file k) n ≡ get_or (words_in r ++ rest) n 0
  unfolding row_at
  word_is n h =
      word_in_part file (result_place k) (8 * result_width) (8 * n) (omega arith) whole
      ∙ sym (word_of_words file (result_place k) n)
      ∙ ap (λ (ws : List ℕ). get_or ws n 0) here

  refusal_is : word_on (row_at file k) result_refusal ≡ r.refusal
  refusal_is = word_is result_refusal (omega arith)

  figure_is : (n j : ℕ) → j ≡ n → n < length r.figures → word_on (row_at file k) (result_figure + j) ≡ get_or r.figures n 0
  figure_is n j e h =
      let two : result_figure + j ≡ suc (suc n) = omega arith in
      word_is (result_figure + j) (omega (arith, is.nine))
      ∙ ap (λ (m : ℕ). get_or (words_in r ++ rest) m 0) two
      ∙ get_or-append r.figures rest 0 n h

  next_here : words_from file (result_place (suc k)) ≡ rest
  next_here =
      let next : result_place (suc k) ≡ result_place k + 8 * result_width = omega arith in
      ap (words_from file) next ∙ words_later file (result_place k) result_width ∙ ap (drop result_width) here ∙ drop_at (words_in r) rest result_width (row_words r is)

-- ---- What is told of two rows whose figures from the k-th on are these; and of two rows.
module _ (one other : List ℕ) {are : RowKind} (kind : kind_on one other ≡ are) where
  told_on : (k : ℕ) (vs ws : List ℕ) → length vs ≡ length ws →
      ((m j : ℕ) → j ≡ k + m → m < length vs → word_on one (result_figure + j) ≡ get_or vs m 0) →
      ((m j : ℕ) → j ≡ k + m → m < length ws → word_on other (result_figure + j) ≡ get_or ws m 0) →
      figures_told one other (k + length vs) ≡ figures_told one other k ++ figures_between are vs ws
  unfolding figures_told
  told_on k [] ws e p q = ap (figures_told one other) (add-zero k) ∙ sym (append-nil (figures_told one other k))
  told_on k (v ∷ vs) [] e p q = absurd (omega arith)
  told_on k (v ∷ vs) (w ∷ ws) e p q =
      let next : k + suc (length vs) ≡ suc k + length vs = omega arith in
      ap (figures_told one other) next
      ∙ told_on (suc k) vs ws (omega arith) (λ m j f h. p (suc m) j (omega arith) (omega arith)) (λ m j f h. q (suc m) j (omega arith) (omega arith))
      ∙ append_assoc (figures_told one other k) (figure_words (figure_on one other k)) (figures_between are vs ws)
      ∙ (λ i. figures_told one other k ++ (figure_words (figure_in (kind i) (p 0 k (omega arith) (omega arith) i) (q 0 k (omega arith) (omega arith) i)) ++ figures_between are vs ws))

module _ (left right : List ℕ) (k : ℕ) (l r : Row) (restL restR : List ℕ)
    (il : IsRow l) (ir : IsRow r)
    (hl : words_from left (result_place k) ≡ words_in l ++ restL) (hr : words_from right (result_place k) ≡ words_in r ++ restR) where
  abbrev one : List ℕ
  one = row_at left k

  abbrev other : List ℕ
  other = row_at right k

  are : kind_on one other ≡ row_kind_of l.refusal r.refusal
  are = ap₂ row_kind_of (refusal_is left k l il restL hl) (refusal_is right k r ir restR hr)

  row_between : row_told one other ≡ between l r
  unfolding figures_told
  row_between =
      let all : result_figures ≡ 0 + length l.figures = omega (arith, il.nine) in
      let figures =
      ap (figures_told one other) all
      ∙ told_on one other are 0 l.figures r.figures (il.nine ∙ sym ir.nine)
      (λ m j e h. figure_is left k l il restL hl m j (omega arith) h) (λ m j e h. figure_is right k r ir restR hr m j (omega arith) h)
      in
      λ i. row_kind_word (are i) ∷ figures i

-- What is told of the rows from row k on.
each : (left right : List ℕ) (k : ℕ) (ls rs : List Row) → AreRows ls → AreRows rs → length ls ≡ length rs →
    words_from left (result_place k) ≡ rows_words ls → words_from right (result_place k) ≡ rows_words rs →
    rows_told left right (k + length ls) ≡ rows_told left right k ++ all_between ls rs
unfolding rows_told
each left right k [] rs al ar e hl hr = ap (rows_told left right) (add-zero k) ∙ sym (append-nil (rows_told left right k))
each left right k (l ∷ ls) [] al ar e hl hr = absurd (omega arith)
each left right k (l ∷ ls) (r ∷ rs) al ar e hl hr =
    let next : k + suc (length ls) ≡ suc k + length ls = omega arith in
    ap (rows_told left right) next
    ∙ each left right (suc k) ls rs al.1 ar.1 (omega arith) (next_here left k l al.0 (rows_words ls) hl) (next_here right k r ar.0 (rows_words rs) hr)
    ∙ append_assoc (rows_told left right k) (row_told (row_at left k) (row_at right k)) (all_between ls rs)
    ∙ ap (λ (ws : List ℕ). rows_told left right k ++ (ws ++ all_between ls rs)) (row_between left right k l r (rows_words ls) (rows_words rs) al.0 ar.0 hl hr)

-- What is told of each figure, by the rows.
figures_of_lem : (left right : List ℕ) (k : ℕ) (ls rs : List Row) → AreRows ls → AreRows rs →
    words_from left (result_place k) ≡ rows_words ls → words_from right (result_place k) ≡ rows_words rs → FiguresOf left right k ls rs
figures_of_lem left right k [] rs al ar hl hr = tt
figures_of_lem left right k (l ∷ ls) [] al ar hl hr = tt
figures_of_lem left right k (l ∷ ls) (r ∷ rs) al ar hl hr = (
  λ j h i.
      figure_in (are left right k l r (rows_words ls) (rows_words rs) al.0 ar.0 hl hr i)
      (figure_is left k l al.0 (rows_words ls) hl j j refl (omega (arith, al.0.nine)) i)
      (figure_is right k r ar.0 (rows_words rs) hr j j refl (omega (arith, ar.0.nine)) i),
  figures_of_lem left right (suc k) ls rs al.1 ar.1 (next_here left k l al.0 (rows_words ls) hl) (next_here right k r ar.0 (rows_words rs) hr),
)

pub compares_rows : ComparesRows
unfolding rows_told
compares_rows ls rs al ar same few run fits =
    let left = file_of ls in
    let right = file_of rs in
    let n = length ls in
    let sl : n < 2 ^ 64 = omega arith in
    let sr : length rs < 2 ^ 64 = omega arith in
    let cl : row_count left ≡ n = count_here n (rows_words ls) sl in
    let cr : row_count right ≡ length rs = count_here (length rs) (rows_words rs) sr in
    let soundL = exactly n (rows_words ls) sl few (all_words_lem ls al) in
    let soundR = exactly (length rs) (rows_words rs) sr (omega arith) (all_words_lem rs ar) in
    let restL = rest_here n (rows_words ls) sl (below_all ls al) in
    let restR = rest_here (length rs) (rows_words rs) sr (below_all rs ar) in
    let e = (refuses_in_order left right (length run)).else_compared soundL soundR (cl ∙ same ∙ sym cr) (omega (arith, cl)) in
    let told : rows_told left right n ≡ all_between ls rs = ap (rows_told left right) (sym (zero-add n)) ∙ each left right 0 ls rs al ar same restL restR in
    let width : n * told_width ≡ 19 * n = omega arith in
    record {
      answer = e ∙ (λ i. Ok (record { count = cl i; largest = largest_of left right (cl i) }));
      in_figures = figures_of_lem left right 0 ls rs al ar restL restR;
      in_run =
          (keeps_or_tells left right run).told _ e
          ∙ ap (λ (m : ℕ). rows_told left right m ++ drop (m * told_width) run) cl
          ∙ ap₂ (λ (l : List ℕ) (m : ℕ). l ++ drop m run) told width;
    }
