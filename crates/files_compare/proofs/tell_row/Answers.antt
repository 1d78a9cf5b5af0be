use Rattle.std.specs.Prelude.{ℕ, ◌≡◌, refl, suc, ◌+◌, ◌*◌, ◌≤◌, ◌<◌, Option, List, [], ◌∷◌, ◌++◌, length, drop}
use Rattle.std.proofs.Common.{sym, ap, ◌∙◌, arith}
use lib.ListN.{get_or, set, length-set, drop_of_length-le}
use mathlib.Core.List.{append-nil}
use Rattle.files_words.specs.Bytes.{put}
use Rattle.files_words.proofs.PutLaws.{put_byte, put_next, put_fits, length-put}
use Rattle.files_formats.specs.Rows.{result_figure, result_figures, told_width}
use Rattle.files_differences.specs.declared.told.RowKind.{RowKind}
use Rattle.files_differences.specs.declared.told.Figure.{Figure}
use Rattle.files_differences.specs.declared.told.Figure.TheVariants as figure
use Rattle.files_differences.specs.declared.told.Largest.{Largest}
use Rattle.files_differences.specs.Told.{row_kind_of, row_kind_word, figure_in, figure_words, largest_with}
use Rattle.files_compare.specs.Compare.{word_on, kind_on, figure_on, figures_told, row_told, largest_in_row}
use Rattle.files_compare.proofs.Steps.{figure_length, figures_length, row_length}
use Rattle.files_compare.proofs.tell_row.Invariants.{told_to}
use Rattle.files_compare.proofs.tell_row.Goals as goal

-- What is told of a figure is two words.
two : (f : Figure) → figure_words f ≡ get_or (figure_words f) 0 0 ∷ get_or (figure_words f) 1 0 ∷ []
two (figure.Distance d) = refl
two figure.EqualBits = refl
two figure.UnequalBits = refl
two figure.Untold = refl

stored : (run : List ℕ) (at a b : ℕ) → at + 2 ≤ length run → set (set run at a) (at + 1) b ≡ put run at (a ∷ b ∷ [])
stored run at a b h =
    let first : set run at a ≡ put run at (a ∷ []) = put_byte run at a (omega arith) in
    rw (put_byte (set run at a) (at + 1) b (omega (arith, length-set run at a)), first) (put_next run (a ∷ []) (b ∷ []) at (at + 1) refl (omega arith))

module _ (l r told : List ℕ) (wide : length told ≡ told_width) where
  start : {kind : RowKind} {w : ℕ} → kind ≡ kind_on l r → w ≡ row_kind_word kind → set told 0 w ≡ told_to l r told 0
  unfolding figures_told
  start {w} ek ew = put_byte told 0 w (omega (arith, wide)) ∙ rw (ew, ek)

  next : (j : ℕ) → j < result_figures → {kind : RowKind} → kind ≡ kind_on l r → {v w : ℕ} → v ≡ word_on l (result_figure + j) → w ≡ word_on r (result_figure + j) →
      {f : Figure} → f ≡ figure_in kind v w → {ws : List ℕ} → ws ≡ figure_words f → {now : List ℕ} → now ≡ told_to l r told j →
      set (set now (1 + 2 * j) (get_or ws 0 0)) (2 + 2 * j) (get_or ws 1 0) ≡ told_to l r told (j + 1)
  unfolding figures_told
  next j h ek ev ew ef {ws} es {now} en =
      let at = 1 + 2 * j in
      let so_far = row_kind_word (kind_on l r) ∷ figures_told l r j in
      let figure = figure_on l r j in
      let words : ws ≡ figure_words figure = es ∙ ap figure_words (ef ∙ (λ i. figure_in (ek i) (ev i) (ew i))) in
      let count = figures_length l r j in
      let long : length now ≡ told_width = ap length en ∙ length-put told so_far 0 (omega (arith, count, wide)) ∙ wide in
      let second : 2 + 2 * j ≡ at + 1 = omega arith in
      let more : suc j ≡ j + 1 = omega arith in
      ap (λ (n : ℕ). set (set now at (get_or ws 0 0)) n (get_or ws 1 0)) second
      ∙ stored now at (get_or ws 0 0) (get_or ws 1 0) (omega (arith, long))
      ∙ ap (λ (us : List ℕ). put now at (get_or us 0 0 ∷ get_or us 1 0 ∷ [])) words
      ∙ ap (put now at) (sym (two figure))
      ∙ ap (λ (ts : List ℕ). put ts at (figure_words figure)) en
      ∙ put_next told so_far (figure_words figure) 0 at (omega (arith, count)) (omega (arith, count, wide, figure_length figure))
      ∙ ap (told_to l r told) more

  all : {now : List ℕ} {j : ℕ} → now ≡ told_to l r told j → result_figures ≤ j → j ≤ result_figures → now ≡ row_told l r
  all {now} {j} en low high =
      let last : j ≡ result_figures = omega arith in
      let long = row_length l r in
      let none : drop (0 + length (row_told l r)) told ≡ [] = drop_of_length-le told {i = 0 + length (row_told l r)} (omega (arith, long, wide)) in
      en
      ∙ ap (told_to l r told) last
      ∙ put_fits told (row_told l r) 0 (omega (arith, long, wide))
      ∙ ap (λ (rest : List ℕ). row_told l r ++ rest) none
      ∙ append-nil (row_told l r)

-- The largest with a figure more.
next_largest : (l r : List ℕ) (k j : ℕ) {kind : RowKind} → kind ≡ kind_on l r → {v w : ℕ} → v ≡ word_on l (result_figure + j) → w ≡ word_on r (result_figure + j) →
    {f : Figure} → f ≡ figure_in kind v w → (known : Option Largest) {x y : Option Largest} → x ≡ largest_in_row l r known k j → y ≡ largest_with x k (result_figure + j) f →
    y ≡ largest_in_row l r known k (j + 1)
unfolding largest_in_row
next_largest l r k j ek ev ew ef known ex ey =
    let more : suc j ≡ j + 1 = omega arith in
    ey ∙ (λ i. largest_with (ex i) k (result_figure + j) ((ef ∙ (λ i. figure_in (ek i) (ev i) (ew i))) i)) ∙ ap (largest_in_row l r known k) more

pub loop-j-init : goal.loop-j-init
unfolding largest_in_row
loop-j-init c =
    let kind = c.row_kind_of-kind.ensures ∙ (λ i. row_kind_of (c.word_at.ensures i) (c.word_at-2.ensures i)) in
    record { told = start c.args.l.now c.args.r.now c.args.told.now c.requires kind c.row_kind_word.ensures; largest = refl }

pub loop-j-preserved : goal.loop-j-preserved
loop-j-preserved c =
    let a = c.args in
    let j = c.loop-j.j in
    let kind = c.row_kind_of-kind.ensures ∙ (λ i. row_kind_of (c.word_at.ensures i) (c.word_at-2.ensures i)) in
    let v = c.word_at-in-loop-j.ensures in
    let w = c.word_at-in-loop-j-2.ensures in
    record {
      told = next a.l.now a.r.now a.told.now c.requires j c.loop-j-test.true kind v w c.figure_in-figure.ensures c.figure_words.ensures c.loop-j.invariant.told;
      largest = next_largest a.l.now a.r.now a.k j kind v w c.figure_in-figure.ensures a.known c.loop-j.invariant.largest c.largest_with-largest.ensures;
    }

pub returns-clause-told : goal.returns-clause-told
returns-clause-told c = all c.args.l.now c.args.r.now c.args.told.now c.requires c.loop-j.invariant.told c.loop-j-test.false c.loop-j.auto.j-end
