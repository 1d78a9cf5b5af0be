use Rattle.std.specs.Prelude.{ℕ, ◌≡◌, suc, ◌+◌, ◌-◌, ◌*◌, ◌≤◌, Option, None, List, length}
use Rattle.std.proofs.Common.{sym, ap, ◌∙◌, arith}
use borrow.Rule.Slice.PartMut.{put_mid, mid_of, mid_len}
use Rattle.bits.proofs.RunLaws.{copied_all}
use Rattle.files_words.specs.Bytes.{put}
use Rattle.files_words.proofs.PutLaws.{put_nothing}
use Rattle.files_records.proofs.PartLaws.{part_put}
use Rattle.files_formats.specs.Rows.{result_figures, told_width}
use Rattle.files_differences.specs.declared.told.Largest.{Largest}
use Rattle.files_compare.specs.Compare.{row_told, row_at, rows_told, largest_in_row, largest_of}
use Rattle.files_compare.proofs.Steps.{row_length, next_row}
use Rattle.files_compare.proofs.compare_rows.Goals as goal

-- A part of a run with words in its place.
part : (run words : List ℕ) (at n : ℕ) → length words ≡ n → at + n ≤ length run → put_mid at (at + n - at) run words ≡ put run at words
part run words at n l h = part_put run words words at n l h (sym (copied_all words (mid_of at (at + n - at) run) (mid_len at (at + n) run h ∙ omega (arith, l))))

module _ (left right run : List ℕ) where
  start : (run ≡ put run 0 (rows_told left right 0)) × (None ≡ largest_of left right 0)
  unfolding rows_told largest_of
  start = (sym (put_nothing run 0 (omega arith)), λ i. None)

  next : (k : ℕ) → suc k * told_width ≤ length run → {l r : List ℕ} → l ≡ row_at left k → r ≡ row_at right k →
      {now : List ℕ} → now ≡ put run 0 (rows_told left right k) → length now ≡ length run → {told : List ℕ} → told ≡ row_told l r →
      {x : Option Largest} → x ≡ largest_of left right k → {y : Option Largest} → y ≡ largest_in_row l r x k result_figures →
      let at = k * told_width in
      (put_mid at (at + told_width - at) now told ≡ put run 0 (rows_told left right (k + 1))) × (y ≡ largest_of left right (k + 1))
  unfolding largest_of
  next k fits {l} {r} el er {now} en long {told} et ex ey =
      let at = k * told_width in
      let more : suc k ≡ k + 1 = omega arith in
      let width : length told ≡ told_width = ap length et ∙ row_length l r in (
        part now told at told_width width (omega (arith, long))
            ∙ (λ i. put (en i) at ((et ∙ (λ j. row_told (el j) (er j))) i))
            ∙ next_row left right run k fits
            ∙ ap (λ (n : ℕ). put run 0 (rows_told left right n)) more,
        ey ∙ (λ i. largest_in_row (el i) (er i) (ex i) k result_figures) ∙ ap (largest_of left right) more,
      )

pub loop-k-init : goal.loop-k-init
loop-k-init c = let s = start c.args.left.now c.args.right.now c.args.run.now in record { run = s.0; largest = s.1 }

pub loop-k-preserved : goal.loop-k-preserved
loop-k-preserved c =
    let a = c.args in
    let row = c.tell_row-largest.ensures in
    let n =
    next a.left.now a.right.now a.run.now c.loop-k.k (omega (arith, c.requires.0, c.loop-k-test.true)) c.row_at.ensures c.row_at-in-loop-k.ensures
    c.loop-k.invariant.run c.loop-k.auto.run row.told c.loop-k.invariant.largest row.largest
    in record { run = n.0; largest = n.1 }
