use Rattle.std.specs.Prelude.{ℕ, suc, ◌≡◌, ◌+◌, ◌≤◌, List, length}
use Rattle.std.proofs.Common.{sym, ap, ◌∙◌, arith}
use Rattle.files_words.specs.Bytes.{as_bytes}
use Rattle.files_words.proofs.PutLaws.{put_nothing}
use Rattle.files_formats.specs.declared.shapes.Shape.{Shape}
use Rattle.files_formats.specs.Rows.{result_place}
use Rattle.files_results.specs.Results.{rows_of, with_row, with_rows}
use Rattle.files_results.proofs.Rows.{row_after}
use Rattle.files_results.proofs.put_rows.Goals as goal

module _ (file : List ℕ) (shape : Shape) (room : List ℕ) where
  start : result_place 0 ≤ length room → room ≡ with_rows file shape 0 room
  unfolding rows_of as_bytes
  start h = sym (put_nothing room (result_place 0) h)

  next : (k : ℕ) → result_place (suc k) ≤ length room → {now after : List ℕ} → now ≡ with_rows file shape k room → after ≡ with_row file shape k now → after ≡ with_rows file shape (k + 1) room
  next k h en ea =
      let more : suc k ≡ k + 1 = omega arith in
      ea ∙ ap (with_row file shape k) en ∙ row_after file shape room k h ∙ ap (λ (n : ℕ). with_rows file shape n room) more

pub loop-k-init : goal.loop-k-init
loop-k-init c = start c.args.file.bytes.now c.args.file.shape c.args.room.now (omega (arith, c.requires))

pub loop-k-preserved : goal.loop-k-preserved
loop-k-preserved c =
    next c.args.file.bytes.now c.args.file.shape c.args.room.now c.loop-k.k (omega (arith, c.requires, c.loop-k-test.true)) c.loop-k.invariant c.put_row.ensures
