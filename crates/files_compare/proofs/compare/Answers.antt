-- A file is refused, the counts differ, the run is too short, or the rows are told.
use Rattle.std.specs.Prelude.{ℕ, ◌≡◌, refl, ◌+◌, ◌*◌, ◌≤◌, Option, Some, None, Ok, Err, List, length, eqb, leb}
use Rattle.std.proofs.Common.{sym, ap, ◌∙◌, arith}
use Rattle.std.proofs.lemmas.Result.{err_from_is_err_and}
use borrow.Author.Tests.{eqb-true, leb-true}
use Rattle.bits.specs.declared.refusal.Refusal.TheVariants.{CountsDiffer, RoomTooShort}
use Rattle.files_words.specs.Bytes.{put}
use Rattle.files_words.proofs.PutLaws.{put_fits}
use Rattle.files_checks.specs.Checks.{Check, sound, need}
use Rattle.files_checks.proofs.CheckLaws.{needed}
use Rattle.files_formats.specs.Rows.{most_results, result_place, told_width}
use Rattle.files_differences.specs.declared.told.Largest.{Largest}
use Rattle.files_differences.specs.declared.told.Side.TheVariants as side
use Rattle.files_differences.specs.declared.told.Refused.{Refused}
use Rattle.files_compare.specs.Compare.{results_check, row_count, rows_told, largest_of, words_needed, comparison_of, run_after}
use Rattle.files_compare.proofs.Steps.{rows_length}
use Rattle.files_compare.proofs.Orders.{sound_so, stops, faulty, passes, by, refuses_in_order, keeps_or_tells}
use Rattle.files_compare.proofs.compare.Goals as goal

-- Under a refusal the run stays.
stays : (left right run : List ℕ) {r : Refused} → Err r ≡ comparison_of left right (length run) → run ≡ run_after left right run
stays left right run e = sym ((keeps_or_tells left right run).kept _ (sym e))

module _ (left right run : List ℕ) (l : results_check left ≡ sound) (r : results_check right ≡ sound) where
  -- What is answered of two sound files, by what the last two tests came to.
  module _ {v w : ℕ} (ev : v ≡ row_count left) (ew : w ≡ row_count right) where
    same : {check : Check} → need (eqb v w) CountsDiffer 0 ≡ check → need (eqb (row_count left) (row_count right)) CountsDiffer 0 ≡ check
    same e = sym (λ i. need (eqb (ev i) (ew i)) CountsDiffer 0) ∙ e

    enough : {check : Check} → need (leb (v * told_width) (length run)) RoomTooShort (v * told_width) ≡ check
        → need (leb (words_needed left) (length run)) RoomTooShort (words_needed left) ≡ check
    enough e = sym (λ i. need (leb (ev i * told_width) (length run)) RoomTooShort (ev i * told_width)) ∙ e

    told : v ≡ w → v * told_width ≤ length run → {x : Option Largest} → x ≡ largest_of left right v → {after : List ℕ} → after ≡ put run 0 (rows_told left right v) →
        (Ok (record { count = v; largest = x }) ≡ comparison_of left right (length run)) × (after ≡ run_after left right run)
    told h s el ea =
        let e = (refuses_in_order left right (length run)).else_compared l r (sym ev ∙ h ∙ ew) (omega (arith, ev)) in
        let n = row_count left in
        let words = rows_length left right n in
        let end : 0 + length (rows_told left right n) ≡ n * told_width = omega (arith, words) in (
          (λ i. Ok (record { count = ev i; largest = (el ∙ ap (largest_of left right) ev) i })) ∙ sym e,
          rw (ea, ev, put_fits run (rows_told left right n) 0 (omega (arith, words, ev)), end) (sym ((keeps_or_tells left right run).told _ e)),
        )

few : (left : List ℕ) → results_check left ≡ sound → {v : ℕ} → v ≡ row_count left → v ≤ most_results
few left passed ev = omega (arith, ev, (sound_so left passed).few)

-- The rows that a sound file counts are there.
there : (file : List ℕ) → results_check file ≡ sound → {v : ℕ} → v ≡ row_count file → result_place v ≤ length file
there file passed ev = omega (arith, ev, (sound_so file passed).size)

pub returns-in_err-check_side : goal.returns-in_err-check_side
returns-in_err-check_side c =
    let a = c.args in
    let p = err_from_is_err_and c.from_residual.result c.from_residual.ensures.1 in
    let e =
    stops (Some side.Left) (results_check a.left.now) _ (sym c.check_side.ensures ∙ c.in_err-check_side.was)
    ∙ sym (by a.left.now a.right.now (length a.run.now) refl refl refl refl)
    in
    record { comparison = rw (p.1, p.2) e; run = stays a.left.now a.right.now a.run.now e }

pub returns-in_err-check_side-2 : goal.returns-in_err-check_side-2
returns-in_err-check_side-2 c =
    let a = c.args in
    let l = passes (Some side.Left) _ (sym c.check_side.ensures ∙ c.in_ok-check_side.was) in
    let from = c.from_residual-in_err-check_side-2 in
    let p = err_from_is_err_and from.result from.ensures.1 in
    let e =
    stops (Some side.Right) (results_check a.right.now) _ (sym c.check_side-2.ensures ∙ c.in_err-check_side-2.was)
    ∙ sym (by a.left.now a.right.now (length a.run.now) l refl refl refl)
    in
    record { comparison = rw (p.1, p.2) e; run = stays a.left.now a.right.now a.run.now e }

pub returns-in_err-need : goal.returns-in_err-need
returns-in_err-need c =
    let a = c.args in
    let l = passes (Some side.Left) _ (sym c.check_side.ensures ∙ c.in_ok-check_side.was) in
    let r = passes (Some side.Right) _ (sym c.check_side-2.ensures ∙ c.in_ok-check_side-2.was) in
    let from = c.from_residual-in_err-need in
    let p = err_from_is_err_and from.result from.ensures.1 in
    let fault = same a.left.now a.right.now a.run.now l r c.word_at-count.ensures c.word_at.ensures (sym c.need.ensures ∙ c.in_err-need.was) in
    let e = faulty None _ fault ∙ sym (by a.left.now a.right.now (length a.run.now) l r refl refl) in
    record { comparison = rw (p.1, p.2) e; run = stays a.left.now a.right.now a.run.now e }

pub overflow_mul-words : goal.overflow_mul-words
overflow_mul-words c =
    let l = passes (Some side.Left) (results_check c.args.left.now) (sym c.check_side.ensures ∙ c.in_ok-check_side.was) in
    omega (arith, few c.args.left.now l c.word_at-count.ensures)

pub returns-in_err-need-2 : goal.returns-in_err-need-2
returns-in_err-need-2 c =
    let a = c.args in
    let l = passes (Some side.Left) _ (sym c.check_side.ensures ∙ c.in_ok-check_side.was) in
    let r = passes (Some side.Right) _ (sym c.check_side-2.ensures ∙ c.in_ok-check_side-2.was) in
    let from = c.from_residual-in_err-need-2 in
    let p = err_from_is_err_and from.result from.ensures.1 in
    let counts = same a.left.now a.right.now a.run.now l r c.word_at-count.ensures c.word_at.ensures (sym c.need.ensures ∙ c.in_ok-need.was) in
    let fault = enough a.left.now a.right.now a.run.now l r c.word_at-count.ensures c.word_at.ensures (sym c.need-2.ensures ∙ c.in_err-need-2.was) in
    let e = faulty None _ fault ∙ sym (by a.left.now a.right.now (length a.run.now) l r (needed _ CountsDiffer 0 counts) refl) in
    record { comparison = rw (p.1, p.2) e; run = stays a.left.now a.right.now a.run.now e }

pub compare_rows-largest-requires : goal.compare_rows-largest-requires
compare_rows-largest-requires c =
    let l = passes (Some side.Left) _ (sym c.check_side.ensures ∙ c.in_ok-check_side.was) in
    let r = passes (Some side.Right) _ (sym c.check_side-2.ensures ∙ c.in_ok-check_side-2.was) in
    let counts = eqb-true _ _ (needed _ CountsDiffer 0 (sym c.need.ensures ∙ c.in_ok-need.was)) in
    let room = leb-true _ _ (needed _ RoomTooShort _ (sym c.need-2.ensures ∙ c.in_ok-need-2.was)) in
    (room, there _ l c.word_at-count.ensures, there _ r (counts ∙ c.word_at.ensures))

pub returns : goal.returns
returns c =
    let a = c.args in
    let l = passes (Some side.Left) _ (sym c.check_side.ensures ∙ c.in_ok-check_side.was) in
    let r = passes (Some side.Right) _ (sym c.check_side-2.ensures ∙ c.in_ok-check_side-2.was) in
    let counts = eqb-true _ _ (needed _ CountsDiffer 0 (sym c.need.ensures ∙ c.in_ok-need.was)) in
    let room = leb-true _ _ (needed _ RoomTooShort _ (sym c.need-2.ensures ∙ c.in_ok-need-2.was)) in
    let rows = c.compare_rows-largest.ensures in
    let t = told a.left.now a.right.now a.run.now l r c.word_at-count.ensures c.word_at.ensures counts room rows.largest rows.run in
    record { comparison = t.0; run = t.1 }
