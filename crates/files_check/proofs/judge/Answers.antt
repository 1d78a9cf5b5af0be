-- The file is refused, the run is too short, or the verdicts stand in it.
use Rattle.std.specs.Prelude.{ℕ, ◌≡◌, refl, Ok, Err, List, length, leb}
use Rattle.std.proofs.Common.{sym, ap, ◌∙◌, arith}
use Rattle.std.proofs.lemmas.Result.{err_from_is_err_and}
use borrow.Author.Tests.{leb-true}
use Rattle.bits.specs.declared.refusal.Refusal.TheVariants.{RoomTooShort}
use Rattle.files_checks.specs.declared.Fault.{Fault}
use Rattle.files_checks.specs.Checks.{Check, sound, need, ◌⟫◌}
use Rattle.files_checks.proofs.CheckLaws.{needed}
use Rattle.files_check.specs.RowsFile.{rows_in, rows_check, rows_fit, judged_of, with_verdicts, unless_fault, verdicts_after}
use Rattle.files_check.proofs.Sound.{sound_so}
use Rattle.files_check.proofs.judge.Goals as goal

module _ (file run : List ℕ) where
  -- By what was found of the file, and then of the run.
  fit : {rows : ℕ} {c d : Check} → rows_check file ≡ c → rows ≡ rows_in file → need (leb rows (length run)) RoomTooShort rows ≡ d → rows_fit file (length run) ≡ (c ⟫ d)
  fit ec er ed = λ i. ec i ⟫ (sym (λ j. need (leb (er j) (length run)) RoomTooShort (er j)) ∙ ed) i

  refused : {f : Fault} → rows_fit file (length run) ≡ Err f → (Err f ≡ judged_of file (length run)) × (run ≡ verdicts_after file run)
  unfolding judged_of verdicts_after
  refused e = (ap (λ (c : Check). c ⟫ Ok (rows_in file)) (sym e), ap (λ (c : Check). unless_fault c run (with_verdicts file (rows_in file) run)) (sym e))

  judged : rows_fit file (length run) ≡ sound → {rows : ℕ} → rows ≡ rows_in file → {after : List ℕ} → after ≡ with_verdicts file rows run →
      (Ok rows ≡ judged_of file (length run)) × (after ≡ verdicts_after file run)
  unfolding judged_of verdicts_after
  judged e er ea = (
    (λ i. sym e i ⟫ Ok (er i)),
    ea ∙ (λ i. unless_fault (sym e i) run (with_verdicts file (er i) run)),
  )

pub returns-in_err-check_rows : goal.returns-in_err-check_rows
returns-in_err-check_rows c =
    let p = err_from_is_err_and c.from_residual.result c.from_residual.ensures.1 in
    let found = sym c.check_rows.ensures ∙ c.in_err-check_rows.was in
    let r = refused c.args.file.now c.args.verdicts.now (fit c.args.file.now c.args.verdicts.now found refl refl) in
    record { judged = rw (p.1, p.2) r.0; verdicts = r.1 }

pub returns-in_err-need : goal.returns-in_err-need
returns-in_err-need c =
    let from = c.from_residual-in_err-need in
    let p = err_from_is_err_and from.result from.ensures.1 in
    let passed = sym c.check_rows.ensures ∙ c.in_ok-check_rows.was in
    let short = sym c.need.ensures ∙ c.in_err-need.was in
    let r = refused c.args.file.now c.args.verdicts.now (fit c.args.file.now c.args.verdicts.now passed c.word_at-rows.ensures short) in
    record { judged = rw (p.1, p.2) r.0; verdicts = r.1 }

pub put_verdicts-requires : goal.put_verdicts-requires
put_verdicts-requires c =
    let passed = sym c.check_rows.ensures ∙ c.in_ok-check_rows.was in
    let room = needed _ RoomTooShort _ (sym c.need.ensures ∙ c.in_ok-need.was) in
    (omega (arith, c.word_at-rows.ensures, (sound_so c.args.file.now passed).size), leb-true _ _ room)

pub returns : goal.returns
returns c =
    let passed = sym c.check_rows.ensures ∙ c.in_ok-check_rows.was in
    let room = sym c.need.ensures ∙ c.in_ok-need.was in
    let file = c.args.file.now in
    let run = c.args.verdicts.now in
    let r = judged file run (fit file run passed c.word_at-rows.ensures room) c.word_at-rows.ensures c.put_verdicts.ensures in
    record { judged = r.0; verdicts = r.1 }
