-- Each arm is the definition at what the reader answered.
use Rattle.std.specs.Prelude.{ℕ, ◌≡◌, Result, List}
use Rattle.std.proofs.Common.{sym, ◌∙◌}
use Rattle.files_words.specs.Bytes.{as_bytes, put}
use Rattle.files_checks.specs.declared.Fault.{Fault}
use Rattle.files_formats.specs.declared.shapes.Shape.{Shape}
use Rattle.files_reader.specs.Reader.{reading_of}
use Rattle.files_results.specs.Results.{result_by, result_file, outcome_in, outcome_of}
use Rattle.files_results.proofs.write_results.Goals as goal

by_reading : (file room : List ℕ) {r : Result Shape Fault} → r ≡ reading_of file → {o : Result ℕ Fault} {after : List ℕ}
    → (o ≡ outcome_in (as_bytes (result_by file r)) room) × (after ≡ put room 0 (as_bytes (result_by file r))) → (o ≡ outcome_of file room) × (after ≡ put room 0 (result_file file))
unfolding result_file
by_reading file room e w = (w.0 ∙ (λ i. outcome_in (as_bytes (result_by file (e i))) room), w.1 ∙ (λ i. put room 0 (as_bytes (result_by file (e i)))))

pub returns-in-Ok : goal.returns-in-Ok
returns-in-Ok c =
    let w = c.write_accepted.ensures in
    let r = by_reading _ _ (sym c.in-Ok.is ∙ c.read_file.ensures) (w.outcome, w.room) in
    record { outcome = r.0; room = r.1 }

pub returns-in-Err : goal.returns-in-Err
returns-in-Err c =
    let w = c.write_refused.ensures in
    let r = by_reading _ _ (sym c.in-Err.is ∙ c.read_file.ensures) (w.outcome, w.room) in
    record { outcome = r.0; room = r.1 }
