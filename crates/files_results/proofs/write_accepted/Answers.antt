-- The head and the rows fit, or nothing is written.
use Rattle.std.specs.Prelude.{◌≤◌, length}
use Rattle.std.proofs.Common.{sym, ◌∙◌, arith}
use Rattle.std.proofs.lemmas.Result.{err_from_is_err_and}
use Rattle.files_words.specs.Bytes.{as_bytes}
use Rattle.files_results.proofs.Rows.{result_length, all_rows, too_short, long_enough}
use Rattle.files_formats.specs.Rows.{result_place}
use Rattle.files_results.specs.Results.{sections_words}
use Rattle.files_results.proofs.write_accepted.Goals as goal

pub returns-in_err-check_room : goal.returns-in_err-check_room
returns-in_err-check_room c =
    let f = c.args.file in
    -- the size that was worked out is the result file's
    let sized = result_length f.bytes.now f.shape ∙ sym c.row_place-size.ensures in
    let p = err_from_is_err_and c.from_residual.result c.from_residual.ensures.1 in
    let t = too_short (as_bytes (sections_words f.bytes.now f.shape)) c.args.room.now sized (sym c.check_room.ensures ∙ c.in_err-check_room.was) in
    record { outcome = rw (p.1, p.2) t.0; room = t.1 }

pub returns : goal.returns
returns c =
    let f = c.args.file in
    let room = c.args.room.now in
    let sized = result_length f.bytes.now f.shape ∙ sym c.row_place-size.ensures in
    let fits = long_enough (as_bytes (sections_words f.bytes.now f.shape)) room sized (sym c.check_room.ensures ∙ c.in_ok-check_room.was) in
    let long : result_place f.shape.requests ≤ length room = omega (arith, fits.1, c.row_place-size.ensures) in
    record { outcome = fits.0; room = rw (c.put_rows.ensures, c.put_words.ensures) (all_rows f.bytes.now f.shape room long) }
