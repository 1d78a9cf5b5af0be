-- The three words fit, or nothing is written.
use Rattle.std.proofs.Common.{sym, ◌∙◌}
use Rattle.std.proofs.lemmas.Result.{err_from_is_err_and}
use Rattle.bits.specs.Refusal.{number_of}
use Rattle.files_words.specs.Bytes.{as_bytes}
use Rattle.files_words.proofs.WordLaws.{length-as_bytes}
use Rattle.files_results.specs.Results.{refused_file}
use Rattle.files_results.proofs.Rows.{too_short, long_enough}
use Rattle.files_results.proofs.write_refused.Goals as goal

pub returns-in_err-check_room : goal.returns-in_err-check_room
returns-in_err-check_room c =
    let file = refused_file (number_of c.args.refusal) in
    let p = err_from_is_err_and c.from_residual.result c.from_residual.ensures.1 in
    let t = too_short (as_bytes file) c.args.room.now (length-as_bytes file) (sym c.check_room.ensures ∙ c.in_err-check_room.was) in
    record { outcome = rw (p.1, p.2) t.0; room = t.1 }

pub returns-clause-outcome : goal.returns-clause-outcome
returns-clause-outcome c =
    let file = refused_file (number_of c.args.refusal) in
    (long_enough (as_bytes file) c.args.room.now (length-as_bytes file) (sym c.check_room.ensures ∙ c.in_ok-check_room.was)).0
