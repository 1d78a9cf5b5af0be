-- Judged first; the room changes only where nothing is refused.
use mathlib.Core.Path.{sym, ◌∙◌}
use lib.ListN.{length}
use Rattle.files_checks.proofs.CheckLaws.{answered, unanswered}
use Rattle.files.specs.Writer.{runs_of, write_check, room_of}
use Rattle.files.proofs.JudgeLaws.{fits}
use Rattle.files.proofs.write_file.Goals as goal

pub returns-in_err-shape-clause-room : goal.returns-in_err-shape-clause-room
unfolding room_of
returns-in_err-shape-clause-room c =
    let a = c.args in
    rw (unanswered (write_check a.edition (runs_of a.centres.now a.states.now a.requests.now) (length a.room.now)) _ (sym c.judge.ensures ∙ c.in_err-shape.was))

pub put_file-requires : goal.put_file-requires
put_file-requires c =
    let a = c.args in
    let runs = runs_of a.centres.now a.states.now a.requests.now in
    let judged = answered (write_check a.edition runs (length a.room.now)) _ (sym c.judge.ensures ∙ c.in_ok-shape.was) in
    rw judged.1 at (fits a.edition runs (length a.room.now) judged.0)
