-- By whether there is room.
use native.Mathlib.Omega.{arith}
use mathlib.Core.Path.{sym}
use Rattle.files_words.specs.Bytes.{as_bytes}
use Rattle.files_words.proofs.WordLaws.{length-as_bytes}
use Rattle.files_words.proofs.PutLaws.{put_outside}
use Rattle.files_words.proofs.put_words.Goals as goal

pub returns-in_default : goal.returns-in_default
returns-in_default c =
    let a = c.args in
    let h = c.in_default.ensures in
    sym (put_outside a.room.now (as_bytes a.run.now) a.place (omega (arith, h)))

pub returns-else-run-space : goal.returns-else-run-space
returns-else-run-space c =
    let a = c.args in
    let h = c.in-Some.ensures in
    sym (put_outside a.room.now (as_bytes a.run.now) a.place (omega (arith, h, length-as_bytes a.run.now)))
