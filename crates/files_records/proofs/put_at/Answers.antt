-- The record is copied to a part of the run.
use native.Mathlib.Omega.{arith}
use Prim.Native.Nat.{◌*◌}
use Rattle.files_records.proofs.PartLaws.{part_put}
use Rattle.files_records.proofs.put_at.Goals as goal

pub returns : goal.returns
returns c =
    let a = c.args in
    part_put a.run.now a.words.now _ (a.i * a.w) a.w c.requires.0 (omega (arith, c.requires.1)) c.copy_words.ensures
