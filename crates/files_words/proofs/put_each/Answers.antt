use native.Mathlib.Omega.{arith}
use mathlib.Core.Path.{sym, ap, ◌∙◌}
use mathlib.Core.List.{List}
use Prim.Native.Nat.{ℕ, ◌+◌, ◌*◌}
use lib.ListN.{get_or}
use Rattle.files_words.specs.Bytes.{bytes_of, as_bytes, put}
use Rattle.files_words.proofs.PutLaws.{put_nothing, next_put}
use Rattle.files_words.proofs.put_each.Goals as goal

pub loop-j-init : goal.loop-j-init
unfolding as_bytes
loop-j-init c = sym (put_nothing c.args.room.now c.args.place (omega arith))

pub loop-j-preserved : goal.loop-j-preserved
loop-j-preserved c =
    let a = c.args in
    let j = c.loop-j.j in
    c.put_bytes.ensures
    ∙ ap (λ (d : List ℕ). put d (a.place + 8 * j) (bytes_of 8 (get_or a.run.now j 0))) c.loop-j.invariant
    ∙ next_put a.room.now a.run.now a.place j c.loop-j-test.true c.requires
