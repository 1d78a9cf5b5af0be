-- The words so far stand in the room.
use mathlib.Core.Path.{◌≡◌}
use lib.ListN.{take}
use Rattle.files_words.specs.Bytes.{as_bytes, put}
use Rattle.files_words.proofs.put_each.Given as goal

abbrev pub invariant-loop-j : goal.invariant-loop-j
invariant-loop-j l = l.room ≡ put l.initial.room l.place (as_bytes (take l.j l.run))
