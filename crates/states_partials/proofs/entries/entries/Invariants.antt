-- The entries stored so far are the first of the definition's.
use mathlib.Core.Path.{◌≡◌}
use Prim.Native.Nat.{ℕ, ◌+◌, ◌*◌, ◌/◌, ◌%◌}
use lib.ListN.{length, take}
use lib.Ieee.{Float}
use Rattle.bits.specs.Words.{words_of}
use Rattle.states_partials.specs.Entries.{entry_of, up_to}
use Rattle.states_arcs.specs.declared.figures.Arc.{Arc}
use Rattle.states_partials.specs.declared.matrix.Matrix.{Matrix}
use Rattle.states_partials.proofs.entries.entries.Given as goal

-- A row and a column are those of their place in the table.
abbrev pub placed : Arc → Matrix → ℕ → Float
placed arc a n = entry_of arc a (n / 6) (n % 6)

abbrev pub invariant-loop-column : goal.invariant-loop-column
invariant-loop-column l =
    (length l.table ≡ 36) × (take (6 * l.row + l.column) l.table ≡ words_of (up_to (6 * l.row + l.column) (placed l.arc l.a)))

abbrev pub invariant-loop-row : goal.invariant-loop-row
invariant-loop-row l = (length l.table ≡ 36) × (take (6 * l.row) l.table ≡ words_of (up_to (6 * l.row) (placed l.arc l.a)))
