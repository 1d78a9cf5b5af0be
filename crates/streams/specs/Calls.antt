-- What a call of read or write has done, as io::Result says it, and what a loop does after it.
use Rattle.std.specs.Prelude.{ℕ, zero, suc, ◌-◌, ◌≤◌, ◌≡◌, ◌==◌, Bool, true, false, if◌then◌else◌, List, length, Result, Ok, Err, IfOk}
use Rattle.std.specs.Counts.{IsPrefixLen}
use Rattle.std.specs.IoError.{error_kind}
use Rattle.std.specs.declared.io.Error.{Error}
use Rattle.std.specs.declared.io.ErrorKind.{ErrorKind}
use Rattle.std.specs.declared.io.ErrorKind.TheVariants.{Interrupted}
use Rattle.std.specs.declared.ops.ControlFlow.{ControlFlow}
use Rattle.std.specs.declared.ops.ControlFlow.TheVariants.{Continue, Break}
use Rattle.streams.specs.declared.calls.Left.{Left}

-- A call that moved bytes moved no more than there were.
abbrev pub Part : Result ℕ Error → (most : ℕ) → Type 0
Part call most = IfOk call (λ n. n ≤ most)

-- A signal that came before anything moved is the one reason to ask again.
abbrev pub is_signal : ErrorKind → Bool
is_signal Interrupted = true
is_signal _ = false

-- A call that moved bytes is followed by one for the rest, a signal by the same call once more as long as there is patience. A failure is never the end of the
-- input.
abbrev pub after_signal : Error → Left → ControlFlow (Result (Unit {0}) Error) Left
after_signal error left = if left.patience == 0 then Break (Err error) else Continue (record left { patience = left.patience - 1 })

abbrev pub after_of : Result ℕ Error → Left → ControlFlow (Result (Unit {0}) Error) Left
after_of (Ok zero) left = Break (Ok tt)
after_of (Ok (suc n)) left = Continue (record left { bytes = left.bytes - suc n })
after_of (Err error) left = if is_signal (error_kind error) then after_signal error left else Break (Err error)

-- The bytes that were taken stand in the room.
abbrev pub InRoom : Result ℕ Error → (room : List ℕ) → Type 0
InRoom taken room = IfOk taken (λ n. IsPrefixLen n room)

-- Bytes that were taken are all of them.
abbrev pub All : Result ℕ Error → (bytes : List ℕ) → Type 0
All taken bytes = IfOk taken (λ n. n ≡ length bytes)
