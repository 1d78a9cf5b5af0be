-- What is known of a sound file of rows, so that nobody opens its check.
use Prim.Native.Nat.{ℕ}
use mathlib.Core.Path.{◌≡◌, refl}
use mathlib.Core.Logic.{◌⊎◌, inl, inr}
use mathlib.Core.List.{List}
use native.Mathlib.Omega.{arith}
use lib.ListN.{length}
use Rattle.std.specs.Prelude.{Ok, Err, IsOk}
use Rattle.files_checks.specs.Checks.{Check, ◌⟫◌}
use Rattle.files_checks.proofs.CountedLaws.{filled_sound}
use Rattle.files_formats.specs.Rows.{checked_count_place, checked_width, most_checked}
use Rattle.files_check.specs.RowsFile.{rows_in, rows_check, rows_fit, judged_of, with_verdicts, unless_fault, verdicts_after}
use Rattle.files_check.specs.RowsPromise.{SoundSo, KeptOrJudged}

pub sound_so : SoundSo
unfolding rows_check
sound_so file e =
    let filled = filled_sound file checked_count_place most_checked checked_width e in
    record { few = omega (arith, filled.0); size = omega (arith, filled.1) }

-- A refused file, or one whose verdicts have no room, leaves the run as it was.
by_check : (c : Check) (rows : ℕ) (kept judged : List ℕ) → IsOk (c ⟫ Ok rows) ⊎ (unless_fault c kept judged ≡ kept)
by_check (Ok sound) rows kept judged = inl refl
by_check (Err fault) rows kept judged = inr refl

pub kept_or_judged : KeptOrJudged
unfolding judged_of verdicts_after
kept_or_judged file run = by_check (rows_fit file (length run)) (rows_in file) run (with_verdicts file (rows_in file) run)
