-- The count, then the rest.
use Prim.Native.Nat.{◌+◌, ◌*◌, ◌^◌, ◌≤◌}
use native.Mathlib.Omega.{arith}
use mathlib.Core.Path.{sym, ◌∙◌}
use lib.ListN.{length}
use Rattle.files_checks.proofs.CountedLaws.{few_words}
use Rattle.files_checks.proofs.check_filled.Goals as goal

-- the count word is whole, and the words are few
counted : (c : goal.After-word_at) →
    let a = c.args in
    (a.place + 8 ≤ length a.file.now) × (c.word_at.result * a.width ≤ 2 ^ 16 * 2 ^ 16)
counted c =
    let a = c.args in
    let fits = c.ranges in
    few_words a.file.now a.place a.limit a.width (omega (arith, fits.limit)) (omega (arith, fits.width))
    (sym c.check_count.ensures ∙ c.in_ok-check_count.was) c.word_at.ensures

pub overflow_mul-words : goal.overflow_mul-words
overflow_mul-words c = omega (arith, counted c)

pub overflow_add-place : goal.overflow_add-place
overflow_add-place c = omega (arith, counted c, c.well_formed)

pub check_rest-requires : goal.check_rest-requires
check_rest-requires c = (omega (arith, counted c), omega (arith, counted c))
