-- What is wrong with a result file that is refused, and where.
use Rattle.std.specs.Prelude.{ℕ, ◌≡◌, ◌*◌, ◌≤◌, ◌<◌, List, leb, length}
use Rattle.std.proofs.Common.{sym, ap, ◌∙◌, inl, inr, arith}
use mathlib.Core.Logic.{⊎_elim}
use borrow.Author.Tests.{leb-true, leb-false, eqb-true, eqb-false}
use Rattle.bits.specs.declared.refusal.Refusal.{Refusal}
use Rattle.bits.specs.declared.refusal.Refusal.TheVariants.{WordMissing, UnknownEdition, TooMany}
use Rattle.bits.specs.Refusal.{number_of}
use Rattle.files_words.specs.Bytes.{word_at}
use Rattle.files_words.proofs.WordLaws.{word_missing}
use Rattle.files_checks.specs.Checks.{fault, need, count_check, edition_check, filled_check, rest_check}
use Rattle.files_formats.specs.Rows.{result_edition, result_count_place, result_width, most_results}
use Rattle.files_checks.proofs.CheckLaws.{needed, first_fault_lem, needed_not}
use Rattle.files_checks.proofs.CountedLaws.{edition_is, count_sound, filled_is, rest_fault}
use Rattle.files_compare.specs.Compare.{edition_known, results_check, row_count}
use Rattle.files_compare.specs.ComparePromise.{FaultIn, FaultSo}

-- A count that is not whole is told as 0.
no_count : (file : List ℕ) → length file < 16 → row_count file ≡ 0
no_count file h = word_missing file result_count_place h

module _ (file : List ℕ) {refusal : Refusal} {place : ℕ} where
  of_edition : edition_check file (edition_known file) ≡ fault refusal place → FaultIn file (number_of refusal) place
  unfolding edition_check
  of_edition e =
      ⊎_elim
      (λ f.
      let n = needed_not (leb 8 (length file)) WordMissing 0 f in
      let short = leb-false 8 (length file) n.0 in
      inl (ap number_of n.1, omega (arith, n.2, short), (λ h. absurd (omega (arith, short, h))), omega (arith, no_count file (omega (arith, short))), omega (arith, short)))
      (λ f.
      let n = needed_not (edition_known file) UnknownEdition 0 f.1 in
      inr (inl (ap number_of n.1, n.2, leb-true 8 (length file) (needed _ _ _ f.0), eqb-false (word_at file 0) result_edition n.0)))
      (first_fault_lem (need (leb 8 (length file)) WordMissing 0) (need (edition_known file) UnknownEdition 0) e)

  module _ (whole : 8 ≤ length file) (edition : word_at file 0 ≡ 1) where
    of_count : count_check file result_count_place most_results ≡ fault refusal place → FaultIn file (number_of refusal) place
    unfolding count_check
    of_count e =
        ⊎_elim
        (λ f.
        let n = needed_not (leb 16 (length file)) WordMissing result_count_place f in
        let short = leb-false 16 (length file) n.0 in
        inl (ap number_of n.1, omega (arith, n.2, short, whole), (λ h. edition), omega (arith, no_count file short), omega (arith, short)))
        (λ f.
        let n = needed_not (leb (row_count file) most_results) TooMany result_count_place f.1 in
        inr (inr (inl (ap number_of n.1, n.2, (λ h. edition), leb-true 16 (length file) (needed _ _ _ f.0), leb-false (row_count file) most_results n.0))))
        (first_fault_lem (need (leb 16 (length file)) WordMissing result_count_place) (need (leb (row_count file) most_results) TooMany result_count_place) e)

    of_rest : 16 ≤ length file → row_count file ≤ 1500 → rest_check file 16 (row_count file * result_width) ≡ fault refusal place → FaultIn file (number_of refusal) place
    of_rest there few e =
        ⊎_elim
        (λ f. inl (ap number_of f.0, omega (arith, f.1, there), (λ h. edition), few, omega (arith, f.2, there)))
        (λ f. inr (inr (inr (ap number_of f.0, omega (arith, f.1), (λ h. edition), few, omega (arith, f.1, f.2)))))
        (rest_fault file 16 (row_count file * result_width) e)

    of_rows : filled_check file result_count_place most_results result_width ≡ fault refusal place → FaultIn file (number_of refusal) place
    of_rows e =
        ⊎_elim
        of_count (λ f. let c = count_sound file result_count_place most_results f.0 in of_rest c.0 c.1 f.1)
        (first_fault_lem (count_check file result_count_place most_results) (rest_check file 16 (row_count file * result_width)) (sym (filled_is file result_count_place most_results result_width) ∙ e))

pub fault_so : FaultSo
unfolding results_check
fault_so file told e =
    ⊎_elim (of_edition file)
    (λ f. let c = edition_is file (edition_known file) f.0 in of_rows file c.0 (eqb-true (word_at file 0) result_edition c.1) f.1)
    (first_fault_lem (edition_check file (edition_known file)) (filled_check file result_count_place most_results result_width) e)
