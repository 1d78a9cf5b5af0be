-- The room is long enough, so the outcome is the size of the result file, which stands at its start; and more than the longest accepted file has is long enough for `cut`.
use Rattle.std.proofs.Common.{rules, arith, ◌≡◌, refl, sym, ◌∙◌, Ok, List, ℕ, length, take, le-leb}
use Rattle.std.specs.Counts.{IsPrefixLen}
use Rattle.files_results.specs.Results.{longest_result, result_file, outcome_in}
use Rattle.propagate.proofs.Longest.{longest, put_first}
use Rattle.propagate.proofs.Cut.{cut}
use Rattle.propagate.proofs.results_of.Goals as goal

fits : (file room : List ℕ) → longest_result ≡ length room → outcome_in (result_file file) room ≡ Ok (length (result_file file))
unfolding outcome_in
fits file room l = rw (le-leb (length (result_file file)) (length room) (omega (arith, longest file))) refl

pub unwrap-requires : goal.unwrap-requires
unwrap-requires c =
    let a = c.args in
    rw (c.write_results-outcome.ensures.outcome, fits a.file.now a.room.now (search rules)) refl

abbrev Holds : (file : List ℕ) (size : ℕ) (room : List ℕ) → Type 0
Holds file size room = IsPrefixLen size room × (take size room ≡ result_file file)

pub returns : goal.returns
returns c =
    let a = c.args in
    let file = a.file.now in
    let e = c.write_results-outcome.ensures in
    let f = fits file a.room.now (search rules) in
    let size : c.unwrap.result ≡ length (result_file file) = cc (e.outcome, f, c.unwrap.ensures) in
    let held : Holds file c.unwrap.result c.write_results-outcome.new.room = rw (size, e.room) (put_first a.room.now (result_file file) (omega (arith, longest file))) in
    record { size = held.0; read = held.1; longer = λ long rest. held.1 ∙ sym (cut file rest long) }
