-- Our own result files can be compared.
use mathlib.Core.Path.{◌≡◌, sym, ap, subst, ◌∙◌}
use mathlib.Core.List.{List}
use Prim.Native.Nat.{ℕ, ◌*◌, ◌^◌, ◌≤◌, ◌<◌}
use native.Mathlib.Omega.{arith}
use lib.ListN.{length}
use Rattle.bits.specs.Refusal.{number_of}
use Rattle.files_words.specs.Bytes.{as_bytes}
use Rattle.files_formats.specs.Rows.{result_width}
use Rattle.files_reader.specs.Reader.{reading_of}
use Rattle.files_formats.specs.declared.shapes.Shape.{Shape}
use Rattle.std.specs.Prelude.{Result}
use Rattle.files_checks.specs.declared.Fault.{Fault}
use Rattle.files_checks.specs.Checks.{Check, IsFault}
use Rattle.files_reader.proofs.Accepted.{accepted_counts}
use Rattle.files_compare.specs.Compare.{results_check, row_count}
use Rattle.files_compare.proofs.RowsLaws.{exactly, count_here, refused_file_is_25}
use Rattle.files_results.specs.Requests.{Accepted}
use Rattle.files_results.specs.Results.{rows_of, result_by, result_file}
use Rattle.files_results.specs.Own.{OwnComparable}
use Rattle.files_results.proofs.Rows.{rows_length}

by_reading : (file : List ℕ) {reading : Result Shape Fault} → reading_of file ≡ reading → result_file file ≡ as_bytes (result_by file reading)
unfolding result_file
by_reading file e = ap (λ (r : Result Shape Fault). as_bytes (result_by file r)) e

module _ (file : List ℕ) (shape : Shape) (e : Accepted file shape) where
  abbrev count : ℕ
  count = shape.requests

  few : count ≤ 1500
  few = (accepted_counts file shape e).2

  small : count < 2 ^ 64
  small = omega (arith, few)

  size : length (rows_of file shape count) ≡ count * result_width
  size = rows_length file shape count ∙ omega arith

pub own_comparable : OwnComparable
own_comparable file = record {
  accepted =
      λ shape e. (
        ap results_check (by_reading file e) ∙ exactly shape.requests _ (small file shape e) (few file shape e) (size file shape e),
        ap row_count (by_reading file e) ∙ count_here shape.requests _ (small file shape e),
      );
  refused = λ fault e. subst (λ (c : Check). IsFault c 25 16) (sym (ap results_check (by_reading file e))) (refused_file_is_25 (number_of fault.refusal));
}
