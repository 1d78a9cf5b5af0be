-- T-07: what we write can be compared. The result file of an accepted element file is a sound one, with a row for each request;
-- "the three words of a refused file are 25".
use Rattle.std.specs.Prelude.{◌≡◌, Err, List, ℕ}
use Rattle.files_checks.specs.declared.Fault.{Fault}
use Rattle.files_checks.specs.Checks.{sound, IsFault}
use Rattle.files_formats.specs.declared.shapes.Shape.{Shape}
use Rattle.files_reader.specs.Reader.{reading_of}
use Rattle.files_compare.specs.Compare.{results_check, row_count}
use Rattle.files_results.specs.Requests.{Accepted}
use Rattle.files_results.specs.Results.{result_file}

pub record Comparable (file : List ℕ) : Type 0 where
  pub accepted : (shape : Shape) → Accepted file shape → (results_check (result_file file) ≡ sound) × (row_count (result_file file) ≡ shape.requests)
  pub refused : (fault : Fault) → reading_of file ≡ Err fault → IsFault (results_check (result_file file)) 25 16

abbrev pub OwnComparable : Type 0
OwnComparable = (file : List ℕ) → Comparable file
