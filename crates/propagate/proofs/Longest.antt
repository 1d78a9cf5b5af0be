-- No result file is longer than the longest: that of 1,500 requests, 132,016 bytes. So a room of that length takes every one.
use Rattle.std.proofs.Common.{Result, Ok, Err, ℕ, ◌+◌, ◌≤◌, arith, ◌≡◌, refl, sym, ap, ◌∙◌, List, length, take, drop, length-take-le}
use lib.Seq.{take-append_seam}
use Rattle.std.specs.Counts.{IsPrefixLen}
use Rattle.files_words.specs.Bytes.{as_bytes, put}
use Rattle.files_words.proofs.WordLaws.{length-as_bytes}
use Rattle.files_words.proofs.PutLaws.{put_fits, length-put}
use Rattle.files_reader.specs.Reader.{reading_of}
use Rattle.files_formats.specs.declared.shapes.Shape.{Shape}
use Rattle.files_checks.specs.declared.Fault.{Fault}
use Rattle.bits.specs.Refusal.{number_of}
use Rattle.files_reader.proofs.Accepted.{accepted_counts}
use Rattle.files_results.specs.Results.{longest_result, refused_file, result_by, result_file}
use Rattle.files_results.proofs.Rows.{result_length}

longest_by : (file : List ℕ) (reading : Result Shape Fault) → reading_of file ≡ reading → length (as_bytes (result_by file reading)) ≤ longest_result
longest_by file (Ok shape) e = omega (arith, result_length file shape, accepted_counts file shape e)
longest_by file (Err fault) e = omega (arith, length-as_bytes (refused_file (number_of fault.refusal)))

pub longest : (file : List ℕ) → length (result_file file) ≤ longest_result
unfolding result_file
longest file = longest_by file (reading_of file) refl

-- What stands at the start of a room that bytes were put to, where there is room for them.
pub put_first : (room bytes : List ℕ) → length bytes ≤ length room → IsPrefixLen (length bytes) (put room 0 bytes) × (take (length bytes) (put room 0 bytes) ≡ bytes)
put_first room bytes h =
    let fits : length bytes ≤ length (put room 0 bytes) = omega (arith, length-put room bytes 0 (omega arith)) in (
      (fits, sym (length-take-le (length bytes) (put room 0 bytes) fits)),
      ap (take (length bytes)) (put_fits room bytes 0 (omega arith)) ∙ take-append_seam bytes (drop (0 + length bytes) room),
    )
