-- The row's bytes.
use Rattle.std.specs.Prelude.{ℕ, ◌≡◌, ◌+◌, ◌-◌, ◌*◌, List, take, drop}
use Rattle.std.proofs.Common.{ap, arith}
use Rattle.files_formats.specs.Rows.{checked_width, checked_place}
use Rattle.files_check.specs.RowsFile.{row_at}
use Rattle.files_check.proofs.row_at.Goals as goal

part : (file : List ℕ) (k : ℕ) → take (checked_place k + 8 * checked_width - checked_place k) (drop (checked_place k) file) ≡ row_at file k
unfolding row_at
part file k = let size : checked_place k + 8 * checked_width - checked_place k ≡ 8 * checked_width = omega arith in ap (λ (n : ℕ). take n (drop (checked_place k) file)) size

pub returns : goal.returns
returns c = part c.args.file.now c.args.k
