-- The row's bytes.
use Rattle.std.specs.Prelude.{ℕ, ◌≡◌, ◌+◌, ◌-◌, ◌*◌, List, take, drop}
use Rattle.std.proofs.Common.{ap, arith}
use Rattle.files_formats.specs.Rows.{result_width, result_place}
use Rattle.files_compare.specs.Compare.{row_at}
use Rattle.files_compare.proofs.row_at.Goals as goal

part : (file : List ℕ) (k : ℕ) → take (result_place k + 8 * result_width - result_place k) (drop (result_place k) file) ≡ row_at file k
unfolding row_at
part file k = let size : result_place k + 8 * result_width - result_place k ≡ 8 * result_width = omega arith in ap (λ (n : ℕ). take n (drop (result_place k) file)) size

pub returns : goal.returns
returns c = part c.args.file.now c.args.k
