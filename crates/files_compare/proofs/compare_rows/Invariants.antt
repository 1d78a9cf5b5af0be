-- The rows told so far are the first, and the largest distance is theirs.
use Rattle.std.specs.Prelude.{◌≡◌}
use Rattle.files_words.specs.Bytes.{put}
use Rattle.files_compare.specs.Compare.{rows_told, largest_of}
use Rattle.files_compare.proofs.compare_rows.Given as goal

abbrev pub invariant-loop-k : goal.invariant-loop-k
invariant-loop-k l = record {
  run : l.run ≡ put l.initial.run 0 (rows_told l.left l.right l.k);
  largest : l.largest ≡ largest_of l.left l.right l.k;
}
