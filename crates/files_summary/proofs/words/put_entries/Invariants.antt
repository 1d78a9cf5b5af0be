-- The first words of the list are those of the centres done, in order; in the end all are.
use Rattle.std.specs.Prelude.{ℕ, ◌≡◌, ◌*◌, List, length, take}
use Rattle.files_records.specs.Records.{records_of}
use Rattle.files_formats.specs.declared.elements.Edition.{Edition}
use Rattle.files_formats.specs.Rows.{entry_width}
use Rattle.files_summary.specs.Entries.{state_width}
use Rattle.files_summary.specs.Changes.{entries_of, as_words}
use Rattle.files_summary.proofs.words.put_entries.Given as goal

-- So many centres are done.
pub record Done (edition : Edition) (states : List (List ℕ)) (centres : ℕ) (list : List ℕ) (centre : ℕ) : Type 0 where
  pub size : length list ≡ centres * entry_width
  pub same : take (centre * entry_width) list ≡ as_words (entries_of edition states centre)

abbrev pub invariant-loop-centre : goal.invariant-loop-centre
invariant-loop-centre l = Done l.used.edition (records_of (state_width l.used.edition) l.used.states.now l.used.count) l.centres l.list l.centre
