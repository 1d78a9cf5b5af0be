-- What the states left still add, to what was gathered, is what all add to nothing.
use Rattle.std.specs.Prelude.{ℕ, ◌≡◌, ◌≤◌, List}
use Rattle.files_formats.specs.declared.elements.Edition.{Edition}
use Rattle.files_formats.specs.declared.elements.Column.TheVariants as at
use Rattle.files_formats.specs.Elements.{column_of}
use Rattle.files_summary.specs.declared.entries.Tally.{Tally}
use Rattle.files_summary.specs.Entries.{state_width, no_tally}
use Rattle.files_summary.proofs.EntryLaws.{from_state}
use Rattle.files_summary.proofs.entries.entry_of.Given as goal

-- From state k on, by the columns of an edition.
abbrev pub from : Edition → (run : List ℕ) (count centre : ℕ) → Tally → (k : ℕ) → Tally
from edition run count centre tally k = from_state (state_width edition) (column_of edition at.Centre) (column_of edition at.Epoch) centre run count tally k

pub record Gathered (edition : Edition) (run : List ℕ) (count centre : ℕ) (tally : Tally) (k : ℕ) : Type 0 where
  pub few_numbers : tally.states ≤ k
  pub few_nans : tally.nans ≤ k
  pub same : from edition run count centre tally k ≡ from edition run count centre no_tally 0

abbrev pub invariant-loop-k : goal.invariant-loop-k
invariant-loop-k l = Gathered l.used.edition l.used.states.now l.used.count l.centre l.tally l.k
