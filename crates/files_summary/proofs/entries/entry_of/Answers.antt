use Rattle.std.specs.Prelude.{ℕ, suc, ◌≡◌, ◌+◌, ◌*◌, ◌<◌, ◌≤◌, List, get_or}
use Rattle.std.proofs.Common.{sym, ap, ◌∙◌, arith}
use Rattle.files_formats.specs.declared.elements.Edition.{Edition}
use Rattle.files_formats.specs.declared.elements.Column.TheVariants as at
use Rattle.files_formats.specs.Elements.{column_of}
use Rattle.files_records.specs.Records.{records_of}
use Rattle.files_summary.specs.declared.entries.Tally.{Tally}
use Rattle.files_summary.specs.Entries.{state_width, with_state, shown, centre_entry}
use Rattle.files_summary.proofs.EntryLaws.{gather_step, none_left, counts_grow, centre_inside, epoch_inside, shown_gathered}
use Rattle.files_summary.proofs.entries.entry_of.Invariants.{Gathered, from}
use Rattle.files_summary.proofs.entries.entry_of.Goals as goal

module _ (edition : Edition) (run : List ℕ) (count centre : ℕ) where
  one_more : {tally next : Tally} {k wide its epoch : ℕ} → wide ≡ state_width edition → its ≡ column_of edition at.Centre → epoch ≡ column_of edition at.Epoch → k < count →
      Gathered edition run count centre tally k → next ≡ with_state tally centre (get_or run (k * wide + its) 0) (get_or run (k * wide + epoch) 0) →
      Gathered edition run count centre next (k + 1)
  one_more {tally} {next} {k} ew ei ee h inv e =
      let w = state_width edition in
      let number = get_or run (k * w + column_of edition at.Centre) 0 in
      let word = get_or run (k * w + column_of edition at.Epoch) 0 in
      let same : next ≡ with_state tally centre number word = e ∙ (λ i. with_state tally centre (get_or run (k * ew i + ei i) 0) (get_or run (k * ew i + ee i) 0)) in
      let grow = counts_grow tally centre number word in
      let numbers : next.states ≡ (with_state tally centre number word).states = ap (λ (t : Tally). t.states) same in
      let nans : next.nans ≡ (with_state tally centre number word).nans = ap (λ (t : Tally). t.nans) same in
      let more : k + 1 ≡ suc k = omega arith in
      record {
        few_numbers = omega (arith, inv.few_numbers, grow.0, numbers);
        few_nans = omega (arith, inv.few_nans, grow.1, nans);
        same =
            (λ i. from edition run count centre (same i) (more i))
            ∙ sym (gather_step w (column_of edition at.Centre) (column_of edition at.Epoch) centre run count tally k h (centre_inside edition) (epoch_inside edition))
            ∙ inv.same;
      }

  in_the_end : {tally : Tally} {k : ℕ} → count ≤ k → Gathered edition run count centre tally k → shown tally ≡ centre_entry edition centre (records_of (state_width edition) run count)
  in_the_end {tally} {k} h inv =
      ap shown (sym (none_left (state_width edition) (column_of edition at.Centre) (column_of edition at.Epoch) centre run count tally k h) ∙ inv.same)
      ∙ shown_gathered edition centre (records_of (state_width edition) run count)

pub loop-k-preserved : goal.loop-k-preserved
loop-k-preserved c =
    one_more c.args.used.edition c.args.used.states.now c.args.used.count c.args.centre c.width-wide.ensures.0 c.column_at-its.ensures.0 c.column_at-epoch.ensures.0
    c.loop-k-test.true c.loop-k.invariant c.with_state-tally.ensures

pub returns : goal.returns
returns c = c.shown.ensures ∙ in_the_end c.args.used.edition c.args.used.states.now c.args.used.count c.args.centre c.loop-k-test.false c.loop-k.invariant
