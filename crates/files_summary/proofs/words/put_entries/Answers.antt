use Rattle.std.specs.Prelude.{ℕ, ◌≡◌, refl, suc, ◌+◌, ◌<◌, List, length}
use Rattle.std.proofs.Common.{◌∙◌, arith}
use Rattle.files_records.specs.Records.{records_of}
use Rattle.files_records.proofs.RecordLaws.{front_put}
use Rattle.files_formats.specs.declared.elements.Edition.{Edition}
use Rattle.files_formats.specs.Rows.{entry_width}
use Rattle.files_summary.specs.declared.entries.Summary.{Summary}
use Rattle.files_summary.specs.Entries.{state_width, centre_entry, entry_words}
use Rattle.files_summary.specs.Changes.{put_entry}
use Rattle.files_summary.proofs.WordLaws.{none_yet, one_more}
use Rattle.files_summary.proofs.words.put_entries.Invariants.{Done}
use Rattle.files_summary.proofs.words.put_entries.Goals as goal

next_done : (edition : Edition) (states : List (List ℕ)) (centres centre : ℕ) {list next : List ℕ} {entry : Summary} → centre < centres → Done edition states centres list centre
    → length next ≡ length list → entry ≡ centre_entry edition centre states → next ≡ put_entry list centre entry → Done edition states centres next (centre + 1)
next_done edition states centres centre {list} {next} {entry} h inv size e put-it =
    let more : centre + 1 ≡ suc centre = omega arith in
    record {
      size = size ∙ inv.size;
      same = rw (more, put-it, front_put entry_width list centre (entry_words entry) refl (omega (arith, inv.size)), inv.same, e, one_more edition states centre);
    }

pub loop-centre-init : goal.loop-centre-init
loop-centre-init c =
    let a = c.args in
    record { size = c.requires; same = none_yet a.used.edition (records_of (state_width a.used.edition) a.used.states.now a.used.count) a.list.now 0 refl }

pub loop-centre-preserved : goal.loop-centre-preserved
loop-centre-preserved c = next_done _ _ _ _ c.loop-centre-test.true c.loop-centre.invariant c.put.auto.list c.entry_of.ensures c.put.ensures
