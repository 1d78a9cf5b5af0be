-- A change that is made works the entry of its centre out anew, whatever stood there, and leaves one state more in use, or one fewer; one that is refused changes
-- nothing.
use mathlib.Core.Path.{◌≡◌, refl, sym, subst, ◌∙◌}
use mathlib.Core.List.{List}
use Rattle.std.specs.Prelude.{⊤, Result, Ok, Err}
use Prim.Native.Nat.{ℕ, suc, ◌+◌, ◌*◌, ◌≤◌}
use Rattle.bits.specs.declared.refusal.Refusal.{Refusal}
use native.Mathlib.Omega.{arith}
use lib.ListN.{length, set, length-set}
use lib.Seq.{get_or-set_same, get_or-set_other}
use Rattle.files_records.specs.Records.{records_of}
use Rattle.files_records.proofs.RecordLaws.{record_put_lem, words_before, words_behind}
use Rattle.files_formats.specs.Rows.{entry_width}
use Rattle.files_summary.specs.declared.entries.Summary.{Summary}
use Rattle.files_summary.specs.Entries.{state_width, centre_entry, no_entry, entry_words}
use Rattle.files_summary.specs.Changes.{one_each, Asked, append, withdraw, run_asked, count_asked, refusal_of, ◌⟫◌, changed, if_made, change_of, run_of, count_after, settled_by, put_entry}
use Rattle.files_summary.specs.Kept.{Kept, counting, change_by, refusal_beside, centre_beside, kept_states, kept_entry}
use Rattle.files_summary.specs.Kept.{states_asked, ChangesAsAsked, WorksOutAnew, Anew, AnewInWords, RefusedStays}
use Rattle.files_summary.proofs.RefusalLaws.{accepted, has_room, appendable, withdrawable, granted}
use Rattle.files_summary.proofs.ChangeLaws.{if_refused, if_made_lem, within_list}
use Rattle.files_summary.proofs.StateLaws.{states_move}

module _ {A : Type 0} (each : ℕ) (store : List A → ℕ → Summary → List A) (asked : Asked) (k : Kept A) where
  -- What is kept once a change is made.
  abbrev pub done : Kept A
  done =
      let edition = k.roster.edition in
      let run = run_asked asked k.run k.roster in
      let count = count_asked asked k.roster in
      let c = centre_beside asked k in
      record { run = run; roster = counting k.roster count; list = store k.list c (centre_entry edition c (records_of (state_width edition) run count)) }

  abbrev its_refusal : Result ⊤ Refusal
  its_refusal = refusal_of asked k.run k.roster (one_each each (length k.list) k.roster.centres)

  change_is : change_by each store asked k ≡ if_made its_refusal k done
  unfolding change_by change_of run_of
  change_is = go its_refusal
    where
      go : (r : Result ⊤ Refusal) →
          let run = run_asked asked k.run k.roster in
          let change = r ⟫ Ok (changed k.roster.edition run (count_asked asked k.roster) (centre_beside asked k)) in
          record { run = if_made r k.run run; roster = counting k.roster (count_after change k.roster.count); list = settled_by store k.list change } ≡ if_made r k done
      go (Ok _) = refl
      go (Err refusal) = refl

  pub made : refusal_beside each asked k ≡ 0 → change_by each store asked k ≡ done
  made e = change_is ∙ sym (if_made_lem its_refusal k done e)

  pub not_made : (refusal_beside each asked k ≡ 0 → ⊥) → change_by each store asked k ≡ k
  not_made h = change_is ∙ sym (if_refused its_refusal k done h)

  -- The states in use are as it was asked.
  pub as_asked : refusal_beside each asked k ≡ 0 → kept_states done ≡ states_asked asked (kept_states k)
  as_asked e = go asked e
    where
      go : (asked : Asked) → refusal_beside each asked k ≡ 0
          → records_of (state_width k.roster.edition) (run_asked asked k.run k.roster) (count_asked asked k.roster) ≡ states_asked asked (kept_states k)
      go (append state) e =
          let a = appendable state (length k.run) k.roster (one_each each (length k.list) k.roster.centres) (accepted _ e) in
          let room = has_room (length k.run) k.roster (one_each each (length k.list) k.roster.centres) a.lent (k.roster.count + 1) (omega (arith, a.not_full)) in
          ((states_move (state_width k.roster.edition) k.run k.roster.count).0 state a.one_record room).last_of_them
      go (withdraw which) e =
          let a = withdrawable which k.run k.roster (one_each each (length k.list) k.roster.centres) (accepted _ e) in
          let room = has_room (length k.run) k.roster (one_each each (length k.list) k.roster.centres) a.lent k.roster.count a.lent.few in
          ((states_move (state_width k.roster.edition) k.run k.roster.count).1 which a.there room).down_one

  -- The centre of a change that is made has its entry.
  pub has_entry : refusal_beside each asked k ≡ 0 → suc (centre_beside asked k) * each ≤ length k.list
  has_entry e = let g = granted asked k.run k.roster (one_each each (length k.list) k.roster.centres) (accepted _ e) in within_list each g.0 g.1

pub refused_stays : RefusedStays
refused_stays A each store asked k h = not_made each store asked k h

pub changes_as_asked : ChangesAsAsked
changes_as_asked A each store asked k e = rw (made each store asked k e) (as_asked each store asked k e)

-- ---- So an entry is worked out anew, and no other is touched.
pub works_out_anew : WorksOutAnew
works_out_anew asked = (structs, words)
  where
    structs : (k : Kept Summary) → refusal_beside 1 asked k ≡ 0 → Anew asked k (change_by 1 set asked k)
    structs k e =
        let c = centre_beside asked k in
        let entry = kept_entry c (done 1 set asked k) in
        subst (λ (after : Kept Summary). Anew asked k after) (sym (made 1 set asked k e))
        (record {
          its_own = get_or-set_same k.list c entry no_entry (omega (arith, has_entry 1 set asked k e));
          others = λ d other. get_or-set_other k.list c d entry no_entry other;
          as_many = length-set k.list c entry;
        })

    words : (k : Kept ℕ) → refusal_beside entry_width asked k ≡ 0 → AnewInWords asked k (change_by entry_width put_entry asked k)
    words k e =
        let c = centre_beside asked k in
        let entry = entry_words (kept_entry c (done entry_width put_entry asked k)) in
        let room = has_entry entry_width put_entry asked k e in
        subst (λ (after : Kept ℕ). AnewInWords asked k after) (sym (made entry_width put_entry asked k e))
        (record {
          its_own = record_put_lem entry_width k.list c entry refl room;
          words_before = words_before entry_width k.list c entry refl room;
          words_behind = words_behind entry_width k.list c entry refl room;
        })
