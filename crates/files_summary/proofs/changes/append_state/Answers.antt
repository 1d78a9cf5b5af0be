-- Refused, nothing is touched; else the state is put behind the others, and there is room for it.
use Rattle.std.specs.Prelude.{ℕ, ◌+◌, length, get_or}
use Rattle.std.proofs.Common.{sym, ap, ◌∙◌, arith}
use Rattle.std.proofs.lemmas.Result.{err_from_is_err_and}
use Rattle.files_records.specs.Records.{record_put}
use Rattle.files_summary.specs.Changes.{one_each, append}
use Rattle.files_summary.proofs.EntryLaws.{centre_inside}
use Rattle.files_summary.proofs.RefusalLaws.{appendable, has_room}
use Rattle.files_summary.proofs.ChangeLaws.{change_refused, change_made_lem}
use Rattle.files_summary.proofs.changes.append_state.Goals as goal

pub returns-in_err-append_refusal : goal.returns-in_err-append_refusal
returns-in_err-append_refusal c =
    let told = rw c.one_each-listed.ensures at c.append_refusal.ensures in
    let e = change_refused (append c.args.state.now) c.args.states.now c.args.roster _ (sym told ∙ c.in_err-append_refusal.was) in
    let p = err_from_is_err_and c.from_residual.result c.from_residual.ensures.1 in
    record { change = rw (p.1, p.2) e.0; states = e.1 }

-- No refusal, and what that says.
pub bounds-state-column_at : goal.bounds-state-column_at
bounds-state-column_at c =
    let g = appendable _ _ _ _ (sym c.append_refusal.ensures ∙ c.in_ok-append_refusal.was) in
    omega (arith, g.one_record, c.column_at.ensures.0, centre_inside c.args.roster.edition)

pub overflow_add-count : goal.overflow_add-count
overflow_add-count c =
    let g = appendable _ _ _ _ (sym c.append_refusal.ensures ∙ c.in_ok-append_refusal.was) in
    omega (arith, g.not_full)

pub invariant_of-changed : goal.invariant_of-changed
invariant_of-changed c =
    let a = c.args in
    let g = appendable _ _ _ _ (sym c.append_refusal.ensures ∙ c.in_ok-append_refusal.was) in
    let room = has_room (length a.states.now) a.roster _ g.lent (a.roster.count + 1) (omega (arith, g.not_full)) in
    record { held = (omega (arith, g.not_full), omega (arith, room, c.put_record.auto.run)) }

pub returns : goal.returns
returns c =
    let a = c.args in
    let told = rw c.one_each-listed.ensures at c.append_refusal.ensures in
    let e =
    change_made_lem (append a.state.now) a.states.now a.roster (one_each a.each a.long a.roster.centres) (sym told ∙ c.in_ok-append_refusal.was)
    (c.put_record.ensures ∙ ap (λ (w : ℕ). record_put w a.states.now a.roster.count a.state.now) c.width-wide.ensures.0)
    (ap (λ (n : ℕ). get_or a.state.now n 0) c.column_at.ensures.0) c.changed.ensures
    in
    record { change = e.0; states = e.1 }
