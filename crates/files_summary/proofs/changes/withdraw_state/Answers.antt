-- Refused, nothing is touched; else the followers of a state that is there move down.
use Rattle.std.specs.Prelude.{ℕ, suc, ◌-◌, length}
use Rattle.std.proofs.Common.{sym, ap, ◌∙◌, arith}
use Rattle.std.proofs.lemmas.Result.{err_from_is_err_and}
use Rattle.files_records.specs.Records.{withdrawn}
use Rattle.files_summary.specs.Changes.{one_each, withdraw}
use Rattle.files_summary.proofs.RefusalLaws.{withdrawable, has_room}
use Rattle.files_summary.proofs.ChangeLaws.{change_refused, change_made_lem}
use Rattle.files_summary.proofs.changes.withdraw_state.Goals as goal

pub returns-in_err-withdraw_refusal : goal.returns-in_err-withdraw_refusal
returns-in_err-withdraw_refusal c =
    let told = rw c.one_each-listed.ensures at c.withdraw_refusal.ensures in
    let e = change_refused (withdraw c.args.which) c.args.states.now c.args.roster _ (sym told ∙ c.in_err-withdraw_refusal.was) in
    let p = err_from_is_err_and c.from_residual.result c.from_residual.ensures.1 in
    record { change = rw (p.1, p.2) e.0; states = e.1 }

-- No refusal, and what that says.
pub centre_at-centre-requires : goal.centre_at-centre-requires
centre_at-centre-requires c =
    let a = c.args in
    let g = withdrawable _ _ _ _ (sym c.withdraw_refusal.ensures ∙ c.in_ok-withdraw_refusal.was) in
    has_room (length a.states.now) a.roster _ g.lent (suc a.which) (omega (arith, g.there, g.lent.few))

pub overflow_sub-count : goal.overflow_sub-count
overflow_sub-count c =
    let g = withdrawable _ _ _ _ (sym c.withdraw_refusal.ensures ∙ c.in_ok-withdraw_refusal.was) in
    omega (arith, g.there)

pub invariant_of-changed : goal.invariant_of-changed
invariant_of-changed c =
    let a = c.args in
    let g = withdrawable _ _ _ _ (sym c.withdraw_refusal.ensures ∙ c.in_ok-withdraw_refusal.was) in
    let room = has_room (length a.states.now) a.roster _ g.lent (a.roster.count - 1) (omega (arith, g.lent.few)) in
    record { held = (omega (arith, g.lent.few), omega (arith, room, c.move_down.auto.run)) }

pub returns : goal.returns
returns c =
    let a = c.args in
    let told = rw c.one_each-listed.ensures at c.withdraw_refusal.ensures in
    let e =
    change_made_lem (withdraw a.which) a.states.now a.roster (one_each a.each a.long a.roster.centres) (sym told ∙ c.in_ok-withdraw_refusal.was)
    (c.move_down.ensures ∙ ap (λ (w : ℕ). withdrawn w a.states.now a.roster.count a.which) c.width-wide.ensures.0) c.centre_at-centre.ensures c.changed.ensures
    in
    record { change = e.0; states = e.1 }
