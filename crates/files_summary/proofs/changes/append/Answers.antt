-- The centre that changed is one of those listed.
use Rattle.std.proofs.Common.{sym, ◌∙◌}
use Rattle.files_summary.specs.Changes.{append}
use Rattle.files_summary.proofs.ChangeLaws.{within, within_list}
use Rattle.files_summary.proofs.changes.append.Goals as goal

pub put-requires : goal.put-requires
put-requires g c =
    let a = c.args in
    let w = within (append a.state.now) a.states.now a.roster _ (sym (rw c.EACH.ensures at c.append_state.ensures.change) ∙ c.in_ok-change.was) in
    within_list g.P.Piece.EACH w.0 w.1
