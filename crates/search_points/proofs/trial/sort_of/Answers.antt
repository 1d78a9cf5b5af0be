-- What the tests say of a sort: the two signs first, then what has none.
use mathlib.Core.Path.{sym}
use Rattle.search_points.proofs.Points.{above, under, neither, opposite_sort}
use Rattle.search_points.proofs.SortLaws.{nan_sort, zero_sort, else_sort}
use Rattle.search_points.proofs.trial.sort_of.Goals as goal
use Rattle.search_points.proofs.trial.sort_of.Goals.{then-tau+else-error+else-error-2, else-tau+else-error-3+else-error-4}

pub returns-then-error : goal.returns-then-error
returns-then-error c = sym (opposite_sort _ _ (simp (c.if-tau.true, c.if-error.true)))

pub returns-then-error-2 : goal.returns-then-error-2
returns-then-error-2 c = let f = under _ c.if-error-2.true in sym (else_sort _ _ f.0 f.1 (simp (c.if-tau.true, c.if-error.false)))

pub returns-then-error-3 : goal.returns-then-error-3
returns-then-error-3 c = sym (opposite_sort _ _ (simp (c.if-tau.false, c.if-error-3.true)))

pub returns-then-error-4 : goal.returns-then-error-4
returns-then-error-4 c = let f = above _ c.if-error-4.true in sym (else_sort _ _ f.0 f.1 (simp (c.if-tau.false, c.if-error-3.false)))

pub returns-then-error-5 : goal.returns-then-error-5
returns-then-error-5 c = sym (zero_sort _ _ c.if-error-5.true)

pub returns : goal.returns
returns c =
    sym (nan_sort _ _ (elim c.if-tau.branch [
      | then-tau+else-error+else-error-2 w ↦ neither _ w.if-error.false w.if-error-2.false c.if-error-5.false
      | else-tau+else-error-3+else-error-4 w ↦ neither _ w.if-error-4.false w.if-error-3.false c.if-error-5.false
    ]))
