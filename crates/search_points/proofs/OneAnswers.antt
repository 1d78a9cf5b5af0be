-- Each public function leaves one answer open: each promise names its answer.
use mathlib.Core.Path.{refl, sym, ◌∙◌}
use Rattle.bits.specs.OneAnswer.{OneAnswer}
use Rattle.search_points.proofs.trial.Passage.time_error.Kinds as time-error-kinds
use Rattle.search_points.proofs.trial.Passage.time_error.Reads as time-error-reads
use Rattle.search_points.proofs.residual.radius.Kinds as radius-kinds
use Rattle.search_points.proofs.residual.radius.Reads as radius-reads
use Rattle.search_points.proofs.trial.anomaly_at.Kinds as anomaly-at-kinds
use Rattle.search_points.proofs.trial.anomaly_at.Reads as anomaly-at-reads
use Rattle.search_points.proofs.trial.Passage.try_at.Kinds as try-at-kinds
use Rattle.search_points.proofs.trial.Passage.try_at.Reads as try-at-reads
use Rattle.search_points.proofs.trial.Passage.point_of.Kinds as point-of-kinds
use Rattle.search_points.proofs.trial.Passage.point_of.Reads as point-of-reads
use Rattle.search_points.proofs.trial.has_sign.Kinds as has-sign-kinds
use Rattle.search_points.proofs.trial.has_sign.Reads as has-sign-reads
use Rattle.search_points.proofs.trial.unevaluated_as.Kinds as unevaluated-as-kinds
use Rattle.search_points.proofs.trial.unevaluated_as.Reads as unevaluated-as-reads

pub time_error_one : OneAnswer 0 time-error-kinds.ps time-error-kinds.r time-error-reads.Post
time_error_one κs a x y v w p q = (p ∙ sym q, refl)

pub radius_one : OneAnswer 0 radius-kinds.ps radius-kinds.r radius-reads.Post
radius_one κs a x y v w p q = (p ∙ sym q, refl)

pub anomaly_at_one : OneAnswer 0 anomaly-at-kinds.ps anomaly-at-kinds.r anomaly-at-reads.Post
anomaly_at_one κs a x y v w p q = (p ∙ sym q, refl)

pub has_sign_one : OneAnswer 0 has-sign-kinds.ps has-sign-kinds.r has-sign-reads.Post
has_sign_one κs a x y v w p q = (p ∙ sym q, refl)

pub try_at_one : OneAnswer 0 try-at-kinds.ps try-at-kinds.r try-at-reads.Post
try_at_one κs a x y v w p q = (p ∙ sym q, refl)

pub point_of_one : OneAnswer 0 point-of-kinds.ps point-of-kinds.r point-of-reads.Post
point_of_one κs a x y v w p q = (p ∙ sym q, refl)

pub unevaluated_as_one : OneAnswer 0 unevaluated-as-kinds.ps unevaluated-as-kinds.r unevaluated-as-reads.Post
unevaluated_as_one κs a x y v w p q = (p ∙ sym q, refl)
