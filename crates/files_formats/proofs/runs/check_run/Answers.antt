-- The first fault found is the walk's.
use Prim.Native.Nat.{ℕ, ◌+◌, ◌*◌}
use native.Mathlib.Omega.{arith}
use mathlib.Core.Path.{refl, sym, ap, ◌∙◌}
use lib.ListN.{length}
use Rattle.std.proofs.lemmas.List.{map-id}
use Rattle.files_checks.specs.Checks.{fault}
use Rattle.files_formats.specs.Elements.{kinds_of}
use Rattle.files_formats.specs.Shapes.{below_of, place_of, run_check}
use Rattle.files_formats.proofs.TableLaws.{none_found, one_found}
use Rattle.files_formats.proofs.runs.check_run.Goals as goal

pub returns-in-Some : goal.returns-in-Some
unfolding run_check
returns-in-Some c =
    let a = c.args in
    let found = c.in-Some.found in
    ap (λ (p : ℕ). fault found.refusal (p + 8 + 8 * found.at)) c.place.ensures.0
    ∙ one_found (kinds_of a.shape.edition a.section) (below_of a.shape a.section) a.run.now (place_of a.shape a.section + 8) (length a.run.now) (length a.run.now) found
    (omega arith) (omega arith) (rw (map-id a.run.now) at c.in-Some.ensures)

pub returns-in-None : goal.returns-in-None
unfolding run_check
returns-in-None c =
    let a = c.args in
    sym (none_found (kinds_of a.shape.edition a.section) (below_of a.shape a.section) a.run.now (place_of a.shape a.section + 8) (length a.run.now) (length a.run.now)
    refl refl (rw (map-id a.run.now) at c.in-None.ensures))
