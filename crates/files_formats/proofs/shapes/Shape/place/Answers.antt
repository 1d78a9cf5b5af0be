-- By the section.
use Prim.Native.Nat.{ℕ, ◌+◌}
use mathlib.Core.Path.{ap, ap₂}
use borrow.Author.Rules.{rules}
use Rattle.files_formats.proofs.shapes.Shape.place.Goals as goal

pub returns-in-States : goal.returns-in-States
returns-in-States c = (rw c.in-States.is (ap (λ (n : ℕ). 8 + n) c.span.ensures.0), search rules)

pub returns-in-Requests : goal.returns-in-Requests
returns-in-Requests c = (rw c.in-Requests.is (ap₂ (λ (m n : ℕ). 8 + m + n) c.span-in-Requests.ensures.0 c.span-in-Requests-2.ensures.0), search rules)
