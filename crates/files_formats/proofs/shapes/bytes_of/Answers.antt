-- Few records of few words.
use Prim.Native.Nat.{ℕ, ◌*◌, ◌≤◌}
use native.Mathlib.Omega.{arith}
use mathlib.Core.Path.{ap}
use borrow.Author.Rules.{rules}
use Rattle.files_records.proofs.Steps.{few_words}
use Rattle.files_formats.specs.Elements.{widest}
use Rattle.files_formats.proofs.shapes.bytes_of.Goals as goal

few : (c : goal.After-width) → c.args.count * c.width.result ≤ 65535 * widest
few c = few_words _ _ widest 65535 c.width.ensures.2 (search rules)

pub overflow_mul-result : goal.overflow_mul-result
overflow_mul-result c = omega (arith, few c)

pub overflow_mul-result-2 : goal.overflow_mul-result-2
overflow_mul-result-2 c = omega (arith, few c)

pub returns : goal.returns
returns c = (ap (λ (w : ℕ). 8 * (c.args.count * w)) c.width.ensures.0, omega (arith, few c))
