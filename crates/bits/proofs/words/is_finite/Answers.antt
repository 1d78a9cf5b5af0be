-- The library's word for it is the definition.
use mathlib.Core.Path.{◌≡◌, refl}
use lib.Ieee.{Float, nan, inf, fin}
use Rattle.std.proofs.Common.{rules}
use Rattle.std.specs.Float.{float_is_finite}
use Rattle.bits.specs.Arithmetic.{is_finite}
use Rattle.bits.proofs.words.is_finite.Goals as goal

same : (x : Float) → float_is_finite x ≡ is_finite x
unfolding float_is_finite
same nan = refl
same (inf s) = refl
same (fin s m e) = refl

pub returns : goal.returns
returns c = search (rules, same c.args.x)
