-- Of a number that is not a NaN, |l| > 1 says that l lies above 1 or below -1; the sign decides which.
use mathlib.Core.Path.{◌≡◌, refl, ◌∙◌}
use mathlib.Core.Bool.{Bool, true, false, ◌||◌}
use lib.Ieee.{Float, nan, inf, fin, lt, neg, of_bits}
use Rattle.bits.specs.Arithmetic.{n1}
use Rattle.series.specs.Series.{beyond_one}
use Rattle.series.proofs.beyond_one.Goals as goal

or_false : (b : Bool) → b || false ≡ b
or_false true = refl
or_false false = refl

two_sided : (l : Float) → lt n1 l || lt l (neg n1) ≡ beyond_one l
unfolding beyond_one lt neg of_bits
two_sided nan = refl
two_sided (inf true) = refl
two_sided (inf false) = refl
two_sided (fin true m e) = refl
two_sided (fin false m e) = or_false _

above : (l : Float) → lt n1 l ≡ true → lt n1 l ≡ beyond_one l
above l h = h ∙ simp h at (two_sided l)

not_above : (l : Float) → lt n1 l ≡ false → lt l (neg n1) ≡ beyond_one l
not_above l h = simp h at (two_sided l)

pub returns-then-l : goal.returns-then-l
returns-then-l c = above c.args.l c.if-l.true

pub returns-else-l : goal.returns-else-l
returns-else-l c = not_above c.args.l c.if-l.false
