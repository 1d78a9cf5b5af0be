-- The order of doubles: of two, at most one is below the other, and none is below itself. A NaN is below nothing, and nothing below it.
use mathlib.Core.Path.{◌≡◌}
use mathlib.Core.Bool.{true, false}
use Rattle.std.proofs.lemmas.Bool.{false_from_ne_true}
use Rattle.std.proofs.lemmas.Float.{T_from_true, lt_irrefl, lt_trans}
use lib.Ieee.{Float, lt}

pub one_way : (x y : Float) → lt x y ≡ true → lt y x ≡ false
one_way x y h = false_from_ne_true (lt y x) (λ g. lt_irrefl x (lt_trans x y x (T_from_true (lt x y) h) (T_from_true (lt y x) g)))

pub not_itself : (x : Float) → lt x x ≡ false
not_itself x = false_from_ne_true (lt x x) (λ g. lt_irrefl x (T_from_true (lt x x) g))
