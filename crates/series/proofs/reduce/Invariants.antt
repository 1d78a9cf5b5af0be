-- What is left of 512 divisions, made on L as it is now, ends where all of them, made on the first L, end.
use mathlib.Core.Path.{◌≡◌}
use Prim.Native.Nat.{◌-◌}
use Rattle.series.specs.Series.{beyond_one, reduced_from, reduced}
use Rattle.series.proofs.reduce.Given as goal

abbrev pub invariant-loop-m : goal.invariant-loop-m
invariant-loop-m l = reduced_from (512 - l.m) (beyond_one l.l) l.l l.m ≡ reduced l.fn.l
