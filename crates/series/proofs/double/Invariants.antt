-- The doublings left, made on c0 and c1 as they are now, end where all m of them, made on the first two, end.
use mathlib.Core.Path.{◌≡◌}
use Prim.Native.Nat.{◌-◌}
use Rattle.series.specs.Series.{doublings}
use Rattle.series.proofs.double.Given as goal

abbrev pub invariant-loop : goal.invariant-loop
invariant-loop l = doublings (l.m - l.counter) l.c0 l.c1 ≡ doublings l.fn.m l.fn.c0 l.fn.c1
