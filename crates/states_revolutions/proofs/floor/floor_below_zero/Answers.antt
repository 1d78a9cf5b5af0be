-- Where the size is at most 2^40, its whole part, or one more, is a double exactly, and with a minus the floor; else the floor is beyond.
use Rattle.std.proofs.Common.{arith}
use Rattle.states_revolutions.proofs.FloorLaws.{a_double, below_zero, below_zero_beyond}
use Rattle.states_revolutions.proofs.floor.floor_below_zero.Goals as goal

pub truncating_f64_to_u64-whole-requires : goal.truncating_f64_to_u64-whole-requires
truncating_f64_to_u64-whole-requires c = let b = below_zero _ c.requires c.if-size.true in record { lower_bound = b.above; upper_bound = b.under }

pub int_to_float-whole : goal.int_to_float-whole
int_to_float-whole c = (a_double _ _ c.truncating_f64_to_u64-whole.ensures (below_zero _ c.requires c.if-size.true).small).0

pub overflow_add-result : goal.overflow_add-result
overflow_add-result c = omega (arith, c.truncating_f64_to_u64-whole.ensures, (below_zero _ c.requires c.if-size.true).small)

pub int_to_float-result : goal.int_to_float-result
int_to_float-result c = (a_double _ _ c.truncating_f64_to_u64-whole.ensures (below_zero _ c.requires c.if-size.true).small).1

pub returns-then-whole-size : goal.returns-then-whole-size
returns-then-whole-size c =
    let e = c.truncating_f64_to_u64-whole.ensures in
    rw e ((below_zero _ c.requires c.if-size.true).more (rw e at c.if-whole-size.true))

pub int_to_float-result-then-size : goal.int_to_float-result-then-size
int_to_float-result-then-size c = (a_double _ _ c.truncating_f64_to_u64-whole.ensures (below_zero _ c.requires c.if-size.true).small).0

pub returns-then-size : goal.returns-then-size
returns-then-size c =
    let e = c.truncating_f64_to_u64-whole.ensures in
    rw e ((below_zero _ c.requires c.if-size.true).same (rw e at c.if-whole-size.false))

pub returns : goal.returns
returns c = below_zero_beyond _ c.requires c.if-size.false
