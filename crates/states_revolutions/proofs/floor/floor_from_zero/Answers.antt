-- Where the double is below 2^40 + 1 its whole part is its floor, and a double exactly; else the floor is beyond.
use Rattle.states_revolutions.proofs.FloorLaws.{a_double, from_zero, from_zero_beyond}
use Rattle.states_revolutions.proofs.floor.floor_from_zero.Goals as goal

pub truncating_f64_to_u64-whole-requires : goal.truncating_f64_to_u64-whole-requires
truncating_f64_to_u64-whole-requires c = let f = from_zero _ c.requires c.if-x.true in record { lower_bound = f.above; upper_bound = f.under }

pub int_to_float-result : goal.int_to_float-result
int_to_float-result c = (a_double _ _ c.truncating_f64_to_u64-whole.ensures (from_zero _ c.requires c.if-x.true).small).0

pub returns-then-x : goal.returns-then-x
returns-then-x c = rw c.truncating_f64_to_u64-whole.ensures (from_zero _ c.requires c.if-x.true).answer

pub returns : goal.returns
returns c = from_zero_beyond _ c.requires c.if-x.false
