-- Layer 4: whether a row of another station is accepted; then what that promises. Read the files in this order.
pub mod Row
pub mod RowPromise
