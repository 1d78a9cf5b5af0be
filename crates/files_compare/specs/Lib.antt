-- Layer 5: two result files compared. Read the files in this order.
pub mod Compare
pub mod ComparePromise
pub mod Marked
