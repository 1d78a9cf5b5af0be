-- Layer 5: a file of another station's rows, and a verdict for each. Read the files in this order.
pub mod RowsFile
pub mod RowsPromise
pub mod Marked
