-- What the answer of a call of read or write means.
pub mod Calls
