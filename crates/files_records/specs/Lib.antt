-- Layer 5: records of any width, in a run of words and in a file.
pub mod Records
pub mod Cases
