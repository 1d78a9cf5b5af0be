-- Layer 5: what a check of a file finds; the walk over words; a count with its records, and the file's end.
pub mod Checks
