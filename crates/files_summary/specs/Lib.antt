-- Layer 5: a summary beside the states. Read the files in this order.
pub mod Entries
pub mod Changes
pub mod Kept
pub mod Cases
