-- Layer 4: from eight words to an orbit and its start. Read the files in this order.
pub mod Vectors
pub mod Given
pub mod Initial
pub mod Cases
