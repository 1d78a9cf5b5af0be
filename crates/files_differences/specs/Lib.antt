-- Layer 5: what a comparison says of two figures, of two rows and of two result files. Read the files in this order.
pub mod Distance
pub mod Told
pub mod ToldPromise
pub mod Cases
