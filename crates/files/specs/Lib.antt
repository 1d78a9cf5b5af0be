-- Layer 5: the element file, written, and what ties reading and writing. Read the files in this order.
pub mod Writer
pub mod Held
pub mod Cases
