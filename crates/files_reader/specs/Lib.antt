-- Layer 5: the reader of the element file.
pub mod Reader
pub mod Cases
