-- Layer 3, its points. Read the files in this order.
pub mod Residual
pub mod Trial
pub mod Meaning
