-- Layer 2: the coefficients and sums of an anomaly. Read the files in this order.
pub mod Constants
pub mod Series
pub mod Cases
