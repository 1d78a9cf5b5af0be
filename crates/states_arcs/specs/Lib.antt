-- Layer 4: the arc of a found anomaly, and its results. Read the files in this order.
pub mod Results
pub mod Cases
