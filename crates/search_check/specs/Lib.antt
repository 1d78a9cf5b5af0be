-- Layer 3: whether an anomaly that somebody proposes is one that a search may answer.
pub mod Passing
pub mod Right
