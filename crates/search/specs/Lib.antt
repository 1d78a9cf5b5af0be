-- Layer 3: the anomaly search, and what it promises its caller.
pub mod Search
pub mod SearchPromise
