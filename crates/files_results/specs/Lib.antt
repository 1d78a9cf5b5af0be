-- Layer 5: the words of a request, the result file, that it can be compared, the rooms for it, and the marked cases. Read the files in this order.
pub mod Requests
pub mod Results
pub mod Own
pub mod Cases
pub mod Marked
