-- Searches, computed from the definitions of `search`.
pub mod SearchCases
