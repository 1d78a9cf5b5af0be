-- What each entry point leaves open; the calls as C has them, with their status, and calls that the checker computes.
pub mod OneWord
pub mod OneAnswers
pub mod Calls
pub mod Status
pub mod CallCases
