-- Layer 1: the arithmetic of doubles, their words, runs of them, and the square root. Read the files in this order.
pub mod Refusal
pub mod Choice
pub mod Arithmetic
pub mod Words
pub mod Line
pub mod Runs
pub mod Root
pub mod Cases
pub mod OneAnswer
