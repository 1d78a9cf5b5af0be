-- Little-endian words in runs of bytes.
pub mod Bytes
pub mod Cases
