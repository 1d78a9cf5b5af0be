-- How long a result file can be; and that a file may be cut where the program cuts it.
pub mod Longest
pub mod Cut
