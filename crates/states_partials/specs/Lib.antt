-- Layer 4: the partials of an arc, from U and A11 to A33 on. Read the files in this order.
pub mod U
pub mod Matrix
pub mod Entries
pub mod Partials
pub mod Cases
