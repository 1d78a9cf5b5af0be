-- Layer 4, whole revolutions. Read the files in this order.
pub mod Floor
pub mod Revolutions
pub mod Cases
