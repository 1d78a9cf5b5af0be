-- Layer 5: what a word of a file may be, the formats as tables, and where everything stands in an element file. Read the files in this order.
pub mod Kinds
pub mod Elements
pub mod Shapes
pub mod Rows
pub mod Cases
