-- Calls of the C face, computed from the contracts of `kelubashi`.
pub mod FigureCases
