-- Document 01, "Results and partials": the 36 partials, from A11 to A33.
use Rattle.std.specs.Prelude.{Bool, true, false, List, [], ◌∷◌, ◌++◌, ℕ, zero, suc, ◌/◌, ◌%◌, eqb, ltb, Float}
use Rattle.bits.specs.Choice.{pick}
use Rattle.bits.specs.Arithmetic.{◌⊕◌, ◌⊖◌, ◌⊗◌, n0, n1}
use Rattle.states_start.specs.declared.figures.Vector.{Vector}
use Rattle.states_arcs.specs.declared.figures.Factors.{Factors}
use Rattle.states_arcs.specs.declared.figures.Arc.{Arc}
use Rattle.states_partials.specs.U.{u_of}
use Rattle.states_partials.specs.Matrix.{matrix_of}
use Rattle.states_partials.specs.declared.matrix.Matrix.{Matrix}

-- "Let p, w be a component of the result's position and velocity, q, u one of the start's. The partial of p by q is
-- f·I + ((A21·p·q+A22·p·u)+(A31·w·q+A32·w·u))": the bracket, with a, b, c, d in the places of A21, A22, A31, A32.
abbrev pub bracket : (a b c d p w q u : Float) → Float
bracket a b c d p w q u = (a ⊗ p ⊗ q ⊕ b ⊗ p ⊗ u) ⊕ (c ⊗ w ⊗ q ⊕ d ⊗ w ⊗ u)

unfoldable pub plus_of : (k unit a b c d p w q u : Float) → Float
plus_of k unit a b c d p w q u = k ⊗ unit ⊕ bracket a b c d p w q u

unfoldable pub minus_of : (k unit a b c d p w q u : Float) → Float
minus_of k unit a b c d p w q u = k ⊗ unit ⊖ bracket a b c d p w q u

-- "I is 1 for like components, else +0."
unfoldable pub unit_of : (i j : ℕ) → Float
unit_of i j = pick (eqb i j) n1 n0

-- Component 0 is x, 1 is y, 2 is z.
unfoldable pub component_of : Vector → ℕ → Float
component_of v i = pick (eqb i 0) v.x (pick (eqb i 1) v.y v.z)

-- "p by u is g·I plus the same with A22 A23 A32 A33 in those places; w by q is f'·I minus it with A11 A12 A21 A22; w by u is g'·I minus it with A12 A13 A22
-- A23." The first two arguments say whether it is the partial of p or of w, and whether by q or by u.
unfoldable pub partial_of : (of_position by_position : Bool) → Factors → Matrix → (unit p w q u : Float) → Float
partial_of true true k a unit p w q u = plus_of k.f unit a.a21 a.a22 a.a31 a.a32 p w q u
partial_of true false k a unit p w q u = plus_of k.g unit a.a22 a.a23 a.a32 a.a33 p w q u
partial_of false true k a unit p w q u = minus_of k.fprime unit a.a11 a.a12 a.a21 a.a22 p w q u
partial_of false false k a unit p w q u = minus_of k.gprime unit a.a12 a.a13 a.a22 a.a23 p w q u

-- "Rows: position then velocity; columns likewise": rows 0 to 2 are of position, 3 to 5 of velocity, and so are the columns.
unfoldable pub entry_of : Arc → Matrix → (row column : ℕ) → Float
entry_of arc a row column =
    partial_of (ltb row 3) (ltb column 3) arc.factors a (unit_of (row % 3) (column % 3))
    (component_of arc.end.position (row % 3))
    (component_of arc.end.velocity (row % 3))
    (component_of arc.start.state.position (column % 3))
    (component_of arc.start.state.velocity (column % 3))

-- The first n of a row of numbers.
unfoldable pub up_to : (n : ℕ) → (ℕ → Float) → List Float
up_to zero f = []
up_to (suc n) f = up_to n f ++ (f n ∷ [])

-- "row by row": six to a row.
abbrev pub row_by_row : Arc → Matrix → List Float
row_by_row arc a = up_to 36 (λ k. entry_of arc a (k / 6) (k % 6))

unfoldable pub entries_of : Arc → List Float
entries_of arc = row_by_row arc (matrix_of arc (u_of arc))
