-- Document 01, "Results and partials": A11 to A33, from U, and what they divide by.
use Rattle.std.specs.Prelude.{List, [], ◌∷◌, Float}
use Rattle.std.specs.Float.Ieee.{neg}
use Rattle.bits.specs.Arithmetic.{◌⊕◌, ◌⊖◌, ◌⊗◌, ◌⊘◌, n1}
use Rattle.states_arcs.specs.declared.figures.Arc.{Arc}
use Rattle.states_partials.specs.declared.matrix.Matrix.{Matrix}

-- "With r³ = (r·r)·r and r0³ likewise"
abbrev pub cube : Float → Float
cube r = (r ⊗ r) ⊗ r

-- "A11 = ((c0/(r·r0)+1/(r0·r0))+1/(r·r))·f' − ((μ·μ)·U)/(r³·r0³)
--  A12 = (f'·s1+(g'−1)/r)/r; A13 = ((g'−1)·s1)/r − (μ·U)/r³
--  A21 = −((f'·s1+(f−1)/r0)/r0); A22 = −(f'·s2); A23 = −((g'−1)·s2)
--  A31 = ((f−1)·s1)/r0 − (μ·U)/r0³; A32 = (f−1)·s2; A33 = g·s2−U"
abbrev pub matrix_from : (mu r0 r c0 s1 s2 f g fprime gprime u : Float) → Matrix
matrix_from mu r0 r c0 s1 s2 f g fprime gprime u =
    record {
      a11 = ((c0 ⊘ (r ⊗ r0) ⊕ n1 ⊘ (r0 ⊗ r0)) ⊕ n1 ⊘ (r ⊗ r)) ⊗ fprime ⊖ ((mu ⊗ mu) ⊗ u) ⊘ (cube r ⊗ cube r0);
      a12 = (fprime ⊗ s1 ⊕ (gprime ⊖ n1) ⊘ r) ⊘ r;
      a13 = ((gprime ⊖ n1) ⊗ s1) ⊘ r ⊖ (mu ⊗ u) ⊘ cube r;
      a21 = neg ((fprime ⊗ s1 ⊕ (f ⊖ n1) ⊘ r0) ⊘ r0);
      a22 = neg (fprime ⊗ s2);
      a23 = neg ((gprime ⊖ n1) ⊗ s2);
      a31 = ((f ⊖ n1) ⊗ s1) ⊘ r0 ⊖ (mu ⊗ u) ⊘ cube r0;
      a32 = (f ⊖ n1) ⊗ s2;
      a33 = g ⊗ s2 ⊖ u;
    }

unfoldable pub matrix_of : Arc → (u : Float) → Matrix
matrix_of a u =
    matrix_from a.start.initial.mu a.start.initial.r0 a.r a.c.c0 a.s.s1 a.s.s2
    a.factors.f a.factors.g a.factors.fprime a.factors.gprime u

-- The divisors of A11; then the further ones of A12, A13, A21 and A31.
abbrev pub matrix_divisors : (r0 r : Float) → List Float
matrix_divisors r0 r = (r ⊗ r0) ∷ (r0 ⊗ r0) ∷ (r ⊗ r) ∷ (cube r ⊗ cube r0) ∷ r ∷ cube r ∷ r0 ∷ cube r0 ∷ []
