-- Document 01, P5, for every α and ψ whose L is +0, and three whole cases, computed here from the definitions. The figures of the three come from an
-- independent program.
use Rattle.std.specs.Prelude.{◌≡◌, refl, ℕ, Float}
use Rattle.std.proofs.Common.{sym, subst}
use Rattle.std.specs.Float.{binary64}
use Rattle.std.specs.Float.Ieee.{add, sub, mul, div, lt, of_bits}
use Rattle.bits.specs.Arithmetic.{n0, n1, half}
use Rattle.series.specs.Series.{
  first_l,
  beyond_one,
  reduced_from,
  reduced,
  nested,
  c4_of,
  c5_of,
  at_reduced,
  doublings,
  quotients_of,
  coefficients_from,
  coefficients_of,
  sums_of,
}
use Rattle.series.specs.declared.figures.Anomaly.{Anomaly}
use Rattle.series.specs.declared.figures.Coefficients.{Coefficients}

-- "P5 L = +0: c0 = c1 = 1, c2 = 1/2."
abbrev pub P5 : Coefficients → Type 0
P5 c = (c.c0 ≡ n1) × (c.c1 ≡ n1) × (c.c2 ≡ half)

at_zero : P5 (coefficients_from n0 (reduced n0))
unfolding add mul div lt of_bits beyond_one reduced_from nested c4_of c5_of at_reduced
at_zero = (refl, refl, refl)

pub p5 : (alpha : Float) (psi : Anomaly) → first_l alpha psi ≡ n0 → P5 (coefficients_of alpha psi)
unfolding coefficients_of
p5 alpha psi zero = subst (λ (l : Float). P5 (coefficients_from l (reduced l))) (sym zero) at_zero

-- The two ways to it: ψ = +0 and α = +0, each with 1 for the other figure.
pub p5_anomaly : P5 (coefficients_of n1 (record { 0 = n0 }))
unfolding mul of_bits
p5_anomaly = p5 n1 (record { 0 = n0 }) refl

pub p5_alpha : P5 (coefficients_of n0 (record { 0 = n1 }))
unfolding mul of_bits
p5_alpha = p5 n0 (record { 0 = n1 }) refl

-- The words of c0 to c5 and of s1 to s3, for an α and a ψ given by their words.
abbrev number : ℕ → Float
number = of_bits binary64

abbrev Figures : (alpha psi c0 c1 c2 c3 c4 c5 s1 s2 s3 : ℕ) → Type 0
Figures alpha psi c0 c1 c2 c3 c4 c5 s1 s2 s3 =
    let c = coefficients_of (number alpha) (record { 0 = number psi }) in
    (c ≡ record { c0 = number c0; c1 = number c1; c2 = number c2; c3 = number c3; c4 = number c4; c5 = number c5 })
    × (sums_of (record { 0 = number psi }) c ≡ record { s1 = number s1; s2 = number s2; s3 = number s3 })

-- α = -0.3, ψ = 1.7, so m = 0; α = -1.9, ψ = 7.3, so m = 4; α = 2.5, ψ = -3.1, so m = 3.
cases :
    Figures 0xbfd3333333333333 0x3ffb333333333333
    0x3fe31a0b0c15c374 0x3feb9286505b179c 0x3fddc0f8871ca21f 0x3fc46d69cf1d6f0c 0x3fa4b9ebc6a51e51 0x3f80b7f444b1abd3
    0x3ff76fbef780a0de 0x3ff57f42ebdbba40 0x3fe91706e35124df
    × Figures 0xbffe666666666666 0x401d333333333333
    0xbfe9b6999617d5f2 0xbfae49b8ae6ee208 0x3f923d7502dbd1f9 0x3f856c6b35018d20 0x3f7381a1a2aa82f4 0x3f5946cdac861ed3
    0xbfdba345525ec7da 0x3fee601af0ae3ab6 0x4010470e11de10ae
    × Figures 0x4004000000000000 0xc008cccccccccccd
    0x4050d017a3c327ac 0x402b701e6d606470 0x40060f92d553da44 0x3fe0f0e51ce33990 0x3fb80e598d16fac2 0x3f8eebeb2ac44e66
    0xc04543b12e5de771 0x403a8025d2d1d913 0xc02f8b070281c439
unfolding add sub mul div lt of_bits beyond_one reduced_from nested c4_of c5_of at_reduced doublings quotients_of coefficients_of sums_of
cases = ((refl, refl), (refl, refl), (refl, refl))
