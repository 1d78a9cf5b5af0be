-- Every finite word above zero has a nearest root, and `nearest_word` computes it.
use mathlib.Core.Path.{◌≡◌, subst}
use Prim.Native.Nat.{ℕ, zero, suc, ◌+◌, ◌*◌, ◌/◌, ◌%◌, ◌^◌, ◌≤◌, ◌<◌}
use native.Mathlib.Nat.{le_trans}
use native.Mathlib.Decide.{dec_le, dec_lt}
use native.Mathlib.Omega.{arith}
use Rattle.bits.specs.Words.{infinity, field_of, digits_of}
use Rattle.bits.specs.Root.{NearestRoot, nearest_word}
use Rattle.bits.proofs.Leading.{moved_up}
use Rattle.bits.proofs.Nearest.{packed}
use Rattle.bits.proofs.Answers.{Packed, subnormal_nearest, normal_nearest}
use Rattle.bits.proofs.Computed.{is_nearest_word}

-- The root of a whole number, rounded down.
abbrev Floor : ℕ → ℕ → Type 0
Floor n q = (q * q ≤ n) × (n < (q + 1) * (q + 1))

floor_root : (n : ℕ) → (q : ℕ) × Floor n q
floor_root zero = (0, omega arith)
floor_root (suc n) = next (floor_root n)
  where
    next : (q : ℕ) × Floor n q → (q : ℕ) × Floor (suc n) q
    next (q, (lo, hi)) = elim (dec_le ((q + 1) * (q + 1)) (suc n)) [
      | yes g ↦ (q + 1, (g, omega arith))
      | no g ↦ (q, (omega arith, omega arith))
    ]

packs : (m e : ℕ) → 2 ^ 52 ≤ m → m < 2 ^ 53 → e ≤ 2097 → (r : ℕ) × Packed m e r
packs m e M N E = from (floor_root (m * (1 + e % 2) * 2 ^ 54))
  where
    from : (q : ℕ) × Floor (m * (1 + e % 2) * 2 ^ 54) q → (r : ℕ) × Packed m e r
    from (q, (lo, hi)) = ((e / 2 + 485) * 2 ^ 52 + (q + 1) / 2, packed m e q M N E lo hi)

some_root : (b : ℕ) → 0 < b → b < infinity → (r : ℕ) × NearestRoot b r
some_root b p h = elim (dec_lt b (2 ^ 52)) [
  | yes s ↦
      let t : digits_of b ≡ b = omega arith in
      let n = moved_up (digits_of b) (omega arith) (omega arith) in
      let k = packs _ _ n.1 n.2 (le_trans n.3 (omega arith)) in
      (k.0, subnormal_nearest b k.0 p s _ _ n.0 k.1)
  | no s ↦
      let k = packs (digits_of b + 2 ^ 52) (field_of b + 51) (omega arith) (omega arith) (omega arith) in
      (k.0, normal_nearest b k.0 (omega arith) h k.1)
]

pub nearest_word_lem : (b : ℕ) → 0 < b → b < infinity → NearestRoot b (nearest_word b)
nearest_word_lem b p h =
    let s = some_root b p h in
    subst (λ (r : ℕ). NearestRoot b r) (is_nearest_word b s.0 s.1) s.1
