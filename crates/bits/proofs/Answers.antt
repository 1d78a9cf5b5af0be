-- What `root_of` answers at a finite word above zero, from what `packed_root` ensures.
use mathlib.Core.Path.{◌≡◌, refl, sym, ap, ◌∙◌}
use Prim.Native.Nat.{ℕ, ◌+◌, ◌-◌, ◌*◌, ◌/◌, ◌%◌, ◌^◌, ◌≤◌, ◌<◌}
use native.Mathlib.Nat.{mul_assoc}
use native.Mathlib.Omega.{arith}
use lib.Pow.{pow-add}
use Rattle.bits.specs.Words.{units, infinity, field_of, digits_of}
use Rattle.bits.specs.Root.{NearestRoot, RootAnswer}
use Rattle.bits.proofs.Units.{units_at, small}

-- What `packed_root` ensures of its result.
abbrev pub Packed : ℕ → ℕ → ℕ → Type 0
Packed m e r = (b : ℕ) → units b * 2 ^ 52 ≡ m * 2 ^ e → NearestRoot b r

finite : (b r : ℕ) → 0 < b → b < infinity → NearestRoot b r → RootAnswer b 0 r
finite b r p h n =
    record {
      plus_zero = λ e. absurd (omega arith);
      minus_zero_lem = λ e. absurd (omega arith);
      above_zero = λ _ _. (refl, n);
      otherwise = λ i _. absurd (omega arith);
    }

module _ (b r : ℕ) where
  pub subnormal_nearest : 0 < b → b < 2 ^ 52 → (m e : ℕ) → m * 2 ^ e ≡ digits_of b * 2 ^ 52 → Packed m e r → NearestRoot b r
  subnormal_nearest p s m e h k =
      let w : b % 2 ^ 52 ≡ b = omega arith in
      k b (omega (arith, small b (omega arith), h))

  pub normal_nearest : 2 ^ 52 ≤ b → b < infinity → Packed (digits_of b + 2 ^ 52) (field_of b + 51) r → NearestRoot b r
  normal_nearest s t k =
      let h = b / 2 ^ 52 - 1 in
      let n = b % 2 ^ 52 + 2 ^ 52 in
      let w : b ≡ h * 2 ^ 52 + n = omega arith in
      let f : h + 52 ≡ b % 2 ^ 63 / 2 ^ 52 + 51 = omega arith in
      k b
      (ap (λ (z : ℕ). z * 2 ^ 52) (ap units w ∙ units_at h n (omega arith) (omega arith))
      ∙ mul_assoc n (2 ^ h) (2 ^ 52) ∙ ap (λ (z : ℕ). n * z) (sym (pow-add 2 h 52)) ∙ ap (λ (z : ℕ). n * 2 ^ z) f)

  pub subnormal : b < 2 ^ 63 → field_of b ≡ 0 → (digits_of b ≡ 0 → ⊥) → (m e : ℕ) → m * 2 ^ e ≡ digits_of b * 2 ^ 52 → Packed m e r → RootAnswer b 0 r
  subnormal s x t m e h k =
      let p : 0 < b = omega arith in
      finite b r p (omega arith) (subnormal_nearest p (omega arith) m e h k)

  pub normal : b < 2 ^ 63 → 1 ≤ field_of b → field_of b ≤ 2046 → Packed (digits_of b + 2 ^ 52) (field_of b + 51) r → RootAnswer b 0 r
  normal s x y k =
      let l : 2 ^ 52 ≤ b = omega arith in
      finite b r (omega arith) (omega arith) (normal_nearest l (omega arith) k)
