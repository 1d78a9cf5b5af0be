-- The computed root is the one that is nearest, so what `RootAnswer` allows is one number and one word.
use mathlib.Core.Path.{◌≡◌, sym, ap, ◌∙◌}
use mathlib.Core.Bool.{Bool, cond}
use Prim.Native.Nat.{ℕ, zero, suc, ◌+◌, ◌^◌, ◌≤◌, ◌<◌}
use native.Mathlib.Nat.{lt_irrefl, pow-suc}
use native.Mathlib.Decide.{dec_lt, dec_le, ℕ_discrete}
use native.Mathlib.Omega.{arith}
use borrow.Author.Tests.{lt-ltb, le-ltb, le-leb, lt-leb, eq-eqb, ne_eqb}
use Rattle.bits.specs.Words.{infinity, minus_zero}
use Rattle.bits.specs.Root.{root_squared, middle_squared, last_below, nearest_word, NearestRoot, RootAnswer, root_refusal_of, root_word_of}
use Rattle.bits.proofs.Units.{middle_grows}

found : (k goal w r : ℕ) → w ≤ r → r < w + 2 ^ k → middle_squared r < goal → goal < middle_squared (r + 1) → last_below k goal w ≡ r
unfolding last_below
found zero goal w r a b l h = omega arith
found (suc k) goal w r a b l h = elim (dec_lt (middle_squared (w + 2 ^ k)) goal) [
  | yes y ↦
      let up : w + 2 ^ k ≤ r = elim (dec_le (w + 2 ^ k) r) [
        | yes g ↦ g
        | no g ↦ absurd (lt_irrefl goal (omega (arith, middle_grows (r + 1) (w + 2 ^ k) (omega arith))))
      ] in
      ap (λ (t : Bool). last_below k goal (cond t (w + 2 ^ k) w)) (lt-ltb (middle_squared (w + 2 ^ k)) goal y)
      ∙ found k goal (w + 2 ^ k) r up (omega (arith, pow-suc 2 k)) l h
  | no n ↦
      let down : r < w + 2 ^ k = elim (dec_lt r (w + 2 ^ k)) [
        | yes g ↦ g
        | no g ↦ absurd (lt_irrefl goal (omega (arith, middle_grows (w + 2 ^ k) r (omega arith))))
      ] in
      ap (λ (t : Bool). last_below k goal (cond t (w + 2 ^ k) w)) (le-ltb (middle_squared (w + 2 ^ k)) goal (omega arith))
      ∙ found k goal w r a down l h
]

pub is_nearest_word : (b r : ℕ) → NearestRoot b r → r ≡ nearest_word b
unfolding nearest_word
is_nearest_word b r n = sym (found 63 (root_squared b) 0 r (omega arith) (omega (arith, n.bounded)) n.low n.high)

-- So two words that are nearest to the root of b are the same.
pub one_nearest : (b r s : ℕ) → NearestRoot b r → NearestRoot b s → r ≡ s
one_nearest b r s p q = is_nearest_word b r p ∙ sym (is_nearest_word b s q)

-- What is answered at b is `root_refusal_of b` and `root_word_of b`; and that word is a finite double's.
pub answered : (b c r : ℕ) → RootAnswer b c r → (c ≡ root_refusal_of b) × (r ≡ root_word_of b) × (r < infinity)
unfolding root_word_of
answered b c r a = elim (dec_le infinity b) [
  | yes i ↦
      let t = le-leb infinity b i in
      elim (ℕ_discrete b minus_zero) [
        | yes z ↦ let x = a.minus_zero_lem z in (x.0 ∙ sym (rw (t, eq-eqb b minus_zero z)), x.1 ∙ sym (rw t), omega (arith, x.1))
        | no z ↦ let x = a.otherwise i z in (x.0 ∙ sym (rw (t, ne_eqb b minus_zero z)), x.1 ∙ sym (rw t), omega (arith, x.1))
      ]
  | no f ↦
      let t = lt-leb infinity b (omega arith) in
      elim (ℕ_discrete b 0) [
        | yes z ↦ let x = a.plus_zero z in (x.0 ∙ sym (rw t), x.1 ∙ sym (rw (t, eq-eqb b 0 z)), omega (arith, x.1))
        | no z ↦
            let x = a.above_zero (omega arith) (omega arith) in
            (x.0 ∙ sym (rw t), is_nearest_word b r x.1 ∙ sym (rw (t, ne_eqb b 0 z)), x.1.bounded)
      ]
]
