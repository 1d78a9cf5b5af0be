-- What the layers above learn of the root as a number, `root_of`.
use mathlib.Core.Path.{◌≡◌, refl, sym, subst}
use Prim.Native.Nat.{ℕ, ◌<◌}
use native.Mathlib.Omega.{arith}
use borrow.Author.Tests.{le-leb, lt-leb, eq-eqb, ne_eqb}
use lib.Dec.{T}
use lib.Ieee.{Float, nan, binary64, fits, of_bits, to_bits}
use lib.Ieee.Bits.{of_bits-to_bits}
use lib.Ieee.Positive.{positive}
use Rattle.bits.specs.Words.{infinity, minus_zero}
use Rattle.bits.specs.Root.{NearestRoot, RootAnswer, nearest_word, root_refusal_of, root_word_of, root_refusal, root_of}
use Rattle.bits.proofs.Doubles.{word_positive, positive_word}
use Rattle.bits.proofs.Exists.{nearest_word_lem}

-- A NaN is refused, and its root's figure is +0.
pub root_of-nan : (x : Float) → x ≡ nan → (9 ≡ root_refusal x) × (of_bits binary64 0 ≡ root_of x)
unfolding root_of to_bits
root_of-nan x e = subst (λ (y : Float). (9 ≡ root_refusal y) × (of_bits binary64 0 ≡ root_of y)) (sym e) (refl, refl)

above_zero : (w : ℕ) → 0 < w → w < infinity → root_word_of w ≡ nearest_word w
unfolding root_word_of
above_zero w p h =
    let z : w ≡ 0 → ⊥ = λ e. omega arith in
    simp (lt-leb infinity w h, ne_eqb w 0 z)

-- The root of a finite double above zero is not refused, and is a finite double above zero.
pub root_positive : (x : Float) → T (fits binary64 x) → T (positive x) → (root_refusal x ≡ 0) × T (positive (root_of x))
unfolding root_of
root_positive x f p =
    let w = to_bits binary64 x in
    let b = positive_word w (subst (λ (y : Float). T (positive y)) (sym (of_bits-to_bits binary64 x f)) p) in
    let n = nearest_word_lem w b.0 b.1 in (
      simp (lt-leb infinity w b.1),
      subst (λ (r : ℕ). T (positive (of_bits binary64 r))) (sym (above_zero w b.0 b.1)) (word_positive (nearest_word w) n.positive n.bounded),
    )

-- The computed answer is the one that the comparison of squares allows, at every word.
pub computed : (w : ℕ) → RootAnswer w (root_refusal_of w) (root_word_of w)
unfolding root_word_of
computed w =
    record {
      plus_zero = λ e. (rw (lt-leb infinity w (omega arith)), rw (lt-leb infinity w (omega arith), eq-eqb w 0 e));
      minus_zero_lem = λ e. (rw (le-leb infinity w (omega arith), eq-eqb w minus_zero e), rw (le-leb infinity w (omega arith)));
      above_zero = λ p h. (
        rw (lt-leb infinity w h),
        subst (λ (r : ℕ). NearestRoot w r) (sym (above_zero w p h)) (nearest_word_lem w p h),
      );
      otherwise = λ i z. (rw (le-leb infinity w i, ne_eqb w minus_zero z), rw (le-leb infinity w i));
    }
