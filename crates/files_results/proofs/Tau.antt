-- Where the time or the epoch isn't finite, neither is τ.
use Prim.Native.Nat.{ℕ}
use mathlib.Core.Bool.{true, false, ◌&&◌, true≢false}
use mathlib.Core.Path.{◌≡◌, refl}
use lib.Ieee.{Float, nan, inf, fin, binary64, sub, of_bits, to_bits}
use Rattle.bits.specs.Arithmetic.{◌⊖◌, is_finite}
use Rattle.files_results.specs.Requests.{tau_of}

difference : (x y : Float) → (is_finite x && is_finite y) ≡ false → is_finite (x ⊖ y) ≡ false
unfolding sub
difference nan y h = refl
difference (inf s) nan h = refl
difference (inf true) (inf true) h = refl
difference (inf true) (inf false) h = refl
difference (inf false) (inf true) h = refl
difference (inf false) (inf false) h = refl
difference (inf s) (fin t n d) h = refl
difference (fin s m e) nan h = refl
difference (fin s m e) (inf t) h = refl
difference (fin s m e) (fin t n d) h = absurd (true≢false h)

as_word : (x : Float) → is_finite x ≡ false → is_finite (of_bits binary64 (to_bits binary64 x)) ≡ false
unfolding of_bits to_bits
as_word nan h = refl
as_word (inf true) h = refl
as_word (inf false) h = refl
as_word (fin s m e) h = absurd (true≢false h)

pub not_finite_difference : (time epoch : ℕ) → (is_finite (of_bits binary64 time) && is_finite (of_bits binary64 epoch)) ≡ false →
    is_finite (of_bits binary64 (tau_of time epoch)) ≡ false
not_finite_difference time epoch h = as_word (of_bits binary64 time ⊖ of_bits binary64 epoch) (difference (of_bits binary64 time) (of_bits binary64 epoch) h)
