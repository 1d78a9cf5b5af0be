-- Words and the doubles of `lib.Ieee`: what the double of a word is, by its field.
use mathlib.Core.Path.{◌≡◌, refl, sym, ap, ◌∙◌, subst}
use mathlib.Core.Bool.{Bool, true, false, not, cond, ◌&&◌, ◌||◌, beq, true≢false}
use Prim.Native.Nat.{ℕ, zero, suc, ◌+◌, ◌*◌, ◌/◌, ◌%◌, ◌^◌, ◌≤◌, ◌<◌}
use native.Mathlib.Nat.{mul-one, zero-mul}
use native.Mathlib.Decide.{dec_le, dec_lt}
use native.Mathlib.Omega.{arith}
use borrow.Author.Tests.{le-ltb, lt-leb, le-leb, leb-true, ne_eqb, eq-eqb}
use lib.Dec.{T, leb, eqb}
use lib.Ieee.{Float, nan, inf, fin, binary64, eq, is_nan, nan_bits, of_bits, of_fields, odd, up, down}
use lib.Ieee.Bits.{nan_bits_above, is_true}
use lib.Ieee.Exact.{HasValue, odd_sign}
use lib.Ieee.Scale.{finite}
use lib.Ieee.Positive.{positive, den_pos, positive-finite, positive_of_value}
use lib.Pow.{pow_pos}
use Rattle.bits.specs.Arithmetic.{n0}
use Rattle.bits.specs.Words.{field_of, units, scaled, infinity}
use Rattle.bits.proofs.Units.{grows, small}

-- The NaN, and what `f64::from_bits` asks.
pub only_nan : (x : Float) → is_nan x ≡ true → x ≡ nan
unfolding is_nan
only_nan nan e = refl
only_nan (inf s) e = absurd (true≢false (sym e))
only_nan (fin s m k) e = absurd (true≢false (sym e))

pub finite_no_nan : (x : Float) → finite x ≡ true → T (not (is_nan x))
unfolding is_nan
finite_no_nan nan h = absurd (true≢false (sym h))
finite_no_nan (inf s) h = tt
finite_no_nan (fin s m e) h = tt

pub no_nan_word : (w : ℕ) → w % 2 ^ 63 ≤ infinity → T (not (nan_bits binary64 w))
no_nan_word w h = subst (λ (b : Bool). T (not b)) (sym (nan_bits_above binary64 w ∙ le-ltb infinity (w % 2 ^ 63) h)) tt

pub no_nan_bits : (w : ℕ) → field_of w ≤ 2046 → T (not (nan_bits binary64 w))
no_nan_bits w h = no_nan_word w (omega arith)

-- A field up to 2046 is a number's, with the sign s; 2047 is an infinity's or a NaN's.
pub by_field : (s : Bool) (x t : ℕ) → x ≤ 2046 → HasValue (of_fields binary64 s x t) s (scaled x t) (2 ^ 1074)
unfolding of_fields
by_field s zero t h = subst (λ (z : ℕ). HasValue (odd 53 s t 0 1074) s z (2 ^ 1074)) (mul-one t) (odd_sign 53 s t 0 1074)
by_field s (suc x) t h =
    subst (λ (b : Bool). HasValue (cond b (cond (eqb t 0) (inf s) nan) (odd 53 s (2 ^ 52 + t) x 1074)) s ((2 ^ 52 + t) * 2 ^ x) (2 ^ 1074))
    (sym (ne_eqb (suc x) 2047 (λ e. omega arith)))
    (odd_sign 53 s (2 ^ 52 + t) x 1074)

not_finite : (s : Bool) (x t : ℕ) → x ≡ 2047 → finite (of_fields binary64 s x t) ≡ false
unfolding of_fields
not_finite s zero t e = absurd (omega arith)
not_finite s (suc x) t e =
    ap (λ (b : Bool). finite (cond b (cond (eqb t 0) (inf s) nan) (odd 53 s (2 ^ 52 + t) x 1074))) (eq-eqb (suc x) 2047 e) ∙ special (eqb t 0)
  where
    special : (b : Bool) → finite (cond b (inf s) nan) ≡ false
    special true = refl
    special false = refl

has_finite : (x : Float) (s : Bool) (a c : ℕ) → HasValue x s a c → finite x ≡ true
has_finite nan s a c v = absurd v
has_finite (inf t) s a c v = absurd v
has_finite (fin t m e) s a c v = refl

-- A word's double is finite exactly where its field is not 2047.
pub finite_by_field : (w : ℕ) → finite (of_bits binary64 w) ≡ leb (field_of w) 2046
unfolding of_bits
finite_by_field w = elim (dec_le (field_of w) 2046) [
  | yes l ↦ has_finite (of_bits binary64 w) (leb (2 ^ 63) w) (scaled (field_of w) (w % 2 ^ 52)) (2 ^ 1074) (by_field (leb (2 ^ 63) w) (field_of w) (w % 2 ^ 52) l) ∙ sym (le-leb (field_of w) 2046 l)
  | no g ↦
      let e : field_of w ≡ 2047 = omega arith in
      not_finite (leb (2 ^ 63) w) (field_of w) (w % 2 ^ 52) e ∙ sym (lt-leb (field_of w) 2046 (omega arith))
]

-- A word's double is zero exactly where nothing but its sign bit may be set.
at_zero : (t : Bool) (n a c d : ℕ) → 0 < c → 0 < d → n * c ≡ a * d → eqb n 0 && (beq t false || eqb n 0) ≡ eqb a 0
at_zero true zero zero c d p q h = refl
at_zero false zero zero c d p q h = refl
at_zero t zero (suc a) c (suc d) p q h = absurd (omega arith)
at_zero t zero (suc a) c zero p q h = absurd (omega arith)
at_zero t (suc n) zero (suc c) d p q h = absurd (omega arith)
at_zero t (suc n) zero zero d p q h = absurd (omega arith)
at_zero t (suc n) (suc a) c d p q h = rw (ne_eqb (suc n) 0 (λ e. omega arith), ne_eqb (suc a) 0 (λ e. omega arith))

zero_by_value : (x : Float) (s : Bool) (a c : ℕ) → 0 < c → HasValue x s a c → eq x n0 ≡ eqb a 0
unfolding eq of_bits
zero_by_value nan s a c p v = absurd v
zero_by_value (inf t) s a c p v = absurd v
zero_by_value (fin t m e) s a c p v = rw (zero-mul (down e)) (at_zero t (m * up e * 1) a c (down e) p (den_pos (fin t m e)) (omega (arith, v.1)))

not_finite_not_zero : (x : Float) → finite x ≡ false → eq x n0 ≡ false
unfolding eq of_bits
not_finite_not_zero nan h = refl
not_finite_not_zero (inf s) h = refl
not_finite_not_zero (fin s m e) h = absurd (true≢false h)

scaled_zero : (x t : ℕ) → eqb (scaled x t) 0 ≡ eqb (x * 2 ^ 52 + t) 0
scaled_zero zero t = let e : t ≡ 0 * 2 ^ 52 + t = omega arith in ap (λ (n : ℕ). eqb n 0) e
scaled_zero (suc x) t = ne_eqb ((2 ^ 52 + t) * 2 ^ x) 0 (λ e. omega (arith, pow_pos x)) ∙ sym (ne_eqb (suc x * 2 ^ 52 + t) 0 (λ e. omega arith))

pub zero_by_word : (w : ℕ) → eq (of_bits binary64 w) n0 ≡ eqb (w % 2 ^ 63) 0
unfolding of_bits
zero_by_word w = elim (dec_le (field_of w) 2046) [
  | yes l ↦
      let e : field_of w * 2 ^ 52 + w % 2 ^ 52 ≡ w % 2 ^ 63 = omega arith in
      zero_by_value (of_bits binary64 w) (leb (2 ^ 63) w) (scaled (field_of w) (w % 2 ^ 52)) (2 ^ 1074) (pow_pos 1074) (by_field (leb (2 ^ 63) w) (field_of w) (w % 2 ^ 52) l)
      ∙ scaled_zero (field_of w) (w % 2 ^ 52) ∙ ap (λ (n : ℕ). eqb n 0) e
  | no g ↦
      let z : w % 2 ^ 63 ≡ 0 → ⊥ = λ e. omega arith in
      not_finite_not_zero (of_bits binary64 w) (finite_by_field w ∙ lt-leb (field_of w) 2046 (omega arith)) ∙ sym (ne_eqb (w % 2 ^ 63) 0 z)
]

-- `units` is what the double of a word is, in units of 2 ^ -1074: the words of this project and the doubles of the logic are the same numbers.
pub value : (w : ℕ) → w < infinity → HasValue (of_bits binary64 w) false (units w) (2 ^ 1074)
unfolding units of_bits
value w h =
    let s : leb (2 ^ 63) w ≡ false = lt-leb (2 ^ 63) w (omega arith) in
    let m : w % 2 ^ 63 ≡ w = omega arith in
    subst (λ (b : Bool). HasValue (of_fields binary64 b (w % 2 ^ 63 / 2 ^ 52) (w % 2 ^ 52)) false (units w) (2 ^ 1074)) (sym s)
    (subst (λ (v : ℕ). HasValue (of_fields binary64 false (v / 2 ^ 52) (w % 2 ^ 52)) false (units w) (2 ^ 1074)) (sym m)
    (by_field false (w / 2 ^ 52) (w % 2 ^ 52) (omega arith)))

-- ---- Finite and above zero, by the word.
pub word_positive : (w : ℕ) → 0 < w → w < infinity → T (positive (of_bits binary64 w))
word_positive w p h =
    positive_of_value (of_bits binary64 w) (units w) (2 ^ 1074) (value w h)
    (omega (arith, grows 1 w p, small 1 (omega arith)))

not_negative : (x : Float) (a c : ℕ) → HasValue x true a c → T (positive x) → ⊥
not_negative nan a c v p = v
not_negative (inf t) a c v p = v
not_negative (fin true m e) a c v p = p
not_negative (fin false m e) a c v p = true≢false (sym v.0)

clear_sign : (w : ℕ) → field_of w ≤ 2046 → T (positive (of_bits binary64 w)) → w < 2 ^ 63
unfolding of_bits
clear_sign w f p = elim (dec_lt w (2 ^ 63)) [
  | yes l ↦ l
  | no g ↦
      let s : leb (2 ^ 63) w ≡ true = le-leb (2 ^ 63) w (omega arith) in
      absurd (not_negative (of_bits binary64 w) _ _ (subst (λ (b : Bool). HasValue (of_fields binary64 b (field_of w) (w % 2 ^ 52)) true (scaled (field_of w) (w % 2 ^ 52)) (2 ^ 1074)) (sym s) (by_field true (field_of w) (w % 2 ^ 52) f)) p)
]

not_zero : (w : ℕ) → T (positive (of_bits binary64 w)) → w ≡ 0 → ⊥
unfolding of_bits
not_zero w p e = subst (λ (v : ℕ). T (positive (of_bits binary64 v))) e p

pub positive_word : (w : ℕ) → T (positive (of_bits binary64 w)) → (0 < w) × (w < infinity)
positive_word w p =
    let f : field_of w ≤ 2046 = leb-true (field_of w) 2046 (sym (finite_by_field w) ∙ is_true (finite (of_bits binary64 w)) (positive-finite (of_bits binary64 w) p)) in
    let l : w < 2 ^ 63 = clear_sign w f p in
    let z : w ≡ 0 → ⊥ = not_zero w p in
    (omega arith, omega arith)
