-- The line of doubles: the order and the equality of the numbers are those of their places, and a word and its place give one another back.
use mathlib.Core.Path.{◌≡◌, refl, sym, ap, ap₂, ◌∙◌, subst}
use mathlib.Core.Bool.{Bool, true, false, not, ◌&&◌, true≢false}
use Prim.Native.Nat.{ℕ, ◌+◌, ◌-◌, ◌*◌, ◌%◌, ◌^◌, ◌≤◌, ◌<◌}
use native.Mathlib.Nat.{le_of_eq, mul-le-mul_right, le_of_mul-le-mul_right}
use native.Mathlib.Decide.{dec_le, dec_lt}
use native.Mathlib.Omega.{arith}
use Rattle.std.proofs.Math.Bool.{and-true, and-false}
use borrow.Author.Tests.{lt-ltb, le-ltb, ltb-false, lt-leb, le-leb, eq-eqb, ne_eqb}
use lib.Dec.{ltb, leb, eqb}
use lib.Ieee.{Float, is_nan, nan, inf, fin, binary64, lt, eq, below, level, up, down, of_bits, of_fields}
use lib.Ieee.Bits.{nan_bits_is, nan_bits_above}
use lib.Ieee.Exact.{HasValue}
use lib.Ieee.Order.{transfer}
use lib.Ieee.Positive.{den_pos}
use lib.Pow.{pow_pos}
use Rattle.bits.specs.Choice.{pick}
use Rattle.bits.specs.Words.{field_of, scaled, units, infinity, minus_zero}
use Rattle.bits.specs.Line.{is_nan_word, line_of, word_on}
use Rattle.bits.proofs.Units.{grows, step, small}
use Rattle.bits.proofs.Doubles.{by_field}

-- ---- Places and words, on either side of the middle.
pub line_clear : (w : ℕ) → w < minus_zero → line_of w ≡ minus_zero + w
line_clear w h = ap (λ (b : Bool). pick b (minus_zero + w) (2 ^ 64 - w)) (lt-ltb w minus_zero h)

pub line_set : (w : ℕ) → minus_zero ≤ w → line_of w ≡ 2 ^ 64 - w
line_set w h = ap (λ (b : Bool). pick b (minus_zero + w) (2 ^ 64 - w)) (le-ltb w minus_zero h)

pub word_left : (p : ℕ) → p < minus_zero → word_on p ≡ minus_zero + (minus_zero - p) % minus_zero
word_left p h = ap (λ (b : Bool). pick b (minus_zero + (minus_zero - p) % minus_zero) (p - minus_zero)) (lt-ltb p minus_zero h)

pub word_right : (p : ℕ) → minus_zero ≤ p → word_on p ≡ p - minus_zero
word_right p h = ap (λ (b : Bool). pick b (minus_zero + (minus_zero - p) % minus_zero) (p - minus_zero)) (le-ltb p minus_zero h)

-- Every place is below 2 ^ 64, and above 0 where the word is one of 64 bits.
pub below_line : (w : ℕ) → line_of w < 2 ^ 64
below_line w = elim (dec_lt w minus_zero) [
  | yes l ↦ let e = line_clear w l in omega arith
  | no g ↦ let e = line_set w (omega arith) in omega arith
]

pub above_line : (w : ℕ) → w < 2 ^ 64 → 0 < line_of w
above_line w h = elim (dec_lt w minus_zero) [
  | yes l ↦ let e = line_clear w l in omega arith
  | no g ↦ let e = line_set w (omega arith) in omega arith
]

-- A word comes back from its place, but that minus zero comes back as zero; and a place from its word.
pub word_back : (w : ℕ) → w < 2 ^ 64 → (w ≡ minus_zero → ⊥) → word_on (line_of w) ≡ w
word_back w h z = elim (dec_lt w minus_zero) [
  | yes l ↦ ap word_on (line_clear w l) ∙ word_right (minus_zero + w) (omega arith) ∙ (omega arith)
  | no g ↦ ap word_on (line_set w (omega arith)) ∙ word_left (2 ^ 64 - w) (omega arith) ∙ (omega arith)
]

pub zero_shown : word_on (line_of minus_zero) ≡ 0
zero_shown = refl

pub place_back : (p : ℕ) → 0 < p → p < 2 ^ 64 → line_of (word_on p) ≡ p
place_back p z h = elim (dec_lt p minus_zero) [
  | yes l ↦ ap line_of (word_left p l) ∙ line_set (minus_zero + (minus_zero - p) % minus_zero) (omega arith) ∙ (omega arith)
  | no g ↦ ap line_of (word_right p (omega arith)) ∙ line_clear (p - minus_zero) (omega arith) ∙ (omega arith)
]

-- ---- Tests of numbers that have the same outcome.
pub same_ltb : (x y a b : ℕ) → (y ≤ x → b ≤ a) → (b ≤ a → y ≤ x) → ltb x y ≡ ltb a b
same_ltb x y a b f g = elim (dec_le b a) [
  | yes l ↦ le-ltb x y (g l) ∙ sym (le-ltb a b l)
  | no n ↦ elim (dec_le y x) [
    | yes k ↦ absurd (n (f k))
    | no m ↦ lt-ltb x y (omega arith) ∙ sym (lt-ltb a b (omega arith))
  ]
]

-- x and y are to one another, and to zero, as a and b are.
record Alike (x y a b : ℕ) : Type 0 where
  rise : a ≤ b → x ≤ y
  rise_back : x ≤ y → a ≤ b
  fall : b ≤ a → y ≤ x
  fall_back : y ≤ x → b ≤ a
  zeros : a + b ≡ 0 → x + y ≡ 0
  zeros_back : x + y ≡ 0 → a + b ≡ 0

-- So signed numbers of these sizes compare alike.
below_alike : (s t : Bool) (x y a b : ℕ) → Alike x y a b → below s x t y ≡ below s a t b
below_alike false false x y a b h = same_ltb x y a b h.fall_back h.fall
below_alike false true x y a b h = refl
below_alike true false x y a b h =
    same_ltb 0 (x + y) 0 (a + b) (λ l. le_of_eq (h.zeros_back (omega arith))) (λ l. le_of_eq (h.zeros (omega arith)))
below_alike true true x y a b h = same_ltb y x b a h.rise_back h.rise

-- ---- The numbers x / d and y / e that are `units a` / c and `units b` / c: they are to one another as the words a and b are.
units_back : (a b : ℕ) → units a ≤ units b → a ≤ b
units_back a b h = elim (dec_le a b) [
  | yes l ↦ l
  | no g ↦ absurd (omega (arith, step b, grows (b + 1) a (omega arith)))
]

module _ (c : ℕ) (C : 0 < c) where
  at_most : (a b x y d e : ℕ) → x * c ≡ units a * d → y * c ≡ units b * e → a ≤ b → x * e ≤ y * d
  at_most a b x y d e p q l = transfer x y d e (units a) (units b) c c C C p q (mul-le-mul_right c (grows a b l))

  at_most_back : (a b x y d e : ℕ) → 0 < d → 0 < e → x * c ≡ units a * d → y * c ≡ units b * e → x * e ≤ y * d → a ≤ b
  at_most_back a b x y d e D E p q l =
      units_back a b (le_of_mul-le-mul_right (transfer (units a) (units b) c c x y d e D E (sym p) (sym q) l) C)

  zero_value : (e : ℕ) → 0 * c ≡ units 0 * e
  zero_value e = rw (small 0 (omega arith)) (omega arith)

  alike : (a b x y d e : ℕ) → 0 < d → 0 < e → x * c ≡ units a * d → y * c ≡ units b * e → Alike (x * e) (y * d) a b
  alike a b x y d e D E p q = record {
    rise = at_most a b x y d e p q;
    rise_back = at_most_back a b x y d e D E p q;
    fall = at_most b a y x e d q p;
    fall_back = at_most_back b a y x e d E D q p;
    zeros = λ z. omega (arith, at_most a 0 x 0 d e p (zero_value e) (omega arith), at_most b 0 y 0 e d q (zero_value d) (omega arith));
    zeros_back = λ z. omega (arith, at_most_back a 0 x 0 d e D E p (zero_value e) (omega arith), at_most_back b 0 y 0 e d E D q (zero_value d) (omega arith));
  }

-- ---- A number by its word without the sign bit, a, and its sign, s; c is 2 ^ 1074.
abbrev Number : Float → Bool → ℕ → ℕ → Type 0
Number nan s a c = ⊥
Number (inf t) s a c = (t ≡ s) × (a ≡ infinity)
Number (fin t m e) s a c = (t ≡ s) × ((a < infinity) × (m * up e * c ≡ units a * down e))

-- An infinity's word is above those of the finite numbers, and so compares as the infinity does.
below_infinite : (s t : Bool) (b : ℕ) → b < infinity → below s infinity t b ≡ s
below_infinite false false b h = le-ltb infinity b (omega arith)
below_infinite false true b h = refl
below_infinite true false b h = lt-ltb 0 (infinity + b) (omega arith)
below_infinite true true b h = lt-ltb b infinity h

infinite_below : (s t : Bool) (a : ℕ) → a < infinity → below s a t infinity ≡ not t
infinite_below false false a h = lt-ltb a infinity h
infinite_below false true a h = refl
infinite_below true false a h = lt-ltb 0 (a + infinity) (omega arith)
infinite_below true true a h = le-ltb infinity a (omega arith)

both_infinite : (s t : Bool) → below s infinity t infinity ≡ s && not t
both_infinite false false = refl
both_infinite false true = refl
both_infinite true false = refl
both_infinite true true = refl

-- Two numbers are ordered as their words are, the signs being minded.
lt_number : (x y : Float) (s t : Bool) (a b c : ℕ) → 0 < c → Number x s a c → Number y t b c → lt x y ≡ below s a t b
unfolding lt
lt_number nan y s t a b c C p q = absurd p
lt_number (inf u) nan s t a b c C p q = absurd q
lt_number (fin u m d) nan s t a b c C p q = absurd q
lt_number (inf u) (inf v) s t a b c C p q = rw (p.1, q.1) (ap₂ (λ (k l : Bool). k && not l) p.0 q.0 ∙ sym (both_infinite s t))
lt_number (inf u) (fin v n e) s t a b c C p q = rw p.1 (p.0 ∙ sym (below_infinite s t b q.1.0))
lt_number (fin u m d) (inf v) s t a b c C p q = rw q.1 (ap not q.0 ∙ sym (infinite_below s t a p.1.0))
lt_number (fin u m d) (fin v n e) s t a b c C p q =
    below_alike u v (m * up d * down e) (n * up e * down d) a b
    (alike c C a b (m * up d) (n * up e) (down d) (down e) (den_pos (fin u m d)) (den_pos (fin v n e)) p.1.1 q.1.1)
    ∙ ap₂ (λ (k l : Bool). below k a l b) p.0 q.0

of_value : (x : Float) (s : Bool) (a c : ℕ) → a < infinity → HasValue x s (units a) c → Number x s a c
of_value nan s a c h v = v
of_value (inf t) s a c h v = absurd v
of_value (fin t m e) s a c h v = (v.0, (h, v.1))

-- Every word that is no NaN's is a number's: a finite one's below infinity's word, an infinity's there.
finite_number : (w : ℕ) → w % 2 ^ 63 < infinity → Number (of_bits binary64 w) (leb (2 ^ 63) w) (w % 2 ^ 63) (2 ^ 1074)
unfolding units of_bits
finite_number w h =
    let s = leb (2 ^ 63) w in
    let t : w % 2 ^ 52 ≡ w % 2 ^ 63 % 2 ^ 52 = omega arith in
    of_value (of_bits binary64 w) s (w % 2 ^ 63) (2 ^ 1074) h
    (subst (λ (d : ℕ). HasValue (of_fields binary64 s (field_of w) (w % 2 ^ 52)) s (scaled (field_of w) d) (2 ^ 1074)) t (by_field s (field_of w) (w % 2 ^ 52) (omega arith)))

infinite_number : (w : ℕ) → w % 2 ^ 63 ≡ infinity → Number (of_bits binary64 w) (leb (2 ^ 63) w) (w % 2 ^ 63) (2 ^ 1074)
unfolding of_bits
infinite_number w h =
    let s = leb (2 ^ 63) w in
    let f : 2047 ≡ field_of w = omega arith in
    let t : 0 ≡ w % 2 ^ 52 = omega arith in
    subst (λ (x : Float). Number x s (w % 2 ^ 63) (2 ^ 1074)) (ap₂ (of_fields binary64 s) f t) (refl, h)

number : (w : ℕ) → is_nan_word w ≡ false → Number (of_bits binary64 w) (leb (2 ^ 63) w) (w % 2 ^ 63) (2 ^ 1074)
number w h =
    let k : w % 2 ^ 63 ≤ infinity = ltb-false infinity (w % 2 ^ 63) (sym (nan_bits_above binary64 w) ∙ nan_bits_is binary64 w ∙ h) in
    elim (dec_lt (w % 2 ^ 63) infinity) [
      | yes l ↦ finite_number w l
      | no g ↦ infinite_number w (omega arith)
    ]

-- ---- The place of a number, by its sign and its word without the sign bit.
abbrev placed : Bool → ℕ → ℕ
placed false a = minus_zero + a
placed true a = minus_zero - a

line_placed : (w : ℕ) → w < 2 ^ 64 → line_of w ≡ placed (leb (2 ^ 63) w) (w % 2 ^ 63)
line_placed w h = elim (dec_lt w minus_zero) [
  | yes l ↦
      let e : minus_zero + w ≡ minus_zero + w % 2 ^ 63 = omega arith in
      line_clear w l ∙ e ∙ sym (ap (λ (s : Bool). placed s (w % 2 ^ 63)) (lt-leb (2 ^ 63) w l))
  | no g ↦
      let k : minus_zero ≤ w = omega arith in
      let e : 2 ^ 64 - w ≡ minus_zero - w % 2 ^ 63 = omega arith in
      line_set w k ∙ e ∙ sym (ap (λ (s : Bool). placed s (w % 2 ^ 63)) (le-leb (2 ^ 63) w k))
]

-- Signed words compare as their places do.
below_placed : (s t : Bool) (a b : ℕ) → a < minus_zero → b < minus_zero → below s a t b ≡ ltb (placed s a) (placed t b)
below_placed false false a b h k = same_ltb a b (minus_zero + a) (minus_zero + b) (λ l. omega arith) (λ l. omega arith)
below_placed false true a b h k = sym (le-ltb (minus_zero + a) (minus_zero - b) (omega arith))
below_placed true false a b h k = same_ltb 0 (a + b) (minus_zero - a) (minus_zero + b) (λ l. omega arith) (λ l. omega arith)
below_placed true true a b h k = same_ltb b a (minus_zero - a) (minus_zero - b) (λ l. omega arith) (λ l. omega arith)

-- The order of the line is the order of the numbers.
pub in_order : (v w : ℕ) → v < 2 ^ 64 → w < 2 ^ 64 → is_nan_word v ≡ false → is_nan_word w ≡ false →
    lt (of_bits binary64 v) (of_bits binary64 w) ≡ ltb (line_of v) (line_of w)
in_order v w h k p q =
    lt_number (of_bits binary64 v) (of_bits binary64 w) (leb (2 ^ 63) v) (leb (2 ^ 63) w) (v % 2 ^ 63) (w % 2 ^ 63) (2 ^ 1074) (pow_pos 1074) (number v p) (number w q)
    ∙ below_placed (leb (2 ^ 63) v) (leb (2 ^ 63) w) (v % 2 ^ 63) (w % 2 ^ 63) (omega arith) (omega arith)
    ∙ sym (ap₂ ltb (line_placed v h) (line_placed w k))

-- ---- Equal is what neither is below: whole numbers, numbers with a sign, and doubles that are no NaNs.
neither : (a b : ℕ) → (eqb a b ≡ not (ltb a b) && not (ltb b a)) × (eqb a b ≡ not (ltb b a) && not (ltb a b))
neither a b = elim (dec_lt a b) [
  | yes l ↦ rw (lt-ltb a b l, le-ltb b a (omega arith), ne_eqb a b (λ e. omega arith)) (refl, refl)
  | no g ↦ elim (dec_lt b a) [
    | yes l ↦ rw (le-ltb a b (omega arith), lt-ltb b a l, ne_eqb a b (λ e. omega arith)) (refl, refl)
    | no k ↦ rw (le-ltb a b (omega arith), le-ltb b a (omega arith), eq-eqb a b (omega arith)) (refl, refl)
  ]
]

neither_zero : (a b : ℕ) → (eqb a b && eqb a 0 ≡ not (ltb 0 (b + a))) × (eqb a b && eqb a 0 ≡ not (ltb 0 (a + b)) && true)
neither_zero a b = elim (dec_lt 0 (a + b)) [
  | yes l ↦ rw (lt-ltb 0 (a + b) l, lt-ltb 0 (b + a) (omega arith)) (elim (dec_lt 0 a) [
    | yes k ↦ rw (ne_eqb a 0 (λ e. omega arith)) (and-false (eqb a b), and-false (eqb a b))
    | no k ↦ rw (ne_eqb a b (λ e. omega arith)) (refl, refl)
  ])
  | no g ↦ rw (le-ltb 0 (a + b) (omega arith), le-ltb 0 (b + a) (omega arith), eq-eqb a b (omega arith), eq-eqb a 0 (omega arith)) (refl, refl)
]

level_neither : (s t : Bool) (a b : ℕ) → level s a t b ≡ not (below s a t b) && not (below t b s a)
level_neither false false a b = and-true (eqb a b) ∙ (neither a b).0
level_neither false true a b = (neither_zero a b).0
level_neither true false a b = (neither_zero a b).1
level_neither true true a b = and-true (eqb a b) ∙ (neither a b).1

pub eq_neither : (x y : Float) → is_nan x ≡ false → is_nan y ≡ false → eq x y ≡ not (lt x y) && not (lt y x)
unfolding eq lt is_nan
eq_neither nan y p q = absurd (true≢false p)
eq_neither (inf s) nan p q = absurd (true≢false q)
eq_neither (fin s m e) nan p q = absurd (true≢false q)
eq_neither (inf true) (inf true) p q = refl
eq_neither (inf true) (inf false) p q = refl
eq_neither (inf false) (inf true) p q = refl
eq_neither (inf false) (inf false) p q = refl
eq_neither (inf true) (fin t n d) p q = refl
eq_neither (inf false) (fin t n d) p q = refl
eq_neither (fin s m e) (inf true) p q = refl
eq_neither (fin s m e) (inf false) p q = refl
eq_neither (fin s m e) (fin t n d) p q = level_neither s t (m * up e * down d) (n * up d * down e)

-- So equal places are equal numbers.
pub same_place : (v w : ℕ) → v < 2 ^ 64 → w < 2 ^ 64 → is_nan_word v ≡ false → is_nan_word w ≡ false →
    eq (of_bits binary64 v) (of_bits binary64 w) ≡ eqb (line_of v) (line_of w)
same_place v w h k p q =
    eq_neither (of_bits binary64 v) (of_bits binary64 w) p q ∙ ap₂ (λ (x y : Bool). not x && not y) (in_order v w h k p q) (in_order w v k h q p)
    ∙ sym (neither (line_of v) (line_of w)).0
