-- What the code finds is the floor, over plain numbers: first of a fraction a/c, then of a double.
use Rattle.std.proofs.Common.{◌≡◌, ℕ, zero, suc, ◌+◌, ◌-◌, ◌*◌, ◌/◌, ◌^◌, ◌<◌, ◌≤◌, Bool, true, false, cond, ◌&&◌, ◌||◌, T, Some, None, eqb, ltb, ℤ, pos, negsuc, neg_ℤ, nat_abs, sym, refl, ap, ◌∙◌, subst, true≢false, mul-le-mul_right, div-lt_iff_lt-mul, lt_of_mul-lt-mul_right, mul-lt-mul_of_pos_right, le-div_iff_mul-le, div-mul-le_self, arith, le→leb, lt→ltb, ltb-false, ltb-true, le-ltb, lt-ltb, eq-eqb, ne_eqb, le-leb}
use native.Mathlib.Nat.{lt-div-mul-add, div-eq_of_lt-le, div-eq_of_lt}
use native.Mathlib.Decide.{dec_le, dec_lt}
use borrow.Author.Tests.{lt-leb}
use lib.Ieee.{Float, nan, inf, fin, binary64, prec, emax, low, up, down, odd, units, round, of_int, of_bits, in_float, to_unsigned, lt, le, eq, neg}
use lib.Ieee.Exact.{HasValue}
use lib.Ieee.Back.{round_whole}
use lib.Ieee.Fits.{down_pos, round_is}
use Rattle.bits.specs.Arithmetic.{n0}
use Rattle.states_revolutions.specs.Floor.{within, floor_of}

-- ---- Of a fraction.
module _ (a c : ℕ) (p : 0 < c) where
  quotient_low : a / c * c ≤ a
  quotient_low = div-mul-le_self a c

  quotient_high : a < a / c * c + c
  quotient_high = lt-div-mul-add p

  -- A quotient by way of the product that it is held to.
  pub quotient_below : (n : ℕ) → a < n * c → a / c < n
  quotient_below n h = (div-lt_iff_lt-mul p).1 h

  -- Rounded up, a quotient is one more where something is left, and the same where nothing is.
  pub one_more : a / c * c < a → (a + (c - 1)) / c ≡ a / c + 1
  one_more h = div-eq_of_lt-le c (omega (arith, quotient_high)) (omega (arith, quotient_high))

  pub no_more : a ≤ a / c * c → (a + (c - 1)) / c ≡ a / c
  no_more h = div-eq_of_lt-le c (omega (arith, quotient_low)) (omega arith)

-- ---- Of a double.

-- A whole number so small is a double exactly.
pub a_double : (k n : ℕ) → k ≡ n → n ≤ 2 ^ 40 → T (in_float binary64 (pos k)) × T (in_float binary64 (pos (k + 1)))
unfolding in_float
a_double k n e h = (le→leb k (2 ^ 53) (omega arith), le→leb (k + 1) (2 ^ 53) (omega arith))

-- The double of −n is that of n with its sign turned.
neg_odd : (d q k l : ℕ) → neg (odd d false q k l) ≡ odd d true q k l
unfolding neg odd
neg_odd d zero k l = refl
neg_odd d (suc q) k l = refl

neg_either : (b : Bool) (x y : Float) → neg x ≡ y → neg (cond b x (inf false)) ≡ cond b y (inf true)
unfolding neg
neg_either true x y e = e
neg_either false x y e = refl

neg_units : (q k : ℕ) → neg (units binary64 false q k) ≡ units binary64 true q k
unfolding units
neg_units q k =
    neg_either (ltb (q * 2 ^ k) (2 ^ (low binary64 + suc (emax binary64)))) (odd (suc (prec binary64)) false q k (low binary64)) (odd (suc (prec binary64)) true q k (low binary64))
    (neg_odd (suc (prec binary64)) q k (low binary64))

neg_round : (a : ℕ) → neg (round binary64 false a 1) ≡ round binary64 true a 1
neg_round a = ap neg (round_is binary64 false a 1) ∙ neg_units _ _ ∙ sym (round_is binary64 true a 1)

pub minus_whole : (k : ℕ) → neg (of_int binary64 (pos (k + 1))) ≡ of_int binary64 (negsuc k)
unfolding of_int
minus_whole k = let s : k + 1 ≡ suc k = omega arith in neg_round (k + 1) ∙ ap (λ (n : ℕ). round binary64 true n 1) s

-- A whole number within reach is its own floor's figure; one that is not has none.
in_reach : (n : ℤ) → nat_abs n ≤ 2 ^ 40 → Some (of_int binary64 n) ≡ within n
in_reach n h = rw (le-leb (nat_abs n) (2 ^ 40) h)

out_of_reach : (n : ℤ) → 2 ^ 40 < nat_abs n → None ≡ within n
out_of_reach n h = rw (lt-leb (nat_abs n) (2 ^ 40) h)

-- 2^40 as the code has it, and the next whole number.
abbrev pub limit : Float
limit = of_bits binary64 0x4270000000000000

abbrev pub beyond : Float
beyond = of_bits binary64 0x4270000000001000

-- ---- Not below zero.
module _ (m : ℕ) (e : ℤ) where
  cut_short : m * up e < 1099511627777 * down e → to_unsigned 64 (fin false m e) ≡ m * up e / down e
  unfolding to_unsigned
  cut_short h = let q = quotient_below (m * up e) (down e) (down_pos e) 1099511627777 h in omega arith

  floor_plus : m * up e < 1099511627777 * down e → Some (of_int binary64 (pos (m * up e / down e))) ≡ floor_of (fin false m e)
  unfolding floor_of
  floor_plus h = let q = quotient_below (m * up e) (down e) (down_pos e) 1099511627777 h in in_reach (pos (m * up e / down e)) (omega arith)

  plus_beyond : 1099511627777 * down e ≤ m * up e → None ≡ floor_of (fin false m e)
  unfolding floor_of
  plus_beyond h = out_of_reach (pos (m * up e / down e)) ((le-div_iff_mul-le (down_pos e)).1 h)

-- What the code owes where it cuts a double's fraction off, and what it then answers.
pub record FromZero (x : Float) : Type 0 where
  pub above : T (lt (fin true 1 (pos 0)) x)
  pub under : T (lt x (fin false 1 (pos 64)))
  pub small : to_unsigned 64 x ≤ 2 ^ 40
  pub answer : Some (of_int binary64 (pos (to_unsigned 64 x))) ≡ floor_of x

-- A zero with a minus is cut to 0, which is its floor.
minus_nothing : (m : ℕ) (e : ℤ) → m * up e ≡ 0 → Some (of_int binary64 (pos 0)) ≡ floor_of (fin true m e)
unfolding floor_of
minus_nothing m e z =
    let q : (m * up e + (down e - 1)) / down e ≡ 0 = div-eq_of_lt (let p = down_pos e in omega arith) in
    in_reach (pos 0) (omega arith) ∙ ap (λ (k : ℕ). within (neg_ℤ (pos k))) (sym q)

pub from_zero : (x : Float) → lt x n0 ≡ false → lt x beyond ≡ true → FromZero x
unfolding lt of_bits to_unsigned
from_zero nan h g = absurd (true≢false (sym g))
from_zero (inf true) h g = absurd (true≢false h)
from_zero (inf false) h g = absurd (true≢false (sym g))
from_zero (fin true m e) h g =
    let z : m * up e * 1 + 0 * down e ≤ 0 = ltb-false 0 (m * up e * 1 + 0 * down e) h in
    let p = down_pos e in
    record {
      above = lt→ltb (m * up e * 1) (1 * down e) (omega arith);
      under = lt→ltb 0 (m * up e * 1 + 18446744073709551616 * down e) (omega arith);
      small = omega arith;
      answer = minus_nothing m e (omega arith);
    }
from_zero (fin false m e) h g =
    let l : m * up e * 1 < 1099511627777 * down e = ltb-true (m * up e * 1) (1099511627777 * down e) g in
    let k = cut_short m e (omega arith) in
    let q = quotient_below (m * up e) (down e) (down_pos e) 1099511627777 (omega arith) in
    let p = down_pos e in
    record {
      above = lt→ltb 0 (1 * down e + m * up e * 1) (omega arith);
      under = lt→ltb (m * up e * 1) (18446744073709551616 * down e) (omega arith);
      small = omega arith;
      answer = ap (λ (n : ℕ). Some (of_int binary64 (pos n))) k ∙ floor_plus m e (omega arith);
    }

pub from_zero_beyond : (x : Float) → lt x n0 ≡ false → lt x beyond ≡ false → None ≡ floor_of x
unfolding lt of_bits floor_of
from_zero_beyond nan h g = refl
from_zero_beyond (inf s) h g = refl
from_zero_beyond (fin true m e) h g =
    let z : m * up e * 1 + 1099511627777 * down e ≤ 0 = ltb-false 0 (m * up e * 1 + 1099511627777 * down e) g in
    let p = down_pos e in
    absurd (omega arith)
from_zero_beyond (fin false m e) h g =
    let l : 1099511627777 * down e ≤ m * up e * 1 = ltb-false (m * up e * 1) (1099511627777 * down e) g in
    plus_beyond m e (omega arith)

-- ---- Below zero.

-- A whole number held to a fraction, as doubles and as products.
ltb_scaled : (a b c : ℕ) → 0 < c → ltb (a * c) (b * c) ≡ ltb a b
ltb_scaled a b c p = elim (dec_lt a b) [
  | yes l ↦ lt-ltb (a * c) (b * c) (mul-lt-mul_of_pos_right l p) ∙ sym (lt-ltb a b l)
  | no g ↦ let l : b ≤ a = omega arith in le-ltb (a * c) (b * c) (mul-le-mul_right c l) ∙ sym (le-ltb a b l)
]

whole_below : (k m : ℕ) (e : ℤ) → k ≤ 2 ^ 53 → lt (of_int binary64 (pos k)) (fin false m e) ≡ ltb (k * down e) (m * up e)
unfolding lt of_int
whole_below k m e h = go (round binary64 false k 1) (round_whole binary64 false k h)
  where
    go : (x : Float) → HasValue x false k 1 → lt x (fin false m e) ≡ ltb (k * down e) (m * up e)
    go nan v = absurd v
    go (inf t) v = absurd v
    go (fin t n d) v =
        let value : n * up d * 1 * down e ≡ k * down d * down e = ap (λ (x : ℕ). x * down e) v.1 in
        let left : n * up d * down e ≡ k * down e * down d = omega arith in
        ap (λ (b : Bool). lt (fin b n d) (fin false m e)) v.0
        ∙ ap (λ (a : ℕ). ltb a (m * up e * down d)) left
        ∙ ltb_scaled (k * down e) (m * up e) (down d) (down_pos d)

module _ (m : ℕ) (e : ℤ) where
  rounded_up : (k : ℕ) → (m * up e + (down e - 1)) / down e ≡ k + 1 → k + 1 ≤ 2 ^ 40 → Some (neg (of_int binary64 (pos (k + 1)))) ≡ floor_of (fin true m e)
  unfolding floor_of
  rounded_up k q h =
      let s : k + 1 ≡ suc k = omega arith in
      ap Some (minus_whole k) ∙ in_reach (negsuc k) (omega arith) ∙ ap (λ (n : ℕ). within (neg_ℤ (pos n))) (sym (q ∙ s))

  minus_beyond : 1099511627776 * down e < m * up e → None ≡ floor_of (fin true m e)
  unfolding floor_of
  minus_beyond h =
      let p = down_pos e in
      go ((m * up e + (down e - 1)) / down e) ((le-div_iff_mul-le p).1 (omega arith))
    where
      go : (k : ℕ) → 1099511627777 ≤ k → None ≡ within (neg_ℤ (pos k))
      go zero q = absurd (omega arith)
      go (suc k) q = out_of_reach (negsuc k) q

  -- By whether the size's whole part is below the size.
  abbrev part : ℕ
  part = m * up e / down e

  module _ (h : m * up e ≤ 1099511627776 * down e) where
    exactly : part ≤ 2 ^ 53
    exactly = let p = down_pos e in let q = quotient_below (m * up e) (down e) p 1099511627777 (omega arith) in omega arith

    pub by_more : lt (of_int binary64 (pos part)) (fin false m e) ≡ true → Some (neg (of_int binary64 (pos (part + 1)))) ≡ floor_of (fin true m e)
    by_more t =
        let l = ltb-true (part * down e) (m * up e) (sym (whole_below part m e exactly) ∙ t) in
        let under : part < 1099511627776 = lt_of_mul-lt-mul_right (down e) (omega arith) in
        rounded_up part (one_more (m * up e) (down e) (down_pos e) l) (omega arith)

    pub by_same : 0 < m * up e → lt (of_int binary64 (pos part)) (fin false m e) ≡ false → Some (neg (of_int binary64 (pos part))) ≡ floor_of (fin true m e)
    by_same z t = go part refl
      where
        l : m * up e ≤ part * down e
        l = ltb-false (part * down e) (m * up e) (sym (whole_below part m e exactly) ∙ t)

        go : (k : ℕ) → part ≡ k → Some (neg (of_int binary64 (pos k))) ≡ floor_of (fin true m e)
        go zero q = absurd (let w : m * up e ≤ 0 * down e = subst (λ (x : ℕ). m * up e ≤ x * down e) q l in omega arith)
        go (suc k) q =
            let s : k + 1 ≡ suc k = omega arith in
            let p = down_pos e in
            let u = quotient_below (m * up e) (down e) p 1099511627777 (omega arith) in
            subst (λ (x : ℕ). Some (neg (of_int binary64 (pos x))) ≡ floor_of (fin true m e)) s
            (rounded_up k (no_more (m * up e) (down e) (down_pos e) l ∙ q ∙ sym s) (omega arith))

-- What the code owes and answers below zero, where k is the size without its fraction.
pub record BelowZero (x : Float) (k : ℕ) : Type 0 where
  pub above : T (lt (fin true 1 (pos 0)) (neg x))
  pub under : T (lt (neg x) (fin false 1 (pos 64)))
  pub small : k ≤ 2 ^ 40
  pub more : lt (of_int binary64 (pos k)) (neg x) ≡ true → Some (neg (of_int binary64 (pos (k + 1)))) ≡ floor_of x
  pub same : lt (of_int binary64 (pos k)) (neg x) ≡ false → Some (neg (of_int binary64 (pos k))) ≡ floor_of x

-- `le` of two doubles that are not below zero, over their products.
at_most : (a b : ℕ) → ltb a b || (eqb a b && true) ≡ true → a ≤ b
at_most a b h = elim (dec_le a b) [
  | yes l ↦ l
  | no g ↦ absurd (true≢false (sym h ∙ rw (le-ltb a b (omega arith), ne_eqb a b (λ z. omega arith))))
]

more_than : (a b : ℕ) → ltb a b || (eqb a b && true) ≡ false → b < a
more_than a b h = elim (dec_le a b) [
  | yes l ↦ elim (dec_lt a b) [
    | yes k ↦ absurd (true≢false (sym (rw (lt-ltb a b k)) ∙ h))
    | no g ↦ let z : a ≡ b = omega arith in absurd (true≢false (sym (rw (le-ltb a b (omega arith), eq-eqb a b z)) ∙ h))
  ]
  | no g ↦ omega arith
]

not_below : (m : ℕ) (e : ℤ) → lt (fin false m e) n0 ≡ true → ⊥
unfolding lt of_bits
not_below m e h = let l : m * up e * 1 < 0 * down e = ltb-true (m * up e * 1) (0 * down e) h in omega arith

pub below_zero : (x : Float) → lt x n0 ≡ true → le (neg x) limit ≡ true → BelowZero x (to_unsigned 64 (neg x))
unfolding lt le eq neg of_bits to_unsigned
below_zero nan h g = absurd (true≢false (sym h))
below_zero (inf true) h g = absurd (true≢false (sym g))
below_zero (inf false) h g = absurd (true≢false (sym h))
below_zero (fin false m e) h g = absurd (not_below m e h)
below_zero (fin true m e) h g =
    let a = m * up e in
    let c = down e in
    let p = down_pos e in
    let z : 0 < a * 1 + 0 * c = ltb-true 0 (a * 1 + 0 * c) h in
    let l : a * 1 ≤ 1099511627776 * c = at_most (a * 1) (1099511627776 * c) g in
    let k : to_unsigned 64 (fin false m e) ≡ a / c = cut_short m e (omega arith) in
    let q : a / c < 1099511627777 = quotient_below a c p 1099511627777 (omega arith) in
    record {
      above = lt→ltb 0 (1 * c + a * 1) (omega arith);
      under = lt→ltb (a * 1) (18446744073709551616 * c) (omega arith);
      small = omega arith;
      more = subst (λ (n : ℕ). lt (of_int binary64 (pos n)) (fin false m e) ≡ true → Some (neg (of_int binary64 (pos (n + 1)))) ≡ floor_of (fin true m e)) (sym k) (by_more m e (omega arith));
      same = subst (λ (n : ℕ). lt (of_int binary64 (pos n)) (fin false m e) ≡ false → Some (neg (of_int binary64 (pos n))) ≡ floor_of (fin true m e)) (sym k) (by_same m e (omega arith) (omega arith));
    }

pub below_zero_beyond : (x : Float) → lt x n0 ≡ true → le (neg x) limit ≡ false → None ≡ floor_of x
unfolding lt le eq neg of_bits floor_of
below_zero_beyond nan h g = refl
below_zero_beyond (inf s) h g = refl
below_zero_beyond (fin false m e) h g = absurd (not_below m e h)
below_zero_beyond (fin true m e) h g = let l = more_than (m * up e * 1) (1099511627776 * down e) g in minus_beyond m e (omega arith)
