-- 512 divisions by 4 bring any finite L to |L| ≤ 1. The bound that falls: after a division |L| ≤ 2^(j+2) has become |L| ≤ 2^j, since rounding keeps the
-- order and 2^j is a double; a finite double starts below 2^1024.
use mathlib.Core.Path.{◌≡◌, refl, sym, ◌∙◌, ap, subst}
use mathlib.Core.Bool.{Bool, true, false, cond, ◌&&◌, ◌||◌, true≢false}
use Prim.Native.Nat.{ℕ, zero, suc, ◌+◌, ◌*◌, ◌%◌, ◌^◌, ◌≤◌, ◌<◌, zero-le}
use native.Mathlib.Nat.{le_trans, le_of_eq, le_of_lt, le_of_mul-le-mul_right, mul-one, one-mul, mul-pos, zero-mul}
use native.Mathlib.Omega.{arith}
use lib.Dec.{T, ltb, leb, eqb, ltb→lt, eqb→eq, lit<}
use lib.Pow.{pow-add, pow-lt}
use lib.IntN.{ℤ}
use borrow.Author.Tests.{le-ltb}
use lib.Ieee.{Float, nan, inf, fin, Format, binary64, prec, emax, low, up, down, odd, units, round, le, lt, div, of_bits, fits, unlike}
use lib.Ieee.Fits.{down_pos, and_r}
use lib.Ieee.Exact.{HasValue, round_exact}
use lib.Ieee.Order.{round_mono}
use Rattle.bits.specs.Arithmetic.{◌⊘◌, is_finite, magnitude}
use Rattle.series.specs.Constants.{n4}
use Rattle.series.specs.Series.{beyond_one, reduced_from}

-- ---- one step, by whether |L| > 1
pub stays : (most : ℕ) (again : Bool) (l : Float) (m : ℕ) → again ≡ false → reduced_from most again l m ≡ record { l = l; m = m }
unfolding reduced_from
stays zero again l m e = refl
stays (suc k) false l m e = refl
stays (suc k) true l m e = absurd (let z : ◌≡◌ {A = ℕ} 0 1 = cc in omega arith)

-- ---- a bound on |L|: finite, and at most 2 ^ j
abbrev pub Within : ℕ → Float → Type 0
Within j nan = ⊥
Within j (inf s) = ⊥
Within j (fin s m e) = m * up e ≤ 2 ^ j * down e

or_le : (a b : ℕ) (c : Bool) → T (ltb a b || (eqb a b && c)) → a ≤ b
or_le a b c t = go (ltb a b) (eqb a b) c (ltb→lt a b) (eqb→eq a b) t
  where
    go : (x y z : Bool) → (T x → a < b) → (T y → a ≡ b) → T (x || (y && z)) → a ≤ b
    go true y z f g t = le_of_lt (f tt)
    go false true z f g t = le_of_eq (g tt)
    go false false z f g t = absurd t

-- from the order of doubles
below : (j : ℕ) (l z : Float) → T (le (magnitude l) z) → HasValue z false (2 ^ j) 1 → Within j l
unfolding le
below j nan z t v = absurd t
below j (inf s) nan t v = absurd v
below j (inf s) (inf u) t v = absurd v
below j (inf s) (fin u n d) t v = absurd t
below j (fin s m e) nan t v = absurd v
below j (fin s m e) (inf u) t v = absurd v
below j (fin s m e) (fin true n d) t v = absurd (true≢false v.0)
below j (fin s m e) (fin false n d) t v =
    let h : m * up e * down d ≤ n * up d * down e = or_le _ _ _ t in
    let w : n * up d * down e ≡ 2 ^ j * down d * down e = ap (λ (k : ℕ). k * down e) (sym (mul-one (n * up d)) ∙ v.1) in
    le_of_mul-le-mul_right (omega arith) (down_pos d)

-- ---- rounding and the sign
magnitude_odd : (d : ℕ) (s : Bool) (q k l : ℕ) → magnitude (odd d s q k l) ≡ odd d false q k l
unfolding odd
magnitude_odd d s zero k l = refl
magnitude_odd d s (suc q) k l = refl

magnitude_cond : (b s : Bool) (d q k l : ℕ) → magnitude (cond b (odd d s q k l) (inf s)) ≡ cond b (odd d false q k l) (inf false)
magnitude_cond true s d q k l = magnitude_odd d s q k l
magnitude_cond false s d q k l = refl

magnitude_units : (f : Format) (s : Bool) (q k : ℕ) → magnitude (units f s q k) ≡ units f false q k
unfolding units
magnitude_units f s q k = magnitude_cond (ltb (q * 2 ^ k) (2 ^ (low f + suc (emax f)))) s (suc (prec f)) q k (low f)

magnitude_round : (f : Format) (s : Bool) (a b : ℕ) → magnitude (round f s a b) ≡ round f false a b
unfolding round
magnitude_round f s a b = magnitude_units f s _ _

power : (j : ℕ) → j < 1024 → HasValue (round binary64 false (2 ^ j) 1) false (2 ^ j) 1
power j h = round_exact binary64 false (2 ^ j) 1 1 (j + 1074) (lit< tt) (lit< tt)
    (subst (λ (k : ℕ). k < 2 ^ 2098) (sym (one-mul (2 ^ (j + 1074)))) (pow-lt {j = 2098} (omega arith)))
    (sym (mul-one (1 * 2 ^ (j + 1074)) ∙ one-mul (2 ^ (j + 1074)) ∙ pow-add 2 j 1074))

-- So what is rounded is no more than a power of two that it was no more than.
pub rounded : (j : ℕ) (s : Bool) (a c : ℕ) → j < 1024 → 0 < c → a ≤ 2 ^ j * c → Within j (round binary64 s a c)
rounded j s a c J C h =
    below j (round binary64 s a c) (round binary64 false (2 ^ j) 1)
    (subst (λ (x : Float). T (le x (round binary64 false (2 ^ j) 1))) (sym (magnitude_round binary64 s a c)) (round_mono binary64 a c (2 ^ j) 1 C (lit< tt) (omega arith)))
    (power j J)

-- ---- one division
quarter : (s : Bool) (m : ℕ) (e : ℤ) → fin s m e ⊘ n4 ≡ round binary64 (unlike s false) (m * up e * 1) (4 * down e)
unfolding div of_bits
quarter s m e = refl

falls : (j : ℕ) (l : Float) → j < 1024 → Within (j + 2) l → Within j (l ⊘ n4)
falls j nan h u = absurd u
falls j (inf s) h u = absurd u
falls j (fin s m e) h u =
    let w : 2 ^ (j + 2) * down e ≡ 2 ^ j * 4 * down e = ap (λ (k : ℕ). k * down e) (pow-add 2 j 2) in
    rw (quarter s m e) (rounded j (unlike s false) (m * up e * 1) (4 * down e) h (mul-pos (lit< tt) (down_pos e)) (omega arith))

-- ---- at the start and at the end
starts : (l : Float) → T (fits binary64 l) → is_finite l ≡ true → Within 1024 l
unfolding fits
starts nan f g = absurd (true≢false (sym g))
starts (inf s) f g = absurd (true≢false (sym g))
starts (fin s zero e) f g = le_trans (le_of_eq (zero-mul (up e))) zero-le
starts (fin s (suc m) e) f g =
    le_of_lt
    (ltb→lt (suc m * up e) (2 ^ 1024 * down e)
    (and_r (eqb (suc m % 2) 1 && ltb (suc m) (2 ^ 53) && leb (down e) (2 ^ 1074)) (ltb (suc m * up e) (2 ^ 1024 * down e)) f))

pub ends : (l : Float) → Within 0 l → beyond_one l ≡ false
unfolding beyond_one lt of_bits
ends nan u = absurd u
ends (inf s) u = absurd u
ends (fin s m e) u = le-ltb (1 * down e) (m * up e * 1) (subst (λ (k : ℕ). k ≤ 1 * down e) (sym (mul-one (m * up e))) u)

two_more : (k : ℕ) → suc k + suc k ≡ k + k + 2
two_more k = omega arith

reaches : (k : ℕ) (again : Bool) (l : Float) (m : ℕ) → k ≤ 512 → again ≡ beyond_one l → Within (k + k) l → beyond_one (reduced_from k again l m).l ≡ false
unfolding reduced_from
reaches zero again l m h e u = ends l u
reaches (suc k) false l m h e u = sym e
reaches (suc k) true l m h e u =
    reaches k (beyond_one (l ⊘ n4)) (l ⊘ n4) (m + 1) (omega arith) refl (falls (k + k) l (omega arith) (subst (λ (n : ℕ). Within n l) (two_more k) u))

pub suffices : (l : Float) → T (fits binary64 l) → is_finite l ≡ true → beyond_one (reduced_from 512 (beyond_one l) l 0).l ≡ false
suffices l f g = reaches 512 (beyond_one l) l 0 (omega arith) refl (starts l f g)

-- ---- more divisions than are needed change nothing
pub settled : (k j : ℕ) (again : Bool) (l : Float) (m : ℕ) → again ≡ beyond_one l → beyond_one (reduced_from k again l m).l ≡ false → reduced_from (k + j) again l m ≡ reduced_from k again l m
unfolding reduced_from
settled zero j again l m e h = stays (0 + j) again l m (e ∙ h)
settled (suc k) j false l m e h = stays (suc k + j) false l m refl
settled (suc k) j true l m e h =
    let d : suc k + j ≡ suc (k + j) = omega arith in
    ap (λ (n : ℕ). reduced_from n true l m) d ∙ settled k j (beyond_one (l ⊘ n4)) (l ⊘ n4) (m + 1) refl h

-- ---- an infinity divided by 4 is the same infinity
pub infinite : (k : ℕ) (s : Bool) (m n : ℕ) → m + k ≡ n → reduced_from k true (inf s) m ≡ record { l = inf s; m = n }
unfolding reduced_from beyond_one lt div of_bits
infinite zero s m n e = let d : m ≡ n = omega arith in ap (λ (i : ℕ). reduced_from 0 true (inf s) i) d
infinite (suc k) true m n e = infinite k true (m + 1) n (omega arith)
infinite (suc k) false m n e = infinite k false (m + 1) n (omega arith)
