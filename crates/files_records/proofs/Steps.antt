-- What is known of i * w. `omega` multiplies `suc i * w` and `(i + j) * w` out by itself and takes `i * w` for an unknown; it does not know that more records have
-- more words, nor what a difference of counts comes to.
use Prim.Native.Nat.{ℕ, suc, ◌+◌, ◌-◌, ◌*◌, ◌/◌, ◌%◌, ◌<◌, ◌≤◌}
use native.Mathlib.Nat.{mul-le-mul_right, mul-le-mul, mul-add-div_right, mul-add-mod_self_right, div-eq_of_lt, mod-eq_of_lt, add-zero}
use native.Mathlib.Omega.{arith}
use mathlib.Core.Path.{◌≡◌, ap, sym, ◌∙◌}

pub more : (w : ℕ) {i j : ℕ} → i ≤ j → i * w ≤ j * w
more w h = mul-le-mul_right w h

-- Record i of n ends within them; and word j of it stands within them.
pub ends_within : (w i n : ℕ) → i < n → i * w + w ≤ n * w
ends_within w i n h = omega (arith, more w {i = suc i} {j = n} (omega arith))

pub stands_within : (w i n j : ℕ) → i < n → j < w → i * w + j < n * w
stands_within w i n j h k = omega (arith, ends_within w i n h)

-- So many records, and those that are left.
pub and_the_rest : (w i n : ℕ) → i ≤ n → i * w + (n - i) * w ≡ n * w
and_the_rest w i n h =
    let whole : i + (n - i) ≡ n = omega arith in
    omega arith ∙ ap (λ (k : ℕ). k * w) whole

-- A record among n: those before it, it, and its followers; and all but one.
pub record Among (w n i : ℕ) : Type 0 where
  pub all : n * w ≡ i * w + w + (n - suc i) * w
  pub but_one : (n - 1) * w ≡ i * w + (n - suc i) * w

pub among : (w n i : ℕ) → i < n → Among w n i
among w n i h =
    let last : n - 1 - i ≡ n - suc i = omega arith in
    record {
      all = omega (arith, and_the_rest w (suc i) n (omega arith));
      but_one = sym (and_the_rest w i (n - 1) (omega arith)) ∙ ap (λ (k : ℕ). i * w + k * w) last;
    }

-- Few enough of few enough words.
pub few_words : (w n widest most : ℕ) → w ≤ widest → n ≤ most → n * w ≤ most * widest
few_words w n widest most h k = mul-le-mul k h

-- The record and the column of a word by its number.
pub record_of_lem : (w i j : ℕ) → j < w → (i * w + j) / w ≡ i
record_of_lem w i j h = mul-add-div_right {m = w} (omega arith) i j ∙ ap (λ (k : ℕ). i + k) (div-eq_of_lt h) ∙ add-zero i

pub column_of_lem : (w i j : ℕ) → j < w → (i * w + j) % w ≡ j
column_of_lem w i j h = mul-add-mod_self_right i w j ∙ mod-eq_of_lt h
