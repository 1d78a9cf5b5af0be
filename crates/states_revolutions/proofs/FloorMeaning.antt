-- The computed floor of a fraction is its floor, and no other whole number is.
use Rattle.std.proofs.Common.{◌≡◌, ℕ, zero, suc, ◌+◌, ◌-◌, ◌*◌, ◌/◌, ◌<◌, ◌≤◌, Bool, true, false, T, ℤ, pos, negsuc, ◌*ℤ◌, neg_ℤ, sym, refl, ap, ◌∙◌, subst, suc-le-suc, le_of_suc-le-suc, div-mul-le_self, arith, le→leb, ltb→lt, lt→ltb, leb→le}
use native.Mathlib.Nat.{lt-div-mul-add, div-eq_of_lt-le, div-eq_of_lt}
use lib.IntN.{suc_ℤ}
use lib.Signed.{lt_z, le_z}
use lib.Ieee.{fin, up, down}
use lib.Ieee.Fits.{down_pos}
use Rattle.states_revolutions.specs.Floor.{IsFloor, floor_of_fraction, within, floor_of}

-- ---- Whole numbers that are not above zero, by their sizes.
abbrev minus : ℕ → ℤ
minus x = neg_ℤ (pos x)

minus_le : (x y : ℕ) → y ≤ x → T (le_z (minus x) (minus y))
minus_le zero zero h = tt
minus_le zero (suc y) h = absurd (omega arith)
minus_le (suc x) zero h = tt
minus_le (suc x) (suc y) h = le→leb y x (le_of_suc-le-suc h)

minus_lt : (x y : ℕ) → y < x → T (lt_z (minus x) (minus y))
minus_lt zero y h = absurd (omega arith)
minus_lt (suc x) zero h = tt
minus_lt (suc x) (suc y) h = lt→ltb y x (le_of_suc-le-suc h)

le_sizes : (x b : ℕ) → T (le_z (minus x) (negsuc b)) → suc b ≤ x
le_sizes zero b t = absurd t
le_sizes (suc x) b t = suc-le-suc (leb→le b x t)

lt_sizes : (b y : ℕ) → T (lt_z (negsuc b) (minus y)) → y < suc b
lt_sizes b zero t = omega arith
lt_sizes b (suc y) t = suc-le-suc (ltb→lt y b t)

not_below : (a y : ℕ) → T (lt_z (pos a) (minus y)) → ⊥
not_below a zero t = let l = ltb→lt a 0 t in omega arith
not_below a (suc y) t = t

-- Times c, and the next one.
times : (k c : ℕ) → minus k *ℤ pos c ≡ minus (k * c)
times zero c = let z : 0 * c ≡ 0 = omega arith in ap pos z ∙ ap minus (sym z)
times (suc k) c = refl

next : (k : ℕ) → suc_ℤ (negsuc k) ≡ minus k
next zero = refl
next (suc k) = refl

-- ---- The floor of ±a/c.
module _ (a c : ℕ) (p : 0 < c) where
  up_low : a ≤ (a + (c - 1)) / c * c
  up_low = let h = lt-div-mul-add {a = a + (c - 1)} {b = c} p in omega arith

  up_high : (a + (c - 1)) / c * c ≤ a + (c - 1)
  up_high = div-mul-le_self (a + (c - 1)) c

  minus_is : (k : ℕ) → a ≤ k * c → k * c ≤ a + (c - 1) → IsFloor true a c (minus k)
  minus_is zero l h =
      let z : a ≡ 0 = omega arith in
      let q : 0 * c ≡ 0 = omega arith in
      record {
        not_above = record { le = subst (λ (x : ℕ). T (le_z (pos x) (minus a))) (sym q) (subst (λ (x : ℕ). T (le_z (pos 0) (minus x))) (sym z) tt) };
        next_above = record { lt = subst (λ (x : ℕ). T (lt_z (minus x) (pos (1 * c)))) (sym z) (lt→ltb 0 (1 * c) (omega arith)) };
      }
  minus_is (suc k) l h =
      record {
        not_above = record { le = minus_le (suc k * c) a l };
        next_above = record { lt = subst (λ (n : ℤ). T (lt_z (minus a) n)) (sym (ap (λ (n : ℤ). n *ℤ pos c) (next k) ∙ times k c)) (minus_lt a (k * c) (omega arith)) };
      }

pub is_floor : (s : Bool) (a c : ℕ) → 0 < c → IsFloor s a c (floor_of_fraction s a c)
is_floor false a c p =
    record {
      not_above = record { le = le→leb (a / c * c) a (div-mul-le_self a c) };
      next_above = record { lt = lt→ltb a (suc (a / c) * c) (let h = lt-div-mul-add {a = a} {b = c} p in omega arith) };
    }
is_floor true a c p = minus_is a c p ((a + (c - 1)) / c) (up_low a c p) (up_high a c p)

pub one_floor : (s : Bool) (a c : ℕ) → 0 < c → (n : ℤ) → IsFloor s a c n → n ≡ floor_of_fraction s a c
one_floor false a c p (pos k) f =
    let l = leb→le (k * c) a f.not_above.le in
    let h = ltb→lt a (suc k * c) f.next_above.lt in
    ap pos (sym (div-eq_of_lt-le c l (omega arith)))
one_floor false a c p (negsuc k) f =
    absurd (not_below a (k * c) (subst (λ (n : ℤ). T (lt_z (pos a) n)) (ap (λ (n : ℤ). n *ℤ pos c) (next k) ∙ times k c) f.next_above.lt))
one_floor true zero c p (pos k) f =
    let l = leb→le (k * c) 0 f.not_above.le in
    let q : (0 + (c - 1)) / c ≡ 0 = div-eq_of_lt (omega arith) in
    ap pos (small k l) ∙ ap minus (sym q)
  where
    small : (k : ℕ) → k * c ≤ 0 → k ≡ 0
    small zero l = refl
    small (suc k) l = absurd (omega arith)
one_floor true zero c p (negsuc k) f =
    absurd (not_below 0 (k * c) (subst (λ (n : ℤ). T (lt_z (pos 0) n)) (ap (λ (n : ℤ). n *ℤ pos c) (next k) ∙ times k c) f.next_above.lt))
one_floor true (suc b) c p (pos k) f = absurd f.not_above.le
one_floor true (suc b) c p (negsuc k) f =
    let l = le_sizes (suc k * c) b f.not_above.le in
    let h = lt_sizes b (k * c) (subst (λ (n : ℤ). T (lt_z (negsuc b) n)) (ap (λ (n : ℤ). n *ℤ pos c) (next k) ∙ times k c) f.next_above.lt) in
    let q : (suc b + (c - 1)) / c ≡ suc k = div-eq_of_lt-le c (omega arith) (omega arith) in
    ap minus (sym q)

-- So of a double: whatever whole number is its floor, `floor_of` answers with it where it is within ±2^40, and else that it is beyond.
pub floor_of_double : (s : Bool) (m : ℕ) (e n : ℤ) → IsFloor s (m * up e) (down e) n → floor_of (fin s m e) ≡ within n
unfolding floor_of
floor_of_double s m e n f = ap within (sym (one_floor s (m * up e) (down e) (down_pos e) n f))
