-- The distance of two words is the number of steps between their doubles.
use mathlib.Core.Path.{◌≡◌, refl, sym, ◌∙◌}
use mathlib.Core.Bool.{Bool, true, false, not}
use mathlib.Core.Logic.{◌⊎◌, inl, inr}
use Prim.Native.Nat.{ℕ, ◌+◌, ◌-◌, ◌/◌, ◌%◌, ◌^◌, ◌≤◌, ◌<◌}
use native.Mathlib.Decide.{dec_lt}
use native.Mathlib.Omega.{arith}
use borrow.Author.Tests.{lt-ltb, ltb-true, eq-eqb, eqb-true, le-leb, leb-true}
use lib.Dec.{T}
use lib.Ieee.{binary64, of_bits}
use Rattle.bits.specs.Words.{field_of, infinity, minus_zero}
use Rattle.bits.specs.Line.{is_nan_word, line_of, word_on}
use Rattle.bits.proofs.Doubles.{finite_by_field, finite_no_nan}
use Rattle.bits.proofs.Line.{line_clear, line_set, word_left, word_right, in_order, same_place, place_back}
use Rattle.files_differences.specs.Distance.{distance_of, Finite, Less, Symmetric, ZeroForEqual, IsNext, NextIsOne, AddsUp, FitsWord}

pub symmetric : Symmetric
symmetric v w = omega arith

-- ---- On either side of zero a word is as many steps from the middle of the line as it says without its sign bit.
abbrev pub Side : ℕ → Type 0
Side w = ((w / 2 ^ 63 ≡ 0) × (line_of w ≡ minus_zero + w % 2 ^ 63)) ⊎ ((w / 2 ^ 63 ≡ 1) × (line_of w ≡ minus_zero - w % 2 ^ 63))

pub side : (w : ℕ) → w < 2 ^ 64 → Side w
side w h = elim (dec_lt w minus_zero) [
  | yes l ↦
      let e = line_clear w l in
      inl (omega arith, omega (arith, e))
  | no g ↦
      let up : minus_zero ≤ w = omega arith in
      let e = line_set w up in
      inr (omega arith, omega (arith, e))
]

-- ---- Words of finite doubles: without their sign bit they are below infinity's, and so are their places, seen from the middle of the line.
is_false : (b : Bool) → T (not b) → b ≡ false
is_false true h = absurd h
is_false false h = refl

not_nan : (w : ℕ) → Finite w → is_nan_word w ≡ false
not_nan w f = is_false (is_nan_word w) (finite_no_nan (of_bits binary64 w) f.is_finite_lem)

small : (w : ℕ) → Finite w → w % 2 ^ 63 < infinity
small w f = let field : field_of w ≤ 2046 = leb-true (field_of w) 2046 (sym (finite_by_field w) ∙ f.is_finite_lem) in omega arith

finite : (w : ℕ) → w < 2 ^ 64 → w % 2 ^ 63 < infinity → Finite w
finite w h k =
    let field : field_of w ≤ 2046 = omega arith in
    record { is_word = h; is_finite_lem = finite_by_field w ∙ le-leb (field_of w) 2046 field }

on_line : (w : ℕ) → Finite w → (minus_zero < line_of w + infinity) × (line_of w < minus_zero + infinity)
on_line w f = by (side w f.is_word)
  where
    by : Side w → (minus_zero < line_of w + infinity) × (line_of w < minus_zero + infinity)
    by (inl s) = (omega (arith, s.1, small w f), omega (arith, s.1, small w f))
    by (inr s) = (omega (arith, s.1, small w f), omega (arith, s.1, small w f))

placed : (p : ℕ) → minus_zero < p + infinity → p < minus_zero + infinity → Finite (word_on p)
placed p a b = elim (dec_lt p minus_zero) [
  | yes l ↦
      let e = word_left p l in
      finite (word_on p) (omega (arith, e)) (omega (arith, e))
  | no g ↦
      let up : minus_zero ≤ p = omega arith in
      let e = word_right p up in
      finite (word_on p) (omega (arith, e)) (omega (arith, e))
]

-- ---- The order of the numbers is that of their places.
module _ (v w : ℕ) (f : Finite v) (g : Finite w) where
  below : Less v w → line_of v < line_of w
  below h = ltb-true (line_of v) (line_of w) (sym (in_order v w f.is_word g.is_word (not_nan v f) (not_nan w g)) ∙ h)

  less : line_of v < line_of w → Less v w
  less h = in_order v w f.is_word g.is_word (not_nan v f) (not_nan w g) ∙ lt-ltb (line_of v) (line_of w) h

  not_less : (Less v w → ⊥) → line_of w ≤ line_of v
  not_less n = elim (dec_lt (line_of v) (line_of w)) [
    | yes l ↦ absurd (n (less l))
    | no k ↦ omega arith
  ]

pub zero_for_equal : ZeroForEqual
zero_for_equal v w f g =
    let same = same_place v w f.is_word g.is_word (not_nan v f) (not_nan w g) in (
      λ z. let e : line_of v ≡ line_of w = omega arith in same ∙ eq-eqb (line_of v) (line_of w) e,
      λ h. let e : line_of v ≡ line_of w = eqb-true (line_of v) (line_of w) (sym same ∙ h) in omega arith,
    )

pub next_is_one : NextIsOne
next_is_one v w f g = (next, one)
  where
    next : IsNext v w → distance_of v w ≡ 1
    next n =
        let h : line_of v < line_of w = below v w f g n.above in
        elim (dec_lt (line_of v + 1) (line_of w)) [
          | yes l ↦
              let p = line_of v + 1 in
              let a = on_line v f in
              let b = on_line w g in
              let u = placed p (omega (arith, a)) (omega (arith, b)) in
              let at : line_of (word_on p) ≡ p = place_back p (omega arith) (omega (arith, b)) in
              absurd (n.none_between (word_on p) u (less v (word_on p) f u (omega (arith, at))) (less (word_on p) w u g (omega (arith, at))))
          | no k ↦ omega arith
        ]

    one : Less v w → distance_of v w ≡ 1 → IsNext v w
    one h d =
        let l : line_of v < line_of w = below v w f g h in
        record { above = h; none_between = λ u k a b. omega (arith, l, below v u f k a, below u w k g b) }

pub adds_up : AddsUp
adds_up v u w f g h low high = omega (arith, not_less u v g f low, not_less w u h g high)

pub fits_word : FitsWord
fits_word v w f g =
    let a = on_line v f in
    let b = on_line w g in
    (omega (arith, a, b), omega (arith, a, b))
