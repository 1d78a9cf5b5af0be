-- The test of a word is document 02's sentence; a right anomaly is a finite double; and what a search finds is right.
use Prim.Native.Nat.{ℕ, ◌+◌, ◌%◌, ◌^◌, ◌≤◌, ◌<◌}
use mathlib.Core.Path.{◌≡◌, refl, sym, ap, ◌∙◌, subst}
use mathlib.Core.Bool.{Bool, true, false, not, true≢false}
use mathlib.Core.Logic.{inl, inr, ⊎_elim}
use native.Mathlib.Omega.{arith}
use borrow.Author.Tests.{le-leb, lt-leb, leb-true, lt-ltb, ltb-true, eqb-true, eq-eqb}
use lib.Dec.{T, leb, ltb, eqb}
use lib.Ieee.{binary64, lt, eq, of_bits, to_bits}
use lib.Ieee.Bits.{nan_bits_is, to_bits-of_bits}
use Rattle.std.specs.Prelude.{Ok, Err}
use Rattle.bits.specs.Choice.{pick}
use Rattle.bits.specs.Arithmetic.{n0}
use Rattle.bits.specs.Words.{infinity, minus_zero, place_of}
use Rattle.bits.proofs.Doubles.{no_nan_bits}
use Rattle.series.specs.declared.figures.Anomaly.{Anomaly}
use Rattle.series.specs.declared.figures.Seconds.{Seconds}
use Rattle.search_points.specs.declared.figures.Initial.{Initial}
use Rattle.search_points.specs.declared.figures.Sort.TheVariants.{Short, Past, Exact}
use Rattle.search_points.specs.Trial.{anomaly_at, trial_at}
use Rattle.search_points.proofs.Points.{signed_word, sign_bound, signed_field}
use Rattle.search_rule.specs.declared.pair.End.{End}
use Rattle.search_rule.specs.RulePromise.{IsAnomaly}
use Rattle.search.specs.SearchPromise.{Says}
use Rattle.search.specs.Search.{Finding, found_with}
use Rattle.search.proofs.Instance.{promise_by}
use Rattle.search_check.specs.Passing.{passes}
use Rattle.search_check.specs.Right.{has_sign_of, place_in, is_right_beyond_zero, is_right, HasSign, RightBeyondZero, Right, RightExactly, RightMeans, FoundRight, FindsRight}
use Rattle.search_check.proofs.PassLaws.{passes_exactly, one_of}
use Rattle.search_check.proofs.Sorted.{sorted_readable}

-- ---- The sign.
module _ (tau : Seconds) (word : ℕ) where
  sign_only : has_sign_of tau word ≡ true → HasSign tau word
  unfolding has_sign_of
  sign_only = by (lt tau.0 n0) refl
    where
      by : (b : Bool) → lt tau.0 n0 ≡ b → pick b (leb minus_zero word) (ltb word minus_zero) ≡ true → HasSign tau word
      by true e h = record { below = λ _. leb-true minus_zero word h; above = λ f. absurd (true≢false (sym e ∙ f)) }
      by false e h = record { below = λ f. absurd (true≢false (sym f ∙ e)); above = λ _. ltb-true word minus_zero h }

  sign_all : HasSign tau word → has_sign_of tau word ≡ true
  unfolding has_sign_of
  sign_all s = by (lt tau.0 n0) refl
    where
      by : (b : Bool) → lt tau.0 n0 ≡ b → pick b (leb minus_zero word) (ltb word minus_zero) ≡ true
      by true e = le-leb minus_zero word (s.below e)
      by false e = lt-ltb word minus_zero (s.above e)

-- ---- The sentence.
module _ (i : Initial) (tau : Seconds) (word : ℕ) where
  searched_only : eq tau.0 n0 ≡ false → is_right_beyond_zero i tau word ≡ true → RightBeyondZero i tau word
  unfolding is_right_beyond_zero
  searched_only e = by (has_sign_of tau word) refl
    where
      by : (b : Bool) → has_sign_of tau word ≡ b → pick b (passes (trial_at i tau) (place_in word)) false ≡ true → RightBeyondZero i tau word
      by true s h = record { interval = e; sign = sign_only tau word s; anomaly = (passes_exactly (trial_at i tau) (place_in word)).only h }
      by false s h = absurd (true≢false (sym h))

  searched_all : RightBeyondZero i tau word → is_right_beyond_zero i tau word ≡ true
  unfolding is_right_beyond_zero
  searched_all w = rw (sign_all tau word w.sign) ((passes_exactly (trial_at i tau) (place_in word)).all w.anomaly)

  only : is_right i tau word ≡ true → Right i tau word
  unfolding is_right
  only = by (eq tau.0 n0) refl
    where
      by : (b : Bool) → eq tau.0 n0 ≡ b → pick b (eqb word 0) (is_right_beyond_zero i tau word) ≡ true → Right i tau word
      by true e h = inl (record { no_interval = e; plus_zero = eqb-true word 0 h })
      by false e h = inr (searched_only e h)

  all : Right i tau word → is_right i tau word ≡ true
  unfolding is_right
  all (inl r) = rw r.no_interval (eq-eqb word 0 r.plus_zero)
  all (inr w) = rw w.interval (searched_all w)

pub right_exactly : RightExactly
right_exactly i tau word = record { only = only i tau word; all = all i tau word }

-- ---- An anomaly's place is a finite double's.
module _ (i : Initial) (tau : Seconds) where
  anomaly_readable : (p : ℕ) → IsAnomaly (trial_at i tau) p → p < infinity
  anomaly_readable p (inl e) = sorted_readable i tau p Exact e (λ z. z)
  anomaly_readable p (inr (short, past, n, e)) = ⊎_elim
      (λ g. let at : short.place ≡ p = sym (ap (λ (x : End). x.place) g) ∙ sym e in subst (λ (q : ℕ). q < infinity) at (sorted_readable i tau short.place (Short short.error) n.short_is (λ z. z)))
      (λ g. let at : past.place ≡ p = sym (ap (λ (x : End). x.place) g) ∙ sym e in subst (λ (q : ℕ). q < infinity) at (sorted_readable i tau past.place (Past past.error) n.past_is (λ z. z)))
      (one_of short past)

-- The word of a place and a sign, and the double that it is the word of.
abbrev signed : Seconds → ℕ → ℕ
signed tau p = p + pick (lt tau.0 n0) (2 ^ 63) 0

module _ (tau : Seconds) (p : ℕ) (l : p < infinity) where
  at_signed : anomaly_at tau p ≡ record { 0 = of_bits binary64 (signed tau p) }
  unfolding anomaly_at
  at_signed = simp (lt-leb infinity p l, signed_word (lt tau.0 n0) p (omega arith))

  signed_bits : to_bits binary64 (anomaly_at tau p).0 ≡ signed tau p
  signed_bits =
      let word = signed tau p in
      let number = subst (λ (b : Bool). T (not b)) (nan_bits_is binary64 word) (no_nan_bits word (signed_field (lt tau.0 n0) p l)) in
      let below : word < 2 ^ 64 = omega (arith, sign_bound (lt tau.0 n0)) in
      ap (λ (a : Anomaly). to_bits binary64 a.0) at_signed ∙ to_bits-of_bits binary64 word below number

  -- Read back, the word of a place's anomaly is that anomaly.
  read_back : record { 0 = of_bits binary64 (to_bits binary64 (anomaly_at tau p).0) } ≡ anomaly_at tau p
  read_back = ap (λ (w : ℕ). record { 0 = of_bits binary64 w }) signed_bits ∙ sym at_signed

  signed_place : place_in (signed tau p) ≡ p
  signed_place = by (lt tau.0 n0)
    where
      by : (b : Bool) → (p + pick b (2 ^ 63) 0) % 2 ^ 63 ≡ p
      by true = omega arith
      by false = omega arith

  signed_sign : HasSign tau (signed tau p)
  signed_sign = record { below = λ e. subst (λ (b : Bool). minus_zero ≤ p + pick b (2 ^ 63) 0) (sym e) (omega arith); above = λ e. subst (λ (b : Bool). p + pick b (2 ^ 63) 0 < minus_zero) (sym e) (omega arith) }

-- A word with the sign of tau is that of its place and the sign.
is_signed : (tau : Seconds) (word : ℕ) → word < 2 ^ 64 → HasSign tau word → word ≡ signed tau (place_in word)
is_signed tau word l s = by (lt tau.0 n0) refl
  where
    by : (b : Bool) → lt tau.0 n0 ≡ b → word ≡ place_in word + pick b (2 ^ 63) 0
    by true e = omega (arith, s.below e)
    by false e = omega (arith, s.above e)

pub right_means : RightMeans
right_means i tau word l (inl r) =
    record {
      readable = omega (arith, r.plus_zero);
      at_place = λ e. absurd (true≢false (sym r.no_interval ∙ e));
    }
right_means i tau word l (inr w) =
    let readable = anomaly_readable i tau (place_in word) w.anomaly in
    record {
      readable = readable;
      at_place = λ _. ap (λ (x : ℕ). record { 0 = of_bits binary64 x }) (is_signed tau word l w.sign) ∙ sym (at_signed tau (place_in word) readable);
    }

-- ---- What a search finds is right.
zero_found : (i : Initial) (tau : Seconds) → eq tau.0 n0 ≡ true → FoundRight i tau (record { 0 = n0 })
unfolding of_bits to_bits
zero_found i tau e = record { right = inl (record { no_interval = e; plus_zero = refl }); same = refl }

place_found : (i : Initial) (tau : Seconds) (p : ℕ) → eq tau.0 n0 ≡ false → IsAnomaly (trial_at i tau) p → FoundRight i tau (anomaly_at tau p)
place_found i tau p e a =
    let l = anomaly_readable i tau p a in
    let bits = sym (signed_bits tau p l) in
    let way : RightBeyondZero i tau (signed tau p) =
    record { interval = e; sign = signed_sign tau p l; anomaly = subst (IsAnomaly (trial_at i tau)) (sym (signed_place tau p l)) a } in
    record { right = subst (Right i tau) bits (inr way); same = read_back tau p l }

abbrev psi_of : Finding → Anomaly → Anomaly
psi_of (Ok found) other = found.psi
psi_of (Err refused) other = other

pub finds_right : FindsRight
finds_right pr i tau h psi n f = by (eq tau.0 n0) refl
  where
    by : (b : Bool) → eq tau.0 n0 ≡ b → FoundRight i tau psi
    by true e =
        let same : found_with (record { 0 = n0 }) 0 ≡ found_with psi n = sym ((promise_by pr i tau h).no_interval e) ∙ f in
        subst (FoundRight i tau) (ap (λ (x : Finding). psi_of x psi) same) (zero_found i tau e)
    by false e =
        let said = subst (Says pr i tau (place_of h.0)) f ((promise_by pr i tau h).interval e).says in
        subst (FoundRight i tau) (sym said.1) (place_found i tau said.0 e said.2)
