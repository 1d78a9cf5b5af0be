-- What the definitions say of the eight words and of an orbit's start.
use mathlib.Core.Path.{◌≡◌, refl, sym, ◌∙◌, ap, subst}
use mathlib.Core.Bool.{Bool, true, false, cond, not, true≢false}
use mathlib.Core.List.{List, [], ◌∷◌}
use mathlib.Core.Logic.{◌⊎◌, inl, inr}
use Prim.Native.Nat.{ℕ, zero, suc, ◌+◌, ◌<◌}
use native.Mathlib.Decide.{dec_le}
use native.Mathlib.Omega.{arith}
use borrow.Author.Tests.{not-true, not-false, eq-eqb, ne_eqb, le-leb, lt-leb, ltb-true}
use lib.Dec.{T, eqb}
use lib.ListN.{length, get_or}
use lib.Ieee.{Float, nan, inf, fin, binary64, unlike, div, eq, of_bits, to_bits}
use lib.Ieee.Positive.{positive}
use Rattle.std.specs.Prelude.{Result, Ok, Err}
use Rattle.bits.specs.Choice.{pick}
use Rattle.bits.specs.Arithmetic.{◌⊗◌, ◌⊘◌, n0, n2, is_finite}
use Rattle.bits.specs.Words.{infinity}
use Rattle.bits.specs.Runs.{is_sought, first_of, has}
use Rattle.bits.specs.Root.{nearest_word, root_word_of, root_of}
use Rattle.bits.specs.Refusal.{number_of}
use Rattle.bits.specs.declared.refusal.Refusal.{Refusal}
use Rattle.bits.specs.declared.refusal.Refusal.TheVariants.{AtCentre, StartNotFinite}
use Rattle.bits.specs.declared.runs.Sought.TheVariants.{NotFinite}
use Rattle.bits.proofs.Doubles.{word_positive}
use Rattle.bits.proofs.Exists.{nearest_word_lem}
use Rattle.bits.proofs.RunLaws.{before_first, at_first, is_first, has_one, none_sought}
use Rattle.states_start.specs.Given.{double_at, orbit, interval, figure_refusal, read_of, AnyBad, FirstBad}
use Rattle.states_start.specs.Initial.{dot, begun_of}
use Rattle.states_start.specs.declared.figures.Orbit.{Orbit}
use Rattle.states_start.specs.declared.figures.Given.{Given}
use Rattle.states_start.specs.declared.figures.Begun.{Begun}

-- ---- T-05: eight words are refused by the first that is NaN or infinite, and where there is none they are not.
module _ (words : List ℕ) (eight : length words ≡ 8) where
  abbrev first : ℕ
  first = first_of NotFinite words

  is_bad : (k : ℕ) → is_sought NotFinite (get_or words k 0) ≡ true → is_finite (double_at words k) ≡ false
  is_bad k e = not-true _ e

  pub names_first : (k : ℕ) → FirstBad words k → read_of words ≡ Err (figure_refusal k)
  unfolding read_of
  names_first k f =
      let e = is_first NotFinite words k (omega (arith, f.one_of_eight)) (ap not f.bad) (λ j l. ap not (f.none_before j l)) in
      rw (has_one NotFinite words (sym e) (omega (arith, f.one_of_eight)), e)

  bad_first : has NotFinite words ≡ true → FirstBad words first
  unfolding has
  bad_first h =
      let l : first < 8 = omega (arith, ltb-true first (length words) h) in
      record {
        one_of_eight = l;
        bad = is_bad first (at_first NotFinite words (omega arith));
        none_before = λ k b. not-false _ (before_first NotFinite words k b);
      }

  -- One that is bad has a first.
  pub first_bad : AnyBad words → FirstBad words first
  first_bad a = go (has NotFinite words) refl
    where
      go : (b : Bool) → has NotFinite words ≡ b → FirstBad words first
      go true e = bad_first e
      go false e = absurd (true≢false (sym (not-false _ (none_sought NotFinite words e a.figure (omega (arith, a.one_of_eight)))) ∙ a.bad))

  pub refused_first : (n : Refusal) → read_of words ≡ Err n → (n ≡ figure_refusal first) × FirstBad words first
  unfolding read_of
  refused_first n h = go (has NotFinite words) refl h
    where
      go : (b : Bool) → has NotFinite words ≡ b → pick {A = Result Given Refusal} b (Err (figure_refusal first)) (Ok (record { orbit = orbit words; whole = interval words })) ≡ Err n
          → (n ≡ figure_refusal first) × FirstBad words first
      go true e h = (cc, bad_first e)
      go false e h = absurd cc

-- The refusals of the eight are 31 to 38, in their order.
pub figure_number : (k : ℕ) → k < 8 → number_of (figure_refusal k) ≡ 31 + k
figure_number zero l = refl
figure_number (suc zero) l = refl
figure_number (suc (suc zero)) l = refl
figure_number (suc (suc (suc zero))) l = refl
figure_number (suc (suc (suc (suc zero)))) l = refl
figure_number (suc (suc (suc (suc (suc zero))))) l = refl
figure_number (suc (suc (suc (suc (suc (suc zero)))))) l = refl
figure_number (suc (suc (suc (suc (suc (suc (suc zero))))))) l = refl
figure_number (suc (suc (suc (suc (suc (suc (suc (suc k)))))))) l = absurd (omega arith)

-- The first bad one of words that are written out: those before it are finite, one by one.
abbrev pub FiniteBefore : ℕ → List ℕ → Type 0
FiniteBefore zero ws = Unit {0}
FiniteBefore (suc k) [] = ⊥
FiniteBefore (suc k) (w ∷ ws) = (is_finite (of_bits binary64 w) ≡ true) × FiniteBefore k ws

finite_before : (k : ℕ) (ws : List ℕ) → FiniteBefore k ws → (j : ℕ) → j < k → is_finite (double_at ws j) ≡ true
finite_before zero ws f j l = absurd (omega arith)
finite_before (suc k) [] f j l = absurd f
finite_before (suc k) (w ∷ ws) f zero l = f.0
finite_before (suc k) (w ∷ ws) f (suc j) l = finite_before k ws f.1 j (omega arith)

pub first_at : (words : List ℕ) (k : ℕ) → k < 8 → FiniteBefore k words → is_finite (double_at words k) ≡ false → FirstBad words k
first_at words k l f b = record { one_of_eight = l; bad = b; none_before = finite_before k words f }

-- ---- Refusals 3 and 4 are all that an orbit gets.
pub three_or_four : (o : Orbit) (n : Refusal) → begun_of o ≡ Err n → (number_of n ≡ 3) ⊎ (number_of n ≡ 4)
unfolding begun_of
three_or_four o n e = go _ _ (eq (dot o.state.position o.state.position) n0) _ refl e
  where
    go : (words : List ℕ) (b : Begun) (zero bad : Bool) → has NotFinite words ≡ bad
        → pick zero (Err AtCentre) (pick bad (Err StartNotFinite) (Ok b)) ≡ Err n → (number_of n ≡ 3) ⊎ (number_of n ≡ 4)
    go words b true bad f e = inl cc
    go words b false true f e = inr cc
    go words b false false f e = absurd cc

-- ---- r0 is above zero wherever there are initial figures. The root is +0 or above zero, and +0 divides to no finite quotient.
root_word : (w : ℕ) → (root_word_of w ≡ 0) ⊎ T (positive (of_bits binary64 (root_word_of w)))
unfolding root_word_of
root_word w = elim (dec_le infinity w) [
  | yes l ↦ inl (rw (le-leb infinity w l))
  | no g ↦
      let h : w < infinity = omega arith in
      elim (dec_le w 0) [
        | yes z ↦ let e : w ≡ 0 = omega arith in inl (rw (lt-leb infinity w h, eq-eqb w 0 e))
        | no p ↦
            let n = nearest_word_lem w (omega arith) h in
            let e : w ≡ 0 → ⊥ = λ z. omega arith in
            inr (rw (lt-leb infinity w h, ne_eqb w 0 e) (word_positive (nearest_word w) n.positive n.bounded))
      ]
]

root_figure : (x : Float) → (root_of x ≡ n0) ⊎ T (positive (root_of x))
unfolding root_of
root_figure x = elim (root_word (to_bits binary64 x)) [
  | inl z ↦ inl (ap (of_bits binary64) z)
  | inr p ↦ inr p
]

over_zero : (x : Float) → is_sought NotFinite (to_bits binary64 (x ⊘ n0)) ≡ true
unfolding div of_bits to_bits
over_zero nan = refl
over_zero (inf true) = refl
over_zero (inf false) = refl
over_zero (fin s m e) = go (eqb m 0) s
  where
    go : (b s : Bool) → is_sought NotFinite (to_bits binary64 (cond b nan (inf (unlike s false)))) ≡ true
    go true s = refl
    go false true = refl
    go false false = refl

module _ (first b : Begun) (words : List ℕ) where
  from_tests : (zero bad : Bool) → has NotFinite words ≡ bad → pick zero (Err AtCentre) (pick bad (Err StartNotFinite) (Ok first)) ≡ Ok b
      → (has NotFinite words ≡ false) × (first ≡ b)
  from_tests true bad f e = absurd cc
  from_tests false true f e = absurd cc
  from_tests false false f e = (f, cc)

pub r0_positive : (o : Orbit) (b : Begun) → begun_of o ≡ Ok b → T (positive b.start.initial.r0)
unfolding begun_of
r0_positive o b e =
    let sum = dot o.state.position o.state.position in
    let t = from_tests _ b _ (eq sum n0) _ refl e in
    elim (root_figure sum) [
      | inl z ↦ absurd (true≢false (sym (over_zero (n2 ⊗ o.mu)) ∙ ap (λ (r : Float). is_sought NotFinite (to_bits binary64 ((n2 ⊗ o.mu) ⊘ r))) (sym z) ∙ none_sought NotFinite _ t.0 3 (omega arith)))
      | inr p ↦ subst (λ (x : Begun). T (positive x.start.initial.r0)) t.1 p
    ]
