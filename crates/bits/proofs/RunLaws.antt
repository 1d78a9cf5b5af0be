-- What is known of the first word that is sought and of a run that has none, what a word says of the double that it is the word of, a run after a copy, and
-- two runs with the same words.
use mathlib.Core.Path.{◌≡◌, refl, sym, ap, ap₂, subst, ◌∙◌}
use mathlib.Core.Bool.{Bool, true, false, not, cond, ◌||◌, ◌&&◌, true≢false}
use mathlib.Core.List.{List, [], ◌∷◌}
use Prim.Native.Nat.{ℕ, ◌+◌, ◌<◌, ◌≤◌}
use native.Mathlib.Omega.{arith}
use Rattle.std.specs.List.{position_or_len}
use Rattle.std.proofs.lemmas.List.Recursion.{is_position_or_len}
use Rattle.std.proofs.lemmas.List.Sums.{prefix_len_passes, prefix_len_stops, position_or_len_is}
use borrow.Author.Tests.{lt-ltb, le-ltb, ltb-false, not-true, not-false, eq-eqb, ne_eqb}
use lib.Dec.{T, ltb, eqb}
use lib.Ieee.{Float, binary64, fits, nan_bits, of_bits, to_bits}
use lib.Ieee.Bits.{nan_bits_is, of_bits-to_bits}
use lib.ListN.{length, get_or}
use lib.Pointwise.{pointwise, bytes_decides}
use Rattle.bits.specs.Choice.{pick}
use Rattle.bits.specs.Words.{words_of}
use Rattle.bits.specs.Runs.{is_sought_double, is_sought, first_of, has, any_sought, AllFit, copied, same_words}
use Rattle.bits.specs.declared.runs.Sought.{Sought}
use Rattle.bits.specs.declared.runs.Sought.TheVariants.{NotFinite}
use Rattle.bits.proofs.Doubles.{finite_no_nan}
use Rattle.bits.proofs.Line.{same_ltb}

-- The first place is the library's `position_or_len`.
chosen : {A : Type 0} (b : Bool) (x y : A) → pick b x y ≡ cond b x y
chosen true x y = refl
chosen false x y = refl

pub first_place : (s : Sought) (ws : List ℕ) → first_of s ws ≡ position_or_len (is_sought s) ws
unfolding first_of
first_place s ws = is_position_or_len (first_of s) (is_sought s) refl (λ w ws. chosen (is_sought s w) 0 (1 + first_of s ws)) ws

-- The word of a double is sought exactly where the double is;
pub sought_word : (s : Sought) (x : Float) → T (fits binary64 x) → is_sought s (to_bits binary64 x) ≡ is_sought_double s x
sought_word s x f = ap (is_sought_double s) (of_bits-to_bits binary64 x f)

-- a run has one exactly where its first word is one or the others have one;
pub has_step : (s : Sought) (w : ℕ) (ws : List ℕ) → has s (w ∷ ws) ≡ is_sought s w || has s ws
unfolding has first_of
has_step s w ws = go (is_sought s w)
  where
    go : (b : Bool) → ltb (pick b 0 (1 + first_of s ws)) (length (w ∷ ws)) ≡ b || ltb (first_of s ws) (length ws)
    go true = lt-ltb 0 (length (w ∷ ws)) (omega arith)
    go false = same_ltb (1 + first_of s ws) (length (w ∷ ws)) (first_of s ws) (length ws) (λ l. omega arith) (λ l. omega arith)

-- and so a run of words of doubles has one exactly where the doubles do.
pub sought_words : (s : Sought) (xs : List Float) → AllFit xs → has s (words_of xs) ≡ any_sought s xs
unfolding has first_of any_sought
sought_words s [] f = refl
sought_words s (x ∷ xs) f = has_step s (to_bits binary64 x) (words_of xs) ∙ ap₂ ◌||◌ (sought_word s x f.0) (sought_words s xs f.1)

-- What `f64::from_bits` asks.
pub finite_word : (w : ℕ) → is_sought NotFinite w ≡ false → T (not (nan_bits binary64 w))
finite_word w h = subst (λ (b : Bool). T (not b)) (sym (nan_bits_is binary64 w)) (finite_no_nan (of_bits binary64 w) (not-false _ h))

-- A run has a sought word exactly where the first stands before its end.
module _ (s : Sought) (ws : List ℕ) {first : ℕ} (e : first ≡ first_of s ws) where
  pub has_one : first < length ws → has s ws ≡ true
  unfolding has
  has_one h = rw (← e, lt-ltb first (length ws) h)

  pub has_none : length ws ≤ first → has s ws ≡ false
  unfolding has
  has_none h = rw (← e, le-ltb first (length ws) h)

-- No word before the first is sought,
pub before_first : (s : Sought) (ws : List ℕ) (k : ℕ) → k < first_of s ws → is_sought s (get_or ws k 0) ≡ false
before_first s ws k h = not-true _ (prefix_len_passes (λ w. not (is_sought s w)) ws k 0 (rw (first_place s ws) at h))

-- the first is,
pub at_first : (s : Sought) (ws : List ℕ) → first_of s ws < length ws → is_sought s (get_or ws (first_of s ws) 0) ≡ true
at_first s ws h = rw (first_place s ws) (not-false _ (prefix_len_stops (λ w. not (is_sought s w)) ws 0 (rw (first_place s ws) at h)))

-- and so one that is, with none before it, is the first.
pub is_first : (s : Sought) (ws : List ℕ) (k : ℕ) → k < length ws → is_sought s (get_or ws k 0) ≡ true → ((j : ℕ) → j < k → is_sought s (get_or ws j 0) ≡ false)
    → first_of s ws ≡ k
is_first s ws k l sought none = first_place s ws ∙ position_or_len_is (is_sought s) ws k 0 (omega arith) none (λ _. sought)

-- Where a run has no sought word, none of its words is sought.
pub none_sought : (s : Sought) (ws : List ℕ) → has s ws ≡ false → (k : ℕ) → k < length ws → is_sought s (get_or ws k 0) ≡ false
unfolding has
none_sought s ws h k l = before_first s ws k (omega (arith, ltb-false (first_of s ws) (length ws) h))

-- A run of another length keeps its words; one of their number has those copied.
module _ (words run : List ℕ) where
  pub copied_none : (length run ≡ length words → ⊥) → copied words run ≡ run
  unfolding copied
  copied_none h = rw (ne_eqb (length run) (length words) h)

  pub copied_all : length run ≡ length words → copied words run ≡ words
  unfolding copied
  copied_all h = rw (eq-eqb (length run) (length words) h)

-- ---- Two runs have the same words exactly where they are one run. The library's `==` says so too.
pub same_pointwise : (one other : List ℕ) → pointwise eqb one other ≡ same_words one other
unfolding same_words
same_pointwise [] [] = refl
same_pointwise [] (w ∷ ws) = refl
same_pointwise (v ∷ vs) [] = refl
same_pointwise (v ∷ vs) (w ∷ ws) = ap (λ (b : Bool). eqb v w && b) (same_pointwise vs ws)

pub both : (a b : Bool) → a && b ≡ true → (a ≡ true) × (b ≡ true)
both true b e = (refl, e)
both false b e = absurd (true≢false (sym e))

pub same_words_lem : (one other : List ℕ) → same_words one other ≡ true → one ≡ other
same_words_lem one other h = (bytes_decides one other).0 (same_pointwise one other ∙ h)

pub words_same : {one other : List ℕ} → one ≡ other → same_words one other ≡ true
words_same {one = one} {other = other} e = sym (same_pointwise one other) ∙ (bytes_decides one other).1 e
