-- The epochs that an entry shows are the earliest and the latest of its centre's states, by doubles; and its counts are how many there are.
use mathlib.Core.Path.{◌≡◌, refl, sym, ap, ap₂, subst, ◌∙◌}
use mathlib.Core.Logic.{◌⊎◌, inl, inr}
use mathlib.Core.Bool.{Bool, true, false, not, ◌&&◌, true≢false}
use mathlib.Core.List.{List, [], ◌∷◌, map}
use Prim.Native.Nat.{ℕ, zero, suc, ◌+◌, ◌^◌, ◌<◌}
use native.Mathlib.Decide.{dec_lt}
use native.Mathlib.Omega.{arith}
use borrow.Author.Tests.{le-ltb, ltb-true, ltb-false, eq-eqb, eqb-true, eqb-false}
use lib.Dec.{eqb, ltb}
use lib.Ieee.{binary64, is_nan, lt, eq, of_bits}
use lib.ListN.{length, get_or, length-map}
use Rattle.bits.specs.Choice.{pick}
use Rattle.bits.specs.Words.{minus_zero}
use Rattle.bits.specs.Line.{is_nan_word, line_of, word_on}
use Rattle.bits.proofs.Line.{below_line, above_line, word_back, zero_shown, place_back, in_order, same_place}
use Rattle.files_formats.specs.declared.elements.Edition.{Edition}
use Rattle.files_summary.specs.Entries.{centre_of, epoch_of, moment_of, is_dated, is_undated, chosen, moments_of, earliest, latest, shown_by, centre_entry}
use Rattle.files_summary.specs.Kept.{OfCentre, TellsTrue, how_many}

-- ---- A place that is one of a list.
abbrev Among : ℕ → List ℕ → Type 0
Among x [] = ⊥
Among x (y ∷ ys) = (x ≡ y) ⊎ Among x ys

-- A choice among places goes by a choice of two, one after another: of p and q, q where it is ahead of p.
record Choice (ahead : ℕ → ℕ → Bool) (choice : ℕ → List ℕ → ℕ) : Type 0 where
  alone : (p : ℕ) → choice p [] ≡ p
  next : (p q : ℕ) (qs : List ℕ) → choice p (q ∷ qs) ≡ choice (pick (ahead q p) q p) qs
  not_itself : (p : ℕ) → ahead p p ≡ false
  one_way : (p q : ℕ) → ahead q p ≡ true → ahead p q ≡ false
  through : (p q r : ℕ) → ahead q p ≡ false → ahead r q ≡ false → ahead r p ≡ false

module _ (ahead : ℕ → ℕ → Bool) (choice : ℕ → List ℕ → ℕ) (by : Choice ahead choice) where
  -- What is chosen is one of the places, and none of them is ahead of it.
  abbrev Best : ℕ → List ℕ → Type 0
  Best c ps = Among c ps × ((x : ℕ) → Among x ps → ahead x c ≡ false)

  with_one : (b : Bool) (c p q : ℕ) (qs : List ℕ) → ahead q p ≡ b → Best c (pick b q p ∷ qs) → Best c (p ∷ q ∷ qs)
  with_one true c p q qs e (m, f) = (inr m, none)
    where
      none : (x : ℕ) → Among x (p ∷ q ∷ qs) → ahead x c ≡ false
      none x (inl a) = ap (λ (y : ℕ). ahead y c) a ∙ by.through c q p (f q (inl refl)) (by.one_way p q e)
      none x (inr n) = f x n
  with_one false c p q qs e (m, f) = (behind c m, none)
    where
      behind : (x : ℕ) → Among x (p ∷ qs) → Among x (p ∷ q ∷ qs)
      behind x (inl a) = inl a
      behind x (inr n) = inr (inr n)

      none : (x : ℕ) → Among x (p ∷ q ∷ qs) → ahead x c ≡ false
      none x (inl a) = f x (inl a)
      none x (inr (inl a)) = ap (λ (y : ℕ). ahead y c) a ∙ by.through c p q (f p (inl refl)) e
      none x (inr (inr n)) = f x (inr n)

  best : (p : ℕ) (ps : List ℕ) → Best (choice p ps) (p ∷ ps)
  best p [] = (inl (by.alone p), none)
    where
      none : (x : ℕ) → Among x (p ∷ []) → ahead x (choice p []) ≡ false
      none x (inl a) = ap₂ ahead a (by.alone p) ∙ by.not_itself p
      none x (inr m) = absurd m
  best p (q ∷ qs) =
      let first = pick (ahead q p) q p in
      subst (λ (c : ℕ). Best c (p ∷ q ∷ qs)) (sym (by.next p q qs)) (with_one (ahead q p) (choice first qs) p q qs refl (best first qs))

-- ---- The earliest, and the latest.
abbrev after : ℕ → ℕ → Bool
after q p = ltb p q

by_earlier : Choice ltb earliest
unfolding earliest
by_earlier = record {
  alone = λ p. refl;
  next = λ p q qs. refl;
  not_itself = λ p. le-ltb p p (omega arith);
  one_way = λ p q h. le-ltb p q (omega (arith, ltb-true q p h));
  through = λ p q r h k. le-ltb r p (omega (arith, ltb-false q p h, ltb-false r q k));
}

by_later : Choice after latest
unfolding latest
by_later = record {
  alone = λ p. refl;
  next = λ p q qs. refl;
  not_itself = λ p. le-ltb p p (omega arith);
  one_way = λ p q h. le-ltb q p (omega (arith, ltb-true p q h));
  through = λ p q r h k. le-ltb p r (omega (arith, ltb-false p q h, ltb-false q r k));
}

-- ---- The moments of a centre's states are those of its states with a number for an epoch.
module _ (edition : Edition) (centre : ℕ) where
  -- Such a state, by its number, and its moment.
  abbrev StateAt : List (List ℕ) → ℕ → Type 0
  StateAt states moment = (i : ℕ) × (i < length states) × OfCentre edition centre (get_or states i []) × (moment_of edition (get_or states i []) ≡ moment)

  is_dated_lem : (s : List ℕ) → OfCentre edition centre s → is_dated edition centre s ≡ true
  is_dated_lem s o = ap₂ (λ (a b : Bool). a && not b) (eq-eqb (centre_of edition s) centre o.0) o.1

  dated_is : (s : List ℕ) → is_dated edition centre s ≡ true → OfCentre edition centre s
  dated_is s h = go (eqb (centre_of edition s) centre) (is_nan_word (epoch_of edition s)) refl refl h
    where
      go : (a b : Bool) → eqb (centre_of edition s) centre ≡ a → is_nan_word (epoch_of edition s) ≡ b → a && not b ≡ true → OfCentre edition centre s
      go true true e f h = absurd (true≢false (sym h))
      go true false e f h = (eqb-true (centre_of edition s) centre e, f)
      go false b e f h = absurd (true≢false (sym h))

  -- Each such state has its moment there, and each moment is such a state's.
  state_in : (states : List (List ℕ)) (i : ℕ) → i < length states → OfCentre edition centre (get_or states i []) → Among (moment_of edition (get_or states i [])) (moments_of edition centre states)
  unfolding chosen
  state_in [] i l o = absurd (omega arith)
  state_in (s ∷ ss) zero l o = rw (is_dated_lem s o) (inl refl)
  state_in (s ∷ ss) (suc i) l o = go (is_dated edition centre s) (state_in ss i (omega arith) o)
    where
      go : (b : Bool) → Among (moment_of edition (get_or ss i [])) (moments_of edition centre ss)
          → Among (moment_of edition (get_or ss i [])) (map (moment_of edition) (pick b (s ∷ chosen (is_dated edition centre) ss) (chosen (is_dated edition centre) ss)))
      go true m = inr m
      go false m = m

  state_from : (states : List (List ℕ)) (x : ℕ) → Among x (moments_of edition centre states) → StateAt states x
  unfolding chosen
  state_from [] x m = absurd m
  state_from (s ∷ ss) x m = go (is_dated edition centre s) refl m (state_from ss x)
    where
      behind : StateAt ss x → StateAt (s ∷ ss) x
      behind (i, l, o, e) = (suc i, omega arith, o, e)

      go : (b : Bool) → is_dated edition centre s ≡ b → Among x (map (moment_of edition) (pick b (s ∷ chosen (is_dated edition centre) ss) (chosen (is_dated edition centre) ss)))
          → (Among x (moments_of edition centre ss) → StateAt ss x) → StateAt (s ∷ ss) x
      go true h (inl a) r = (0, omega arith, dated_is s h, sym a)
      go true h (inr n) r = behind (r n)
      go false h n r = behind (r n)

-- ---- The word that is shown at the place of a number: a number's of 64 bits, at that place, and never minus zero.
record Shown (word place : ℕ) : Type 0 where
  fits : word < 2 ^ 64
  is_number : is_nan_word word ≡ false
  at_place : line_of word ≡ place
  not_minus : word ≡ minus_zero → ⊥

zero_number : is_nan_word 0 ≡ false
unfolding of_bits is_nan
zero_number = refl

-- It is the number's own word, or zero for minus zero.
shown_at : (w : ℕ) → w < 2 ^ 64 → is_nan_word w ≡ false → Shown (word_on (line_of w)) (line_of w)
shown_at w h n = go (eqb w minus_zero) refl
  where
    back : line_of (word_on (line_of w)) ≡ line_of w
    back = place_back (line_of w) (above_line w h) (below_line w)

    shows : (v : ℕ) → word_on (line_of w) ≡ v → v < 2 ^ 64 → is_nan_word v ≡ false → (v ≡ minus_zero → ⊥) → Shown (word_on (line_of w)) (line_of w)
    shows v e l k z = record {
      fits = subst (λ (u : ℕ). u < 2 ^ 64) (sym e) l;
      is_number = subst (λ (u : ℕ). is_nan_word u ≡ false) (sym e) k;
      at_place = back;
      not_minus = λ m. z (sym e ∙ m);
    }

    go : (b : Bool) → eqb w minus_zero ≡ b → Shown (word_on (line_of w)) (line_of w)
    go true e = shows 0 (ap (λ (u : ℕ). word_on (line_of u)) (eqb-true w minus_zero e) ∙ zero_shown) (omega arith) zero_number (λ m. omega arith)
    go false e = let other = eqb-false w minus_zero e in shows w (word_back w h other) h n other

-- ---- What the word of a chosen epoch says of a centre's states: it is shown at a place that none of theirs is ahead of, and that is one of theirs.
record Told (ahead : ℕ → ℕ → Bool) (edition : Edition) (centre : ℕ) (states : List (List ℕ)) (word : ℕ) : Type 0 where
  place : ℕ
  shows : Shown word place
  beside : (i : ℕ) → i < length states → OfCentre edition centre (get_or states i []) → ahead (moment_of edition (get_or states i [])) place ≡ false
  is_one : StateAt edition centre states place

any_there : (x : ℕ) (ps : List ℕ) → Among x ps → 0 < length ps
any_there x [] m = absurd m
any_there x (p ∷ ps) m = omega arith

-- Where there is none, zero is shown.
none_there : (choice : ℕ → List ℕ → ℕ) (ps : List ℕ) → length ps ≡ 0 → shown_by choice ps ≡ 0
unfolding shown_by
none_there choice [] h = refl
none_there choice (p ∷ ps) h = absurd (omega (arith, h))

module _ (edition : Edition) (centre : ℕ) (states : List (List ℕ)) (words : (i : ℕ) → i < length states → epoch_of edition (get_or states i []) < 2 ^ 64) where
  abbrev places : List ℕ
  places = moments_of edition centre states

  shown_state : (place : ℕ) → StateAt edition centre states place → Shown (word_on place) place
  shown_state place (i, l, o, e) = subst (λ (p : ℕ). Shown (word_on p) p) e (shown_at (epoch_of edition (get_or states i [])) (words i l) o.1)

  told : (ahead : ℕ → ℕ → Bool) (choice : ℕ → List ℕ → ℕ) → Choice ahead choice → 0 < length places → Told ahead edition centre states (shown_by choice places)
  unfolding shown_by
  told ahead choice by l = go places refl l
    where
      go : (ps : List ℕ) → places ≡ ps → 0 < length ps → Told ahead edition centre states (shown_by choice ps)
      go [] e l = absurd (omega arith)
      go (p ∷ ps) e l =
          let b = best ahead choice by p ps in
          let from = state_from edition centre states (choice p ps) (subst (Among (choice p ps)) (sym e) b.0) in
          record {
            place = choice p ps;
            shows = shown_state (choice p ps) from;
            beside = λ i k o. b.1 (moment_of edition (get_or states i [])) (subst (Among (moment_of edition (get_or states i []))) e (state_in edition centre states i k o));
            is_one = from;
          }

  -- A state with a number for an epoch is there, and so an epoch is chosen.
  told_beside : (ahead : ℕ → ℕ → Bool) (choice : ℕ → List ℕ → ℕ) → Choice ahead choice → (i : ℕ) → i < length states → OfCentre edition centre (get_or states i []) → Told ahead edition centre states (shown_by choice places)
  told_beside ahead choice by i l o = told ahead choice by (any_there (moment_of edition (get_or states i [])) places (state_in edition centre states i l o))

  -- By doubles: one state's epoch is equal to the one shown.
  one_equal : (ahead : ℕ → ℕ → Bool) (word : ℕ) → Told ahead edition centre states word → (i : ℕ) × (i < length states) × OfCentre edition centre (get_or states i [])
      × (eq (of_bits binary64 (epoch_of edition (get_or states i []))) (of_bits binary64 word) ≡ true)
  one_equal ahead word t =
      let s = t.is_one in
      let w = epoch_of edition (get_or states s.0 []) in
      (s.0, s.1, s.2, same_place w word (words s.0 s.1) t.shows.fits s.2.1 t.shows.is_number ∙ eq-eqb (line_of w) (line_of word) (s.3 ∙ sym t.shows.at_place))

  no_minus_zero : (ahead : ℕ → ℕ → Bool) (choice : ℕ → List ℕ → ℕ) → Choice ahead choice → shown_by choice places ≡ minus_zero → ⊥
  no_minus_zero ahead choice by m = elim (dec_lt 0 (length places)) [
    | yes l ↦ (told ahead choice by l).shows.not_minus m
    | no g ↦ let z = none_there choice places (omega arith) in omega (arith, z, m)
  ]

  -- None is before the earliest, and none after the latest.
  not_before : (i : ℕ) → i < length states → OfCentre edition centre (get_or states i []) → lt (of_bits binary64 (epoch_of edition (get_or states i []))) (of_bits binary64 (shown_by earliest places)) ≡ false
  not_before i l o =
      let w = epoch_of edition (get_or states i []) in
      let word = shown_by earliest places in
      let t = told_beside ltb earliest by_earlier i l o in
      in_order w word (words i l) t.shows.fits o.1 t.shows.is_number ∙ ap (ltb (line_of w)) t.shows.at_place ∙ t.beside i l o

  not_after : (i : ℕ) → i < length states → OfCentre edition centre (get_or states i []) → lt (of_bits binary64 (shown_by latest places)) (of_bits binary64 (epoch_of edition (get_or states i []))) ≡ false
  not_after i l o =
      let w = epoch_of edition (get_or states i []) in
      let word = shown_by latest places in
      let t = told_beside after latest by_later i l o in
      in_order word w t.shows.fits (words i l) t.shows.is_number o.1 ∙ ap (after (line_of w)) t.shows.at_place ∙ t.beside i l o

-- ---- The two counts, a state at a time.
counted : (test : List ℕ → Bool) (states : List (List ℕ)) → length (chosen test states) ≡ how_many test states
unfolding chosen how_many
counted test [] = refl
counted test (s ∷ ss) = go (test s) (counted test ss)
  where
    go : (b : Bool) → length (chosen test ss) ≡ how_many test ss → length (pick b (s ∷ chosen test ss) (chosen test ss)) ≡ pick b (1 + how_many test ss) (how_many test ss)
    go true e = omega (arith, e)
    go false e = e

pub tells_true : TellsTrue
unfolding centre_entry
tells_true edition centre states words =
    let moments = moments_of edition centre states in
    record {
      numbers = length-map (chosen (is_dated edition centre) states) (moment_of edition) ∙ counted (is_dated edition centre) states;
      nans = counted (is_undated edition centre) states;
      none_earlier = not_before edition centre states words;
      none_later = not_after edition centre states words;
      one_earliest = λ l. one_equal edition centre states words ltb (shown_by earliest moments) (told edition centre states words ltb earliest by_earlier l);
      one_latest = λ l. one_equal edition centre states words after (shown_by latest moments) (told edition centre states words after latest by_later l);
      never_minus_zero = (no_minus_zero edition centre states words ltb earliest by_earlier, no_minus_zero edition centre states words after latest by_later);
      none_at_all = λ h. (none_there earliest moments h, none_there latest moments h);
    }
