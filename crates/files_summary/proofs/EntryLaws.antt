-- What is gathered from the states in use is the entry of the centre.
use mathlib.Core.Path.{◌≡◌, refl, ap, ◌∙◌}
use mathlib.Core.Bool.{Bool, true, false, not, ◌&&◌}
use mathlib.Core.List.{List, [], ◌∷◌, map}
use Prim.Native.Nat.{ℕ, suc, ◌+◌, ◌-◌, ◌*◌, ◌^◌, ◌<◌, ◌≤◌}
use native.Mathlib.Nat.{add-zero, zero-add}
use native.Mathlib.Omega.{arith}
use borrow.Author.Tests.{ltb-false, ne_eqb}
use lib.Dec.{eqb, ltb}
use lib.ListN.{length, get_or, drop, drop_of_length-le}
use Rattle.bits.specs.Choice.{pick}
use Rattle.bits.specs.Line.{is_nan_word}
use Rattle.bits.proofs.Line.{below_line}
use Rattle.files_words.specs.Bytes.{Below}
use Rattle.files_records.specs.Records.{records_of}
use Rattle.files_records.proofs.RecordLaws.{length_records, records_from, word_in_lem}
use Rattle.files_formats.specs.declared.elements.Edition.{Edition}
use Rattle.files_formats.specs.declared.elements.Column.TheVariants as at
use Rattle.files_formats.specs.Elements.{column_of}
use Rattle.files_formats.proofs.EditionLaws.{centre_is_number}
use Rattle.files_formats.proofs.EditionLaws as edition-laws
use Rattle.files_summary.specs.declared.entries.Tally.{Tally}
use Rattle.files_summary.specs.Entries.{state_width, centre_of, epoch_of, moment_of, is_dated, is_undated, chosen, moments_of, nans_of, earlier, later, earliest, latest, entry_by, centre_entry}
use Rattle.files_summary.specs.Entries.{no_tally, with_nan, with_moment, with_state, gathered, shown}

-- ---- The moments that a tally begins with give way to the first of a list.
moments_below : (edition : Edition) (ss : List (List ℕ)) → Below (2 ^ 64) (map (moment_of edition) ss)
moments_below edition [] = tt
moments_below edition (s ∷ ss) = (below_line (epoch_of edition s), moments_below edition ss)

gives_way : (b : Bool) (from p : ℕ) → (b ≡ false → from ≡ p) → pick b p from ≡ p
gives_way true from p h = refl
gives_way false from p h = h refl

none_earlier : (p : ℕ) → p < 2 ^ 64 → earlier (2 ^ 64 - 1) p ≡ p
none_earlier p h = gives_way (ltb p (2 ^ 64 - 1)) (2 ^ 64 - 1) p (λ e. omega (arith, ltb-false p (2 ^ 64 - 1) e))

none_later : (p : ℕ) → later 0 p ≡ p
none_later p = gives_way (ltb 0 p) 0 p (λ e. omega (arith, ltb-false 0 p e))

shown_by_lem : (ps : List ℕ) (nans : ℕ) → Below (2 ^ 64) ps → shown (record { states = 0 + length ps; nans = 0 + nans; first = earliest (2 ^ 64 - 1) ps; last = latest 0 ps }) ≡ entry_by ps nans
unfolding entry_by
shown_by_lem [] nans h = rw (zero-add nans)
shown_by_lem (p ∷ ps) nans h = rw (zero-add (length (p ∷ ps)), zero-add nans, ne_eqb (length (p ∷ ps)) 0 (λ e. omega arith), none_earlier p h.0, none_later p)

module _ (edition : Edition) (centre : ℕ) where
  -- ---- All states at once: what they add to a tally.
  abbrev added : Tally → List (List ℕ) → Tally
  added t ss =
      let ps = moments_of edition centre ss in
      record { states = t.states + length ps; nans = t.nans + nans_of edition centre ss; first = earliest t.first ps; last = latest t.last ps }

  gathered_added : (t : Tally) (ss : List (List ℕ)) → gathered (column_of edition at.Centre) (column_of edition at.Epoch) centre t ss ≡ added t ss
  unfolding gathered chosen earliest latest
  gathered_added t [] = rw (add-zero t.states, add-zero t.nans)
  gathered_added t (s ∷ ss) = gathered_added (with_state t centre (centre_of edition s) (epoch_of edition s)) ss ∙ go (eqb (centre_of edition s) centre) (is_nan_word (epoch_of edition s))
    where
      go : (a b : Bool) →
          let with = map (moment_of edition) (pick (a && not b) (s ∷ chosen (is_dated edition centre) ss) (chosen (is_dated edition centre) ss)) in
          added (pick a (pick b (with_nan t) (with_moment t (moment_of edition s))) t) ss
          ≡ record {
            states = t.states + length with;
            nans = t.nans + length (pick (a && b) (s ∷ chosen (is_undated edition centre) ss) (chosen (is_undated edition centre) ss));
            first = earliest t.first with;
            last = latest t.last with;
          }
      go true true = let n : t.nans + 1 + nans_of edition centre ss ≡ t.nans + length (s ∷ chosen (is_undated edition centre) ss) = omega arith in rw n
      go true false = let n : t.states + 1 + length (moments_of edition centre ss) ≡ t.states + length (moment_of edition s ∷ moments_of edition centre ss) = omega arith in rw n
      go false b = refl

  pub shown_gathered : (states : List (List ℕ)) → shown (gathered (column_of edition at.Centre) (column_of edition at.Epoch) centre no_tally states) ≡ centre_entry edition centre states
  unfolding centre_entry
  shown_gathered states =
      ap shown (gathered_added no_tally states) ∙ shown_by_lem (moments_of edition centre states) (nans_of edition centre states) (moments_below edition (chosen (is_dated edition centre) states))

-- Each state adds one to a count at most.
pub counts_grow : (t : Tally) (centre number e : ℕ) → ((with_state t centre number e).states ≤ t.states + 1) × ((with_state t centre number e).nans ≤ t.nans + 1)
counts_grow t centre number e = go (eqb number centre) (is_nan_word e) _
  where
    go : (a b : Bool) (p : ℕ) → ((pick a (pick b (with_nan t) (with_moment t p)) t).states ≤ t.states + 1) × ((pick a (pick b (with_nan t) (with_moment t p)) t).nans ≤ t.nans + 1)
    go true true p = (omega arith, omega arith)
    go true false p = (omega arith, omega arith)
    go false b p = (omega arith, omega arith)

-- ---- A state's columns are within it.
pub centre_inside : (edition : Edition) → column_of edition at.Centre < state_width edition
centre_inside edition = (centre_is_number edition).0

pub epoch_inside : (edition : Edition) → column_of edition at.Epoch < state_width edition
epoch_inside edition = edition-laws.epoch_inside edition

-- One of the states left in a run, read from it; and none left.
module _ (w its epoch centre : ℕ) (run : List ℕ) (count : ℕ) where
  abbrev pub from_state : Tally → (k : ℕ) → Tally
  from_state t k = gathered its epoch centre t (drop k (records_of w run count))

  pub gather_step : (t : Tally) (k : ℕ) → k < count → its < w → epoch < w → from_state t k ≡ from_state (with_state t centre (get_or run (k * w + its) 0) (get_or run (k * w + epoch) 0)) (suc k)
  unfolding gathered
  gather_step t k h c e = rw (records_from w run count k h, ← word_in_lem w run k its c, ← word_in_lem w run k epoch e)

  pub none_left : (t : Tally) (k : ℕ) → count ≤ k → from_state t k ≡ t
  unfolding gathered
  none_left t k h = ap (gathered its epoch centre t) (drop_of_length-le (records_of w run count) {i = k} (omega (arith, h, length_records w run count)))
