-- A counted section that is sound, in a file: its count is within its limit, and all its words are there and keep the rule.
use Prim.Native.Nat.{ℕ, ◌+◌, ◌-◌, ◌*◌, ◌/◌, ◌^◌, ◌<◌, ◌≤◌}
use native.Mathlib.Nat.{mul-le-mul}
use native.Mathlib.Decide.{dec_lt}
use native.Mathlib.Omega.{arith}
use mathlib.Core.Bool.{Bool, true}
use mathlib.Core.Logic.{◌⊎◌, inl, inr}
use mathlib.Core.Path.{◌≡◌, sym, ap, ap₂, ◌∙◌}
use mathlib.Core.List.{List, []}
use borrow.Author.Tests.{leb-true, leb-false, le-leb, lt-leb}
use lib.Dec.{leb}
use lib.ListN.{length}
use Rattle.files_words.specs.Bytes.{word_at, words_from}
use Rattle.files_words.proofs.WordLaws.{length-words_from}
use Rattle.bits.specs.declared.refusal.Refusal.{Refusal}
use Rattle.bits.specs.declared.refusal.Refusal.TheVariants.{WordMissing, UnknownEdition, TooMany, BytesLeft}
use Rattle.files_checks.specs.Checks.{Check, sound, fault, need, ◌⟫◌, Ruling, walk, unasked, count_check, counted_check, end_check, edition_check, filled_check, rest_check}
use Rattle.files_checks.proofs.CheckLaws.{both, needed, needed_not, in_a_row, same_fault, sound_both, sound_need}
use Rattle.files_checks.proofs.WalkLaws.{walk_needs, walk_any, walk_any_short}

module _ (file : List ℕ) (place limit : ℕ) where
  pub count_sound : count_check file place limit ≡ sound → (place + 8 ≤ length file) × (word_at file place ≤ limit)
  unfolding count_check
  count_sound e =
      let b = both _ _ e in
      (leb-true _ _ (needed _ _ _ b.0), leb-true _ _ (needed _ _ _ b.1))

  -- The count word is whole, and the words of as many records are few.
  pub few_words : (width : ℕ) {count : ℕ} → limit < 2 ^ 16 → width < 2 ^ 16 → count_check file place limit ≡ sound → count ≡ word_at file place
      → (place + 8 ≤ length file) × (count * width ≤ 2 ^ 16 * 2 ^ 16)
  few_words width {count} l w e c =
      let counted = count_sound e in
      let few : count ≤ 2 ^ 16 = omega (arith, c, counted.1) in
      let narrow : width ≤ 2 ^ 16 = omega arith in
      (counted.0, mul-le-mul few narrow)

  module _ (width : ℕ) (ruling : Ruling) (passed : counted_check file place limit width ruling ≡ sound) where
    parts : (count_check file place limit ≡ sound) × (walk ruling (place + 8) [] (word_at file place * width) (words_from file (place + 8)) ≡ sound)
    unfolding counted_check
    parts = both _ _ passed

    pub count_whole : place + 8 ≤ length file
    count_whole = (count_sound parts.0).0

    pub count_within : word_at file place ≤ limit
    count_within = (count_sound parts.0).1

    pub words_sound : walk ruling (place + 8) [] (word_at file place * width) (words_from file (place + 8)) ≡ sound
    words_sound = parts.1

    pub words_there_lem : word_at file place * width ≤ length (words_from file (place + 8))
    words_there_lem = walk_needs ruling (place + 8) [] (word_at file place * width) (words_from file (place + 8)) words_sound

    pub words_within : place + 8 + 8 * (word_at file place * width) ≤ length file
    words_within = omega (arith, words_there_lem, length-words_from file (place + 8), count_whole)

-- ---- Records of any words, to the end of a file: the count, then the rest.
module _ (file : List ℕ) (place limit width : ℕ) where
  pub filled_is : filled_check file place limit width ≡ (count_check file place limit ⟫ rest_check file (place + 8) (word_at file place * width))
  unfolding filled_check counted_check
  filled_is = in_a_row (count_check file place limit) _ _

  -- What is known of a file that passes.
  pub filled_sound : filled_check file place limit width ≡ sound → (word_at file place ≤ limit) × (length file ≡ place + 8 + 8 * (word_at file place * width))
  unfolding filled_check
  filled_sound e =
      let b = both _ _ e in
      let end : length file ≤ place + 8 + 8 * (word_at file place * width) = leb-true _ _ (needed _ _ _ b.1) in
      (count_within file place limit width unasked b.0, omega (arith, words_within file place limit width unasked b.0, end))

  abbrev end_of : ℕ
  end_of = place + 8 + 8 * (word_at file place * width)

  -- A count within its limit, and no word of the records missing: the end decides.
  pub filled_to_end : place + 8 ≤ length file → word_at file place ≤ limit → end_of ≤ length file → filled_check file place limit width ≡ end_check file end_of
  unfolding count_check
  filled_to_end whole few enough =
      let count = sound_both _ _ (sound_need _ WordMissing place (le-leb _ _ whole)) (sound_need _ TooMany place (le-leb _ _ few)) in
      let words = walk_any (place + 8) (word_at file place * width) (words_from file (place + 8)) (omega (arith, enough, length-words_from file (place + 8))) in
      filled_is ∙ ap₂ (λ (a b : Check). a ⟫ (b ⟫ end_check file end_of)) count words

  pub sound_filled : place + 8 ≤ length file → word_at file place ≤ limit → length file ≡ end_of → filled_check file place limit width ≡ sound
  sound_filled whole few size =
      let up_to : end_of ≤ length file = omega (arith, size) in
      let no_more : length file ≤ end_of = omega (arith, size) in
      filled_to_end whole few up_to ∙ sound_need _ BytesLeft end_of (le-leb (length file) end_of no_more)

  -- Bytes behind the records are 25, at the first of them.
  pub left_behind : place + 8 ≤ length file → word_at file place ≤ limit → end_of < length file → filled_check file place limit width ≡ fault BytesLeft end_of
  left_behind whole few more =
      let up_to : end_of ≤ length file = omega (arith, more) in
      filled_to_end whole few up_to ∙ ap (λ (t : Bool). need t BytesLeft end_of) (lt-leb (length file) end_of more)

-- What is wrong with the rest of a file: a word is missing, told at the first that is not whole, or bytes are left.
pub rest_fault : (file : List ℕ) (place count : ℕ) {refusal : Refusal} {at : ℕ} → rest_check file place count ≡ fault refusal at →
    ((refusal ≡ WordMissing) × (at ≡ place + 8 * ((length file - place) / 8)) × ((length file - place) / 8 < count))
    ⊎ ((refusal ≡ BytesLeft) × (at ≡ place + 8 * count) × (place + 8 * count < length file))
rest_fault file place count {refusal} {at} e =
    let l = length-words_from file place in
    elim (dec_lt (length (words_from file place)) count) [
      | yes short ↦
          let w = walk_any_short place count (words_from file place) short in
          let f : fault WordMissing (place + 8 * length (words_from file place)) ≡ fault refusal at =
          sym (ap (λ (k : Check). k ⟫ end_check file (place + 8 * count)) w) ∙ e in
          let same = same_fault f in
          inl (sym same.0, omega (arith, l, same.1), omega (arith, l))
      | no enough ↦
          let w = walk_any place count (words_from file place) (omega arith) in
          let f = needed_not (leb (length file) (place + 8 * count)) BytesLeft (place + 8 * count) (sym (ap (λ (k : Check). k ⟫ end_check file (place + 8 * count)) w) ∙ e) in
          inr (f.1, f.2, leb-false (length file) (place + 8 * count) f.0)
    ]

-- ---- The edition, in a file.
pub edition_is : (file : List ℕ) (known : Bool) → edition_check file known ≡ sound → (8 ≤ length file) × (known ≡ true)
unfolding edition_check
edition_is file known e =
    let b = both _ _ e in
    (leb-true _ _ (needed _ _ _ b.0), needed _ _ _ b.1)

pub sound_edition : (file : List ℕ) (known : Bool) → 8 ≤ length file → known ≡ true → edition_check file known ≡ sound
unfolding edition_check
sound_edition file known h e = sound_both _ _ (sound_need _ WordMissing 0 (le-leb 8 (length file) h)) (sound_need known UnknownEdition 0 e)
