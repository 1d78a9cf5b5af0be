-- Of a long file the program reads the first 56,161 bytes. Whatever follows them, their result file is that of the whole: the reader walks forward, and no word that it
-- asks for stands behind byte 56,160.
use Rattle.std.proofs.Common.{ℕ, zero, suc, ◌+◌, ◌*◌, ◌<◌, ◌≤◌, arith, ◌≡◌, refl, sym, ap, ap₂, ◌∙◌, Bool, true, false, Ok, Err, leb, leb-true, le-leb, List, [], ◌∷◌, ◌++◌, length, take, drop, length-append, length-drop}
use borrow.Author.Tests.{lt-leb}
use lib.Seq.{take-append-le, drop-append-le}
use Rattle.files_words.specs.Bytes.{number_of, word_at, words_from, as_bytes}
use Rattle.files_words.proofs.WordLaws.{word_whole, next_word}
use Rattle.files_records.proofs.Steps.{more}
use Rattle.bits.specs.declared.refusal.Refusal.TheVariants.{WordMissing, UnknownEdition, TooMany, BytesLeft}
use Rattle.files_checks.specs.Checks.{Check, fault, need, told, ◌⟫◌, Ruling, walk, count_check, counted_check, edition_check, end_check}
use Rattle.files_formats.specs.declared.elements.Edition.{Edition}
use Rattle.files_formats.specs.declared.elements.Section.{Section}
use Rattle.files_formats.specs.declared.elements.Section.TheVariants.{Centres, States, Requests}
use Rattle.files_formats.specs.declared.shapes.Shape.{Shape}
use Rattle.files_formats.specs.Kinds.{ruling_of}
use Rattle.files_formats.specs.Elements.{is_edition, edition_of, sections, kinds_of, limit_of, width_of}
use Rattle.files_formats.specs.Shapes.{shape_of, with_count, below_of, place_of, end_of, section_check}
use Rattle.files_reader.specs.Reader.{longest_file, edition_in, first_check, shape_in, grown, sections_check, file_check, reading_of}
use Rattle.files_reader.proofs.Accepted.{Few, within_longest, end_within, accepted_length}
use Rattle.files_results.specs.Results.{result_by, result_file}

-- One count more within its limit.
still_few : (shape : Shape) (section : Section) {n : ℕ} → n ≤ limit_of section → Few shape → Few (with_count shape section n)
still_few shape Centres h few Centres = h
still_few shape Centres h few States = few States
still_few shape Centres h few Requests = few Requests
still_few shape States h few Centres = few Centres
still_few shape States h few States = h
still_few shape States h few Requests = few Requests
still_few shape Requests h few Centres = few Centres
still_few shape Requests h few States = few States
still_few shape Requests h few Requests = h

-- No counts are within their limits.
none_few : (edition : Edition) → Few (shape_of edition 0 0 0)
none_few edition Centres = omega arith
none_few edition States = omega arith
none_few edition Requests = omega arith

module _ (start rest : List ℕ) where
  abbrev whole : List ℕ
  whole = start ++ rest

  longer : length whole ≡ length start + length rest
  longer = length-append start rest

  -- ---- What stands in the start is the same in the whole.
  same_word : (place : ℕ) → place + 8 ≤ length start → word_at whole place ≡ word_at start place
  same_word place h =
      word_whole whole place (omega (arith, longer))
      ∙ ap number_of
      (ap (take 8) (drop-append-le place start rest (omega arith))
      ∙ take-append-le 8 (drop place start) rest (omega (arith, length-drop place start)))
      ∙ sym (word_whole start place h)

  same_walk : (ruling : Ruling) (left place : ℕ) (before : List ℕ) → place + 8 * left ≤ length start →
      walk ruling place before left (words_from whole place) ≡ walk ruling place before left (words_from start place)
  unfolding walk
  same_walk ruling zero place before h = refl
  same_walk ruling (suc left) place before h =
      ap (walk ruling place before (suc left)) (next_word whole place (omega (arith, longer)) ∙ ap (λ (w : ℕ). w ∷ words_from whole (place + 8)) (same_word place (omega arith)))
      ∙ ap (λ (c : Check). told (ruling before (word_at start place)) place ⟫ c) (same_walk ruling left (place + 8) (before ++ (word_at start place ∷ [])) (omega arith))
      ∙ sym (ap (walk ruling place before (suc left)) (next_word start place (omega arith)))

  same_need : (place : ℕ) → place + 8 ≤ length start → leb (place + 8) (length whole) ≡ leb (place + 8) (length start)
  same_need place h = le-leb (place + 8) (length whole) (omega (arith, longer)) ∙ sym (le-leb _ _ h)

  same_first : 8 ≤ length start → first_check whole ≡ first_check start
  unfolding edition_check
  same_first h = ap₂ (λ (b : Bool) (w : ℕ). need b WordMissing 0 ⟫ need (is_edition w) UnknownEdition 0) (same_need 0 h) (same_word 0 h)

  module _ (place limit width : ℕ) (ruling : Ruling) (h : place + 8 ≤ length start) where
    same_count : count_check whole place limit ≡ count_check start place limit
    unfolding count_check
    same_count = ap₂ (λ (b : Bool) (w : ℕ). need b WordMissing place ⟫ need (leb w limit) TooMany place) (same_need place h) (same_word place h)

    too_many : leb (word_at start place) limit ≡ false → count_check start place limit ≡ fault TooMany place
    unfolding count_check
    too_many e = ap₂ (λ (b d : Bool). need b WordMissing place ⟫ need d TooMany place) (le-leb _ _ h) e

    -- A section, and what is checked behind it: there only if the count is within its limit.
    same_counted : {x y : Check} (b : Bool) → leb (word_at start place) limit ≡ b →
        (word_at start place ≤ limit → (place + 8 + 8 * (word_at start place * width) ≤ length start) × (x ≡ y)) →
        (counted_check whole place limit width ruling ⟫ x) ≡ (counted_check start place limit width ruling ⟫ y)
    unfolding counted_check
    same_counted true e behind =
        let m = behind (leb-true _ _ e) in
        ap₂ ◌⟫◌
        (ap₂ ◌⟫◌ same_count
        (ap (λ (w : ℕ). walk ruling (place + 8) [] (w * width) (words_from whole (place + 8))) (same_word place h)
        ∙ same_walk ruling (word_at start place * width) (place + 8) [] m.0))
        m.1
    same_counted {x} {y} false e behind =
        ap (λ (c : Check). (c ⟫ walk ruling (place + 8) [] (word_at whole place * width) (words_from whole (place + 8))) ⟫ x) (same_count ∙ too_many e)
        ∙ sym (ap (λ (c : Check). (c ⟫ walk ruling (place + 8) [] (word_at start place * width) (words_from start (place + 8))) ⟫ y) (too_many e))

  module _ (long : longest_file < length start) where
    same_end : (end : ℕ) → end ≤ longest_file → end_check whole end ≡ end_check start end
    same_end end h = ap (λ (b : Bool). need b BytesLeft end) (lt-leb (length whole) end (omega (arith, longer)) ∙ sym (lt-leb (length start) end (omega arith)))

    -- The sections, as far as they can reach.
    same_sections : (those : List Section) (shape : Shape) → Few shape → sections_check whole shape those ≡ sections_check start shape those
    unfolding sections_check section_check
    same_sections [] shape few = same_end (end_of shape) (end_within shape few)
    same_sections (section ∷ those) shape few =
        let w = width_of shape.edition section in
        let place = place_of shape section in
        let ends = within_longest shape few section in
        let near : place + 8 ≤ length start = omega (arith, ends) in
        same_counted place (limit_of section) w (ruling_of (kinds_of shape.edition section) (below_of shape section)) near _ refl
        (λ h. (
          omega (arith, ends, more w h),
          ap (λ (n : ℕ). sections_check whole (with_count shape section n) those) (same_word place near)
              ∙ same_sections those (grown start shape section) (still_few shape section h few),
        ))

    same_check : file_check whole ≡ file_check start
    unfolding file_check
    same_check =
        let near : 8 ≤ length start = omega arith in
        let none = shape_of (edition_in start) 0 0 0 in
        ap₂ ◌⟫◌ (same_first near)
        (ap (λ (w : ℕ). sections_check whole (shape_of (edition_of w) 0 0 0) sections) (same_word 0 near)
        ∙ same_sections sections none (none_few (edition_in start)))

    -- A file of this length is not accepted, and of a refusal only the number is told.
    told_by : (check : Check) → file_check start ≡ check →
        result_by whole (check ⟫ Ok (shape_in (edition_in whole) whole)) ≡ result_by start (check ⟫ Ok (shape_in (edition_in start) start))
    unfolding reading_of
    told_by (Ok done) e =
        let shape = shape_in (edition_in start) start in
        absurd (omega (arith, accepted_length start shape (ap (λ (c : Check). c ⟫ Ok shape) e)))
    told_by (Err fault) e = refl

    pub cut : result_file whole ≡ result_file start
    unfolding result_file reading_of
    cut = ap as_bytes (ap (λ (c : Check). result_by whole (c ⟫ Ok (shape_in (edition_in whole) whole))) same_check ∙ told_by (file_check start) refl)
