-- What an accepted file is: each part of it is sound, its counts are within their limits, and its sections fill it.
use Prim.Native.Nat.{ℕ, ◌+◌, ◌*◌, ◌^◌, ◌<◌, ◌≤◌}
use native.Mathlib.Omega.{arith}
use mathlib.Core.Bool.{true}
use mathlib.Core.Path.{◌≡◌, refl, ap, subst}
use mathlib.Core.List.{List}
use borrow.Author.Tests.{leb-true}
use lib.ListN.{length}
use Rattle.files_words.specs.Bytes.{word_at}
use Rattle.files_records.proofs.Steps.{more}
use Rattle.std.specs.Prelude.{Ok}
use Rattle.files_checks.specs.Checks.{sound, end_check}
use Rattle.files_checks.proofs.CheckLaws.{both, needed, answered}
use Rattle.files_checks.proofs.CountedLaws.{count_within, words_within, edition_is}
use Rattle.files_formats.specs.declared.elements.Edition.{Edition}
use Rattle.files_formats.specs.declared.elements.Edition.TheVariants.{One}
use Rattle.files_formats.specs.declared.elements.Section.{Section}
use Rattle.files_formats.specs.declared.elements.Section.TheVariants.{Centres, States, Requests}
use Rattle.files_formats.specs.declared.shapes.Shape.{Shape}
use Rattle.files_formats.specs.Elements.{is_edition, limit_of, width_of}
use Rattle.files_formats.specs.Shapes.{count_of, words_of, place_of, end_of, section_check}
use Rattle.files_reader.specs.Reader.{longest_of, longest_file, edition_in, first_check, shape_in, sections_check, file_check, reading_of}

-- The counts of a shape stand where it places them.
pub count_in : (edition : Edition) (file : List ℕ) (section : Section) →
    count_of (shape_in edition file) section ≡ word_at file (place_of (shape_in edition file) section)
unfolding shape_in
count_in edition file Centres = refl
count_in edition file States = refl
count_in edition file Requests = refl

-- Counts within their limits. No limit is large, and a section that is sound has few records.
abbrev pub Few : Shape → Type 0
Few shape = (section : Section) → count_of shape section ≤ limit_of section

pub few_limit : (section : Section) → limit_of section < 2 ^ 16
few_limit Centres = omega arith
few_limit States = omega arith
few_limit Requests = omega arith

pub few_records : (file : List ℕ) (shape : Shape) (section : Section) → section_check file shape section ≡ sound → word_at file (place_of shape section) < 2 ^ 16
unfolding section_check
few_records file shape section passed = omega (arith, count_within file (place_of shape section) _ _ _ passed, few_limit section)

-- ---- A file that is sound.
module _ (file : List ℕ) (passed : file_check file ≡ sound) where
  abbrev shape : Shape
  shape = shape_in (edition_in file) file

  parts : (first_check file ≡ sound)
      × (section_check file shape Centres ≡ sound)
      × (section_check file shape States ≡ sound)
      × (section_check file shape Requests ≡ sound)
      × (end_check file (end_of shape) ≡ sound)
  unfolding file_check sections_check section_check shape_in
  parts =
      let e = both _ _ passed in
      let c = both _ _ e.1 in
      let s = both _ _ c.1 in
      let r = both _ _ s.1 in
      (e.0, c.0, s.0, r.0, r.1)

  pub edition_sound : (8 ≤ length file) × (is_edition (word_at file 0) ≡ true)
  edition_sound = edition_is file _ parts.0

  pub section_sound : (section : Section) → section_check file shape section ≡ sound
  section_sound Centres = parts.1
  section_sound States = parts.2
  section_sound Requests = parts.3

  pub counts_within : Few shape
  unfolding section_check
  counts_within section = omega (arith, count_in (edition_in file) file section, count_within file (place_of shape section) _ _ _ (section_sound section))

  pub sound_length : length file ≡ end_of shape
  unfolding section_check
  sound_length =
      let end : length file ≤ end_of shape = leb-true _ _ (needed _ _ _ parts.4) in
      let words = ap (λ (n : ℕ). n * width_of shape.edition Requests) (count_in (edition_in file) file Requests) in
      omega (arith, end, words, words_within file (place_of shape Requests) _ _ _ (section_sound Requests))

-- ---- No file is longer than one whose sections are all at their limits, and no section ends behind that.
longest_of_lem : (edition : Edition) → longest_of edition ≤ longest_file
longest_of_lem One = omega arith

few_words : (shape : Shape) → Few shape → (section : Section) → words_of shape section ≤ limit_of section * width_of shape.edition section
few_words shape few section = more (width_of shape.edition section) (few section)

pub within_longest : (shape : Shape) → Few shape → (section : Section) →
    place_of shape section + 8 + 8 * (limit_of section * width_of shape.edition section) ≤ longest_file
within_longest shape few Centres = omega (arith, longest_of_lem shape.edition)
within_longest shape few States = omega (arith, longest_of_lem shape.edition, few_words shape few Centres)
within_longest shape few Requests = omega (arith, longest_of_lem shape.edition, few_words shape few Centres, few_words shape few States)

pub end_within : (shape : Shape) → Few shape → end_of shape ≤ longest_file
end_within shape few = omega (arith, within_longest shape few Requests, more (width_of shape.edition Requests) (few Requests))

-- ---- A file that is accepted.
module _ (file : List ℕ) (shape : Shape) (accepted : reading_of file ≡ Ok shape) where
  pub accepted_sound : (file_check file ≡ sound) × (shape_in (edition_in file) file ≡ shape)
  unfolding reading_of
  accepted_sound = answered (file_check file) (shape_in (edition_in file) file) accepted

  pub accepted_counts : (shape.centres ≤ limit_of Centres) × (shape.states ≤ limit_of States) × (shape.requests ≤ limit_of Requests)
  accepted_counts =
      subst (λ (x : Shape). (x.centres ≤ limit_of Centres) × (x.states ≤ limit_of States) × (x.requests ≤ limit_of Requests)) accepted_sound.1
      (let few = counts_within file accepted_sound.0 in (few Centres, few States, few Requests))

  -- "at most 56,160 bytes".
  pub accepted_length : length file ≤ longest_file
  accepted_length =
      let passed = accepted_sound.0 in
      omega (arith, sound_length file passed, end_within (shape_in (edition_in file) file) (counts_within file passed))
