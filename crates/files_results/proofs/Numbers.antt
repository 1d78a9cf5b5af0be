-- The numbers of an accepted file: a request's state number and a state's centre number are those of records that it has.
use Prim.Native.Nat.{ℕ, ◌+◌, ◌*◌, ◌%◌, ◌<◌}
use native.Mathlib.Omega.{arith}
use mathlib.Core.Path.{◌≡◌, refl, sym, ap, subst, ◌∙◌}
use mathlib.Core.Bool.{Bool, true, false}
use mathlib.Core.List.{List, []}
use borrow.Author.Tests.{ltb-true}
use lib.Dec.{ltb}
use lib.ListN.{length, get_or, take}
use lib.Seq.{length-take-le}
use Rattle.std.specs.Prelude.{Some, None}
use Rattle.bits.specs.Choice.{pick}
use Rattle.bits.specs.declared.refusal.Refusal.TheVariants.{NoSuchRecord}
use Rattle.files_words.specs.Bytes.{word_at, words_from}
use Rattle.files_words.proofs.WordLaws.{word_of_words}
use Rattle.files_records.specs.Records.{same_column}
use Rattle.files_records.proofs.Steps.{stands_within, column_of_lem}
use Rattle.files_checks.specs.Checks.{sound}
use Rattle.files_checks.proofs.WalkLaws.{sound_walk}
use Rattle.files_checks.proofs.CountedLaws.{words_sound, words_there_lem}
use Rattle.files_formats.specs.declared.kinds.Kind.{Kind}
use Rattle.files_formats.specs.declared.kinds.Kind.TheVariants.{Number}
use Rattle.files_formats.specs.declared.elements.Section.{Section}
use Rattle.files_formats.specs.declared.elements.Column.{Column}
use Rattle.files_formats.specs.declared.elements.Column.TheVariants as of
use Rattle.files_formats.specs.declared.shapes.Shape.{Shape}
use Rattle.files_formats.specs.Kinds.{fault_of, kind_at, ruling_of}
use Rattle.files_formats.specs.Elements.{limit_of, kinds_of, width_of, column_of, section_of}
use Rattle.files_formats.specs.Shapes.{count_of, below_of, place_of, record_of, section_check}
use Rattle.files_formats.proofs.EditionLaws.{IsNumber, state_is_number, centre_is_number}
use Rattle.files_reader.specs.Reader.{edition_in}
use Rattle.files_reader.proofs.Accepted.{count_in, section_sound, accepted_sound}
use Rattle.files_results.specs.Requests.{Accepted, field, request_place, state_place}

-- A number without a fault is below the bound.
no_fault : (b : Bool) → pick b None (Some NoSuchRecord) ≡ None → b ≡ true
no_fault true e = refl
no_fault false e = cc

-- A word of a kind's column of a section that is sound.
module _ (file : List ℕ) (shape : Shape) (section : Section) (passed : section_check file shape section ≡ sound) where
  abbrev kinds : List Kind
  kinds = kinds_of shape.edition section

  abbrev width : ℕ
  width = width_of shape.edition section

  abbrev words : List ℕ
  words = words_from file (place_of shape section + 8)

  number_below : (count i j : ℕ) → count ≡ word_at file (place_of shape section) → i < count → j < width → kind_at kinds j ≡ Number →
      word_at file (record_of shape section i + 8 * j) < below_of shape section
  unfolding section_check ruling_of
  number_below count i j same h k kind =
      let at = i * width + j in
      let below = below_of shape section in
      let walked = words_sound file (place_of shape section) (limit_of section) width (ruling_of kinds below) passed in
      let there = words_there_lem file (place_of shape section) (limit_of section) width (ruling_of kinds below) passed in
      let within : at < word_at file (place_of shape section) * width = omega (arith, stands_within width i count j h k, ap (λ (n : ℕ). n * width) same) in
      let quiet = sound_walk (ruling_of kinds below) (place_of shape section + 8) [] _ words walked at within in
      let column : length (take at words) % width ≡ j = ap (λ (n : ℕ). n % width) (length-take-le at words (omega (arith, within, there))) ∙ column_of_lem width i j k in
      let word = get_or words at 0 in
      let fault : fault_of Number below (same_column width (take at words)) word ≡ None =
      ap (λ (x : Kind). fault_of x below (same_column width (take at words)) word) (sym (ap (kind_at kinds) column ∙ kind)) ∙ quiet
      in
      let place : place_of shape section + 8 + 8 * at ≡ record_of shape section i + 8 * j = omega arith in
      let is : word ≡ word_at file (record_of shape section i + 8 * j) = word_of_words file (place_of shape section + 8) at ∙ ap (word_at file) place in
      subst (λ (w : ℕ). w < below) is (ltb-true word below (no_fault (ltb word below) fault))

-- ---- An accepted file.
module _ (file : List ℕ) (shape : Shape) (accepted : Accepted file shape) where
  of_section : (section : Section) → (section_check file shape section ≡ sound) × (count_of shape section ≡ word_at file (place_of shape section))
  of_section section =
      let a = accepted_sound file shape accepted in
      subst (λ (x : Shape). (section_check file x section ≡ sound) × (count_of x section ≡ word_at file (place_of x section))) a.1
      (section_sound file a.0 section, count_in (edition_in file) file section)

  named_below : (column : Column) (i : ℕ) → IsNumber shape.edition column → i < count_of shape (section_of column) →
      field file (record_of shape (section_of column) i) (column_of shape.edition column) < below_of shape (section_of column)
  named_below column i is h =
      let s = of_section (section_of column) in
      number_below file shape (section_of column) s.0 (count_of shape (section_of column)) i (column_of shape.edition column) s.1 h is.0 is.1

  module _ (k : ℕ) (h : k < shape.requests) where
    pub state_number : field file (request_place shape k) (column_of shape.edition of.State) < shape.states
    state_number = named_below of.State k (state_is_number shape.edition) h

    pub centre_number : field file (state_place file shape k) (column_of shape.edition of.Centre) < shape.centres
    centre_number = named_below of.Centre _ (centre_is_number shape.edition) state_number
