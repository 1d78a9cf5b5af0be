-- One section, of any edition: what is sound to the writer is sound to the reader, and the other way round.
use Prim.Native.Nat.{ℕ, ◌+◌, ◌*◌, ◌%◌, ◌≤◌}
use native.Mathlib.Nat.{mul-div_cancel, mul-mod_left, div-add-mod'}
use native.Mathlib.Omega.{arith}
use mathlib.Core.Bool.{Bool}
use mathlib.Core.Path.{◌≡◌, refl, ap, ap₂, sym, ◌∙◌}
use mathlib.Core.List.{List, [], ◌∷◌, ◌++◌}
use borrow.Author.Tests.{le-leb}
use lib.ListN.{length, take, drop, take-append-drop}
use lib.Seq.{length-take-le, take_at}
use Rattle.files_words.specs.Bytes.{word_at, words_from}
use Rattle.files_words.proofs.WordLaws.{next_word, words_later, length-words_from}
use Rattle.bits.specs.declared.refusal.Refusal.TheVariants.{WordMissing}
use Rattle.files_checks.specs.Checks.{Check, sound, need, ◌⟫◌, Ruling, walk, count_check, counted_check}
use Rattle.files_checks.proofs.WalkLaws.{walk_front}
use Rattle.files_checks.proofs.CountedLaws.{count_whole, count_within, words_sound, words_there_lem}
use Rattle.files_formats.specs.declared.elements.Edition.{Edition}
use Rattle.files_formats.specs.declared.elements.Section.{Section}
use Rattle.files_formats.specs.declared.elements.Section.TheVariants.{Centres, States, Requests}
use Rattle.files_formats.specs.declared.shapes.Shape.{Shape}
use Rattle.files_formats.specs.Kinds.{ruling_of}
use Rattle.files_formats.specs.Elements.{kinds_of, limit_of, width_of}
use Rattle.files_formats.specs.Shapes.{count_of, below_of, words_of, span_of, place_of, section_check, run_check}
use Rattle.files_formats.proofs.EditionLaws.{some_words}
use Rattle.files.specs.Writer.{Runs, records_in, shape_by, limit_check, section_words}
use Rattle.files.specs.Held.{held}

-- ---- Whole records. Runs of as many words as a shape says have that shape.
abbrev pub Whole : Shape → Runs → Type 0
Whole shape runs = (section : Section) → length (runs section) ≡ words_of shape section

pub no_rest : (edition : Edition) (section : Section) (count n : ℕ) → n ≡ count * width_of edition section → n % width_of edition section ≡ 0
no_rest edition section count n e = ap (λ (k : ℕ). k % width_of edition section) e ∙ mul-mod_left count (width_of edition section)

pub of_records : (edition : Edition) (section : Section) (n : ℕ) → n % width_of edition section ≡ 0 → n ≡ records_in edition section n * width_of edition section
of_records edition section n e = omega (arith, e, div-add-mod' n (width_of edition section))

pub shape_of-runs : (shape : Shape) (runs : Runs) → Whole shape runs → shape_by shape.edition runs ≡ shape
shape_of-runs shape runs whole =
    let count : (section : Section) → records_in shape.edition section (length (runs section)) ≡ count_of shape section =
    λ section. ap (records_in shape.edition section) (whole section) ∙ mul-div_cancel (count_of shape section) (some_words shape.edition section)
    in
    λ i. record { edition = shape.edition; centres = count Centres i; states = count States i; requests = count Requests i }

-- ---- A run that is a sound section.
pub record Proper (shape : Shape) (runs : Runs) (section : Section) : Type 0 where
  pub size : length (runs section) ≡ words_of shape section
  pub few : count_of shape section ≤ limit_of section
  pub numbers : run_check (runs section) shape section ≡ sound

module _ (file : List ℕ) (shape : Shape) (section : Section) where
  abbrev place : ℕ
  place = place_of shape section

  abbrev w : ℕ
  w = width_of shape.edition section

  abbrev n : ℕ
  n = words_of shape section

  abbrev rest : List ℕ
  rest = words_from file (place + 8)

  abbrev ruling : Ruling
  ruling = ruling_of (kinds_of shape.edition section) (below_of shape section)

  -- What the reader found sound.
  module _ (passed : section_check file shape section ≡ sound) (count : count_of shape section ≡ word_at file place) where
    counted : counted_check file place (limit_of section) w ruling ≡ sound
    unfolding section_check
    counted = passed

    many : n ≡ word_at file place * w
    many = ap (λ (k : ℕ). k * w) count

    sized : length (held file shape section) ≡ n
    sized = length-take-le n rest (omega (arith, many, words_there_lem file place (limit_of section) w ruling counted))

    pub read_proper : Proper shape (held file shape) section
    unfolding run_check
    read_proper =
        record {
          size = sized;
          few = omega (arith, count, count_within file place (limit_of section) w ruling counted);
          numbers =
              ap (λ (k : ℕ). walk ruling (place + 8) [] k (held file shape section)) sized
              ∙ sym (walk_front ruling (place + 8) [] n (held file shape section) (drop n rest) (omega (arith, sized)))
              ∙ ap₂ (walk ruling (place + 8) []) many (take-append-drop n rest)
              ∙ words_sound file place (limit_of section) w ruling counted;
        }

    pub read_words_lem : words_from file place ≡ section_words shape (held file shape) section ++ words_from file (place + span_of shape section)
    read_words_lem =
        let further : place + 8 + 8 * n ≡ place + span_of shape section = omega arith in
        next_word file place (count_whole file place (limit_of section) w ruling counted)
        ∙ ap₂ ◌∷◌ (sym count)
        (sym (take-append-drop n rest)
        ∙ ap (λ (ws : List ℕ). held file shape section ++ ws) (sym (words_later file (place + 8) n) ∙ ap (words_from file) further))

  -- What the reader finds where a run of whole records stands behind its count is what the writer finds in the run.
  module _ (runs : Runs) (behind : List ℕ) (here : words_from file place ≡ section_words shape runs section ++ behind) (size : length (runs section) ≡ n) where
    whole : place + 8 ≤ length file
    whole = omega (arith, length-words_from file place, ap length here)

    opened : word_at file place ∷ rest ≡ count_of shape section ∷ (runs section ++ behind)
    opened = sym (next_word file place whole) ∙ here

    pub found_count : word_at file place ≡ count_of shape section
    found_count = cc opened

    found_words : rest ≡ runs section ++ behind
    found_words = cc opened

    pub found_run : held file shape section ≡ runs section
    found_run = ap₂ (λ (k : ℕ) (ws : List ℕ). take k ws) (sym size) found_words ∙ take_at (runs section) behind (length (runs section)) refl

    pub found_check : section_check file shape section ≡ (limit_check shape section (count_of shape section) ⟫ run_check (runs section) shape section)
    unfolding section_check counted_check count_check run_check
    found_check =
        ap₂ (λ (a b : Check). a ⟫ b)
        (ap₂ (λ (t : Bool) (k : ℕ). need t WordMissing place ⟫ limit_check shape section k) (le-leb _ _ whole) found_count)
        (ap₂ (walk ruling (place + 8) []) (ap (λ (k : ℕ). k * w) found_count ∙ sym size) found_words
        ∙ walk_front ruling (place + 8) [] (length (runs section)) (runs section) behind (omega arith))
