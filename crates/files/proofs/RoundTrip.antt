-- The laws of the element file: the reader and the writer are each other's inverse.
use Prim.Native.Nat.{ℕ, ◌+◌, ◌-◌, ◌/◌, ◌^◌, ◌≤◌}
use native.Mathlib.Omega.{arith}
use mathlib.Core.Path.{◌≡◌, refl, ap, ap₂, sym, subst, ◌∙◌}
use mathlib.Core.List.{List, [], ◌++◌}
use lib.ListN.{length, take, drop}
use lib.Seq.{take_at}
use Rattle.files_words.specs.Bytes.{words_from, as_bytes, Below}
use Rattle.files_words.proofs.WordLaws.{words_below, below_take, below_drop, below_append}
use Rattle.files_words.proofs.PutLaws.{put_fits}
use Rattle.std.specs.Prelude.{Result, Ok, Err}
use Rattle.bits.specs.Refusal.{number_of}
use Rattle.files_checks.specs.declared.Fault.{Fault}
use Rattle.files_checks.specs.Checks.{Check, sound, IsFault, ◌⟫◌}
use Rattle.files_checks.proofs.CheckLaws.{answered}
use Rattle.files_formats.specs.declared.elements.Edition.{Edition}
use Rattle.files_formats.specs.declared.elements.Section.{Section}
use Rattle.files_formats.specs.declared.elements.Section.TheVariants.{Centres, States, Requests}
use Rattle.files_formats.specs.declared.shapes.Shape.{Shape}
use Rattle.files_formats.specs.Elements.{sections}
use Rattle.files_formats.specs.Shapes.{words_of, place_of, end_of}
use Rattle.files_formats.proofs.EditionLaws.{small_word}
use Rattle.files_reader.specs.Reader.{edition_in, shape_in, file_check, reading_of}
use Rattle.files_reader.proofs.Accepted.{sound_length, accepted_sound, few_limit}
use Rattle.files.specs.Writer.{Runs, shape_by, write_check, section_words, words_by, file_of, room_by, writing_of, room_of}
use Rattle.files.specs.Held.{held, ReadsAs, WrittenAs, Writable}
use Rattle.files.proofs.SectionLaws.{shape_of-runs, Proper}
use Rattle.files.proofs.JudgeLaws.{sound_each, fits, accepted_proper, proper_whole, proper_accepted, proper_sound}
use Rattle.files.proofs.FileLaws.{file_length, file_held, file_shape, file_check_lem, held_proper, read_bytes}

-- Runs that the writer accepts stand at the start of the room, as their file.
module _ (edition : Edition) (runs : Runs) (room : List ℕ) (passed : write_check edition runs (length room) ≡ sound) where
  abbrev by_runs : Shape
  by_runs = shape_by edition runs

  long : length (file_of edition runs) ≡ end_of by_runs
  unfolding file_of
  long = file_length by_runs runs (fits edition runs (length room) passed).whole

  written_file : WrittenAs edition runs room (file_of edition runs)
  unfolding writing_of room_of
  written_file =
      let file = file_of edition runs in
      let enough : 0 + length file ≤ length room = omega (arith, long, (fits edition runs (length room) passed).roomy) in
      let all : 0 + length file ≡ length file = omega arith in
      record {
        accepted = ap (λ (k : Check). k ⟫ Ok (end_of by_runs)) passed ∙ ap (λ (n : ℕ). Ok n) (sym long);
        same = ap (λ (k : Check). room_by k room file) passed ∙ put_fits room file 0 enough ∙ ap (λ (n : ℕ). file ++ drop n room) all;
      }

-- ---- Demand 2: "An accepted element file, written again, is the same bytes", in any room that is long enough.
pub written_again : (file : List ℕ) (shape : Shape) → Below 256 file → reading_of file ≡ Ok shape →
    (room : List ℕ) → length file ≤ length room → WrittenAs shape.edition (held file shape) room file
unfolding file_of
written_again file shape bytes e room h =
    let a = accepted_sound file shape e in
    subst (λ (x : Shape). WrittenAs x.edition (held file x) room file) a.1 (again a.0)
  where
    again : file_check file ≡ sound → WrittenAs (shape_in (edition_in file) file).edition (held file (shape_in (edition_in file) file)) room file
    again passed =
        let x = shape_in (edition_in file) file in
        let runs = held file x in
        let p = held_proper file passed in
        let same : file_of x.edition runs ≡ file =
        ap (λ (s : Shape). as_bytes (words_by s runs)) (shape_of-runs x runs (proper_whole x runs p)) ∙ read_bytes file passed bytes
        in
        subst (WrittenAs x.edition runs room) same
        (written_file x.edition runs room (proper_accepted x runs p (length room) (omega (arith, sound_length file passed))))

-- ---- "what we write reads back as the same sections", words included.
module _ (shape : Shape) (runs : Runs) (p : (section : Section) → Proper shape runs section) (below : (section : Section) → Below (2 ^ 64) (runs section)) where
  words_are : Below (2 ^ 64) (words_by shape runs)
  words_are =
      let part : (section : Section) → Below (2 ^ 64) (section_words shape runs section) = λ section. (omega (arith, (p section).few, few_limit section), below section) in (
        small_word shape.edition,
        below_append (2 ^ 64) (section_words shape runs Centres) _ (part Centres)
            (below_append (2 ^ 64) (section_words shape runs States) _ (part States) (below_append (2 ^ 64) (section_words shape runs Requests) [] (part Requests) tt)),
      )

  back : ReadsAs (as_bytes (words_by shape runs)) shape runs
  unfolding reading_of
  back =
      let file = as_bytes (words_by shape runs) in
      let whole = proper_whole shape runs p in
      record {
        accepted =
            ap₂ (λ (k : Check) (s : Shape). k ⟫ Ok s) (file_check_lem shape runs whole words_are ∙ sound_each sections (λ section. proper_sound shape runs section (p section)))
            (file_shape shape runs whole words_are);
        same = file_held shape runs whole words_are;
      }

pub reads_back : (edition : Edition) (runs : Runs) (room : List ℕ) (n : ℕ) → writing_of edition runs room ≡ Ok n →
    ((section : Section) → Below (2 ^ 64) (runs section)) → ReadsAs (take n (room_of edition runs room)) (shape_by edition runs) runs
unfolding writing_of file_of
reads_back edition runs room n e below =
    let a = answered (write_check edition runs (length room)) (end_of (shape_by edition runs)) e in
    let file = file_of edition runs in
    let w = written_file edition runs room a.0 in
    let first : take n (room_of edition runs room) ≡ file =
    ap (take n) w.same ∙ take_at file (drop (length file) room) n (long edition runs room a.0 ∙ a.1)
    in
    subst (λ (x : List ℕ). ReadsAs x (shape_by edition runs) runs) (sym first)
    (back (shape_by edition runs) runs (accepted_proper edition runs (length room) a.0) below)

-- ---- The reader accepts exactly the files that some sections write, and refuses exactly those that none do.
held_below : (file : List ℕ) (shape : Shape) (section : Section) → Below 256 file → Below (2 ^ 64) (held file shape section)
unfolding words_from
held_below file shape section h =
    let place = place_of shape section + 8 in
    below_take (2 ^ 64) (words_of shape section) (words_from file place) (words_below ((length file - place) / 8) (drop place file) (below_drop 256 place file h))

pub accepted_is_writable : (file : List ℕ) (shape : Shape) → Below 256 file → reading_of file ≡ Ok shape → Writable file
accepted_is_writable file shape bytes e =
    record {
      edition = shape.edition;
      runs = held file shape;
      room = file;
      words = λ section. held_below file shape section bytes;
      written = written_again file shape bytes e file (omega arith);
    }

pub writable_is_accepted : (file : List ℕ) (w : Writable file) → reading_of file ≡ Ok (shape_by w.edition w.runs)
writable_is_accepted file w =
    let first : take (length file) (room_of w.edition w.runs w.room) ≡ file =
    ap (take (length file)) w.written.same ∙ take_at file (drop (length file) w.room) (length file) refl
    in
    sym (ap reading_of first) ∙ (reads_back w.edition w.runs w.room (length file) w.written.accepted w.words).accepted

pub refused_is_not_writable : (file : List ℕ) (number place : ℕ) → IsFault (reading_of file) number place → Writable file → ⊥
refused_is_not_writable file number place e w = rw (writable_is_accepted file w) at e

refused_by : (file : List ℕ) (x : Result Shape Fault) → reading_of file ≡ x → Below 256 file → (Writable file → ⊥) →
    (number : ℕ) × (place : ℕ) × IsFault x number place
refused_by file (Ok shape) e bytes h = absurd (h (accepted_is_writable file shape bytes e))
refused_by file (Err fault) e bytes h = (number_of fault.refusal, fault.place, (refl, refl))

pub not_writable_is_refused : (file : List ℕ) → Below 256 file → (Writable file → ⊥) → (number : ℕ) × (place : ℕ) × IsFault (reading_of file) number place
not_writable_is_refused file bytes h = refused_by file (reading_of file) refl bytes h
