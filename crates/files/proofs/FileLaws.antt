-- The file of runs of whole records, and what the reader finds in it; and an accepted file as the file of the runs that it holds.
use Prim.Native.Nat.{ℕ, ◌+◌, ◌*◌, ◌^◌, ◌≤◌}
use native.Mathlib.Omega.{arith}
use mathlib.Core.Path.{◌≡◌, refl, ap, ap₂, sym, subst, ◌∙◌}
use mathlib.Core.List.{List, [], ◌∷◌, ◌++◌, append_assoc, append-nil}
use borrow.Author.Tests.{le-leb}
use lib.ListN.{length, length-append}
use Rattle.files_words.specs.Bytes.{word_at, words_from, bytes_of, as_bytes, put, Below}
use Rattle.files_words.proofs.WordLaws.{next_word, no_word, whole_file, words_after, length-as_bytes, as_bytes_append}
use Rattle.files_words.proofs.PutLaws.{put_next}
use Rattle.bits.specs.declared.refusal.Refusal.TheVariants.{BytesLeft}
use Rattle.files_checks.specs.Checks.{sound, ◌⟫◌, end_check}
use Rattle.files_checks.proofs.CheckLaws.{sound_need}
use Rattle.files_checks.proofs.CountedLaws.{sound_edition}
use Rattle.files_formats.specs.declared.elements.Section.{Section}
use Rattle.files_formats.specs.declared.elements.Section.TheVariants.{Centres, States, Requests}
use Rattle.files_formats.specs.declared.shapes.Shape.{Shape}
use Rattle.files_formats.specs.Elements.{edition_word, is_edition, edition_of, sections}
use Rattle.files_formats.specs.Shapes.{shape_of, count_of, words_of, span_of, place_of, end_of, section_check, run_check}
use Rattle.files_formats.proofs.EditionLaws.{known_word, edition_back, word_back}
use Rattle.files_reader.specs.Reader.{edition_in, first_check, shape_in, sections_check, file_check}
use Rattle.files_reader.proofs.Accepted.{count_in, edition_sound, section_sound, sound_length}
use Rattle.files.specs.Writer.{Runs, each, limit_check, section_words, words_by, Fits}
use Rattle.files.specs.Held.{held}
use Rattle.files.proofs.SectionLaws.{Whole, Proper, read_proper, read_words_lem, found_count, found_run, found_check}

-- ---- The file of runs of whole records, whose words are words.
behind : (n : ℕ) (pre post : List ℕ) → Below n (pre ++ post) → Below n post
behind n [] post h = h
behind n (x ∷ pre) post h = behind n pre post h.1

module _ (shape : Shape) (runs : Runs) (whole : Whole shape runs) where
  abbrev file : List ℕ
  file = as_bytes (words_by shape runs)

  abbrev part : Section → List ℕ
  part = section_words shape runs

  pub file_length : length file ≡ end_of shape
  file_length =
      let after : List ℕ = part Requests ++ [] in
      length-as_bytes (words_by shape runs)
      ∙ omega (
        arith,
        length-append (part Centres) (part States ++ after),
        length-append (part States) after,
        length-append (part Requests) [],
        whole Centres,
        whole States,
        whole Requests,
      )

  -- The words before a section, and behind it.
  abbrev before : Section → List ℕ
  before Centres = edition_word shape.edition ∷ []
  before States = edition_word shape.edition ∷ part Centres
  before Requests = edition_word shape.edition ∷ (part Centres ++ part States)

  abbrev after : Section → List ℕ
  after Centres = part States ++ (part Requests ++ [])
  after States = part Requests ++ []
  after Requests = []

  split : (section : Section) → words_by shape runs ≡ before section ++ (part section ++ after section)
  split Centres = refl
  split States = refl
  split Requests = ap (λ (ws : List ℕ). edition_word shape.edition ∷ ws) (sym (append_assoc (part Centres) (part States) (part Requests ++ [])))

  placed : (section : Section) → place_of shape section ≡ 8 * length (before section)
  placed Centres = refl
  placed States = omega (arith, whole Centres)
  placed Requests = omega (arith, length-append (part Centres) (part States), whole Centres, whole States)

  module _ (are : Below (2 ^ 64) (words_by shape runs)) where
    here : (section : Section) → words_from file (place_of shape section) ≡ part section ++ after section
    here section =
        ap₂ (λ (ws : List ℕ) (place : ℕ). words_from (as_bytes ws) place) (split section) (placed section)
        ∙ words_after (before section) (part section ++ after section)
        (behind (2 ^ 64) (before section) (part section ++ after section) (subst (Below (2 ^ 64)) (split section) are))

    count : (section : Section) → word_at file (place_of shape section) ≡ count_of shape section
    count section = found_count file shape section runs (after section) (here section) (whole section)

    pub file_held : (section : Section) → held file shape section ≡ runs section
    file_held section = found_run file shape section runs (after section) (here section) (whole section)

    -- Its edition, and its shape.
    enough : 8 ≤ length file
    enough = omega (arith, file_length)

    first_word : word_at file 0 ≡ edition_word shape.edition
    first_word =
        let opened : word_at file 0 ∷ words_from file 8 ≡ words_by shape runs = sym (next_word file 0 enough) ∙ words_after [] (words_by shape runs) are in
        cc opened

    first_sound : first_check file ≡ sound
    first_sound = sound_edition file (is_edition (word_at file 0)) enough (ap is_edition first_word ∙ known_word shape.edition)

    pub file_shape : shape_in (edition_in file) file ≡ shape
    unfolding shape_in
    file_shape =
        let edition = ap edition_of first_word ∙ edition_back shape.edition in
        let centres = count Centres in
        let states : word_at file (place_of (shape_of (edition_in file) (word_at file 8) 0 0) States) ≡ shape.states =
        (λ i. word_at file (place_of (shape_of (edition i) (centres i) 0 0) States)) ∙ count States
        in
        let requests = (λ i. word_at file (place_of (shape_of (edition i) (centres i) (states i) 0) Requests)) ∙ count Requests in
        λ i. record { edition = edition i; centres = centres i; states = states i; requests = requests i }

    -- The reader's judgement, by the writer's checks of each run.
    pub file_check_lem : file_check file ≡ each (λ section. limit_check shape section (count_of shape section) ⟫ run_check (runs section) shape section) sections
    unfolding file_check sections_check section_check each shape_in
    file_check_lem =
        let found : (section : Section) → section_check file shape section ≡ (limit_check shape section (count_of shape section) ⟫ run_check (runs section) shape section) =
        λ section. found_check file shape section runs (after section) (here section) (whole section)
        in
        let end : end_check file (end_of shape) ≡ sound = sound_need _ BytesLeft (end_of shape) (le-leb (length file) (end_of shape) (omega (arith, file_length))) in
        ap (λ (x : Shape). first_check file ⟫ section_check file x Centres ⟫ section_check file x States ⟫ section_check file x Requests ⟫ end_check file (end_of x)) file_shape
        ∙ (λ i. first_sound i ⟫ found Centres i ⟫ found States i ⟫ found Requests i ⟫ end i)

-- ---- An accepted file.
module _ (file : List ℕ) (passed : file_check file ≡ sound) where
  abbrev shape : Shape
  shape = shape_in (edition_in file) file

  abbrev held_words : Section → List ℕ
  held_words = section_words shape (held file shape)

  pub held_proper : (section : Section) → Proper shape (held file shape) section
  held_proper section = read_proper file shape section (section_sound file passed section) (count_in (edition_in file) file section)

  next : (section : Section) → words_from file (place_of shape section) ≡ held_words section ++ words_from file (place_of shape section + span_of shape section)
  next section = read_words_lem file shape section (section_sound file passed section) (count_in (edition_in file) file section)

  words_are : words_from file 0 ≡ words_by shape (held file shape)
  unfolding shape_in
  words_are =
      let first = edition_sound file passed in
      let last : words_from file (end_of shape) ≡ [] = no_word file (end_of shape) (omega (arith, sound_length file passed)) in
      next_word file 0 first.0
      ∙ ap₂ ◌∷◌ (sym (word_back (word_at file 0) first.1))
      (next Centres
      ∙ ap (λ (ws : List ℕ). held_words Centres ++ ws)
      (next States ∙ ap (λ (ws : List ℕ). held_words States ++ ws) (next Requests ∙ ap (λ (ws : List ℕ). held_words Requests ++ ws) last)))

  pub read_bytes : Below 256 file → as_bytes (words_by shape (held file shape)) ≡ file
  read_bytes h =
      let n = 4 + words_of shape Centres + words_of shape States + words_of shape Requests in
      ap as_bytes (sym words_are) ∙ whole_file file n h (omega (arith, sound_length file passed))

-- ---- The stores of the writer, one after another.
then_words : (room xs ys : List ℕ) (n : ℕ) → n ≡ 8 * length xs → 8 * (length xs + length ys) ≤ length room →
    put (put room 0 (as_bytes xs)) n (as_bytes ys) ≡ put room 0 (as_bytes (xs ++ ys))
then_words room xs ys n e h =
    let a : length (as_bytes xs) ≡ 8 * length xs = length-as_bytes xs in
    let b : length (as_bytes ys) ≡ 8 * length ys = length-as_bytes ys in
    put_next room (as_bytes xs) (as_bytes ys) 0 n (omega arith) (omega arith) ∙ ap (put room 0) (sym (as_bytes_append xs ys))

pub file_put : (shape : Shape) (runs : Runs) (room d1 d2 d3 d4 : List ℕ) → Fits shape runs (length room) →
    d1 ≡ put room 0 (bytes_of 8 (edition_word shape.edition)) →
    d2 ≡ put d1 (place_of shape Centres) (as_bytes (section_words shape runs Centres)) →
    d3 ≡ put d2 (place_of shape States) (as_bytes (section_words shape runs States)) →
    d4 ≡ put d3 (place_of shape Requests) (as_bytes (section_words shape runs Requests)) →
    d4 ≡ put room 0 (as_bytes (words_by shape runs))
unfolding as_bytes bytes_of
file_put shape runs room d1 d2 d3 d4 f e1 e2 e3 e4 =
    let part = section_words shape runs in
    let placed_at_lem = placed shape runs f.whole in
    let long = length-append (part Centres) (part States) in
    e4
    ∙ ap (λ (d : List ℕ). put d (place_of shape Requests) (as_bytes (part Requests)))
    (e3
    ∙ ap (λ (d : List ℕ). put d (place_of shape States) (as_bytes (part States)))
    (e2
    ∙ ap (λ (d : List ℕ). put d (place_of shape Centres) (as_bytes (part Centres))) e1
    ∙ then_words room (before shape runs f.whole Centres) (part Centres) (place_of shape Centres) (placed_at_lem Centres) (omega (arith, f.roomy, f.whole Centres)))
    ∙ then_words room (before shape runs f.whole States) (part States) (place_of shape States) (placed_at_lem States) (omega (arith, f.roomy, f.whole Centres, f.whole States)))
    ∙ then_words room (before shape runs f.whole Requests) (part Requests) (place_of shape Requests) (placed_at_lem Requests)
    (omega (arith, long, f.roomy, f.whole Centres, f.whole States, f.whole Requests))
    ∙ ap (λ (ws : List ℕ). put room 0 (as_bytes (edition_word shape.edition ∷ ws)))
    (append_assoc (part Centres) (part States) (part Requests) ∙ ap (λ (ws : List ℕ). part Centres ++ (part States ++ ws)) (sym (append-nil (part Requests))))
