-- What the writer refuses, the reader refuses in the file that would have been.
use Prim.Native.Nat.{ℕ, zero, suc, ◌+◌, ◌*◌, ◌%◌, ◌^◌, ◌<◌, ◌≤◌}
use native.Mathlib.Omega.{arith}
use mathlib.Core.Bool.{Bool, true, false}
use mathlib.Core.Logic.{◌⊎◌, inl, inr, ⊎_elim}
use mathlib.Core.Path.{◌≡◌, refl, ap, sym, ◌∙◌}
use mathlib.Core.List.{List, [], ◌∷◌, ◌++◌}
use borrow.Author.Tests.{leb-false}
use lib.Dec.{ltb, leb, eqb}
use lib.ListN.{length}
use Rattle.bits.specs.Choice.{pick}
use Rattle.files_words.specs.Bytes.{Below}
use Rattle.files_records.specs.Records.{AllOf, same_column}
use Rattle.files_records.proofs.Steps.{more}
use Rattle.std.specs.Prelude.{Option, None, Some, Ok, Err}
use Rattle.bits.specs.declared.refusal.Refusal.{Refusal}
use Rattle.bits.specs.declared.refusal.Refusal.TheVariants.{TooMany, NoSuchRecord, RoomTooShort, NotWholeRecords}
use Rattle.bits.specs.Refusal.{number_of}
use Rattle.files_checks.specs.declared.Fault.{Fault}
use Rattle.files_checks.specs.Checks.{Check, sound, IsFault, told, ◌⟫◌, Ruling, walk}
use Rattle.files_checks.proofs.CheckLaws.{fault_is_not_sound, needed_not, in_a_row, first_fault_lem, is_fault, fault_is, unanswered}
use Rattle.files_formats.specs.declared.kinds.Kind.{Kind}
use Rattle.files_formats.specs.declared.kinds.Kind.TheVariants.{Figure, Number}
use Rattle.files_formats.specs.declared.elements.Edition.{Edition}
use Rattle.files_formats.specs.declared.elements.Section.{Section}
use Rattle.files_formats.specs.declared.shapes.Shape.{Shape}
use Rattle.files_formats.specs.Kinds.{fault_of, kind_at, ruling_of}
use Rattle.files_formats.specs.Elements.{kinds_of, sections, limit_of, width_of}
use Rattle.files_formats.specs.Shapes.{count_of, below_of, span_of, place_of, end_of, run_check}
use Rattle.files_reader.specs.Reader.{edition_in, shape_in, file_check, reading_of}
use Rattle.files.specs.Writer.{Runs, shape_by, each, index_of, whole_check, limit_check, room_check, whole_checks, limit_checks, word_checks, write_check}
use Rattle.files.specs.Writer.{words_by, file_of, writing_of}
use Rattle.files.specs.Held.{RefusedAlike, RefusesAlike}
use Rattle.files.proofs.SectionLaws.{Whole}
use Rattle.files.proofs.JudgeLaws.{whole_runs, few_records}
use Rattle.files.proofs.FileLaws.{file_length, file_check_lem}

-- ---- Checks whose faults are all of one number: a fault of another number is not theirs.
abbrev Tells : Check → ℕ → Type 0
Tells check k = (f : Fault) → check ≡ Err f → number_of f.refusal ≡ k

past : {a b : Check} {f : Fault} {k : ℕ} → Tells a k → (number_of f.refusal ≡ k → ⊥) → (a ⟫ b) ≡ Err f → (a ≡ sound) × (b ≡ Err f)
past {a} {b} t other e = ⊎_elim (λ g. absurd (other (t _ g))) (λ g. g) (first_fault_lem a b e)

here : {a b : Check} {f : Fault} {k : ℕ} → Tells b k → (number_of f.refusal ≡ k → ⊥) → (a ⟫ b) ≡ Err f → a ≡ Err f
here {a} {b} t other e = ⊎_elim (λ g. g) (λ g. absurd (other (t _ g.1))) (first_fault_lem a b e)

each_tells : (check : Section → Check) {k : ℕ} → ((section : Section) → Tells (check section) k) → (those : List Section) → Tells (each check those) k
unfolding each
each_tells check t [] f e = fault_is_not_sound (sym e)
each_tells check t (section ∷ rest) f e = ⊎_elim (t section f) (λ g. each_tells check t rest f g.1) (first_fault_lem (check section) (each check rest) e)

wholes_tell : (edition : Edition) (runs : Runs) → Tells (whole_checks edition runs) 27
wholes_tell edition runs =
    each_tells (λ section. whole_check edition section (length (runs section)))
    (λ section f e. ap number_of (needed_not (eqb (length (runs section) % width_of edition section) 0) NotWholeRecords (index_of section) e).1) sections

-- ---- The walk of a section tells 24, at one of its words.
-- What a kind refuses.
abbrev None_or_24 : Option Refusal → Type 0
None_or_24 None = Unit {0}
None_or_24 (Some refusal) = number_of refusal ≡ 24

none_or_24 : (kind : Kind) (below : ℕ) (before : List ℕ) (w : ℕ) → None_or_24 (fault_of kind below before w)
none_or_24 Figure below before w = tt
none_or_24 Number below before w = picked (ltb w below)
  where
    picked : (t : Bool) → None_or_24 (pick t None (Some NoSuchRecord))
    picked true = tt
    picked false = refl

told_24 : (ruled : Option Refusal) (place : ℕ) {f : Fault} → None_or_24 ruled → told ruled place ≡ Err f → (number_of f.refusal ≡ 24) × (f.place ≡ place)
told_24 None place h e = cc
told_24 (Some refusal) place {f} h e =
    let same : ◌≡◌ {A = Fault} (record { refusal = refusal; place = place }) f = cc e in
    (ap (λ (x : Fault). number_of x.refusal) (sym same) ∙ h, ap (λ (x : Fault). x.place) (sym same))

walk_fault : (ruling : Ruling) → ((before : List ℕ) (w : ℕ) → None_or_24 (ruling before w)) →
    (place : ℕ) (before : List ℕ) (n : ℕ) (ws : List ℕ) {f : Fault} → n ≤ length ws → walk ruling place before n ws ≡ Err f →
    (number_of f.refusal ≡ 24) × (f.place < place + 8 * n)
unfolding walk
walk_fault ruling kind place before zero ws h e = fault_is_not_sound (sym e)
walk_fault ruling kind place before (suc n) [] h e = absurd (omega arith)
walk_fault ruling kind place before (suc n) (w ∷ ws) h e =
    ⊎_elim
    (λ f. let t = told_24 (ruling before w) place (kind before w) f in (t.0, omega (arith, t.1)))
    (λ f. let t = walk_fault ruling kind (place + 8) (before ++ (w ∷ [])) n ws (omega arith) f.1 in (t.0, omega (arith, t.1)))
    (first_fault_lem (told (ruling before w) place) (walk ruling (place + 8) (before ++ (w ∷ [])) n ws) e)

ruled_24 : (kinds : List Kind) (below : ℕ) (before : List ℕ) (w : ℕ) → None_or_24 (ruling_of kinds below before w)
unfolding ruling_of
ruled_24 kinds below before w = none_or_24 (kind_at kinds (length before % length kinds)) below (same_column (length kinds) before) w

run_fault : (run : List ℕ) (shape : Shape) (section : Section) {f : Fault} → run_check run shape section ≡ Err f →
    (number_of f.refusal ≡ 24) × (f.place < place_of shape section + 8 + 8 * length run)
unfolding run_check
run_fault run shape section e =
    let kinds = kinds_of shape.edition section in
    walk_fault (ruling_of kinds (below_of shape section)) (ruled_24 kinds (below_of shape section))
    (place_of shape section + 8) [] (length run) run (omega arith) e

-- ---- The same checks in the writer's order, all counts before all words, and in the reader's, section by section.
abbrev Either23 : Check → Fault → Type 0
Either23 check f = (check ≡ Err f) ⊎ ((g : Fault) × (number_of g.refusal ≡ 24) × (g.place < f.place) × (check ≡ Err g))

one_section : (l n ls both : Check) {f : Fault} {bound : ℕ} → ((g : Fault) → n ≡ Err g → (number_of g.refusal ≡ 24) × (g.place < bound)) →
    (ls ≡ Err f → bound ≤ f.place) → (ls ≡ Err f → Either23 both f) → (l ⟫ ls) ≡ Err f → Either23 ((l ⟫ n) ⟫ both) f
one_section (Err g) n ls both t later rest e = inl e
one_section (Ok done) (Ok next) ls both t later rest e = rest e
one_section (Ok done) (Err g) ls both t later rest e = let h = t g refl in inr (g, h.0, omega (arith, h.1, later e), refl)

module _ (shape : Shape) (runs : Runs) (whole : Whole shape runs) where
  abbrev limit : Section → Check
  limit section = limit_check shape section (count_of shape section)

  abbrev words : Section → Check
  words section = run_check (runs section) shape section

  abbrev in_turn : List Section → Check
  in_turn those = each (λ section. limit section ⟫ words section) those

  limit_fault : (section : Section) {f : Fault} → limit section ≡ Err f → (number_of f.refusal ≡ 23) × (f.place ≡ place_of shape section)
  limit_fault section e = let n = needed_not (leb (count_of shape section) (limit_of section)) TooMany (place_of shape section) e in (ap number_of n.1, n.2)

  limits_tell : Tells (limit_checks shape) 23
  limits_tell = each_tells limit (λ section f e. (limit_fault section e).0) sections

  words_tell : Tells (word_checks shape runs) 24
  words_tell = each_tells words (λ section f e. (run_fault (runs section) shape section e).0) sections

  -- Where no count is above its limit, the words decide.
  by_words : (those : List Section) → each limit those ≡ sound → in_turn those ≡ each words those
  unfolding each
  by_words [] e = refl
  by_words (section ∷ rest) e = one (limit section) (words section) _ e (by_words rest)
    where
      one : (l n ls : Check) {both ns : Check} → (l ⟫ ls) ≡ sound → (ls ≡ sound → both ≡ ns) → ((l ⟫ n) ⟫ both) ≡ (n ⟫ ns)
      one (Ok done) n ls e rest = ap (λ (k : Check). n ⟫ k) (rest e)
      one (Err f) n ls e rest = fault_is_not_sound e

  -- Where one is, a bad word may stand before it.
  abbrev Ascending : List Section → Type 0
  Ascending [] = Unit {0}
  Ascending (section ∷ rest) = AllOf (λ later. place_of shape section + span_of shape section ≤ place_of shape later) rest × Ascending rest

  not_before : (bound : ℕ) (those : List Section) → AllOf (λ section. bound ≤ place_of shape section) those → {f : Fault} → each limit those ≡ Err f → bound ≤ f.place
  unfolding each
  not_before bound [] o e = fault_is_not_sound (sym e)
  not_before bound (section ∷ rest) o e =
      ⊎_elim (λ f. omega (arith, (limit_fault section f).1, o.0)) (λ f. not_before bound rest o.1 f.1) (first_fault_lem (limit section) (each limit rest) e)

  by_counts : (those : List Section) → Ascending those → {f : Fault} → each limit those ≡ Err f → Either23 (in_turn those) f
  unfolding each
  by_counts [] o e = fault_is_not_sound (sym e)
  by_counts (section ∷ rest) o e =
      one_section (limit section) (words section) (each limit rest) (in_turn rest) {bound = place_of shape section + span_of shape section}
      (λ g f. let t = run_fault (runs section) shape section f in (t.0, omega (arith, t.1, whole section)))
      (λ f. not_before _ rest o.0 f)
      (λ f. by_counts rest o.1 f)
      e

  ascending : Ascending sections
  ascending = ((omega arith, (omega arith, tt)), ((omega arith, tt), (tt, tt)))

-- ---- Three runs, and the file that would have been.
refused_so : (file : List ℕ) {f : Fault} → file_check file ≡ Err f → reading_of file ≡ Err f
unfolding reading_of
refused_so file e = ap (λ (k : Check). k ⟫ Ok (shape_in (edition_in file) file)) e

accepted_so : (file : List ℕ) → file_check file ≡ sound → reading_of file ≡ Ok (shape_in (edition_in file) file)
unfolding reading_of
accepted_so file e = ap (λ (k : Check). k ⟫ Ok (shape_in (edition_in file) file)) e

module _ (edition : Edition) (runs : Runs) (room : List ℕ) (are : Below (2 ^ 64) (words_by (shape_by edition runs) runs)) where
  abbrev shape : Shape
  shape = shape_by edition runs

  abbrev file : List ℕ
  file = file_of edition runs

  enough : Check
  enough = room_check (end_of shape) (length room)

  room_fault : {f : Fault} → enough ≡ Err f → (number_of f.refusal ≡ 26) × (f.place ≡ end_of shape) × (length room < end_of shape)
  unfolding enough
  room_fault e = let n = needed_not (leb (end_of shape) (length room)) RoomTooShort (end_of shape) e in (ap number_of n.1, n.2, leb-false _ _ n.0)

  room_tells : Tells enough 26
  room_tells f e = (room_fault e).0

  -- What is left of the judgement where the runs are whole records.
  past_27 : {f : Fault} → (number_of f.refusal ≡ 27 → ⊥) → writing_of edition runs room ≡ Err f →
      Whole shape runs × ((limit_checks shape ⟫ word_checks shape runs ⟫ enough) ≡ Err f)
  unfolding writing_of write_check enough
  past_27 other e =
      let p = past (wholes_tell edition runs) other (unanswered (write_check edition runs (length room)) _ e) in
      (whole_runs edition runs p.0, p.1)

  -- What the reader says of the file, and how long it is.
  module _ (whole : Whole shape runs) where
    read_as : file_check file ≡ in_turn shape runs whole sections
    unfolding file_of
    read_as = file_check_lem shape runs whole are

    long : length file ≡ end_of shape
    unfolding file_of
    long = file_length shape runs whole

  by_reader : {f : Fault} {x : Check} → file_check file ≡ x → number_of f.refusal ≡ 23 → Either23 x f →
      IsFault (reading_of file) 23 f.place ⊎ ((at : ℕ) × (at < f.place) × IsFault (reading_of file) 24 at)
  by_reader e n (inl h) = inl (fault_is (refused_so file (e ∙ h)) n refl)
  by_reader e n (inr h) = let g = h.0 in inr (g.place, h.2, fault_is (refused_so file (e ∙ h.3)) h.1 refl)

  alike : RefusedAlike edition runs room file
  alike =
      record {
        by_number =
            λ place e.
            let f = is_fault (writing_of edition runs room) e in
            let p = past_27 (λ z. omega (arith, z, f.2)) f.1 in
            let l = past (limits_tell shape runs p.0) (λ z. omega (arith, z, f.2)) p.1 in
            let n = here room_tells (λ z. omega (arith, z, f.2)) l.1 in (
              λ section. omega (arith, p.0 section, more (width_of edition section) (few_records shape l.0 section)),
              fault_is (refused_so file (read_as p.0 ∙ by_words shape runs p.0 sections l.0 ∙ n)) f.2 f.3,
            );
        by_count =
            λ place e.
            let f = is_fault (writing_of edition runs room) e in
            let p = past_27 (λ z. omega (arith, z, f.2)) f.1 in
            let n = here room_tells (λ z. omega (arith, z, f.2)) (in_a_row (limit_checks shape) (word_checks shape runs) enough ∙ p.1) in
            let l = here (words_tell shape runs p.0) (λ z. omega (arith, z, f.2)) n in
            rw f.3 at (by_reader (read_as p.0) f.2 (by_counts shape runs p.0 sections (ascending shape runs p.0) l));
        by_room =
            λ needed e.
            let f = is_fault (writing_of edition runs room) e in
            let p = past_27 (λ z. omega (arith, z, f.2)) f.1 in
            let l = past (limits_tell shape runs p.0) (λ z. omega (arith, z, f.2)) p.1 in
            let n = past (words_tell shape runs p.0) (λ z. omega (arith, z, f.2)) l.1 in
            let r = room_fault n.1 in (
              omega (arith, r.1, r.2, f.3),
              omega (arith, r.1, long p.0, f.3),
              shape_in (edition_in file) file,
              accepted_so file (read_as p.0 ∙ by_words shape runs p.0 sections l.0 ∙ n.0),
            );
      }

pub refuses_alike : RefusesAlike
refuses_alike = alike
