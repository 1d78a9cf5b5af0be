-- The writer's judgement: sound where each section is.
use Prim.Native.Nat.{ℕ, ◌*◌, ◌≤◌}
use mathlib.Core.Path.{◌≡◌, refl, ap, ◌∙◌}
use mathlib.Core.List.{List, [], ◌∷◌}
use borrow.Author.Tests.{leb-true, le-leb, eqb-true, eq-eqb}
use lib.ListN.{length}
use Rattle.bits.specs.declared.refusal.Refusal.TheVariants.{TooMany, RoomTooShort, NotWholeRecords}
use Rattle.files_checks.specs.Checks.{Check, sound, ◌⟫◌}
use Rattle.files_checks.proofs.CheckLaws.{both, needed, sound_both, sound_need}
use Rattle.files_formats.specs.declared.elements.Edition.{Edition}
use Rattle.files_formats.specs.declared.elements.Section.{Section}
use Rattle.files_formats.specs.declared.elements.Section.TheVariants.{Centres, States, Requests}
use Rattle.files_formats.specs.declared.shapes.Shape.{Shape}
use Rattle.files_formats.specs.Elements.{sections, limit_of, width_of}
use Rattle.files_formats.specs.Shapes.{count_of, end_of, run_check}
use Rattle.files.specs.Writer.{Runs, records_in, shape_by, index_of, each, limit_check, room_check, whole_checks, limit_checks, word_checks, write_check, Fits}
use Rattle.files.proofs.SectionLaws.{Whole, no_rest, of_records, shape_of-runs, Proper}

pub sound_each : {check : Section → Check} (those : List Section) → ((section : Section) → check section ≡ sound) → each check those ≡ sound
unfolding each
sound_each [] h = refl
sound_each (section ∷ rest) h = sound_both _ _ (h section) (sound_each rest h)

each_of_three : (check : Section → Check) → each check sections ≡ sound → (check Centres ≡ sound) × (check States ≡ sound) × (check Requests ≡ sound)
unfolding each
each_of_three check e =
    let c = both (check Centres) _ e in
    let s = both (check States) _ c.1 in
    let r = both (check Requests) _ s.1 in
    (c.0, s.0, r.0)

pub each_sound : (check : Section → Check) → each check sections ≡ sound → (section : Section) → check section ≡ sound
each_sound check e Centres = (each_of_three check e).0
each_sound check e States = (each_of_three check e).1
each_sound check e Requests = (each_of_three check e).2

-- ---- Whole records, and counts within their limits.
of_whole : (edition : Edition) (runs : Runs) → whole_checks edition runs ≡ sound → (section : Section) →
    length (runs section) ≡ records_in edition section (length (runs section)) * width_of edition section
of_whole edition runs e section = of_records edition section (length (runs section)) (eqb-true _ _ (needed _ _ _ (each_sound _ e section)))

pub whole_runs : (edition : Edition) (runs : Runs) → whole_checks edition runs ≡ sound → Whole (shape_by edition runs) runs
whole_runs edition runs e Centres = of_whole edition runs e Centres
whole_runs edition runs e States = of_whole edition runs e States
whole_runs edition runs e Requests = of_whole edition runs e Requests

pub few_records : (shape : Shape) → limit_checks shape ≡ sound → (section : Section) → count_of shape section ≤ limit_of section
few_records shape e section = leb-true _ _ (needed _ _ _ (each_sound _ e section))

-- ---- What a sound judgement tells.
module _ (edition : Edition) (runs : Runs) (room : ℕ) (passed : write_check edition runs room ≡ sound) where
  abbrev shape : Shape
  shape = shape_by edition runs

  parts : (whole_checks edition runs ≡ sound) × (limit_checks shape ≡ sound) × (word_checks shape runs ≡ sound) × (room_check (end_of shape) room ≡ sound)
  unfolding write_check
  parts =
      let w = both (whole_checks edition runs) _ passed in
      let l = both (limit_checks shape) _ w.1 in
      let n = both (word_checks shape runs) _ l.1 in
      (w.0, l.0, n.0, n.1)

  pub fits : Fits shape runs room
  fits = record { whole = whole_runs edition runs parts.0; roomy = leb-true _ _ (needed _ _ _ parts.3) }

  pub accepted_proper : (section : Section) → Proper shape runs section
  accepted_proper section =
      record { size = fits.whole section; few = few_records shape parts.1 section; numbers = each_sound _ parts.2 section }

-- ---- And the other way round.
pub proper_sound : (shape : Shape) (runs : Runs) (section : Section) → Proper shape runs section →
    (limit_check shape section (count_of shape section) ⟫ run_check (runs section) shape section) ≡ sound
proper_sound here runs section p = sound_both _ _ (sound_need _ TooMany _ (le-leb _ _ p.few)) p.numbers

module _ (shape : Shape) (runs : Runs) (proper : (section : Section) → Proper shape runs section) where
  pub proper_whole : Whole shape runs
  proper_whole section = (proper section).size

  checks : (x : Shape) (room : ℕ) → x ≡ shape → end_of shape ≤ room → (limit_checks x ⟫ word_checks x runs ⟫ room_check (end_of x) room) ≡ sound
  checks x room e h =
      ap (λ (x : Shape). limit_checks x ⟫ word_checks x runs ⟫ room_check (end_of x) room) e
      ∙ sound_both (limit_checks shape) _ (sound_each sections (λ section. sound_need _ TooMany _ (le-leb _ _ (proper section).few)))
      (sound_both (word_checks shape runs) _ (sound_each sections (λ section. (proper section).numbers)) (sound_need _ RoomTooShort (end_of shape) (le-leb _ _ h)))

  pub proper_accepted : (room : ℕ) → end_of shape ≤ room → write_check shape.edition runs room ≡ sound
  unfolding write_check
  proper_accepted room h =
      sound_both (whole_checks shape.edition runs) _
      (sound_each sections (λ section. sound_need _ NotWholeRecords (index_of section) (eq-eqb _ _ (no_rest shape.edition section (count_of shape section) (length (runs section)) (proper section).size))))
      (checks (shape_by shape.edition runs) room (shape_of-runs shape runs proper_whole) h)
