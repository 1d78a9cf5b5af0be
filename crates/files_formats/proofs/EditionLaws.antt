-- Laws of the tables, a line for each edition: a word tells its edition; no record is empty; which columns are numbers, within it.
use Prim.Native.Nat.{ℕ, ◌^◌, ◌<◌}
use native.Mathlib.Omega.{arith}
use mathlib.Core.Bool.{true}
use mathlib.Core.Path.{◌≡◌, refl, sym}
use borrow.Author.Tests.{eqb-true}
use Rattle.files_formats.specs.declared.elements.Edition.{Edition}
use Rattle.files_formats.specs.declared.elements.Edition.TheVariants.{One}
use Rattle.files_formats.specs.declared.elements.Section.{Section}
use Rattle.files_formats.specs.declared.elements.Section.TheVariants.{Centres, States, Requests}
use Rattle.files_formats.specs.declared.elements.Column.{Column}
use Rattle.files_formats.specs.declared.elements.Column.TheVariants as at
use Rattle.files_formats.specs.declared.kinds.Kind.TheVariants.{Number}
use Rattle.files_formats.specs.Kinds.{kind_at}
use Rattle.files_formats.specs.Elements.{edition_word, is_edition, edition_of, kinds_of, width_of, column_of, section_of}

pub known_word : (edition : Edition) → is_edition (edition_word edition) ≡ true
known_word One = refl

pub small_word : (edition : Edition) → edition_word edition < 2 ^ 64
small_word One = omega arith

pub edition_back : (edition : Edition) → edition_of (edition_word edition) ≡ edition
edition_back One = refl

pub word_back : (w : ℕ) → is_edition w ≡ true → edition_word (edition_of w) ≡ w
word_back w e = sym (eqb-true w (edition_word One) e)

pub some_words : (edition : Edition) (section : Section) → 0 < width_of edition section
some_words One Centres = omega arith
some_words One States = omega arith
some_words One Requests = omega arith

abbrev pub IsNumber : Edition → Column → Type 0
IsNumber edition column =
    (column_of edition column < width_of edition (section_of column)) × (kind_at (kinds_of edition (section_of column)) (column_of edition column) ≡ Number)

pub state_is_number : (edition : Edition) → IsNumber edition at.State
state_is_number One = (omega arith, refl)

pub centre_is_number : (edition : Edition) → IsNumber edition at.Centre
centre_is_number One = (omega arith, refl)

pub epoch_inside : (edition : Edition) → column_of edition at.Epoch < width_of edition States
epoch_inside One = omega arith
