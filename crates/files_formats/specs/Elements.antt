-- Document 01, "Element file, edition 1": "the edition, 1; then sections in a fixed order, each after its count: centres (0 to 16, one word: μ); states (0
-- to 500, eight words: centre number, epoch, x y z vx vy vz); requests (0 to 1,500, two words: state number, time)." An edition is its table and its
-- columns' numbers.
use Rattle.std.specs.Prelude.{ℕ, Bool, Result, Ok, Err, List, [], ◌∷◌, eqb, length}
use Rattle.bits.specs.Choice.{pick}
use Rattle.bits.specs.declared.refusal.Refusal.{Refusal}
use Rattle.bits.specs.declared.refusal.Refusal.TheVariants.{UnknownEdition}
use Rattle.files_formats.specs.declared.kinds.Kind.{Kind}
use Rattle.files_formats.specs.declared.kinds.Kind.TheVariants.{Figure, Number}
use Rattle.files_formats.specs.declared.elements.Edition.{Edition}
use Rattle.files_formats.specs.declared.elements.Edition.TheVariants.{One}
use Rattle.files_formats.specs.declared.elements.Section.{Section}
use Rattle.files_formats.specs.declared.elements.Section.TheVariants.{Centres, States, Requests}
use Rattle.files_formats.specs.declared.elements.Column.{Column}
use Rattle.files_formats.specs.declared.elements.Column.TheVariants as at

-- ---- Editions: the word that a file begins with, whether a word is one, and which it is.
abbrev pub edition_word : Edition → ℕ
edition_word One = 1

abbrev pub is_edition : (word : ℕ) → Bool
is_edition w = eqb w (edition_word One)

abbrev pub edition_of : (word : ℕ) → Edition
edition_of w = One

-- The edition of a word, or 22.
abbrev pub edition_from : (word : ℕ) → Result Edition Refusal
edition_from w = pick (is_edition w) (Ok (edition_of w)) (Err UnknownEdition)

-- ---- Sections, in the order of the file, and the most records of each.
abbrev pub sections : List Section
sections = Centres ∷ States ∷ Requests ∷ []

abbrev pub limit_of : Section → ℕ
limit_of Centres = 16
limit_of States = 500
limit_of Requests = 1500

-- ---- The tables: by edition and section, the kinds of the columns of a record. Its width is how many there are.
abbrev pub kinds_of : Edition → Section → List Kind
kinds_of One Centres = Figure ∷ []
kinds_of One States = Number ∷ Figure ∷ Figure ∷ Figure ∷ Figure ∷ Figure ∷ Figure ∷ Figure ∷ []
kinds_of One Requests = Number ∷ Figure ∷ []

abbrev pub width_of : Edition → Section → ℕ
width_of edition section = length (kinds_of edition section)

-- The widest record of any edition.
abbrev pub widest : ℕ
widest = 16

-- ---- Columns by their names; x y z are three columns from the position's on, vx vy vz three from the velocity's.
abbrev pub column_of : Edition → Column → ℕ
column_of One at.Mu = 0
column_of One at.Centre = 0
column_of One at.Epoch = 1
column_of One at.Position = 2
column_of One at.Velocity = 5
column_of One at.State = 0
column_of One at.Time = 1

-- The section that a column is one of.
abbrev pub section_of : Column → Section
section_of at.Mu = Centres
section_of at.Centre = States
section_of at.Epoch = States
section_of at.Position = States
section_of at.Velocity = States
section_of at.State = Requests
section_of at.Time = Requests
