-- Document 01: "states (.. centre number, epoch, x y z vx vy vz); requests (.. state number, time)", "τ is time − epoch".
use Rattle.std.specs.Prelude.{◌≡◌, Ok, List, [], ◌∷◌, ℕ, ◌+◌, ◌*◌}
use Rattle.std.specs.Float.{binary64}
use Rattle.std.specs.Float.Ieee.{of_bits, to_bits}
use Rattle.bits.specs.Arithmetic.{◌⊖◌}
use Rattle.files_words.specs.Bytes.{word_at}
use Rattle.files_formats.specs.declared.elements.Edition.{Edition}
use Rattle.files_formats.specs.declared.elements.Section.TheVariants.{Centres, States, Requests}
use Rattle.files_formats.specs.declared.elements.Column.TheVariants as of
use Rattle.files_formats.specs.declared.shapes.Shape.{Shape}
use Rattle.files_formats.specs.Elements.{column_of}
use Rattle.files_formats.specs.Shapes.{record_of}
use Rattle.files_reader.specs.Reader.{reading_of}

-- A file that is accepted with this shape.
abbrev pub Accepted : List ℕ → Shape → Type 0
Accepted file shape = reading_of file ≡ Ok shape

-- ---- "τ is time − epoch", rounded once, as a word. Where the time or the epoch isn't finite, neither is τ (`not_finite_difference`), and the row is refused.
abbrev pub tau_of : (time epoch : ℕ) → ℕ
tau_of time epoch = to_bits binary64 (of_bits binary64 time ⊖ of_bits binary64 epoch)

-- ---- The eight words of request k. Word n of the record at a place:
abbrev pub field : List ℕ → (at n : ℕ) → ℕ
field file at n = word_at file (at + 8 * n)

abbrev pub request_place : Shape → ℕ → ℕ
request_place shape k = record_of shape Requests k

abbrev pub state_place : List ℕ → Shape → ℕ → ℕ
state_place file shape k = record_of shape States (field file (request_place shape k) (column_of shape.edition of.State))

abbrev pub centre_place : List ℕ → Shape → ℕ → ℕ
centre_place file shape k = record_of shape Centres (field file (state_place file shape k) (column_of shape.edition of.Centre))

abbrev pub eight_words : List ℕ → Edition → (request state centre : ℕ) → List ℕ
eight_words file edition request state centre =
    let x = column_of edition of.Position in
    let vx = column_of edition of.Velocity in
    field file centre (column_of edition of.Mu)
    ∷ field file state x ∷ field file state (x + 1) ∷ field file state (x + 2)
    ∷ field file state vx ∷ field file state (vx + 1) ∷ field file state (vx + 2)
    ∷ tau_of (field file request (column_of edition of.Time)) (field file state (column_of edition of.Epoch))
    ∷ []

unfoldable pub request_words : List ℕ → Shape → (k : ℕ) → List ℕ
request_words file shape k = eight_words file shape.edition (request_place shape k) (state_place file shape k) (centre_place file shape k)
