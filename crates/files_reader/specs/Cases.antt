-- Small files, read by computing.
use Rattle.std.specs.Prelude.{ℕ, ◌≡◌, refl, Ok, List, [], ◌∷◌, ◌++◌, replicate}
use Rattle.files_words.specs.Bytes.{as_bytes}
use Rattle.files_checks.specs.Checks.{IsFault}
use Rattle.files_formats.specs.declared.elements.Edition.TheVariants.{One}
use Rattle.files_formats.specs.declared.elements.Section.TheVariants.{Centres, States, Requests}
use Rattle.files_formats.specs.declared.shapes.Shape.{Shape}
use Rattle.files_formats.specs.Shapes.{shape_of, place_of}
use Rattle.files_reader.specs.Reader.{longest_file, reading_of}

-- P10 as a file, byte by byte: the edition, 1; one centre, whose μ is 0; one state, of centre 0 and epoch 0, at (1,0,0) and at rest; one request, for state 0
-- at time 1. "Little-endian": 3FF0000000000000 hex, the word of 1.0, begins with its six zero bytes.
abbrev pub p10_file : List ℕ
p10_file =
    1 ∷ 0 ∷ 0 ∷ 0 ∷ 0 ∷ 0 ∷ 0 ∷ 0
    ∷ 1 ∷ 0 ∷ 0 ∷ 0 ∷ 0 ∷ 0 ∷ 0 ∷ 0
    ∷ 0 ∷ 0 ∷ 0 ∷ 0 ∷ 0 ∷ 0 ∷ 0 ∷ 0
    ∷ 1 ∷ 0 ∷ 0 ∷ 0 ∷ 0 ∷ 0 ∷ 0 ∷ 0
    ∷ 0 ∷ 0 ∷ 0 ∷ 0 ∷ 0 ∷ 0 ∷ 0 ∷ 0
    ∷ 0 ∷ 0 ∷ 0 ∷ 0 ∷ 0 ∷ 0 ∷ 0 ∷ 0
    ∷ 0 ∷ 0 ∷ 0 ∷ 0 ∷ 0 ∷ 0 ∷ 0xf0 ∷ 0x3f
    ∷ 0 ∷ 0 ∷ 0 ∷ 0 ∷ 0 ∷ 0 ∷ 0 ∷ 0
    ∷ 0 ∷ 0 ∷ 0 ∷ 0 ∷ 0 ∷ 0 ∷ 0 ∷ 0
    ∷ 0 ∷ 0 ∷ 0 ∷ 0 ∷ 0 ∷ 0 ∷ 0 ∷ 0
    ∷ 0 ∷ 0 ∷ 0 ∷ 0 ∷ 0 ∷ 0 ∷ 0 ∷ 0
    ∷ 0 ∷ 0 ∷ 0 ∷ 0 ∷ 0 ∷ 0 ∷ 0 ∷ 0
    ∷ 1 ∷ 0 ∷ 0 ∷ 0 ∷ 0 ∷ 0 ∷ 0 ∷ 0
    ∷ 0 ∷ 0 ∷ 0 ∷ 0 ∷ 0 ∷ 0 ∷ 0 ∷ 0
    ∷ 0 ∷ 0 ∷ 0 ∷ 0 ∷ 0 ∷ 0 ∷ 0xf0 ∷ 0x3f
    ∷ []

-- Its sections, by bytes: the counts stand after 8 bytes, 8 + 8 + 8 bytes, and 72 bytes more.
abbrev pub one_of_each : Shape
one_of_each = shape_of One 1 1 1

p10 : reading_of p10_file ≡ Ok one_of_each
unfolding reading_of
p10 = refl

places : (place_of one_of_each Centres ≡ 8) × (place_of one_of_each States ≡ 24) × (place_of one_of_each Requests ≡ 96)
places = (refl, refl, refl)

-- What the reader answers of the file of these words.
abbrev pub Reads : List ℕ → Shape → Type 0
Reads ws shape = reading_of (as_bytes ws) ≡ Ok shape

abbrev pub Refuses : List ℕ → (number place : ℕ) → Type 0
Refuses ws number place = IsFault (reading_of (as_bytes ws)) number place

-- "An empty file is 21 at 0."
empty : Refuses [] 21 0
unfolding reading_of as_bytes
empty = (refl, refl)

-- The shortest file: 32 bytes.
smallest : Reads (1 ∷ 0 ∷ 0 ∷ 0 ∷ []) (shape_of One 0 0 0)
unfolding reading_of as_bytes
smallest = refl

-- A centre, a state of it, a request for that.
abbrev pub one_each : List ℕ
one_each = 1 ∷ 1 ∷ 398600 ∷ 1 ∷ 0 ∷ 7 ∷ 1 ∷ 2 ∷ 3 ∷ 4 ∷ 5 ∷ 6 ∷ 1 ∷ 0 ∷ 9 ∷ []

one : Reads one_each one_of_each
unfolding reading_of as_bytes
one = refl

-- 22: another edition, at 0, though more than that is wrong.
other_edition : Refuses (2 ∷ 17 ∷ []) 22 0
unfolding reading_of as_bytes
other_edition = (refl, refl)

-- 23: 17 centres, at the count word; 16 pass, and the first of their words is missing.
centres_17 : Refuses (1 ∷ 17 ∷ []) 23 8
unfolding reading_of as_bytes
centres_17 = (refl, refl)

centres_16 : Refuses (1 ∷ 16 ∷ []) 21 16
unfolding reading_of as_bytes
centres_16 = (refl, refl)

-- 501 states and 500, and 1,501 requests and 1,500, likewise.
states_501 : Refuses (1 ∷ 0 ∷ 501 ∷ []) 23 16
unfolding reading_of as_bytes
states_501 = (refl, refl)

states_500 : Refuses (1 ∷ 0 ∷ 500 ∷ []) 21 24
unfolding reading_of as_bytes
states_500 = (refl, refl)

requests_1501 : Refuses (1 ∷ 0 ∷ 0 ∷ 1501 ∷ []) 23 24
unfolding reading_of as_bytes
requests_1501 = (refl, refl)

requests_1500 : Refuses (1 ∷ 0 ∷ 0 ∷ 1500 ∷ []) 21 32
unfolding reading_of as_bytes
requests_1500 = (refl, refl)

-- "at most 56,160 bytes".
longest : longest_file ≡ 56160
longest = refl

-- 24: state 0 of two names centre 1 of one centre, at that word, before a word of state 1 is missed; a request names state 0 of no states.
no_such_centre : Refuses (1 ∷ 1 ∷ 398600 ∷ 2 ∷ 1 ∷ 7 ∷ 1 ∷ 2 ∷ 3 ∷ 4 ∷ 5 ∷ 6 ∷ []) 24 32
unfolding reading_of as_bytes
no_such_centre = (refl, refl)

no_such_state : Refuses (1 ∷ 0 ∷ 0 ∷ 1 ∷ 0 ∷ 9 ∷ 3 ∷ []) 24 32
unfolding reading_of as_bytes
no_such_state = (refl, refl)

-- The states are held to the centres, the requests to the states: of two centres and one state a request may not name state 1, of one centre and two it may.
second_centre_only : Refuses (1 ∷ 2 ∷ 7 ∷ 7 ∷ 1 ∷ 1 ∷ 7 ∷ 1 ∷ 2 ∷ 3 ∷ 4 ∷ 5 ∷ 6 ∷ 1 ∷ 1 ∷ 9 ∷ []) 24 112
unfolding reading_of as_bytes
second_centre_only = (refl, refl)

second_state : Reads (1 ∷ 1 ∷ 7 ∷ 2 ∷ 0 ∷ 7 ∷ 1 ∷ 2 ∷ 3 ∷ 4 ∷ 5 ∷ 6 ∷ 0 ∷ 7 ∷ 1 ∷ 2 ∷ 3 ∷ 4 ∷ 5 ∷ 6 ∷ 1 ∷ 1 ∷ 9 ∷ []) (shape_of One 1 2 1)
unfolding reading_of as_bytes
second_state = refl

second_place : place_of (shape_of One 1 2 1) Requests ≡ 160
second_place = refl

-- A byte short, a byte long.
one_short : IsFault (reading_of ((as_bytes (1 ∷ 0 ∷ 0 ∷ []) ++ replicate 7 0))) 21 24
unfolding reading_of as_bytes
one_short = (refl, refl)

one_long : IsFault (reading_of ((as_bytes one_each ++ (7 ∷ [])))) 25 120
unfolding reading_of as_bytes
one_long = (refl, refl)
