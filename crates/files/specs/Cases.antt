-- Small files, written by computing.
use Rattle.std.specs.Prelude.{ℕ, ◌*◌, ◌≡◌, refl, Ok, List, [], ◌∷◌, ◌++◌, replicate}
use Rattle.files_words.specs.Bytes.{as_bytes}
use Rattle.files_checks.specs.Checks.{IsFault}
use Rattle.files_formats.specs.declared.elements.Edition.TheVariants.{One}
use Rattle.files_formats.specs.declared.elements.Section.TheVariants.{Centres, States, Requests}
use Rattle.files_formats.specs.Elements.{limit_of, width_of}
use Rattle.files_reader.specs.Cases.{p10_file, one_each}
use Rattle.files.specs.Writer.{runs_of, writing_of, room_of}

-- Three runs and a room of so many bytes, each 7: what the writer answers, and the room afterwards.
abbrev pub Writes : List ℕ → List ℕ → List ℕ → ℕ → (length : ℕ) → List ℕ → Type 0
Writes centres states requests size length after =
    (writing_of One (runs_of centres states requests) (replicate size 7) ≡ Ok length)
    × (room_of One (runs_of centres states requests) (replicate size 7) ≡ after)

abbrev pub Refuses : List ℕ → List ℕ → List ℕ → ℕ → (number place : ℕ) → List ℕ → Type 0
Refuses centres states requests size number place after =
    IsFault (writing_of One (runs_of centres states requests) (replicate size 7)) number place
    × (room_of One (runs_of centres states requests) (replicate size 7) ≡ after)

abbrev pub state : ℕ → List ℕ
state centre = centre ∷ 7 ∷ 1 ∷ 2 ∷ 3 ∷ 4 ∷ 5 ∷ 6 ∷ []

nothing : Writes [] [] [] 33 32 (as_bytes (1 ∷ 0 ∷ 0 ∷ 0 ∷ []) ++ (7 ∷ []))
unfolding writing_of room_of as_bytes
nothing = (refl, refl)

all : Writes (398600 ∷ []) (state 0) (0 ∷ 9 ∷ []) 120 120 (as_bytes one_each)
unfolding writing_of room_of as_bytes
all = (refl, refl)

-- P10's file, byte by byte, in a room of a byte more.
abbrev one : ℕ
one = 0x3ff0000000000000

p10 : Writes (0 ∷ []) (0 ∷ 0 ∷ one ∷ 0 ∷ 0 ∷ 0 ∷ 0 ∷ 0 ∷ []) (0 ∷ one ∷ []) 121 120 (p10_file ++ (7 ∷ []))
unfolding writing_of room_of
p10 = (refl, refl)

-- 27 before 23: a run of a state and a word, though there are 17 centres; and the states before the requests. Any run is whole centres, a word each.
odd_states : Refuses (replicate 17 1) (state 0 ++ (0 ∷ [])) (0 ∷ []) 8 27 1 (replicate 8 7)
unfolding writing_of room_of as_bytes
odd_states = ((refl, refl), refl)

odd_requests : Refuses [] [] (0 ∷ []) 8 27 2 (replicate 8 7)
unfolding writing_of room_of as_bytes
odd_requests = ((refl, refl), refl)

-- 23 before 24: 17 centres, though a state names none of them.
too_many : Refuses (replicate 17 1) (state 99) [] 8 23 8 (replicate 8 7)
unfolding writing_of room_of as_bytes
too_many = ((refl, refl), refl)

-- 501 states of two centres: their count would stand after 8, 8 and 16 bytes. 1,501 requests of two centres and three states: after 8, 8, 16, 8 and 192.
too_many_states : Refuses (1 ∷ 2 ∷ []) (replicate 4008 0) [] 8 23 32 (replicate 8 7)
unfolding writing_of room_of
too_many_states = ((refl, refl), refl)

too_many_requests : Refuses (1 ∷ 2 ∷ []) (state 0 ++ state 1 ++ state 0) (replicate 3002 0) 8 23 232 (replicate 8 7)
unfolding writing_of room_of
too_many_requests = ((refl, refl), refl)

-- "Under one number the first in file order": 17 centres and 501 states. But 23 before 24, wherever they stand: 1,501 requests, though a state before them
-- is of no centre.
both_too_many : Refuses (replicate 17 1) (replicate 4008 0) [] 8 23 8 (replicate 8 7)
unfolding writing_of room_of
both_too_many = ((refl, refl), refl)

count_before_number : Refuses [] (state 0) (replicate 3002 0) 8 23 88 (replicate 8 7)
unfolding writing_of room_of
count_before_number = ((refl, refl), refl)

-- 16 centres, 500 states and 1,500 requests pass 23: the first state names centre 16, after 8, 8, 128 and 8 bytes.
at_the_limits : Refuses (replicate 16 1) (16 ∷ replicate 3999 0) (replicate 3000 0) 8 24 152 (replicate 8 7)
unfolding writing_of room_of
at_the_limits = ((refl, refl), refl)

-- 24 before 26: the second state's centre number would stand at 8 + 16 + 8 + 64; and a request for no state.
bad_centre : Refuses (398600 ∷ []) (state 0 ++ state 1) (5 ∷ 9 ∷ []) 8 24 96 (replicate 8 7)
unfolding writing_of room_of as_bytes
bad_centre = ((refl, refl), refl)

bad_state : Refuses (398600 ∷ []) (state 0) (0 ∷ 9 ∷ 1 ∷ 9 ∷ []) 8 24 120 (replicate 8 7)
unfolding writing_of room_of as_bytes
bad_state = ((refl, refl), refl)

-- Of two centres and one state a request may not name state 1: the word would stand after 8, 8, 16, 8, 64 and 8 bytes.
second_centre_only : Refuses (1 ∷ 2 ∷ []) (state 1) (1 ∷ 9 ∷ []) 8 24 112 (replicate 8 7)
unfolding writing_of room_of
second_centre_only = ((refl, refl), refl)

-- 26: a byte of room short.
no_room : Refuses (398600 ∷ []) (state 0) (0 ∷ 9 ∷ []) 119 26 120 (replicate 119 7)
unfolding writing_of room_of as_bytes
no_room = ((refl, refl), refl)

-- No more than these words, where 23 is past.
most_words : (limit_of Centres * width_of One Centres ≡ 16)
    × (limit_of States * width_of One States ≡ 8 * 500) × (limit_of Requests * width_of One Requests ≡ 2 * 1500)
most_words = (refl, refl, refl)
