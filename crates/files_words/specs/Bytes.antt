-- Document 01: "Little-endian 64-bit words". A run of bytes is a list of numbers below 256, a run of words a list of numbers below 2 ^ 64, and
-- a place is the number of bytes before it.
use Rattle.std.specs.Prelude.{ℕ, zero, suc, ◌+◌, ◌-◌, ◌*◌, ◌/◌, ◌%◌, ◌<◌, List, [], ◌∷◌, ◌++◌, leb, length, take, drop}
use Rattle.bits.specs.Choice.{pick}

-- The number that bytes hold, the lowest first; and the n lowest bytes of a number.
unfoldable pub number_of : List ℕ → ℕ
number_of [] = 0
number_of (b ∷ bs) = b + 256 * number_of bs

unfoldable pub bytes_of : ℕ → ℕ → List ℕ
bytes_of zero w = []
bytes_of (suc n) w = w % 256 ∷ bytes_of n (w / 256)

-- A run of words as bytes.
unfoldable pub as_bytes : List ℕ → List ℕ
unfolding bytes_of
as_bytes [] = []
as_bytes (w ∷ ws) = bytes_of 8 w ++ as_bytes ws

-- The first n words of a run of bytes; and the whole words that a file has from a place on.
unfoldable pub words : ℕ → List ℕ → List ℕ
unfolding number_of
words zero s = []
words (suc n) s = number_of (take 8 s) ∷ words n (drop 8 s)

unfoldable pub words_from : List ℕ → ℕ → List ℕ
unfolding words
words_from file place = words ((length file - place) / 8) (drop place file)

-- The word at a place; 0 where it is not whole.
unfoldable pub word_at : List ℕ → ℕ → ℕ
unfolding number_of
word_at file place = pick (leb (place + 8) (length file)) (number_of (take 8 (drop place file))) 0

-- A room with bytes put at a place. All others keep their value; where there is no room for the bytes, all do.
unfoldable pub put : List ℕ → ℕ → List ℕ → List ℕ
put room place bs =
    pick (leb (place + length bs) (length room))
    (take place room ++ bs ++ drop (place + length bs) room)
    room

-- Every number of a list is below n.
abbrev pub Below : ℕ → List ℕ → Type 0
Below n [] = Unit {0}
Below n (x ∷ xs) = (x < n) × Below n xs
