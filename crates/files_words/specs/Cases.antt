-- Document 01: "Little-endian 64-bit words". Words and their bytes, by computing: each byte as it stands in a file, the lowest first.
use Rattle.std.specs.Prelude.{ℕ, ◌≡◌, refl, List, [], ◌∷◌, ◌++◌}
use Rattle.files_words.specs.Bytes.{number_of, bytes_of, as_bytes, words, words_from, word_at, put}

-- ---- Two words of eight bytes each; no two bytes are the same, and no two add up to 255.
abbrev pub low : ℕ
low = 0x0102030405060708

abbrev pub high : ℕ
high = 0xf1e2d3c4b5a69788

abbrev pub low_bytes : List ℕ
low_bytes = 0x08 ∷ 0x07 ∷ 0x06 ∷ 0x05 ∷ 0x04 ∷ 0x03 ∷ 0x02 ∷ 0x01 ∷ []

abbrev pub high_bytes : List ℕ
high_bytes = 0x88 ∷ 0x97 ∷ 0xa6 ∷ 0xb5 ∷ 0xc4 ∷ 0xd3 ∷ 0xe2 ∷ 0xf1 ∷ []

-- A word as bytes and back, and a run of two.
word_stored : (bytes_of 8 low ≡ low_bytes) × (bytes_of 8 high ≡ high_bytes)
unfolding bytes_of
word_stored = (refl, refl)

word_read : (number_of low_bytes ≡ low) × (number_of high_bytes ≡ high)
unfolding number_of
word_read = (refl, refl)

run_stored : as_bytes (low ∷ high ∷ []) ≡ low_bytes ++ high_bytes
unfolding as_bytes
run_stored = refl

run_read : words 2 (low_bytes ++ high_bytes) ≡ low ∷ high ∷ []
unfolding words
run_read = refl

-- ---- A file of a byte, the two words and seven bytes more: the words from place 1 on; other words at 2 and at 16, and none that is whole at 17.
abbrev pub file : List ℕ
file = (0x10 ∷ low_bytes) ++ high_bytes ++ (0x21 ∷ 0x22 ∷ 0x23 ∷ 0x24 ∷ 0x25 ∷ 0x26 ∷ 0x27 ∷ [])

words_in_file : words_from file 1 ≡ low ∷ high ∷ []
unfolding words_from
words_in_file = refl

word_in_file :
    (word_at file 1 ≡ low) × (word_at file 9 ≡ high)
    × (word_at file 2 ≡ 0x8801020304050607) × (word_at file 16 ≡ 0x27262524232221f1)
    × (word_at file 17 ≡ 0)
unfolding word_at
word_in_file = (refl, refl, refl, refl, refl)

-- ---- A room of ten bytes with a word put at place 1, at the last place that has room for it, and where there is none.
abbrev pub room : List ℕ
room = 0x30 ∷ 0x31 ∷ 0x32 ∷ 0x33 ∷ 0x34 ∷ 0x35 ∷ 0x36 ∷ 0x37 ∷ 0x38 ∷ 0x39 ∷ []

word_put :
    (put room 1 (bytes_of 8 low) ≡ 0x30 ∷ 0x08 ∷ 0x07 ∷ 0x06 ∷ 0x05 ∷ 0x04 ∷ 0x03 ∷ 0x02 ∷ 0x01 ∷ 0x39 ∷ [])
    × (put room 2 (bytes_of 8 high) ≡ 0x30 ∷ 0x31 ∷ 0x88 ∷ 0x97 ∷ 0xa6 ∷ 0xb5 ∷ 0xc4 ∷ 0xd3 ∷ 0xe2 ∷ 0xf1 ∷ [])
    × (put room 3 (bytes_of 8 low) ≡ room)
unfolding put bytes_of
word_put = (refl, refl, refl)
