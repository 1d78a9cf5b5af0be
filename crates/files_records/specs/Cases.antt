-- Records of three words, by computing.
use Rattle.std.specs.Prelude.{ℕ, ◌≡◌, refl, List, [], ◌∷◌}
use Rattle.files_records.specs.Records.{records_of, record_put, withdrawn, column, same_column, record_place}

-- Three records and a word that is none.
abbrev pub run : List ℕ
run = 11 ∷ 12 ∷ 13 ∷ 21 ∷ 22 ∷ 23 ∷ 31 ∷ 32 ∷ 33 ∷ 9 ∷ []

records_in_order : records_of 3 run 2 ≡ (11 ∷ 12 ∷ 13 ∷ []) ∷ (21 ∷ 22 ∷ 23 ∷ []) ∷ []
unfolding records_of
records_in_order = refl

second_put : record_put 3 run 1 (4 ∷ 5 ∷ 6 ∷ []) ≡ 11 ∷ 12 ∷ 13 ∷ 4 ∷ 5 ∷ 6 ∷ 31 ∷ 32 ∷ 33 ∷ 9 ∷ []
unfolding record_put
second_put = refl

-- No fourth record, and no record of two words or of four.
not_put : (record_put 3 run 3 (4 ∷ 5 ∷ 6 ∷ []) ≡ run) × (record_put 3 run 1 (4 ∷ 5 ∷ []) ≡ run) × (record_put 3 run 1 (4 ∷ 5 ∷ 6 ∷ 7 ∷ []) ≡ run)
unfolding record_put
not_put = (refl, refl, refl)

-- The first of three, of two and of one withdrawn; the last of three; one that is not there, and one of more than there are.
first_withdrawn :
    (withdrawn 3 run 3 0 ≡ 21 ∷ 22 ∷ 23 ∷ 31 ∷ 32 ∷ 33 ∷ 31 ∷ 32 ∷ 33 ∷ 9 ∷ [])
    × (withdrawn 3 run 2 0 ≡ 21 ∷ 22 ∷ 23 ∷ 21 ∷ 22 ∷ 23 ∷ 31 ∷ 32 ∷ 33 ∷ 9 ∷ [])
unfolding withdrawn
first_withdrawn = (refl, refl)

none_moved : (withdrawn 3 run 1 0 ≡ run) × (withdrawn 3 run 3 2 ≡ run) × (withdrawn 3 run 2 2 ≡ run) × (withdrawn 3 run 4 0 ≡ run)
unfolding withdrawn
none_moved = (refl, refl, refl, refl)

-- The middle words of two records; before the sixth word, those of its column; record 2 of a section whose first stands at byte 24.
middle : column 1 (records_of 3 run 2) ≡ 12 ∷ 22 ∷ []
unfolding column records_of
middle = refl

before_the_sixth : same_column 3 (11 ∷ 12 ∷ 13 ∷ 21 ∷ 22 ∷ []) ≡ 13 ∷ []
unfolding same_column
before_the_sixth = refl

third_place : record_place 3 24 2 ≡ 72
third_place = refl
