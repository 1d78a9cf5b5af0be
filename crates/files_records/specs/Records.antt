-- Records of w words, one after another in a run of words that may have room for more; w is any number. Element sections, result rows, rows to check and the
-- entries of a summary are such records.
use Rattle.std.specs.Prelude.{ℕ, zero, suc, ◌+◌, ◌-◌, ◌*◌, ◌/◌, ◌%◌, Bool, ◌&&◌, List, [], ◌∷◌, ◌++◌, eqb, leb, ltb, length, get_or, take, drop}
use Rattle.bits.specs.Choice.{pick}
use Rattle.files_words.specs.Bytes.{put}

-- ---- Record i of a run, and the first so many, each with its words. Whether a run has record i whole.
abbrev pub record_at : (w : ℕ) (run : List ℕ) (i : ℕ) → List ℕ
record_at w run i = take w (drop (i * w) run)

unfoldable pub records_of : (w : ℕ) (run : List ℕ) (count : ℕ) → List (List ℕ)
records_of w run zero = []
records_of w run (suc n) = take w run ∷ records_of w (drop w run) n

abbrev pub has_record : (w words i : ℕ) → Bool
has_record w words i = leb (suc i * w) words

-- ---- The run with a record put at i; behind i records it is appended. Where the run has no record i, or what is put is not a record, nothing is put.
abbrev pub put_at : (w : ℕ) (run : List ℕ) (i : ℕ) (one : List ℕ) → List ℕ
put_at w run i one = put run (i * w) one

unfoldable pub record_put : (w : ℕ) (run : List ℕ) (i : ℕ) (one : List ℕ) → List ℕ
unfolding put
record_put w run i one = pick (eqb (length one) w && has_record w (length run) i) (put_at w run i one) run

-- ---- The run of so many records with one withdrawn: its followers one record lower, all other words as they were, the last record's too. Where the run has
-- not so many records, or not that one, nothing is withdrawn.
abbrev pub followers : (w : ℕ) (run : List ℕ) (count which : ℕ) → List ℕ
followers w run count which = take ((count - suc which) * w) (drop (suc which * w) run)

abbrev pub moved_down : (w : ℕ) (run : List ℕ) (count which : ℕ) → List ℕ
moved_down w run count which = put_at w run which (followers w run count which)

unfoldable pub withdrawn : (w : ℕ) (run : List ℕ) (count which : ℕ) → List ℕ
unfolding put
withdrawn w run count which = pick (ltb which count && leb (count * w) (length run)) (moved_down w run count which) run

-- A list without its element k.
unfoldable pub without : {A : Type 0} → List A → ℕ → List A
without [] k = []
without (x ∷ xs) zero = xs
without (x ∷ xs) (suc k) = x ∷ without xs k

-- ---- Word j of record i; and the words of a column.
abbrev pub word_in : (w : ℕ) (run : List ℕ) (i j : ℕ) → ℕ
word_in w run i j = get_or (record_at w run i) j 0

unfoldable pub column : (j : ℕ) → List (List ℕ) → List ℕ
column j [] = []
column j (r ∷ rs) = get_or r j 0 ∷ column j rs

-- Of the words of records so far, the last record perhaps not whole: those in the column of the word that comes next.
unfoldable pub same_column : (w : ℕ) (before : List ℕ) → List ℕ
unfolding records_of column
same_column w before = column (length before % w) (records_of w before (length before / w))

-- ---- In a file: the byte where record i stands, the first standing at `base`.
abbrev pub record_place : (w base i : ℕ) → ℕ
record_place w base i = base + 8 * (i * w)

-- ---- Records of any kind as words: those of one record after another; and what holds of each.
abbrev pub AllOf : {A : Type 0} → (A → Type 0) → List A → Type 0
AllOf P [] = Unit {0}
AllOf P (x ∷ xs) = P x × AllOf P xs

abbrev pub all_words : {A : Type 0} → (A → List ℕ) → List A → List ℕ
all_words words_in [] = []
all_words words_in (x ∷ xs) = words_in x ++ all_words words_in xs
