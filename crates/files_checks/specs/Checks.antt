-- Document 01, "Element file, edition 1": what a check finds, and the check of what stands after a count word. It is one check for every counted section of
-- every file: the limit of its count, the words of a record and the rule for its words are given.
use Rattle.std.specs.Prelude.{ℕ, zero, suc, ◌≡◌, ◌+◌, ◌*◌, min, Bool, true, false, ⊤, Option, None, Some, Result, Ok, Err, List, [], ◌∷◌, ◌++◌, leb, length}
use Rattle.bits.specs.declared.refusal.Refusal.{Refusal}
use Rattle.bits.specs.declared.refusal.Refusal.TheVariants.{WordMissing, UnknownEdition, TooMany, BytesLeft}
use Rattle.bits.specs.Refusal.{number_of}
use Rattle.files_words.specs.Bytes.{word_at, words_from}
use Rattle.files_checks.specs.declared.Fault.{Fault}

-- ---- Checks: nothing wrong, or a refusal with its place. `need`: what has to hold; `told`: what a word's rule says; `⟫`: a check, then another, or what is
-- answered where it finds nothing wrong: the first fault is the refusal, as by `?`.

abbrev pub Check : Type 0
Check = Result ⊤ Fault

abbrev pub sound : Check
sound = Ok tt

abbrev pub fault : {T : Type 0} → Refusal → (place : ℕ) → Result T Fault
fault refusal place = Err (record { refusal = refusal; place = place })

abbrev pub need : Bool → Refusal → ℕ → Check
need true refusal place = sound
need false refusal place = fault refusal place

abbrev pub told : Option Refusal → ℕ → Check
told None place = sound
told (Some refusal) place = fault refusal place

infixr 5 ◌⟫◌
abbrev pub ◌⟫◌ : {T : Type 0} → Check → Result T Fault → Result T Fault
Ok done ⟫ next = next
Err fault ⟫ next = Err fault

-- An answer is a fault, by its number and its place.
abbrev pub IsFault : {T : Type 0} → Result T Fault → (number place : ℕ) → Type 0
IsFault (Ok value) number place = ⊥
IsFault (Err fault) number place = (number_of fault.refusal ≡ number) × (fault.place ≡ place)

-- ---- The walk over the words of a section, one walk for every section. A ruling gives the refusal of a word, if any, by the words of its section before it,
-- in their order. `left` words of the section are left, the next stands at `place`, and `words` are those of the file from there on. "21 a needed word not
-- whole"; "The place of a refusal is the first byte of the word at fault".

abbrev pub Ruling : Type 0
Ruling = (before : List ℕ) (word : ℕ) → Option Refusal

unfoldable pub walk : Ruling → (place : ℕ) (before : List ℕ) (left : ℕ) (words : List ℕ) → Check
walk ruling place before zero ws = sound
walk ruling place before (suc left) [] = fault WordMissing place
walk ruling place before (suc left) (w ∷ ws) = told (ruling before w) place ⟫ walk ruling (place + 8) (before ++ (w ∷ [])) left ws

-- ---- "each after its count": a count stands at a place, within its limit ("23 count above limit"), then the words of that many records.

unfoldable pub count_check : List ℕ → (place limit : ℕ) → Check
unfolding word_at
count_check file place limit = need (leb (place + 8) (length file)) WordMissing place ⟫ need (leb (word_at file place) limit) TooMany place

unfoldable pub counted_check : List ℕ → (place limit width : ℕ) → Ruling → Check
unfolding count_check walk word_at words_from
counted_check file place limit width ruling =
    count_check file place limit
    ⟫ walk ruling (place + 8) [] (word_at file place * width) (words_from file (place + 8))

-- ---- "25 bytes left after the last section", at the first of them.
abbrev pub end_check : List ℕ → (end : ℕ) → Check
end_check file end = need (leb (length file) end) BytesLeft end

-- ---- "22 edition": a file's first word is whole, and it is a known edition.
unfoldable pub edition_check : List ℕ → (known : Bool) → Check
edition_check file known = need (leb 8 (length file)) WordMissing 0 ⟫ need known UnknownEdition 0

-- ---- A count with its records, of whose words nothing is asked, and then the file's end.
abbrev pub unasked : Ruling
unasked before w = None

unfoldable pub filled_check : List ℕ → (place limit width : ℕ) → Check
unfolding counted_check word_at
filled_check file place limit width =
    counted_check file place limit width unasked
    ⟫ end_check file (place + 8 + 8 * (word_at file place * width))

-- ---- How many of so many words a file has from a place on; and what an inner step of the code answers: those words, of which nothing is asked, then the end.
abbrev pub words_there : List ℕ → (place count : ℕ) → ℕ
words_there file place count = min (length (words_from file place)) count

abbrev pub rest_check : List ℕ → (place count : ℕ) → Check
rest_check file place count = walk unasked place [] count (words_from file place) ⟫ end_check file (place + 8 * count)
