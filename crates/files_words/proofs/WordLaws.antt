-- Words to bytes and back, and the words that a file has from a place on.
use Prim.Native.Nat.{ℕ, zero, suc, ◌+◌, ◌-◌, ◌*◌, ◌/◌, ◌%◌, ◌^◌, ◌<◌, ◌≤◌}
use native.Mathlib.Nat.{add-zero}
use native.Mathlib.Omega.{arith}
use mathlib.Core.Path.{◌≡◌, refl, ap, ap₂, sym, ◌∙◌}
use mathlib.Core.List.{List, [], ◌∷◌, ◌++◌, append_assoc, append-nil}
use mathlib.Core.Bool.{Bool, true, false}
use Rattle.std.specs.Prelude.{map}
use Rattle.std.specs.Int.{w64, from_le_bytes, to_le_bytes}
use Rattle.std.specs.Simd.{first_chunks}
use borrow.Author.Tests.{leb-true, leb-false, le-leb, lt-leb}
use lib.Dec.{leb}
use lib.ListN.{length, get_or, take, drop, length-append, length-drop, take-append-drop}
use lib.Seq.{take_at, drop_at, drop-drop, drop-append-le, take-append-le, get_or-drop, take-take, take-length, length-take-le}
use Rattle.files_words.specs.Bytes.{number_of, bytes_of, as_bytes, words, words_from, word_at, Below}

-- ---- Numbers and bytes.

pub length_bytes : (n w : ℕ) → length (bytes_of n w) ≡ n
unfolding bytes_of
length_bytes zero w = refl
length_bytes (suc n) w = ap suc (length_bytes n (w / 256))

pub number_bytes : (n w : ℕ) → w < 256 ^ n → number_of (bytes_of n w) ≡ w
unfolding number_of bytes_of
number_bytes zero w h = omega arith
number_bytes (suc n) w h = omega (arith, number_bytes n (w / 256) (omega arith))

pub bytes_number : (bs : List ℕ) → Below 256 bs → bytes_of (length bs) (number_of bs) ≡ bs
unfolding number_of bytes_of
bytes_number [] h = refl
bytes_number (b ∷ bs) h =
    let low : (b + 256 * number_of bs) % 256 ≡ b = omega (arith, h.0) in
    let high : (b + 256 * number_of bs) / 256 ≡ number_of bs = omega (arith, h.0) in
    ap₂ ◌∷◌ low (ap (bytes_of (length bs)) high ∙ bytes_number bs h.1)

-- ---- Runs of words and runs of bytes.

pub below_append : (n : ℕ) (xs ys : List ℕ) → Below n xs → Below n ys → Below n (xs ++ ys)
below_append n [] ys p q = q
below_append n (x ∷ xs) ys p q = (p.0, below_append n xs ys p.1 q)

pub below_take : (n k : ℕ) (xs : List ℕ) → Below n xs → Below n (take k xs)
below_take n zero xs p = tt
below_take n (suc k) [] p = tt
below_take n (suc k) (x ∷ xs) p = (p.0, below_take n k xs p.1)

pub below_drop : (n k : ℕ) (xs : List ℕ) → Below n xs → Below n (drop k xs)
below_drop n zero xs p = p
below_drop n (suc k) [] p = tt
below_drop n (suc k) (x ∷ xs) p = below_drop n k xs p.1

pub length-as_bytes : (ws : List ℕ) → length (as_bytes ws) ≡ 8 * length ws
unfolding as_bytes
length-as_bytes [] = refl
length-as_bytes (w ∷ ws) = length-append (bytes_of 8 w) (as_bytes ws) ∙ omega (arith, length_bytes 8 w, length-as_bytes ws)

pub as_bytes_append : (xs ys : List ℕ) → as_bytes (xs ++ ys) ≡ as_bytes xs ++ as_bytes ys
unfolding as_bytes
as_bytes_append [] ys = refl
as_bytes_append (x ∷ xs) ys = ap (λ (l : List ℕ). bytes_of 8 x ++ l) (as_bytes_append xs ys) ∙ sym (append_assoc (bytes_of 8 x) (as_bytes xs) (as_bytes ys))

pub words_as_bytes : (ws rest : List ℕ) → Below (2 ^ 64) ws → words (length ws) (as_bytes ws ++ rest) ≡ ws
unfolding words as_bytes
words_as_bytes [] rest h = refl
words_as_bytes (w ∷ ws) rest h =
    let split : as_bytes (w ∷ ws) ++ rest ≡ bytes_of 8 w ++ (as_bytes ws ++ rest) = append_assoc (bytes_of 8 w) (as_bytes ws) rest in
    ap₂ ◌∷◌
    (ap (λ (s : List ℕ). number_of (take 8 s)) split ∙ ap number_of (take_at (bytes_of 8 w) (as_bytes ws ++ rest) 8 (length_bytes 8 w)) ∙ number_bytes 8 w h.0)
    (ap (λ (s : List ℕ). words (length ws) (drop 8 s)) split
    ∙ ap (words (length ws)) (drop_at (bytes_of 8 w) (as_bytes ws ++ rest) 8 (length_bytes 8 w))
    ∙ words_as_bytes ws rest h.1)

pub as_bytes_words : (n : ℕ) (s : List ℕ) → Below 256 s → length s ≡ 8 * n → as_bytes (words n s) ≡ s
unfolding words as_bytes
as_bytes_words zero [] h e = refl
as_bytes_words zero (b ∷ s) h e = absurd (omega arith)
as_bytes_words (suc n) s h e =
    let whole : length (take 8 s) ≡ 8 = length-take-le 8 s (omega arith) in
    ap₂ ◌++◌
    (ap (λ (k : ℕ). bytes_of k (number_of (take 8 s))) (sym whole) ∙ bytes_number (take 8 s) (below_take 256 8 s h))
    (as_bytes_words n (drop 8 s) (below_drop 256 8 s h) (length-drop 8 s ∙ omega arith))
    ∙ take-append-drop 8 s

-- ---- The words of a file from a place on, and the word at a place.

module _ (file : List ℕ) (place : ℕ) where
  pub word_whole : place + 8 ≤ length file → word_at file place ≡ number_of (take 8 (drop place file))
  unfolding word_at
  word_whole h = simp (le-leb _ _ h)

  pub word_missing : length file < place + 8 → word_at file place ≡ 0
  unfolding word_at
  word_missing h = simp (lt-leb _ _ h)

  pub next_word : place + 8 ≤ length file → words_from file place ≡ word_at file place ∷ words_from file (place + 8)
  unfolding words_from words
  next_word h =
      let more : (length file - place) / 8 ≡ suc ((length file - (place + 8)) / 8) = omega arith in
      ap (λ (n : ℕ). words n (drop place file)) more
      ∙ ap₂ ◌∷◌ (sym (word_whole h)) (ap (words ((length file - (place + 8)) / 8)) (drop-drop 8 place file))

  pub no_word : length file < place + 8 → words_from file place ≡ []
  unfolding words_from words
  no_word h =
      let none : (length file - place) / 8 ≡ zero = omega arith in
      ap (λ (n : ℕ). words n (drop place file)) none

-- ---- A word of eight bytes is below 2 ^ 64.

pub below_of_lem : (n : ℕ) (s : List ℕ) → ((i : ℕ) → get_or s i 0 < n) → Below n s
below_of_lem n [] h = tt
below_of_lem n (x ∷ s) h = (h 0, below_of_lem n s (λ i. h (suc i)))

pub number_bound : (m n : ℕ) (s : List ℕ) → Below 256 s → n ≤ m → number_of (take n s) < 256 ^ m
unfolding number_of
number_bound zero zero s h p = omega arith
number_bound zero (suc n) s h p = absurd (omega arith)
number_bound (suc m) zero s h p = omega (arith, number_bound m zero s h (omega arith))
number_bound (suc m) (suc n) [] h p = omega (arith, number_bound m zero [] h (omega arith))
number_bound (suc m) (suc n) (x ∷ s) h p = omega (arith, number_bound m n s h.1 (omega arith), h.0)

-- ---- The words of a file, all of them: how many there are, those further on, and each by its place.

pub length-words : (n : ℕ) (s : List ℕ) → length (words n s) ≡ n
unfolding words
length-words zero s = refl
length-words (suc n) s = ap suc (length-words n (drop 8 s))

pub length-words_from : (file : List ℕ) (place : ℕ) → length (words_from file place) ≡ (length file - place) / 8
unfolding words_from
length-words_from file place = length-words ((length file - place) / 8) (drop place file)

later_by : (file : List ℕ) (place n : ℕ) (b : Bool) → leb (place + 8) (length file) ≡ b →
    words_from file (place + 8 + 8 * n) ≡ drop n (words_from file (place + 8)) →
    words_from file (place + 8 + 8 * n) ≡ drop (suc n) (words_from file place)
later_by file place n true e r = r ∙ ap (drop (suc n)) (sym (next_word file place (leb-true _ _ e)))
later_by file place n false e r =
    let short : length file < place + 8 = leb-false _ _ e in
    no_word file (place + 8 + 8 * n) (omega arith) ∙ ap (drop (suc n)) (sym (no_word file place short))

pub words_later : (file : List ℕ) (place n : ℕ) → words_from file (place + 8 * n) ≡ drop n (words_from file place)
words_later file place zero = ap (words_from file) (add-zero place)
words_later file place (suc n) =
    let further : place + 8 * suc n ≡ place + 8 + 8 * n = omega arith in
    ap (words_from file) further ∙ later_by file place n (leb (place + 8) (length file)) refl (words_later file (place + 8) n)

first_word : (file : List ℕ) (place : ℕ) → get_or (words_from file place) 0 0 ≡ word_at file place
first_word file place = by (leb (place + 8) (length file)) refl
  where
    by : (b : Bool) → leb (place + 8) (length file) ≡ b → get_or (words_from file place) 0 0 ≡ word_at file place
    by true e = ap (λ (ws : List ℕ). get_or ws 0 0) (next_word file place (leb-true _ _ e))
    by false e = ap (λ (ws : List ℕ). get_or ws 0 0) (no_word file place (leb-false _ _ e)) ∙ sym (word_missing file place (leb-false _ _ e))

pub word_of_words : (file : List ℕ) (place i : ℕ) → get_or (words_from file place) i 0 ≡ word_at file (place + 8 * i)
word_of_words file place i =
    ap (λ (k : ℕ). get_or (words_from file place) k 0) (sym (add-zero i))
    ∙ sym (get_or-drop i (words_from file place) 0 0)
    ∙ ap (λ (ws : List ℕ). get_or ws 0 0) (sym (words_later file place i))
    ∙ first_word file (place + 8 * i)

pub words_below : (n : ℕ) (s : List ℕ) → Below 256 s → Below (2 ^ 64) (words n s)
unfolding words
words_below zero s h = tt
words_below (suc n) s h = (number_bound 8 8 s h (omega arith), words_below n (drop 8 s) (below_drop 256 8 s h))

-- Words written after others read back from where they stand.
pub words_after : (pre post : List ℕ) → Below (2 ^ 64) post → words_from (as_bytes (pre ++ post)) (8 * length pre) ≡ post
unfolding words_from
words_after pre post h =
    let file = as_bytes (pre ++ post) in
    let split : file ≡ as_bytes pre ++ as_bytes post = as_bytes_append pre post in
    let front : length (as_bytes pre) ≡ 8 * length pre = length-as_bytes pre in
    let many : (length file - 8 * length pre) / 8 ≡ length post = omega (arith, length-as_bytes (pre ++ post), length-append pre post) in
    ap₂ words many (ap (drop (8 * length pre)) split ∙ drop_at (as_bytes pre) (as_bytes post) (8 * length pre) front ∙ sym (append-nil (as_bytes post)))
    ∙ words_as_bytes post [] h

-- A file of whole words is its words.
pub whole_file : (file : List ℕ) (n : ℕ) → Below 256 file → length file ≡ 8 * n → as_bytes (words_from file 0) ≡ file
unfolding words_from
whole_file file n h e =
    let many : (length file - 0) / 8 ≡ n = omega arith in
    ap (λ (k : ℕ). as_bytes (words k file)) many ∙ as_bytes_words n file h e

-- A word of a part of a file is the word that the file has there.
pub word_in_part : (file : List ℕ) (place size at : ℕ) → at + 8 ≤ size → place + size ≤ length file → word_at (take size (drop place file)) at ≡ word_at file (place + at)
word_in_part file place size at h k =
    let rest = drop place file in
    let part = take size rest in
    let size_of : length part ≡ size = length-take-le size rest (omega (arith, length-drop place file)) in
    let left : length (drop at part) ≡ size - at = length-drop at part ∙ omega (arith, size_of) in
    word_whole part at (omega (arith, size_of))
    ∙ ap number_of
    (sym (take-append-le 8 (drop at part) (drop size rest) (omega (arith, left)))
    ∙ ap (take 8)
    (sym (drop-append-le at part (drop size rest) (omega (arith, size_of)))
    ∙ ap (drop at) (take-append-drop size rest)
    ∙ drop-drop at place file))
    ∙ sym (word_whole file (place + at) (omega arith))

-- ---- Words by the library's names: eight bytes as a word, and the whole words from a place on as chunks of eight bytes.
pub le_word : (bs : List ℕ) → length bs ≡ 8 → from_le_bytes w64 bs ≡ number_of bs
unfolding number_of
le_word (a ∷ b ∷ c ∷ d ∷ e ∷ f ∷ g ∷ h ∷ []) l = omega arith
le_word (a ∷ b ∷ c ∷ d ∷ e ∷ f ∷ g ∷ h ∷ i ∷ bs) l = absurd (omega arith)
le_word (a ∷ b ∷ c ∷ d ∷ e ∷ f ∷ g ∷ []) l = absurd (omega arith)
le_word (a ∷ b ∷ c ∷ d ∷ e ∷ f ∷ []) l = absurd (omega arith)
le_word (a ∷ b ∷ c ∷ d ∷ e ∷ []) l = absurd (omega arith)
le_word (a ∷ b ∷ c ∷ d ∷ []) l = absurd (omega arith)
le_word (a ∷ b ∷ c ∷ []) l = absurd (omega arith)
le_word (a ∷ b ∷ []) l = absurd (omega arith)
le_word (a ∷ []) l = absurd (omega arith)
le_word [] l = absurd (omega arith)

-- The first eight bytes of a part of a file are the word where it begins.
pub part_word : (file rest bytes : List ℕ) (place : ℕ) → rest ≡ take (length file - place) (drop place file) → length rest + place ≡ length file → 8 ≤ length rest →
    bytes ≡ take 8 rest → from_le_bytes w64 bytes ≡ word_at file place
part_word file rest bytes place e l h b =
    let long : length bytes ≡ 8 = ap length b ∙ length-take-le 8 rest h in
    let from : take 8 rest ≡ take 8 (drop place file) = ap (take 8) e ∙ take-take 8 (length file - place) (drop place file) (omega arith) in
    le_word bytes long ∙ ap number_of (b ∙ from) ∙ sym (word_whole file place (omega arith))

pub le_bytes : (w : ℕ) → to_le_bytes w64 w ≡ bytes_of 8 w
unfolding bytes_of
le_bytes w =
    let q2 : w / 256 / 256 ≡ w / 256 ^ 2 = omega arith in
    let q3 : w / 256 ^ 2 / 256 ≡ w / 256 ^ 3 = omega arith in
    let q4 : w / 256 ^ 3 / 256 ≡ w / 256 ^ 4 = omega arith in
    let q5 : w / 256 ^ 4 / 256 ≡ w / 256 ^ 5 = omega arith in
    let q6 : w / 256 ^ 5 / 256 ≡ w / 256 ^ 6 = omega arith in
    let q7 : w / 256 ^ 6 / 256 ≡ w / 256 ^ 7 = omega arith in
    simp (q2, q3, q4, q5, q6, q7) refl

chunk_words : (n : ℕ) (s : List ℕ) → words n s ≡ map number_of (first_chunks 8 n s)
unfolding words
chunk_words zero s = refl
chunk_words (suc n) s = ap (λ (ws : List ℕ). number_of (take 8 s) ∷ ws) (chunk_words n (drop 8 s))

pub words_in_chunks : (file : List ℕ) (place : ℕ) {chunks : List (List ℕ)} →
    let rest = take (length file - place) (drop place file) in
    chunks ≡ first_chunks 8 (length rest / 8) rest → map number_of chunks ≡ words_from file place
unfolding words_from
words_in_chunks file place {chunks} e =
    let rest = drop place file in
    let all : take (length file - place) rest ≡ rest = ap (λ (n : ℕ). take n rest) (sym (length-drop place file)) ∙ take-length rest in
    ap (map number_of) (e ∙ ap (λ (s : List ℕ). first_chunks 8 (length s / 8) s) all)
    ∙ sym (chunk_words (length rest / 8) rest)
    ∙ ap (λ (n : ℕ). words (n / 8) rest) (length-drop place file)
