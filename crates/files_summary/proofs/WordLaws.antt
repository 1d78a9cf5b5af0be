-- A list of entries as words.
use mathlib.Core.Path.{◌≡◌, refl, sym, ap, ◌∙◌}
use mathlib.Core.List.{List, [], ◌∷◌, ◌++◌, append_assoc}
use Prim.Native.Nat.{ℕ, zero, suc, ◌+◌, ◌*◌, ◌<◌}
use native.Mathlib.Omega.{arith}
use lib.ListN.{length, take, set, length-append}
use Rattle.files_words.specs.Bytes.{put}
use Rattle.files_records.proofs.RecordLaws.{put_first, put_behind, is_put}
use Rattle.files_formats.specs.declared.elements.Edition.{Edition}
use Rattle.files_formats.specs.Rows.{entry_width}
use Rattle.files_summary.specs.declared.entries.Summary.{Summary}
use Rattle.files_summary.specs.Entries.{centre_entry, entry_words}
use Rattle.files_summary.specs.Changes.{put_entry, entries_of, as_words}

pub length-as_words : (list : List Summary) → length (as_words list) ≡ length list * entry_width
length-as_words [] = refl
length-as_words (s ∷ ss) = length-append (entry_words s) (as_words ss) ∙ omega (arith, length-as_words ss)

as_words_append : (a b : List Summary) → as_words (a ++ b) ≡ as_words a ++ as_words b
as_words_append [] b = refl
as_words_append (s ∷ a) b = ap (λ (ws : List ℕ). entry_words s ++ ws) (as_words_append a b) ∙ sym (append_assoc (entry_words s) (as_words a) (as_words b))

-- The words of no centre, and of one more.
pub none_yet : (edition : Edition) (states : List (List ℕ)) (list : List ℕ) (c : ℕ) → c ≡ 0 → take (c * entry_width) list ≡ as_words (entries_of edition states c)
unfolding entries_of
none_yet edition states list zero e = refl
none_yet edition states list (suc c) e = absurd (omega arith)

pub one_more : (edition : Edition) (states : List (List ℕ)) (c : ℕ) → as_words (entries_of edition states (suc c)) ≡ as_words (entries_of edition states c) ++ entry_words (centre_entry edition c states)
unfolding entries_of
one_more edition states c = as_words_append (entries_of edition states c) (centre_entry edition c states ∷ [])

-- An entry of a list is exchanged where its words are.
words_put : (list : List Summary) (i : ℕ) (s : Summary) → i < length list → as_words (set list i s) ≡ put (as_words list) (i * entry_width) (entry_words s)
words_put [] i s h = absurd (omega arith)
words_put (x ∷ xs) zero s h = sym (put_first entry_width (as_words (x ∷ xs)) (entry_words s) (omega (arith, length-as_words (x ∷ xs))))
words_put (x ∷ xs) (suc i) s h =
    let place : entry_width + i * entry_width ≡ suc i * entry_width = omega arith in
    ap (λ (l : List ℕ). entry_words x ++ l) (words_put xs i s (omega arith))
    ∙ sym (put_behind (as_words (x ∷ xs)) (entry_words s) entry_width (i * entry_width) (omega (arith, length-as_words (x ∷ xs), h)))
    ∙ ap (λ (n : ℕ). put (as_words (x ∷ xs)) n (entry_words s)) place

pub words_set : (list : List Summary) (i : ℕ) (s : Summary) → i < length list → as_words (set list i s) ≡ put_entry (as_words list) i s
words_set list i s h = words_put list i s h ∙ sym (is_put entry_width (as_words list) i (entry_words s) refl (omega (arith, length-as_words list, h)))
