-- Records of any kind as words: how many words, and how large.
use Prim.Native.Nat.{ℕ, ◌*◌}
use native.Mathlib.Omega.{arith}
use mathlib.Core.Path.{◌≡◌, ◌∙◌}
use mathlib.Core.List.{List, [], ◌∷◌}
use lib.ListN.{length, length-append}
use Rattle.files_words.specs.Bytes.{Below}
use Rattle.files_words.proofs.WordLaws.{below_append}
use Rattle.files_records.specs.Records.{AllOf, all_words}

module _ {A : Type 0} (words_in : A → List ℕ) (IsOne : A → Type 0) where
  pub all_length : (width : ℕ) → ((x : A) → IsOne x → length (words_in x) ≡ width) → (xs : List A) → AllOf IsOne xs → length (all_words words_in xs) ≡ length xs * width
  all_length width each [] h = omega arith
  all_length width each (x ∷ xs) h = length-append (words_in x) (all_words words_in xs) ∙ omega (arith, each x h.0, all_length width each xs h.1)

  pub all_below : (bound : ℕ) → ((x : A) → IsOne x → Below bound (words_in x)) → (xs : List A) → AllOf IsOne xs → Below bound (all_words words_in xs)
  all_below bound each [] h = tt
  all_below bound each (x ∷ xs) h = below_append bound (words_in x) (all_words words_in xs) (each x h.0) (all_below bound each xs h.1)
