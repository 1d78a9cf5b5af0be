-- A run of one word that is written is that word.
use Rattle.std.proofs.Common.{ℕ, ◌≡◌, refl, arith, List, [], ◌∷◌, length}
use Rattle.std.proofs.Math.ListN.{set}

pub one_word : (run : List ℕ) (word : ℕ) → length run ≡ 1 → set run 0 word ≡ word ∷ []
one_word [] word one = absurd (omega arith)
one_word (old ∷ []) word one = refl
one_word (old ∷ next ∷ rest) word one = absurd (omega arith)
