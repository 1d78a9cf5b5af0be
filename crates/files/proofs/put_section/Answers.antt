-- The count, and its words after it.
use Prim.Native.Nat.{ℕ, ◌+◌, ◌*◌, ◌≤◌}
use native.Mathlib.Omega.{arith}
use mathlib.Core.Path.{◌≡◌, sym, ap₂, ◌∙◌}
use mathlib.Core.List.{List, ◌∷◌}
use lib.ListN.{length}
use Rattle.files_words.specs.Bytes.{bytes_of, as_bytes, put}
use Rattle.files_words.proofs.PutLaws.{first_put}
use Rattle.files.proofs.put_section.Goals as goal

stored : (room run d e : List ℕ) {p q n m : ℕ} → p ≡ q → n ≡ m → q + 8 * (1 + length run) ≤ length room →
    d ≡ put room p (bytes_of 8 n) → e ≡ put d (p + 8) (as_bytes run) →
    e ≡ put room q (as_bytes (m ∷ run))
stored room run d e {q = q} {m = m} at count fits one two =
    two
    ∙ ap₂ (λ (x : List ℕ) (k : ℕ). put x (k + 8) (as_bytes run)) (one ∙ ap₂ (λ (k w : ℕ). put room k (bytes_of 8 w)) at count) at
    ∙ sym (first_put room q m run (omega arith))

pub returns : goal.returns
returns c =
    stored c.args.room.now c.args.run.now _ _ c.place-place.ensures.0 c.count.ensures c.requires
    c.put_word.ensures c.put_words.ensures
