-- What there is of each of the first n, put one after another to the front of a run.
use Rattle.std.specs.Prelude.{ℕ, zero, suc, ◌≡◌, refl, ◌+◌, ◌<◌, List, [], ◌∷◌, ◌++◌, length, drop, set}
use Rattle.std.proofs.Common.{ap, ap₂, ◌∙◌, arith}
use lib.ListN.{length-append}
use Rattle.files_check.specs.RowsFile.{each_of}

-- A word set behind a front part is the first of what is behind it.
set_behind : (front run : List ℕ) (w : ℕ) (n : ℕ) → length front ≡ n → n < length run → set (front ++ drop n run) n w ≡ (front ++ (w ∷ [])) ++ drop (suc n) run
set_behind [] [] w zero e h = absurd (omega arith)
set_behind [] (x ∷ run) w zero e h = refl
set_behind [] run w (suc n) e h = absurd (omega arith)
set_behind (v ∷ front) run w zero e h = absurd (omega arith)
set_behind (v ∷ front) [] w (suc n) e h = absurd (omega arith)
set_behind (v ∷ front) (x ∷ run) w (suc n) e h = ap (λ (l : List ℕ). v ∷ l) (set_behind front run w n (omega arith) (omega arith))

-- What is the same of each is the same of all.
pub each_same : (f g : ℕ → ℕ) (n : ℕ) → ((j : ℕ) → j < n → f j ≡ g j) → each_of f n ≡ each_of g n
unfolding each_of
each_same f g zero h = refl
each_same f g (suc n) h = ap₂ (λ (xs : List ℕ) (w : ℕ). xs ++ (w ∷ [])) (each_same f g n (λ j l. h j (omega arith))) (h n (omega arith))

module _ (of : ℕ → ℕ) (run : List ℕ) where
  each_length : (n : ℕ) → length (each_of of n) ≡ n
  unfolding each_of
  each_length zero = refl
  each_length (suc n) = length-append (each_of of n) (of n ∷ []) ∙ omega (arith, each_length n)

  -- The run with the first n at its front: with none of them, and with one more.
  abbrev pub with_each : (n : ℕ) → List ℕ
  with_each n = each_of of n ++ drop n run

  pub start : run ≡ with_each 0
  unfolding each_of
  start = refl

  pub next : (n : ℕ) → n < length run → {now : List ℕ} → now ≡ with_each n → {v : ℕ} → v ≡ of n → set now n v ≡ with_each (n + 1)
  unfolding each_of
  next n h en ev =
      let more : suc n ≡ n + 1 = omega arith in
      ap₂ (λ (xs : List ℕ) (w : ℕ). set xs n w) en ev ∙ set_behind (each_of of n) run (of n) n (each_length n) h ∙ ap with_each more
