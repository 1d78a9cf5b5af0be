-- Words put into a run: as a part of it that was lent for a copy, and by moving some down one after another.
use mathlib.Core.Path.{◌≡◌, refl, sym, ap, ◌∙◌}
use mathlib.Core.List.{List, ◌++◌, append_assoc}
use Prim.Native.Nat.{ℕ, suc, ◌+◌, ◌-◌, ◌≤◌}
use native.Mathlib.Omega.{arith}
use lib.ListN.{length, get_or, take, drop, set, length-append, length-drop}
use lib.Seq.{paste, paste-suc, drop-paste, length-take-le, take_at, drop_at, get_or-drop}
use borrow.Rule.Slice.PartMut.{put_mid, mid_of, mid_len}
use Rattle.bits.specs.Runs.{copied}
use Rattle.bits.proofs.RunLaws.{copied_all}
use Rattle.files_words.specs.Bytes.{put}
use Rattle.files_words.proofs.PutLaws as put_laws
use Rattle.files_words.proofs.PutLaws.{put_fits}

-- A part of as many words as are copied to it.
pub part_put : (run words part : List ℕ) (at n : ℕ) → length words ≡ n → at + n ≤ length run → part ≡ copied words (mid_of at (at + n - at) run)
    → put_mid at (at + n - at) run part ≡ put run at words
part_put run words part at n l h e =
    let same : length (mid_of at (at + n - at) run) ≡ length words = mid_len at (at + n) run h ∙ omega (arith, l) in
    put_laws.part_put run words part at n l h (e ∙ copied_all words (mid_of at (at + n - at) run) same)

-- ---- No other word is touched; and the words that were put.
module _ (run words : List ℕ) (place : ℕ) (fits : place + length words ≤ length run) where
  abbrev front : List ℕ
  front = take place run

  pub untouched_before : take place (put run place words) ≡ take place run
  untouched_before =
      ap (take place) (put_fits run words place fits ∙ append_assoc front words (drop (place + length words) run))
      ∙ take_at front (words ++ drop (place + length words) run) place (length-take-le place run (omega arith))

  pub untouched_behind : (end : ℕ) → end ≡ place + length words → drop end (put run place words) ≡ drop end run
  untouched_behind end e =
      let l : length (front ++ words) ≡ place + length words = length-append front words ∙ ap (λ (n : ℕ). n + length words) (length-take-le place run (omega arith)) in
      ap (drop end) (put_fits run words place fits)
      ∙ drop_at (front ++ words) (drop (place + length words) run) end (l ∙ sym e)
      ∙ ap (λ (n : ℕ). drop n run) (sym e)

  pub put_in : take (length words) (drop place (put run place words)) ≡ words
  put_in =
      let l = length-take-le place run (omega arith) in
      ap (λ (r : List ℕ). take (length words) (drop place r)) (put_fits run words place fits ∙ append_assoc front words (drop (place + length words) run))
      ∙ ap (take (length words)) (drop_at front (words ++ drop (place + length words) run) place l)
      ∙ take_at words (drop (place + length words) run) (length words) refl

-- ---- Words of the run itself, from `gap` places on, moved down to a place, j of them so far: the next one; and all of them.
module _ (run : List ℕ) (at gap : ℕ) where
  abbrev pub shifted : ℕ → List ℕ
  shifted j = paste run at (drop (at + gap) run) j

  abbrev Room : ℕ → Type 0
  Room j = at + gap + j ≤ length run

  long : (j : ℕ) → Room j → j ≤ length (drop (at + gap) run)
  long j h = omega (arith, length-drop (at + gap) run)

  pub all_moved : (n : ℕ) → Room n → shifted n ≡ put run at (take n (drop (at + gap) run))
  all_moved n h =
      let l : length (take n (drop (at + gap) run)) ≡ n = length-take-le n (drop (at + gap) run) (long n h) in
      ap (λ (k : ℕ). take at run ++ take n (drop (at + gap) run) ++ drop (at + k) run) (sym l)
      ∙ sym (put_fits run (take n (drop (at + gap) run)) at (omega (arith, l)))
