-- The 36 partials by row and column, and what is left open of the refusal and of the lent run.
use mathlib.Core.Path.{◌≡◌, refl, sym, ◌∙◌, ap}
use mathlib.Core.Bool.{Bool, true, false}
use mathlib.Core.List.{List, [], ◌∷◌}
use mathlib.Core.Logic.{◌⊎◌, inl, inr}
use Prim.Native.Nat.{ℕ, zero, suc, ◌+◌, ◌*◌, ◌/◌, ◌%◌, ◌<◌}
use native.Mathlib.Decide.{dec_lt}
use native.Mathlib.Omega.{arith}
use borrow.Author.Tests.{eq-eqb}
use lib.ListN.{length, get_or, length-append, get_or-append}
use lib.Seq.{get_or_at}
use lib.Ieee.{Float, nan}
use Rattle.std.specs.Prelude.{Result, Ok, Err}
use Rattle.bits.specs.Choice.{pick}
use Rattle.bits.specs.Refusal.{number_in}
use Rattle.bits.specs.Words.{words_of}
use Rattle.bits.specs.Runs.{has}
use Rattle.bits.specs.declared.runs.Sought.TheVariants.{Zero, NotFinite}
use Rattle.bits.specs.declared.refusal.Refusal.{Refusal}
use Rattle.bits.specs.declared.refusal.Refusal.TheVariants.{EndNotFinite}
use Rattle.states_arcs.specs.declared.figures.Arc.{Arc}
use Rattle.states_partials.specs.U.{u_of, u_refused}
use Rattle.states_partials.specs.Matrix.{matrix_of, matrix_divisors}
use Rattle.states_partials.specs.Entries.{entry_of, up_to, entries_of}
use Rattle.states_partials.specs.Partials.{partials_refusal, lent_by, lent_after}

length-up_to : (n : ℕ) (f : ℕ → Float) → length (up_to n f) ≡ n
unfolding up_to
length-up_to zero f = refl
length-up_to (suc n) f = length-append (up_to n f) (f n ∷ []) ∙ omega (arith, length-up_to n f)

up_to_at : (n : ℕ) (f : ℕ → Float) (k : ℕ) → k < n → get_or (up_to n f) k nan ≡ f k
unfolding up_to
up_to_at zero f k h = absurd (omega arith)
up_to_at (suc n) f k h = elim (dec_lt k n) [
  | yes l ↦ get_or-append (up_to n f) (f n ∷ []) nan k (omega (arith, length-up_to n f)) ∙ up_to_at n f k l
  | no g ↦ let e : k ≡ n = omega arith in get_or_at (up_to n f) (f n) [] nan k (length-up_to n f ∙ sym e) ∙ ap f (sym e)
]

pub thirty_six : (arc : Arc) → length (entries_of arc) ≡ 36
unfolding entries_of
thirty_six arc = length-up_to 36 (λ k. entry_of arc (matrix_of arc (u_of arc)) (k / 6) (k % 6))

pub by_row_and_column : (arc : Arc) (row column : ℕ) → row < 6 → column < 6
    → get_or (entries_of arc) (row * 6 + column) nan ≡ entry_of arc (matrix_of arc (u_of arc)) row column
unfolding entries_of
by_row_and_column arc row column h l =
    let entry = entry_of arc (matrix_of arc (u_of arc)) in
    let r : (row * 6 + column) / 6 ≡ row = omega arith in
    let c : (row * 6 + column) % 6 ≡ column = omega arith in
    up_to_at 36 (λ k. entry (k / 6) (k % 6)) (row * 6 + column) (omega arith) ∙ (λ i. entry (r i) (c i))

-- To a run of 36 words they are written, or they are refused by 8;
pub zero_or_eight : (arc : Arc) (run : List ℕ) → length run ≡ 36 → (partials_refusal arc run ≡ Ok tt) ⊎ (partials_refusal arc run ≡ Err EndNotFinite)
unfolding partials_refusal
zero_or_eight arc run h = rw (eq-eqb (length run) 36 h) (go (has Zero (words_of (matrix_divisors arc.start.initial.r0 arc.r))) (u_refused arc) (has NotFinite (words_of (entries_of arc))))
  where
    go : (zero whole bad : Bool) → let n : Result (Unit {0}) Refusal = pick zero (Err EndNotFinite) (pick whole (Err EndNotFinite) (pick bad (Err EndNotFinite) (Ok tt))) in (n ≡ Ok tt) ⊎ (n ≡ Err EndNotFinite)
    go true whole bad = inr refl
    go false true bad = inr refl
    go false false true = inr refl
    go false false false = inl refl

-- and where they are refused, the run is as it was.
pub kept : (arc : Arc) (run : List ℕ) → (number_in (partials_refusal arc run) ≡ 0 → ⊥) → lent_after arc run ≡ run
unfolding lent_after
kept arc run = go (partials_refusal arc run)
  where
    go : (answer : Result (Unit {0}) Refusal) → (number_in answer ≡ 0 → ⊥) → lent_by answer arc run ≡ run
    go (Ok u) h = absurd (h refl)
    go (Err r) h = refl
