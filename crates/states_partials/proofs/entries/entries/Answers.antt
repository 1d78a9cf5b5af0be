use mathlib.Core.Path.{◌≡◌, refl, sym, ◌∙◌, ap}
use mathlib.Core.List.{List, [], ◌∷◌, ◌++◌, map-append}
use Prim.Native.Nat.{ℕ, ◌+◌, ◌*◌, ◌<◌, ◌/◌, ◌%◌}
use native.Mathlib.Omega.{arith}
use native.Mathlib.Numerals.{add-one}
use lib.ListN.{length, take, set, length-set}
use lib.Seq.{take-suc-set, take_all}
use lib.Ieee.{Float, binary64, to_bits}
use Rattle.bits.specs.Words.{words_of}
use Rattle.states_partials.specs.Entries.{entry_of, up_to, entries_of}
use Rattle.states_arcs.specs.declared.figures.Arc.{Arc}
use Rattle.states_partials.specs.declared.matrix.Matrix.{Matrix}
use Rattle.states_partials.proofs.entries.entries.Invariants.{placed}
use Rattle.states_partials.proofs.entries.entries.Goals as goal

more : (f : ℕ → Float) (table : List ℕ) (k w : ℕ) → k < length table → take k table ≡ words_of (up_to k f) → w ≡ to_bits binary64 (f k)
    → take (k + 1) (set table k w) ≡ words_of (up_to (k + 1) f)
unfolding up_to
more f table k w h e ew = rw add-one (take-suc-set table k w h ∙ (λ i. e i ++ (ew i ∷ [])) ∙ sym (map-append (to_bits binary64) (up_to k f) (f k ∷ [])))

in_place : (arc : Arc) (a : Matrix) (row column : ℕ) → column < 6 → entry_of arc a row column ≡ placed arc a (6 * row + column)
in_place arc a row column h =
    let r : row ≡ (6 * row + column) / 6 = omega arith in
    let s : column ≡ (6 * row + column) % 6 = omega arith in
    λ i. entry_of arc a (r i) (s i)

-- The same list, at a number that is written otherwise.
at_number : (f : ℕ → Float) (table : List ℕ) {m n : ℕ} → m ≡ n → take m table ≡ words_of (up_to m f) → take n table ≡ words_of (up_to n f)
at_number f table e h = rw e at h

pub loop-row-init : goal.loop-row-init
unfolding up_to
loop-row-init c = (refl, refl)

pub loop-column-init : goal.loop-column-init
loop-column-init c =
    let o = c.loop-row in
    (o.invariant.0, at_number _ o.table (omega arith) o.invariant.1)

pub loop-column-preserved : goal.loop-column-preserved
loop-column-preserved c =
    let at = c.loop-column in
    let o = c.loop-row in
    let k = 6 * o.row + at.column in
    let w = c.word_of.ensures ∙ ap (to_bits binary64) (c.entry.ensures ∙ in_place _ _ o.row at.column c.loop-column-test.true) in (
      length-set at.table k c.word_of.result ∙ at.invariant.0,
      at_number _ _ (omega arith) (more _ at.table k c.word_of.result (omega (arith, at.invariant.0)) at.invariant.1 w),
    )

pub loop-row-preserved : goal.loop-row-preserved
loop-row-preserved c =
    let at = c.loop-column in
    let e : at.column ≡ 6 = omega arith in
    (at.invariant.0, at_number _ at.table (omega arith) at.invariant.1)

pub returns : goal.returns
unfolding entries_of
returns c =
    let at = c.loop-row in
    let e : 6 * at.row ≡ 36 = omega arith in
    simp (← c.u_of.ensures, ← c.matrix_of-a.ensures)
    (sym (take_all 36 at.table (omega (arith, at.invariant.0))) ∙ at_number _ at.table e at.invariant.1)
