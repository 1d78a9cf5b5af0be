-- The words of a section by a table of kinds: what is told of a word whose kind is known, and that the first fault found column by column is the walk's.
use Prim.Native.Nat.{min, ℕ, ◌+◌, ◌*◌, ◌%◌, ◌<◌, ◌≤◌}
use native.Mathlib.Omega.{arith}
use mathlib.Core.Path.{◌≡◌, refl, sym, ap, ap₂, ◌∙◌}
use native.Mathlib.Decide.{dec_lt}
use mathlib.Core.Bool.{Bool, false}
use mathlib.Core.List.{List, []}
use borrow.Author.Tests.{le-leb, lt-leb}
use lib.Dec.{leb}
use lib.ListN.{length, get_or, take}
use lib.Seq.{length-take-le, take-take, get_or-take}
use Rattle.std.specs.Prelude.{Option, None, Some}
use Rattle.std.specs.Option.{option_or}
use Rattle.files_records.specs.Records.{same_column}
use Rattle.bits.specs.declared.refusal.Refusal.{Refusal}
use Rattle.bits.specs.declared.refusal.Refusal.TheVariants.{WordMissing}
use Rattle.files_checks.specs.Checks.{sound, fault, need, walk}
use Rattle.files_checks.proofs.WalkLaws.{walk_quiet, walk_short, walk_stops}
use Rattle.files_formats.specs.declared.firsts.Found.{Found}
use Rattle.files_formats.specs.declared.kinds.Kind.{Kind}
use Rattle.files_formats.specs.declared.kinds.Kind.TheVariants.{Figure, Number}
use Rattle.files_formats.specs.Kinds.{asks, fault_of, kind_at, ruling_of, table_fault, kind_fault, reached, FirstOfColumn, FirstOf}
use Rattle.files_formats.proofs.FirstLaws.{Upto, column_quiet, column_bad}

-- ---- By kind: no kind looks at the words before, and of some nothing is asked.
pub looks_at_word : (kind : Kind) (below : ℕ) (before : List ℕ) (w : ℕ) → fault_of kind below before w ≡ fault_of kind below [] w
looks_at_word Figure below before w = refl
looks_at_word Number below before w = refl

pub nothing_asked : (kind : Kind) (below w : ℕ) (ws : List ℕ) (k : ℕ) → asks kind ≡ false → kind_fault kind below w ws k ≡ None
unfolding kind_fault
nothing_asked Figure below w ws k e = refl
nothing_asked Number below w ws k e = absurd (let z : ◌≡◌ {A = ℕ} 0 1 = cc in omega arith)

-- What the code works out of word k.
pub judged : (kind : Kind) (below w : ℕ) (ws : List ℕ) (k : ℕ) {word : ℕ} {ruled : Option Refusal} → word ≡ get_or ws k 0 → ruled ≡ fault_of kind below [] word →
    ruled ≡ kind_fault kind below w ws k
unfolding kind_fault
judged kind below w ws k is e = e ∙ ap (fault_of kind below []) is ∙ sym (looks_at_word kind below (same_column w (take k ws)) (get_or ws k 0))

module _ (kinds : List Kind) (below : ℕ) (ws : List ℕ) where
  pub same_fault : (k : ℕ) {w : ℕ} {kind : Kind} → w ≡ length kinds → kind ≡ kind_at kinds (k % w) → k < length ws → table_fault kinds below ws k ≡ kind_fault kind below w ws k
  unfolding table_fault ruling_of kind_fault
  same_fault k {w} {kind} a b h =
      let here = get_or ws k 0 in
      ap (λ (n : ℕ). fault_of (kind_at kinds (n % length kinds)) below (same_column (length kinds) (take k ws)) here) (length-take-le k ws (omega arith))
      ∙ ap (λ (n : ℕ). fault_of (kind_at kinds (k % n)) below (same_column n (take k ws)) here) (sym a)
      ∙ ap (λ (x : Kind). fault_of x below (same_column w (take k ws)) here) (sym b)

  -- One column more.
  pub next_column : (bound w c : ℕ) (kind : Kind) (found next : Option Found) → w ≡ length kinds → bound ≤ length ws → c < w → kind ≡ kind_at kinds c →
      Upto (table_fault kinds below ws) w bound c found → FirstOfColumn (kind_fault kind below w ws) w c (reached found bound) next →
      Upto (table_fault kinds below ws) w bound (c + 1) (option_or next found)
  next_column bound w c kind found next a b inside e u f = by next f
    where
      same : (k : ℕ) → k < bound → k % w ≡ c → table_fault kinds below ws k ≡ kind_fault kind below w ws k
      same k l m = same_fault k a (e ∙ ap (kind_at kinds) (sym m)) (omega arith)

      by : (next : Option Found) → FirstOfColumn (kind_fault kind below w ws) w c (reached found bound) next →
          Upto (table_fault kinds below ws) w bound (c + 1) (option_or next found)
      by None f = column_quiet _ w bound c found _ u inside same f
      by (Some first) f = column_bad _ w bound c found _ u inside same first f

  -- ---- The first fault below a bound, as the walk has it; of n words.
  module _ (place n bound : ℕ) where
    pub none_found : bound ≡ length ws → n ≡ bound → FirstOf (table_fault kinds below ws) bound None → walk (ruling_of kinds below) place [] n ws ≡ sound
    unfolding table_fault
    none_found b e f = walk_quiet (ruling_of kinds below) place [] n ws (omega (arith, b, e)) (λ k l. f.quiet k (omega (arith, e)))

    pub none_found_in_file : bound ≡ min n (length ws) → FirstOf (table_fault kinds below ws) bound None →
        need (leb n bound) WordMissing (place + 8 * bound) ≡ walk (ruling_of kinds below) place [] n ws
    unfolding table_fault
    none_found_in_file e f = elim (dec_lt bound n) [
      | yes l ↦
          let short : bound ≡ length ws = omega (arith, e) in
          ap (λ (t : Bool). need t WordMissing (place + 8 * bound)) (lt-leb n bound l)
          ∙ ap (λ (k : ℕ). fault WordMissing (place + 8 * k)) short
          ∙ sym (walk_short (ruling_of kinds below) place [] n ws (omega (arith, short)) (λ k m. f.quiet k (omega (arith, short))))
      | no g ↦
          let up : n ≤ bound = omega arith in
          ap (λ (t : Bool). need t WordMissing (place + 8 * bound)) (le-leb n bound up)
          ∙ sym (walk_quiet (ruling_of kinds below) place [] n ws (omega (arith, e)) (λ k l. f.quiet k (omega arith)))
    ]

    pub one_found : (first : Found) → bound ≤ n → bound ≤ length ws → FirstOf (table_fault kinds below ws) bound (Some first) →
        fault first.refusal (place + 8 * first.at) ≡ walk (ruling_of kinds below) place [] n ws
    unfolding table_fault
    one_found first few there f =
        let b = f.bad in
        sym (walk_stops (ruling_of kinds below) place [] n ws first.at (omega (arith, b.0)) (omega (arith, b.0)) (λ k l. f.quiet k l) b.1)

  -- The first words alone have the same faults.
  in_front : (n k : ℕ) → k < n → table_fault kinds below (take n ws) k ≡ table_fault kinds below ws k
  unfolding table_fault
  in_front n k h = ap₂ (ruling_of kinds below) (take-take k n ws (omega arith)) (get_or-take n ws k 0 h)

  pub first_of_front : (n : ℕ) (found : Option Found) → FirstOf (table_fault kinds below (take n ws)) n found → FirstOf (table_fault kinds below ws) n found
  first_of_front n None f = record { quiet = λ j h. sym (in_front n j h) ∙ f.quiet j h; bad = tt }
  first_of_front n (Some first) f =
      let b = f.bad in
      record { quiet = λ j h. sym (in_front n j (omega (arith, b.0))) ∙ f.quiet j h; bad = (b.0, sym (in_front n first.at b.0) ∙ b.1) }
