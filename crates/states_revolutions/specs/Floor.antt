-- The floor of a double, over whole numbers. Document 02, T-04: "n is the floor of the rounded sum τ/P+1/2 .. within ±2^40"; both ends are within.
use Rattle.std.specs.Prelude.{ℕ, ◌+◌, ◌-◌, ◌*◌, ◌/◌, ◌^◌, Bool, true, false, ℤ, pos, ◌*ℤ◌, neg_ℤ, ◌≤ℤ◌, ◌<ℤ◌, nat_le, unsigned_abs, Float, Option, Some, None}
use Rattle.std.proofs.Math.IntN.{suc_ℤ}
use Rattle.std.specs.Float.{nan, inf, fin, binary64}
use Rattle.std.specs.Float.Ieee.{up, down, of_int}
use Rattle.bits.specs.Choice.{pick}

-- A finite double is a/c, or −a/c where s is true: a = m·2^e and c = 1, or a = m and c = 2^−e. This is ±a.
abbrev pub signed : (s : Bool) (a : ℕ) → ℤ
signed false a = pos a
signed true a = neg_ℤ (pos a)

-- n is the floor of ±a/c: n ≤ ±a/c < n + 1, times c.
pub record IsFloor (s : Bool) (a c : ℕ) (n : ℤ) : Type 0 where
  pub not_above : (n *ℤ pos c) ≤ℤ signed s a
  pub next_above : signed s a <ℤ (suc_ℤ n *ℤ pos c)

-- The same, computed: the quotient rounded down, or minus the quotient rounded up. `is_floor` and `one_floor` say that it is the floor, and the only one.
abbrev pub floor_of_fraction : (s : Bool) (a c : ℕ) → ℤ
floor_of_fraction false a c = pos (a / c)
floor_of_fraction true a c = neg_ℤ (pos ((a + (c - 1)) / c))

-- A whole number as a double, "within ±2^40"; else there is none.
abbrev pub within : ℤ → Option Float
within n = pick (nat_le (unsigned_abs n) (2 ^ 40)) (Some (of_int binary64 n)) None

unfoldable pub floor_of : Float → Option Float
floor_of nan = None
floor_of (inf s) = None
floor_of (fin s m e) = within (floor_of_fraction s (m * up e) (down e))
