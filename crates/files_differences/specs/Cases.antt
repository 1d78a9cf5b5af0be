-- Distances worked out by hand, and one statement, computed from the definition.
use Rattle.std.specs.Prelude.{◌≡◌, refl, List, [], ◌∷◌, map, ℕ, ◌+◌, ◌*◌, ◌-◌}
use Rattle.bits.specs.Words.{infinity, minus_zero}
use Rattle.files_differences.specs.Distance.{distance_of}

abbrev one : ℕ
one = 0x3ff0000000000000

abbrev minus_one : ℕ
minus_one = 0xbff0000000000000

-- Two words of finite doubles, and how many steps are between them.
pub record Apart : Type 0 where
  pub v : ℕ
  pub w : ℕ
  pub steps : ℕ

abbrev apart : (v w steps : ℕ) → Apart
apart v w steps = record { v = v; w = w; steps = steps }

abbrev pub distances : List Apart
distances =
    -- "both zeros are one place".
    apart 0 minus_zero 0
    ∷ apart minus_zero 0 0
    ∷ apart one one 0
    -- The next double, up and down, and where the power of two changes.
    ∷ apart one (one + 1) 1
    ∷ apart one (one - 1) 1
    ∷ apart minus_one (minus_one + 1) 1
    ∷ apart 0x000fffffffffffff 0x0010000000000000 1
    -- The smallest doubles beside zero, and across it: 2^−1074 and −2^−1074 are two steps apart.
    ∷ apart 0 1 1
    ∷ apart minus_zero 1 1
    ∷ apart (minus_zero + 1) 0 1
    ∷ apart 1 (minus_zero + 1) 2
    ∷ apart (minus_zero + 3) 4 7
    -- There are as many doubles from 1 to 2 as from 2 to 4.
    ∷ apart one 0x4000000000000000 0x0010000000000000
    ∷ apart 0x4000000000000000 0x4010000000000000 0x0010000000000000
    ∷ apart one minus_one (2 * one)
    -- From end to end.
    ∷ apart (infinity - 1) (minus_zero + infinity - 1) 0xffdffffffffffffe
    ∷ []

pub steps_between : map (λ (a : Apart). distance_of a.v a.w) distances ≡ map (λ (a : Apart). a.steps) distances
steps_between = refl
