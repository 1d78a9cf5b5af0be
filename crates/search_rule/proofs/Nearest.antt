-- What T-01's choice gives, so that nobody opens it; and some choices, computed.
use Prim.Native.Nat.{ℕ}
use mathlib.Core.Path.{◌≡◌, refl}
use mathlib.Core.Bool.{Bool, true, false}
use lib.Ieee.{lt, of_bits, binary64}
use Rattle.bits.specs.Choice.{pick}
use Rattle.bits.specs.Arithmetic.{magnitude}
use Rattle.bits.proofs.Order.{one_way, not_itself}
use Rattle.search_rule.specs.declared.pair.End.{End}
use Rattle.search_rule.specs.Rule.{end_at}
use Rattle.search_rule.specs.Nearer.{is_smaller, nearer_end, ChosenSo}

pub chosen_so : (short past : End) → ChosenSo short past (nearer_end short past)
unfolding nearer_end
chosen_so short past =
    record {
      past_nearer = λ e. rw e;
      short_else = λ e. rw e;
      not_short = (both (is_smaller past.error short.error) refl).0;
      not_past = (both (is_smaller past.error short.error) refl).1;
    }
  where
    both : (t : Bool) → is_smaller past.error short.error ≡ t →
        (is_smaller short.error (pick t past short).error ≡ false) × (is_smaller past.error (pick t past short).error ≡ false)
    both true e = (one_way (magnitude past.error) (magnitude short.error) e, not_itself (magnitude past.error))
    both false e = (not_itself (magnitude short.error), e)

-- ---- Computed here, by the words of ±1, ±2 and ±infinity for errors: the smaller one wins from either side, and the short end where there is none.
abbrev chosen : (short past : ℕ) → End
chosen short past = nearer_end (end_at 7 (of_bits binary64 short)) (end_at 8 (of_bits binary64 past))

abbrev ShortWins : (short past : ℕ) → Type 0
ShortWins short past = chosen short past ≡ end_at 7 (of_bits binary64 short)

abbrev PastWins : (short past : ℕ) → Type 0
PastWins short past = chosen short past ≡ end_at 8 (of_bits binary64 past)

computed :
    PastWins 0xc000000000000000 0x3ff0000000000000
    × ShortWins 0x3ff0000000000000 0xc000000000000000
    × ShortWins 0x3ff0000000000000 0xbff0000000000000
    × ShortWins 0xfff0000000000000 0x7ff0000000000000
    × PastWins 0xfff0000000000000 0x4000000000000000
    × ShortWins 0xc000000000000000 0x7ff0000000000000
unfolding nearer_end lt of_bits
computed = (refl, refl, refl, refl, refl, refl)
