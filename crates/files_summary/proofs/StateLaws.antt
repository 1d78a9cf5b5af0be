-- The states in use after one is appended and after one is withdrawn: laws of records of any width.
use mathlib.Core.Path.{◌≡◌, sym, ap, subst, ◌∙◌}
use Prim.Native.Nat.{ℕ, suc, ◌+◌, ◌*◌}
use native.Mathlib.Omega.{arith}
use lib.ListN.{drop}
use Rattle.files_records.specs.Records.{records_of, record_put}
use Rattle.files_records.proofs.RecordLaws.{one_appended, words_before, words_behind, one_withdrawn, words_before_it, freed_and_behind}
use Rattle.files_summary.specs.Kept.{StatesMove}

pub states_move : StatesMove
states_move w run count = (
  λ state one room.
      let next : count + 1 ≡ suc count = omega arith in
      record {
        last_of_them = ap (records_of w (record_put w run count state)) next ∙ one_appended w run count state one (omega (arith, room));
        words_before = words_before w run count state one (omega (arith, room));
        words_behind = subst (λ (n : ℕ). drop (n * w) (record_put w run count state) ≡ drop (n * w) run) (sym next) (words_behind w run count state one (omega (arith, room)));
      },
  λ which there room.
      record {
        down_one = one_withdrawn w run count which there room;
        words_before = words_before_it w run count which there room;
        freed_and_behind = freed_and_behind w run count which there room;
      },
)
