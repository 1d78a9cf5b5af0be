-- Refusals by their numbers: each has its own, above 0 and below 64; so an answer is known by its number, and by its value where it is not refused.
use Rattle.std.proofs.Common.{◌≡◌, sym, ap, ◌∙◌, refl, ℕ, ◌<◌, Result, Ok, Err, arith}
use lib.Dec.{eqb, lit<}
use Rattle.std.specs.Result.{result_unwrap_or}
use Rattle.bits.specs.Choice.{pick}
use Rattle.bits.specs.Refusal.{number_of, number_in}
use Rattle.bits.specs.declared.refusal.Refusal.{Refusal}
use Rattle.bits.specs.declared.refusal.Refusal.TheVariants.{
  PartialsLength,
  AtCentre,
  StartNotFinite,
  AllShort,
  Unreadable,
  RadiusNotPositive,
  EndNotFinite,
  NoRoot,
  WordMissing,
  UnknownEdition,
  TooMany,
  NoSuchRecord,
  BytesLeft,
  RoomTooShort,
  NotWholeRecords,
  MuNotFinite,
  XNotFinite,
  YNotFinite,
  ZNotFinite,
  VxNotFinite,
  VyNotFinite,
  VzNotFinite,
  TauNotFinite,
  NotOneEach,
  StatesInUse,
  CountsDiffer,
  AnswerLength,
}

-- The refusal of a number, which is the last where no refusal has that number.
abbrev of_number : ℕ → Refusal
of_number n =
    pick (eqb n 1) PartialsLength (
    pick (eqb n 3) AtCentre (
    pick (eqb n 4) StartNotFinite (
    pick (eqb n 5) AllShort (
    pick (eqb n 6) Unreadable (
    pick (eqb n 7) RadiusNotPositive (
    pick (eqb n 8) EndNotFinite (
    pick (eqb n 9) NoRoot (
    pick (eqb n 21) WordMissing (
    pick (eqb n 22) UnknownEdition (
    pick (eqb n 23) TooMany (
    pick (eqb n 24) NoSuchRecord (
    pick (eqb n 25) BytesLeft (
    pick (eqb n 26) RoomTooShort (
    pick (eqb n 27) NotWholeRecords (
    pick (eqb n 31) MuNotFinite (
    pick (eqb n 32) XNotFinite (
    pick (eqb n 33) YNotFinite (
    pick (eqb n 34) ZNotFinite (
    pick (eqb n 35) VxNotFinite (
    pick (eqb n 36) VyNotFinite (
    pick (eqb n 37) VzNotFinite (
    pick (eqb n 38) TauNotFinite (
    pick (eqb n 41) NotOneEach (
    pick (eqb n 42) StatesInUse (
    pick (eqb n 51) CountsDiffer (
    AnswerLength))))))))))))))))))))))))))

-- What is known of each number: it gives its refusal back; it is not 0, which says that there is no refusal; and it fits six bits.
record Known (r : Refusal) : Type 0 where
  back : of_number (number_of r) ≡ r
  above : 0 < number_of r
  fits : number_of r < 64

known : (r : Refusal) → Known r
known PartialsLength = record { back = refl; above = lit< tt; fits = lit< tt }
known AtCentre = record { back = refl; above = lit< tt; fits = lit< tt }
known StartNotFinite = record { back = refl; above = lit< tt; fits = lit< tt }
known AllShort = record { back = refl; above = lit< tt; fits = lit< tt }
known Unreadable = record { back = refl; above = lit< tt; fits = lit< tt }
known RadiusNotPositive = record { back = refl; above = lit< tt; fits = lit< tt }
known EndNotFinite = record { back = refl; above = lit< tt; fits = lit< tt }
known NoRoot = record { back = refl; above = lit< tt; fits = lit< tt }
known WordMissing = record { back = refl; above = lit< tt; fits = lit< tt }
known UnknownEdition = record { back = refl; above = lit< tt; fits = lit< tt }
known TooMany = record { back = refl; above = lit< tt; fits = lit< tt }
known NoSuchRecord = record { back = refl; above = lit< tt; fits = lit< tt }
known BytesLeft = record { back = refl; above = lit< tt; fits = lit< tt }
known RoomTooShort = record { back = refl; above = lit< tt; fits = lit< tt }
known NotWholeRecords = record { back = refl; above = lit< tt; fits = lit< tt }
known MuNotFinite = record { back = refl; above = lit< tt; fits = lit< tt }
known XNotFinite = record { back = refl; above = lit< tt; fits = lit< tt }
known YNotFinite = record { back = refl; above = lit< tt; fits = lit< tt }
known ZNotFinite = record { back = refl; above = lit< tt; fits = lit< tt }
known VxNotFinite = record { back = refl; above = lit< tt; fits = lit< tt }
known VyNotFinite = record { back = refl; above = lit< tt; fits = lit< tt }
known VzNotFinite = record { back = refl; above = lit< tt; fits = lit< tt }
known TauNotFinite = record { back = refl; above = lit< tt; fits = lit< tt }
known NotOneEach = record { back = refl; above = lit< tt; fits = lit< tt }
known StatesInUse = record { back = refl; above = lit< tt; fits = lit< tt }
known CountsDiffer = record { back = refl; above = lit< tt; fits = lit< tt }
known AnswerLength = record { back = refl; above = lit< tt; fits = lit< tt }

-- Two refusals have two numbers.
pub one_refusal : (r s : Refusal) → number_of r ≡ number_of s → r ≡ s
one_refusal r s e = sym (known r).back ∙ ap of_number e ∙ (known s).back

-- No refusal has the number 0, and none has 64 or more.
pub number_bounds : (r : Refusal) → (0 < number_of r) × (number_of r < 64)
number_bounds r = ((known r).above, (known r).fits)

-- Two answers with the same number, and with the same value where they are not refused, are the same.
pub one_result : {A : Type 0} (x y : Result A Refusal) (d : A) → number_in x ≡ number_in y → result_unwrap_or x d ≡ result_unwrap_or y d → x ≡ y
one_result (Ok a) (Ok b) d n v = ap Ok v
one_result (Ok a) (Err s) d n v = absurd (omega (arith, number_bounds s))
one_result (Err r) (Ok b) d n v = absurd (omega (arith, number_bounds r))
one_result (Err r) (Err s) d n v = ap Err (one_refusal r s n)
