-- The numbers of refusals, as the documents and the C interface have them.
use Rattle.std.specs.Prelude.{ℕ, Result, Ok, Err}
use Rattle.bits.specs.declared.refusal.Refusal.{Refusal}
use Rattle.bits.specs.declared.refusal.Refusal.TheVariants.{
  PartialsLength,
  AtCentre,
  StartNotFinite,
  AllShort,
  Unreadable,
  RadiusNotPositive,
  EndNotFinite,
  NoRoot,
  WordMissing,
  UnknownEdition,
  TooMany,
  NoSuchRecord,
  BytesLeft,
  RoomTooShort,
  NotWholeRecords,
  MuNotFinite,
  XNotFinite,
  YNotFinite,
  ZNotFinite,
  VxNotFinite,
  VyNotFinite,
  VzNotFinite,
  TauNotFinite,
  NotOneEach,
  StatesInUse,
  CountsDiffer,
  AnswerLength,
}

abbrev pub number_of : Refusal → ℕ
number_of PartialsLength = 1
number_of AtCentre = 3
number_of StartNotFinite = 4
number_of AllShort = 5
number_of Unreadable = 6
number_of RadiusNotPositive = 7
number_of EndNotFinite = 8
number_of NoRoot = 9
number_of WordMissing = 21
number_of UnknownEdition = 22
number_of TooMany = 23
number_of NoSuchRecord = 24
number_of BytesLeft = 25
number_of RoomTooShort = 26
number_of NotWholeRecords = 27
number_of MuNotFinite = 31
number_of XNotFinite = 32
number_of YNotFinite = 33
number_of ZNotFinite = 34
number_of VxNotFinite = 35
number_of VyNotFinite = 36
number_of VzNotFinite = 37
number_of TauNotFinite = 38
number_of NotOneEach = 41
number_of StatesInUse = 42
number_of CountsDiffer = 51
number_of AnswerLength = 60

-- The number of an answer that may be refused: 0 where it is not.
abbrev pub number_in : {T : Type 0} → Result T Refusal → ℕ
number_in (Ok value) = 0
number_in (Err refusal) = number_of refusal
