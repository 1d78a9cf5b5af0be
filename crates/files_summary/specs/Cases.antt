-- Small lists and their changes, by computing.
use Rattle.std.specs.Prelude.{ℕ, ◌≡◌, refl, false, List, [], ◌∷◌, ◌++◌, map, replicate}
use Rattle.std.specs.Float.Ieee.{is_nan, of_bits}
use Rattle.bits.specs.Words.{minus_zero}
use Rattle.bits.specs.Refusal.{number_in}
use Rattle.files_records.specs.Records.{records_of, record_put, withdrawn}
use Rattle.files_formats.specs.declared.elements.Edition.TheVariants.{One}
use Rattle.files_formats.specs.Rows.{entry_width}
use Rattle.files_summary.specs.Entries.{roster_of, centre_entry, entry_words}
use Rattle.files_summary.specs.Changes.{one_each, append_refusal, append, withdraw, change_of, run_of, run_asked}
use Rattle.files_summary.specs.Changes.{put_entry, entries_of, entries_in, as_words, summary_list}
use Rattle.files_summary.specs.Kept.{Kept, change_by, changes_by}

-- A state of a centre at an epoch; its other six words tell it from others.
abbrev pub state : (centre epoch mark : ℕ) → List ℕ
state centre epoch mark = centre ∷ epoch ∷ mark ∷ mark ∷ mark ∷ mark ∷ mark ∷ mark ∷ []

abbrev pub one : ℕ
one = 0x3ff0000000000000

abbrev pub minus_one : ℕ
minus_one = 0xbff0000000000000

abbrev pub infinite : ℕ
infinite = 0x7ff0000000000000

abbrev pub minus_infinite : ℕ
minus_infinite = 0xfff0000000000000

abbrev pub quiet_nan : ℕ
quiet_nan = 0x7ff8000000000000

abbrev pub minus_nan : ℕ
minus_nan = 0xffffffffffffffff

abbrev pub signalling_nan : ℕ
signalling_nan = 0x7ff0000000000001

abbrev pub subnormal : ℕ
subnormal = 0x0000000000000001

-- The four words of the entry of a centre whose states have these epochs.
abbrev pub Shows : (epochs words : List ℕ) → Type 0
Shows epochs words = entry_words (centre_entry One 3 (map (λ (e : ℕ). state 3 e 5) epochs)) ≡ words

-- ---- "A centre with no epoch shows +0 twice. States with a NaN epoch are in a count of their own only".
none : Shows [] (0 ∷ 0 ∷ 0 ∷ 0 ∷ [])
unfolding centre_entry is_nan of_bits
none = refl

nans_alone : Shows (quiet_nan ∷ minus_nan ∷ signalling_nan ∷ []) (0 ∷ 3 ∷ 0 ∷ 0 ∷ [])
unfolding centre_entry is_nan of_bits
nans_alone = refl

nans_beside : Shows (one ∷ quiet_nan ∷ []) (1 ∷ 1 ∷ one ∷ one ∷ [])
unfolding centre_entry is_nan of_bits
nans_beside = refl

-- ---- "infinite epochs count".
infinities : Shows (one ∷ infinite ∷ minus_infinite ∷ []) (3 ∷ 0 ∷ minus_infinite ∷ infinite ∷ [])
unfolding centre_entry is_nan of_bits
infinities = refl

-- ---- "minus zero and zero are one epoch, shown as zero"; of two numbers below zero the one with the larger word is earlier.
zeros : Shows (minus_zero ∷ []) (1 ∷ 0 ∷ 0 ∷ 0 ∷ [])
unfolding centre_entry is_nan of_bits
zeros = refl

both_sides : Shows (subnormal ∷ minus_zero ∷ minus_one ∷ []) (3 ∷ 0 ∷ minus_one ∷ subnormal ∷ [])
unfolding centre_entry is_nan of_bits
both_sides = refl

below_zero : Shows (minus_one ∷ minus_infinite ∷ minus_zero ∷ []) (3 ∷ 0 ∷ minus_infinite ∷ 0 ∷ [])
unfolding centre_entry is_nan of_bits
below_zero = refl

-- ---- A run of three records of which two are in use, and one whose centre is not listed.
abbrev pub run : List ℕ
run = state 1 one 11 ++ state 0 minus_one 22 ++ state 1 minus_zero 33

two_centres_lem : as_words (entries_in (roster_of One 2 2) run) ≡ 1 ∷ 0 ∷ minus_one ∷ minus_one ∷ 1 ∷ 0 ∷ one ∷ one ∷ []
unfolding entries_of is_nan of_bits records_of
two_centres_lem = refl

one_listed : as_words (entries_in (roster_of One 3 1) run) ≡ 1 ∷ 0 ∷ minus_one ∷ minus_one ∷ []
unfolding entries_of is_nan of_bits records_of
one_listed = refl

-- ---- A whole summary: three centres beside seven states in use. Centre 0 has a NaN and -1, centre 1 no state, centre 2 the numbers 1, minus zero and
-- infinity and a NaN; the state of centre 5 is in no entry. The records that are not in use hold a state of centre 1, and zeros.
abbrev pub station : List ℕ
station =
    state 2 one 11 ++ state 0 quiet_nan 22 ++ state 2 minus_zero 33 ++ state 5 minus_infinite 44 ++ state 2 infinite 55 ++ state 0 minus_one 66
    ++ state 2 minus_nan 77 ++ state 1 minus_infinite 88 ++ replicate 3936 0

whole_summary : summary_list station (roster_of One 7 3) (replicate 12 9)
    ≡ (1 ∷ 1 ∷ minus_one ∷ minus_one ∷ []) ++ (0 ∷ 0 ∷ 0 ∷ 0 ∷ []) ++ (3 ∷ 1 ∷ 0 ∷ infinite ∷ [])
unfolding summary_list is_nan of_bits
whole_summary = refl

-- Refused by 27 or 41, the list stays as it was.
summary_refused :
    (summary_list station (roster_of One 501 3) (replicate 12 9) ≡ replicate 12 9)
    × (summary_list station (roster_of One 7 3) (replicate 11 9) ≡ replicate 11 9)
unfolding summary_list
summary_refused = (refl, refl)

-- ---- "After a change that centre's entry is the one worked out afresh and no other is touched": a state of centre 1 is appended, and the fifth, of
-- centre 2, withdrawn, beside a list whose words are all 9. So are those of centre 0's entry afterwards.
abbrev pub kept : Kept ℕ
kept =
    changes_by entry_width put_entry (append (state 1 subnormal 99) ∷ withdraw 4 ∷ [])
    (record { run = station; roster = roster_of One 7 3; list = replicate 12 9 })

two_changes : (kept.roster ≡ roster_of One 7 3) × (kept.list ≡ (9 ∷ 9 ∷ 9 ∷ 9 ∷ []) ++ (1 ∷ 0 ∷ subnormal ∷ subnormal ∷ []) ++ (2 ∷ 1 ∷ 0 ∷ one ∷ []))
unfolding changes_by change_by change_of run_of record_put is_nan of_bits
two_changes = (refl, refl)

-- ---- "A withdrawn state's followers move down one, and the last record freed keeps its words".
first_withdrawn : run_asked (withdraw 0) run (roster_of One 3 2) ≡ state 0 minus_one 22 ++ state 1 minus_zero 33 ++ state 1 minus_zero 33
unfolding withdrawn
first_withdrawn = refl

last_withdrawn : run_asked (withdraw 2) run (roster_of One 3 2) ≡ run
unfolding withdrawn
last_withdrawn = refl

not_in_use_stays : run_asked (withdraw 0) run (roster_of One 2 2) ≡ state 0 minus_one 22 ++ state 0 minus_one 22 ++ state 1 minus_zero 33
unfolding withdrawn
not_in_use_stays = refl

next_appended : run_asked (append (state 5 7 44)) run (roster_of One 1 2) ≡ state 1 one 11 ++ state 5 7 44 ++ state 1 minus_zero 33
unfolding record_put
next_appended = refl

-- ---- The refusals in their order: 27 by words, count or record, 41, 24, 42.
abbrev pub Refuses : (words count centres list number : ℕ) → Type 0
Refuses words count centres list number = number_in (append_refusal (state 1 one 11) words (roster_of One count centres) (one_each 4 list centres)) ≡ number

refusals :
    Refuses 4000 0 2 8 0 × Refuses 4000 499 2 8 0
    × Refuses 3999 0 2 8 27 × Refuses 4001 0 2 8 27 × Refuses 3999 501 0 1 27 × Refuses 4000 501 0 1 27
    × Refuses 4000 500 2 7 41 × Refuses 4000 0 2 9 41 × Refuses 4000 500 2 2 41 × Refuses 4000 500 0 4 41
    × Refuses 4000 500 1 4 24
    × Refuses 4000 500 2 8 42
unfolding append_refusal
refusals = (refl, refl, refl, refl, refl, refl, refl, refl, refl, refl, refl, refl)

-- A record of seven words, whatever else is wrong.
short_record : number_in (append_refusal (1 ∷ one ∷ 1 ∷ 2 ∷ 3 ∷ 4 ∷ 5 ∷ []) 4000 (roster_of One 500 0) false) ≡ 27
unfolding append_refusal
short_record = refl
