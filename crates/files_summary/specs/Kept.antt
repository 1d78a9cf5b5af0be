-- What a station may count on, over any sequence of changes. Document 02, T-02: "After a change that centre's entry is the one worked out afresh and no other
-- is touched, so a right list stays right."
use Rattle.std.specs.Prelude.{ℕ, suc, ◌+◌, ◌-◌, ◌*◌, ◌^◌, ◌<◌, ◌≤◌, ◌≡◌, Bool, true, false, not, ◌&&◌, Result}
use Rattle.std.specs.Prelude.{List, [], ◌∷◌, ◌++◌, eqb, length, get_or, take, drop, set}
use Rattle.std.specs.Float.{binary64}
use Rattle.std.specs.Float.Ieee.{lt, eq, of_bits}
use Rattle.bits.specs.Choice.{pick}
use Rattle.bits.specs.Words.{minus_zero}
use Rattle.bits.specs.declared.refusal.Refusal.{Refusal}
use Rattle.bits.specs.Refusal.{number_in}
use Rattle.bits.specs.Line.{is_nan_word}
use Rattle.files_records.specs.Records.{records_of, record_put, withdrawn, without}
use Rattle.files_formats.specs.declared.elements.Edition.{Edition}
use Rattle.files_formats.specs.declared.elements.Edition.TheVariants.{One}
use Rattle.files_formats.specs.Rows.{entry_width}
use Rattle.files_summary.specs.declared.entries.Roster.{Roster}
use Rattle.files_summary.specs.declared.entries.Summary.{Summary}
use Rattle.files_summary.specs.declared.changes.Change.{Change}
use Rattle.files_summary.specs.Entries.{roster_of, in_use, centre_of, epoch_of, centre_entry, no_entry, entry_words}
use Rattle.files_summary.specs.Changes.{one_each, summary_refusal, summary_list, append_refusal, withdraw_refusal, state_at}
use Rattle.files_summary.specs.Changes.{Asked, append, withdraw, refusal_of, centre_asked, change_beside, run_beside}
use Rattle.files_summary.specs.Changes.{settled_by, put_entry, entries_in, as_words, count_after}

-- ---- What a station keeps: the run of its states, its roster, and the list of entries; the list as structs or as words.
pub record Kept (A : Type 0) : Type 0 where
  pub run : List ℕ
  pub roster : Roster
  pub list : List A

abbrev pub counting : Roster → (count : ℕ) → Roster
counting roster count = record { edition = roster.edition; count = count; centres = roster.centres }

-- A change, and changes one after another, by what the functions promise: over a list of structs, one to an entry and with `set`, and over its
-- words, with the words of an entry and `put_entry`.
unfoldable pub change_by : {A : Type 0} (each : ℕ) (store : List A → ℕ → Summary → List A) → Asked → Kept A → Kept A
change_by each store asked k =
    let change = change_beside each (length k.list) asked k.run k.roster in
    record {
      run = run_beside each (length k.list) asked k.run k.roster;
      roster = counting k.roster (count_after change k.roster.count);
      list = settled_by store k.list change;
    }

unfoldable pub changes_by : {A : Type 0} (each : ℕ) (store : List A → ℕ → Summary → List A) → List Asked → Kept A → Kept A
changes_by each store [] k = k
changes_by each store (asked ∷ rest) k = changes_by each store rest (change_by each store asked k)

-- The number of the refusal of what is asked, or 0; its centre; and the states that are kept.
abbrev pub refusal_beside : {A : Type 0} (each : ℕ) → Asked → Kept A → ℕ
refusal_beside each asked k = number_in (refusal_of asked k.run k.roster (one_each each (length k.list) k.roster.centres))

abbrev pub centre_beside : {A : Type 0} → Asked → Kept A → ℕ
centre_beside asked k = centre_asked asked k.run k.roster

abbrev pub kept_states : {A : Type 0} → Kept A → List (List ℕ)
kept_states k = in_use k.roster k.run

-- What a call that changes something promises of its answer and of what it leaves: the number is that of its refusal, or 0, and what is kept is `change_by`.
pub record Answered {A : Type 0} (each : ℕ) (store : List A → ℕ → Summary → List A) (asked : Asked) (before : Kept A)
    (change : Result Change Refusal) (run : List ℕ) (list : List A) : Type 0 where
  pub number : number_in change ≡ refusal_beside each asked before
  pub kept : record { run = run; roster = counting before.roster (count_after change before.roster.count); list = list } ≡ change_by each store asked before

-- ---- The refusals by document 02's numbers and in its order, for states of edition 1; a later one is given where none before it is.
abbrev pub Roomy : (words count : ℕ) → Type 0
Roomy words count = (words ≡ 4000) × (count ≤ 500)

pub record AppendRefused (state : List ℕ) (words count centres : ℕ) (listed : Bool) : Type 0 where
  pub no_record : (length state ≡ 8 → ⊥) → number_in (append_refusal state words (roster_of One count centres) listed) ≡ 27
  pub no_section : (words ≡ 4000 → ⊥) → number_in (append_refusal state words (roster_of One count centres) listed) ≡ 27
  pub too_many : 500 < count → number_in (append_refusal state words (roster_of One count centres) listed) ≡ 27
  pub no_list : length state ≡ 8 → Roomy words count → listed ≡ false → number_in (append_refusal state words (roster_of One count centres) listed) ≡ 41
  pub no_centre : length state ≡ 8 → Roomy words count → listed ≡ true → centres ≤ centre_of One state →
      number_in (append_refusal state words (roster_of One count centres) listed) ≡ 24
  pub full : length state ≡ 8 → Roomy words count → listed ≡ true → centre_of One state < centres → count ≡ 500 →
      number_in (append_refusal state words (roster_of One count centres) listed) ≡ 42
  pub none : length state ≡ 8 → Roomy words count → listed ≡ true → centre_of One state < centres → count < 500 →
      number_in (append_refusal state words (roster_of One count centres) listed) ≡ 0

pub record WithdrawRefused (which : ℕ) (run : List ℕ) (count centres : ℕ) (listed : Bool) : Type 0 where
  pub no_section : (length run ≡ 4000 → ⊥) → number_in (withdraw_refusal which run (roster_of One count centres) listed) ≡ 27
  pub too_many : 500 < count → number_in (withdraw_refusal which run (roster_of One count centres) listed) ≡ 27
  pub no_list : Roomy (length run) count → listed ≡ false → number_in (withdraw_refusal which run (roster_of One count centres) listed) ≡ 41
  pub no_centre : Roomy (length run) count → listed ≡ true → which < count → centres ≤ centre_of One (state_at One run which) →
      number_in (withdraw_refusal which run (roster_of One count centres) listed) ≡ 24
  pub not_there : Roomy (length run) count → listed ≡ true → count ≤ which → number_in (withdraw_refusal which run (roster_of One count centres) listed) ≡ 42
  pub none : Roomy (length run) count → listed ≡ true → which < count → centre_of One (state_at One run which) < centres →
      number_in (withdraw_refusal which run (roster_of One count centres) listed) ≡ 0

pub record SummaryRefused (run : List ℕ) (count centres : ℕ) (list : List ℕ) : Type 0 where
  pub no_section : (length run ≡ 4000 → ⊥) → number_in (summary_refusal run (roster_of One count centres) list) ≡ 27
  pub too_many : 500 < count → number_in (summary_refusal run (roster_of One count centres) list) ≡ 27
  pub no_list : Roomy (length run) count → (length list ≡ centres * 4 → ⊥) → number_in (summary_refusal run (roster_of One count centres) list) ≡ 41
  pub none : Roomy (length run) count → length list ≡ centres * 4 → number_in (summary_refusal run (roster_of One count centres) list) ≡ 0

abbrev pub RefusesInOrder : Type 0
RefusesInOrder =
    ((state : List ℕ) (words count centres : ℕ) (listed : Bool) → AppendRefused state words count centres listed)
    × ((which : ℕ) (run : List ℕ) (count centres : ℕ) (listed : Bool) → WithdrawRefused which run count centres listed)
    × ((run : List ℕ) (count centres : ℕ) (list : List ℕ) → SummaryRefused run count centres list)

-- A refusal changes nothing, whichever kind the list is.
abbrev pub RefusedStays : Type 1
RefusedStays =
    (A : Type 0) (each : ℕ) (store : List A → ℕ → Summary → List A) (asked : Asked) (k : Kept A) →
    (refusal_beside each asked k ≡ 0 → ⊥) → change_by each store asked k ≡ k

-- ---- The states in use, in the run: one more at the end, or one fewer, its followers one lower. No other word is touched,
-- not even those of the last record freed. So it is for records of any width.
pub record OneMore (w : ℕ) (run : List ℕ) (count : ℕ) (state : List ℕ) : Type 0 where
  pub last_of_them : records_of w (record_put w run count state) (count + 1) ≡ records_of w run count ++ (state ∷ [])
  pub words_before : take (count * w) (record_put w run count state) ≡ take (count * w) run
  pub words_behind : drop ((count + 1) * w) (record_put w run count state) ≡ drop ((count + 1) * w) run

pub record OneFewer (w : ℕ) (run : List ℕ) (count which : ℕ) : Type 0 where
  pub down_one : records_of w (withdrawn w run count which) (count - 1) ≡ without (records_of w run count) which
  pub words_before : take (which * w) (withdrawn w run count which) ≡ take (which * w) run
  pub freed_and_behind : drop ((count - 1) * w) (withdrawn w run count which) ≡ drop ((count - 1) * w) run

abbrev pub StatesMove : Type 0
StatesMove =
    (w : ℕ) (run : List ℕ) (count : ℕ) →
    ((state : List ℕ) → length state ≡ w → (count + 1) * w ≤ length run → OneMore w run count state)
    × ((which : ℕ) → which < count → count * w ≤ length run → OneFewer w run count which)

-- Where a change is made, the states in use are those before and one more, the last of them; or those without the one that is withdrawn.
abbrev pub states_asked : Asked → List (List ℕ) → List (List ℕ)
states_asked (append state) states = states ++ (state ∷ [])
states_asked (withdraw which) states = without states which

abbrev pub ChangesAsAsked : Type 1
ChangesAsAsked =
    (A : Type 0) (each : ℕ) (store : List A → ℕ → Summary → List A) (asked : Asked) (k : Kept A) → refusal_beside each asked k ≡ 0 →
    kept_states (change_by each store asked k) ≡ states_asked asked (kept_states k)

-- ---- Whatever the list holds, right or wrong: a change that is made leaves the entry of its centre as worked out from the states as they then stand,
-- and every other entry, or word, as it was.
abbrev pub kept_entry : {A : Type 0} (centre : ℕ) → Kept A → Summary
kept_entry centre k = centre_entry k.roster.edition centre (kept_states k)

pub record Anew (asked : Asked) (k after : Kept Summary) : Type 0 where
  pub its_own : get_or after.list (centre_beside asked k) no_entry ≡ kept_entry (centre_beside asked k) after
  pub others : (d : ℕ) → (d ≡ centre_beside asked k → ⊥) → get_or after.list d no_entry ≡ get_or k.list d no_entry
  pub as_many : length after.list ≡ length k.list

pub record AnewInWords (asked : Asked) (k after : Kept ℕ) : Type 0 where
  pub its_own : take entry_width (drop (centre_beside asked k * entry_width) after.list) ≡ entry_words (kept_entry (centre_beside asked k) after)
  pub words_before : take (centre_beside asked k * entry_width) after.list ≡ take (centre_beside asked k * entry_width) k.list
  pub words_behind : drop (suc (centre_beside asked k) * entry_width) after.list ≡ drop (suc (centre_beside asked k) * entry_width) k.list

abbrev pub WorksOutAnew : Type 0
WorksOutAnew =
    (asked : Asked) →
    ((k : Kept Summary) → refusal_beside 1 asked k ≡ 0 → Anew asked k (change_by 1 set asked k))
    × ((k : Kept ℕ) → refusal_beside entry_width asked k ≡ 0 → AnewInWords asked k (change_by entry_width put_entry asked k))

-- ---- A right list has the entry of each centre, worked out from the states in use.
abbrev pub Right : Kept Summary → Type 0
Right k = k.list ≡ entries_in k.roster k.run

abbrev pub RightWords : Kept ℕ → Type 0
RightWords k = k.list ≡ as_words (entries_in k.roster k.run)

-- `summary` works the whole list out afresh: where it answers 0 the list is right, whatever it held before; under a refusal it stays as it was.
pub record Afresh (number : ℕ) (before after : Kept ℕ) : Type 0 where
  pub told : number ≡ number_in (summary_refusal before.run before.roster before.list)
  pub right : number ≡ 0 → RightWords after
  pub stays : (number ≡ 0 → ⊥) → after ≡ before

abbrev pub summarised : Kept ℕ → Kept ℕ
summarised k = record { run = k.run; roster = k.roster; list = summary_list k.run k.roster k.list }

abbrev pub SummaryRight : Type 0
SummaryRight = (k : Kept ℕ) → Afresh (number_in (summary_refusal k.run k.roster k.list)) k (summarised k)

-- "a right list stays right", whatever is asked, accepted or refused.
abbrev pub RightStays : Type 0
RightStays = (asked : List Asked) (k : Kept Summary) → Right k → Right (changes_by 1 set asked k)

abbrev pub RightWordsStay : Type 0
RightWordsStay = (asked : List Asked) (k : Kept ℕ) → RightWords k → RightWords (changes_by entry_width put_entry asked k)

-- The words of a list of structs. A change over them gives the words of what it gives over the structs: both kinds of functions keep one list.
abbrev pub in_words : Kept Summary → Kept ℕ
in_words k = record { run = k.run; roster = k.roster; list = as_words k.list }

abbrev pub OneList : Type 0
OneList = (asked : List Asked) (k : Kept Summary) → changes_by entry_width put_entry asked (in_words k) ≡ in_words (changes_by 1 set asked k)

-- ---- Where a state is appended and then withdrawn, the states in use are those before; beside a list of either kind, whose length no entry changes.
abbrev pub GivenBack : Type 1
GivenBack =
    (A : Type 0) (each : ℕ) (store : List A → ℕ → Summary → List A) →
    ((list : List A) (at : ℕ) (entry : Summary) → length (store list at entry) ≡ length list) →
    (state : List ℕ) (k : Kept A) → refusal_beside each (append state) k ≡ 0 →
    let after = changes_by each store (append state ∷ withdraw k.roster.count ∷ []) k in
    (after.roster ≡ k.roster) × (kept_states after ≡ kept_states k)

-- ---- What an entry says of the states: how many states of the centre have a number for an epoch, and how many a NaN; as doubles, none of these numbers is
-- earlier than the earliest, and one is as early; likewise for the latest. Neither is ever minus zero, and both are +0 where there is no number.
unfoldable pub how_many : (List ℕ → Bool) → List (List ℕ) → ℕ
how_many test [] = 0
how_many test (s ∷ ss) = pick (test s) (1 + how_many test ss) (how_many test ss)

abbrev pub OfCentre : Edition → (centre : ℕ) (state : List ℕ) → Type 0
OfCentre edition centre state = (centre_of edition state ≡ centre) × (is_nan_word (epoch_of edition state) ≡ false)

pub record Tells (edition : Edition) (centre : ℕ) (states : List (List ℕ)) : Type 0 where
  pub numbers : (centre_entry edition centre states).states ≡ how_many (λ s. eqb (centre_of edition s) centre && not (is_nan_word (epoch_of edition s))) states
  pub nans : (centre_entry edition centre states).nans ≡ how_many (λ s. eqb (centre_of edition s) centre && is_nan_word (epoch_of edition s)) states
  pub none_earlier : (i : ℕ) → i < length states → OfCentre edition centre (get_or states i []) →
      lt (of_bits binary64 (epoch_of edition (get_or states i []))) (of_bits binary64 (centre_entry edition centre states).earliest) ≡ false
  pub none_later : (i : ℕ) → i < length states → OfCentre edition centre (get_or states i []) →
      lt (of_bits binary64 (centre_entry edition centre states).latest) (of_bits binary64 (epoch_of edition (get_or states i []))) ≡ false
  pub one_earliest : 0 < (centre_entry edition centre states).states → (i : ℕ) × (i < length states) × OfCentre edition centre (get_or states i [])
      × (eq (of_bits binary64 (epoch_of edition (get_or states i []))) (of_bits binary64 (centre_entry edition centre states).earliest) ≡ true)
  pub one_latest : 0 < (centre_entry edition centre states).states → (i : ℕ) × (i < length states) × OfCentre edition centre (get_or states i [])
      × (eq (of_bits binary64 (epoch_of edition (get_or states i []))) (of_bits binary64 (centre_entry edition centre states).latest) ≡ true)
  pub never_minus_zero : ((centre_entry edition centre states).earliest ≡ minus_zero → ⊥) × ((centre_entry edition centre states).latest ≡ minus_zero → ⊥)
  pub none_at_all : (centre_entry edition centre states).states ≡ 0 →
      ((centre_entry edition centre states).earliest ≡ 0) × ((centre_entry edition centre states).latest ≡ 0)

abbrev pub TellsTrue : Type 0
TellsTrue =
    (edition : Edition) (centre : ℕ) (states : List (List ℕ)) →
    ((i : ℕ) → i < length states → epoch_of edition (get_or states i []) < 2 ^ 64) → Tells edition centre states
