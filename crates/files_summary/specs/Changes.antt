-- Document 02, T-02: "updated when a state is appended or withdrawn. A withdrawn state's followers move down one, and the last record freed keeps its
-- words .. After a change that centre's entry is the one worked out afresh and no other is touched .. Refusals: 27 when the state run hasn't room for
-- exactly 500 records or its count is above 500, then 41 when the lent list hasn't one entry per centre, 24 for a bad centre, then 42 when the state
-- section is full or the state withdrawn isn't there."
use Rattle.std.specs.Prelude.{ℕ, zero, suc, ◌+◌, ◌-◌, ◌*◌, Bool, true, false, ⊤, Result, Ok, Err, List, [], ◌∷◌, ◌++◌, eqb, leb, ltb, length}
use Rattle.bits.specs.declared.refusal.Refusal.{Refusal}
use Rattle.bits.specs.declared.refusal.Refusal.TheVariants.{NoSuchRecord, NotWholeRecords, NotOneEach, StatesInUse}
use Rattle.files_records.specs.Records.{record_at, records_of, record_put, withdrawn, all_words}
use Rattle.files_formats.specs.declared.elements.Edition.{Edition}
use Rattle.files_formats.specs.declared.elements.Section.TheVariants.{States}
use Rattle.files_formats.specs.Elements.{limit_of}
use Rattle.files_formats.specs.Rows.{entry_width}
use Rattle.files_summary.specs.declared.entries.Roster.{Roster}
use Rattle.files_summary.specs.declared.entries.Summary.{Summary}
use Rattle.files_summary.specs.declared.changes.Change.{Change}
use Rattle.files_summary.specs.Entries.{state_width, in_use, centre_of, centre_entry, entry_words}

-- ---- The refusals in their order: one where a test fails; and a test, then what comes next where it holds.
abbrev pub refuse : (holds : Bool) → Refusal → Result ⊤ Refusal
refuse true refusal = Ok tt
refuse false refusal = Err refusal

infixr 5 ◌⟫◌
abbrev pub ◌⟫◌ : {T : Type 0} → Result ⊤ Refusal → Result T Refusal → Result T Refusal
Ok done ⟫ next = next
Err refusal ⟫ next = Err refusal

-- 27 by the words of the run and the count, 41 by the list: it has one entry, of so many words (or of one struct), for each of the centres.
abbrev pub one_each : (each long centres : ℕ) → Bool
one_each each long centres = eqb long (centres * each)

abbrev pub lent_refusal : (words : ℕ) → Roster → (listed : Bool) → Result ⊤ Refusal
lent_refusal words roster listed =
    refuse (eqb words (limit_of States * state_width roster.edition)) NotWholeRecords
    ⟫ refuse (leb roster.count (limit_of States)) NotWholeRecords
    ⟫ refuse listed NotOneEach

-- What is appended is exactly one record, or it is 27 too.
unfoldable pub append_refusal : (state : List ℕ) (words : ℕ) → Roster → (listed : Bool) → Result ⊤ Refusal
append_refusal state words roster listed =
    refuse (eqb (length state) (state_width roster.edition)) NotWholeRecords
    ⟫ lent_refusal words roster listed
    ⟫ refuse (ltb (centre_of roster.edition state) roster.centres) NoSuchRecord
    ⟫ refuse (ltb roster.count (limit_of States)) StatesInUse

-- The centre of the state to withdraw is looked at only where that state is there.
abbrev pub state_at : Edition → (run : List ℕ) (which : ℕ) → List ℕ
state_at edition run which = record_at (state_width edition) run which

unfoldable pub withdraw_refusal : (which : ℕ) (run : List ℕ) → Roster → (listed : Bool) → Result ⊤ Refusal
withdraw_refusal which run roster listed =
    lent_refusal (length run) roster listed
    ⟫ refuse (ltb which roster.count) StatesInUse
    ⟫ refuse (ltb (centre_of roster.edition (state_at roster.edition run which)) roster.centres) NoSuchRecord

-- ---- A change that is asked for: a state to append, or the number of one to withdraw. Its refusal, if any, and its centre; and, once it is done, the run and
-- how many states are in use. A state is appended as the next record; the followers of one that is withdrawn are one record lower.
pub data Asked : Type 0 where
  append : (state : List ℕ) → Asked
  withdraw : (which : ℕ) → Asked

abbrev pub refusal_of : Asked → (run : List ℕ) → Roster → (listed : Bool) → Result ⊤ Refusal
refusal_of (append state) run roster listed = append_refusal state (length run) roster listed
refusal_of (withdraw which) run roster listed = withdraw_refusal which run roster listed

abbrev pub centre_asked : Asked → (run : List ℕ) → Roster → ℕ
centre_asked (append state) run roster = centre_of roster.edition state
centre_asked (withdraw which) run roster = centre_of roster.edition (state_at roster.edition run which)

abbrev pub run_asked : Asked → (run : List ℕ) → Roster → List ℕ
run_asked (append state) run roster = record_put (state_width roster.edition) run roster.count state
run_asked (withdraw which) run roster = withdrawn (state_width roster.edition) run roster.count which

abbrev pub count_asked : Asked → Roster → ℕ
count_asked (append state) roster = roster.count + 1
count_asked (withdraw which) roster = roster.count - 1

-- ---- What a change comes to: its refusal, or the states in use afterwards, and the entry of the changed centre, worked out afresh. A refusal changes nothing.
abbrev pub changed : Edition → (run : List ℕ) (count centre : ℕ) → Change
changed edition run count centre =
    record { count = count; at = centre; entry = centre_entry edition centre (records_of (state_width edition) run count) }

abbrev pub if_made : {A : Type 0} → Result ⊤ Refusal → (before after : A) → A
if_made (Ok done) before after = after
if_made (Err refusal) before after = before

unfoldable pub change_of : Asked → (run : List ℕ) → Roster → (listed : Bool) → Result Change Refusal
unfolding append_refusal withdraw_refusal record_put withdrawn records_of centre_entry
change_of asked run roster listed =
    refusal_of asked run roster listed ⟫ Ok (changed roster.edition (run_asked asked run roster) (count_asked asked roster) (centre_asked asked run roster))

unfoldable pub run_of : Asked → (run : List ℕ) → Roster → (listed : Bool) → List ℕ
unfolding append_refusal withdraw_refusal record_put withdrawn
run_of asked run roster listed = if_made (refusal_of asked run roster listed) run (run_asked asked run roster)

-- How many states are in use after a change: a refused one leaves as many as there were.
abbrev pub count_after : Result Change Refusal → (before : ℕ) → ℕ
count_after (Ok change) before = change.count
count_after (Err refusal) before = before

-- The same beside a list of `long` words, `each` to an entry; or of `long` structs, one to an entry.
abbrev pub change_beside : (each long : ℕ) → Asked → (run : List ℕ) → Roster → Result Change Refusal
change_beside each long asked run roster = change_of asked run roster (one_each each long roster.centres)

abbrev pub run_beside : (each long : ℕ) → Asked → (run : List ℕ) → Roster → List ℕ
run_beside each long asked run roster = run_of asked run roster (one_each each long roster.centres)

-- ---- A list of entries after a change, by how an entry is stored: among structs by `set`, and among words by `put_entry`.
abbrev pub settled_by : {A : Type 0} → (List A → ℕ → Summary → List A) → List A → Result Change Refusal → List A
settled_by store list (Ok change) = store list change.at change.entry
settled_by store list (Err refusal) = list

abbrev pub put_entry : List ℕ → ℕ → Summary → List ℕ
put_entry list at entry = record_put entry_width list at (entry_words entry)

-- ---- The whole list, worked out afresh: the entries of so many centres, in order; and their words.
unfoldable pub entries_of : Edition → (states : List (List ℕ)) (centres : ℕ) → List Summary
unfolding centre_entry
entries_of edition states zero = []
entries_of edition states (suc c) = entries_of edition states c ++ (centre_entry edition c states ∷ [])

abbrev pub as_words : List Summary → List ℕ
as_words list = all_words entry_words list

abbrev pub entries_in : Roster → (run : List ℕ) → List Summary
entries_in roster run = entries_of roster.edition (in_use roster run) roster.centres

-- `summary`: refusals 27 and 41; then the list has the words of all centres' entries.
abbrev pub summary_refusal : (run : List ℕ) → Roster → (list : List ℕ) → Result ⊤ Refusal
summary_refusal run roster list = lent_refusal (length run) roster (one_each entry_width (length list) roster.centres)

unfoldable pub summary_list : (run : List ℕ) → Roster → (list : List ℕ) → List ℕ
unfolding records_of entries_of
summary_list run roster list = if_made (summary_refusal run roster list) list (as_words (entries_in roster run))
