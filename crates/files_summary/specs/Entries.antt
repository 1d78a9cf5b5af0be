-- Document 02, T-02: "The morning screen lists, for each centre, how many states there are and the earliest and latest epoch." "A centre with no epoch shows +0
-- twice. States with a NaN epoch are in a count of their own only; infinite epochs count; minus zero and zero are one epoch, shown as zero."
use Rattle.std.specs.Prelude.{ℕ, ◌+◌, ◌*◌, ◌-◌, ◌^◌, ◌≤◌, Bool, not, ◌&&◌, List, [], ◌∷◌, map, eqb, ltb, length, get_or}
use Rattle.bits.specs.Choice.{pick}
use Rattle.bits.specs.Line.{is_nan_word, line_of, word_on}
use Rattle.files_records.specs.Records.{records_of}
use Rattle.files_formats.specs.declared.elements.Edition.{Edition}
use Rattle.files_formats.specs.declared.elements.Section.TheVariants.{States}
use Rattle.files_formats.specs.declared.elements.Column.TheVariants as at
use Rattle.files_formats.specs.Elements.{limit_of, width_of, column_of}
use Rattle.files_summary.specs.declared.entries.Roster.{Roster}
use Rattle.files_summary.specs.declared.entries.Summary.{Summary}
use Rattle.files_summary.specs.declared.entries.Tally.{Tally}

-- ---- A roster: the edition of the states of a run, how many are in use, and how many centres there are. The states in use, each with its words, are the first
-- records of a run that has room for more.
abbrev pub roster_of : Edition → (count centres : ℕ) → Roster
roster_of edition count centres = record { edition = edition; count = count; centres = centres }

abbrev pub state_width : Edition → ℕ
state_width edition = width_of edition States

abbrev pub in_use : Roster → (run : List ℕ) → List (List ℕ)
in_use roster run = records_of (state_width roster.edition) run roster.count

-- What the code's inner steps need: a run has so many states, and no more than a section may have.
abbrev pub Holds : Edition → (run : List ℕ) (count : ℕ) → Type 0
Holds edition run count = (count ≤ limit_of States) × (count * state_width edition ≤ length run)

abbrev pub centre_of : Edition → (state : List ℕ) → ℕ
centre_of edition state = get_or state (column_of edition at.Centre) 0

abbrev pub epoch_of : Edition → (state : List ℕ) → ℕ
epoch_of edition state = get_or state (column_of edition at.Epoch) 0

-- ---- The moment of a state's epoch: one whole number, by which epochs come one after another. It is the epoch's place on the line of doubles, where the
-- zeros are one.
abbrev pub moment_of : Edition → (state : List ℕ) → ℕ
moment_of edition state = line_of (epoch_of edition state)

-- A centre's states whose epoch is a number, and those whose epoch is not. The moments of the one, and how many the others are.
abbrev pub is_dated : Edition → (centre : ℕ) (state : List ℕ) → Bool
is_dated edition centre s = eqb (centre_of edition s) centre && not (is_nan_word (epoch_of edition s))

abbrev pub is_undated : Edition → (centre : ℕ) (state : List ℕ) → Bool
is_undated edition centre s = eqb (centre_of edition s) centre && is_nan_word (epoch_of edition s)

unfoldable pub chosen : (List ℕ → Bool) → (states : List (List ℕ)) → List (List ℕ)
chosen test [] = []
chosen test (s ∷ ss) = pick (test s) (s ∷ chosen test ss) (chosen test ss)

abbrev pub moments_of : Edition → (centre : ℕ) (states : List (List ℕ)) → List ℕ
moments_of edition centre states = map (moment_of edition) (chosen (is_dated edition centre) states)

abbrev pub nans_of : Edition → (centre : ℕ) (states : List (List ℕ)) → ℕ
nans_of edition centre states = length (chosen (is_undated edition centre) states)

-- ---- The earliest and the latest of some moments, of which the first is given; shown as words, +0 where there is none.
abbrev pub earlier : ℕ → ℕ → ℕ
earlier a b = pick (ltb b a) b a

abbrev pub later : ℕ → ℕ → ℕ
later a b = pick (ltb a b) b a

unfoldable pub earliest : ℕ → List ℕ → ℕ
earliest p [] = p
earliest p (q ∷ qs) = earliest (earlier p q) qs

unfoldable pub latest : ℕ → List ℕ → ℕ
latest p [] = p
latest p (q ∷ qs) = latest (later p q) qs

unfoldable pub shown_by : (ℕ → List ℕ → ℕ) → (moments : List ℕ) → ℕ
shown_by choice [] = 0
shown_by choice (p ∷ ps) = word_on (choice p ps)

-- ---- The entry of a centre: by the moments of its states and its NaNs; worked out from the states in use; that of no states; and the words of an entry.
unfoldable pub entry_by : (moments : List ℕ) (nans : ℕ) → Summary
unfolding earliest latest shown_by
entry_by moments nans = record { states = length moments; nans = nans; earliest = shown_by earliest moments; latest = shown_by latest moments }

unfoldable pub centre_entry : Edition → (centre : ℕ) (states : List (List ℕ)) → Summary
unfolding entry_by chosen
centre_entry edition centre states = entry_by (moments_of edition centre states) (nans_of edition centre states)

abbrev pub no_entry : Summary
no_entry = record { states = 0; nans = 0; earliest = 0; latest = 0 }

abbrev pub entry_words : Summary → List ℕ
entry_words s = s.states ∷ s.nans ∷ s.earliest ∷ s.latest ∷ []

-- ---- What the code gathers on its way over the states: the two counts, and the earliest and latest moment so far. It begins with an earliest
-- after all moments, and a latest before them. The columns of the centre and of the epoch are given.
abbrev pub no_tally : Tally
no_tally = record { states = 0; nans = 0; first = 2 ^ 64 - 1; last = 0 }

abbrev pub with_nan : Tally → Tally
with_nan t = record { states = t.states; nans = t.nans + 1; first = t.first; last = t.last }

abbrev pub with_moment : Tally → ℕ → Tally
with_moment t p = record { states = t.states + 1; nans = t.nans; first = earlier t.first p; last = later t.last p }

abbrev pub with_epoch : Tally → ℕ → Tally
with_epoch t e = pick (is_nan_word e) (with_nan t) (with_moment t (line_of e))

abbrev pub with_state : Tally → (centre its epoch : ℕ) → Tally
with_state t centre its e = pick (eqb its centre) (with_epoch t e) t

unfoldable pub gathered : (its epoch centre : ℕ) → Tally → (states : List (List ℕ)) → Tally
gathered its epoch centre t [] = t
gathered its epoch centre t (s ∷ ss) = gathered its epoch centre (with_state t centre (get_or s its 0) (get_or s epoch 0)) ss

-- The entry of what was gathered.
abbrev pub shown : Tally → Summary
shown t =
    pick (eqb t.states 0)
    (record { states = 0; nans = t.nans; earliest = 0; latest = 0 })
    (record { states = t.states; nans = t.nans; earliest = word_on t.first; latest = word_on t.last })
