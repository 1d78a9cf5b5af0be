-- The tables' second side, by computing: each column by its name is of the kind that the document gives it, in a record of as many words as it says.
use Rattle.std.specs.Prelude.{◌+◌, ◌≡◌, refl, [], ◌∷◌, map}
use Rattle.files_formats.specs.declared.kinds.Kind.{Kind}
use Rattle.files_formats.specs.declared.kinds.Kind.TheVariants.{Figure, Number}
use Rattle.files_formats.specs.declared.elements.Edition.TheVariants.{One}
use Rattle.files_formats.specs.declared.elements.Section.TheVariants.{Requests}
use Rattle.files_formats.specs.declared.elements.Column.{Column}
use Rattle.files_formats.specs.declared.elements.Column.TheVariants as at
use Rattle.files_formats.specs.Kinds.{kind_at}
use Rattle.files_formats.specs.Elements.{edition_word, sections, limit_of, kinds_of, width_of, column_of, section_of}
use Rattle.files_formats.specs.Shapes.{shape_of, place_of, record_of, end_of}
use Rattle.files_formats.specs.Rows.{result_width, most_results, result_place, result_figure, result_figures, told_width}
use Rattle.files_formats.specs.Rows.{checked_width, most_checked, checked_place, checked_anomaly, checked_figure, checked_figures, given_words}

-- "the edition, 1"; "centres (0 to 16, one word ..); states (0 to 500, eight words ..); requests (0 to 1,500, two words ..)".
edition_one : edition_word One ≡ 1
edition_one = refl

widths : map (width_of One) sections ≡ 1 ∷ 8 ∷ 2 ∷ []
widths = refl

limits : map limit_of sections ≡ 16 ∷ 500 ∷ 1500 ∷ []
limits = refl

-- "μ"; "centre number, epoch, x y z vx vy vz"; "state number, time": their columns in order, and the kind of each.
columns : map (column_of One) (at.Centre ∷ at.Epoch ∷ at.Position ∷ at.Velocity ∷ []) ≡ 0 ∷ 1 ∷ 2 ∷ 5 ∷ []
columns = refl

other_columns : map (column_of One) (at.Mu ∷ at.State ∷ at.Time ∷ []) ≡ 0 ∷ 0 ∷ 1 ∷ []
other_columns = refl

abbrev kind_named : Column → Kind
kind_named c = kind_at (kinds_of One (section_of c)) (column_of One c)

kinds : map kind_named (at.Mu ∷ at.Centre ∷ at.Epoch ∷ at.Position ∷ at.Velocity ∷ at.State ∷ at.Time ∷ [])
    ≡ Figure ∷ Number ∷ Figure ∷ Figure ∷ Figure ∷ Number ∷ Figure ∷ []
kinds = refl

-- Where everything stands in a file of one centre, one state and one request, by bytes: the counts after 8, 24 and 96 bytes, the end after 120; request 3 of a
-- file of 2 centres and 5 states stands after 8 + 24 + 328 + 8 + 48 bytes.
one_of_each_lem : map (place_of (shape_of One 1 1 1)) sections ≡ 8 ∷ 24 ∷ 96 ∷ []
one_of_each_lem = refl

its_end : end_of (shape_of One 1 1 1) ≡ 120
its_end = refl

fourth_request : record_of (shape_of One 2 5 9) Requests 3 ≡ 8 + 24 + 328 + 8 + 48
fourth_request = refl

-- "per request 11 words: refusal or 0, points, position, velocity, end acceleration"; a row to check is "eight input words, a proposed anomaly and the nine
-- end figures"; a row that is told has its kind, then two words a figure.
result_row : result_figure + result_figures ≡ result_width
result_row = refl

result_places : (result_place 0 ≡ 16) × (result_place 1 ≡ 104) × (most_results ≡ 1500)
result_places = (refl, refl, refl)

checked_row : (given_words ≡ 8) × (checked_anomaly ≡ given_words) × (checked_figure ≡ checked_anomaly + 1) × (checked_figure + checked_figures ≡ checked_width)
checked_row = (refl, refl, refl, refl)

checked_places : (checked_place 0 ≡ 8) × (checked_place 1 ≡ 152) × (most_checked ≡ 400)
checked_places = (refl, refl, refl)

told_row : told_width ≡ 19
told_row = refl
