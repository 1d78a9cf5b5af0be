-- The first fault found is the walk's; where there is none, a word may be missing.
use Prim.Native.Nat.{ℕ, ◌-◌, ◌/◌, min}
use native.Mathlib.Omega.{arith}
use mathlib.Core.List.{List}
use mathlib.Core.Path.{◌≡◌, sym, ap, ◌∙◌}
use lib.ListN.{length, take, drop}
use lib.Seq.{length-take-le}
use Rattle.std.specs.Prelude.{Option, map}
use Rattle.std.specs.Simd.{first_chunks}
use Rattle.std.proofs.lemmas.List.{length-map, take-map}
use Rattle.files_words.specs.Bytes.{number_of, words_from}
use Rattle.files_words.proofs.WordLaws.{words_in_chunks}
use Rattle.files_formats.specs.declared.firsts.Found.{Found}
use Rattle.files_formats.specs.declared.kinds.Kind.{Kind}
use Rattle.files_formats.specs.Elements.{kinds_of}
use Rattle.files_formats.specs.Kinds.{table_fault, FirstOf}
use Rattle.files_formats.specs.Shapes.{below_of}
use Rattle.files_formats.proofs.TableLaws.{none_found_in_file, one_found, first_of_front}
use Rattle.files_formats.proofs.files.walk_words.Goals as goal

module _ (file : List ℕ) (place count : ℕ) {chunks : List (List ℕ)} {n : ℕ} (fewer : n ≡ min (length (words_from file place)) count)
    (e : chunks ≡ first_chunks 8 (length (take (length file - place) (drop place file)) / 8) (take (length file - place) (drop place file))) where
  -- the chunks are the words that are there
  as_words : map number_of chunks ≡ words_from file place
  as_words = words_in_chunks file place e

  there : n ≡ min count (length (words_from file place))
  there = omega (arith, fewer)

  many : length (take n chunks) ≡ n
  many = length-take-le n chunks (omega (arith, fewer, ap length as_words, length-map chunks number_of))

  found_in_file : (kinds : List Kind) (below : ℕ) (found : Option Found) → FirstOf (table_fault kinds below (map number_of (take n chunks))) (length (take n chunks)) found →
      FirstOf (table_fault kinds below (words_from file place)) n found
  found_in_file kinds below found f =
      first_of_front kinds below (words_from file place) n found
      (rw (sym (ap (take n) (sym as_words) ∙ take-map number_of n chunks), many) at f)

pub slice_bounds-there-end : goal.slice_bounds-there-end
slice_bounds-there-end c = let a = c.args in sym (many a.file.now a.place a.words c.words_there.ensures c.as_chunks.ensures.front)

pub returns-in-Some : goal.returns-in-Some
returns-in-Some c =
    let a = c.args in
    let t = there a.file.now a.place a.words c.words_there.ensures c.as_chunks.ensures.front in
    one_found (kinds_of a.shape.edition a.section) (below_of a.shape a.section) (words_from a.file.now a.place) a.place a.words c.words_there.result c.in-Some.found
    (omega (arith, t)) (omega (arith, t)) (found_in_file a.file.now a.place a.words c.words_there.ensures c.as_chunks.ensures.front _ _ _ c.in-Some.ensures)

pub returns-in-None : goal.returns-in-None
returns-in-None c =
    let a = c.args in
    let m = many a.file.now a.place a.words c.words_there.ensures c.as_chunks.ensures.front in
    (rw m at c.need.ensures)
    ∙ none_found_in_file (kinds_of a.shape.edition a.section) (below_of a.shape a.section) (words_from a.file.now a.place) a.place a.words c.words_there.result
    (there a.file.now a.place a.words c.words_there.ensures c.as_chunks.ensures.front)
    (found_in_file a.file.now a.place a.words c.words_there.ensures c.as_chunks.ensures.front _ _ _ c.in-None.ensures)
