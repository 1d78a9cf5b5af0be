-- The edition, then the sections, each right after the one before.
use Prim.Native.Nat.{ℕ}
use mathlib.Core.Path.{ap, ◌∙◌}
use Rattle.files_words.specs.Bytes.{bytes_of, put}
use Rattle.files.specs.Writer.{runs_in}
use Rattle.files.proofs.FileLaws.{file_put}
use Rattle.files.proofs.put_file.Goals as goal

pub returns : goal.returns
returns c =
    let a = c.args in
    file_put a.shape (runs_in a.sections) a.room.now _ _ _ _ c.requires
    (c.put_word.ensures ∙ ap (λ (n : ℕ). put a.room.now 0 (bytes_of 8 n)) c.from.ensures)
    c.put_section.ensures c.put_section-2.ensures c.put_section-3.ensures
