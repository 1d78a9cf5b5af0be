-- Copied to a part of the room.
use mathlib.Core.Path.{◌∙◌}
use Rattle.files_words.specs.Bytes.{bytes_of}
use Rattle.files_words.proofs.WordLaws.{length_bytes, le_bytes}
use Rattle.files_words.proofs.PutLaws.{part_put}
use Rattle.files_words.proofs.put_bytes.Goals as goal

pub returns : goal.returns
returns c =
    let a = c.args in
    part_put a.room.now (bytes_of 8 a.word) _ a.place 8 (length_bytes 8 a.word) c.requires (c.copy_from_slice.ensures.after ∙ c.to_le_bytes.ensures ∙ le_bytes a.word)
