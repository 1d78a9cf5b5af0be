use mathlib.Core.Path.{◌≡◌, ap, ◌∙◌}
use mathlib.Core.List.{List}
use Prim.Native.Nat.{ℕ, suc, ◌+◌, ◌-◌, ◌*◌, ◌<◌, ◌≤◌}
use native.Mathlib.Omega.{arith}
use lib.ListN.{length, take, drop}
use Rattle.files_words.specs.Bytes.{put}
use Rattle.files_records.specs.Records.{moved_down}
use Rattle.files_records.proofs.Steps.{among}
use Rattle.files_records.proofs.PartLaws.{shifted, all_moved}
use Rattle.files_records.proofs.move_followers.Goals as goal

module _ (run : List ℕ) (w count which : ℕ) (here : which < count) (room : count * w ≤ length run) where
  -- What the library moves down is the followers' words, all of them.
  moved : shifted run (which * w) w (count * w - (which * w + w)) ≡ moved_down w run count which
  moved =
      let m = among w count which here in
      let all : count * w - (which * w + w) ≡ (count - suc which) * w = omega (arith, m) in
      let from : which * w + w ≡ suc which * w = omega arith in
      ap (shifted run (which * w) w) all
      ∙ all_moved run (which * w) w ((count - suc which) * w) (omega (arith, m))
      ∙ ap (λ (k : ℕ). put run (which * w) (take ((count - suc which) * w) (drop k run))) from

pub returns : goal.returns
returns c =
    let a = c.args in
    c.copy_within.ensures.after ∙ moved a.run.now a.w a.count a.which c.requires.0 c.requires.1
