-- Each allowed step keeps what is faithful.
use Rattle.std.proofs.Common.{◌≤◌}
use Rattle.core_model.specs.declared.step.Step.{Step}
use Rattle.core_model.specs.Allows.{Allows}
use Rattle.core_model.specs.Replay.{after}
use Rattle.core_model.specs.Sound.{IsSound}
use Rattle.core_model.specs.State.{Parts}
use Rattle.core_contents.specs.Faithful.{IsFaithful}
use Rattle.core_contents.proofs.CapturesKept.{captures_kept}
use Rattle.core_contents.proofs.ContentsKept.{contents_kept}
use Rattle.core_contents.proofs.CopiesKept.{copies_kept}
use Rattle.core_contents.proofs.ExactKept.{exact_kept}
use Rattle.core_contents.proofs.FamiliesKept.{families_kept}
use Rattle.core_contents.proofs.FrontsKept.{fronts_kept}
use Rattle.core_contents.proofs.KeptKept.{kept_kept}
use Rattle.core_contents.proofs.NumbersKept.{numbers_kept}

pub faithful_kept : (p : Step) (s : Parts) → s.files ≤ 4_194_304 → Allows p s → IsSound s → IsFaithful s → IsFaithful (after p s)
faithful_kept p s few a h f = record {
  contents = contents_kept p s few a h f;
  kept = kept_kept p s a h f;
  copied = captures_kept p s few a h f;
  copies = copies_kept p s few a h f;
  exact = exact_kept p s a h f;
  numbers = numbers_kept p s a h f f.numbers;
  fronts = fronts_kept p s few a h f;
  families = families_kept p s few a h f;
}
