-- Each step keeps that the names of what was written were drawn.
use Rattle.std.proofs.Common.{Some, ◌∙◌}
use Rattle.hb_cell.specs.Order.{same_bytes}
use Rattle.core_model.specs.declared.step.Step.{Step}
use Rattle.core_model.specs.declared.step.Step.TheVariants as step
use Rattle.core_model.specs.Allows.{Allows}
use Rattle.core_model.specs.FileChanges.{written_by}
use Rattle.core_model.specs.Sound.{IsSound}
use Rattle.core_model.specs.State.{Parts}
use Rattle.core_model.specs.TmpFacts.{HasDrawn}
use Rattle.core_sound.proofs.Tests.{cond_cases, same_bytes-true}

pub drawn_kept : (p : Step) (s : Parts) → Allows p s → IsSound s → HasDrawn s.epoch (written_by p s.written)
drawn_kept (step.WriteTmp actor recipe name cells bytes) s a h = record {
  at = λ m w e. cond_cases (same_bytes m name) (Some (record { by = actor.0; recipe = recipe; cells = cells })) (s.written m) (Some w) e
      (λ d i. (s.files, same_bytes-true m name d ∙ a.new))
      (λ d i. h.known_tmps.at m w i);
}
drawn_kept _ s a h = h.known_tmps
