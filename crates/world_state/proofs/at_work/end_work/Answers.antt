use Rattle.std.proofs.Common.{rules}
use Rattle.std.proofs.lemmas.Fn.{filter_same}
use Rattle.world_state.specs.Parts.{is_not}
use Rattle.world_state.proofs.at_work.end_work.Goals as goal

pub returns : goal.returns
returns c = filter_same _ (is_not c.args.actor.0) _ (λ x b f k. search rules) _ _ c.retain.ensures.filtered
