use Rattle.std.proofs.Common.{◌∙◌, is_some, sym, ap}
use Rattle.std.specs.FinMap.{contains_key}
use Rattle.hb_cell.specs.Order.{bytes_cmp}
use Rattle.reserved_map.specs.Filled.{filled}
use Rattle.world_state.specs.Held.{Held, state_of}
use Rattle.world_state.proofs.kept.Core.stands.Goals as goal

pub returns : goal.returns
returns c q regular text =
    let places = c.self.inside.state.places in
    c.contains_key.ensures ∙ ap (contains_key (filled bytes_cmp places)) (sym text) ∙ c.self.invariant.replay.places.at q regular ∙ ap (λ (h : Held). is_some ((state_of h).now.disk q)) c.self.view_is
