use Rattle.std.proofs.Common.{◌∙◌, sym, subst}
use Rattle.reserved_map.specs.Filled.{filled}
use Rattle.reserved_map.specs.Keys.{region_cmp}
use Rattle.world_state.specs.Held.{Held, state_of}
use Rattle.world_state.specs.Parts.{AreDrawn}
use Rattle.world_state.proofs.kept.Core.is_drawn.Goals as goal

pub returns : goal.returns
returns c =
    let drawn = c.self.inside.state.drawn in
    let are = subst (λ (h : Held). AreDrawn (filled region_cmp drawn) (state_of h).now.drawn) c.self.view_is c.self.invariant.replay.drawn c.args.region.now in
    (λ e. are.0 (sym c.contains_key.ensures ∙ e), λ m. c.contains_key.ensures ∙ are.1 m)
