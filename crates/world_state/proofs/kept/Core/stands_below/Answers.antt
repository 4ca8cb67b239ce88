use Rattle.std.proofs.Common.{true, subst, ◌≡◌}
use Rattle.std.specs.Prelude.{◌↔◌, IfOk}
use Rattle.hb_cell.specs.Order.{bytes_cmp}
use Rattle.reserved_map.specs.Filled.{filled}
use Rattle.core_model.specs.StartGuards.{StandsBelow}
use Rattle.core_places.proofs.Region.{said_of_disk}
use Rattle.world_state.specs.Held.{Held, state_of}
use Rattle.world_state.proofs.kept.Core.stands_below.Goals as goal

pub returns : goal.returns
returns c =
    let r = c.args.region.now in
    let o = c.stands_below.result in
    let said = c.stands_below.ensures in
    subst (λ (h : Held). IfOk o (λ b. (b ≡ true) ↔ StandsBelow (state_of h).now.disk r)) c.self.view_is
    (said_of_disk r _ (filled bytes_cmp c.self.inside.state.places) o c.self.invariant.replay.places said.key said.below)
