use Rattle.std.proofs.Common.{sym, ap, subst, length, arith}
use Rattle.world_state.specs.Parts.{IsFound, IsReplay}
use Rattle.world_state.proofs.Opened.{found_replay}
use Rattle.world_state.proofs.Replay.{replayed-none}
use Rattle.world_state.proofs.kept.Core.new.Goals as goal

pub invariant_of-result : goal.invariant_of-result
invariant_of-result c =
    let state = c.in_ok-state.state in
    let found : IsFound c.args.found state = c.in_ok-state.ensures in
    let none = replayed-none c.args.opening c.new.result.items c.new.ensures.items in
    let idle = ap length found.works in
    record {
      replay = subst (IsReplay state) (sym none) (found_replay c.args.opening c.args.found state c.requires found);
      room = record { ends = omega (arith, idle, state.works.ok.0, c.new.ensures.len); few = omega (arith, idle, state.works.ok.0, c.new.ensures.len); prepared = rw c.no_step.ensures tt };
    }
