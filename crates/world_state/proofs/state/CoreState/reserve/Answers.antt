use Rattle.std.proofs.Common.{◌≡◌, true, subst, arith}
use Rattle.std.specs.List.{All}
use Rattle.reserved_map.specs.Filled.{is_reserved}
use Rattle.reserved_map.specs.Keys.{region_cmp}
use Rattle.world_state.proofs.Rooms.{on_begin}
use Rattle.world_state.proofs.state.CoreState.reserve.Goals as goal

pub returns-clause-ready : goal.returns-clause-ready
returns-clause-ready c =
    record {
      counts = c.in_ok-ready_counts.ensures;
      drawn = subst (All (λ key. is_reserved region_cmp c.reserve_all.new.self key ≡ true)) c.as_slice.ensures c.in_ok-reserve_all.ensures.reserved;
      places = c.in_ok-ready_places.ensures.ready;
      written = c.in_ok-ready_written.ensures.ready;
      sets = c.in_ok-ready_sets.ensures.ready;
      works = on_begin c.args.change.now.works (omega (arith, c.in_ok-reserve.ensures.ok, c.in_ok-reserve.ensures.len));
    }
