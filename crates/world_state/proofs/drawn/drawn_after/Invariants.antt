use Rattle.std.proofs.Common.{◌≡◌, true, drop}
use Rattle.std.specs.List.{All}
use Rattle.reserved_map.specs.Filled.{filled, is_reserved}
use Rattle.reserved_map.specs.Keys.{region_cmp}
use Rattle.world_state.specs.Parts.{with_all}
use Rattle.world_state.proofs.drawn.drawn_after.Given as goal

-- the keys to come, added to what there is, are all of them added to what there was
abbrev pub invariant-loop-key : goal.invariant-loop-key
invariant-loop-key l = record {
  reserved : All (λ key. is_reserved region_cmp l.drawn key ≡ true) l.keys;
  told : with_all (drop l.key-index l.keys) (filled region_cmp l.drawn) ≡ with_all l.keys (filled region_cmp l.fn.drawn);
}
