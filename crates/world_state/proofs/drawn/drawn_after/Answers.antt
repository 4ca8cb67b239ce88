use Rattle.std.proofs.Common.{◌≡◌, ◌∙◌, sym, subst, true}
use Rattle.reserved_map.specs.Filled.{is_reserved}
use Rattle.reserved_map.specs.Keys.{region_cmp}
use Rattle.world_state.proofs.Regions.{one_more}
use Rattle.world_state.proofs.drawn.drawn_after.Goals as goal

pub loop-key-preserved : goal.loop-key-preserved
loop-key-preserved c =
    let was = c.loop-key.invariant in
    let key = c.key-item.result in
    record {
      reserved = λ k d l. c.put.ensures.reserved _ ∙ was.reserved k d l;
      told = one_more c.args.keys.now c.loop-key.key-index key _ _ c.loop-key-test.true c.key-item.is c.put.ensures.filled ∙ was.told;
    }

pub put-requires : goal.put-requires
put-requires c =
    let key = c.key-item.result in
    subst (λ k. is_reserved region_cmp c.loop-key.drawn k ≡ true) (sym c.key-item.is) (c.loop-key.invariant.reserved c.loop-key.key-index key c.loop-key-test.true)
