use Rattle.std.proofs.Common.{◌∙◌, Bool, ap, map, refl}
use Rattle.std.proofs.lemmas.Bool.{iff_false}
use Rattle.hb_records.specs.declared.region_info.RegionInfo.{RegionInfo}
use Rattle.plain_model.specs.Keys.{key_of}
use Rattle.world_steps.proofs.Started.{keys_here, ok_by}
use Rattle.world_steps.proofs.Tables.{keys-dropped, keys-open}
use Rattle.world_steps.proofs.world.World.listed_keys.Goals as goal

pub returns-in_default : goal.returns-in_default
returns-in_default g c = keys_here c.core.result.now c.args.self.now c.args.table.now _ _ c.core.ensures.opening c.core.ensures.entries c.holds.ensures c.in_default.ensures c.new.ensures

pub returns-then-is_dropped : goal.returns-then-is_dropped
returns-then-is_dropped g c =
    keys_here c.core.result.now c.args.self.now c.args.table.now _ _ c.core.ensures.opening c.core.ensures.entries c.holds.ensures c.in-Some.ensures (c.new-then-is_dropped.ensures ∙ keys-dropped c.in-Some.set.now _ refl (c.is_dropped.ensures.0 c.if-is_dropped.true))

pub returns : goal.returns
returns g c = ok_by _ _ c.keys_listed.result (λ keys h. keys_here c.core.result.now c.args.self.now c.args.table.now keys _ c.core.ensures.opening c.core.ensures.entries c.holds.ensures c.in-Some.ensures
    (h ∙ ap (map (λ (x : RegionInfo × Bool). key_of x.0)) c.as_slice.ensures ∙ keys-open c.in-Some.set.now _ refl (iff_false c.is_dropped.ensures c.if-is_dropped.false))) c.keys_listed.ensures
