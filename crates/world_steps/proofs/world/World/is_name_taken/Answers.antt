use Rattle.std.proofs.Common.{◌∙◌, refl}
use Rattle.std.proofs.lemmas.Bool.{iff_false}
use Rattle.world_steps.specs.World.{state_at}
use Rattle.world_steps.proofs.NamesTaken.{taken-by_key, taken-repeated}
use Rattle.world_steps.proofs.Started.{ok_by}
use Rattle.world_steps.proofs.world.World.is_name_taken.Goals as goal

pub returns-then-has_repeated : goal.returns-then-has_repeated
returns-then-has_repeated g c = (λ e. taken-repeated (state_at c.args.self.now).now c.args.regions.now c.as_slice-keys.result.now (c.as_slice-keys.ensures ∙ c.in_ok-keys.ensures) (c.has_repeated.ensures.0 c.if-has_repeated.true), λ h. refl)

pub returns : goal.returns
returns g c = ok_by _ _ c.has_taken.result (λ b h. taken-by_key b (state_at c.args.self.now).now c.args.table.now c.args.regions.now c.as_slice-keys.result.now c.as_slice.result.now (c.as_slice-keys.ensures ∙ c.in_ok-keys.ensures)
    (c.as_slice.ensures ∙ c.in_ok-listed.ensures) c.requires (iff_false c.has_repeated.ensures c.if-has_repeated.false) h) c.has_taken.ensures
