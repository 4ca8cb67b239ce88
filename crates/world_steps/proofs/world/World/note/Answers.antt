use Rattle.std.proofs.Common.{◌++◌, ◌∷◌, [], List, false, refl, ap, ◌∙◌}
use Rattle.core_model.specs.declared.journal.JournalEntry.{JournalEntry}
use Rattle.world_steps.specs.World.{entry_of}
use Rattle.world_steps.proofs.Facts.{may_add}
use Rattle.world_steps.proofs.Kept.{world_noted}
use Rattle.world_steps.proofs.world.World.note.Goals as goal

pub invariant_of-self-2 : goal.invariant_of-self-2
invariant_of-self-2 g c =
    let core = c.self.inside.core in
    let told = g.N.Namespace.told c.self.inside.ns in
    let e = entry_of c.args.worker c.args.step false in
    world_noted told told core.opening c.apply.new.self.opening core.entries c.apply.new.self.entries c.args.worker c.args.step refl
    (c.apply.ensures.opening ∙ c.prepare.ensures.opening)
    (c.apply.ensures.entries ∙ ap (λ (es : List JournalEntry). es ++ e ∷ []) c.prepare.ensures.entries)
    c.self.invariant (may_add _ _ c.args.worker c.args.step false c.self.view_is c.requires.allowed c.requires.names c.requires.writes) c.requires.silent
