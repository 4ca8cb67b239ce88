use Rattle.std.proofs.Common.{◌++◌, ◌∷◌, [], List, true, false, ap, subst, ◌∙◌}
use Rattle.core_model.specs.declared.journal.JournalEntry.{JournalEntry}
use Rattle.core_model.specs.Ops.{op_of}
use Rattle.core_sites.specs.Calls.{call_of}
use Rattle.world_steps.specs.World.{entry_of}
use Rattle.world_steps.specs.Writing.{IsMade, IsUnmade}
use Rattle.world_steps.proofs.Facts.{allowed_in, may_add, open_in}
use Rattle.world_steps.proofs.Kept.{world_done, world_failed}
use Rattle.world_steps.proofs.Refused.{is_fault, unmade_same, untold}
use Rattle.world_steps.proofs.Served.{call_made}
use Rattle.world_steps.proofs.Stopped.{wrong_in}
use Rattle.world_steps.proofs.world.World.write.Goals as goal

pub apply-requires-clause-allowed : goal.apply-requires-clause-allowed
apply-requires-clause-allowed g c = allowed_in _ _ c.ready.new.core.opening c.ready.new.core.entries (entry_of c.args.worker c.args.step false) c.self.view_is c.ready.ensures.opening c.ready.ensures.entries (c.requires.allowed false)

pub apply-requires-in-Failed-clause-allowed : goal.apply-requires-in-Failed-clause-allowed
apply-requires-in-Failed-clause-allowed g c = allowed_in _ _ c.ready.new.core.opening c.ready.new.core.entries (entry_of c.args.worker c.args.step true) c.self.view_is c.ready.ensures.opening c.ready.ensures.entries (c.requires.allowed true)

pub invariant_of-self-in-Ok-make : goal.invariant_of-self-in-Ok-make
invariant_of-self-in-Ok-make g c =
    let core = c.self.inside.core in
    let old = g.N.Namespace.told c.self.inside.ns in
    let new = g.N.Namespace.told c.make.new.ns in
    let e = entry_of c.args.worker c.args.step false in
    let call = call_made c.args.step c.in-Ok.change c.args.bytes.now c.requires.served c.requires.bytes c.in-Ok.ensures.gone c.in-Ok.ensures.made in
    world_done old new core.opening c.apply.new.self.opening core.entries c.apply.new.self.entries c.args.worker c.args.step
    (c.apply.ensures.opening ∙ c.ready.ensures.opening)
    (c.apply.ensures.entries ∙ ap (λ (es : List JournalEntry). es ++ e ∷ []) c.ready.ensures.entries)
    (open_in _ _ c.self.view_is c.requires.takes.free) c.self.invariant
    (may_add _ _ c.args.worker c.args.step false c.self.view_is (c.requires.allowed false) c.requires.names c.requires.writes)
    (subst (λ x. IsMade x old new) call c.in-Ok-make.ensures.done)

pub invariant_of-self-in-Failed-1 : goal.invariant_of-self-in-Failed-1
invariant_of-self-in-Failed-1 g c =
    let core = c.self.inside.core in
    let old = g.N.Namespace.told c.self.inside.ns in
    let new = g.N.Namespace.told c.make.new.ns in
    let e = entry_of c.args.worker c.args.step true in
    let call = call_made c.args.step c.in-Ok.change c.args.bytes.now c.requires.served c.requires.bytes c.in-Ok.ensures.gone c.in-Ok.ensures.made in
    world_failed old new core.opening c.apply-in-Failed.new.self.opening core.entries c.apply-in-Failed.new.self.entries c.args.worker c.args.step
    (c.apply-in-Failed.ensures.opening ∙ c.ready.ensures.opening)
    (c.apply-in-Failed.ensures.entries ∙ ap (λ (es : List JournalEntry). es ++ e ∷ []) c.ready.ensures.entries)
    (open_in _ _ c.self.view_is c.requires.takes.free) c.self.invariant
    (may_add _ _ c.args.worker c.args.step true c.self.view_is (c.requires.allowed true) c.requires.names c.requires.writes)
    (subst (λ x. IsUnmade (call_of (op_of c.args.step)) x old new) (is_fault c.in-Err-make.error c.in-Failed.ensures) (subst (λ x. IsUnmade x c.in-Err-make.error old new) call c.in-Err-make.ensures.unmade))

pub returns-in-Wrong-clause-err : goal.returns-in-Wrong-clause-err
returns-in-Wrong-clause-err g c =
    let core = c.self.inside.core in
    let old = g.N.Namespace.told c.self.inside.ns in
    let new = g.N.Namespace.told c.make.new.ns in
    let call = call_made c.args.step c.in-Ok.change c.args.bytes.now c.requires.served c.requires.bytes c.in-Ok.ensures.gone c.in-Ok.ensures.made in
    let unmade = subst (λ x. IsUnmade x c.in-Err-make.error old new) call c.in-Err-make.ensures.unmade in
    let none = untold old new core.opening core.entries c.args.worker c.args.step false c.in-Err-make.error c.in-Wrong.ensures c.self.invariant (open_in _ _ c.self.view_is c.requires.takes.free)
    (may_add _ _ c.args.worker c.args.step false c.self.view_is (c.requires.allowed false) c.requires.names c.requires.writes) unmade in
    let same = unmade_same (call_of (op_of c.args.step)) c.in-Err-make.error old new c.in-Wrong.ensures unmade in
    wrong_in g.N.Namespace.told g.N.Namespace.faults (record { ns = c.self.inside.ns; clock = c.self.inside.clock; opening = core.opening; entries = core.entries }) c.args.self.now
    (record { ns = c.make.new.ns; clock = c.self.inside.clock; opening = c.ready.new.core.opening; entries = c.ready.new.core.entries }) c.args.worker c.args.step c.in-Ok.change c.damage.result c.self.view_is c.ready.ensures.opening c.ready.ensures.entries same none c.requires.takes c.damage.ensures c.in-Ok.ensures.gone c.in-Ok.ensures.made
