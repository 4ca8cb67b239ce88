use Rattle.std.proofs.Common.{◌∙◌, refl, sym, subst, arith}
use Rattle.world_state.specs.Parts.{IsAfter}
use Rattle.world_state.specs.Rooms.{HasPlaces}
use Rattle.world_state.proofs.Applied.{allowed_here, applied, has_room}
use Rattle.world_state.proofs.Rooms.{change_fits, ready, ready_change}
use Rattle.world_state.proofs.kept.Core.apply.Goals as goal

pub of_entry-change-requires : goal.of_entry-change-requires
of_entry-change-requires c none =
    let a = c.self.inside in
    let p = c.args.entry.step in
    c.replace-ready.ensures.value ∙ ready_change a p (ready a _ p c.self.view_is c.requires.prepared c.self.invariant.room.prepared) none

pub overflow_cast-number : goal.overflow_cast-number
overflow_cast-number c = let few = c.self.invariant.room.few in omega (arith, few, c.len-number.ensures)

pub enter-requires : goal.enter-requires
enter-requires c =
    let a = c.self.inside in
    let p = c.args.entry.step in
    subst (HasPlaces a.state) (sym c.of_entry-change.ensures) (change_fits a c.args.entry.failed p (ready a _ p c.self.view_is c.requires.prepared c.self.invariant.room.prepared))

pub push_reserved-requires : goal.push_reserved-requires
push_reserved-requires c =
    let a = c.self.inside in
    let e = c.args.entry in
    has_room a e (ready a _ e.step c.self.view_is c.requires.prepared c.self.invariant.room.prepared) (allowed_here a _ e c.self.view_is c.requires.allowed) c.self.invariant

pub invariant_of-self : goal.invariant_of-self
invariant_of-self c =
    let a = c.self.inside in
    let e = c.args.entry in
    applied a _ e c.len-number.result c.requires.served
    (ready a _ e.step c.self.view_is c.requires.prepared c.self.invariant.room.prepared)
    (allowed_here a _ e c.self.view_is c.requires.allowed) c.self.invariant
    refl c.push_reserved.ensures.items c.push_reserved.ensures.len c.push_reserved.ensures.capacity c.no_step.ensures
    (c.len-number.ensures ∙ a.entries.ok.0)
    (subst (λ x. IsAfter x c.len-number.result e.failed a.state c.enter.new.self) c.of_entry-change.ensures c.enter.ensures)
