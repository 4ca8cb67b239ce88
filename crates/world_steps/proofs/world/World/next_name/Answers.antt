use Rattle.std.proofs.Common.{◌≡◌, List, None, IfOk, sym, ap, subst, ◌∙◌, arith}
use Rattle.core_model.specs.declared.journal.JournalEntry.{JournalEntry}
use Rattle.core_model.specs.declared.opening.Opening.{Opening}
use Rattle.core_model.specs.FileGuards.{next_name}
use Rattle.core_model.specs.Replay.{replay}
use Rattle.world_steps.specs.World.{state_at}
use Rattle.world_steps.proofs.Facts.{epoch_is, few_drawn}
use Rattle.world_steps.proofs.world.World.next_name.Goals as goal

pub overflow_add-parts : goal.overflow_add-parts
overflow_add-parts g c =
    let now = c.args.self.now in
    let few = few_drawn now.opening now.entries c.holds.ensures.lawful.allowed in
    let same = c.counts.ensures.files ∙ ap (λ (o : Opening). (replay o c.core-2.result.now.entries).now.files) c.core-2.ensures.opening ∙ ap (λ (es : List JournalEntry). (replay now.opening es).now.files) c.core-2.ensures.entries in
    omega (arith, few, same)

pub returns : goal.returns
returns g c =
    let now = c.args.self.now in
    let files = c.counts.ensures.files ∙ ap (λ (o : Opening). (replay o c.core-2.result.now.entries).now.files) c.core-2.ensures.opening ∙ ap (λ (es : List JournalEntry). (replay now.opening es).now.files) c.core-2.ensures.entries in
    let epoch = ap (λ (o : Opening). o.epoch) (c.opening.ensures ∙ c.core.ensures.opening) ∙ sym (epoch_is now.opening now.entries) in
    subst (λ text. IfOk c.new.result (λ name. name ≡ text)) (ap (λ n. next_name c.opening.result.now.epoch n None) files ∙ ap (λ n. next_name n (state_at now).now.files None) epoch) c.new.ensures
