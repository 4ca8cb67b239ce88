use Rattle.std.proofs.Common.{sym, ◌∙◌, refl}
use Rattle.hfile_form.specs.declared.section.Section.TheVariants as sections
use Rattle.hfile_form.specs.File.{passed}
use Rattle.hfile_read.specs.Views.{block_view}
use Rattle.hfile_read.proofs.Steps.{IsLeft-next, IsLeft-block_wrong, IsLeft-none, some_left, none_left, moved_left}
use Rattle.std.proofs.lemmas.Result.{err_from_is_err_and}
use Rattle.hfile_read.proofs.tail.pass_blocks.Goals as goal

pub returns-in_err-block : goal.returns-in_err-block
returns-in_err-block c =
    let p = err_from_is_err_and c.from_residual.result c.from_residual.ensures.1 in
    rw (p.1, p.2)
    (IsLeft-block_wrong passed sections.Others c.args.from c.args.bytes.now tt c.loop-rest.at c.loop-rest.rest.now tt c.in_err-block.field-0.0 c.loop-rest.invariant (some_left c.loop-rest.rest.now (sym c.is_empty.ensures ∙ c.loop-rest-test.true)) c.in_err-block.ensures.exact)

pub loop-rest-preserved : goal.loop-rest-preserved
loop-rest-preserved c =
    let b = c.in_ok-block.block in
    let some = some_left c.loop-rest.rest.now (sym c.is_empty.ensures ∙ c.loop-rest-test.true) in
    let next = IsLeft-next passed sections.Others c.args.from c.args.bytes.now tt c.loop-rest.at c.loop-rest.rest.now tt tt (block_view b) c.loop-rest.invariant some c.in_ok-block.ensures.exact c.in_ok-block.ensures.within refl in
    moved_left passed sections.Others c.args.from c.args.bytes.now tt c.loop-rest.at c.size-at.result c.size.result c.loop-rest.rest.now c.split_at.result.1.now tt (block_view b) next c.size-at.ensures c.size.ensures c.split_at.ensures.back

pub returns : goal.returns
returns c = IsLeft-none passed sections.Others c.args.from c.args.bytes.now tt c.loop-rest.at c.loop-rest.rest.now tt c.loop-rest.invariant (none_left c.loop-rest.rest.now (sym c.is_empty.ensures ∙ c.loop-rest-test.false))
