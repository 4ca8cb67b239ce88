use Rattle.std.proofs.lemmas.Result.{err_from_is_err_and}
use Rattle.hb_grammar.proofs.TestLemmas.{refused}
use Rattle.commit_line.proofs.RefusalLemmas.{IsRefusalAt-Same}
use Rattle.commit_line.specs.declared.error.ListError.TheVariants.{BadList}
use Rattle.region_set.proofs.BodyLemmas.{Same-IsBody_dropped, IsRefusalAt-families, IsRefusalAt-behind_families, IsRefusalAt-regions, IsRefusalAt-behind_regions}
use Rattle.region_set.proofs.region_set.read_body.Goals as goal

pub returns-in_err-read_end : goal.returns-in_err-read_end
returns-in_err-read_end c =
    let p = err_from_is_err_and c.from_residual.result c.from_residual.ensures.1 in
    let same = c.is_dropped.ensures.0 c.if-is_dropped.true in
    rw (p.1, p.2, same) (IsRefusalAt-Same _ _ (Same-IsBody_dropped c.args.table.now) c.args.bytes.now c.args.at (BadList c.in_err-read_end.field-0.0.0) c.in_err-read_end.ensures)

pub returns-in_err-families : goal.returns-in_err-families
returns-in_err-families c =
    let p = err_from_is_err_and c.from_residual-in_err-families.result c.from_residual-in_err-families.ensures.1 in
    let other = refused c.is_dropped.ensures c.if-is_dropped.false in
    rw (p.1, p.2) (IsRefusalAt-families c.args.table.now c.args.state other c.args.bytes.now c.args.at c.in_err-families.field-0.0 c.in_err-families.ensures)

pub returns-in_err-regions : goal.returns-in_err-regions
returns-in_err-regions c =
    let p = err_from_is_err_and c.from_residual-in_err-regions.result c.from_residual-in_err-regions.ensures.1 in
    let other = refused c.is_dropped.ensures c.if-is_dropped.false in
    let families = c.in_ok-families.ensures in
    rw (p.1, p.2) (IsRefusalAt-behind_families c.args.table.now c.args.state other c.args.bytes.now c.args.at _ _ families.0 families.1 c.in_err-regions.field-0.0
    (IsRefusalAt-regions c.args.table.now c.args.bytes.now _ c.in_err-regions.field-0.0 c.in_err-regions.ensures))

pub returns-in_err-read_end-2 : goal.returns-in_err-read_end-2
returns-in_err-read_end-2 c =
    let p = err_from_is_err_and c.from_residual-in_err-read_end-2.result c.from_residual-in_err-read_end-2.ensures.1 in
    let other = refused c.is_dropped.ensures c.if-is_dropped.false in
    let families = c.in_ok-families.ensures in
    let regions = c.in_ok-regions.ensures in
    rw (p.1, p.2) (IsRefusalAt-behind_families c.args.table.now c.args.state other c.args.bytes.now c.args.at _ _ families.0 families.1 (BadList c.in_err-read_end-2.field-0.0.0)
    (IsRefusalAt-behind_regions c.args.table.now c.args.bytes.now _ _ _ regions.0 regions.1 (BadList c.in_err-read_end-2.field-0.0.0) c.in_err-read_end-2.ensures))
