use Rattle.std.proofs.Common.{◌∙◌, sym}
use Rattle.plain_tables.proofs.Repeats.{repeats_here, repeats_behind}
use Rattle.plain_tables.proofs.new_tables.repeated.Goals as goal

pub returns-then-contains : goal.returns-then-contains
returns-then-contains c = repeats_here c.args.families.now c.loop-i.i c.index-families-i.result c.loop-i-test.true c.index-families-i.is c.loop-i.invariant (sym c.contains.ensures.value ∙ c.if-contains.true)

pub loop-i-preserved : goal.loop-i-preserved
loop-i-preserved c = repeats_behind c.args.families.now c.loop-i.i c.index-families-i.result c.loop-i-test.true c.index-families-i.is c.loop-i.invariant (sym c.contains.ensures.value ∙ c.if-contains.false)
