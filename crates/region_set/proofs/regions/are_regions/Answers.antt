use Rattle.std.proofs.Common.{◌≡◌, None, take, get_or, option_copied, sym, subst, ◌∙◌}
use Rattle.hb_grammar.specs.Rows.{last_of}
use Rattle.hb_grammar.proofs.TestLemmas.{refused}
use Rattle.region_set.specs.RegionLine.{IsRegionBehind}
use Rattle.region_set.proofs.RowReadLemmas.{last_of-slice_get, RowsFrom-take_more, RowsFrom-at}
use Rattle.region_set.proofs.regions.are_regions.Goals as goal

pub returns-then-not-is_region_behind : goal.returns-then-not-is_region_behind
returns-then-not-is_region_behind c = (
  λ e. absurd cc,
  λ each.
      let table = c.args.table.now in
      let rows = c.args.regions.now in
      let region = c.index-regions-i.result in
      let last : option_copied c.last.result ≡ last_of None (take c.loop-i.i rows) = c.last.ensures.value ∙ last_of-slice_get (take c.loop-i.i rows) in
      let ok = RowsFrom-at (IsRegionBehind table) None rows c.loop-i.i region c.loop-i-test.true each in
      let behind = subst (λ row. IsRegionBehind table row (get_or rows c.loop-i.i region)) (sym last) ok in
      absurd (refused c.is_region_behind.ensures c.if-not-is_region_behind.true (subst (IsRegionBehind table (option_copied c.last.result)) (sym c.index-regions-i.is) behind)),
)

pub loop-i-preserved : goal.loop-i-preserved
loop-i-preserved c =
    let table = c.args.table.now in
    let rows = c.args.regions.now in
    let region = c.index-regions-i.result in
    let last : option_copied c.last.result ≡ last_of None (take c.loop-i.i rows) = c.last.ensures.value ∙ last_of-slice_get (take c.loop-i.i rows) in
    let behind = c.is_region_behind.ensures.0 c.if-not-is_region_behind.false in
    RowsFrom-take_more (IsRegionBehind table) None rows c.loop-i.i region c.loop-i-test.true c.index-regions-i.is c.loop-i.invariant
    (subst (λ row. IsRegionBehind table row region) last behind)
