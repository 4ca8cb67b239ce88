use Rattle.std.proofs.Common.{◌≡◌, ◌-◌, length, None, IfSome, option_copied, slice_get, sym, subst, ap, ◌∙◌}
use Rattle.std.proofs.lemmas.Result.{err_from_is_err_and}
use Rattle.hb_grammar.specs.TextOf.{IsTextOf}
use Rattle.hb_grammar.specs.Rows.{last_of}
use Rattle.commit_line.specs.ListError.{IsFrontRefusal, IsValueAt}
use Rattle.commit_line.specs.Rows.{IsRowRefused}
use Rattle.commit_line.proofs.RowLemmas.{AreRows-push}
use Rattle.region_set.specs.RegionLine.{IsRegion, IsRegionBehind, region_text, begins_region}
use Rattle.region_set.proofs.RegionsLemmas.{IsRegion-last_of, IsBegun-drop}
use Rattle.region_set.proofs.RowReadLemmas.{last_of-slice_get}
use Rattle.region_set.proofs.regions.read_regions.Goals as goal

pub read_region-requires-clause-last : goal.read_region-requires-clause-last
read_region-requires-clause-last c =
    let rows = c.loop-place.regions.items in
    let last : option_copied c.last-last.result ≡ last_of None rows =
    c.last-last.ensures.value ∙ ap (λ xs. slice_get xs (length xs - 1)) c.as_slice.ensures.value ∙ last_of-slice_get rows in
    subst (λ row. IfSome row (IsRegion c.args.table.now)) (sym last) (IsRegion-last_of c.args.table.now None rows tt c.loop-place.invariant.each)

pub returns-in_err-region : goal.returns-in_err-region
returns-in_err-region c =
    let p = err_from_is_err_and c.from_residual.result c.from_residual.ensures.1 in
    let bytes = c.args.bytes.now in
    let rows = c.loop-place.regions.items in
    let last : option_copied c.last-last.result ≡ last_of None rows =
    c.last-last.ensures.value ∙ ap (λ xs. slice_get xs (length xs - 1)) c.as_slice.ensures.value ∙ last_of-slice_get rows in
    let refused = subst (λ row. IsFrontRefusal (IsTextOf (IsRegionBehind c.args.table.now row) region_text) bytes c.loop-place.place c.in_err-region.field-0.0) last
    c.in_err-region.ensures in
    let row : IsRowRefused (IsRegionBehind c.args.table.now) region_text begins_region bytes c.args.at c.in_err-region.field-0.0 = record {
      rows = rows;
      mid = c.loop-place.place;
      before = c.loop-place.invariant;
      begun = IsBegun-drop begins_region bytes c.loop-place.place c.loop-place-test.true (ap begins_region c.if-bytes-place-eq114.true);
      refused = refused;
    } in
    rw (p.1, p.2) row

pub loop-place-preserved : goal.loop-place-preserved
loop-place-preserved c =
    let bytes = c.args.bytes.now in
    let rows = c.loop-place.regions.items in
    let last : option_copied c.last-last.result ≡ last_of None rows =
    c.last-last.ensures.value ∙ ap (λ xs. slice_get xs (length xs - 1)) c.as_slice.ensures.value ∙ last_of-slice_get rows in
    let found = subst (λ row. IsValueAt (IsRegionBehind c.args.table.now row) region_text bytes c.loop-place.place c.in_ok-region.region c.in_ok-region.end) last
    c.in_ok-region.ensures in
    rw c.in_ok-push.ensures.items (AreRows-push (IsRegionBehind c.args.table.now) region_text bytes c.args.at c.loop-place.place c.in_ok-region.end rows
    c.in_ok-region.region c.loop-place.invariant found)
