use Rattle.std.proofs.Common.{◌∙◌}
use Rattle.core_places.proofs.Region.{in_first, in_second, least_archive, least_data}
use Rattle.core_places.proofs.below.stands_below.Goals as goal

pub has_below-requires : goal.has_below-requires
has_below-requires c = least_data c.args.region.now c.as_slice.result.now c.in_ok-data.ensures.key (c.as_slice.ensures ∙ c.in_ok-data.ensures.text)

pub returns-then-branch-clause-below : goal.returns-then-branch-clause-below
returns-then-branch-clause-below c =
    in_first _ c.args.region.now c.as_slice.result.now c.in_ok-has_below.field-0 c.if-branch.true (c.as_slice.ensures ∙ c.in_ok-data.ensures.text) c.in_ok-has_below.ensures

pub has_below-requires-2 : goal.has_below-requires-2
has_below-requires-2 c = least_archive c.args.region.now c.as_slice-2.result.now c.in_ok-archive.ensures.key (c.as_slice-2.ensures ∙ c.in_ok-archive.ensures.text)

pub returns-clause-below : goal.returns-clause-below
returns-clause-below c =
    in_second _ c.args.region.now c.as_slice.result.now c.as_slice-2.result.now c.in_ok-has_below.field-0 c.has_below-2.result c.if-branch.false (c.as_slice.ensures ∙ c.in_ok-data.ensures.text)
    (c.as_slice-2.ensures ∙ c.in_ok-archive.ensures.text) c.in_ok-has_below.ensures c.has_below-2.ensures
