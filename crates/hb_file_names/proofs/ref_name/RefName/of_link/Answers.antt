use Rattle.std.proofs.Common.{sym, subst}
use Rattle.hb_names.specs.Encoded.{IsEncoded}
use Rattle.hb_file_names.specs.LinkName.{IsLinkName}
use Rattle.hb_file_names.specs.RefName.{IsRefName}
use Rattle.hb_file_names.proofs.TextLemmas.{IsRefName-link}
use Rattle.hb_file_names.proofs.ref_name.RefName.of_link.Goals as goal

pub invariant_of-result : goal.invariant_of-result
invariant_of-result c =
    let name = subst IsLinkName (sym c.as_slice.ensures.bytes) c.as_slice.ensures.valid in
    let parent = subst IsEncoded (sym c.as_slice-2.ensures.bytes) c.as_slice-2.ensures.valid in
    subst IsRefName (sym c.in_ok-text.ensures) (IsRefName-link _ _ name parent)
