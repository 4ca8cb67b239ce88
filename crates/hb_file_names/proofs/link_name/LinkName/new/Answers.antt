use Rattle.std.proofs.Common.{sym, subst}
use Rattle.hb_names.specs.Encoded.{IsEncoded}
use Rattle.hb_names.specs.TableName.{IsTableName}
use Rattle.hb_file_names.specs.FileName.{IsFileName}
use Rattle.hb_file_names.specs.LinkName.{IsLinkName}
use Rattle.hb_file_names.proofs.TextLemmas.{IsLinkName-link_text}
use Rattle.hb_file_names.proofs.link_name.LinkName.new.Goals as goal

pub invariant_of-result : goal.invariant_of-result
invariant_of-result c =
    let table = subst IsTableName (sym c.as_slice.ensures.bytes) c.as_slice.ensures.valid in
    let region = subst IsEncoded (sym c.as_slice-2.ensures.bytes) c.as_slice-2.ensures.valid in
    let file = subst IsFileName (sym c.as_slice-3.ensures.bytes) c.as_slice-3.ensures.valid in
    subst IsLinkName (sym c.in_ok-text.ensures) (IsLinkName-link_text _ _ _ table region file)
