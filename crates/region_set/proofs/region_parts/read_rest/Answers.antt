use Rattle.std.proofs.Common.{option_copied}
use Rattle.std.proofs.lemmas.Result.{err_from_is_err_and}
use Rattle.commit_line.proofs.ReadLemmas.{IsFrontRefusal-IsPair_first, IsFrontRefusal-IsPair_second}
use Rattle.region_set.specs.RegionParts.{IsSplit, split_field, AreBounds, bounds_text}
use Rattle.commit_line.specs.declared.error.ListError.TheVariants.{BadList}
use Rattle.region_set.proofs.RegionPartsLemmas.{IsTold-IsSplit, IsLive-AreBounds}
use Rattle.region_set.proofs.region_parts.read_rest.Goals as goal

pub returns-in_err-split : goal.returns-in_err-split
returns-in_err-split c =
    let p = err_from_is_err_and c.from_residual.result c.from_residual.ensures.1 in
    let bound = option_copied c.args.bound in
    rw (p.1, p.2) (IsFrontRefusal-IsPair_first IsSplit split_field (λ _. AreBounds bound) bounds_text (λ _ _. IsLive-AreBounds bound c.requires.bounded)
    c.args.bytes.now c.args.at (BadList c.in_err-split.field-0.0.0) c.in_err-split.ensures)

pub returns-in_err-bounds : goal.returns-in_err-bounds
returns-in_err-bounds c =
    let p = err_from_is_err_and c.from_residual-in_err-bounds.result c.from_residual-in_err-bounds.ensures.1 in
    let bound = option_copied c.args.bound in
    rw (p.1, p.2) (IsFrontRefusal-IsPair_second IsSplit split_field (λ _. AreBounds bound) bounds_text IsTold-IsSplit c.args.bytes.now c.args.at
    c.in_ok-split.start_at c.in_ok-split.split c.in_ok-split.ensures c.in_err-bounds.field-0.0 c.in_err-bounds.ensures)
