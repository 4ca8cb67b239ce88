use Rattle.std.proofs.Common.{option_copied}
use Rattle.std.proofs.lemmas.Result.{err_from_is_err_and}
use Rattle.commit_line.proofs.ReadLemmas.{IsFrontRefusal-IsPair_first, IsFrontRefusal-IsPair_second}
use Rattle.region_set.specs.RegionParts.{IsStart, start_field, IsEnd, end_line}
use Rattle.region_set.proofs.RegionPartsLemmas.{IsTold-IsStart, IsLive-IsEnd}
use Rattle.region_set.proofs.region_parts.read_bounds.Goals as goal

pub returns-in_err-start : goal.returns-in_err-start
returns-in_err-start c =
    let p = err_from_is_err_and c.from_residual.result c.from_residual.ensures.1 in
    let bound = option_copied c.args.bound in
    rw (p.1, p.2) (IsFrontRefusal-IsPair_first (IsStart bound) start_field (λ _. IsEnd) end_line (λ _ _. IsLive-IsEnd) c.args.bytes.now c.args.at
    c.in_err-start.field-0.0 c.in_err-start.ensures)

pub returns-in_err-end : goal.returns-in_err-end
returns-in_err-end c =
    let p = err_from_is_err_and c.from_residual-in_err-end.result c.from_residual-in_err-end.ensures.1 in
    let bound = option_copied c.args.bound in
    rw (p.1, p.2) (IsFrontRefusal-IsPair_second (IsStart bound) start_field (λ _. IsEnd) end_line (IsTold-IsStart bound) c.args.bytes.now c.args.at
    c.in_ok-start.end_at c.in_ok-start.start c.in_ok-start.ensures c.in_err-end.field-0.0 c.in_err-end.ensures)
