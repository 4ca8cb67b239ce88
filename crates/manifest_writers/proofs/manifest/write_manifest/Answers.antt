use Rattle.std.proofs.Common.{◌≡◌, ℕ, List, ◌<◌, ◌^◌, length, subst, ap, arith}
use Rattle.std.proofs.lemmas.Result.{on_ok_weaker}
use Rattle.manifest_writers.proofs.Records.{manifest_written}
use Rattle.manifest_writers.proofs.manifest.write_manifest.Goals as goal

pub returns-clause-record : goal.returns-clause-record
returns-clause-record c =
    let kept = c.record.inside.bytes in
    let same : kept.items ≡ c.in_ok-record.record = c.record.view_is in
    let len = ap length same in
    let fits = kept.ok in
    let small = kept.small in
    let short : length c.in_ok-record.record < 2 ^ 64 = omega arith in
    on_ok_weaker c.add.result (λ _. manifest_written c.args.manifest.now c.requires (subst (λ (b : List ℕ). length b < 2 ^ 64) c.in_ok-record.ensures short)) c.add.ensures.ok
