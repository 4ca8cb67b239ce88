use Rattle.std.proofs.Common.{OnOk, Ok, Err}
use Rattle.hfile_meta.specs.Info.{IsInfo}
use Rattle.hfile_meta.specs.Written.{written_info}
use Rattle.hfile_meta.proofs.WrittenInfos.{info_written}
use Rattle.hfile_meta.proofs.written_info.write_info.Goals as goal

pub returns-clause-info : goal.returns-clause-info
returns-clause-info c = elim c.add.result as (λ r. OnOk r (IsInfo (written_info c.args.info.now.pairs) c.args.info.now.pairs)) [ Ok x ↦ info_written c.args.info.now.pairs c.in_ok-content.ensures.small | Err e ↦ tt ]
