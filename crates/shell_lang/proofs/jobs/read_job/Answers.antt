use Rattle.std.proofs.Common.{◌≡◌, ℕ, List, subst}
use Rattle.shell_line.specs.declared.line_kind.LineKind.{LineKind}
use Rattle.shell_line.specs.Line.{IsArguments, arguments}
use Rattle.shell_lang.proofs.jobs.read_job.Goals as goal

-- the bytes are the arguments of a line of the kind
of_kind : (bytes : List ℕ) (kind : LineKind) → IsArguments (arguments kind) bytes → (is : LineKind) → kind ≡ is → IsArguments (arguments is) bytes
of_kind bytes kind spelled is e = subst (λ (k : LineKind). IsArguments (arguments k) bytes) e spelled

pub create-requires : goal.create-requires
create-requires c = of_kind c.args.bytes.now c.args.kind c.requires _ c.in-Create.is

pub put-requires : goal.put-requires
put-requires c = of_kind c.args.bytes.now c.args.kind c.requires _ c.in-Put.is

pub delete-requires : goal.delete-requires
delete-requires c = of_kind c.args.bytes.now c.args.kind c.requires _ c.in-Delete.is

pub table_alone-requires : goal.table_alone-requires
table_alone-requires c = of_kind c.args.bytes.now c.args.kind c.requires _ c.in-Scan.is

pub table_alone-requires-in-Flush : goal.table_alone-requires-in-Flush
table_alone-requires-in-Flush c = of_kind c.args.bytes.now c.args.kind c.requires _ c.in-Flush.is

pub table_alone-requires-in-Compact : goal.table_alone-requires-in-Compact
table_alone-requires-in-Compact c = of_kind c.args.bytes.now c.args.kind c.requires _ c.in-Compact.is

pub table_alone-requires-in-MajorCompact : goal.table_alone-requires-in-MajorCompact
table_alone-requires-in-MajorCompact c = of_kind c.args.bytes.now c.args.kind c.requires _ c.in-MajorCompact.is

pub table_alone-requires-in-Disable : goal.table_alone-requires-in-Disable
table_alone-requires-in-Disable c = of_kind c.args.bytes.now c.args.kind c.requires _ c.in-Disable.is

pub table_alone-requires-in-Enable : goal.table_alone-requires-in-Enable
table_alone-requires-in-Enable c = of_kind c.args.bytes.now c.args.kind c.requires _ c.in-Enable.is

pub table_alone-requires-in-Drop : goal.table_alone-requires-in-Drop
table_alone-requires-in-Drop c = of_kind c.args.bytes.now c.args.kind c.requires _ c.in-Drop.is

pub split-requires : goal.split-requires
split-requires c = of_kind c.args.bytes.now c.args.kind c.requires _ c.in-Split.is

pub snapshot-requires : goal.snapshot-requires
snapshot-requires c = of_kind c.args.bytes.now c.args.kind c.requires _ c.in-Snapshot.is

pub snapshot_alone-requires : goal.snapshot_alone-requires
snapshot_alone-requires c = of_kind c.args.bytes.now c.args.kind c.requires _ c.in-DeleteSnapshot.is

pub clone_of-requires : goal.clone_of-requires
clone_of-requires c = of_kind c.args.bytes.now c.args.kind c.requires _ c.in-CloneSnapshot.is

pub snapshot_alone-requires-in-RestoreSnapshot : goal.snapshot_alone-requires-in-RestoreSnapshot
snapshot_alone-requires-in-RestoreSnapshot c = of_kind c.args.bytes.now c.args.kind c.requires _ c.in-RestoreSnapshot.is

pub bulk-requires : goal.bulk-requires
bulk-requires c = of_kind c.args.bytes.now c.args.kind c.requires _ c.in-Bulkload.is
