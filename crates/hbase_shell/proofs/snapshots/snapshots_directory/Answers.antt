use Rattle.std.proofs.Common.{◌∷◌, [], codes, refl}
use Rattle.hb_grammar.specs.Class.{has}
use Rattle.hb_names.proofs.PlaceLemmas.{IsPlace-is_path}
use Rattle.hbase_shell.proofs.snapshots.snapshots_directory.Goals as goal

pub unreachable-requires : goal.unreachable-requires
unfolding has
unreachable-requires c =
    let refused = (rw c.in-Err-Bad.field-0-is at c.in-Err-Bad.ensures.refused) in
    refused.not_spelled (IsPlace-is_path (codes ".hbase-snapshot" ∷ []) refl)
