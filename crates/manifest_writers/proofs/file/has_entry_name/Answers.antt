use Rattle.std.proofs.Common.{ℕ, List, Bool, subst, sym}
use Rattle.std.specs.Prelude.{◌↔◌, IsTrue, is_some}
use Rattle.snapshot_records.specs.Files.{IsEntryName}
use Rattle.manifest_writers.proofs.file.has_entry_name.Goals as goal

pub returns : goal.returns
returns c =
    let tells : List ℕ → Bool → Type 0 = λ name half. IsTrue c.is_entry_name.result ↔ IsEntryName name (name, half) in
    subst (λ (name : List ℕ). tells name (is_some c.args.entry.now.2)) c.as_slice.ensures (subst (tells c.as_slice.result.now) c.is_some.ensures c.is_entry_name.ensures)
