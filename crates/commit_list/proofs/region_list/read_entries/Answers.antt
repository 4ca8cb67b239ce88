use Rattle.std.proofs.Common.{drop}
use Rattle.std.proofs.lemmas.Result.{err_from_is_err_and}
use Rattle.hb_grammar.specs.Rows.{IsBegun}
use Rattle.commit_line.proofs.RowLemmas.{AreRows-push}
use Rattle.commit_list.specs.ListEntry.{entry_text}
use Rattle.commit_list.proofs.EntriesLemmas.{begins_entry, IsEntryAfter, IsBegun-at, not_begun-at, not_begun-end_of, entries-AreRows, IsRefusalAt-entry, IsRefusalAt-last_line}
use Rattle.commit_list.proofs.region_list.read_entries.Goals.{then-loop-place-test+else-bytes-place-ne101, else-loop-place-test}
use Rattle.commit_list.proofs.region_list.read_entries.Goals as goal

pub returns-in_err-entry-clause-fault : goal.returns-in_err-entry-clause-fault
returns-in_err-entry-clause-fault c =
    let p = err_from_is_err_and c.from_residual.result c.from_residual.ensures.1 in
    let begun = IsBegun-at c.args.bytes.now c.loop-place.place c.loop-place-test.true c.if-bytes-place-ne101.true in
    rw (p.1, p.2) (IsRefusalAt-entry c.args.bytes.now c.args.at c.loop-place.place c.loop-place.entries.items c.loop-place.invariant begun
    c.in_err-entry.field-0.0 c.in_err-entry.ensures)

pub loop-place-preserved : goal.loop-place-preserved
loop-place-preserved c =
    rw c.in_ok-push.ensures.items (AreRows-push IsEntryAfter entry_text c.args.bytes.now c.args.at c.loop-place.place c.in_ok-entry.end c.loop-place.entries.items
    c.in_ok-entry.entry c.loop-place.invariant c.in_ok-entry.ensures)

pub returns-in-Ok-clause-found : goal.returns-in-Ok-clause-found
returns-in-Ok-clause-found c =
    rw c.from_vec.ensures (entries-AreRows c.args.bytes.now c.args.at c.loop-place.place c.loop-place.entries.items c.loop-place.invariant c.in-Ok.ensures.found)

pub returns-in-Err-clause-fault : goal.returns-in-Err-clause-fault
returns-in-Err-clause-fault c =
    let other : IsBegun begins_entry (drop c.loop-place.place c.args.bytes.now) → ⊥ = elim c.loop-place-test.branch [
      | then-loop-place-test+else-bytes-place-ne101 w ↦ not_begun-at c.args.bytes.now c.loop-place.place w.loop-place-test.true w.if-bytes-place-ne101.false
      | else-loop-place-test w ↦ not_begun-end_of c.args.bytes.now c.loop-place.place w.loop-place-test.false
    ] in
    IsRefusalAt-last_line c.args.bytes.now c.args.at c.loop-place.place c.loop-place.entries.items c.loop-place.invariant other c.in-Err.fault.0 c.in-Err.ensures.fault
