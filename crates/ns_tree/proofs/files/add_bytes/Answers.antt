use Rattle.std.proofs.Common.{◌≡◌, ◌∙◌, List, ℕ, ap, sym, is_some}
use Rattle.std.specs.FinMap.{from_entries}
use Rattle.ns_tree.specs.declared.file.FileState.{FileState}
use Rattle.ns_tree.specs.Step.{with_bytes_added}
use Rattle.ns_tree.proofs.Entries.{change_from_entries, change_from_none, get_file, same_entries, OnErr-from}
use Rattle.ns_tree.proofs.files.add_bytes.Goals as goal

pub returns-in_err-add-in-Some-clause-err : goal.returns-in_err-add-in-Some-clause-err
returns-in_err-add-in-Some-clause-err c =
    let written : FileState = record { bytes = c.add.new.self; moment = c.in-Some.file.now.moment } in
    let same : written ≡ c.in-Some.file.now = ap (λ (b : List ℕ). (let f : FileState = record { bytes = b; moment = c.in-Some.file.now.moment } in f)) c.in_err-add-in-Some.ensures.err in
    OnErr-from _ _ (ap from_entries (same_entries c.args.files.now.entries (c.get_mut.follows.lender written).entries c.args.text.now c.in-Some.file.now written same (sym c.in-Some.ensures.value) (c.get_mut.follows.holds written).0))

pub returns-in_ok-add-in-Some-clause-set : goal.returns-in_ok-add-in-Some-clause-set
returns-in_ok-add-in-Some-clause-set c =
    let written : FileState = record { bytes = c.add.new.self; moment = c.in-Some.file.now.moment } in
    let changed : written ≡ with_bytes_added c.args.bytes.now c.in-Some.file.now = ap (λ (b : List ℕ). (let f : FileState = record { bytes = b; moment = c.in-Some.file.now.moment } in f)) c.in_ok-add-in-Some.ensures.ok in
    change_from_entries (with_bytes_added c.args.bytes.now) c.args.files.now.entries (c.get_mut.follows.lender written).entries c.args.text.now c.in-Some.file.now written changed (sym c.in-Some.ensures.value) ((c.get_mut.follows.holds written).3 (ap is_some (sym c.in-Some.ensures.value))).0

pub returns-in_ok-add-in-Some-clause-found : goal.returns-in_ok-add-in-Some-clause-found
returns-in_ok-add-in-Some-clause-found c = sym (ap is_some (get_file c.args.files.now.entries c.args.text.now ∙ sym c.in-Some.ensures.value))

pub returns-in-None-clause-set : goal.returns-in-None-clause-set
returns-in-None-clause-set c = ap (λ m. from_entries m.entries) c.get_mut.follows.holds-at-none ∙ change_from_none (with_bytes_added c.args.bytes.now) c.args.files.now.entries c.args.text.now (sym c.in-None.ensures.value)

pub returns-in-None-clause-found : goal.returns-in-None-clause-found
returns-in-None-clause-found c = sym (ap is_some (get_file c.args.files.now.entries c.args.text.now ∙ sym c.in-None.ensures.value))
