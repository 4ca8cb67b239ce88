use Rattle.std.proofs.Common.{◌∙◌, ap, sym, is_some, refl}
use Rattle.std.specs.FinMap.{from_entries}
use Rattle.ns_tree.specs.declared.file.FileState.{FileState}
use Rattle.ns_tree.specs.Step.{with_moment}
use Rattle.ns_tree.proofs.Entries.{change_from_entries, change_from_none, get_file}
use Rattle.ns_tree.proofs.files.set_moment.Goals as goal

pub returns-in-Some-clause-set : goal.returns-in-Some-clause-set
returns-in-Some-clause-set c =
    let written : FileState = record { bytes = c.in-Some.file.now.bytes; moment = c.args.moment } in
    change_from_entries (with_moment c.args.moment) c.args.files.now.entries (c.get_mut.follows.lender written).entries c.args.text.now c.in-Some.file.now written refl (sym c.in-Some.ensures.value) ((c.get_mut.follows.holds written).3 (ap is_some (sym c.in-Some.ensures.value))).0

pub returns-in-Some-clause-found : goal.returns-in-Some-clause-found
returns-in-Some-clause-found c = sym (ap is_some (get_file c.args.files.now.entries c.args.text.now ∙ sym c.in-Some.ensures.value))

pub returns-in-None-clause-set : goal.returns-in-None-clause-set
returns-in-None-clause-set c = ap (λ m. from_entries m.entries) c.get_mut.follows.holds-at-none ∙ change_from_none (with_moment c.args.moment) c.args.files.now.entries c.args.text.now (sym c.in-None.ensures.value)

pub returns-in-None-clause-found : goal.returns-in-None-clause-found
returns-in-None-clause-found c = sym (ap is_some (get_file c.args.files.now.entries c.args.text.now ∙ sym c.in-None.ensures.value))
