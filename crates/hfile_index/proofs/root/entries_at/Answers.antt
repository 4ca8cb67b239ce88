use Rattle.std.proofs.Common.{◌≡◌, ◌-◌, List, [], ◌∷◌, ◌++◌, sym, subst, ap, ◌∙◌, Some}
use Rattle.hfile_index.specs.declared.entry.IndexEntry.{IndexEntry}
use Rattle.hfile_index.specs.Entries.{root_entry_at, root_entries_at}
use Rattle.hfile_index.proofs.Nodes.{with_front, root-push}
use Rattle.hfile_index.proofs.root.entries_at.Goals as goal

pub loop-left-preserved : goal.loop-left-preserved
loop-left-preserved c =
    let e : IndexEntry = record { offset = c.in-Some.entry.offset; size = c.in-Some.entry.size; key = c.in_ok-copy_of.field-0 } in
    let pushed : c.push.new.self.items ≡ c.loop-left.entries.items ++ e ∷ [] = c.in_ok-push.ensures.items in
    let read : Some (e, c.in-Some.behind.now) ≡ root_entry_at c.loop-left.rest.now =
    ap (λ k. Some (record { offset = c.in-Some.entry.offset; size = c.in-Some.entry.size; key = k }, c.in-Some.behind.now)) c.in_ok-copy_of.ensures ∙ c.in-Some.ensures in
    subst (λ (items : List IndexEntry). with_front items (root_entries_at (c.loop-left.left - 1) c.in-Some.behind.now) ≡ root_entries_at c.args.count c.args.content.now) (sym pushed)
    (root-push c.loop-left.left c.loop-left.rest.now c.loop-left.entries.items e c.in-Some.behind.now (root_entries_at c.args.count c.args.content.now) c.loop-left-test.true read c.loop-left.invariant)
