use Rattle.std.proofs.Common.{◌≡◌, ◌-◌, List, [], ◌∷◌, ◌++◌, length, sym, subst, ap, ◌∙◌, Some, arith}
use Rattle.std.proofs.lemmas.List.{length-drop}
use Rattle.hfile_index.specs.declared.entry.IndexEntry.{IndexEntry}
use Rattle.hfile_index.specs.Entries.{node_entry_at, node_entries_at}
use Rattle.hfile_index.proofs.Nodes.{behind_front, node-push}
use Rattle.hfile_index.proofs.node.entries_at.Goals as goal

pub loop-left-preserved : goal.loop-left-preserved
loop-left-preserved c =
    let e : IndexEntry = record { offset = c.in-Some.entry.offset; size = c.in-Some.entry.size; key = c.in_ok-copy_of.field-0 } in
    let pushed : c.push.new.self.items ≡ c.loop-left.entries.items ++ e ∷ [] = c.in_ok-push.ensures.items in
    let all = node_entries_at c.args.count c.args.table.now c.args.bytes.now in
    let ends = c.split_at.result.1.now in
    let read : Some (e, c.in-Some.behind.now) ≡ node_entry_at c.loop-left.places.now c.loop-left.rest.now =
    ap (λ k. Some (record { offset = c.in-Some.entry.offset; size = c.in-Some.entry.size; key = k }, c.in-Some.behind.now)) c.in_ok-copy_of.ensures ∙ c.in-Some.ensures in
    record {
      told = subst (λ (items : List IndexEntry). behind_front items (node_entries_at (c.loop-left.left - 1) ends c.in-Some.behind.now) ≡ all) (sym pushed)
          (node-push c.loop-left.left c.loop-left.places.now ends c.loop-left.rest.now c.loop-left.entries.items e c.in-Some.behind.now all c.loop-left-test.true read c.split_at.ensures.back c.loop-left.invariant.told);
      room = omega (arith, c.loop-left.invariant.room, ap length c.split_at.ensures.back, length-drop 4 c.loop-left.places.now);
    }
