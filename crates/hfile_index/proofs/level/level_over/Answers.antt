use Rattle.std.proofs.Common.{◌≡◌, ◌-◌, ◌++◌, ◌∷◌, [], List, ℕ, length, map, sym, subst, ap, ◌∙◌, append-nil, arith}
use Rattle.std.specs.Simd.{first_chunks}
use Rattle.hfile_index.specs.declared.entry.IndexEntry.{IndexEntry}
use Rattle.hfile_index.specs.Short.{HaveShortKeys}
use Rattle.hfile_index.specs.Written.{node_bytes, node_count, nodes_of, node_size, first_key, named, end_of}
use Rattle.hfile_index.proofs.Building.{short-take, short-drop, short-named, chunk-push, named-push, end-push}
use Rattle.hfile_index.proofs.level.level_over.Goals as goal

pub loop-left-init : goal.loop-left-init
loop-left-init c = record {
  nodes = ap (λ (done : List (List ℕ)). done ++ map node_bytes (first_chunks 128 c.node_count-left.result c.args.entries.now)) c.new.ensures.items ∙ ap (λ (n : ℕ). map node_bytes (first_chunks 128 n c.args.entries.now)) c.node_count-left.ensures;
  names = ap (λ (done : List IndexEntry). done ++ named c.args.at (first_chunks 128 c.node_count-left.result c.args.entries.now)) c.new-2.ensures.items ∙ ap (λ (n : ℕ). named c.args.at (first_chunks 128 n c.args.entries.now)) c.node_count-left.ensures;
  end = ap (λ (n : ℕ). end_of c.args.at (first_chunks 128 n c.args.entries.now)) c.node_count-left.ensures;
  short = c.requires;
}

pub add-requires-clause-short : goal.add-requires-clause-short
add-requires-clause-short c = subst HaveShortKeys (sym c.split_node.ensures.node) (short-take 128 c.loop-left.rest.now c.loop-left.invariant.short)

pub loop-left-preserved : goal.loop-left-preserved
loop-left-preserved c =
    let node = c.split_node.result.0.now in
    let others = c.split_node.result.1.now in
    let es = c.args.entries.now in
    let left = c.loop-left.left in
    let rest = c.loop-left.rest.now in
    let at = c.loop-left.level.end in
    record {
      nodes = ap (λ (done : List (List ℕ)). done ++ map node_bytes (first_chunks 128 (left - 1) others)) c.in_ok-add.ensures.nodes
          ∙ chunk-push node_bytes c.loop-left.level.nodes.items left rest node others (map node_bytes (nodes_of es)) c.loop-left-test.true c.split_node.ensures.node c.split_node.ensures.others c.loop-left.invariant.nodes;
      names = ap (λ (done : List IndexEntry). done ++ named c.add.new.self.end (first_chunks 128 (left - 1) others)) c.in_ok-add.ensures.names
          ∙ ap (λ (n : ℕ). (c.loop-left.level.names.items ++ record { offset = at; size = node_size node; key = first_key node } ∷ []) ++ named n (first_chunks 128 (left - 1) others)) c.in_ok-add.ensures.end
          ∙ named-push c.loop-left.level.names.items at left rest node others (named c.args.at (nodes_of es)) c.loop-left-test.true c.split_node.ensures.node c.split_node.ensures.others c.loop-left.invariant.names;
      end = ap (λ (n : ℕ). end_of n (first_chunks 128 (left - 1) others)) c.in_ok-add.ensures.end
          ∙ end-push at left rest node others (end_of c.args.at (nodes_of es)) c.loop-left-test.true c.split_node.ensures.node c.split_node.ensures.others c.loop-left.invariant.end;
      short = subst HaveShortKeys (sym c.split_node.ensures.others) (short-drop 128 rest c.loop-left.invariant.short);
    }

pub returns-clause-nodes : goal.returns-clause-nodes
returns-clause-nodes c =
    let none : c.loop-left.left ≡ 0 = omega arith in
    sym (append-nil c.loop-left.level.nodes.items) ∙ ap (λ (n : ℕ). c.loop-left.level.nodes.items ++ map node_bytes (first_chunks 128 n c.loop-left.rest.now)) (sym none) ∙ c.loop-left.invariant.nodes

pub returns-clause-names : goal.returns-clause-names
returns-clause-names c =
    let none : c.loop-left.left ≡ 0 = omega arith in
    sym (append-nil c.loop-left.level.names.items) ∙ ap (λ (n : ℕ). c.loop-left.level.names.items ++ named c.loop-left.level.end (first_chunks 128 n c.loop-left.rest.now)) (sym none) ∙ c.loop-left.invariant.names

pub returns-clause-end : goal.returns-clause-end
returns-clause-end c =
    let none : c.loop-left.left ≡ 0 = omega arith in
    ap (λ (n : ℕ). end_of c.loop-left.level.end (first_chunks 128 n c.loop-left.rest.now)) (sym none) ∙ c.loop-left.invariant.end

pub returns-clause-short : goal.returns-clause-short
returns-clause-short c =
    let none : c.loop-left.left ≡ 0 = omega arith in
    let names : c.loop-left.level.names.items ≡ named c.args.at (nodes_of c.args.entries.now) =
    sym (append-nil c.loop-left.level.names.items) ∙ ap (λ (n : ℕ). c.loop-left.level.names.items ++ named c.loop-left.level.end (first_chunks 128 n c.loop-left.rest.now)) (sym none) ∙ c.loop-left.invariant.names in
    subst HaveShortKeys (sym names) (short-named c.args.at (node_count (length c.args.entries.now)) c.args.entries.now c.requires)
