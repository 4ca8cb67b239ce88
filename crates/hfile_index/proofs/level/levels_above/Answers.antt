use Rattle.std.proofs.Common.{◌≡◌, length, List, subst, sym, ap, arith}
use Rattle.hfile_index.specs.declared.entry.IndexEntry.{IndexEntry}
use Rattle.hfile_index.specs.Written.{nodes_of, named, above}
use Rattle.hfile_index.proofs.Levels.{behind_levels, length-names, levels-built, levels-all}
use Rattle.hfile_index.proofs.level.levels_above.Goals as goal

pub levels-smaller : goal.levels-smaller
levels-smaller c =
    let size : length c.in_ok-level.level.names.items ≡ length (named c.levels.at (nodes_of c.as_slice.result.now)) = ap length c.in_ok-level.ensures.names in
    let value : length c.as_slice.result.now ≡ length c.levels.root.items = ap length c.as_slice.ensures.value in
    omega (arith, length-names c.levels.at c.as_slice.result.now, c.levels.root.ok)

pub levels-preserved : goal.levels-preserved
levels-preserved c =
    let es = c.as_slice.result.now in
    let size : length c.in_ok-level.level.names.items ≡ length (named c.levels.at (nodes_of es)) = ap length c.in_ok-level.ensures.names in
    let value : length es ≡ length c.levels.root.items = ap length c.as_slice.ensures.value in
    let whole = above (length c.args.names.items) c.args.at c.args.names.items in
    record {
      told = levels-built c.levels.nodes.items c.in_ok-level.level.nodes.items c.append.new.self.items c.levels.below c.levels.at c.in_ok-level.level.end es c.in_ok-level.level.names.items whole
          (omega (arith, c.levels.root.ok))
          (subst (λ (xs : List IndexEntry). behind_levels c.levels.nodes.items c.levels.below (above (length xs) c.levels.at xs) ≡ whole) (sym c.as_slice.ensures.value) c.levels.invariant.told)
          c.in_ok-append.ensures.items c.in_ok-level.ensures.nodes c.in_ok-level.ensures.names c.in_ok-level.ensures.end;
      short = c.in_ok-level.ensures.short;
      few = omega (arith, length-names c.levels.at es, c.levels.root.ok, c.levels.invariant.few);
    }

pub returns-clause-exact : goal.returns-clause-exact
returns-clause-exact c =
    levels-all c.levels.nodes.items c.levels.below c.levels.at c.levels.root.items (above (length c.args.names.items) c.args.at c.args.names.items) (omega (arith, c.levels.root.ok)) c.levels.invariant.told

pub returns-clause-few : goal.returns-clause-few
returns-clause-few c = omega (arith, c.levels.invariant.few, c.args.names.ok, c.args.names.small)
