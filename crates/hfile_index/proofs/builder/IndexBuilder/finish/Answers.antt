use Rattle.std.proofs.Common.{◌≡◌, sym, subst, arith}
use Rattle.hfile_index.specs.declared.written.WrittenIndex.{WrittenIndex}
use Rattle.hfile_index.specs.Short.{HaveShortKeys, HasSmallNodes}
use Rattle.hfile_index.specs.Written.{listed_end, flat_index, deep_index}
use Rattle.hfile_index.proofs.Smalls.{flat_small, deep_small, IfOk-to}
use Rattle.hfile_index.proofs.builder.IndexBuilder.finish.Goals as goal

pub returns-then-len-le-NODE_ENTRIES-clause-small : goal.returns-then-len-le-NODE_ENTRIES-clause-small
returns-then-len-le-NODE_ENTRIES-clause-small c =
    let es = c.as_slice.result.now in
    let short : HaveShortKeys es = subst HaveShortKeys (sym c.as_slice.ensures.value) c.self.invariant in
    IfOk-to {P = λ (index : WrittenIndex). index ≡ flat_index es} {Q = HasSmallNodes} c.flat_index.result (λ index is. subst HasSmallNodes (sym is) (flat_small es short (omega arith))) c.flat_index.ensures

pub returns-clause-small : goal.returns-clause-small
returns-clause-small c =
    let es = c.as_slice-else-len-le-NODE_ENTRIES.result.now in
    let short : HaveShortKeys es = subst HaveShortKeys (sym c.as_slice-else-len-le-NODE_ENTRIES.ensures.value) c.self.invariant in
    IfOk-to {P = λ (index : WrittenIndex). index ≡ deep_index (listed_end es) es} {Q = HasSmallNodes} c.deep_index.result (λ index is. subst HasSmallNodes (sym is) (deep_small (listed_end es) es short)) c.deep_index.ensures
