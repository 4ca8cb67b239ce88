use Rattle.std.proofs.Common.{◌∙◌, ◌++◌, ◌+◌, sym, ap, subst, drop, length, List, ℕ, Some}
use Rattle.hfile_index.specs.Short.{IsSmall}
use Rattle.hfile_write.specs.Written.{previous_of, chain, with_blocks}
use Rattle.hfile_block.specs.Header.{block_bytes}
use Rattle.hfile_write.proofs.Chains.{small_at, chain-push, chain-all}
use Rattle.hfile_write.proofs.chain.put_chain.Goals as goal

pub put_block-requires : goal.put_block-requires
put_block-requires c = subst IsSmall (sym c.as_slice.ensures) (small_at c.args.contents.now c.loop-content.content-index c.content-item.result c.loop-content-test.true c.content-item.is c.requires)

pub loop-content-preserved : goal.loop-content-preserved
loop-content-preserved c =
    let out = c.loop-content.out in
    let next = c.put_block.new.out in
    let rest : ℕ → List ℕ = λ n. next ++ chain c.args.magic (Some n) (length next) (drop (c.loop-content.content-index + 1) c.args.contents.now) in
    ap rest c.len-at.ensures
    ∙ chain-push c.args.magic c.loop-content.before out next c.args.contents.now c.loop-content.content-index c.content-item.result (with_blocks c.args.magic c.args.contents.now c.args.out.now)
    c.loop-content-test.true c.content-item.is
    (c.in_ok-put_block.ensures.ok ∙ ap (λ (t : List ℕ). out ++ block_bytes c.args.magic t (previous_of c.loop-content.before)) c.as_slice.ensures)
    c.loop-content.invariant

pub returns : goal.returns
returns c = chain-all c.args.magic c.loop-content.before c.loop-content.out c.args.contents.now c.loop-content.content-index (with_blocks c.args.magic c.args.contents.now c.args.out.now) c.loop-content-test.false c.loop-content.invariant
