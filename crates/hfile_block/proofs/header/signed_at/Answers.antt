use Rattle.std.proofs.Common.{sym, subst, arith}
use Rattle.hb_wire.proofs.BigEndian.{IsBytes, IsBytes-drop}
use Rattle.hfile_block.proofs.Headers.{signed_behind}
use Rattle.hfile_block.proofs.header.signed_at.Goals as goal

pub returns : goal.returns
returns c =
    let fits = subst IsBytes (sym c.split_at.ensures.back) (IsBytes-drop c.args.at c.args.bytes.now (λ i. omega (arith, c.type_inv.bytes i))) in
    signed_behind c.args.bytes.now c.split_at.result.1.now c.args.at c.read_i64.result fits c.split_at.ensures.back c.read_i64.ensures
