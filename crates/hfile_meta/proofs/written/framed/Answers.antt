use Rattle.std.proofs.Common.{◌≡◌, ◌+◌, ◌-◌, ◌++◌, length, List, ℕ, ap, ◌∙◌, arith}
use Rattle.hfile_meta.specs.Trailer.{delimited}
use Rattle.hfile_meta.proofs.WrittenTrailers.{framed_as, framed_len}
use Rattle.hfile_meta.proofs.written.framed.Goals as goal

pub returns : goal.returns
returns c =
    let message = c.args.message.now in
    let count : length c.add.new.self ≡ 8 + length (delimited message) = framed_len c.in_ok-bytes.bytes c.put_varint.new.out c.add.new.self message c.in_ok-bytes.ensures c.in_ok-put_varint.ensures.ok c.in_ok-add.ensures.ok in
    let size : 208 - c.len-len.result ≡ 200 - length (delimited message) = omega arith in
    framed_as c.in_ok-bytes.bytes c.put_varint.new.out c.add.new.self c.add-2.new.self c.add-3.new.self message (208 - c.len-len.result)
    c.in_ok-bytes.ensures c.in_ok-put_varint.ensures.ok c.in_ok-add.ensures.ok (c.in_ok-add-2.ensures.ok ∙ ap (λ (t : List ℕ). c.add.new.self ++ t) c.zeros.ensures) c.in_ok-add-3.ensures.ok size
