use Rattle.std.proofs.Common.{◌≡◌, take, drop, Ok, ap, sym, ◌∙◌}
use Rattle.std.proofs.lemmas.Result.{err_from_is_err_and}
use Rattle.hb_wire.specs.Fixed.{be_number}
use Rattle.hb_cell.specs.Reading.{◌>>=◌}
use Rattle.hb_cell.proofs.Parts.{cut, parts_at-no_lengths, parts_at-cut_off, parts_at-seq_at, Fails-parts_at}
use Rattle.hb_cell.proofs.coding.parts_at.Goals as goal

pub returns-then-bytes-lt8 : goal.returns-then-bytes-lt8
returns-then-bytes-lt8 c = parts_at-no_lengths c.args.with_seq c.args.bytes.now c.if-bytes-lt8.true

pub returns-then-bytes-whole : goal.returns-then-bytes-whole
unfolding be_number
returns-then-bytes-whole c =
    parts_at-cut_off c.args.with_seq c.args.bytes.now c.read_u32-key_len.result c.read_u32-value_len.result c.read_u32-key_len.ensures (c.read_u32-value_len.ensures ∙ ap (be_number 4) c.split_at.ensures.back) c.if-bytes-lt8.false c.if-bytes-whole.true

pub returns-in_err-seq : goal.returns-in_err-seq
unfolding be_number
returns-in_err-seq c =
    let p = err_from_is_err_and c.from_residual.result c.from_residual.ensures.1 in
    rw (p.1, p.2) (Fails-parts_at c.in_err-seq.field-0.0 c.args.with_seq c.args.bytes.now c.read_u32-key_len.result c.read_u32-value_len.result c.read_u32-key_len.ensures (c.read_u32-value_len.ensures ∙ ap (be_number 4) c.split_at.ensures.back) c.if-bytes-lt8.false c.if-bytes-whole.false c.in_err-seq.ensures)

pub returns : goal.returns
unfolding be_number
returns c =
    let bytes = c.args.bytes.now in
    let k = c.read_u32-key_len.result in
    let v = c.read_u32-value_len.result in
    let read = parts_at-seq_at c.args.with_seq bytes k v c.read_u32-key_len.ensures (c.read_u32-value_len.ensures ∙ ap (be_number 4) c.split_at.ensures.back) c.if-bytes-lt8.false c.if-bytes-whole.false in
    let key : take k (drop 8 bytes) ≡ c.split_at-3.result.0.now = sym (c.split_at-3.ensures.front ∙ ap (take k) c.split_at-2.ensures.back) in
    let value : take v (drop k (drop 8 bytes)) ≡ c.split_at-4.result.0.now = sym (c.split_at-4.ensures.front ∙ ap (take v) (c.split_at-3.ensures.back ∙ ap (drop k) c.split_at-2.ensures.back)) in
    read ∙ ap (λ r. r >>= λ s. Ok (cut k v bytes s)) c.in_ok-seq.ensures ∙ λ i. Ok (record { key = key i; value = value i; seq = c.in_ok-seq.seq; used = c.in_ok-seq.used })
