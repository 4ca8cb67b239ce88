use Rattle.std.proofs.Common.{◌≡◌, ◌++◌, false, [], List, ℕ, ◌∙◌, sym, ap, append-nil}
use Rattle.hb_cell.specs.Stored.{key, stored}
use Rattle.hfile_index.proofs.Smalls.{IfOk-to}
use Rattle.hfile_write.specs.Ended.{key_in}
use Rattle.hfile_write.proofs.FirstKeys.{first_key-stored}
use Rattle.hfile_write.proofs.info.key_of.Goals as goal

pub key_in-requires : goal.key_in-requires
key_in-requires c =
    let s = stored false c.args.cell.now in
    (first_key-stored false c.args.cell.now [] c.as_slice.result.now c.requires
    (c.as_slice.ensures ∙ c.in_ok-encode_cell.ensures.ok ∙ ap (λ (t : List ℕ). t ++ s) (c.from_vec-stored.ensures ∙ c.new.ensures.items) ∙ sym (append-nil s))).has

pub returns : goal.returns
returns c =
    let s = stored false c.args.cell.now in
    let is : key_in c.as_slice.result.now ≡ key c.args.cell.now = (first_key-stored false c.args.cell.now [] c.as_slice.result.now c.requires
    (c.as_slice.ensures ∙ c.in_ok-encode_cell.ensures.ok ∙ ap (λ (t : List ℕ). t ++ s) (c.from_vec-stored.ensures ∙ c.new.ensures.items) ∙ sym (append-nil s))).is in
    IfOk-to {P = λ (bytes : List ℕ). bytes ≡ c.key_in.result.now} {Q = λ (bytes : List ℕ). bytes ≡ key c.args.cell.now} c.copy_of.result (λ bytes copied. copied ∙ c.key_in.ensures ∙ is) c.copy_of.ensures
