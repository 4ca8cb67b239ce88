use Rattle.std.proofs.Common.{◌≡◌, ◌++◌, List, ℕ, ap, ◌∙◌}
use Rattle.std.specs.Int.{w64, cast_signed, cast_unsigned}
use Rattle.std.proofs.lemmas.Int.{to_z-of_z}
use Rattle.hfile_block.specs.Header.{block_bytes}
use Rattle.hfile_write.specs.Written.{previous_of}
use Rattle.hfile_write.proofs.Chains.{block_bytes-previous, OnOk-to}
use Rattle.hfile_write.proofs.chain.put_block.Goals as goal

pub returns-clause-ok : goal.returns-clause-ok
returns-clause-ok c =
    let p = c.previous_of.result in
    let out = c.args.out.now in
    let turned = cast_signed w64 (cast_unsigned w64 p) in
    let same = block_bytes-previous c.args.magic c.args.content.now turned (previous_of c.args.before) (ap (cast_unsigned w64) (to_z-of_z w64 p c.previous_of.ensures.fits) ∙ c.previous_of.ensures.exact) in
    OnOk-to {P = c.write_block.new.out ≡ out ++ block_bytes c.args.magic c.args.content.now turned}
    {Q = c.write_block.new.out ≡ out ++ block_bytes c.args.magic c.args.content.now (previous_of c.args.before)}
    c.write_block.result (λ added. added ∙ ap (λ (t : List ℕ). out ++ t) same) c.write_block.ensures.ok
