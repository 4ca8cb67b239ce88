use Rattle.std.proofs.Common.{◌≡◌, ℕ, Vec, Global, ap, sym, ◌∙◌, subst, arith}
use Rattle.hex.specs.Hex.{encode_lower}
use Rattle.hb_grammar.specs.declared.class.Class.TheVariants.{LowerHex}
use Rattle.hb_grammar.specs.Run.{IsExactly}
use Rattle.hb_grammar.proofs.LowerHexLemmas.{IsExactly-encode_lower}
use Rattle.hb_names.proofs.region_name.encode_digest.Goals as goal

pub of_digits-requires : goal.of_digits-requires
of_digits-requires c =
    let e : c.into_bytes.result.items ≡ encode_lower c.args.digest.now =
    ap (λ (v : Vec ℕ Global). v.items) c.into_bytes.ensures.value ∙ c.in_ok-text.ensures in
    subst (IsExactly LowerHex 32) (sym e)
    (IsExactly-encode_lower c.args.digest.now 16 (omega arith) (λ i. let fits = c.fits-digest i in omega arith))
