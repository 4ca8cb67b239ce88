use Rattle.std.proofs.Common.{sym, subst}
use Rattle.hb_grammar.specs.declared.class.Class.TheVariants.{LowerHex}
use Rattle.hb_grammar.specs.Run.{IsExactly}
use Rattle.hb_grammar.specs.Joined.{Joined}
use Rattle.hb_file_names.specs.FileName.{IsSuffix}
use Rattle.hb_file_names.proofs.SplitLemmas.{IsSplit-Joined}
use Rattle.hb_file_names.proofs.file_name.parts_of.Goals as goal

pub number_of_digits-requires-2 : goal.number_of_digits-requires-2
number_of_digits-requires-2 c =
    let outer = IsSplit-Joined (IsExactly LowerHex 16) (Joined (IsExactly LowerHex 16) IsSuffix) 16 c.args.bytes.now (λ _ digits. digits.long) c.requires in
    let rest = subst (Joined (IsExactly LowerHex 16) IsSuffix) (sym c.split_at.ensures.back) outer.back in
    let inner = IsSplit-Joined (IsExactly LowerHex 16) IsSuffix 16 c.split_at.result.1.now (λ _ digits. digits.long) rest in
    subst (IsExactly LowerHex 16) (sym c.split_at-2.ensures.front) inner.front

pub seq_of-requires : goal.seq_of-requires
seq_of-requires c =
    let outer = IsSplit-Joined (IsExactly LowerHex 16) (Joined (IsExactly LowerHex 16) IsSuffix) 16 c.args.bytes.now (λ _ digits. digits.long) c.requires in
    let rest = subst (Joined (IsExactly LowerHex 16) IsSuffix) (sym c.split_at.ensures.back) outer.back in
    let inner = IsSplit-Joined (IsExactly LowerHex 16) IsSuffix 16 c.split_at.result.1.now (λ _ digits. digits.long) rest in
    subst IsSuffix (sym c.split_at-2.ensures.back) inner.back
