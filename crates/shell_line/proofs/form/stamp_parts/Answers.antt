use Rattle.std.proofs.Common.{arith}
use Rattle.hb_grammar.proofs.SameLemmas.{Same_refl, Same_trans, Same-Joined, Same-EitherOf}
use Rattle.shell_line.specs.Table.{IsNumberEnd}
use Rattle.shell_text.proofs.RepeatedLemmas.{Refuses-Same}
use Rattle.shell_line.proofs.PieceLemmas.{Refuses-IsNumberEnd, Same-PaddedFrom}
use Rattle.shell_line.proofs.form.stamp_parts.Goals as goal

pub new-padded-requires : goal.new-padded-requires
new-padded-requires c = Refuses-Same _ (IsNumberEnd 0 9223372036854775807) 32 c.number_end-number.ensures (Refuses-IsNumberEnd 0 9223372036854775807 (omega arith))

pub returns : goal.returns
returns c =
    let padded = Same_trans _ _ _ c.new-padded.ensures (Same-PaddedFrom _ _ c.number_end-number.ensures) in
    let stamp = Same_trans _ _ _ c.new-stamp.ensures (Same-Joined _ _ _ _ c.lead-comma.ensures padded) in
    Same_trans _ _ _ c.new.ensures (Same-EitherOf _ _ _ _ (Same_refl _) stamp)
