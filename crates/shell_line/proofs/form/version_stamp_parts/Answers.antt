use Rattle.hb_grammar.proofs.SameLemmas.{Same_trans, Same-Joined, Same-EitherOf}
use Rattle.shell_line.specs.Table.{IsStampVersion}
use Rattle.shell_text.proofs.RepeatedLemmas.{Refuses-Same}
use Rattle.shell_line.proofs.PieceLemmas.{Refuses-IsStampVersion, Same-PaddedFrom}
use Rattle.shell_line.proofs.form.version_stamp_parts.Goals as goal

pub new-padded-requires : goal.new-padded-requires
new-padded-requires c = Refuses-Same _ IsStampVersion 32 c.stamp_version-number.ensures Refuses-IsStampVersion

pub returns : goal.returns
returns c =
    let padded = Same_trans _ _ _ c.new-padded.ensures (Same-PaddedFrom _ _ c.stamp_version-number.ensures) in
    let versioned = Same_trans _ _ _ c.new-versioned.ensures (Same-Joined _ _ _ _ c.lead-comma.ensures padded) in
    Same_trans _ _ _ c.new.ensures (Same-EitherOf _ _ _ _ c.stamp.ensures versioned)
