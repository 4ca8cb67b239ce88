use Rattle.hb_grammar.proofs.SameLemmas.{Same_refl, Same_trans, Same-Joined}
use Rattle.shell_line.specs.Table.{IsVersionCount}
use Rattle.shell_text.proofs.RepeatedLemmas.{Refuses-Same}
use Rattle.shell_line.proofs.PieceLemmas.{Refuses-IsVersionCount, Same-PaddedFrom}
use Rattle.shell_line.proofs.form.versions_parts.Goals as goal

pub new-padded-requires : goal.new-padded-requires
new-padded-requires c = Refuses-Same _ IsVersionCount 32 c.version_count-count.ensures Refuses-IsVersionCount

pub returns : goal.returns
returns c =
    let padded = Same_trans _ _ _ c.new-padded.ensures (Same-PaddedFrom _ _ c.version_count-count.ensures) in
    let word = Same_trans _ _ _ c.new-word.ensures (Same-Joined _ _ _ _ (Same_refl _) padded) in
    Same_trans _ _ _ c.new.ensures (Same-Joined _ _ _ _ c.lead-front.ensures word)
