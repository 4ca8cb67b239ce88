use Rattle.std.proofs.Common.{◌++◌, List, ℕ, ◌∙◌, ap}
use Rattle.hfile_meta.specs.Written.{written_info}
use Rattle.hfile_write.proofs.Infos.{info_small}
use Rattle.hfile_write.proofs.info.info_content.Goals as goal

pub returns-clause-small : goal.returns-clause-small
returns-clause-small c =
    info_small c.args.summary.now c.args.last.now c.write_info.new.out c.requires.last
    (c.in_ok-write_info.ensures.ok ∙ ap (λ (t : List ℕ). t ++ written_info c.in_ok-pairs_with.field-0) (c.from_vec-content.ensures ∙ c.new.ensures.items) ∙ ap written_info c.in_ok-pairs_with.ensures)
