use Rattle.ns_tree.proofs.Renaming.{moved_by_copies, unchanged_by_clearing}
use Rattle.ns_tree.proofs.files.Files.move_all.Goals as goal

pub returns-in-Ok-clause-ok : goal.returns-in-Ok-clause-ok
returns-in-Ok-clause-ok c =
    moved_by_copies c.args.from.now c.args.to.now c.args.moves.now c.args.self.now c.copy_all.new.self c.clear_sources.new.self c.requires.each c.requires.whole c.requires.movable c.in-Ok.ensures.ok c.clear_sources.ensures

pub returns-in-Err-clause-err : goal.returns-in-Err-clause-err
returns-in-Err-clause-err c =
    let part = c.in-Err.ensures.err in
    unchanged_by_clearing c.args.from.now c.args.to.now c.args.moves.now part.0 c.args.self.now c.copy_all.new.self c.clear_targets.new.self c.requires.each c.requires.movable part.1 c.clear_targets.ensures
