use Rattle.std.proofs.Common.{take}
use Rattle.std.proofs.lemmas.List.Elements.{All-take}
use Rattle.ns_tree.specs.Moves.{IsMove}
use Rattle.ns_tree.proofs.Renaming.{IsMove-at, IsCopied-next, contains_key-source}
use Rattle.ns_tree.proofs.files.Files.copy_all.Goals as goal

pub copy_file-requires : goal.copy_file-requires
copy_file-requires c =
    let move = IsMove-at c.args.from.now c.args.to.now c.args.self.now c.args.moves.now c.loop-m.m-index c.m-item.result c.loop-m-test.true c.m-item.is c.requires.each in
    let first = All-take (IsMove c.args.from.now c.args.to.now c.args.self.now) c.loop-m.m-index c.args.moves.now c.requires.each in
    contains_key-source c.args.from.now c.args.to.now (take c.loop-m.m-index c.args.moves.now) c.args.self.now c.loop-m.self c.m-item.result first c.requires.movable c.loop-m.invariant move

pub loop-m-preserved : goal.loop-m-preserved
loop-m-preserved c =
    IsCopied-next c.args.from.now c.args.to.now c.args.moves.now c.loop-m.m-index c.args.self.now c.loop-m.self c.copy_file.new.self c.m-item.result c.loop-m-test.true c.m-item.is c.requires.each c.requires.movable
    c.loop-m.invariant c.in_ok-copy_file.ensures.ok
