use Rattle.std.proofs.Common.{Ok, refl}
use Rattle.hbase_shell.specs.Run.{met_of}
use Rattle.hbase_shell.specs.Script.{lines_of}
use Rattle.hbase_shell.proofs.AnswerLemmas.{IsDue-lines}
use Rattle.hbase_shell.proofs.run.answer_script.Goals as goal

pub answer_lines-requires : goal.answer_lines-requires
answer_lines-requires g c = let read = c.in_ok-script.ensures.ok in (c.lines_of.ensures (lines_of read.0) read.3).0

pub returns-clause-due : goal.returns-clause-due
returns-clause-due g c =
    let read = c.in_ok-script.ensures.ok in
    let met = met_of g.I.Source.left g.I.Source.faults c.args.input.now c.read_script.new.input g.N.Namespace.faults g.N.Namespace.told c.args.store.now c.answer_lines.new.store (Ok c.args.options.now) in
    IsDue-lines met read.0 c.lines_of.result.now c.answer_lines.result refl read.1 read.2 (c.lines_of.ensures (lines_of read.0) read.3).1
    c.answer_lines.ensures.ok c.answer_lines.ensures.fault c.answer_lines.ensures.only
