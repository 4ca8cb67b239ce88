use Rattle.std.proofs.Common.{Ok}
use Rattle.hbase_shell.specs.Run.{met_of, sent_of}
use Rattle.hbase_shell.proofs.RunLemmas.{refuses, taken_script}
use Rattle.hbase_shell.proofs.run.hbase_script.Goals as goal

pub returns-clause-refused : goal.returns-clause-refused
returns-clause-refused g c e =
    let met = met_of g.I.Source.left g.I.Source.faults c.args.input.now c.answer_script-answer.new.input g.N.Namespace.faults g.N.Namespace.told c.args.store c.answer_script-answer.new.store (Ok c.args.options.now) in
    let sent = sent_of g.O.Sink.written g.O.Sink.faults c.args.output.now c.finish-status.new.output in
    refuses met sent c.finish-status.result c.answer_script-answer.result c.answer_script-answer.ensures.due c.finish-status.ensures e

pub returns-clause-script : goal.returns-clause-script
returns-clause-script g c =
    let met = met_of g.I.Source.left g.I.Source.faults c.args.input.now c.answer_script-answer.new.input g.N.Namespace.faults g.N.Namespace.told c.args.store c.answer_script-answer.new.store (Ok c.args.options.now) in
    let sent = sent_of g.O.Sink.written g.O.Sink.faults c.args.output.now c.finish-status.new.output in
    taken_script (g.I.Source.left c.args.input.now) (g.I.Source.left c.answer_script-answer.new.input) (g.O.Sink.written c.args.output.now) (g.O.Sink.written c.finish-status.new.output) c.finish-status.result
    (λ e. refuses met sent c.finish-status.result c.answer_script-answer.result c.answer_script-answer.ensures.due c.finish-status.ensures e)
