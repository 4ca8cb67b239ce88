use Rattle.hb_grammar.specs.declared.class.Class.TheVariants.{Name}
use Rattle.shell_text.proofs.MeantLemmas.{Means-class}
use Rattle.shell_text.proofs.meant.is_name_end.Goals as goal

pub returns-then-bytes-most : goal.returns-then-bytes-most
returns-then-bytes-most c e = Means-class Name c.args.most c.args.bytes.now (c.are_in_name.ensures e) c.if-bytes-most.true
