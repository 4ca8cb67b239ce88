use Rattle.std.proofs.Common.{◌++◌, subst}
use Rattle.std.specs.Fmt.{decimal}
use Rattle.commit_line.specs.Line.{ended}
use Rattle.commit_line.specs.ListError.{IsValueAt}
use Rattle.commit_line.specs.Numbered.{IsListNumber}
use Rattle.commit_line.proofs.NumberedLemmas.{number_alone}
use Rattle.commit_line.proofs.line.check_number.Goals as goal

pub returns-then-other-number : goal.returns-then-other-number
returns-then-other-number c has =
    let found = subst (λ n. IsValueAt IsListNumber (λ m. c.args.text.now ++ ended (decimal m)) c.args.bytes.now 0 n c.in-Ok.field-0-1) c.if-other-number.true c.in-Ok.ensures in
    number_alone c.args.text.now c.args.number c.args.bytes.now c.in-Ok.field-0-1 found has
