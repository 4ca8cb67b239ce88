use Rattle.shell_text.proofs.TextEndLemmas.{IsTextEnd-plain}
use Rattle.shell_text.proofs.text_end.plain_end.Goals as goal

pub returns-then-is_meant : goal.returns-then-is_meant
returns-then-is_meant c =
    let quote = c.is_quote.ensures c.if-is_quote.true in
    IsTextEnd-plain c.args.argument c.args.bytes.now c.plain_front-count.result quote.0 quote.1 c.plain_front-count.ensures.plain (c.is_meant.ensures c.if-is_meant.true)
