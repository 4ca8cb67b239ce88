use Rattle.std.proofs.Common.{◌≡◌, ℕ, List, All, drop, ◌∙◌, subst}
use Rattle.shell_line.specs.declared.line_kind.Arguments.{Arguments}
use Rattle.hb_grammar.specs.Grammar.{IsFault}
use Rattle.shell_line.specs.Line.{IsArguments, word}
use Rattle.shell_line.proofs.LineLemmas.{IsLineOf-word, IsFault-no_word, IsFault-other, IsFault-word, none_listed}
use Rattle.shell_line.proofs.line.check_line.Goals as goal

pub returns-then-is_other-clause-fault : goal.returns-then-is_other-clause-fault
returns-then-is_other-clause-fault c =
    let other = c.is_other.ensures.yes c.if-is_other.true in
    IsFault-other c.args.kinds.now c.args.bytes.now c.word_end-end.result other.0 c.word_end-end.ensures.begun other.1 (c.word_end-end.ensures.stops other.0 other.1)

pub returns-in-None-clause-fault : goal.returns-in-None-clause-fault
returns-in-None-clause-fault c =
    let kinds = c.args.kinds.now in
    let none = subst (λ (f : List ℕ). All (λ k. word k ≡ f → ⊥) kinds) c.split_at.ensures.front c.in-None.ensures.none in
    IsFault-no_word kinds c.args.bytes.now c.word_end-end.result c.word_end-end.ensures.within c.word_end-end.ensures.begun (c.is_other.ensures.no c.if-is_other.false)
    (none_listed kinds _ none)

pub returns-in-Err-clause-fault : goal.returns-in-Err-clause-fault
returns-in-Err-clause-fault c =
    let found = c.in-Some.ensures.found in
    let fault = subst (λ (x : List ℕ). IsFault (IsArguments c.arguments.result) x c.in-Err.fault.0) c.split_at.ensures.back c.in-Err.ensures.fault in
    IsFault-word c.args.kinds.now c.in-Some.kind c.args.bytes.now c.word_end-end.result c.in-Err.fault.0 c.word_end-end.ensures.within found.0
    (found.1 ∙ c.split_at.ensures.front) (c.is_other.ensures.no c.if-is_other.false)
    (subst (λ (a : Arguments). IsFault (IsArguments a) (drop c.word_end-end.result c.args.bytes.now) c.in-Err.fault.0) c.arguments.ensures fault)

pub returns-in-Ok-clause-kind : goal.returns-in-Ok-clause-kind
returns-in-Ok-clause-kind c =
    let kind = c.in-Some.kind in
    let found = c.in-Some.ensures.found in
    let scanned = subst (IsArguments c.arguments.result) c.split_at.ensures.back c.in-Ok.ensures.found in
    let bytes = c.args.bytes.now in (
      found.0,
      IsLineOf-word kind bytes c.word_end-end.result c.word_end-end.ensures.within (found.1 ∙ c.split_at.ensures.front)
          (subst (λ (a : Arguments). IsArguments a (drop c.word_end-end.result bytes)) c.arguments.ensures scanned),
    )
