use Rattle.std.proofs.Common.{◌≡◌, ◌+◌, ◌∷◌, ◌++◌, [], ℕ, List, length, take, sym, ap, ◌∙◌, subst, arith}
use Rattle.std.proofs.lemmas.List.{length-take-le, take_more}
use Rattle.shell_script.specs.declared.session.Session.{Session}
use Rattle.shell_script.specs.Session.{names_begun}
use Rattle.shell_script.proofs.AddLemmas.{AllByRecursion-at, IsBadBehind-within, length-names_begun}
use Rattle.shell_script.proofs.ScriptLemmas.{IsFirstBad-IsRead, IsRead, IsRead-step}
use Rattle.shell_script.proofs.script.sessions_of.Goals as goal

pub blocks_begun-begun-requires : goal.blocks_begun-begun-requires
blocks_begun-begun-requires c =
    let blocks = c.args.blocks in
    let lines = c.args.lines.now in
    let i = c.loop-line.line-index in
    let few = c.requires.few in
    let below = c.loop-line-test.true in
    let same : length (names_begun blocks c.as_slice.result.now) ≡ length (names_begun blocks c.loop-line.sessions.items) =
    ap (λ (s : List Session). length (names_begun blocks s)) c.as_slice.ensures.value in
    omega (arith, same, length-names_begun blocks (take i lines) c.loop-line.sessions.items c.loop-line.invariant.names, length-take-le i lines (omega arith))

pub place_of-requires : goal.place_of-requires
place_of-requires c =
    let bad = (rw c.in-Err-Behind.field-0-is at c.in-Err-Behind.ensures.refused) in
    let lines = c.args.lines.now in
    let short = AllByRecursion-at _ lines c.loop-line.line-index c.line-item.result c.loop-line-test.true c.line-item.is c.requires.short in
    omega (arith, short, IsBadBehind-within _ _ _ _ _ bad)

pub returns-in-Err-Behind-clause-refused : goal.returns-in-Err-Behind-clause-refused
returns-in-Err-Behind-clause-refused c =
    let blocks = c.args.blocks in
    let sessions = c.loop-line.sessions.items in
    let bad = (rw c.in-Err-Behind.field-0-is at c.in-Err-Behind.ensures.refused) in
    let begun : c.blocks_begun-begun.result ≡ length (names_begun blocks sessions) =
    c.blocks_begun-begun.ensures ∙ ap (λ (s : List Session). length (names_begun blocks s)) c.as_slice.ensures.value in
    rw (c.place_of.ensures, c.in-Err-Behind.field-0-is) (IsFirstBad-IsRead c.args.kinds.now blocks c.args.lines.now c.loop-line.line-index c.line-item.result sessions c.blocks_begun-begun.result
    c.in-Err-Behind.at c.loop-line-test.true c.line-item.is c.loop-line.invariant begun bad)

pub loop-line-preserved : goal.loop-line-preserved
loop-line-preserved c =
    let lines = c.args.lines.now in
    let i = c.loop-line.line-index in
    let line = c.line-item.result in
    let kinds = c.args.kinds.now in
    let blocks = c.args.blocks in
    let more : take (i + 1) lines ≡ take i lines ++ line ∷ [] =
    take_more lines i line c.loop-line-test.true ∙ ap (λ (l : ℕ × List ℕ). take i lines ++ l ∷ []) (sym c.line-item.is) in
    subst (λ (l : List (ℕ × List ℕ)). IsRead kinds blocks l c.add_line.new.sessions.items) (sym more)
    (IsRead-step kinds blocks (take i lines) c.loop-line.sessions.items c.add_line.new.sessions.items line c.loop-line.invariant c.in-Ok.ensures.added c.in-Ok.ensures.good)
