use Rattle.std.proofs.Common.{◌≡◌, ◌∙◌, ap, sym, subst, true, false, inl, inr}
use Rattle.std.specs.List.{list_any}
use Rattle.std.proofs.lemmas.Bool.{or_left, or_right, or_from, true≢false}
use Rattle.ns_tree.specs.Moves.{AreSources}
use Rattle.ns_tree.specs.Places.{is_below, is_too_deep}
use Rattle.ns_tree.specs.Step.{is_inside}
use Rattle.ns_tree.specs.Tree.{is_taken}
use Rattle.ns_tree.proofs.Renaming.{is_taken-no_sources, is_taken-sources, too_deep-sources, IsMove-sources, is_source-sources, rename_refusal-missing, rename_refusal-inside, rename_refusal-outside}
use Rattle.ns_tree.proofs.tree.Tree.plan.Goals as goal
use Rattle.ns_tree.proofs.tree.Tree.plan.Goals.{then-is_below-via-then-is_below, then-is_below-via-else-is_below+then-has_too_deep}

pub returns-then-is_empty-clause-refused : goal.returns-then-is_empty-clause-refused
returns-then-is_empty-clause-refused c =
    let sources : AreSources c.args.from.now c.args.self.now c.in_ok-sources.sources = subst (λ t. AreSources c.args.from.now t c.in_ok-sources.sources) c.self.view_is c.in_ok-sources.ensures in
    inr (rename_refusal-missing c.args.from.now c.args.to.now c.args.self.now (is_taken-no_sources c.args.from.now c.args.self.now c.in_ok-sources.sources sources (c.is_empty.ensures.0 c.if-is_empty.true)))

pub returns-then-is_below-clause-refused : goal.returns-then-is_below-clause-refused
returns-then-is_below-clause-refused c =
    let sources : AreSources c.args.from.now c.args.self.now c.in_ok-sources.sources = subst (λ t. AreSources c.args.from.now t c.in_ok-sources.sources) c.self.view_is c.in_ok-sources.ensures in
    let taken : is_taken c.args.from.now c.args.self.now ≡ true = is_taken-sources c.args.from.now c.args.self.now c.in_ok-sources.sources sources (λ e. true≢false (sym (c.is_empty.ensures.1 e) ∙ c.if-is_empty.false)) in
    let below : c.is_below.result ≡ is_below c.args.from.now c.args.to.now =
    c.is_below.ensures ∙ ap (λ d. is_below d c.as_slice-2.result.now) c.as_slice.ensures.bytes ∙ ap (is_below c.args.from.now) c.as_slice-2.ensures.bytes in
    let inside : is_inside c.args.from.now c.args.to.now c.args.self.now ≡ true = elim c.then-is_below.branch [
      | then-is_below-via-then-is_below w ↦ or_left _ _ (sym below ∙ w.if-is_below.true)
      | then-is_below-via-else-is_below+then-has_too_deep w ↦ or_right (is_below c.args.from.now c.args.to.now) _
          (sym (too_deep-sources c.args.from.now c.args.to.now c.args.self.now c.in_ok-sources.sources c.in_ok-moves.moves.items sources c.in_ok-moves.ensures)
          ∙ ap (list_any (λ m. is_too_deep m.new)) (sym w.as_slice-else-is_below.ensures.value) ∙ sym w.has_too_deep.ensures ∙ w.if-has_too_deep.true)
    ] in
    inr (rename_refusal-inside c.args.from.now c.args.to.now c.args.self.now taken inside)

pub returns-in-Ok-clause-free : goal.returns-in-Ok-clause-free
returns-in-Ok-clause-free c =
    let sources : AreSources c.args.from.now c.args.self.now c.in_ok-sources.sources = subst (λ t. AreSources c.args.from.now t c.in_ok-sources.sources) c.self.view_is c.in_ok-sources.ensures in
    let taken : is_taken c.args.from.now c.args.self.now ≡ true = is_taken-sources c.args.from.now c.args.self.now c.in_ok-sources.sources sources (λ e. true≢false (sym (c.is_empty.ensures.1 e) ∙ c.if-is_empty.false)) in
    let below : is_below c.args.from.now c.args.to.now ≡ false =
    ap (is_below c.args.from.now) (sym c.as_slice-2.ensures.bytes) ∙ ap (λ d. is_below d c.as_slice-2.result.now) (sym c.as_slice.ensures.bytes) ∙ sym c.is_below.ensures ∙ c.if-is_below.false in
    let deep = sym (too_deep-sources c.args.from.now c.args.to.now c.args.self.now c.in_ok-sources.sources c.in_ok-moves.moves.items sources c.in_ok-moves.ensures)
    ∙ ap (list_any (λ m. is_too_deep m.new)) (sym c.as_slice-else-is_below.ensures.value) ∙ sym c.has_too_deep.ensures ∙ c.if-has_too_deep.false in
    let free = rename_refusal-outside c.args.from.now c.args.to.now c.args.self.now taken (or_from _ _ below deep) in
    free ∙ c.in-Ok.ensures.free

pub returns-in-Ok-clause-each : goal.returns-in-Ok-clause-each
returns-in-Ok-clause-each c =
    let sources : AreSources c.args.from.now c.args.self.now c.in_ok-sources.sources = subst (λ t. AreSources c.args.from.now t c.in_ok-sources.sources) c.self.view_is c.in_ok-sources.ensures in
    IsMove-sources c.args.from.now c.args.to.now c.args.self.now c.in_ok-sources.sources c.in_ok-moves.moves.items sources c.in_ok-moves.ensures

pub returns-in-Ok-clause-whole : goal.returns-in-Ok-clause-whole
returns-in-Ok-clause-whole c =
    let sources : AreSources c.args.from.now c.args.self.now c.in_ok-sources.sources = subst (λ t. AreSources c.args.from.now t c.in_ok-sources.sources) c.self.view_is c.in_ok-sources.ensures in
    is_source-sources c.args.from.now c.args.to.now c.args.self.now c.in_ok-sources.sources c.in_ok-moves.moves.items sources c.in_ok-moves.ensures

pub returns-in-Err-clause-refused : goal.returns-in-Err-clause-refused
returns-in-Err-clause-refused c =
    let sources : AreSources c.args.from.now c.args.self.now c.in_ok-sources.sources = subst (λ t. AreSources c.args.from.now t c.in_ok-sources.sources) c.self.view_is c.in_ok-sources.ensures in
    let taken : is_taken c.args.from.now c.args.self.now ≡ true = is_taken-sources c.args.from.now c.args.self.now c.in_ok-sources.sources sources (λ e. true≢false (sym (c.is_empty.ensures.1 e) ∙ c.if-is_empty.false)) in
    let below : is_below c.args.from.now c.args.to.now ≡ false =
    ap (is_below c.args.from.now) (sym c.as_slice-2.ensures.bytes) ∙ ap (λ d. is_below d c.as_slice-2.result.now) (sym c.as_slice.ensures.bytes) ∙ sym c.is_below.ensures ∙ c.if-is_below.false in
    let deep = sym (too_deep-sources c.args.from.now c.args.to.now c.args.self.now c.in_ok-sources.sources c.in_ok-moves.moves.items sources c.in_ok-moves.ensures)
    ∙ ap (list_any (λ m. is_too_deep m.new)) (sym c.as_slice-else-is_below.ensures.value) ∙ sym c.has_too_deep.ensures ∙ c.if-has_too_deep.false in
    let free = rename_refusal-outside c.args.from.now c.args.to.now c.args.self.now taken (or_from _ _ below deep) in
    elim c.in-Err.ensures.refused [ inl memory ↦ inl memory | inr cause ↦ inr (free ∙ cause) ]

pub returns-in-Ok-clause-valid : goal.returns-in-Ok-clause-valid
returns-in-Ok-clause-valid c = c.as_slice-2.ensures.valid
