use Rattle.std.proofs.Common.{◌≡◌, ◌∙◌, true, false, List, ℕ, sym, subst, ap}
use Rattle.hfile_write.specs.Blocks.{blocks_of}
use Rattle.hfile_write.specs.Ended.{key_in, HasFirstKey, with_block, ended_of}
use Rattle.hfile_write.proofs.Cuts.{written-first, written-all}
use Rattle.hfile_write.proofs.data.DataBlocks.finish.Goals as goal

not_true : false ≡ true → ⊥
not_true t = cc

pub end-requires-clause-first : goal.end-requires-clause-first
end-requires-clause-first c =
    subst HasFirstKey (sym c.as_slice.ensures) (written-first c.self.inside.cells c.self.inside.ended c.self.inside.block c.self.invariant (λ e. not_true (c.if-is_empty.ensures.1 e))).has

pub returns : goal.returns
returns c =
    c.in_ok-end.ensures.ok ∙ ap (λ (t : List ℕ). with_block c.self.inside.ended t (key_in t)) c.as_slice.ensures
    ∙ written-all c.self.inside.cells c.self.inside.ended c.self.inside.block c.self.invariant (λ e. not_true (c.if-is_empty.ensures.1 e))
    ∙ ap (λ cells. ended_of (blocks_of cells)) c.self.view_is
