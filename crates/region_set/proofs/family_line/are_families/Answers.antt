use Rattle.std.proofs.Common.{ℕ, List, Option, None, subst, sym}
use Rattle.hb_grammar.proofs.TestLemmas.{refused}
use Rattle.region_set.specs.FamilyLine.{IsFamilyBehind}
use Rattle.region_set.proofs.RowReadLemmas.{RowsFrom-take_more, last_of-take_more, RowsFrom-get_or}
use Rattle.region_set.proofs.family_line.are_families.Goals as goal

pub loop-family-preserved : goal.loop-family-preserved
loop-family-preserved c =
    let family = c.family-item.result in
    let so_far = c.loop-family.invariant in record {
      each = RowsFrom-take_more IsFamilyBehind None c.args.families.now c.loop-family.family-index family c.loop-family-test.true c.family-item.is so_far.each
          (subst (λ (o : Option (List ℕ × ℕ)). IsFamilyBehind o family) so_far.known (c.is_behind.ensures.0 c.if-not-is_behind.false));
      known = last_of-take_more None c.args.families.now c.loop-family.family-index family c.loop-family-test.true c.family-item.is;
    }

pub returns-then-not-is_behind : goal.returns-then-not-is_behind
returns-then-not-is_behind c = (
  λ e. absurd cc,
  λ each.
      let family = c.family-item.result in
      absurd (refused c.is_behind.ensures c.if-not-is_behind.true
      (subst (λ (o : Option (List ℕ × ℕ)). IsFamilyBehind o family) (sym c.loop-family.invariant.known)
      (RowsFrom-get_or IsFamilyBehind None c.args.families.now c.loop-family.family-index family c.loop-family-test.true c.family-item.is each))),
)
