use Rattle.std.proofs.Common.{ℕ, List, Option, subst, sym}
use Rattle.std.specs.Option.{option_copied}
use Rattle.hb_grammar.specs.TextOf.{IsTextOf}
use Rattle.commit_line.specs.ListError.{IsFrontRefusal, IsValueAt}
use Rattle.commit_line.specs.Rows.{AreRows}
use Rattle.commit_line.proofs.RowLemmas.{AreRows-push}
use Rattle.region_set.specs.FamilyLine.{IsFamilyBehind, family_text, begins_family}
use Rattle.region_set.proofs.RowReadLemmas.{last_of-items, AreRowsRead-Err}
use Rattle.region_set.proofs.family_line.read_families.Goals as goal

pub loop-alloc-preserved : goal.loop-alloc-preserved
loop-alloc-preserved c =
    let rows = c.loop-alloc.families.items in
    let last = last_of-items rows c.as_slice.result.now (option_copied c.last.result) c.as_slice.ensures.value c.last.ensures.value in
    let found = subst (λ (o : Option (List ℕ × ℕ)). IsValueAt (IsFamilyBehind o) family_text c.args.bytes.now c.loop-alloc.place c.in_ok-family.family c.in_ok-family.end) last
    c.in_ok-family.ensures in
    subst (λ (x : List (List ℕ × ℕ)). AreRows IsFamilyBehind family_text c.args.bytes.now c.args.at x c.in_ok-family.end) (sym c.in_ok-push.ensures.items)
    (AreRows-push IsFamilyBehind family_text c.args.bytes.now c.args.at c.loop-alloc.place c.in_ok-family.end rows c.in_ok-family.family c.loop-alloc.invariant found)

pub returns-in_err-family : goal.returns-in_err-family
returns-in_err-family c =
    let rows = c.loop-alloc.families.items in
    let error = c.in_err-family.field-0.0 in
    let last = last_of-items rows c.as_slice.result.now (option_copied c.last.result) c.as_slice.ensures.value c.last.ensures.value in
    AreRowsRead-Err IsFamilyBehind family_text begins_family c.args.bytes.now c.args.at c.from_residual.result error c.from_residual.ensures.1 record {
      rows = rows;
      mid = c.loop-alloc.place;
      before = c.loop-alloc.invariant;
      begun = c.begins.ensures.0 c.loop-alloc-test.true;
      refused = subst (λ (o : Option (List ℕ × ℕ)). IsFrontRefusal (IsTextOf (IsFamilyBehind o) family_text) c.args.bytes.now c.loop-alloc.place error) last c.in_err-family.ensures;
    }
