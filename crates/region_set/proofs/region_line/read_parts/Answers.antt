use Rattle.std.proofs.Common.{◌≡◌, option_copied, option_map, ap, ◌∙◌, subst, sym}
use Rattle.std.proofs.lemmas.Result.{err_from_is_err_and}
use Rattle.commit_line.specs.ListError.{IsValueAt, IsFrontRefusal}
use Rattle.hb_grammar.specs.TextOf.{IsTextOf}
use Rattle.hb_row_text.specs.RowText.{row_text}
use Rattle.region_set.specs.RegionParts.{bound_text, IsId, id_field}
use Rattle.commit_line.specs.declared.error.ListError.TheVariants.{BadList}
use Rattle.region_set.proofs.RegionLineLemmas.{IsRowText-bound_text, IsFrontRefusal-id, IsFrontRefusal-rest, IsValueAt-parts}
use Rattle.region_set.proofs.region_line.read_parts.Goals as goal

pub returns-in_err-id : goal.returns-in_err-id
returns-in_err-id c =
    let p = err_from_is_err_and c.from_residual.result c.from_residual.ensures.1 in
    let last = option_copied c.args.last in
    let refused = subst (λ low. IsFrontRefusal (IsTextOf (IsId low) id_field) c.args.bytes.now c.args.at (BadList c.in_err-id.field-0.0.0)) c.least_id.ensures c.in_err-id.ensures in
    rw (p.1, p.2) (IsFrontRefusal-id last c.requires.last c.args.bytes.now c.args.at (BadList c.in_err-id.field-0.0.0) refused)

pub read_rest-requires-clause-bounded : goal.read_rest-requires-clause-bounded
read_rest-requires-clause-bounded c text e =
    let last = option_copied c.args.last in
    let bound : option_copied c.bytes_of.result ≡ bound_text last c.in_ok-id.id = c.bytes_of.ensures ∙ c.in_ok-bound.ensures in
    IsRowText-bound_text last c.in_ok-id.id c.requires.last text (sym bound ∙ e)

pub returns-in_err-rest : goal.returns-in_err-rest
returns-in_err-rest c =
    let p = err_from_is_err_and c.from_residual-in_err-rest.result c.from_residual-in_err-rest.ensures.1 in
    let last = option_copied c.args.last in
    let bytes = c.args.bytes.now in
    let bound : option_copied c.bytes_of.result ≡ bound_text last c.in_ok-id.id = c.bytes_of.ensures ∙ c.in_ok-bound.ensures in
    let first = subst (λ low. IsValueAt (IsId low) id_field bytes c.args.at c.in_ok-id.id c.in_ok-id.rest_at) c.least_id.ensures c.in_ok-id.ensures in
    rw (p.1, p.2) (IsFrontRefusal-rest last bytes c.args.at c.in_ok-id.rest_at c.in_ok-id.id first (option_copied c.bytes_of.result) bound
    c.in_err-rest.field-0.0 c.in_err-rest.ensures)

pub returns : goal.returns
returns c =
    let last = option_copied c.args.last in
    let bytes = c.args.bytes.now in
    let bound : option_copied c.bytes_of.result ≡ bound_text last c.in_ok-id.id = c.bytes_of.ensures ∙ c.in_ok-bound.ensures in
    let first = subst (λ low. IsValueAt (IsId low) id_field bytes c.args.at c.in_ok-id.id c.in_ok-id.rest_at) c.least_id.ensures c.in_ok-id.ensures in
    IsValueAt-parts last bytes c.args.at c.in_ok-id.rest_at c.in_ok-rest.end c.in_ok-id.id first (option_copied c.bytes_of.result) bound c.in_ok-rest.rest
    c.in_ok-rest.ensures
