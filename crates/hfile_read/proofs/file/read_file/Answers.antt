use Rattle.std.proofs.Common.{◌≡◌, List, ℕ, false, Ok, sym, subst, arith}
use Rattle.std.proofs.lemmas.Result.{err_from_is_err_and}
use Rattle.hb_cell.specs.declared.cell.Cell.{Cell}
use Rattle.hfile_meta.specs.Info.{IsInfo, is_encoded, with_numbers}
use Rattle.hfile_form.specs.File.{IsHFile, IsInfoFault, opened_at, rest_at}
use Rattle.hfile_read.specs.Answers.{Says, Fails}
use Rattle.hfile_read.specs.Views.{opened_view}
use Rattle.hfile_read.proofs.Files.{wrong_info, wrong_rest, right_rest}
use Rattle.hfile_read.proofs.file.read_file.Goals as goal

pub returns-in_err-with_seq : goal.returns-in_err-with_seq
returns-in_err-with_seq c =
    let p = err_from_is_err_and c.from_residual-in_err-with_seq.result c.from_residual-in_err-with_seq.ensures.1 in
    let t = c.in_ok-trailer.trailer in
    let o = opened_view c.in_ok-opened.opened in
    let e = c.in_err-with_seq.field-0.0 in
    let found = subst (λ (body : List ℕ). opened_at t body ≡ Ok o) c.split_at.ensures.front c.in_ok-opened.ensures.exact in
    rw (p.1, p.2) (wrong_info c.args.bytes.now t o e c.in_ok-trailer.ensures.found found (subst (λ (bs : List ℕ). Says e (IsInfoFault bs t.info_at e)) c.content.ensures c.in_err-with_seq.ensures.fault))

pub returns-in_err-cells : goal.returns-in_err-cells
returns-in_err-cells c =
    let p = err_from_is_err_and c.from_residual-in_err-cells.result c.from_residual-in_err-cells.ensures.1 in
    let t = c.in_ok-trailer.trailer in
    let o = opened_view c.in_ok-opened.opened in
    let with_seq = c.in_ok-with_seq.with_seq in
    let e = c.in_err-cells.field-0.0 in
    let found = subst (λ (body : List ℕ). opened_at t body ≡ Ok o) c.split_at.ensures.front c.in_ok-opened.ensures.exact in
    let told = subst (λ (bs : List ℕ). (pairs : List (List ℕ × List ℕ)) × IsInfo bs pairs × (is_encoded pairs ≡ false) × (with_seq ≡ with_numbers pairs)) c.content.ensures c.in_ok-with_seq.ensures.found in
    rw (p.1, p.2) (wrong_rest c.args.bytes.now t o with_seq e c.in_ok-trailer.ensures.found found told (subst (λ (body : List ℕ). Fails e (rest_at t o with_seq body)) c.split_at.ensures.front c.in_err-cells.ensures))

pub returns : goal.returns
returns c =
    let t = c.in_ok-trailer.trailer in
    let o = opened_view c.in_ok-opened.opened in
    let with_seq = c.in_ok-with_seq.with_seq in
    let cells = c.in_ok-cells.cells.items in
    let found = subst (λ (body : List ℕ). opened_at t body ≡ Ok o) c.split_at.ensures.front c.in_ok-opened.ensures.exact in
    let told = subst (λ (bs : List ℕ). (pairs : List (List ℕ × List ℕ)) × IsInfo bs pairs × (is_encoded pairs ≡ false) × (with_seq ≡ with_numbers pairs)) c.content.ensures c.in_ok-with_seq.ensures.found in
    subst (λ (cs : List Cell). IsHFile c.args.bytes.now cs) (sym c.from_vec.ensures)
    (right_rest c.args.bytes.now t o with_seq cells (λ i. omega (arith, c.type_inv.bytes i)) c.in_ok-trailer.ensures.found found told (subst (λ (body : List ℕ). rest_at t o with_seq body ≡ Ok cells) c.split_at.ensures.front c.in_ok-cells.ensures))
