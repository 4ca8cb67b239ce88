-- The order of cells is total.
use Rattle.std.specs.Cmp.{IsTotalOrder}
use Rattle.std.proofs.lemmas.Cmp.{nat_cmp_total, nat_list_cmp_total, on_total, then_total, back_total}
use Rattle.hb_cell.specs.declared.cell.Cell.{Cell}
use Rattle.hb_cell.specs.Kinds.{code}
use Rattle.hb_cell.specs.Order.{column_cmp, version_cmp, key_cmp}

column_cmp_total : IsTotalOrder column_cmp
column_cmp_total = then_total (on_total (λ (c : Cell). c.row) nat_list_cmp_total) (then_total (on_total (λ (c : Cell). c.family) nat_list_cmp_total) (on_total (λ (c : Cell). c.qualifier) nat_list_cmp_total))

version_cmp_total : IsTotalOrder version_cmp
version_cmp_total = then_total (on_total (λ (c : Cell). c.ts) (back_total nat_cmp_total)) (then_total (on_total (λ (c : Cell). code c.kind) (back_total nat_cmp_total)) (on_total (λ (c : Cell). c.seq) (back_total nat_cmp_total)))

pub key_cmp_total : IsTotalOrder key_cmp
key_cmp_total = then_total column_cmp_total (then_total version_cmp_total (on_total (λ (c : Cell). c.value) nat_list_cmp_total))
