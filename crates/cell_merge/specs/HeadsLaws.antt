-- The order of heads is total.
use Rattle.std.specs.Cmp.{IsTotalOrder}
use Rattle.std.proofs.lemmas.Cmp.{on_total, back_total}
use Rattle.hb_cell.specs.OrderLaws.{key_cmp_total}
use Rattle.cell_merge.specs.declared.head.Head.{Head}
use Rattle.cell_merge.specs.Heads.{head_cmp}

pub head_cmp_total : IsTotalOrder head_cmp
head_cmp_total = on_total (λ (head : Head). head.cell) (back_total key_cmp_total)
