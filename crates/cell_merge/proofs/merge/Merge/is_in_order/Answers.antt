use Rattle.std.proofs.Common.{sym, ap, ◌∙◌}
use Rattle.std.specs.BinaryHeap.{heap_items}
use Rattle.cell_merge.specs.Heads.{all_left}
use Rattle.cell_sight.specs.Same.{sorted}
use Rattle.cell_merge.proofs.InputLemmas.{sorted-again}
use Rattle.cell_merge.proofs.merge.Merge.is_in_order.Goals as goal

pub returns : goal.returns
returns c = ap sorted (sym c.self.view_is) ∙ sorted-again (all_left (heap_items c.self.inside.heads)) ∙ c.self.view_is
