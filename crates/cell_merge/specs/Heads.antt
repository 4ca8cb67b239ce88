-- What the private fields of a merge stand for. No public clause speaks of it.
use Rattle.std.specs.Prelude.{◌≡◌, ◌≤◌, List, [], ◌∷◌, ◌++◌}
use Rattle.std.specs.List.{All}
use Rattle.std.specs.Vec.Iter.{into_iter_items}
use Rattle.std.specs.BinaryHeap.{heap_items, heap_len, heap_capacity, IsHeap}
use Rattle.std.specs.declared.cmp.Ordering.{Ordering}
use Rattle.std.specs.declared.collections.BinaryHeap.{BinaryHeap}
use Rattle.hb_cell.specs.declared.cell.Cell.{Cell}
use Rattle.hb_cell.specs.Order.{key_cmp}
use Rattle.cell_sight.specs.Same.{sorted}
use Rattle.cell_merge.specs.declared.head.Head.{Head}

-- what an input has left, its least cell first
abbrev pub left_of : Head → List Cell
left_of head = head.cell ∷ into_iter_items head.rest

-- what all inputs have left
abbrev pub all_left : List Head → List Cell
all_left [] = []
all_left (head ∷ heads) = left_of head ++ all_left heads

-- the head with the least cell is the greatest
abbrev pub head_cmp : Head → Head → Ordering
head_cmp a b = key_cmp b.cell a.cell

-- each input's cells stand in key order
abbrev pub AreInOrder : List Head → Type 0
AreInOrder heads = All (λ head. sorted (left_of head) ≡ left_of head) heads

-- the heap is in order, with room for all that it was made for
pub record AreReady {Z : Type 0} (heads : BinaryHeap Head Z) : Type 0 where
  pub heap : IsHeap head_cmp (heap_items heads)
  pub room : heap_len heads ≤ heap_capacity heads
  pub order : AreInOrder (heap_items heads)
