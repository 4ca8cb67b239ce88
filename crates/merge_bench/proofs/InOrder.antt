-- Inputs in key order, with one more.
use Rattle.std.proofs.Common.{◌≡◌, List, [], ◌∷◌, ◌++◌}
use Rattle.cell_sight.specs.Same.{sorted}
use Rattle.cell_merge.specs.declared.input.Input.{Input}
use Rattle.cell_merge.specs.Input.{IsInOrder}

pub IsInOrder-push : (inputs : List Input) (input : Input) → IsInOrder inputs → sorted input.cells ≡ input.cells → IsInOrder (inputs ++ input ∷ [])
IsInOrder-push [] input all order = (order, all)
IsInOrder-push (_ ∷ inputs) input all order = (all.0, IsInOrder-push inputs input all.1 order)
