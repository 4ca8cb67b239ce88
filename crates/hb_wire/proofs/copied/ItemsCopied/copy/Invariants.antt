use Rattle.std.proofs.Common.{◌≡◌, take}
use Rattle.hb_wire.proofs.copied.ItemsCopied.copy.Given as goal

-- the copies so far are the items before the index
abbrev pub invariant-loop-item : goal.invariant-loop-item
invariant-loop-item g l = record {
  copied : l.items.items ≡ take l.item-index l.item-items;
  whole : l.item-items ≡ l.self;
}
