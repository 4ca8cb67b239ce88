-- The nodes of an index (HBase Reference Guide, HFile format, block index; HFileBlockIndex): each entry has the place of
-- a block, its size with its header, and a key.
use Rattle.std.specs.Prelude.{◌≡◌, ℕ, zero, suc, ◌+◌, ◌-◌, ◌*◌, ℤ, pos, negsuc, ◌==◌, ◌||◌, not, nat_lt, if◌then◌else◌, List, [], ◌∷◌, length, take, drop, Option, Some, None, is_some, Result, Ok, Err}
use Rattle.hb_wire.specs.declared.fault.WireError.{WireError}
use Rattle.hb_wire.specs.Fixed.{be_number}
use Rattle.hb_wire.specs.Vlong.{vlong_at}
use Rattle.hfile_index.specs.declared.entry.IndexEntry.{IndexEntry}
use Rattle.hfile_index.specs.declared.fault.BadIndex.{BadIndex}
use Rattle.hfile_index.specs.declared.fault.BadIndex.TheVariants as errors
use Rattle.hfile_index.specs.declared.root.RootNode.{RootNode}
use Rattle.hfile_index.specs.IndexKey.{key_at, ◌>>=◌}

-- an entry whose key is one
abbrev pub entry_of : ℕ → ℕ → List ℕ → Option IndexEntry
entry_of offset size key = if is_some (key_at key) then Some (record { offset = offset; size = size; key = key }) else None

-- so many bytes, behind their count, and the bytes behind them
abbrev pub counted_from : List ℕ → Result (ℤ × ℕ) WireError → Option (List ℕ × List ℕ)
counted_from bytes (Ok (pos n, used)) = if nat_lt (length (drop used bytes)) n then None else Some (take n (drop used bytes), drop n (drop used bytes))
counted_from bytes (Ok (negsuc n, used)) = None
counted_from bytes (Err e) = None

unfoldable pub counted_at : List ℕ → Option (List ℕ × List ℕ)
counted_at bytes = counted_from bytes (vlong_at bytes)

-- the entry of a root at the front, and the bytes behind it
unfoldable pub root_entry_at : List ℕ → Option (IndexEntry × List ℕ)
root_entry_at bytes =
    if nat_lt (length bytes) 12 then None
    else (do
      key ← counted_at (drop 12 bytes)
      entry ← entry_of (be_number 8 bytes) (be_number 4 (drop 8 bytes)) key.0
      Some (entry, key.1))

-- so many entries of a root, and the bytes behind them
abbrev pub root_entries_at : ℕ → List ℕ → Option (List IndexEntry × List ℕ)
root_entries_at zero bytes = Some ([], bytes)
root_entries_at (suc n) bytes = root_entry_at bytes >>= λ x. root_entries_at n x.1 >>= λ y. Some (x.0 ∷ y.0, y.1)

-- the entries of a root and what stands behind them: nothing, or a middle key
unfoldable pub root_at : ℕ → List ℕ → Option (List IndexEntry × List ℕ)
root_at count content = do
  read ← root_entries_at count content
  if (length read.1 == 0) || (length read.1 == 16) then Some read else None

-- the entry of another node at the front, by where it begins and where the next one does, and the bytes behind it
unfoldable pub node_entry_at : List ℕ → List ℕ → Option (IndexEntry × List ℕ)
node_entry_at table bytes =
    let from = be_number 4 table in
    let next = be_number 4 (drop 4 table) in
    let len = next - from in
    if nat_lt next (from + 12) || nat_lt (length bytes) len then None
    else (do
      entry ← entry_of (be_number 8 bytes) (be_number 4 (drop 8 bytes)) (take (len - 12) (drop 12 bytes))
      Some (entry, drop len bytes))

-- so many entries of another node, to the end of the bytes
abbrev pub node_entries_at : ℕ → List ℕ → List ℕ → Option (List IndexEntry)
node_entries_at zero table bytes = if length bytes == 0 then Some [] else None
node_entries_at (suc n) table bytes = node_entry_at table bytes >>= λ x. node_entries_at n (drop 4 table) x.1 >>= λ y. Some (x.0 ∷ y)

-- the entries of another node
unfoldable pub node_at : List ℕ → Option (List IndexEntry)
node_at content =
    let count = be_number 4 content in
    if nat_lt (length content) 8 || nat_lt (length content) (8 + 4 * count) || not (be_number 4 (drop 4 content) == 0) then None
    else node_entries_at count (drop 4 content) (drop (8 + 4 * count) content)

-- the entries of a root
abbrev pub root_entries_of : ℕ → List ℕ → Option (List IndexEntry)
root_entries_of count content = root_at count content >>= λ x. Some x.0

-- the entries of a root, and whether a middle key stands behind them
abbrev pub root_node_at : ℕ → List ℕ → Option RootNode
root_node_at count content = root_at count content >>= λ x. Some (record { entries = x.0; middle = length x.1 == 16 })

-- ---- answers

-- what a reader answered is what reading gives, unless memory ran out; the place of a node that is not in its form is 0
abbrev pub Gives : {X Y : Type 0} → (X → Y) → Result X BadIndex → Option Y → Type 0
Gives view (Ok x) read = read ≡ Some (view x)
Gives view (Err (errors.BadIndex at)) read = (at ≡ 0) × (read ≡ None)
Gives view (Err errors.NoMemory) read = Unit {0}
