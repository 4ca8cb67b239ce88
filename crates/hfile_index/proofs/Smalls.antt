-- The nodes of an index are small.
use Rattle.std.proofs.Common.{ℕ, zero, suc, ◌*◌, ◌/◌, ◌%◌, ◌^◌, ◌<◌, ◌≤◌, ltb, List, [], ◌∷◌, ◌++◌, length, take, drop, map, Option, Some, None, Result, Ok, Err, inl, inr, sym, subst, arith}
use Rattle.std.specs.Prelude.{pos, slice_get, IfOk}
use Rattle.std.specs.List.{AllByRecursion}
use Rattle.std.specs.Simd.{first_chunks}
use Rattle.std.proofs.lemmas.List.{length-append, length-take}
use Rattle.std.proofs.lemmas.Bool.{cond_both}
use Rattle.std.proofs.lemmas.Bool.Decides.{leb_tells}
use Rattle.hb_wire.specs.Fixed.{be_bytes}
use Rattle.hb_wire.specs.Vlong.{byte_count, counted, vlong}
use Rattle.hb_wire.proofs.BigEndian.{length-be_bytes}
use Rattle.hb_wire.proofs.Vlongs.{IsCount-byte_count}
use Rattle.byteorder.specs.Numbers.{length-bytes_high_first}
use Rattle.hfile_index.specs.declared.entry.IndexEntry.{IndexEntry}
use Rattle.hfile_index.specs.Short.{HaveShortKeys, IsSmall, HasSmallNodes}
use Rattle.hfile_index.specs.Written.{root_entry_bytes, root_bytes, node_bytes, node_count, nodes_of, named, end_of, Above, above, middle, middle_in, middle_bytes, flat_index, deep_index}
use Rattle.hfile_index.proofs.Building.{short-take, short-drop, short-named, node_small}
use Rattle.hfile_index.proofs.Levels.{few_above, more_above, fewer}

-- ---- roots

pub length-vlong : (n : ℕ) → n < 2 ^ 63 → length (vlong (pos n)) ≤ 9
unfolding vlong
length-vlong n small =
    let count = IsCount-byte_count n small in
    let long : length (counted 144 n) ≤ 9 = omega (arith, length-bytes_high_first (byte_count n) n, count.high) in
    cond_both (ltb n 128) (n ∷ []) (counted 144 n) (λ (t : List ℕ). length t ≤ 9) (λ t. omega arith) (λ t. long)

length-root_bytes : (es : List IndexEntry) → HaveShortKeys es → length (root_bytes es) ≤ 65694 * length es
length-root_bytes [] short = omega arith
length-root_bytes (e ∷ es) short =
    let key : length e.key ≤ 65673 = short.0 in
    omega (
      arith,
      length-append (root_entry_bytes e) (root_bytes es),
      length-append (be_bytes 8 e.offset) (be_bytes 4 e.size ++ (vlong (pos (length e.key)) ++ e.key)),
      length-append (be_bytes 4 e.size) (vlong (pos (length e.key)) ++ e.key),
      length-append (vlong (pos (length e.key))) e.key,
      length-be_bytes 8 e.offset,
      length-be_bytes 4 e.size,
      length-vlong (length e.key) (omega arith),
      length-root_bytes es short.1,
    )

length-middle_in : (leaf : Option IndexEntry) (i : ℕ) → length (middle_in leaf i) ≤ 16
length-middle_in None i = omega arith
length-middle_in (Some leaf) i =
    omega (
      arith,
      length-append (be_bytes 8 leaf.offset) (be_bytes 4 leaf.size ++ be_bytes 4 i),
      length-append (be_bytes 4 leaf.size) (be_bytes 4 i),
      length-be_bytes 8 leaf.offset,
      length-be_bytes 4 leaf.size,
      length-be_bytes 4 i,
    )

length-middle_bytes : (leaves : List IndexEntry) (n : ℕ) → length (middle_bytes leaves n) ≤ 16
unfolding middle_bytes
length-middle_bytes leaves n = length-middle_in (slice_get leaves (middle n / 128)) (middle n % 128)

root_small : (es : List IndexEntry) (more : List ℕ) → HaveShortKeys es → length es ≤ 128 → length more ≤ 16 → IsSmall (root_bytes es ++ more)
root_small es more short few little = omega (arith, length-append (root_bytes es) more, length-root_bytes es short)

-- ---- other nodes

few-take : (es : List IndexEntry) → length (take 128 es) ≤ 128
few-take es = omega (arith, length-take 128 es)

nodes_small : (k : ℕ) (es : List IndexEntry) → HaveShortKeys es → AllByRecursion IsSmall (map node_bytes (first_chunks 128 k es))
nodes_small zero es short = tt
nodes_small (suc k) es short = (node_small (take 128 es) (short-take 128 es short) (few-take es), nodes_small k (drop 128 es) (short-drop 128 es short))

All-append : (xs ys : List (List ℕ)) → AllByRecursion IsSmall xs → AllByRecursion IsSmall ys → AllByRecursion IsSmall (xs ++ ys)
All-append [] ys p q = q
All-append (x ∷ xs) ys p q = (p.0, All-append xs ys p.1 q)

-- what stands above entries: small nodes, and a root of few entries with short keys
record IsSmallAbove (up : Above) : Type 0 where
  nodes : AllByRecursion IsSmall up.nodes
  short : HaveShortKeys up.root
  few : length up.root ≤ 128

above_small : (more at : ℕ) (es : List IndexEntry) → length es ≤ more → HaveShortKeys es → IsSmallAbove (above more at es)
above_small zero at es room short = record { nodes = tt; short = short; few = omega arith }
above_small (suc more) at es room short =
    elim (leb_tells (length es) 128) [
      | inl few ↦ subst IsSmallAbove (sym (few_above (suc more) at es few.1)) (record { nodes = tt; short = short; few = few.1 })
      | inr many ↦
          let names = named at (nodes_of es) in
          let up = above_small more (end_of at (nodes_of es)) names (fewer at es more many.1 room) (short-named at (node_count (length es)) es short) in
          subst IsSmallAbove (sym (more_above more at es many.1)) (record { nodes = All-append (map node_bytes (nodes_of es)) (above more (end_of at (nodes_of es)) names).nodes (nodes_small (node_count (length es)) es short) up.nodes; short = up.short; few = up.few })
    ]

-- ---- the index

pub flat_small : (es : List IndexEntry) → HaveShortKeys es → length es ≤ 128 → HasSmallNodes (flat_index es)
flat_small es short few = record { leaves = tt; intermediates = tt; root = omega (arith, length-root_bytes es short) }

pub deep_small : (at : ℕ) (es : List IndexEntry) → HaveShortKeys es → HasSmallNodes (deep_index at es)
deep_small at es short =
    let names = named at (nodes_of es) in
    let up = above (length names) (end_of at (nodes_of es)) names in
    let small = above_small (length names) (end_of at (nodes_of es)) names (omega arith) (short-named at (node_count (length es)) es short) in
    record {
      leaves = nodes_small (node_count (length es)) es short;
      intermediates = small.nodes;
      root = root_small up.root (middle_bytes names (length es)) small.short small.few (length-middle_bytes names (length es));
    }

-- ---- answers

pub IfOk-to : {A E : Type 0} {P Q : A → Type 0} (r : Result A E) → ((x : A) → P x → Q x) → IfOk r P → IfOk r Q
IfOk-to (Ok x) f p = f x p
IfOk-to (Err e) f p = tt
