-- Levels that are built one by one.
use Rattle.std.proofs.Common.{◌≡◌, ℕ, zero, suc, ◌+◌, ◌-◌, ◌<◌, ◌≤◌, List, [], ◌++◌, length, take, drop, map, inl, inr, refl, sym, ap, ◌∙◌, append_assoc, append-nil, arith}
use Rattle.std.specs.Simd.{first_chunks}
use Rattle.std.proofs.lemmas.Bool.{le-leb, lt-leb}
use Rattle.std.proofs.lemmas.Bool.Decides.{leb_tells}
use Rattle.hfile_index.specs.declared.entry.IndexEntry.{IndexEntry}
use Rattle.hfile_index.specs.Written.{node_bytes, node_count, nodes_of, node_size, behind, named, end_of, Above, root_alone, with_level, above}

abbrev pub Above-of : List (List ℕ) → List IndexEntry → ℕ → Above
Above-of nodes root below = record { nodes = nodes; root = root; below = below }

-- levels that were built already stand below those that are left
abbrev pub behind_levels : List (List ℕ) → ℕ → Above → Above
behind_levels nodes below up = record { nodes = nodes ++ up.nodes; root = up.root; below = below + up.below }

same_levels : (root : List IndexEntry) (nodes others : List (List ℕ)) (below more : ℕ) → nodes ≡ others → below ≡ more
    → Above-of nodes root below ≡ Above-of others root more
same_levels root nodes others below more p q = λ i. record { nodes = p i; root = root; below = q i }

-- ---- a level has fewer names than entries

length-named : (at k : ℕ) (es : List IndexEntry) → length (named at (first_chunks 128 k es)) ≡ k
length-named at zero es = refl
length-named at (suc k) es = ap suc (length-named (behind at (node_size (take 128 es))) k (drop 128 es))

pub length-names : (at : ℕ) (es : List IndexEntry) → length (named at (nodes_of es)) ≡ node_count (length es)
length-names at es = length-named at (node_count (length es)) es

-- ---- as many levels suffice

pub few_above : (more at : ℕ) (es : List IndexEntry) → length es ≤ 128 → above more at es ≡ root_alone es
few_above zero at es few = refl
few_above (suc more) at es few = rw (le-leb (length es) 128 few) refl

pub more_above : (more at : ℕ) (es : List IndexEntry) → 128 < length es
    → above (suc more) at es ≡ with_level (nodes_of es) (above more (end_of at (nodes_of es)) (named at (nodes_of es)))
more_above more at es many = rw (lt-leb (length es) 128 many) refl

pub fewer : (at : ℕ) (es : List IndexEntry) (k : ℕ) → 128 < length es → length es ≤ suc k → length (named at (nodes_of es)) ≤ k
fewer at es k many room = omega (arith, length-names at es)

pub enough_above : (k m at : ℕ) (es : List IndexEntry) → length es ≤ k → length es ≤ m → above k at es ≡ above m at es
enough_above zero m at es a b = sym (few_above m at es (omega arith))
enough_above (suc k) zero at es a b = few_above (suc k) at es (omega arith)
enough_above (suc k) (suc m) at es a b =
    elim (leb_tells (length es) 128) [
      | inl few ↦ few_above (suc k) at es few.1 ∙ sym (few_above (suc m) at es few.1)
      | inr many ↦ more_above k at es many.1
          ∙ ap (with_level (nodes_of es)) (enough_above k m (end_of at (nodes_of es)) (named at (nodes_of es)) (fewer at es k many.1 a) (fewer at es m many.1 b))
          ∙ sym (more_above m at es many.1)
    ]

-- the levels above entries that a root cannot hold
pub levels_more : (at : ℕ) (es : List IndexEntry) → 128 < length es
    → above (length es) at es ≡ with_level (nodes_of es) (above (length (named at (nodes_of es))) (end_of at (nodes_of es)) (named at (nodes_of es)))
levels_more at es many =
    let some : length es ≡ suc (length es - 1) = omega arith in
    let names = named at (nodes_of es) in
    ap (λ (n : ℕ). above n at es) some ∙ more_above (length es - 1) at es many
    ∙ ap (with_level (nodes_of es)) (enough_above (length es - 1) (length names) (end_of at (nodes_of es)) names (fewer at es (length es - 1) many (omega arith)) (omega arith))

-- ---- a level more

pub levels-push : (nodes : List (List ℕ)) (below at : ℕ) (es : List IndexEntry) (whole : Above) → 128 < length es
    → behind_levels nodes below (above (length es) at es) ≡ whole
    → behind_levels (nodes ++ map node_bytes (nodes_of es)) (below + 1) (above (length (named at (nodes_of es))) (end_of at (nodes_of es)) (named at (nodes_of es))) ≡ whole
levels-push nodes below at es whole many all =
    let up = above (length (named at (nodes_of es))) (end_of at (nodes_of es)) (named at (nodes_of es)) in
    same_levels up.root ((nodes ++ map node_bytes (nodes_of es)) ++ up.nodes) (nodes ++ (map node_bytes (nodes_of es) ++ up.nodes)) (below + 1 + up.below) (below + (up.below + 1))
    (append_assoc nodes (map node_bytes (nodes_of es)) up.nodes) (omega arith)
    ∙ ap (behind_levels nodes below) (sym (levels_more at es many)) ∙ all

pub levels-none : (at : ℕ) (es : List IndexEntry) (nodes : List (List ℕ)) → nodes ≡ [] → behind_levels nodes 0 (above (length es) at es) ≡ above (length es) at es
levels-none at es nodes none =
    let up = above (length es) at es in
    same_levels up.root (nodes ++ up.nodes) up.nodes (0 + up.below) up.below (ap (λ (ns : List (List ℕ)). ns ++ up.nodes) none) (omega arith)

pub levels-all : (nodes : List (List ℕ)) (below at : ℕ) (es : List IndexEntry) (whole : Above) → length es ≤ 128
    → behind_levels nodes below (above (length es) at es) ≡ whole → Above-of nodes es below ≡ whole
levels-all nodes below at es whole few all =
    same_levels es nodes (nodes ++ []) below (below + 0) (sym (append-nil nodes)) (omega arith)
    ∙ ap (behind_levels nodes below) (sym (few_above (length es) at es few)) ∙ all

-- the same of what a level was built as
pub levels-built : (nodes added more : List (List ℕ)) (below at end : ℕ) (es names : List IndexEntry) (whole : Above) → 128 < length es
    → behind_levels nodes below (above (length es) at es) ≡ whole → more ≡ nodes ++ added → added ≡ map node_bytes (nodes_of es) → names ≡ named at (nodes_of es) → end ≡ end_of at (nodes_of es)
    → behind_levels more (below + 1) (above (length names) end names) ≡ whole
levels-built nodes added more below at end es names whole many all is_more is_added is_names is_end =
    let up : ℕ → List IndexEntry → Above = λ n ns. above (length ns) n ns in
    ap (λ (ns : List (List ℕ)). behind_levels ns (below + 1) (up end names)) (is_more ∙ ap (λ (ns : List (List ℕ)). nodes ++ ns) is_added)
    ∙ ap (λ (n : ℕ). behind_levels (nodes ++ map node_bytes (nodes_of es)) (below + 1) (up n names)) is_end
    ∙ ap (λ (ns : List IndexEntry). behind_levels (nodes ++ map node_bytes (nodes_of es)) (below + 1) (up (end_of at (nodes_of es)) ns)) is_names
    ∙ levels-push nodes below at es whole many all
