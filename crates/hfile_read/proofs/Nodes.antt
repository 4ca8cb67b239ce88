-- The nodes of the index, as a map and as a function of their places.
use Rattle.std.proofs.Common.{◌≡◌, ℕ, Bool, true, false, cond, eqb, List, [], Option, None, option_map, refl, ap, ◌∙◌, arith}
use Rattle.std.proofs.Math.Path.{fun_ext}
use Rattle.std.proofs.lemmas.Bool.Decides.{nat_tests}
use Rattle.std.specs.Ordering.{nat_cmp}
use Rattle.std.specs.Map.{lookup}
use Rattle.std.specs.BTreeMap as tree
use Rattle.hfile_read.specs.declared.front.ReadNode.{ReadNode}
use Rattle.hfile_read.specs.Views.{node_view, nodes_view}

at-nat : (at q : ℕ) → tree.is_at (nat_cmp at) q ≡ eqb q at
at-nat at q = grind (arith, nat_tests)

node_view-cond : (b : Bool) (x y : Option ReadNode) → option_map node_view (cond b x y) ≡ cond b (option_map node_view x) (option_map node_view y)
node_view-cond true x y = refl
node_view-cond false x y = refl

pub nodes_view-none : (m : tree.BTreeMap ℕ ReadNode) → m.entries ≡ [] → nodes_view m ≡ λ q. None
nodes_view-none m none = fun_ext (λ (q : ℕ). ap (λ (es : List (ℕ × ReadNode)). option_map node_view (lookup (tree.is_at (nat_cmp q)) es)) none)

-- one place has another node, or none
pub nodes_view-updates : (m n : tree.BTreeMap ℕ ReadNode) (at : ℕ) (w : Option ReadNode) → ((q : ℕ) → tree.get nat_cmp n q ≡ cond (tree.is_at (nat_cmp at) q) w (tree.get nat_cmp m q))
    → nodes_view n ≡ λ q. cond (eqb q at) (option_map node_view w) (nodes_view m q)
nodes_view-updates m n at w changed =
    fun_ext (λ (q : ℕ). ap (option_map node_view) (changed q) ∙ node_view-cond (tree.is_at (nat_cmp at) q) w (tree.get nat_cmp m q)
    ∙ ap (λ (b : Bool). cond b (option_map node_view w) (nodes_view m q)) (at-nat at q))
