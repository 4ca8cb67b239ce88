-- Nodes that are followed one by one.
use Rattle.std.proofs.Common.{◌≡◌, ℕ, zero, suc, ◌-◌, ◌^◌, Bool, true, false, cond, ltb, eqb, List, [], ◌∷◌, ◌++◌, length, Option, Some, None, Result, Ok, Err, refl, sym, ap, ◌∙◌, arith}
use Rattle.std.proofs.lemmas.Bool.{eqb-true, eqb-false}
use Rattle.std.proofs.lemmas.List.{append-nil}
use Rattle.std.specs.Option.{option_to_list}
use Rattle.std.specs.Vec.Iter.{into_iter_items}
use Rattle.hb_cell.specs.declared.cell.Cell.{Cell}
use Rattle.hfile_index.specs.declared.entry.IndexEntry.{IndexEntry}
use Rattle.hfile_index.specs.declared.fault.BadIndex.{BadIndex}
use Rattle.hfile_index.specs.declared.fault.BadIndex.TheVariants as indexes
use Rattle.hfile_index.specs.Entries.{node_at, root_node_at}
use Rattle.hfile_meta.specs.declared.trailer.Trailer.{Trailer}
use Rattle.hfile_form.specs.Blocks.{Block, content}
use Rattle.hfile_form.specs.declared.front.DataBlock.{DataBlock}
use Rattle.hfile_form.specs.Front.{Front, Node}
use Rattle.hfile_form.specs.Index.{Left, each, followed, names_node, or_wrong, without, lists_all, index_from, ◌>>=◌}
use Rattle.hfile_form.specs.File.{root_of, index_of_root, index_of, in_index}
use Rattle.hfile_read.specs.declared.tree.NodeEntries.{NodeEntries}
use Rattle.hfile_read.specs.Answers.{Fails, IsWrong}
use Rattle.hfile_read.specs.Following.{node_leaves, below, following, root_entries, index_fault}

abbrev ok : {A : Type 0} → A → Result A ℕ
ok x = Ok x

both : {A B : Type 0} (r : Result A ℕ) (f g : A → Result B ℕ) → ((x : A) → f x ≡ g x) → (r >>= f) ≡ (r >>= g)
both (Ok x) f g same = same x
both (Err at) f g same = refl

bind_assoc : {A B C : Type 0} (r : Result A ℕ) (f : A → Result B ℕ) (g : B → Result C ℕ) → (r >>= f >>= g) ≡ (r >>= λ x. f x >>= g)
bind_assoc (Ok x) f g = refl
bind_assoc (Err at) f g = refl

bind_back : {A : Type 0} (r : Result A ℕ) → (r >>= λ x. ok x) ≡ r
bind_back (Ok x) = refl
bind_back (Err at) = refl

-- the last node is followed first
pub following-push : (cells : List Cell) (nodes : List NodeEntries) (node : NodeEntries) (left : Left) → following cells (nodes ++ node ∷ []) left ≡ (node_leaves cells node left >>= following cells nodes)
following-push cells [] node left = sym (bind_back (node_leaves cells node left))
following-push cells (n ∷ nodes) node left =
    ap (λ r. r >>= node_leaves cells n) (following-push cells nodes node left) ∙ bind_assoc (node_leaves cells node left) (following cells nodes) (node_leaves cells n)

-- and so is a node that an entry named, where there is one
following-found : (cells : List Cell) (nodes : List NodeEntries) (found : Option NodeEntries) (left : Left) → following cells (nodes ++ option_to_list found) left ≡ (below cells found left >>= following cells nodes)
following-found cells nodes None left = ap (λ (ns : List NodeEntries). following cells ns left) (append-nil nodes)
following-found cells nodes (Some node) left = following-push cells nodes node left

-- a node without more entries leaves all
pub following-none : (cells : List Cell) (nodes : List NodeEntries) (node : NodeEntries) (left : Left) → into_iter_items node.rest ≡ [] → following cells (nodes ++ node ∷ []) left ≡ following cells nodes left
following-none cells nodes node left none =
    following-push cells nodes node left ∙ ap (λ (es : List IndexEntry). each (followed cells node.more node.owner) es left >>= following cells nodes) none

-- the first entry of a node, and then the others
abbrev after_entry : List Cell → NodeEntries → List IndexEntry → Result Left ℕ → List NodeEntries → Result Left ℕ
after_entry cells node es r nodes = r >>= each (followed cells node.more node.owner) es >>= following cells nodes

first_entry : (cells : List Cell) (nodes : List NodeEntries) (node : NodeEntries) (e : IndexEntry) (es : List IndexEntry) (left : Left) → into_iter_items node.rest ≡ e ∷ es
    → following cells (nodes ++ node ∷ []) left ≡ after_entry cells node es (followed cells node.more node.owner e left) nodes
first_entry cells nodes node e es left is =
    following-push cells nodes node left ∙ ap (λ (xs : List IndexEntry). each (followed cells node.more node.owner) xs left >>= following cells nodes) is

-- an entry that was followed
pub following-entry : (cells : List Cell) (nodes opened : List NodeEntries) (node after : NodeEntries) (e : IndexEntry) (found : Option NodeEntries) (left next : Left)
    → into_iter_items node.rest ≡ e ∷ into_iter_items after.rest → after.owner ≡ node.owner → after.more ≡ node.more → followed cells node.more node.owner e left ≡ below cells found next
    → opened ≡ (nodes ++ after ∷ []) ++ option_to_list found → following cells (nodes ++ node ∷ []) left ≡ following cells opened next
following-entry cells nodes opened node after e found left next is owner more follows all =
    let es = into_iter_items after.rest in
    let b = below cells found next in
    let kept : after_entry cells node es b nodes ≡ after_entry cells after es b nodes =
    (λ i. b >>= each (followed cells (sym more i) (sym owner i)) es >>= following cells nodes) in
    let back : after_entry cells after es b nodes ≡ following cells ((nodes ++ after ∷ []) ++ option_to_list found) next =
    bind_assoc b (node_leaves cells after) (following cells nodes) ∙ sym (following-found cells (nodes ++ after ∷ []) found next ∙ both b (following cells (nodes ++ after ∷ [])) (λ l. node_leaves cells after l >>= following cells nodes) (λ l. following-push cells nodes after l)) in
    first_entry cells nodes node e es left is ∙ ap (λ r. after_entry cells node es r nodes) follows ∙ kept ∙ back ∙ ap (λ (ns : List NodeEntries). following cells ns next) (sym all)

-- a fault of the entry is that of all
pub IsWrong-bind : {A B : Type 0} (e : BadIndex) (r : Result A ℕ) (f : A → Result B ℕ) → IsWrong e r → IsWrong e (r >>= f)
IsWrong-bind indexes.NoMemory r f wrong = tt
IsWrong-bind (indexes.BadIndex at) r f wrong = ap (λ x. x >>= f) wrong

pub IsWrong-same : {A : Type 0} (e : BadIndex) (r s : Result A ℕ) → s ≡ r → IsWrong e r → IsWrong e s
IsWrong-same indexes.NoMemory r s same wrong = tt
IsWrong-same (indexes.BadIndex at) r s same wrong = same ∙ wrong

pub following-wrong : (cells : List Cell) (nodes : List NodeEntries) (node : NodeEntries) (first : IndexEntry) (es : List IndexEntry) (left : Left) (e : BadIndex)
    → into_iter_items node.rest ≡ first ∷ es → IsWrong e (followed cells node.more node.owner first left) → IsWrong e (following cells (nodes ++ node ∷ []) left)
following-wrong cells nodes node first es left e is wrong =
    let r = followed cells node.more node.owner first left in
    IsWrong-same e (after_entry cells node es r nodes) (following cells (nodes ++ node ∷ []) left) (first_entry cells nodes node first es left is)
    (IsWrong-bind e (r >>= each (followed cells node.more node.owner) es) (following cells nodes) (IsWrong-bind e r (each (followed cells node.more node.owner) es) wrong))

-- a named node that is not in its form is wrong itself
pub followed-unread : (cells : List Cell) (more owner : ℕ) (e : IndexEntry) (left : Left) (node : Node) (fault : BadIndex) → (more ≡ 0 → ⊥) → names_node cells (more - 1) owner e (left.nodes e.offset) left.datas ≡ Ok node
    → IsWrong fault (or_wrong e.offset (node_at node.content)) → IsWrong fault (followed cells more owner e left)
followed-unread cells zero owner e left node fault some named wrong = absurd (some refl)
followed-unread cells (suc more) owner e left node fault some named wrong =
    let less : suc more - 1 ≡ more = omega arith in
    let read : names_node cells more owner e (left.nodes e.offset) left.datas ≡ Ok node = ap (λ k. names_node cells k owner e (left.nodes e.offset) left.datas) (sym less) ∙ named in
    let rest : List IndexEntry → Result Left ℕ = λ es. each (followed cells more e.offset) es (without e.offset left) in
    IsWrong-same fault (or_wrong e.offset (node_at node.content) >>= rest) (followed cells (suc more) owner e left)
    (ap (λ r. r >>= λ (n : Node). or_wrong e.offset (node_at n.content) >>= rest) read) (IsWrong-bind fault (or_wrong e.offset (node_at node.content)) rest wrong)

-- ---- the whole index

root_first : (t : Trailer) (front : Front) (b : Bool) (o : Option (List IndexEntry))
    → cond b (index_of_root t o front) (Err t.load_at) ≡ (cond b (or_wrong t.load_at o) (Err t.load_at) >>= λ es. index_from front.cells t.levels t.load_at es (record { nodes = front.nodes; datas = front.datas }))
root_first t front true None = refl
root_first t front true (Some es) = refl
root_first t front false o = refl

-- the root first, and then what its entries leave
pub index_of-entries : (t : Trailer) (root : Block) (front : Front)
    → index_of t root front ≡ (root_entries t (content root) >>= λ es. index_from front.cells t.levels t.load_at es (record { nodes = front.nodes; datas = front.datas }))
unfolding index_of
index_of-entries t root front = root_first t front (ltb t.data_count (2 ^ 32)) (root_of t.levels (root_node_at t.data_count (content root)))

pub wrong_root : (t : Trailer) (root : Block) (front : Front) (e : BadIndex) → IsWrong e (root_entries t (content root)) → IsWrong e (index_of t root front)
wrong_root t root front e wrong =
    let next : List IndexEntry → Result (Unit {0}) ℕ = λ es. index_from front.cells t.levels t.load_at es (record { nodes = front.nodes; datas = front.datas }) in
    IsWrong-same e (root_entries t (content root) >>= next) (index_of t root front) (index_of-entries t root front) (IsWrong-bind e (root_entries t (content root)) next wrong)

pub right_root : (t : Trailer) (root : Block) (front : Front) (es : List IndexEntry) → root_entries t (content root) ≡ Ok es
    → index_of t root front ≡ index_from front.cells t.levels t.load_at es (record { nodes = front.nodes; datas = front.datas })
right_root t root front es read =
    index_of-entries t root front ∙ ap (λ r. r >>= λ (xs : List IndexEntry). index_from front.cells t.levels t.load_at xs (record { nodes = front.nodes; datas = front.datas })) read

-- a fault of the index as one of the file
pub Fails-in_index : {A : Type 0} (e : BadIndex) (r : Result A ℕ) → IsWrong e r → Fails (index_fault e) (in_index r)
Fails-in_index indexes.NoMemory r wrong = tt
Fails-in_index (indexes.BadIndex at) r wrong = ap in_index wrong

-- the entries of the root are followed as its only open node
pub index_from-following : (cells : List Cell) (levels at : ℕ) (es : List IndexEntry) (left : Left) (root : NodeEntries) → (levels ≡ 0 → ⊥) → root.owner ≡ at → root.more ≡ levels - 1 → into_iter_items root.rest ≡ es
    → index_from cells levels at es left ≡ (following cells (root ∷ []) left >>= λ rest. lists_all at rest.datas)
index_from-following cells zero at es left root some owner more is = absurd (some refl)
index_from-following cells (suc less) at es left root some owner more is =
    let count : suc less - 1 ≡ less = omega arith in
    let levels : less ≡ root.more = sym (more ∙ count) in
    λ i. each (followed cells (levels i) (sym owner i)) (sym is i) left >>= λ rest. lists_all at rest.datas

-- no data block is left, or some are
pub lists_all-none : (at : ℕ) (datas : List DataBlock) → eqb (length datas) 0 ≡ true → lists_all at datas ≡ Ok tt
lists_all-none at [] none = refl
lists_all-none at (d ∷ datas) none = let no_more = eqb-true (length (d ∷ datas)) 0 none in absurd (omega arith)

pub lists_all-some : (at : ℕ) (datas : List DataBlock) → eqb (length datas) 0 ≡ false → lists_all at datas ≡ Err at
lists_all-some at [] some = absurd (eqb-false 0 0 some refl)
lists_all-some at (d ∷ datas) some = refl

-- the last open node is taken
pub taken_last : (cells : List Cell) (nodes rest : List NodeEntries) (node : NodeEntries) (left : Left) (whole : Result Left ℕ) → nodes ≡ rest ++ node ∷ [] → following cells nodes left ≡ whole → following cells (rest ++ node ∷ []) left ≡ whole
taken_last cells nodes rest node left whole is all = ap (λ (ns : List NodeEntries). following cells ns left) (sym is) ∙ all
