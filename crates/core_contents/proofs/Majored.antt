-- A major compaction replaces the cells of what was pinned by the visible ones among them.
use Rattle.std.proofs.Common.{◌≡◌, ◌≢◌, ℕ, ◌+◌, ◌||◌, ◌++◌, Bool, true, false, cond, List, [], ◌∷◌, take, drop, Option, Some, None, refl, sym, ap, ◌∙◌, subst, inl, inr, arith, zero-add}
use Rattle.std.specs.Prelude.{count_by, map, filter, unwrap_or}
use Rattle.std.specs.List.{list_any, AllByRecursion}
use Rattle.std.specs.FinMap.{get}
use Rattle.std.proofs.lemmas.List.{take-append-drop}
use Rattle.std.proofs.lemmas.List.Elements.{filter-append}
use Rattle.hb_cell.specs.declared.cell.Cell.{Cell}
use Rattle.plain_model.specs.declared.region_key.RegionKey.{RegionKey}
use Rattle.hb_cell.specs.Order.{same_bytes}
use Rattle.plain_model.specs.CellEvents.{families_in, compacted}
use Rattle.plain_model.specs.Found.{families_of, families_of_table}
use Rattle.plain_model.specs.Keys.{set_at}
use Rattle.plain_model.specs.declared.parts.PlainTable.{PlainTable}
use Rattle.cell_sight.specs.Same.{Same}
use Rattle.cell_sight.specs.Visible.{visible}
use Rattle.core_model.specs.declared.entry.Entry.{Entry}
use Rattle.core_model.specs.declared.entry.Entry.TheVariants.{Own}
use Rattle.core_model.specs.declared.region_files.RegionFiles.{RegionFiles}
use Rattle.core_model.specs.Actors.{IsRegion}
use Rattle.core_contents.specs.ContentFacts.{HasContents, HasFront}
use Rattle.core_model.specs.Entries.{Made, base_of, cells_of, cells_in, is_in}
use Rattle.cell_sight.specs.Member.{Member}
use Rattle.core_model.specs.ListGuards.{Merge, IsMerge, Compacts, HasOther, AreOfDistinctFamilies, replaced, without, merged_entries, in_family}
use Rattle.core_model.specs.Recipes.{of_family}
use Rattle.core_contents.specs.Faithful.{IsFaithful}
use Rattle.core_model.specs.StartGuards.{is_major}
use Rattle.core_model.specs.State.{Parts}
use Rattle.core_contents.proofs.Compacted.{cells-cons, split, output-same, output-family, inputs-family, in-family, not_in, member-in, other-filter}
use Rattle.cell_sight.proofs.Counts.{count-append, count-cons}
use Rattle.core_sound.proofs.Lists.{member-append}
use Rattle.core_contents.proofs.Counts.{cells_in-append, of_families, families-count}
use Rattle.core_sound.proofs.Tests.{same_bytes-true, same_bytes-self}
use Rattle.core_contents.proofs.Tools.{set_at-both}

-- what is asked of the visible cells, and of the cells of entries
pub record SeenLaws (families : List (List ℕ × ℕ)) : Type 0 where
  pub same : (xs ys : List Cell) → Same xs ys → visible families xs ≡ visible families ys
  pub by_family : (f : List ℕ) (xs : List Cell) → visible families (of_family f xs) ≡ of_family f (visible families xs)
  pub shown : (xs : List Cell) (c : Cell) → Member c (visible families xs) → Member c xs

-- each cell of an entry is of its family
abbrev pub EntriesFit : Made → List Entry → Type 0
EntriesFit made es = (e : Entry) → Member e es → (c : Cell) → Member c (cells_of made e) → c.family ≡ (base_of e).family

-- ---- one merge

exchange : (m : Made) (p : Cell → Bool) (inputs output es : List Entry) → list_any (is_in inputs) es ≡ true
    → count_by p (cells_in m (replaced inputs output es)) + count_by p (cells_in m (filter (is_in inputs) es)) ≡ count_by p (cells_in m output) + count_by p (cells_in m es)
exchange m p inputs output [] h = absurd (cc)
exchange m p inputs output (e ∷ es) h =
    (elim (is_in inputs e) as (λ b. (b || list_any (is_in inputs) es) ≡ true → count_by p (cells_in m (cond b (output ++ without inputs es) (e ∷ replaced inputs output es))) + count_by p (cells_in m (cond b (e ∷ filter (is_in inputs) es) (filter (is_in inputs) es))) ≡ count_by p (cells_in m output) + count_by p (cells_in m (e ∷ es))) [
      | true ↦ λ k. let i = split m p inputs es in let j : count_by p (cells_in m (output ++ without inputs es)) ≡ count_by p (cells_in m output) + count_by p (cells_in m (without inputs es)) = ap (count_by p) (cells_in-append m output (without inputs es)) ∙ count-append p (cells_in m output) (cells_in m (without inputs es)) in
          omega (arith, cells-cons m p e es, cells-cons m p e (filter (is_in inputs) es))
      | false ↦ λ k. let i = exchange m p inputs output es k in omega (arith, cells-cons m p e es, cells-cons m p e (replaced inputs output es))
    ]) h

found_any : (inputs es : List Entry) → filter (is_in inputs) es ≢ [] → list_any (is_in inputs) es ≡ true
found_any inputs [] n = absurd (n refl)
found_any inputs (e ∷ es) n = (elim (is_in inputs e) as (λ b. cond b (e ∷ filter (is_in inputs) es) (filter (is_in inputs) es) ≢ [] → (b || list_any (is_in inputs) es) ≡ true) [
  | true ↦ λ k. refl
  | false ↦ λ k. found_any inputs es k
]) n

-- ---- all merges

-- the cells of all inputs, and of all outputs
abbrev inputs_count : Made → (Cell → Bool) → List Merge → ℕ
inputs_count made p [] = 0
inputs_count made p (m ∷ ms) = count_by p (cells_in made m.inputs) + inputs_count made p ms

abbrev outputs_count : Made → (Cell → Bool) → List Merge → ℕ
outputs_count made p [] = 0
outputs_count made p (m ∷ ms) = count_by p (cells_in made (map Own m.output)) + outputs_count made p ms

pub record Left (a : ℕ) (r : RegionKey) (pinned : List Entry) (s : Parts) (es : List Entry) (m : Merge) : Type 0 where
  pub merge : IsMerge a r true pinned s m
  pub stand : filter (is_in m.inputs) es ≡ m.inputs

left-after : (a : ℕ) (r : RegionKey) (pinned : List Entry) (s : Parts) (es : List Entry) (m : Merge) → Left a r pinned s es m → (ms : List Merge) → HasOther m.family ms → AllByRecursion (Left a r pinned s es) ms
    → AllByRecursion (Left a r pinned s (replaced m.inputs (map Own m.output) es)) ms
left-after a r pinned s es m l [] n h = tt
left-after a r pinned s es m l (k ∷ ks) n h = (
  record {
    merge = h.0.merge;
    stand = other-filter k.inputs m.inputs (map Own m.output) es
        (λ e d. not_in k.family m.family k.inputs e n.0 (inputs-family true k pinned s h.0.merge.takes) (in-family m.family m.inputs e (inputs-family true m pinned s l.merge.takes) d))
        (λ e d. not_in k.family m.family k.inputs e n.0 (inputs-family true k pinned s h.0.merge.takes) (member-in m.family (map Own m.output) e (output-family a r m.family _ s m.output l.merge.output) d))
        ∙ h.0.stand;
  },
  left-after a r pinned s es m l ks n.1 h.1,
)

all-left : (a : ℕ) (r : RegionKey) (pinned : List Entry) (s : Parts) (ms : List Merge) → AllByRecursion (IsMerge a r true pinned s) ms → AllByRecursion (Left a r pinned s (s.lists r).entries) ms
all-left a r pinned s [] h = tt
all-left a r pinned s (m ∷ ms) h = (record { merge = h.0; stand = h.0.stand }, all-left a r pinned s ms h.1)

add_zero : (n : ℕ) → n + 0 ≡ 0 + n
add_zero n = omega arith

chain-count : (a : ℕ) (r : RegionKey) (pinned : List Entry) (s : Parts) (p : Cell → Bool) (ms : List Merge) (es : List Entry) → AreOfDistinctFamilies ms → AllByRecursion (Left a r pinned s es) ms
    → count_by p (cells_in s.made (merged_entries ms es)) + inputs_count s.made p ms ≡ outputs_count s.made p ms + count_by p (cells_in s.made es)
chain-count a r pinned s p [] es d h = add_zero (count_by p (cells_in s.made es))
chain-count a r pinned s p (m ∷ ms) es d h =
    let rest = chain-count a r pinned s p ms (replaced m.inputs (map Own m.output) es) d.1 (left-after a r pinned s es m h.0 ms d.0 h.1) in
    let one = exchange s.made p m.inputs (map Own m.output) es (found_any m.inputs es (λ e. h.0.merge.some (sym h.0.stand ∙ e))) in
    let same = ap (λ (xs : List Entry). count_by p (cells_in s.made xs)) h.0.stand in
    omega (arith, rest, one, same)

-- ---- the cells by their families

abbrev no_cells : List Cell
no_cells = []

either_empty : (b : Bool) → [] ≡ cond b (no_cells) no_cells
either_empty true = refl
either_empty false = refl

twice : (b : Bool) (c : Cell) (cs : List Cell) → cond b (c ∷ cond b cs []) (cond b cs []) ≡ cond b (c ∷ cs) []
twice true c cs = refl
twice false c cs = refl

cells_family : (made : Made) (f : List ℕ) (e : Entry) (cs : List Cell) → ((c : Cell) → Member c cs → c.family ≡ (base_of e).family) → of_family f cs ≡ cond (same_bytes (base_of e).family f) cs []
cells_family made f e [] h = either_empty (same_bytes (base_of e).family f)
cells_family made f e (c ∷ cs) h = ap (λ g. cond (same_bytes g f) (c ∷ of_family f cs) (of_family f cs)) (h c (inl refl))
    ∙ ap (λ xs. cond (same_bytes (base_of e).family f) (c ∷ xs) xs) (cells_family made f e cs (λ d i. h d (inr i))) ∙ twice (same_bytes (base_of e).family f) c cs

-- the cells of the entries of a family are those of the family
family-cells : (made : Made) (f : List ℕ) (es : List Entry) → EntriesFit made es → cells_in made (in_family f es) ≡ of_family f (cells_in made es)
family-cells made f [] h = refl
family-cells made f (e ∷ es) h =
    let k = cells_family made f e (cells_of made e) (h e (inl refl)) in
    let rest = family-cells made f es (λ x i. h x (inr i)) in
    (elim (same_bytes (base_of e).family f) as (λ b. of_family f (cells_of made e) ≡ cond b (cells_of made e) [] → cells_in made (cond b (e ∷ in_family f es) (in_family f es)) ≡ of_family f (cells_of made e) ++ of_family f (cells_in made es)) [
      | true ↦ λ k. ap (λ xs. cells_of made e ++ xs) rest ∙ ap (λ xs. xs ++ of_family f (cells_in made es)) (sym k)
      | false ↦ λ k. rest ∙ ap (λ xs. xs ++ of_family f (cells_in made es)) (sym k)
    ]) k ∙ sym (filter-append (λ (c : Cell). same_bytes c.family f) (cells_of made e) (cells_in made es))

abbrev merge_families : List Merge → List (List ℕ)
merge_families ms = map (λ (m : Merge). m.family) ms

-- a family of the merges stands once among them
other-count : (f : List ℕ) (ms : List Merge) → HasOther f ms → count_by (same_bytes f) (merge_families ms) ≡ 0
other-count f [] h = refl
other-count f (m ∷ ms) h = (elim (same_bytes f m.family) as (λ b. same_bytes f m.family ≡ b → count_by (same_bytes f) (merge_families (m ∷ ms)) ≡ 0) [
  | true ↦ λ d. absurd (h.0 (sym (same_bytes-true f m.family d)))
  | false ↦ λ d. count-cons (same_bytes f) m.family (merge_families ms) ∙ ap (λ b. cond b 1 0 + count_by (same_bytes f) (merge_families ms)) d ∙ zero-add _ ∙ other-count f ms h.1
]) refl

is_other : (f : List ℕ) (ms : List Merge) (m : Merge) → HasOther f ms → Member m ms → m.family ≡ f → ⊥
is_other f [] m h i e = i
is_other f (k ∷ ks) m h (inl d) e = h.0 (ap (λ (x : Merge). x.family) d ∙ e)
is_other f (k ∷ ks) m h (inr i) e = is_other f ks m h.1 i e

once-count : (ms : List Merge) (m : Merge) → AreOfDistinctFamilies ms → Member m ms → count_by (same_bytes m.family) (merge_families ms) ≡ 1
once-count [] m d i = absurd i
once-count (k ∷ ks) m d (inl e) = count-cons (same_bytes m.family) k.family (merge_families ks)
    ∙ ap (λ b. cond b 1 0 + count_by (same_bytes m.family) (merge_families ks)) (ap (λ (x : Merge). same_bytes m.family x.family) e ∙ same_bytes-self m.family)
    ∙ ap (λ n. 1 + n) (other-count m.family ks (subst (λ (x : Merge). HasOther x.family ks) e d.0))
once-count (k ∷ ks) m d (inr i) = (elim (same_bytes m.family k.family) as (λ b. same_bytes m.family k.family ≡ b → count_by (same_bytes m.family) (merge_families (k ∷ ks)) ≡ 1) [
  | true ↦ λ e. absurd (is_other k.family ks m d.0 i (same_bytes-true m.family k.family e))
  | false ↦ λ e. count-cons (same_bytes m.family) k.family (merge_families ks) ∙ ap (λ b. cond b 1 0 + count_by (same_bytes m.family) (merge_families ks)) e ∙ zero-add _ ∙ once-count ks m d.1 i
]) refl

pub cell-entry : (made : Made) (es : List Entry) (c : Cell) → Member c (cells_in made es) → (e : Entry) × Member e es × Member c (cells_of made e)
cell-entry made [] c i = absurd i
cell-entry made (e ∷ es) c i = elim (member-append c (cells_of made e) (cells_in made es) i) [
  | inl k ↦ (e, inl refl, k)
  | inr k ↦ let w = cell-entry made es c k in (w.0, inr w.1, w.2)
]

inputs-count : (a : ℕ) (r : RegionKey) (pinned : List Entry) (s : Parts) (p : Cell → Bool) (ms : List Merge) → AllByRecursion (IsMerge a r true pinned s) ms → EntriesFit s.made pinned
    → inputs_count s.made p ms ≡ count_by p (of_families (merge_families ms) (cells_in s.made pinned))
inputs-count a r pinned s p [] h k = refl
inputs-count a r pinned s p (m ∷ ms) h k =
    ap (λ (xs : List Entry). count_by p (cells_in s.made xs) + inputs_count s.made p ms) h.0.takes ∙ ap (λ xs. count_by p xs + inputs_count s.made p ms) (family-cells s.made m.family pinned k)
    ∙ ap (λ n. count_by p (of_family m.family (cells_in s.made pinned)) + n) (inputs-count a r pinned s p ms h.1 k) ∙ sym (count-append p (of_family m.family (cells_in s.made pinned)) (of_families (merge_families ms) (cells_in s.made pinned)))

outputs-count : (a : ℕ) (r : RegionKey) (pinned : List Entry) (s : Parts) (p : Cell → Bool) (ms : List Merge) → AllByRecursion (IsMerge a r true pinned s) ms → EntriesFit s.made pinned → SeenLaws (families_of s.plain r.table)
    → outputs_count s.made p ms ≡ count_by p (of_families (merge_families ms) (visible (families_of s.plain r.table) (cells_in s.made pinned)))
outputs-count a r pinned s p [] h k laws = refl
outputs-count a r pinned s p (m ∷ ms) h k laws =
    let V = visible (families_of s.plain r.table) (cells_in s.made pinned) in
    ap (λ n. n + outputs_count s.made p ms) ((output-same a r m.family _ s m.output h.0.output).at p
    ∙ ap (λ (xs : List Entry). count_by p (visible (families_of s.plain r.table) (cells_in s.made xs))) h.0.takes
    ∙ ap (λ xs. count_by p (visible (families_of s.plain r.table) xs)) (family-cells s.made m.family pinned k)
    ∙ ap (count_by p) (laws.by_family m.family (cells_in s.made pinned)))
    ∙ ap (λ n. count_by p (of_family m.family V) + n) (outputs-count a r pinned s p ms h.1 k laws) ∙ sym (count-append p (of_family m.family V) (of_families (merge_families ms) V))

same_families : (o : Option PlainTable) → families_in o ≡ families_of_table o
same_families None = refl
same_families (Some t) = refl

-- the counts: the list gains what is visible of the pinned cells, and loses these
balance : (new old pinned seen stable front behind : ℕ) → new + pinned ≡ seen + old → old ≡ stable → pinned ≡ front → stable ≡ front + behind → new ≡ seen + behind
balance new old pinned seen stable front behind a b c d = omega arith

pub major_contents : (a : ℕ) (r : RegionKey) (l : RegionFiles) (cells : List Cell) (more : List (List ℕ × Entry)) (s : Parts) → (g : Compacts a r true l cells more s) → IsFaithful s → SeenLaws (families_of s.plain r.table) → EntriesFit s.made g.pinned.entries
    → HasContents s.made (set_at r l s.lists) s.plain.tables (set_at r (compacted (families_in (get s.plain.tables r.table)) (unwrap_or (s.plain.noted a r) 0) (s.plain.stable r)) s.plain.stable)
major_contents a r l cells more s g h laws k =
    let n = unwrap_or (s.plain.noted a r) 0 in
    let fs = families_of s.plain r.table in
    let f : HasFront s.made (s.lists r).entries (s.plain.stable r) g.pinned.entries n =
    (h.fronts.at a r g.pinned g.pin (g.fresh refl) (ap is_major g.job.1) g.held).1 in
    record {
      at = set_at-both (λ q (v : RegionFiles) cs. IsRegion s.plain.tables q → Same (cells_in s.made v.entries) cs) s.lists s.plain.stable r l _ h.contents.at (λ i. record {
        at = λ p.
            ap (λ (xs : List Entry). count_by p (cells_in s.made xs)) g.entries
            ∙ balance _ (count_by p (cells_in s.made (s.lists r).entries)) (count_by p (cells_in s.made g.pinned.entries)) (count_by p (visible fs (cells_in s.made g.pinned.entries))) (count_by p (s.plain.stable r)) (count_by p (take n (s.plain.stable r))) (count_by p (drop n (s.plain.stable r)))
            (ap (λ x. count_by p (cells_in s.made (merged_entries g.merges (s.lists r).entries)) + x) (sym (inputs-count a r g.pinned.entries s p g.merges g.each k ∙ families-count p (merge_families g.merges) (cells_in s.made g.pinned.entries) (λ c m. in_merges c (cell-entry s.made g.pinned.entries c m))))
            ∙ chain-count a r g.pinned.entries s p g.merges (s.lists r).entries g.distinct (all-left a r g.pinned.entries s g.merges g.each)
            ∙ ap (λ x. x + count_by p (cells_in s.made (s.lists r).entries)) (outputs-count a r g.pinned.entries s p g.merges g.each k laws
            ∙ families-count p (merge_families g.merges) (visible fs (cells_in s.made g.pinned.entries)) (λ c m. in_merges c (cell-entry s.made g.pinned.entries c (laws.shown (cells_in s.made g.pinned.entries) c m)))))
            ((h.contents.at r i).at p)
            (f.same.at p)
            (ap (count_by p) (sym (take-append-drop n (s.plain.stable r))) ∙ count-append p (take n (s.plain.stable r)) (drop n (s.plain.stable r)))
            ∙ ap (λ xs. count_by p xs + count_by p (drop n (s.plain.stable r))) (laws.same _ _ f.same ∙ ap (λ xs. visible xs (take n (s.plain.stable r))) (sym (same_families (get s.plain.tables r.table))))
            ∙ sym (count-append p (visible (families_in (get s.plain.tables r.table)) (take n (s.plain.stable r))) (drop n (s.plain.stable r)));
      });
    }
  where
    in_merges : (c : Cell) → (e : Entry) × Member e g.pinned.entries × Member c (cells_of s.made e) → count_by (same_bytes c.family) (merge_families g.merges) ≡ 1
    in_merges c x = let m = g.covers x.0 x.1 in ap (λ y. count_by (same_bytes y) (merge_families g.merges)) (k x.0 x.1 c x.2 ∙ sym m.2) ∙ once-count g.merges m.0 g.distinct m.1
