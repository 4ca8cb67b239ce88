-- A minor compaction keeps that the files of each region have its cells.
use Rattle.std.proofs.Common.{◌≡◌, ◌≢◌, ℕ, zero, suc, ◌+◌, ◌++◌, Bool, true, false, not, cond, List, [], ◌∷◌, take, drop, refl, sym, ap, ◌∙◌, subst, inl, inr, arith}
use Rattle.std.specs.Prelude.{count_by, map, filter}
use Rattle.std.specs.List.{AllByRecursion}
use Rattle.std.proofs.lemmas.List.Elements.{filter-append}
use Rattle.std.proofs.lemmas.List.{append-nil}
use Rattle.hb_cell.specs.declared.cell.Cell.{Cell}
use Rattle.hb_layout.specs.declared.base.Base.{Base}
use Rattle.plain_model.specs.declared.region_key.RegionKey.{RegionKey}
use Rattle.hb_cell.specs.Order.{same_bytes}
use Rattle.plain_model.specs.Keys.{set_at}
use Rattle.cell_sight.specs.Same.{Same}
use Rattle.core_model.specs.declared.entry.Entry.{Entry}
use Rattle.core_model.specs.declared.entry.Entry.TheVariants.{Own, Link, Half}
use Rattle.core_model.specs.declared.region_files.RegionFiles.{RegionFiles}
use Rattle.core_model.specs.Actors.{IsRegion}
use Rattle.core_contents.specs.ContentFacts.{HasContents}
use Rattle.core_model.specs.Entries.{Made, base_of, cells_of, cells_in, is_in, same_entry}
use Rattle.cell_sight.specs.Member.{Member}
use Rattle.core_model.specs.Keys.{same_base}
use Rattle.core_model.specs.ListGuards.{Merge, IsMerge, IsOutput, Takes, Compacts, HasOther, AreOfDistinctFamilies, replaced, without, merged_entries, in_family}
use Rattle.core_contents.specs.Faithful.{IsFaithful}
use Rattle.core_model.specs.State.{Parts}
use Rattle.cell_sight.proofs.Counts.{same-trans, same-equal, same-refl, count-append}
use Rattle.cell_sight.proofs.InOrder.{same-sorted}
use Rattle.core_contents.proofs.Counts.{cells_in-append}
use Rattle.core_contents.proofs.Flushed.{own_cells}
use Rattle.core_sound.proofs.Lists.{either}
use Rattle.core_sound.proofs.Tests.{both_left, same_base-true, same_bytes-true}
use Rattle.core_contents.proofs.Tools.{set_at-each}

-- ---- one merge in a list

pub cells-cons : (m : Made) (p : Cell → Bool) (e : Entry) (es : List Entry) → count_by p (cells_in m (e ∷ es)) ≡ count_by p (cells_of m e) + count_by p (cells_in m es)
cells-cons m p e es = count-append p (cells_of m e) (cells_in m es)

pub split : (m : Made) (p : Cell → Bool) (inputs es : List Entry) → count_by p (cells_in m es) ≡ count_by p (cells_in m (filter (is_in inputs) es)) + count_by p (cells_in m (without inputs es))
split m p inputs [] = refl
split m p inputs (e ∷ es) = let h = split m p inputs es in
    elim (is_in inputs e) as (λ b. count_by p (cells_in m (e ∷ es)) ≡ count_by p (cells_in m (cond b (e ∷ filter (is_in inputs) es) (filter (is_in inputs) es))) + count_by p (cells_in m (cond (not b) (e ∷ without inputs es) (without inputs es)))) [
      | true ↦ omega (arith, cells-cons m p e es, cells-cons m p e (filter (is_in inputs) es))
      | false ↦ omega (arith, cells-cons m p e es, cells-cons m p e (without inputs es))
    ]

-- with an output of the cells of the inputs at the place of the first, the list has the cells that it had
swap : (m : Made) (p : Cell → Bool) (inputs output es : List Entry) → count_by p (cells_in m output) ≡ count_by p (cells_in m (filter (is_in inputs) es)) → count_by p (cells_in m (replaced inputs output es)) ≡ count_by p (cells_in m es)
swap m p inputs output [] = λ h. refl
swap m p inputs output (e ∷ es) =
    elim (is_in inputs e) as (λ b. count_by p (cells_in m output) ≡ count_by p (cells_in m (cond b (e ∷ filter (is_in inputs) es) (filter (is_in inputs) es))) → count_by p (cells_in m (cond b (output ++ without inputs es) (e ∷ replaced inputs output es))) ≡ count_by p (cells_in m (e ∷ es))) [
      | true ↦ λ h. let i = split m p inputs es in let j : count_by p (cells_in m (output ++ without inputs es)) ≡ count_by p (cells_in m output) + count_by p (cells_in m (without inputs es)) = ap (count_by p) (cells_in-append m output (without inputs es)) ∙ count-append p (cells_in m output) (cells_in m (without inputs es)) in
          omega (arith, cells-cons m p e es, cells-cons m p e (filter (is_in inputs) es))
      | false ↦ λ h. let i = swap m p inputs output es h in omega (arith, cells-cons m p e es, cells-cons m p e (replaced inputs output es))
    ]

-- ---- merges of other families do not meet

-- the entries of one list are none of another
abbrev pub Misses : List Entry → List Entry → Type 0
Misses inputs others = (e : Entry) → is_in others e ≡ true → is_in inputs e ≡ false

none-filter : (inputs es : List Entry) → ((e : Entry) → Member e es → is_in inputs e ≡ false) → filter (is_in inputs) es ≡ []
none-filter inputs [] h = refl
none-filter inputs (e ∷ es) h = ap (λ b. cond b (e ∷ filter (is_in inputs) es) (filter (is_in inputs) es)) (h e (inl refl)) ∙ none-filter inputs es (λ x i. h x (inr i))

kept-filter : (inputs others es : List Entry) → Misses inputs others → filter (is_in inputs) (without others es) ≡ filter (is_in inputs) es
kept-filter inputs others [] h = refl
kept-filter inputs others (e ∷ es) h = (elim (is_in others e) as (λ b. is_in others e ≡ b → filter (is_in inputs) (cond (not b) (e ∷ without others es) (without others es)) ≡ filter (is_in inputs) (e ∷ es)) [
  | true ↦ λ d. kept-filter inputs others es h ∙ sym (ap (λ b. cond b (e ∷ filter (is_in inputs) es) (filter (is_in inputs) es)) (h e d))
  | false ↦ λ d. ap (λ xs. cond (is_in inputs e) (e ∷ xs) xs) (kept-filter inputs others es h)
]) refl

-- the inputs of one merge stand as they did after another merge
pub other-filter : (inputs others output es : List Entry) → Misses inputs others → ((e : Entry) → Member e output → is_in inputs e ≡ false) → filter (is_in inputs) (replaced others output es) ≡ filter (is_in inputs) es
other-filter inputs others output [] h k = refl
other-filter inputs others output (e ∷ es) h k = (elim (is_in others e) as (λ b. is_in others e ≡ b → filter (is_in inputs) (cond b (output ++ without others es) (e ∷ replaced others output es)) ≡ filter (is_in inputs) (e ∷ es)) [
  | true ↦ λ d. filter-append (is_in inputs) output (without others es) ∙ ap (λ xs. xs ++ filter (is_in inputs) (without others es)) (none-filter inputs output k) ∙ kept-filter inputs others es h
      ∙ sym (ap (λ b. cond b (e ∷ filter (is_in inputs) es) (filter (is_in inputs) es)) (h e d))
  | false ↦ λ d. ap (λ xs. cond (is_in inputs e) (e ∷ xs) xs) (other-filter inputs others output es h k)
]) refl

-- ---- one merge after another

-- each merge finds its inputs as they are, and its output has their cells
abbrev pub Chain : Made → List Merge → List Entry → Type 0
Chain made [] es = Unit {0}
Chain made (m ∷ ms) es = (filter (is_in m.inputs) es ≡ m.inputs) × Same (cells_in made (map Own m.output)) (cells_in made m.inputs) × Chain made ms (replaced m.inputs (map Own m.output) es)

chain-same : (made : Made) (ms : List Merge) (es : List Entry) → Chain made ms es → Same (cells_in made (merged_entries ms es)) (cells_in made es)
chain-same made [] es h = same-refl (cells_in made es)
chain-same made (m ∷ ms) es h = same-trans (chain-same made ms (replaced m.inputs (map Own m.output) es) h.2)
    (record { at = λ p. swap made p m.inputs (map Own m.output) es (h.1.at p ∙ ap (λ (xs : List Entry). count_by p (cells_in made xs)) (sym h.0)) })

-- ---- what the guard gives

same_entry-base : (e x : Entry) → same_entry e x ≡ true → base_of e ≡ base_of x
same_entry-base (Own b) (Own c) d = same_base-true b c d
same_entry-base (Link b) (Link c) d = same_base-true b c d
same_entry-base (Half b l p r t) (Half c m q s u) d = same_base-true b c (both_left (same_base b c) _ d)
same_entry-base (Own b) (Link c) d = absurd (cc)
same_entry-base (Own b) (Half c m q s u) d = absurd (cc)
same_entry-base (Link b) (Own c) d = absurd (cc)
same_entry-base (Link b) (Half c m q s u) d = absurd (cc)
same_entry-base (Half b l p r t) (Own c) d = absurd (cc)
same_entry-base (Half b l p r t) (Link c) d = absurd (cc)

-- entries of a family
abbrev pub AreOf : List ℕ → List Entry → Type 0
AreOf family es = AllByRecursion (λ e. (base_of e).family ≡ family) es

pub in-family : (family : List ℕ) (es : List Entry) (e : Entry) → AreOf family es → is_in es e ≡ true → (base_of e).family ≡ family
in-family family [] e h i = absurd (cc)
in-family family (x ∷ xs) e h i = either (same_entry e x) _ i (λ d. ap (λ (b : Base). b.family) (same_entry-base e x d) ∙ h.0) (λ d. in-family family xs e h.1 d)

pub not_in : (family other : List ℕ) (es : List Entry) (e : Entry) → family ≢ other → AreOf family es → (base_of e).family ≡ other → is_in es e ≡ false
not_in family other es e n h k = (elim (is_in es e) as (λ b. is_in es e ≡ b → b ≡ false) [ true ↦ λ d. absurd (n (sym (in-family family es e h d) ∙ k)) | false ↦ λ d. refl ]) refl

are-filtered : (family : List ℕ) (es : List Entry) → AreOf family (in_family family es)
are-filtered family [] = tt
are-filtered family (e ∷ es) = (elim (same_bytes (base_of e).family family) as (λ b. same_bytes (base_of e).family family ≡ b → AreOf family (cond b (e ∷ in_family family es) (in_family family es))) [
  | true ↦ λ d. (same_bytes-true (base_of e).family family d, are-filtered family es)
  | false ↦ λ d. are-filtered family es
]) refl

are-dropped : (family : List ℕ) (n : ℕ) (es : List Entry) → AreOf family es → AreOf family (drop n es)
are-dropped family zero es h = h
are-dropped family (suc n) [] h = tt
are-dropped family (suc n) (e ∷ es) h = are-dropped family n es h.1

are-taken : (family : List ℕ) (n : ℕ) (es : List Entry) → AreOf family es → AreOf family (take n es)
are-taken family zero es h = tt
are-taken family (suc n) [] h = tt
are-taken family (suc n) (e ∷ es) h = (h.0, are-taken family n es h.1)

pub inputs-family : (major : Bool) (m : Merge) (pinned : List Entry) (s : Parts) → Takes major m pinned s → AreOf m.family m.inputs
inputs-family true m pinned s t = subst (AreOf m.family) (sym t) (are-filtered m.family pinned)
inputs-family false m pinned s t = subst (AreOf m.family) (sym t.range) (are-taken m.family _ _ (are-dropped m.family t.start (in_family m.family pinned) (are-filtered m.family pinned)))

pub output-family : (a : ℕ) (r : RegionKey) (family : List ℕ) (cells : List Cell) (s : Parts) (bs : List Base) → IsOutput bs a r family cells s → AreOf family (map Own bs)
output-family a r family cells s [] o = tt
output-family a r family cells s (b ∷ []) o = (o.1.same_family, tt)
output-family a r family cells s (b ∷ c ∷ bs) o = absurd o

pub output-same : (a : ℕ) (r : RegionKey) (family : List ℕ) (cells : List Cell) (s : Parts) (bs : List Base) → IsOutput bs a r family cells s → Same (cells_in s.made (map Own bs)) cells
output-same a r family cells s [] o = same-equal (sym o)
output-same a r family cells s (b ∷ []) o = same-equal (ap (λ cs. cs ++ []) (own_cells s.made b cells o.2 o.3) ∙ append-nil cells)
output-same a r family cells s (b ∷ c ∷ bs) o = absurd o

-- what holds of the merges that are left, in the list as it is by then
pub record Left (a : ℕ) (r : RegionKey) (pinned : List Entry) (s : Parts) (es : List Entry) (m : Merge) : Type 0 where
  pub merge : IsMerge a r false pinned s m
  pub stand : filter (is_in m.inputs) es ≡ m.inputs

pub member-in : (family : List ℕ) (es : List Entry) (e : Entry) → AreOf family es → Member e es → (base_of e).family ≡ family
member-in family [] e h i = absurd i
member-in family (x ∷ xs) e h (inl d) = subst (λ (y : Entry). (base_of y).family ≡ family) d h.0
member-in family (x ∷ xs) e h (inr i) = member-in family xs e h.1 i

left-after : (a : ℕ) (r : RegionKey) (pinned : List Entry) (s : Parts) (es : List Entry) (m : Merge) → Left a r pinned s es m → (ms : List Merge) → HasOther m.family ms → AllByRecursion (Left a r pinned s es) ms
    → AllByRecursion (Left a r pinned s (replaced m.inputs (map Own m.output) es)) ms
left-after a r pinned s es m l [] n h = tt
left-after a r pinned s es m l (k ∷ ks) n h = (
  record {
    merge = h.0.merge;
    stand = other-filter k.inputs m.inputs (map Own m.output) es
        (λ e d. not_in k.family m.family k.inputs e n.0 (inputs-family false k pinned s h.0.merge.takes) (in-family m.family m.inputs e (inputs-family false m pinned s l.merge.takes) d))
        (λ e d. not_in k.family m.family k.inputs e n.0 (inputs-family false k pinned s h.0.merge.takes) (member-in m.family (map Own m.output) e (output-family a r m.family _ s m.output l.merge.output) d))
        ∙ h.0.stand;
  },
  left-after a r pinned s es m l ks n.1 h.1,
)

chain-of : (a : ℕ) (r : RegionKey) (pinned : List Entry) (s : Parts) (ms : List Merge) (es : List Entry) → AreOfDistinctFamilies ms → AllByRecursion (Left a r pinned s es) ms → Chain s.made ms es
chain-of a r pinned s [] es d h = tt
chain-of a r pinned s (m ∷ ms) es d h = (
  h.0.stand,
  same-trans (output-same a r m.family _ s m.output h.0.merge.output) (same-sorted (cells_in s.made m.inputs)),
  chain-of a r pinned s ms (replaced m.inputs (map Own m.output) es) d.1 (left-after a r pinned s es m h.0 ms d.0 h.1),
)

all-left : (a : ℕ) (r : RegionKey) (pinned : List Entry) (s : Parts) (ms : List Merge) → AllByRecursion (IsMerge a r false pinned s) ms → AllByRecursion (Left a r pinned s (s.lists r).entries) ms
all-left a r pinned s [] h = tt
all-left a r pinned s (m ∷ ms) h = (record { merge = h.0; stand = h.0.stand }, all-left a r pinned s ms h.1)

-- a list after a minor compaction has the cells that it had
pub minor_contents : (a : ℕ) (r : RegionKey) (l : RegionFiles) (cells : List Cell) (more : List (List ℕ × Entry)) (s : Parts) → Compacts a r false l cells more s → IsFaithful s
    → HasContents s.made (set_at r l s.lists) s.plain.tables s.plain.stable
minor_contents a r l cells more s g h = record {
  at = set_at-each (λ q (v : RegionFiles). IsRegion s.plain.tables q → Same (cells_in s.made v.entries) (s.plain.stable q)) s.lists r l h.contents.at
      (λ i. same-trans (same-equal (ap (cells_in s.made) g.entries)) (same-trans (chain-same s.made g.merges (s.lists r).entries (chain-of a r g.pinned.entries s g.merges (s.lists r).entries g.distinct (all-left a r g.pinned.entries s g.merges g.each))) (h.contents.at r i)));
}
