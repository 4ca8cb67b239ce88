-- What halves and copies have: the cells of their side, and the cells themselves.
use Rattle.std.proofs.Common.{◌≡◌, ℕ, ◌++◌, Bool, true, false, List, [], ◌∷◌, refl, sym, ap, ◌∙◌}
use Rattle.std.specs.Prelude.{map, filter}
use Rattle.std.specs.List.{AllByRecursion}
use Rattle.std.proofs.lemmas.List.Elements.{filter-append}
use Rattle.hb_cell.specs.declared.cell.Cell.{Cell}
use Rattle.hb_records.specs.declared.region_info.RegionInfo.{RegionInfo}
use Rattle.plain_model.specs.declared.region_key.RegionKey.{RegionKey}
use Rattle.plain_model.specs.CellEvents.{under, from}
use Rattle.plain_model.specs.Keys.{key_of}
use Rattle.plain_model.specs.declared.parts.RegionCopy.{RegionCopy}
use Rattle.cell_sight.specs.Same.{Same}
use Rattle.core_model.specs.declared.entry.Entry.{Entry}
use Rattle.core_model.specs.declared.entry.Entry.TheVariants.{Own, Link, Half}
use Rattle.core_model.specs.declared.snapshot.CopiedRegion.{CopiedRegion}
use Rattle.core_model.specs.Actors.{IsRegion}
use Rattle.core_contents.specs.ContentFacts.{IsCopy}
use Rattle.core_model.specs.Entries.{Made, cells_of, cells_in, in_side, is_half}
use Rattle.core_contents.specs.PlanFacts.{SplitPlan, CopyPlan}
use Rattle.core_model.specs.Plans.{half_of, copy_of}
use Rattle.core_model.specs.SetGuards.{IsBuilt}
use Rattle.core_contents.specs.Faithful.{IsFaithful}
use Rattle.core_model.specs.State.{Parts}
use Rattle.cell_sight.proofs.Counts.{same-trans, same-equal}
use Rattle.cell_sight.proofs.Counts.{same-filter}

every_cell : (cs : List Cell) → filter (λ c. true) cs ≡ cs
every_cell [] = refl
every_cell (c ∷ cs) = ap (λ ds. c ∷ ds) (every_cell cs)

half_cells : (made : Made) (parent row : List ℕ) (top : Bool) (e : Entry) → is_half e ≡ false → cells_of made (half_of parent row top e) ≡ filter (in_side row top) (cells_of made e)
half_cells made parent row top (Own b) n = ap (filter (in_side row top)) (sym (every_cell _))
half_cells made parent row top (Link b) n = ap (filter (in_side row top)) (sym (every_cell _))
half_cells made parent row top (Half b l p r t) n = absurd (cc)

-- the halves of some entries have their cells on that side
pub halves_cells : (made : Made) (parent row : List ℕ) (top : Bool) (es : List Entry) → AllByRecursion (λ e. is_half e ≡ false) es → cells_in made (map (half_of parent row top) es) ≡ filter (in_side row top) (cells_in made es)
halves_cells made parent row top [] h = refl
halves_cells made parent row top (e ∷ es) h =
    ap (λ cs. cs ++ cells_in made (map (half_of parent row top) es)) (half_cells made parent row top e h.0)
    ∙ ap (λ cs. filter (in_side row top) (cells_of made e) ++ cs) (halves_cells made parent row top es h.1)
    ∙ sym (filter-append (in_side row top) (cells_of made e) (cells_in made es))

copy_cells : (made : Made) (e : Entry) → cells_of made (copy_of e) ≡ cells_of made e
copy_cells made (Own b) = refl
copy_cells made (Link b) = refl
copy_cells made (Half b l p r t) = refl

pub copies_cells : (made : Made) (es : List Entry) → cells_in made (map copy_of es) ≡ cells_in made es
copies_cells made [] = refl
copies_cells made (e ∷ es) = ap (λ cs. cs ++ cells_in made (map copy_of es)) (copy_cells made e) ∙ ap (λ cs. cells_of made e ++ cs) (copies_cells made es)

-- the lists of a split's regions have the parent's cells below its row, and from it on
pub low_contents : (a : ℕ) (s : Parts) (parent : RegionKey) (row : List ℕ) → (g : SplitPlan (s.plans a) parent row (s.lists parent)) → IsFaithful s → IsRegion s.plain.tables parent → IsBuilt a s g.low
    → Same (cells_in s.made (s.lists (key_of g.low)).entries) (under g.high.start (s.plain.stable parent))
low_contents a s parent row g h i built = same-trans (same-equal (ap (cells_in s.made) (built.entries ∙ g.low_entries) ∙ halves_cells s.made parent.region row false (s.lists parent).entries g.whole))
    (same-trans (same-filter (in_side row false) (h.contents.at parent i)) (same-equal (ap (λ x. under x (s.plain.stable parent)) (sym g.border))))

pub high_contents : (a : ℕ) (s : Parts) (parent : RegionKey) (row : List ℕ) → (g : SplitPlan (s.plans a) parent row (s.lists parent)) → IsFaithful s → IsRegion s.plain.tables parent → IsBuilt a s g.high
    → Same (cells_in s.made (s.lists (key_of g.high)).entries) (from g.high.start (s.plain.stable parent))
high_contents a s parent row g h i built = same-trans (same-equal (ap (cells_in s.made) (built.entries ∙ g.high_entries) ∙ halves_cells s.made parent.region row true (s.lists parent).entries g.whole))
    (same-trans (same-filter (in_side row true) (h.contents.at parent i)) (same-equal (ap (λ x. from x (s.plain.stable parent)) (sym g.border))))

-- the list of a copied region has the cells of the snapshot's copy
pub copied_contents : (a : ℕ) (s : Parts) (r : CopiedRegion) (c : RegionCopy) (i : RegionInfo) → CopyPlan (s.plans a) i r → IsCopy s.made r c → IsBuilt a s i → Same (cells_in s.made (s.lists (key_of i)).entries) c.cells
copied_contents a s r c i g k built = same-trans (same-equal (ap (cells_in s.made) (built.entries ∙ g.entries) ∙ copies_cells s.made r.entries)) k.same
