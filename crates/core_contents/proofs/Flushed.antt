-- A flush keeps that the files of each region have its cells.
use Rattle.std.proofs.Common.{◌≡◌, ℕ, ◌++◌, true, List, [], ◌∷◌, Some, None, refl, ap, ◌∙◌}
use Rattle.std.specs.Prelude.{map, filter, unwrap_or}
use Rattle.std.specs.List.{AllZip}
use Rattle.hb_cell.specs.declared.cell.Cell.{Cell}
use Rattle.hb_layout.specs.declared.base.Base.{Base}
use Rattle.plain_model.specs.declared.region_key.RegionKey.{RegionKey}
use Rattle.plain_model.specs.Keys.{set_at}
use Rattle.cell_sight.specs.Same.{Same}
use Rattle.core_model.specs.declared.entry.Entry.{Entry}
use Rattle.core_model.specs.declared.entry.Entry.TheVariants.{Own}
use Rattle.core_model.specs.declared.region_files.RegionFiles.{RegionFiles}
use Rattle.core_model.specs.Actors.{IsRegion}
use Rattle.core_contents.specs.ContentFacts.{HasContents}
use Rattle.core_model.specs.Entries.{Made, cells_of, cells_in, seq_of, with_seq}
use Rattle.core_model.specs.ListGuards.{Flushes, IsFlushed, families_in}
use Rattle.core_model.specs.Recipes.{frozen_cells, of_family}
use Rattle.core_contents.specs.Faithful.{IsFaithful}
use Rattle.core_model.specs.State.{Parts}
use Rattle.cell_sight.proofs.Counts.{same-trans, same-append, same-equal, same-refl}
use Rattle.cell_sight.proofs.InOrder.{same-sorted}
use Rattle.core_contents.proofs.Counts.{families-same, of_families, cells_in-append}
use Rattle.core_contents.proofs.Tools.{set_at-both}

-- all cells pass no test, and keep their numbers
every_cell : (cs : List Cell) → filter (λ c. true) cs ≡ cs
every_cell [] = refl
every_cell (c ∷ cs) = ap (λ ds. c ∷ ds) (every_cell cs)

same_numbers : (cs : List Cell) → map (with_seq None) cs ≡ cs
same_numbers [] = refl
same_numbers (c ∷ cs) = ap (λ ds. c ∷ ds) (same_numbers cs)

-- an own file without a number has its base's cells
pub own_cells : (made : Made) (b : Base) (cs : List Cell) → seq_of b.name ≡ None → made b ≡ Some cs → cells_of made (Own b) ≡ cs
own_cells made b cs n e =
    ap (λ o. filter (λ c. true) (map (with_seq o) (unwrap_or (made b) []))) n ∙ ap (λ o. filter (λ c. true) (map (with_seq None) (unwrap_or o []))) e ∙ every_cell _ ∙ same_numbers cs

-- the files of a flush have the frozen cells, family by family
pub flushed_cells : (a : ℕ) (r : RegionKey) (s : Parts) (fs : List (List ℕ)) (bs : List Base) → AllZip (IsFlushed a r s) fs bs → Same (cells_in s.made (map Own bs)) (of_families fs (frozen_cells s.plain r))
flushed_cells a r s [] [] h = same-refl []
flushed_cells a r s (f ∷ fs) (b ∷ bs) h =
    same-append (same-trans (same-equal (own_cells s.made b _ h.0.unnumbered h.0.made)) (same-sorted (of_family f (frozen_cells s.plain r)))) (flushed_cells a r s fs bs h.1)
flushed_cells a r s [] (b ∷ bs) h = absurd h
flushed_cells a r s (f ∷ fs) [] h = absurd h

-- the list with them has the region's cells and the frozen ones
pub flush_contents : (a : ℕ) (r : RegionKey) (l : RegionFiles) (cells : List Cell) (planned : List (List ℕ × Entry)) (s : Parts) → Flushes a r l cells planned s → IsFaithful s
    → HasContents s.made (set_at r l s.lists) s.plain.tables (set_at r (s.plain.stable r ++ frozen_cells s.plain r) s.plain.stable)
flush_contents a r l cells planned s g h = record {
  at = set_at-both (λ q (v : RegionFiles) cs. IsRegion s.plain.tables q → Same (cells_in s.made v.entries) cs) s.lists s.plain.stable r l (s.plain.stable r ++ frozen_cells s.plain r) h.contents.at
      (λ i. same-trans (same-equal (ap (cells_in s.made) g.entries ∙ cells_in-append s.made (s.lists r).entries (map Own g.added)))
      (same-append (h.contents.at r i) (same-trans (flushed_cells a r s (families_in (frozen_cells s.plain r)) g.added g.files) (families-same (frozen_cells s.plain r)))));
}
