use Rattle.std.proofs.Common.{◌≡◌, ℕ, List, [], ◌∷◌, ◌++◌, drop, refl, subst, ap, ◌∙◌, codes, None, Bool}
use Rattle.std.specs.List.{flat_map}
use Rattle.hb_grammar.specs.Grammar.{IsLive, Same}
use Rattle.hb_grammar.specs.TextOf.{IsTextOf}
use Rattle.hb_grammar.specs.Rows.{RowsThen, IsBegun}
use Rattle.hb_records.specs.declared.region_info.RegionInfo.{RegionInfo}
use Rattle.commit_line.specs.declared.error.ListError.{ListError}
use Rattle.commit_line.specs.Line.{ended}
use Rattle.commit_line.specs.ListError.{IsRefusalAt}
use Rattle.commit_line.specs.Rows.{AreRows, IsRowRefused}
use Rattle.commit_line.proofs.RefusalLemmas.{IsRefusalAt-Same}
use Rattle.commit_line.proofs.RowLemmas.{IsRefusalAt-IsRowRefused, IsRefusalAt-tail}
use Rattle.region_set.proofs.FamilyLineLemmas.{IsApart-family}
use Rattle.region_set.proofs.RegionLineLemmas.{IsApart-IsRegionBehind}
use Rattle.region_set.specs.declared.set_state.SetState.{SetState}
use Rattle.region_set.specs.declared.set_state.SetState.TheVariants.{Dropped}
use Rattle.region_set.specs.FamilyLine.{IsFamilyBehind, family_text, begins_family}
use Rattle.region_set.specs.RegionLine.{IsRegionBehind, region_text, begins_region}
use Rattle.region_set.specs.Body.{IsEnd, IsBody, body_text}

-- regions and the last line
abbrev pub AreRegions : List ℕ → List ℕ → Type 0
AreRegions table = RowsThen (IsRegionBehind table) region_text IsEnd None

-- families, regions and the last line
abbrev pub AreFamilies : List ℕ → List ℕ → Type 0
AreFamilies table = RowsThen IsFamilyBehind family_text (AreRegions table) None

-- of a table that is not dropped they are the body of a set
pub Same-IsBody : (table : List ℕ) (state : SetState) → (state ≡ Dropped → ⊥) → Same (AreFamilies table) (IsTextOf (IsBody table state) body_text)
Same-IsBody table state other = record {
  forth = λ bytes found.
      let regions = found.in_tail in (
        (found.rows, regions.rows),
        record { families = found.each; regions = regions.each; no_families = λ e. absurd (other e); no_regions = λ e. absurd (other e) },
        found.whole ∙ ap (λ (x : List ℕ). flat_map family_text found.rows ++ x) (regions.whole ∙ ap (λ (x : List ℕ). flat_map region_text regions.rows ++ x) regions.in_tail),
      );
  back = λ bytes spelled. record {
    rows = spelled.0.0;
    back = flat_map region_text spelled.0.1 ++ ended (codes "end");
    each = spelled.1.families;
    in_tail = record { rows = spelled.0.1; back = ended (codes "end"); each = spelled.1.regions; in_tail = refl; whole = refl };
    whole = spelled.2;
  };
}

-- of a dropped table the last line is
pub Same-IsBody_dropped : (table : List ℕ) → Same IsEnd (IsTextOf (IsBody table Dropped) body_text)
Same-IsBody_dropped table = record {
  forth = λ bytes e. (([], []), record { families = tt; regions = tt; no_families = λ _. refl; no_regions = λ _. refl }, e);
  back = λ bytes spelled.
      let families = spelled.1.no_families refl in
      let regions = spelled.1.no_regions refl in
      spelled.2 ∙ ap (λ rows. flat_map family_text rows ++ (flat_map region_text spelled.0.1 ++ ended (codes "end"))) families ∙
      ap (λ rows. flat_map region_text rows ++ ended (codes "end")) regions;
}

-- the last line begins with no region
pub IsEnd-not_region : (bytes : List ℕ) → IsEnd bytes → IsBegun begins_region bytes → ⊥
IsEnd-not_region bytes e begun = let is : IsBegun begins_region (ended (codes "end")) = subst (IsBegun begins_region) e begun in cc

-- nor with a family
IsEnd-not_family : (bytes : List ℕ) → IsEnd bytes → IsBegun begins_family bytes → ⊥
IsEnd-not_family bytes e begun = let is : IsBegun begins_family (ended (codes "end")) = subst (IsBegun begins_family) e begun in cc

-- regions begin with no family
rows-not_family : (table : List ℕ) (bytes : List ℕ) (rows : List (RegionInfo × Bool)) (back : List ℕ) → IsEnd back → bytes ≡ flat_map region_text rows ++ back →
    IsBegun begins_family bytes → ⊥
rows-not_family table bytes [] back end whole begun = IsEnd-not_family back end (subst (IsBegun begins_family) whole begun)
rows-not_family table bytes (row ∷ rows) back end whole begun =
    let is : IsBegun begins_family (flat_map region_text (row ∷ rows) ++ back) = subst (IsBegun begins_family) whole begun in cc

-- so regions and the last line don't
pub AreRegions-not_family : (table : List ℕ) (bytes : List ℕ) → AreRegions table bytes → IsBegun begins_family bytes → ⊥
AreRegions-not_family table bytes found begun = rows-not_family table bytes found.rows found.back found.in_tail found.whole begun

-- there is a last line
pub IsLive-IsEnd : IsLive IsEnd
IsLive-IsEnd = (ended (codes "end"), refl)

-- and it stands behind no regions
pub IsLive-AreRegions : (table : List ℕ) → IsLive (AreRegions table)
IsLive-AreRegions table = (ended (codes "end"), record { rows = []; back = ended (codes "end"); each = tt; in_tail = refl; whole = refl })

-- a fault of the families of a set is one of its body
pub IsRefusalAt-families : (table : List ℕ) (state : SetState) → (state ≡ Dropped → ⊥) → (bytes : List ℕ) (at : ℕ) (error : ListError) →
    IsRowRefused IsFamilyBehind family_text begins_family bytes at error → IsRefusalAt (IsTextOf (IsBody table state) body_text) bytes at error
IsRefusalAt-families table state other bytes at error refused =
    IsRefusalAt-Same _ _ (Same-IsBody table state other) bytes at error
    (IsRefusalAt-IsRowRefused IsFamilyBehind family_text (AreRegions table) begins_family (IsApart-family (AreRegions table) (AreRegions-not_family table)) (IsLive-AreRegions table)
    bytes at error refused)

-- so is one behind them
pub IsRefusalAt-behind_families : (table : List ℕ) (state : SetState) → (state ≡ Dropped → ⊥) → (bytes : List ℕ) (at mid : ℕ) (families : List (List ℕ × ℕ)) →
    AreRows IsFamilyBehind family_text bytes at families mid → (IsBegun begins_family (drop mid bytes) → ⊥) → (error : ListError) →
    IsRefusalAt (AreRegions table) bytes mid error → IsRefusalAt (IsTextOf (IsBody table state) body_text) bytes at error
IsRefusalAt-behind_families table state other bytes at mid families found ended error refused =
    IsRefusalAt-Same _ _ (Same-IsBody table state other) bytes at error
    (IsRefusalAt-tail IsFamilyBehind family_text (AreRegions table) begins_family (IsApart-family (AreRegions table) (AreRegions-not_family table))
    bytes at mid families found ended error refused)

-- a fault of regions
pub IsRefusalAt-regions : (table : List ℕ) (bytes : List ℕ) (at : ℕ) (error : ListError) → IsRowRefused (IsRegionBehind table) region_text begins_region bytes at error →
    IsRefusalAt (AreRegions table) bytes at error
IsRefusalAt-regions table bytes at error refused =
    IsRefusalAt-IsRowRefused (IsRegionBehind table) region_text IsEnd begins_region (IsApart-IsRegionBehind table IsEnd IsEnd-not_region) IsLive-IsEnd bytes at error refused

-- and one of the last line behind them
pub IsRefusalAt-behind_regions : (table : List ℕ) (bytes : List ℕ) (at mid : ℕ) (regions : List (RegionInfo × Bool)) →
    AreRows (IsRegionBehind table) region_text bytes at regions mid → (IsBegun begins_region (drop mid bytes) → ⊥) → (error : ListError) →
    IsRefusalAt IsEnd bytes mid error → IsRefusalAt (AreRegions table) bytes at error
IsRefusalAt-behind_regions table bytes at mid regions found ended error refused =
    IsRefusalAt-tail (IsRegionBehind table) region_text IsEnd begins_region (IsApart-IsRegionBehind table IsEnd IsEnd-not_region) bytes at mid regions found ended error refused
