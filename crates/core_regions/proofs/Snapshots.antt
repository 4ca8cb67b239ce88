-- A snapshot of what was captured covers all rows.
use Rattle.std.proofs.Common.{◌≡◌, ℕ, true, false, List, [], ◌∷◌, Option, Some, None, refl, sym, ap, ◌∙◌, subst}
use Rattle.std.specs.Prelude.{IsSome, filter_map, is_some, map, option_map}
use Rattle.std.specs.List.{AllByRecursion, cons_option}
use Rattle.std.specs.FinMap.{get}
use Rattle.cell_sight.specs.Member.{Member}
use Rattle.hb_records.specs.declared.region_info.RegionInfo.{RegionInfo}
use Rattle.plain_model.specs.declared.parts.PlainTable.{PlainTable}
use Rattle.plain_model.specs.declared.region_key.RegionKey.{RegionKey}
use Rattle.plain_model.specs.Found.{families_of_table, open_in, regions_in}
use Rattle.plain_model.specs.Keys.{key_of}
use Rattle.plain_model.specs.Rows.{open_of}
use Rattle.core_model.specs.declared.region_files.RegionFiles.{RegionFiles}
use Rattle.core_model.specs.declared.snapshot.CopiedRegion.{CopiedRegion}
use Rattle.core_model.specs.declared.snapshot.Snapshot.{Snapshot}
use Rattle.core_model.specs.declared.step.Step.{Step}
use Rattle.core_model.specs.declared.step.Step.TheVariants as step
use Rattle.core_model.specs.Allows.{Allows}
use Rattle.core_model.specs.FileChanges.{snapshots_by}
use Rattle.core_model.specs.SnapshotGuards.{CanComplete, copied, snapshot_of}
use Rattle.core_model.specs.Sound.{IsSound}
use Rattle.core_model.specs.State.{Parts}
use Rattle.core_sound.proofs.Lists.{get-put, get-taken, member-map, or_left}
use Rattle.core_sound.proofs.Sources.{open-member}
use Rattle.core_bytes.specs.Written.{IsWritten}
use Rattle.core_opens.specs.Fits.{AreFamilies, AreRegions}
use Rattle.core_regions.specs.Cover.{IsCovered, IsFitSnapshot, SnapshotsFit, infos_in}

-- the regions of what was captured are those that were asked for, where each was captured
one_info : (i : RegionInfo) (o : Option RegionFiles) (rest : List CopiedRegion) → is_some o ≡ true → infos_in (cons_option (option_map (λ (l : RegionFiles). record { info = i; seq = l.seq; entries = l.entries }) o) rest) ≡ i ∷ infos_in rest
one_info i (Some l) rest e = refl
one_info i None rest e = absurd (cc)

captured_infos : (captures : RegionKey → Option RegionFiles) (is : List RegionInfo) → AllByRecursion (λ r. is_some (captures r) ≡ true) (map key_of is) → infos_in (filter_map (copied captures) is) ≡ is
captured_infos captures [] h = refl
captured_infos captures (i ∷ is) h = one_info i (captures (key_of i)) (filter_map (copied captures) is) h.0 ∙ ap (λ xs. i ∷ xs) (captured_infos captures is h.1)

some_there : {A : Type 0} (o : Option A) → IsSome o → (x : A) × (o ≡ Some x)
some_there (Some x) e = (x, refl)
some_there None e = absurd (cc)

completed_fits : (a : ℕ) (name : List ℕ) (x : Snapshot) (s : Parts) → CanComplete a name x s → IsSound s → IsWritten s → IsCovered s → IsFitSnapshot x
completed_fits a name x s g h w k =
    let t = some_there (get s.plain.tables g.table) (h.taken.at a name g.table g.take) in
    let f = k.tables.at g.table t.0 t.1 in
    let opens : open_in s.plain g.table ≡ open_of t.0.regions = ap (λ (o : Option PlainTable). open_of (regions_in o)) t.1 in
    let infos : infos_in (snapshot_of (s.captures a) g.table s.plain).regions ≡ open_in s.plain g.table =
    captured_infos (s.captures a) (open_in s.plain g.table) (w.parts.captured a name g.table g.take (or_left (s.parted a).info (s.parted a).manifest g.wrote_info)) in
    subst IsFitSnapshot (sym g.copied) (record {
      regions = subst AreRegions (sym (infos ∙ opens)) f.regions;
      families = subst AreFamilies (sym (ap families_of_table t.1)) f.families;
      table = λ r m. h.own_regions.at g.table t.0 r.info false t.1 (open-member r.info t.0.regions (subst (Member r.info) (infos ∙ opens) (member-map (λ (y : CopiedRegion). y.info) r (snapshot_of (s.captures a) g.table s.plain).regions m)));
    })

pub snapshots_fit : (p : Step) (s : Parts) → Allows p s → IsSound s → IsWritten s → IsCovered s → SnapshotsFit (snapshots_by p s.snapshots)
snapshots_fit (step.Complete actor name copied) s a h w k = record {
  at = λ n x e. get-put s.snapshots name copied n x e (λ d i. subst IsFitSnapshot i (completed_fits actor.0 name copied s a h w k)) (λ i. k.snapshots.at n x i);
}
snapshots_fit (step.Uncomplete actor name) s a h w k = record { at = λ n x e. get-taken s.snapshots name n x e (λ d i. k.snapshots.at n x i) }
snapshots_fit _ s a h w k = k.snapshots
