-- Each step keeps that captures and complete snapshots hold their cells.
use Rattle.std.proofs.Common.{◌≡◌, ℕ, ◌&&◌, ◌==◌, Bool, true, false, cond, List, [], ◌∷◌, Option, Some, None, refl, sym, ap, ◌∙◌, subst, inl, inr}
use Rattle.std.specs.Prelude.{IsSome, filter_map, option_map}
use Rattle.std.specs.List.{AllZip, cons_option}
use Rattle.std.specs.FinMap.{get, insert, remove}
use Rattle.cell_sight.specs.Member.{Member}
use Rattle.hb_cell.specs.declared.cell.Cell.{Cell}
use Rattle.hb_cell.specs.Order.{same_bytes}
use Rattle.hb_records.specs.declared.region_info.RegionInfo.{RegionInfo}
use Rattle.plain_model.specs.declared.event.Event.{Event}
use Rattle.plain_model.specs.declared.hold.Hold.TheVariants as holds
use Rattle.plain_model.specs.declared.job.Job.{Job}
use Rattle.plain_model.specs.declared.job.Job.TheVariants as jobs
use Rattle.plain_model.specs.declared.parts.PlainSnapshot.{PlainSnapshot}
use Rattle.plain_model.specs.declared.parts.PlainTable.{PlainTable}
use Rattle.plain_model.specs.declared.parts.RegionCopy.{RegionCopy}
use Rattle.plain_model.specs.declared.region_key.RegionKey.{RegionKey}
use Rattle.plain_model.specs.Conflicts.{excludes}
use Rattle.plain_model.specs.Found.{families_of_table, open_in, regions_in}
use Rattle.plain_model.specs.Keys.{key_of, same_key}
use Rattle.plain_model.specs.LiveEvents.{copy_of, job_of}
use Rattle.plain_model.specs.Rows.{open_of}
use Rattle.plain_model.specs.SnapshotEvents.{completed, with_capture, with_snapshot}
use Rattle.plain_model.specs.SnapshotEvents as plain
use Rattle.plain_model.specs.TableEvents.{tables_on}
use Rattle.core_model.specs.declared.region_files.RegionFiles.{RegionFiles}
use Rattle.core_model.specs.declared.snapshot.Snapshot.{Snapshot}
use Rattle.core_model.specs.Actors.{HasHold}
use Rattle.core_model.specs.Entries.{Made}
use Rattle.core_model.specs.SetGuards.{IsChange}
use Rattle.core_model.specs.SnapshotGuards.{CanComplete, copied}
use Rattle.core_model.specs.Sound.{IsSound}
use Rattle.core_model.specs.State.{Parts}
use Rattle.core_sound.proofs.HoldsFound.{hold_fits, hold_job, some_is}
use Rattle.core_sound.proofs.Lists.{get-taken}
use Rattle.core_sound.proofs.Sources.{open-member}
use Rattle.core_sound.proofs.TablesKept.{other_table, put_this, put_other}
use Rattle.core_sound.proofs.Tests.{both_right, cond_cases, same_bytes-true, same_key-true}
use Rattle.core_contents.specs.ContentFacts.{IsCaptureOf}
use Rattle.core_contents.specs.Faithful.{IsFaithful}
use Rattle.core_contents.proofs.CopiesKept.{take_job}
use Rattle.core_regions.proofs.Held.{changer, other_held}
use Rattle.core_cells.specs.Cells.{AreCellsOf, CapturesHold, CopyHolds, HasCells, SnapshotsHold}

-- ---- captures

capture_parts : (cells : List Cell) (n : ℕ) (o : Option RegionInfo) (c : RegionCopy) → copy_of cells n o ≡ Some c → (cells ≡ c.cells) × (n ≡ c.number)
capture_parts cells n None c e = absurd (cc)
capture_parts cells n (Some i) c e = let z = some_is e in (ap (λ (x : RegionCopy). x.cells) z, ap (λ (x : RegionCopy). x.number) z)

-- what is captured of a region has the cells of its files
pub captured_holds : (a : ℕ) (r : RegionKey) (s : Parts) (stable : RegionKey → List Cell) (kept : RegionKey → ℕ) (o : Option RegionInfo) → HasCells s
    → ((t : List ℕ) (tb : PlainTable) (i : RegionInfo) (split : Bool) → get s.plain.tables t ≡ Some tb → Member (i, split) tb.regions → AreCellsOf i tb.schema.families (kept (key_of i)) (stable (key_of i)))
    → CapturesHold s.plain.tables (λ w q. cond ((w == a) && same_key q r) (copy_of (stable r) (kept r) o) (s.plain.captures w q))
captured_holds a r s stable kept o k f = record {
  at = λ w q c tb i split e t m n. cond_cases ((w == a) && same_key q r) (copy_of (stable r) (kept r) o) (s.plain.captures w q) (Some c) e
      (λ d z.
      let y = capture_parts (stable r) (kept r) o c z in
      let x : key_of i ≡ r = n ∙ same_key-true q r (both_right (w == a) (same_key q r) d) in
      subst (λ v. AreCellsOf i tb.schema.families v c.cells) (ap kept x ∙ y.1) (subst (λ v. AreCellsOf i tb.schema.families (kept (key_of i)) v) (ap stable x ∙ y.0) (f q.table tb i split t m)))
      (λ d z. k.captures.at w q c tb i split z t m n);
}

pub ended_captures : (a : ℕ) (s : Parts) → HasCells s → CapturesHold s.plain.tables (λ w q. cond (w == a) None (s.plain.captures w q))
ended_captures a s k = record { at = λ w q c tb i split e t m n. cond_cases (w == a) None (s.plain.captures w q) (Some c) e (λ d z. absurd (cc)) (λ d z. k.captures.at w q c tb i split z t m n) }

-- the core has captured it too
captured_too : (made : Made) (r : RegionKey) (o : Option RegionFiles) (q : Option RegionCopy) (c : RegionCopy) → IsCaptureOf made r o q → q ≡ Some c → (l : RegionFiles) × (o ≡ Some l)
captured_too made r (Some l) q c h e = (l, refl)
captured_too made r None None c h e = absurd (cc)
captured_too made r None (Some d) c h e = absurd h

pub change_captures : (change : Event) (table : List ℕ) (a : ℕ) (s : Parts) → IsChange (job_of s.plain.live a) change table a s → IsSound s → IsFaithful s → HasCells s → CapturesHold (tables_on change s.plain.snapshots s.plain.tables) s.plain.captures
change_captures change table a s z h f k = record {
  at = λ w r c tb i split e t m n.
      let l = captured_too s.made r (s.captures w r) (s.plain.captures w r) c (f.copied.at w r) e in
      let y = h.captures.at w r l.0 l.1 in
      k.captures.at w r c tb i split e (sym (other_table (job_of s.plain.live a) change table a s r.table z (apart (same_bytes r.table table) w r y refl)) ∙ t) m n;
}
  where
    apart : (x : Bool) (w : ℕ) (r : RegionKey) → ((name : List ℕ) × HasHold s.plain.live w (holds.Take name r.table)) → same_bytes r.table table ≡ x → same_bytes r.table table ≡ false
    apart true w r y q = (let c = changer (job_of s.plain.live a) change table a s refl z h in
        other_held s a w table (holds.Take y.0 r.table) h c y.1 (c.no_take y.0 r.table) (ap (λ t. excludes c.hold (holds.Take y.0 t)) (same_bytes-true r.table table q) ∙ c.not_take y.0))
    apart false w r y q = q

-- ---- complete snapshots

zip_captured : (families : List (List ℕ × ℕ)) (captures : RegionKey → Option RegionFiles) (copies : RegionKey → Option RegionCopy) (made : Made) (is : List RegionInfo) → ((r : RegionKey) → IsCaptureOf made r (captures r) (copies r))
    → ((i : RegionInfo) (c : RegionCopy) → Member i is → copies (key_of i) ≡ Some c → AreCellsOf i families c.number c.cells) → AllZip (CopyHolds families) (filter_map (copied captures) is) (plain.captured copies is)
zip_captured families captures copies made [] k f = tt
zip_captured families captures copies made (i ∷ is) k f = one (captures (key_of i)) (copies (key_of i)) refl (k (key_of i)) (zip_captured families captures copies made is k (λ j c m. f j c (inr m)))
  where
    one : (o : Option RegionFiles) (q : Option RegionCopy) → copies (key_of i) ≡ q → IsCaptureOf made (key_of i) o q → AllZip (CopyHolds families) (filter_map (copied captures) is) (plain.captured copies is)
        → AllZip (CopyHolds families) (cons_option (option_map (λ (l : RegionFiles). record { info = i; seq = l.seq; entries = l.entries }) o) (filter_map (copied captures) is)) (with_capture q (plain.captured copies is))
    one None None e c z = z
    one (Some l) (Some y) e c z = (f i y (inl refl) e, z)
    one None (Some y) e c z = absurd c
    one (Some l) None e c z = absurd c

some_there : {A : Type 0} (o : Option A) → IsSome o → (x : A) × (o ≡ Some x)
some_there (Some x) e = (x, refl)
some_there None e = absurd (cc)

-- the snapshot that is completed, and its plain copy
completed_holds : (a : ℕ) (name : List ℕ) (x : Snapshot) (y : PlainSnapshot) (s : Parts) (tb : PlainTable) → (g : CanComplete a name x s) → IsSound s → IsFaithful s → HasCells s → get s.plain.tables g.table ≡ Some tb
    → record { schema = tb.schema; regions = plain.captured (s.plain.captures a) (open_of tb.regions) } ≡ y → AllZip (CopyHolds x.schema.families) x.regions y.regions
completed_holds a name x y s tb g h f k t e =
    subst (λ (z : Snapshot). AllZip (CopyHolds z.schema.families) z.regions y.regions) (sym g.copied)
    (subst (λ (z : PlainSnapshot). AllZip (CopyHolds (families_of_table (get s.plain.tables g.table))) (filter_map (copied (s.captures a)) (open_in s.plain g.table)) z.regions) e
    (subst (λ (o : Option PlainTable). AllZip (CopyHolds (families_of_table o)) (filter_map (copied (s.captures a)) (open_of (regions_in o))) (plain.captured (s.plain.captures a) (open_of tb.regions))) (sym t)
    (zip_captured tb.schema.families (s.captures a) (s.plain.captures a) s.made (open_of tb.regions) (f.copied.at a) (λ i c m q.
    let o = open-member i tb.regions m in
    k.captures.at a (key_of i) c tb i false q (ap (get s.plain.tables) (h.own_regions.at g.table tb i false t o) ∙ t) o refl))))

shot_of : (s : Parts) (a : ℕ) (name t : List ℕ) (o : Option Job) (tb : PlainTable) → o ≡ Some (jobs.Snapshot t name) → get s.plain.tables t ≡ Some tb
    → completed o (s.plain.captures a) s.plain.tables s.plain.snapshots ≡ insert s.plain.snapshots name (record { schema = tb.schema; regions = plain.captured (s.plain.captures a) (open_of tb.regions) })
shot_of s a name t o tb e i = ap (λ q. completed q (s.plain.captures a) s.plain.tables s.plain.snapshots) e ∙ ap (λ q. with_snapshot name (s.plain.captures a) q s.plain.snapshots) i

pub complete_holds : (a : ℕ) (name : List ℕ) (x : Snapshot) (s : Parts) → CanComplete a name x s → IsSound s → IsFaithful s → HasCells s → SnapshotsHold (insert s.snapshots name x) (completed (job_of s.plain.live a) (s.plain.captures a) s.plain.tables s.plain.snapshots)
complete_holds a name x s g h f k =
    let t = some_there (get s.plain.tables g.table) (h.taken.at a name g.table g.take) in
    let o = shot_of s a name g.table (job_of s.plain.live a) t.0 (hold_job s.plain.live a _ g.take ∙ ap Some (take_job name g.table _ (hold_fits s.plain.live a _ h.fits g.take))) t.1 in
    subst (SnapshotsHold (insert s.snapshots name x)) (sym o) (record {
      at = λ n u v e i. (elim (same_bytes n name) as (λ b. same_bytes n name ≡ b → AllZip (CopyHolds u.schema.families) u.regions v.regions) [
        | true ↦ λ d.
            let q = same_bytes-true n name d in
            let y = some_is (sym (put_this s.snapshots name x) ∙ ap (get (insert s.snapshots name x)) (sym q) ∙ e) in
            let z = some_is (sym (put_this s.plain.snapshots name _) ∙ ap (get (insert s.plain.snapshots name _)) (sym q) ∙ i) in
            subst (λ (w : Snapshot). AllZip (CopyHolds w.schema.families) w.regions v.regions) y (completed_holds a name x v s t.0 g h f k t.1 z)
        | false ↦ λ d. k.snapshots.at n u v (sym (put_other s.snapshots name x n d) ∙ e) (sym (put_other s.plain.snapshots name _ n d) ∙ i)
      ]) refl;
    })

pub delete_holds : (name : List ℕ) (s : Parts) → HasCells s → SnapshotsHold (remove s.snapshots name) (remove s.plain.snapshots name)
delete_holds name s k = record { at = λ n x y e i. get-taken s.snapshots name n x e (λ d q. get-taken s.plain.snapshots name n y i (λ c r. k.snapshots.at n x y q r)) }
