-- Each step keeps that regions, captures and snapshots hold their cells.
use Rattle.std.proofs.Common.{◌≡◌, ℕ, ◌+◌, ◌==◌, Bool, true, false, cond, List, [], Option, Some, None, refl, sym, ap, ◌∙◌, subst}
use Rattle.std.specs.Prelude.{Ok, unwrap_or}
use Rattle.std.specs.FinMap.{get}
use Rattle.cell_sight.specs.Member.{Member}
use Rattle.hb_cell.specs.declared.cell.Cell.{Cell}
use Rattle.hb_layout.specs.declared.base.Base.{Base}
use Rattle.hb_records.specs.declared.region_info.RegionInfo.{RegionInfo}
use Rattle.plain_model.specs.declared.event.Event.{Event}
use Rattle.plain_model.specs.declared.event.Event.TheVariants as event
use Rattle.plain_model.specs.declared.job.Job.{Job}
use Rattle.plain_model.specs.declared.job.Job.TheVariants as jobs
use Rattle.plain_model.specs.declared.parts.PlainTable.{PlainTable}
use Rattle.plain_model.specs.declared.region_key.RegionKey.{RegionKey}
use Rattle.plain_model.specs.After.{after_all}
use Rattle.plain_model.specs.CellEvents.{families_in}
use Rattle.plain_model.specs.LiveEvents.{captures_on, region_at, without}
use Rattle.plain_model.specs.Plain.{Plain}
use Rattle.plain_model.specs.TableEvents.{tables_on}
use Rattle.core_model.specs.declared.region_files.RegionFiles.{RegionFiles}
use Rattle.core_model.specs.declared.step.Started.TheVariants as started
use Rattle.core_model.specs.declared.step.Step.{Step}
use Rattle.core_model.specs.declared.step.Step.TheVariants as step
use Rattle.core_model.specs.declared.targets.MoveFrom.TheVariants as moves
use Rattle.core_model.specs.declared.targets.Why.TheVariants as why
use Rattle.core_model.specs.ActorChanges.{placed_by, unless_by, waiting_by}
use Rattle.core_model.specs.Allows.{Allows}
use Rattle.core_model.specs.Entries.{has_own, seq_of}
use Rattle.core_model.specs.Events.{events_of}
use Rattle.core_model.specs.FileChanges.{snapshots_by}
use Rattle.core_model.specs.Keys.{home}
use Rattle.core_model.specs.SetGuards.{IsChange}
use Rattle.core_model.specs.Sound.{IsSound}
use Rattle.core_model.specs.State.{Parts}
use Rattle.core_model.specs.TableChanges.{tables_by}
use Rattle.core_sound.proofs.LiveKept.{hold_front, hold_without, live_after}
use Rattle.core_sound.proofs.NeverAgain.{tables_after}
use Rattle.core_sound.proofs.Tests.{cond_cases}
use Rattle.core_bytes.specs.Written.{IsWritten}
use Rattle.core_contents.specs.Faithful.{IsFaithful}
use Rattle.core_contents.proofs.CopiesKept.{change_snapshots}
use Rattle.core_contents.proofs.Tools.{set_here}
use Rattle.core_beside.specs.Apart.{IsBeside}
use Rattle.core_regions.specs.Cover.{IsCovered}
use Rattle.core_cells.specs.Cells.{BulkNumbered, CapturesHold, HasCells, IsNumbered, KeepsCells, LoadsNumbered, RegionsHold, SnapshotsHold}
use Rattle.core_cells.proofs.Changed.{change_holds}
use Rattle.core_cells.proofs.Copies.{captured_holds, change_captures, complete_holds, delete_holds, ended_captures}
use Rattle.core_cells.proofs.Loads.{Numbered, bulk_kept, change_new, draw_new, fewer_loads, flush_new, load_new, major_new, place_loads, placed_less, put_new, written_none}
use Rattle.core_cells.proofs.Regions.{draw_region, flush_region, load_region, major_region, put_region}
use Rattle.core_cells.proofs.Sources.{bulk_filled, pieces_cut}

-- ---- what a step makes of the plain machine

abbrev after_plain : Step → Parts → Plain
after_plain p s = after_all s.plain (events_of p)

table_own : (s : Parts) (t : List ℕ) (tb : PlainTable) (i : RegionInfo) (split : Bool) → IsSound s → get s.plain.tables t ≡ Some tb → Member (i, split) tb.regions → get s.plain.tables i.table ≡ Some tb
table_own s t tb i split h e m = ap (get s.plain.tables) (h.own_regions.at t tb i split e m) ∙ e

-- ---- regions

regions_hold : (p : Step) (s : Parts) → Allows p s → IsSound s → IsWritten s → IsFaithful s → IsBeside s → IsCovered s → HasCells s
    → RegionsHold (tables_by p s.plain.snapshots s.plain.tables) (after_plain p s).stable (after_plain p s).mem (after_plain p s).kept (after_plain p s).seq
regions_hold (step.PutCell who table put moment (Some joined)) s a h w f b v k = record { at = λ t tb i split e m. put_region table put moment joined s tb i split a h v (table_own s t tb i split h e m) m (k.regions.at t tb i split e m) }
regions_hold (step.Place actor (moves.WrittenBulk name) base cells) s a h w f b v k = record { at = λ t tb i split e m. draw_region (home base) s tb i (k.regions.at t tb i split e m) }
regions_hold (step.Place actor (moves.StagedBulk folder name) base cells) s a h w f b v k = record { at = λ t tb i split e m. draw_region (home base) s tb i (k.regions.at t tb i split e m) }
regions_hold (step.CommitList actor region number name why.Flush list cells more) s a h w f b v k = record { at = λ t tb i split e m. flush_region region s tb i (k.regions.at t tb i split e m) }
regions_hold (step.CommitList actor region number name why.Capture list cells more) s a h w f b v k = record { at = λ t tb i split e m. flush_region region s tb i (k.regions.at t tb i split e m) }
regions_hold (step.CommitList actor region number name (why.Compact true) list cells more) s a h w f b v k = record { at = λ t tb i split e m. major_region region (families_in (get s.plain.tables region.table)) (unwrap_or (s.plain.noted actor.0 region) 0) s tb i (k.regions.at t tb i split e m) }
regions_hold (step.CommitList actor region number name why.Bulk list cells more) s a h w f b v k = record { at = λ t tb i split e m. load_region actor.0 region list cells more s tb i split a.allowed w b v k (table_own s t tb i split h e m) m (k.regions.at t tb i split e m) }
regions_hold (step.CommitRegions actor table number name set change) s a h w f b v k = record { at = change_holds change table actor.0 s a.is_change a.once h f v k }
regions_hold (step.Start who job (started.Live actor) drawn) s a h w f b v k = k.regions
regions_hold (step.Pin actor target (Ok region) true) s a h w f b v k = k.regions
regions_hold _ s a h w f b v k = k.regions

-- ---- captures

same_captures : (job : Option Job) (change : Event) (table : List ℕ) (a : ℕ) (s : Parts) → IsChange job change table a s → captures_on change s.plain.tables s.plain.stable s.plain.kept s.plain.captures ≡ s.plain.captures
same_captures (Some (jobs.Create t fs n ks)) (event.Create schema regions) table a s z = refl
same_captures (Some (jobs.Split t row)) (event.Split u parent low high) table a s z = refl
same_captures (Some (jobs.Clone name t)) (event.Clone c u regions) table a s z = refl
same_captures (Some (jobs.Restore name)) (event.Restore c regions) table a s z = refl
same_captures (Some (jobs.Enable t)) (event.Enable u) table a s z = refl
same_captures (Some (jobs.Disable t)) (event.Disable u) table a s z = refl
same_captures (Some (jobs.Drop t)) (event.Drop u) table a s z = refl
same_captures (Some jobs.Janitor) (event.Remove t rs) table a s z = refl
same_captures _ _ table a s z = absurd z

captures_hold : (p : Step) (s : Parts) → Allows p s → IsSound s → IsFaithful s → HasCells s → CapturesHold (tables_by p s.plain.snapshots s.plain.tables) (after_plain p s).captures
captures_hold (step.Capture actor region) s a h f k = captured_holds actor.0 region s s.plain.stable s.plain.kept (region_at s.plain.tables region) k (λ t tb i split e m. (k.regions.at t tb i split e m).files)
captures_hold (step.CommitList actor region number name why.Capture list cells more) s a h f k =
    captured_holds actor.0 region s (after_plain (step.CommitList actor region number name why.Capture list cells more) s).stable (after_plain (step.CommitList actor region number name why.Capture list cells more) s).kept (region_at s.plain.tables region) k
    (λ t tb i split e m. (flush_region region s tb i (k.regions.at t tb i split e m)).files)
captures_hold (step.CommitList actor region number name why.Flush list cells more) s a h f k = k.captures
captures_hold (step.CommitList actor region number name (why.Compact true) list cells more) s a h f k = k.captures
captures_hold (step.CommitRegions actor table number name set change) s a h f k = subst (CapturesHold (tables_on change s.plain.snapshots s.plain.tables)) (sym (same_captures _ change table actor.0 s a.is_change)) (change_captures change table actor.0 s a.is_change h f k)
captures_hold (step.End actor refusal) s a h f k = ended_captures actor.0 s k
captures_hold (step.Abandon actor) s a h f k = ended_captures actor.0 s k
captures_hold (step.PutCell who table put moment (Some joined)) s a h f k = k.captures
captures_hold (step.Start who job (started.Live actor) drawn) s a h f k = k.captures
captures_hold (step.Place actor (moves.Written name) base cells) s a h f k = k.captures
captures_hold (step.Pin actor target (Ok region) true) s a h f k = k.captures
captures_hold _ s a h f k = k.captures

-- ---- snapshots

snapshots_hold : (p : Step) (s : Parts) → Allows p s → IsSound s → IsFaithful s → HasCells s → SnapshotsHold (snapshots_by p s.snapshots) (after_plain p s).snapshots
snapshots_hold (step.Complete actor name copied) s a h f k = complete_holds actor.0 name copied s a h f k
snapshots_hold (step.Uncomplete actor name) s a h f k = delete_holds name s k
snapshots_hold (step.CommitRegions actor table number name set change) s a h f k = subst (SnapshotsHold s.snapshots) (sym (change_snapshots _ change table actor.0 s a.is_change)) k.snapshots
snapshots_hold (step.CommitList actor region number name why.Flush list cells more) s a h f k = k.snapshots
snapshots_hold (step.CommitList actor region number name (why.Compact true) list cells more) s a h f k = k.snapshots
snapshots_hold (step.PutCell who table put moment (Some joined)) s a h f k = k.snapshots
snapshots_hold (step.Start who job (started.Live actor) drawn) s a h f k = k.snapshots
snapshots_hold (step.Place actor (moves.Written name) base cells) s a h f k = k.snapshots
snapshots_hold (step.Pin actor target (Ok region) true) s a h f k = k.snapshots
snapshots_hold _ s a h f k = k.snapshots

-- ---- files that wait

-- who is no longer waiting for an actor that ends waits for another
unless_other : (a : ℕ) (o : Option ℕ) (w : ℕ) → unless_by a o ≡ Some w → (o ≡ Some w) × ((w == a) ≡ false)
unless_other a None w e = absurd (cc)
unless_other a (Some v) w e = cond_cases (v == a) None (Some v) (Some w) e (λ d i. absurd (cc)) (λ d i. (i, ap (λ (o : Option ℕ). unwrap_or (test o) false) (sym i) ∙ d))
  where
    test : Option ℕ → Option Bool
    test None = None
    test (Some x) = Some (x == a)

end_loads : (a : ℕ) (s : Parts) → HasCells s → LoadsNumbered (λ b. unless_by a (s.waiting b)) (without a s.plain.live) s.plain.tables s.plain.stable s.plain.mem s.plain.seq
end_loads a s k = fewer_loads s.waiting (λ b. unless_by a (s.waiting b)) s.plain.live (without a s.plain.live) s.plain.tables s.plain.tables s.plain.stable s.plain.mem s.plain.stable s.plain.mem s.plain.seq s.plain.seq
    (λ b w e. (unless_other a (s.waiting b) w e).0)
    (λ b w n e x y. record { load = hold_without s.plain.live w a _ (unless_other a (s.waiting b) w e).1 y.load; region = y.region; drawn = y.drawn; no_file = y.no_file; no_wait = y.no_wait }) k.loads

-- a file of a list that is committed waits no longer
listed_less : (l : RegionFiles) (s : Parts) (b : Base) (w : ℕ) → cond (has_own l.entries b) None (s.waiting b) ≡ Some w → (s.waiting b ≡ Some w) × (has_own l.entries b ≡ false)
listed_less l s b w e = cond_cases (has_own l.entries b) None (s.waiting b) (Some w) e (λ d i. absurd (cc)) (λ d i. (i, d))

commit_loads : (l : RegionFiles) (s : Parts) (stable mem : RegionKey → List Cell) → HasCells s
    → ((b : Base) (w n : ℕ) → has_own l.entries b ≡ false → s.waiting b ≡ Some w → seq_of b.name ≡ Some n → Numbered s b w n → IsNumbered b w n s.plain.live s.plain.tables (stable (home b)) (mem (home b)) (s.plain.seq (home b)))
    → LoadsNumbered (λ b. cond (has_own l.entries b) None (s.waiting b)) s.plain.live s.plain.tables stable mem s.plain.seq
commit_loads l s stable mem k f = fewer_loads s.waiting (λ b. cond (has_own l.entries b) None (s.waiting b)) s.plain.live s.plain.live s.plain.tables s.plain.tables s.plain.stable s.plain.mem stable mem s.plain.seq s.plain.seq
    (λ b w e. (listed_less l s b w e).0)
    (λ b w n e x y. f b w n (listed_less l s b w e).1 (listed_less l s b w e).0 x y) k.loads

loads_numbered : (p : Step) (s : Parts) → Allows p s → IsSound s → HasCells s → LoadsNumbered (waiting_by p s.waiting) (after_plain p s).live (tables_by p s.plain.snapshots s.plain.tables) (after_plain p s).stable (after_plain p s).mem (after_plain p s).seq
loads_numbered (step.PutCell who table put moment (Some joined)) s a h k = fewer_loads s.waiting s.waiting s.plain.live s.plain.live s.plain.tables s.plain.tables s.plain.stable s.plain.mem s.plain.stable _ s.plain.seq _
    (λ b w e. e) (λ b w n e x y. put_new table joined _ s b w n a.answered.2 y) k.loads
loads_numbered (step.Place actor (moves.Written name) base cells) s a h k = place_loads (moves.Written name) actor.0 base cells s s.plain.seq a h k (λ b w n y. y) (λ n e. absurd (written_none name actor.0 base cells s a h n e))
loads_numbered (step.Place actor (moves.WrittenBulk name) base cells) s a h k = place_loads (moves.WrittenBulk name) actor.0 base cells s _ a h k (λ b w n y. draw_new (home base) s b w n y) (λ n e. set_here (home base) (s.plain.seq (home base) + 1) s.plain.seq)
loads_numbered (step.Place actor (moves.StagedBulk folder name) base cells) s a h k = place_loads (moves.StagedBulk folder name) actor.0 base cells s _ a h k (λ b w n y. draw_new (home base) s b w n y) (λ n e. set_here (home base) (s.plain.seq (home base) + 1) s.plain.seq)
loads_numbered (step.CommitList actor region number name why.Flush list cells more) s a h k = commit_loads list s _ _ k (λ b w n o i x y. flush_new region s b w n y)
loads_numbered (step.CommitList actor region number name why.Capture list cells more) s a h k = commit_loads list s _ _ k (λ b w n o i x y. flush_new region s b w n y)
loads_numbered (step.CommitList actor region number name (why.Compact true) list cells more) s a h k = commit_loads list s _ _ k (λ b w n o i x y. major_new region (families_in (get s.plain.tables region.table)) (unwrap_or (s.plain.noted actor.0 region) 0) s b w n y)
loads_numbered (step.CommitList actor region number name (why.Compact false) list cells more) s a h k = commit_loads list s s.plain.stable s.plain.mem k (λ b w n o i x y. y)
loads_numbered (step.CommitList actor region number name why.Build list cells more) s a h k = commit_loads list s s.plain.stable s.plain.mem k (λ b w n o i x y. y)
loads_numbered (step.CommitList actor region number name why.Bulk list cells more) s a h k = commit_loads list s _ _ k (λ b w n o i x y. load_new actor.0 region list cells more s b w n a.allowed k o i x y)
loads_numbered (step.CommitRegions actor table number name set change) s a h k = subst (λ live. LoadsNumbered s.waiting live (tables_by (step.CommitRegions actor table number name set change) s.plain.snapshots s.plain.tables) (after_plain (step.CommitRegions actor table number name set change) s).stable (after_plain (step.CommitRegions actor table number name set change) s).mem (after_plain (step.CommitRegions actor table number name set change) s).seq)
    (sym (live_after (step.CommitRegions actor table number name set change) s a))
    (fewer_loads s.waiting s.waiting s.plain.live s.plain.live s.plain.tables _ s.plain.stable s.plain.mem _ _ s.plain.seq _ (λ b w e. e) (λ b w n e x y. change_new change table actor.0 s b w n a.is_change h y) k.loads)
loads_numbered (step.Start who job (started.Live actor) drawn) s a h k = fewer_loads s.waiting s.waiting s.plain.live _ s.plain.tables s.plain.tables s.plain.stable s.plain.mem s.plain.stable s.plain.mem s.plain.seq s.plain.seq (λ b w e. e)
    (λ b w n e x y. record { load = hold_front s.plain.live _ w _ y.load; region = y.region; drawn = y.drawn; no_file = y.no_file; no_wait = y.no_wait }) k.loads
loads_numbered (step.End actor refusal) s a h k = end_loads actor.0 s k
loads_numbered (step.Abandon actor) s a h k = end_loads actor.0 s k
loads_numbered (step.Pin actor target (Ok region) true) s a h k = k.loads
loads_numbered _ s a h k = k.loads

none_placed : (a : ℕ) (s : Parts) → HasCells s → BulkNumbered (λ w. cond (w == a) [] (s.placed w))
none_placed a s k = record {
  whole = λ w b folder name m. k.bulk.whole w b folder name (placed_less (w == a) (s.placed w) _ m);
  cut = λ w b name m. k.bulk.cut w b name (placed_less (w == a) (s.placed w) _ m);
}

bulk_numbered : (p : Step) (s : Parts) → Allows p s → IsSound s → HasCells s → BulkNumbered (placed_by p s.placed)
bulk_numbered (step.Place actor source base cells) s a h k = bulk_kept actor.0 source base cells s a h k
bulk_numbered (step.End actor refusal) s a h k = none_placed actor.0 s k
bulk_numbered (step.Abandon actor) s a h k = none_placed actor.0 s k
bulk_numbered _ s a h k = k.bulk

pub cells_kept : (p : Step) (s : Parts) → KeepsCells p s
cells_kept p s few m a h w f b v k = record {
  regions = subst (λ t. RegionsHold t (after_plain p s).stable (after_plain p s).mem (after_plain p s).kept (after_plain p s).seq) (sym (tables_after p s)) (regions_hold p s a h w f b v k);
  captures = subst (λ t. CapturesHold t (after_plain p s).captures) (sym (tables_after p s)) (captures_hold p s a h f k);
  snapshots = snapshots_hold p s a h f k;
  loads = subst (λ t. LoadsNumbered (waiting_by p s.waiting) (after_plain p s).live t (after_plain p s).stable (after_plain p s).mem (after_plain p s).seq) (sym (tables_after p s)) (loads_numbered p s a h k);
  bulk = bulk_numbered p s a h k;
  filled = bulk_filled p s few a h b k;
  pieces = pieces_cut p s a k;
}
