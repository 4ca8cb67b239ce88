-- Each step keeps that the entries of regions may stand beside each other.
use Rattle.std.proofs.Common.{◌≡◌, ℕ, ◌&&◌, ◌==◌, true, false, cond, List, Some, None, refl, sym, ◌∙◌, subst, inl, inr}
use Rattle.cell_sight.specs.Member.{Member}
use Rattle.hb_cell.specs.declared.cell.Cell.{Cell}
use Rattle.plain_model.specs.declared.region_key.RegionKey.{RegionKey}
use Rattle.plain_model.specs.Found.{open_in}
use Rattle.plain_model.specs.Keys.{key_of, same_key}
use Rattle.plain_model.specs.LiveEvents.{job_of}
use Rattle.core_model.specs.declared.entry.Entry.{Entry}
use Rattle.core_model.specs.declared.region_files.RegionFiles.{RegionFiles}
use Rattle.core_model.specs.declared.snapshot.CopiedRegion.{CopiedRegion}
use Rattle.core_model.specs.declared.snapshot.Snapshot.{Snapshot}
use Rattle.core_model.specs.declared.step.Started.TheVariants as started
use Rattle.core_model.specs.declared.step.Step.{Step}
use Rattle.core_model.specs.declared.step.Step.TheVariants as step
use Rattle.core_model.specs.declared.targets.Why.{Why}
use Rattle.core_model.specs.declared.targets.Why.TheVariants as why
use Rattle.core_model.specs.ActorChanges.{captures_by}
use Rattle.core_model.specs.Actors.{IsRegion}
use Rattle.core_model.specs.Allows.{Allows}
use Rattle.core_model.specs.Entries.{no_list}
use Rattle.core_model.specs.FileChanges.{lists_by, snapshots_by}
use Rattle.core_model.specs.ListGuards.{AllowsList, Loads}
use Rattle.core_model.specs.SnapshotGuards as snapshots
use Rattle.core_model.specs.Sound.{IsSound}
use Rattle.core_model.specs.State.{Parts}
use Rattle.core_model.specs.TableChanges.{tables_by}
use Rattle.core_sound.proofs.Lists.{get-put, get-taken, map_some}
use Rattle.core_sound.proofs.NeverAgain.{tables_after}
use Rattle.core_sound.proofs.RegionFacts.{region_was}
use Rattle.core_sound.proofs.Sources.{zip-member}
use Rattle.core_sound.proofs.Tests.{cond_cases, same_key-true}
use Rattle.core_sound.proofs.Vacant.{each-cases}
use Rattle.core_contents.specs.Faithful.{IsFaithful}
use Rattle.core_opens.proofs.Entered.{from_filter}
use Rattle.core_beside.specs.Apart.{IsBeside, KeepsBeside, StandBeside}
use Rattle.core_beside.proofs.Commits.{AreBeside, compact_beside, flush_beside, joined_beside, waits_apart}
use Rattle.core_beside.proofs.Loaded.{added_differ, loads_kept, placed_kept}
use Rattle.core_beside.proofs.Regions.{changed_beside}
use Rattle.core_beside.proofs.Used.{unused_kept}

-- ---- a list that is committed

load_beside : (a : ℕ) (r : RegionKey) (l : RegionFiles) (cells : List Cell) (more : List (List ℕ × Entry)) (s : Parts) → Loads a r l cells more s → IsBeside s → IsRegion s.plain.tables r → AreBeside l.entries
load_beside a r l cells more s g h i = subst AreBeside (sym g.entries) (joined_beside (s.lists r).entries g.added (h.beside.listed r i) (added_differ a r l cells more s g h.loads h.placed)
    (waits_apart s r g.added h.unused i (λ b m. let w = zip-member _ _ g.added b g.files m in (a, w.1.1))))

list_beside : (reason : Why) (a : ℕ) (r : RegionKey) (l : RegionFiles) (cells : List Cell) (more : List (List ℕ × Entry)) (s : Parts) → AllowsList reason a r l cells more s → IsBeside s → IsRegion s.plain.tables r → AreBeside l.entries
list_beside why.Flush a r l cells more s g h i = flush_beside a r l cells more s g.1 h.unused (h.beside.listed r i)
list_beside why.Capture a r l cells more s g h i = flush_beside a r l cells more s g.flushes h.unused (h.beside.listed r i)
list_beside (why.Compact major) a r l cells more s g h i = compact_beside a r major l cells more s g h.unused (h.beside.listed r i)
list_beside why.Bulk a r l cells more s g h i = load_beside a r l cells more s g h i
list_beside why.Build a r l cells more s g h i = absurd (g.out i)

commit_beside : (r : RegionKey) (l : RegionFiles) (s : Parts) → IsBeside s → (IsRegion s.plain.tables r → AreBeside l.entries) → (q : RegionKey) → IsRegion s.plain.tables q → AreBeside (cond (same_key q r) l (s.lists q)).entries
commit_beside r l s h k q i = (elim (same_key q r) as (λ b. same_key q r ≡ b → AreBeside (cond b l (s.lists q)).entries) [
  | true ↦ λ d. k (subst (IsRegion s.plain.tables) (same_key-true q r d) i)
  | false ↦ λ d. h.beside.listed q i
]) refl

-- ---- captures and snapshots

capture_beside : (s : Parts) (a : ℕ) (r : RegionKey) (l : RegionFiles) → IsBeside s → AreBeside l.entries → (w : ℕ) (q : RegionKey) (k : RegionFiles) → cond ((w == a) && same_key q r) (Some l) (s.captures w q) ≡ Some k → AreBeside k.entries
capture_beside s a r l h n w q k i = cond_cases ((w == a) && same_key q r) (Some l) (s.captures w q) (Some k) i
    (λ d j. let z : l ≡ k = (cc) in subst (λ (x : RegionFiles). AreBeside x.entries) z n)
    (λ d j. h.beside.captured w q k j)

ended_beside : (s : Parts) (a : ℕ) → IsBeside s → (w : ℕ) (q : RegionKey) (k : RegionFiles) → cond (w == a) None (s.captures w q) ≡ Some k → AreBeside k.entries
ended_beside s a h w q k i = cond_cases (w == a) None (s.captures w q) (Some k) i (λ d j. absurd (cc)) (λ d j. h.beside.captured w q k j)

-- a region of the snapshot of what was captured
captured_beside : (s : Parts) (a : ℕ) (t : List ℕ) → IsBeside s → (r : CopiedRegion) → Member r (snapshots.snapshot_of (s.captures a) t s.plain).regions → AreBeside r.entries
captured_beside s a t h r m =
    let v = from_filter (snapshots.copied (s.captures a)) (open_in s.plain t) r m in
    let w = map_some (λ (l : RegionFiles). record { info = v.0; seq = l.seq; entries = l.entries }) (s.captures a (key_of v.0)) r v.2 in
    subst (λ (x : CopiedRegion). AreBeside x.entries) w.2 (h.beside.captured a (key_of v.0) w.0 w.1)

-- ---- all steps

beside_after : (p : Step) (s : Parts) → Allows p s → IsSound s → IsFaithful s → IsBeside s → StandBeside (tables_by p s.plain.snapshots s.plain.tables) (lists_by p s.lists) (snapshots_by p s.snapshots) (captures_by p s.lists s.captures)
beside_after (step.CommitList actor region number name why.Capture list cells more) s a h f k = record {
  listed = commit_beside region list s k (list_beside why.Capture actor.0 region list cells more s a.allowed k);
  copied = k.beside.copied;
  captured = capture_beside s actor.0 region list k (list_beside why.Capture actor.0 region list cells more s a.allowed k (inl a.allowed.is_open));
}
beside_after (step.CommitList actor region number name reason list cells more) s a h f k = record {
  listed = commit_beside region list s k (list_beside reason actor.0 region list cells more s a.allowed k);
  copied = k.beside.copied;
  captured = k.beside.captured;
}
beside_after (step.CommitRegions actor table number name set change) s a h f k = record {
  listed = λ r i. elim (region_was change s.plain.snapshots s.plain.tables r i) [
    | inl j ↦ k.beside.listed r j
    | inr j ↦ subst (λ q. AreBeside (s.lists q).entries) j.2 (changed_beside (job_of s.plain.live actor.0) change table actor.0 s refl a.is_change a.built h f k.beside j.0 j.1)
  ];
  copied = k.beside.copied;
  captured = k.beside.captured;
}
beside_after (step.Start who job (started.Live actor) drawn) s a h f k = record {
  listed = λ r i. each-cases (λ (l : RegionFiles). AreBeside l.entries) no_list drawn.regions s.lists r (λ x m e. tt) (k.beside.listed r i);
  copied = k.beside.copied;
  captured = k.beside.captured;
}
beside_after (step.Capture actor region) s a h f k = record {
  listed = k.beside.listed;
  copied = k.beside.copied;
  captured = capture_beside s actor.0 region (s.lists region) k (k.beside.listed region (inl a.is_open));
}
beside_after (step.Complete actor name copied) s a h f k = record {
  listed = k.beside.listed;
  copied = λ n x r i m. get-put s.snapshots name copied n x i
      (λ d j. captured_beside s actor.0 a.table k r (subst (λ (y : Snapshot). Member r y.regions) (sym j ∙ a.copied) m))
      (λ j. k.beside.copied n x r j m);
  captured = k.beside.captured;
}
beside_after (step.Uncomplete actor name) s a h f k = record {
  listed = k.beside.listed;
  copied = λ n x r i m. get-taken s.snapshots name n x i (λ d j. k.beside.copied n x r j m);
  captured = k.beside.captured;
}
beside_after (step.End actor refusal) s a h f k = record { listed = k.beside.listed; copied = k.beside.copied; captured = ended_beside s actor.0 k }
beside_after (step.Abandon actor) s a h f k = record { listed = k.beside.listed; copied = k.beside.copied; captured = ended_beside s actor.0 k }
beside_after _ s a h f k = k.beside

pub beside_kept : (p : Step) (s : Parts) → KeepsBeside p s
beside_kept p s few a h f k = record {
  unused = unused_kept p s few a h k.unused;
  beside = subst (λ t. StandBeside t (lists_by p s.lists) (snapshots_by p s.snapshots) (captures_by p s.lists s.captures)) (sym (tables_after p s)) (beside_after p s a h f k);
  loads = loads_kept p s a k.loads;
  placed = placed_kept p s few a h k.placed;
}
