-- A tree that shows a state of which all is known gives back what a stop leaves of it.
use Rattle.std.proofs.Common.{◌≡◌, ℕ, Bool, true, false, List, take, Some, refl, sym, ◌∙◌, subst, inl, inr}
use Rattle.std.specs.FinMap.{get}
use Rattle.hb_layout.specs.declared.base.Base.{Base}
use Rattle.ns_tree.specs.Tree.{Tree}
use Rattle.plain_model.specs.declared.region_key.RegionKey.{RegionKey}
use Rattle.plain_model.specs.After.{stopped}
use Rattle.core_model.specs.declared.journal.JournalEntry.{JournalEntry}
use Rattle.core_model.specs.declared.opening.Opening.{Opening}
use Rattle.core_model.specs.declared.snapshot.Snapshot.{Snapshot}
use Rattle.core_model.specs.Actors.{InSet, IsRegion}
use Rattle.core_model.specs.Disk.{disk_of, infos_of, manifests_of}
use Rattle.core_model.specs.Named.{IsNamed, listed, in_snapshot}
use Rattle.core_model.specs.Replay.{replay}
use Rattle.core_model.specs.State.{Parts}
use Rattle.core_sound.proofs.Journals.{sound_replay}
use Rattle.core_trees.specs.Trees.{trees_after}
use Rattle.core_contents.proofs.Journals.{faithful_replay}
use Rattle.core_points.proofs.Journals.{pointed_replay}
use Rattle.core_reads.specs.Laws.{IsLife}
use Rattle.core_reads.proofs.Next.{now_shown, other_shown}
use Rattle.core_recovers.specs.Reading.{Reading, IsIn, InReading, IsReading, IsRead, ReadsSnapshot, by_list, by_snapshot}
use Rattle.core_recovers.specs.Recovers.{IsTold, RecoversDisk, RecoversStopped, BeginsTold, RecoversAfter}

-- ---- what a state says

abbrev pub says : Parts → Reading
says s = record { sets = λ table. get s.sets table; lists = s.lists; snapshots = λ name. get s.snapshots name; made = s.made }

in_set : (tree : Tree) (s : Parts) → IsTold tree s → (r : RegionKey) (split : Bool) → IsIn (says s).sets r split → InSet s.plain.tables r split
in_set tree s t r split h = record { table = h.table; stands = t.shown.written.tables.at r.table ∙ h.stands; info = h.info; listed = h.listed; key = h.key }

region_of : (tree : Tree) (s : Parts) → IsTold tree s → (r : RegionKey) → InReading (says s) r → IsRegion s.plain.tables r
region_of tree s t r (inl h) = inl (in_set tree s t r false h)
region_of tree s t r (inr h) = inr (in_set tree s t r true h)

named : (tree : Tree) (s : Parts) → IsTold tree s → (b : Base) → IsRead (says s) b → IsNamed s b
named tree s t b (by_list r e i m k) = listed r e (region_of tree s t r i) m k
named tree s t b (by_snapshot name x e i m k) = in_snapshot name x e i m k

snapshot_read : (tree : Tree) (s : Parts) → IsTold tree s → (name : List ℕ) (x : Snapshot) → get s.snapshots name ≡ Some x → ReadsSnapshot (infos_of s.disk name) (manifests_of s.disk name) name x
snapshot_read tree s t name x e =
    let w = t.shown.filed.snapshots.stored name x e in
    let v = t.shown.written.manifests.at name x w.0.0 w.1.0 e w.0.1 w.1.1 in
    record {
      info = w.0.0;
      info_stands = w.0.1;
      manifest = w.1.0;
      manifest_stands = w.1.1;
      description = v.0;
      holds = v.1;
      names = λ c y m n. (t.pointed.sides.completed name x c e m).names y n;
    }

pub reading_of : (tree : Tree) (s : Parts) → IsTold tree s → IsReading s.disk (says s)
reading_of tree s t = record {
  sets = λ table. record { above = t.shown.filed.sets.at table; file = t.shown.written.sets.at table };
  lists = λ r i. let k = inl (region_of tree s t r i) in record { above = t.shown.filed.lists.at r k; file = t.shown.written.lists.at r k };
  missing = t.shown.filed.snapshots.missing;
  snapshots = snapshot_read tree s t;
  stand = λ r e i m. t.sound.listed.at r e (inl (region_of tree s t r i)) m;
  point = λ r e f i m j. t.pointed.listed.at r e f (region_of tree s t r i) m j;
  places = λ b n. t.sound.places.at b (named tree s t b n);
  bases = λ b n. t.sound.lawful.at b (named tree s t b n);
  files = t.shown.written.files;
}

disk_recovers : (tree : Tree) (s : Parts) → IsTold tree s → RecoversDisk s.disk (stopped s.plain)
disk_recovers tree s t = record {
  says = says s;
  reading = reading_of tree s t;
  tables = t.shown.written.tables.at;
  regions = λ r i. record { same = t.faithful.contents.at r i; kept = t.faithful.kept.at r i };
  snapshots = t.faithful.copies.at;
  stop = record { mem = λ r. refl; frozen = λ r. refl; seq = λ r. refl; live = refl; captures = λ a r. refl; noted = λ a r. refl };
}

pub stopped_recovers : (tree : Tree) (s : Parts) → RecoversStopped tree s
stopped_recovers tree s t = let e : disk_of tree ≡ s.disk = λ i p. t.shown.shows.at p i in subst (λ d. RecoversDisk d (stopped s.plain)) (sym e) (disk_recovers tree s t)

-- ---- journals

pub now_told : (o : Opening) (tree : Tree) (es : List JournalEntry) (k : ℕ) → IsLife o tree es → BeginsTold o → IsTold (trees_after tree (take k es)).now (replay o (take k es)).now
now_told o tree es k l t = record {
  shown = now_shown o tree es k l;
  sound = (sound_replay o es l.begins.sound l.allowed k).now;
  faithful = (faithful_replay o es l.begins.sound t.faithful l.allowed k).now;
  pointed = (pointed_replay o es k l.begins.sound t.faithful t.pointed l.allowed l.writes).now;
}

pub other_told : (o : Opening) (tree : Tree) (es : List JournalEntry) (k : ℕ) → IsLife o tree es → BeginsTold o → IsTold (trees_after tree (take k es)).other (replay o (take k es)).other
other_told o tree es k l t = record {
  shown = other_shown o tree es k l;
  sound = (sound_replay o es l.begins.sound l.allowed k).other;
  faithful = (faithful_replay o es l.begins.sound t.faithful l.allowed k).other;
  pointed = (pointed_replay o es k l.begins.sound t.faithful t.pointed l.allowed l.writes).other;
}

pub journal_recovers : (o : Opening) (tree : Tree) (es : List JournalEntry) (k : ℕ) → RecoversAfter o tree es k
journal_recovers o tree es k l t = (
  stopped_recovers (trees_after tree (take k es)).now (replay o (take k es)).now (now_told o tree es k l t),
  stopped_recovers (trees_after tree (take k es)).other (replay o (take k es)).other (other_told o tree es k l t),
)
