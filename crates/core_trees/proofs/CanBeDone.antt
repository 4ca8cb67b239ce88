-- The operation of an allowed step can be done: its names are in their grammars, what it works on stands, and what it makes is new.
use Rattle.std.proofs.Common.{◌≡◌, ℕ, ◌+◌, ◌≤◌, ◌<◌, Bool, true, false, cond, List, [], None, refl, sym, ap, subst, inl, inr, arith}
use Rattle.hb_cell.specs.declared.cell.Cell.{Cell}
use Rattle.hb_layout.specs.declared.base.Base.{Base}
use Rattle.hb_layout.specs.Lawful.{IsSpelled}
use Rattle.hb_layout.specs.Spot as layout
use Rattle.hb_names.specs.Encoded.{IsEncoded}
use Rattle.hb_file_names.specs.FileName.{IsFileName}
use Rattle.hb_file_names.specs.RefName.{IsRefName}
use Rattle.hb_file_names.proofs.FileLemmas.{IsFileName-file_text}
use Rattle.hb_file_names.proofs.TextLemmas.{IsLinkName-link_text, IsRefName-file, IsRefName-link, IsBackRef-back_text}
use Rattle.plain_model.specs.declared.region_key.RegionKey.{RegionKey}
use Rattle.core_model.specs.declared.entry.Entry.{Entry}
use Rattle.core_model.specs.declared.entry.Entry.TheVariants as entries
use Rattle.core_model.specs.declared.region_files.RegionFiles.{RegionFiles}
use Rattle.core_model.specs.declared.targets.ManifestPart.TheVariants as parts
use Rattle.core_model.specs.declared.targets.MoveFrom.TheVariants as moves
use Rattle.core_model.specs.declared.targets.OldFile.TheVariants as old
use Rattle.core_model.specs.declared.targets.Why.{Why}
use Rattle.core_model.specs.declared.targets.Why.TheVariants as why
use Rattle.core_model.specs.declared.step.Step.{Step}
use Rattle.core_model.specs.declared.step.Step.TheVariants as step
use Rattle.core_model.specs.Actors.{Counts}
use Rattle.core_model.specs.Allows.{Allows}
use Rattle.core_model.specs.Entries.{entry_name, link_name, file_of, is_own, IsKey, IsBase, IsEntryIn}
use Rattle.core_model.specs.ListGuards.{AllowsList}
use Rattle.core_model.specs.Named.{planned}
use Rattle.core_model.specs.Ops.{op_of}
use Rattle.core_model.specs.Site.{Live, pointer_at}
use Rattle.core_model.specs.Sound.{IsSound}
use Rattle.core_model.specs.State.{Parts}
use Rattle.core_sound.proofs.Draws.{other_digits}
use Rattle.core_sound.proofs.NameFacts.{store_name}
use Rattle.core_sound.proofs.NamesKept.{placed_stem, piece_stem, staged_stem, next_stem}
use Rattle.core_sound.proofs.NeverAgain.{not_store, half_not_own}
use Rattle.core_sites.specs.Shows.{CanDo, IsSpelledSite, MakesSpelled, WorksOn, MakesNew}
use Rattle.core_trees.specs.Filed.{IsFiled}
use Rattle.core_trees.specs.Trees.{HasNames}
use Rattle.core_trees.proofs.Numbers.{below_next, absent}

-- ---- what a step works on stands

works_on : (p : Step) (s : Parts) → Allows p s → IsFiled s → WorksOn (op_of p) s.disk
works_on (step.Place actor (moves.Written name) base cells) s a f = (a.moved.wrote.file, a.moved.wrote.stands)
works_on (step.Place actor (moves.WrittenBulk name) base cells) s a f = (a.moved.wrote.file, a.moved.wrote.stands)
works_on (step.Place actor (moves.StagedBulk folder name) base cells) s a f = (a.moved.file, a.moved.stands)
works_on (step.CommitList actor region number name why list cells more) s a f = (a.next.wrote.file, a.next.wrote.stands)
works_on (step.CommitRegions actor table number name set change) s a f = (a.wrote.file, a.wrote.stands)
works_on (step.DropOld actor (old.List region number)) s a f = (a.state, a.stands)
works_on (step.DropOld actor (old.Set table number)) s a f = (a.state, a.stands)
works_on (step.DropOld actor (old.Tmp name)) s a f = (a.state, a.stands)
works_on (step.DropOld actor (old.Work snapshot parts.Info)) s a f = (a.state, a.stands)
works_on (step.DropOld actor (old.Work snapshot parts.Data)) s a f = (a.state, a.stands)
works_on (step.DropOld actor (old.Staged folder family name)) s a f = (a.state, a.stands)
works_on (step.Stamp actor base moment) s a f = (a.file, a.stands)
works_on (step.Archive actor base) s a f = (a.file, a.stands)
works_on (step.Unlink actor entry region) s a f = (a.file, a.stands)
works_on (step.CleanBackRef actor base region) s a f = (a.back, a.stands)
works_on (step.DeleteArchived actor base) s a f = (a.file, a.archived)
works_on (step.Manifest actor parts.Info snapshot moment bytes) s a f = tt
works_on (step.Manifest actor parts.Data snapshot moment bytes) s a f = tt
works_on (step.Complete actor snapshot copied) s a f = (a.info, a.info_stands)
works_on (step.Uncomplete actor snapshot) s a f = (f.snapshots.stored snapshot a.snapshot a.stands).0
works_on _ s a f = tt

-- ---- what it makes has its names in their grammars

live_spelled : (b : Base) → IsBase b → IsSpelledSite (Live b)
live_spelled b n = subst (λ c. IsSpelled (cond c (layout.Live b) (layout.Pointing (pointer_at b)))) (sym (store_name b.name n.file)) (n.names, n.file)

halved : (linked : Bool) (b : Base) (parent : List ℕ) → IsBase b → IsEncoded parent → IsRefName (entry_name (entries.Half b linked parent [] false))
halved false b parent n e = IsRefName-file b.name parent n.file e
halved true b parent n e = IsRefName-link (link_name b) parent (IsLinkName-link_text b.table b.region b.name n.names.table n.names.region n.file) e

refers_spot : (r : RegionKey) (e : Entry) → IsKey r → IsEntryIn r e → is_own e ≡ false → IsSpelled (layout.Pointing (pointer_at (file_of r e)))
refers_spot r (entries.Own b) k n o = absurd (cc)
refers_spot r (entries.Link b) k n o = record { table = k.table; region = k.region; family = n.names.family; name = inl (IsLinkName-link_text b.table b.region b.name n.names.table n.names.region n.file) }
refers_spot r (entries.Half b true parent row top) k n o = record { table = k.table; region = k.region; family = n.0.names.family; name = inr (halved true b parent n.0 n.1) }
refers_spot r (entries.Half b false parent row top) k n o =
    record { table = k.table; region = k.region; family = n.0.names.family; name = inr (halved false b parent n.0 (subst IsEncoded (ap (λ (x : RegionKey). x.region) n.1) n.0.names.region)) }

refers_spelled : (r : RegionKey) (e : Entry) → IsKey r → IsEntryIn r e → is_own e ≡ false → IsSpelledSite (Live (file_of r e))
refers_spelled r e k n o = subst (λ c. IsSpelled (cond c (layout.Live (file_of r e)) (layout.Pointing (pointer_at (file_of r e))))) (sym (not_store e o)) (refers_spot r e k n o)

next_number : (m n : ℕ) → m ≡ n + 1 → n < 9_223_372_036_854_775_807 → (1 ≤ m) × (m ≤ 9_223_372_036_854_775_807)
next_number m n e h = (omega (arith, e, h), omega (arith, e, h))

makes_spelled : (p : Step) (s : Parts) → Allows p s → IsSound s → HasNames p → MakesSpelled (op_of p)
makes_spelled (step.WriteTmp actor recipe name cells bytes) s a h t = subst IsFileName (sym a.new) (IsFileName-file_text (record { epoch = s.epoch; counter = s.files + 1; seq = None }) tt)
makes_spelled (step.Place actor (moves.Written name) base cells) s a h t = live_spelled base a.names
makes_spelled (step.Place actor (moves.WrittenBulk name) base cells) s a h t = live_spelled base a.names
makes_spelled (step.Place actor (moves.StagedBulk folder name) base cells) s a h t = live_spelled base a.names
makes_spelled (step.CommitList actor region number name why list cells more) s a h t = (t.table, t.region, next_number list.number number a.next.number a.next.unspent)
makes_spelled (step.CommitRegions actor table number name set change) s a h t = (t, next_number set.number number a.number a.unspent)
makes_spelled (step.Archive actor base) s a h t = (a.names.names, a.names.file)
makes_spelled (step.BackRef actor base region) s a h t =
    let n : IsBase base = h.lawful.at base (planned actor.0 (region.region, a.entry) a.planned a.reads) in
    (n.names, n.file, IsBackRef-back_text region.region region.table t.region t.table)
makes_spelled (step.Link actor base region) s a h t = refers_spelled region (entries.Link base) t a.names refl
makes_spelled (step.Half actor entry region bytes) s a h t = refers_spelled region entry t a.refer.names (half_not_own entry a.half)
makes_spelled (step.Manifest actor parts.Info snapshot moment bytes) s a h t = t
makes_spelled (step.Manifest actor parts.Data snapshot moment bytes) s a h t = t
makes_spelled (step.Complete actor snapshot copied) s a h t = t
makes_spelled (step.Uncomplete actor snapshot) s a h t = t
makes_spelled (step.DropOld actor (old.Work snapshot parts.Info)) s a h t = tt
makes_spelled (step.DropOld actor (old.Work snapshot parts.Data)) s a h t = tt
makes_spelled (step.DropOld actor (old.List region number)) s a h t = tt
makes_spelled _ s a h t = tt

-- ---- what it makes is new

-- a list is committed of a region that counts
list_counts : (reason : Why) (a : ℕ) (r : RegionKey) (l : RegionFiles) (cells : List Cell) (more : List (List ℕ × Entry)) (s : Parts) → AllowsList reason a r l cells more s → Counts s.plain.tables s.plans r
list_counts why.Flush a r l cells more s g = inl g.1.region
list_counts why.Capture a r l cells more s g = inl g.flushes.region
list_counts (why.Compact major) a r l cells more s g = inl g.region
list_counts why.Bulk a r l cells more s g = inl (inl g.is_open)
list_counts why.Build a r l cells more s g = inr (record { actor = a; info = g.info; region = g.region; key = g.key })

makes_new : (p : Step) (s : Parts) → s.files ≤ 4_194_304 → Allows p s → IsSound s → IsFiled s → MakesNew (op_of p) s.disk
makes_new (step.WriteTmp actor recipe name cells bytes) s few a h f = absent _ (λ x e. other_digits s.epoch s.files name few (h.names.tmp name x e) (next_stem s name a.new))
makes_new (step.Place actor (moves.Written name) base cells) s few a h f =
    absent _ (λ x e. h.tmps_apart.from_live name _ a.moved.wrote.stands base x e (store_name base.name a.names.file) (placed_stem s actor.0 name base base h cells a refl))
makes_new (step.Place actor (moves.WrittenBulk name) base cells) s few a h f =
    absent _ (λ x e. h.tmps_apart.from_live name _ a.moved.wrote.stands base x e (store_name base.name a.names.file) (piece_stem s actor.0 name base base h cells a refl))
makes_new (step.Place actor (moves.StagedBulk folder name) base cells) s few a h f =
    absent _ (λ x e. other_digits s.epoch s.files base.name few (h.names.live_file base x e (store_name base.name a.names.file)) (staged_stem s base base _ a.moved.named refl))
makes_new (step.CommitList actor region number name reason list cells more) s few a h f =
    f.lists.at region (list_counts reason actor.0 region list cells more s a.allowed) list.number (below_next a.next.replaces a.next.number)
makes_new (step.CommitRegions actor table number name set change) s few a h f = f.sets.at table set.number (below_next a.replaces a.number)
makes_new (step.Archive actor base) s few a h f = absent _ (λ x e. h.one_place.at base a.file x a.stands e)
makes_new (step.BackRef actor base region) s few a h f = a.new
makes_new (step.Link actor base region) s few a h f = a.new
makes_new (step.Half actor entry region bytes) s few a h f = a.refer.new
makes_new (step.Manifest actor parts.Info snapshot moment bytes) s few a h f = a.new
makes_new (step.Manifest actor parts.Data snapshot moment bytes) s few a h f = a.new
makes_new (step.Complete actor snapshot copied) s few a h f = f.snapshots.missing snapshot a.missing
makes_new (step.Uncomplete actor snapshot) s few a h f = (a.no_info, a.no_manifest)
makes_new (step.DropOld actor (old.Work snapshot parts.Info)) s few a h f = tt
makes_new (step.DropOld actor (old.List region number)) s few a h f = tt
makes_new _ s few a h f = tt

pub can_be_done : (p : Step) (s : Parts) → s.files ≤ 4_194_304 → HasNames p → Allows p s → IsSound s → IsFiled s → CanDo (op_of p) s.disk
can_be_done p s few t a h f = record { spelled = makes_spelled p s a h t; works = works_on p s a f; new = makes_new p s few a h f }
