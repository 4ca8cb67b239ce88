-- An opening that read a valid tree begins with a state of which all is known, and which is what the tree gives back.
use Rattle.std.proofs.Common.{◌≡◌, ℕ, Bool, true, false, List, [], ◌∷◌, Option, Some, None, refl, sym, ap, ◌∙◌, subst, inl, inr}
use Rattle.std.specs.Prelude.{is_some}
use Rattle.std.specs.List.{flat_map}
use Rattle.std.specs.FinMap.{from_entries, get}
use Rattle.cell_sight.specs.Member.{Member}
use Rattle.cell_sight.proofs.Counts.{same-refl, same-equal}
use Rattle.hb_cell.specs.Order.{bytes_cmp}
use Rattle.hb_layout.specs.declared.base.Base.{Base}
use Rattle.hb_layout.specs.Lawful.{IsLawful}
use Rattle.ns_tree.specs.declared.file.FileState.{FileState}
use Rattle.ns_tree.specs.Tree.{Tree, IsTree}
use Rattle.plain_model.specs.declared.parts.PlainSnapshot.{PlainSnapshot}
use Rattle.plain_model.specs.declared.region_key.RegionKey.{RegionKey}
use Rattle.core_model.specs.declared.entry.Entry.{Entry}
use Rattle.core_model.specs.declared.entry.Entry.TheVariants as entries
use Rattle.core_model.specs.declared.found.Found.{Found}
use Rattle.core_model.specs.declared.opening.Opening.{Opening}
use Rattle.core_model.specs.declared.region_files.RegionFiles.{RegionFiles}
use Rattle.core_model.specs.declared.snapshot.CopiedRegion.{CopiedRegion}
use Rattle.core_model.specs.declared.snapshot.Snapshot.{Snapshot}
use Rattle.core_model.specs.Actors.{InSet, IsRegion}
use Rattle.core_model.specs.Disk.{Disk, HasPlace, disk_of, is_regular, live_of, archived_of, lists_of, sets_of, is_live, is_archived}
use Rattle.core_model.specs.Entries.{Made, base_of, cells_in, cells_of, IsBase, IsEntryIn}
use Rattle.core_model.specs.FileChanges.{set_number}
use Rattle.core_model.specs.Named.{Named, listed, in_snapshot, captured, planned, pinned, linked}
use Rattle.core_model.specs.Opened.{found_list, opened, read_base}
use Rattle.core_model.specs.PassChanges.{snapshot_entries}
use Rattle.core_model.specs.Site.{Site, Archived, Tmp, site_text, spot_of}
use Rattle.core_model.specs.Sound.{IsSound}
use Rattle.core_model.specs.State.{no_plan}
use Rattle.core_sites.proofs.Regular.{regular_apart, spelled_regular}
use Rattle.core_sound.proofs.HoldsFound.{some_is}
use Rattle.core_sound.proofs.Lists.{member-append}
use Rattle.core_sound.proofs.Tests.{cond_cases}
use Rattle.core_trees.specs.Filed.{IsAbove, IsFiled}
use Rattle.core_bytes.specs.Recorded.{IsInfoOf, IsManifestOf}
use Rattle.core_bytes.specs.Stored.{IsStored, table_in_set}
use Rattle.core_bytes.specs.Written.{IsMade, IsWritten}
use Rattle.core_contents.specs.ContentFacts.{Copies, FitsEntry}
use Rattle.core_contents.specs.Faithful.{IsFaithful}
use Rattle.core_points.specs.Points.{AreEntries, IsPointed}
use Rattle.core_recovers.specs.Reading.{IsIn, InReading, by_list, by_snapshot}
use Rattle.core_recovers.specs.Recovers.{Recovers}
use Rattle.core_opens.specs.Begins.{IsFound, HasNewEpoch, BeginsWell, BeginsValid}
use Rattle.core_opens.specs.Valid.{IsValid}
use Rattle.core_opens.proofs.Beside.{one_side}
use Rattle.core_opens.proofs.Read.{set_is, snapshot_is, tables_in, table_is, own_table, copy_is}

-- an opening that told its tree
abbrev told_opening : ℕ → ℕ → Tree → Found → Opening
told_opening epoch ttl tree found = record { epoch = epoch; ttl = ttl; tree = Some tree; found = found }

-- ---- regions, lists and cells as they were found

in_set : (tree : Tree) (found : Found) (v : IsValid tree) → IsFound (disk_of tree) found v.complete.says → (r : RegionKey) (split : Bool) → InSet (tables_in found) r split → IsIn v.complete.says.sets r split
in_set tree found v f r split i = record { table = i.table; stands = sym (table_is (disk_of tree) found v.complete.says r.table f) ∙ i.stands; info = i.info; listed = i.listed; key = i.key }

in_reading : (tree : Tree) (found : Found) (v : IsValid tree) → IsFound (disk_of tree) found v.complete.says → (r : RegionKey) → IsRegion (tables_in found) r → InReading v.complete.says r
in_reading tree found v f r (inl i) = inl (in_set tree found v f r false i)
in_reading tree found v f r (inr i) = inr (in_set tree found v f r true i)

list_read : (tree : Tree) (found : Found) (v : IsValid tree) → IsFound (disk_of tree) found v.complete.says → (r : RegionKey) (e : Entry) → Member e (found_list found.lists r).entries → Member e (v.complete.says.lists r).entries
list_read tree found v f r e m = subst (λ (l : RegionFiles). Member e l.entries) (f.lists r) m

made_is : (tree : Tree) (found : Found) (v : IsValid tree) → IsFound (disk_of tree) found v.complete.says → read_base found.cells ≡ v.complete.says.made
made_is tree found v f = λ i b. f.made b i

-- ---- what is named

base_names : (r : RegionKey) (e : Entry) → IsEntryIn r e → IsBase (base_of e)
base_names r (entries.Own b) h = h.0
base_names r (entries.Link b) h = h
base_names r (entries.Half b true p row top) h = h.0
base_names r (entries.Half b false p row top) h = h.0

abbrev IsNamedAt : Found → Disk → Base → Type 0
IsNamedAt found d b = Named (tables_in found) (found_list found.lists) (from_entries found.snapshots) (λ a r. None) (λ a. no_plan) (λ a. []) (live_of d) b

named_stand : (tree : Tree) (found : Found) (v : IsValid tree) → IsFound (disk_of tree) found v.complete.says → (b : Base) → IsNamedAt found (disk_of tree) b → HasPlace (live_of (disk_of tree)) (archived_of (disk_of tree)) b
named_stand tree found v f b (listed r e i m k) = v.complete.reading.places b (by_list r e (in_reading tree found v f r i) (list_read tree found v f r e m) k)
named_stand tree found v f b (in_snapshot name x e i m k) = v.complete.reading.places b (by_snapshot name x e (sym (snapshot_is (disk_of tree) found v.complete.says name f) ∙ i) m k)
named_stand tree found v f b (captured a r l e i m k) = let z : None ≡ Some l = i in absurd (cc)
named_stand tree found v f b (planned a x m k) = absurd m
named_stand tree found v f b (pinned a e i k) = absurd i.stands
named_stand tree found v f b (linked r e g y n o i k) = subst (HasPlace (live_of (disk_of tree)) (archived_of (disk_of tree))) k (v.complete.pointed.at r e g y n o i)

named_lawful : (tree : Tree) (found : Found) (v : IsValid tree) → IsFound (disk_of tree) found v.complete.says → (b : Base) → IsNamedAt found (disk_of tree) b → IsBase b
named_lawful tree found v f b (listed r e i m k) = v.complete.reading.bases b (by_list r e (in_reading tree found v f r i) (list_read tree found v f r e m) k)
named_lawful tree found v f b (in_snapshot name x e i m k) = v.complete.reading.bases b (by_snapshot name x e (sym (snapshot_is (disk_of tree) found v.complete.says name f) ∙ i) m k)
named_lawful tree found v f b (captured a r l e i m k) = let z : None ≡ Some l = i in absurd (cc)
named_lawful tree found v f b (planned a x m k) = absurd m
named_lawful tree found v f b (pinned a e i k) = absurd i.stands
named_lawful tree found v f b (linked r e g y n o i k) = subst IsBase k (base_names r e n)

-- what stands in the archive is a base in its grammar
archived_base : (tree : Tree) → IsValid tree → (b : Base) (f : FileState) → disk_of tree (Archived b) ≡ Some f → IsBase b
archived_base tree v b f e = cond_cases (is_regular (Archived b)) (get tree (site_text (Archived b))) None (Some f) e
    (λ d i. let w = v.complete.rows (site_text (Archived b)) (ap is_some i) in
    let z : w.site ≡ Archived b = regular_apart w.site (Archived b) (spelled_regular w.site w.lawful.0) d w.text in
    let l : IsLawful (spot_of (Archived b)) = subst (λ (q : Site). IsLawful (spot_of q)) z w.lawful in record { names = l.0.0; file = l.0.1 })
    (λ d i. absurd (cc))

-- ---- the opened state

no_hold : {P : Type 0} {A : Type 0} {l : A} → None ≡ Some l → P
no_hold e = absurd (cc)

opened_sound : (epoch ttl : ℕ) (tree : Tree) (found : Found) (v : IsValid tree) → IsFound (disk_of tree) found v.complete.says → ((name : List ℕ) → disk_of tree (Tmp name) ≡ None) → HasNewEpoch (disk_of tree) epoch → IsSound (opened (told_opening epoch ttl tree found))
opened_sound epoch ttl tree found v f swept new = record {
  names = record {
    tmp = λ name g e. let z : None ≡ Some g = sym (swept name) ∙ e in absurd (cc);
    live_file = new.live_file;
    archived_file = new.archived_file;
    known = λ b cells e o. elim (f.there b cells (sym (f.made b) ∙ e) o) [ is_live g i ↦ new.live_file b g i o | is_archived g i ↦ new.archived_file b g i ];
    recipe = λ name w e. absurd (cc);
  };
  known_tmps = record { at = λ name w e. absurd (cc) };
  tmps_apart = record {
    from_live = λ name g e. let z : None ≡ Some g = sym (swept name) ∙ e in absurd (cc);
    from_archived = λ name g e. let z : None ≡ Some g = sym (swept name) ∙ e in absurd (cc);
  };
  one_place = v.complete.one_place;
  archived_lawful = record { at = archived_base tree v };
  places = record { at = named_stand tree found v f };
  lawful = record { at = named_lawful tree found v f };
  back_refs = v.complete.back_refs;
  listed = record { at = λ r e c m. elim c [ inl i ↦ v.complete.reading.stand r e (in_reading tree found v f r i) (list_read tree found v f r e m) | inr i ↦ absurd (i.region) ] };
  pinned = record { at = λ a p e m i. absurd m };
  waiting = record { at = λ b a e. absurd (cc) };
  own_regions = record { at = λ t table i split e m. own_table (sets_of (disk_of tree) t) t (v.complete.says.sets t) table i split (v.complete.reading.sets t) (sym (table_is (disk_of tree) found v.complete.says t f) ∙ e) m };
  alike = record { at = λ name. alike_there (read_base found.cells) _ _ (copy_is (read_base found.cells) found name) };
  numbered = record { below = λ l m. absurd m; differ = λ l k m. absurd m };
  apart = record { at = λ l m h k i. absurd i };
  fits = record { at = λ l h i. absurd i };
  uses = record { at = λ l name m. absurd m };
  jobs = record { at = λ l i. absurd i };
  held = record { used = λ a name h. no_hold h.at_work; taken = λ a name t h. no_hold h.at_work; done = λ a name t h. no_hold h.at_work };
  taken = record { at = λ a name t h. no_hold h.at_work };
  once = record { by_live = λ a i m. absurd m; was_drawn = λ a i m. absurd m; is_new = λ a i m. absurd m; alone = λ a b i j m. absurd m; entries = λ a x m. absurd m };
  built = record { at = λ a i e m. absurd m };
  sources = record { at = λ a x m. absurd m };
  captures = record { at = λ a r l e. absurd (cc) };
  owners = record { pinning = λ a p m. absurd m };
  pass_held = record { at = λ p e. absurd (cc) };
  pass = record { captured = λ p a r l e i. absurd (cc); completed = λ p name x e i. absurd (cc) };
}
  where
    alike_there : (made : Made) (o : Option Snapshot) (q : Option PlainSnapshot) → Copies made o q → is_some o ≡ is_some q
    alike_there made None None c = refl
    alike_there made (Some x) (Some y) c = refl
    alike_there made None (Some y) c = absurd c
    alike_there made (Some x) None c = absurd c

opened_filed : (epoch ttl : ℕ) (tree : Tree) (found : Found) (v : IsValid tree) → IsFound (disk_of tree) found v.complete.says → IsFiled (opened (told_opening epoch ttl tree found))
opened_filed epoch ttl tree found v f = record {
  lists = record {
    at = λ r c. elim c [
      | inl i ↦ subst (λ (l : RegionFiles). IsAbove (lists_of (disk_of tree) r) l.number) (sym (f.lists r)) (v.complete.reading.lists r (in_reading tree found v f r i)).above
      | inr i ↦ absurd (i.region)
    ];
  };
  sets = record { at = λ t. subst (λ o. IsAbove (sets_of (disk_of tree) t) (set_number o)) (sym (set_is (disk_of tree) found v.complete.says t f)) (v.complete.reading.sets t).above };
  snapshots = record {
    missing = λ name e. v.complete.reading.missing name (sym (snapshot_is (disk_of tree) found v.complete.says name f) ∙ e);
    stored = λ name x e. let w = v.complete.reading.snapshots name x (sym (snapshot_is (disk_of tree) found v.complete.says name f) ∙ e) in ((w.info, w.info_stands), (w.manifest, w.manifest_stands));
  };
}

opened_written : (epoch ttl : ℕ) (tree : Tree) (found : Found) (v : IsValid tree) → IsFound (disk_of tree) found v.complete.says → IsWritten (opened (told_opening epoch ttl tree found))
opened_written epoch ttl tree found v f = record {
  files = record {
    live_made = λ b g e o. subst (λ u. IsMade u g.bytes) (sym (f.made b)) (v.complete.reading.files.live_made b g e o);
    archived_made = λ b g e. subst (λ u. IsMade u g.bytes) (sym (f.made b)) (v.complete.reading.files.archived_made b g e);
  };
  tmps = record { at = λ name g w e i. absurd (cc) };
  tied = record { at = λ name w e. absurd (cc) };
  references = v.complete.references;
  parts = record { info = λ a name t g x e. absurd (cc); manifest = λ a name t g x e. absurd (cc); captured = λ a name t x e. absurd (cc); undone = λ a e. absurd (cc) };
  manifests = record {
    at = λ name x g h e i j. let w = v.complete.reading.snapshots name x (sym (snapshot_is (disk_of tree) found v.complete.says name f) ∙ e) in (
      subst (λ (y : FileState). IsInfoOf y.bytes name x.schema.table) (some_is (sym w.info_stands ∙ i)) w.description,
      subst (λ (y : FileState). IsManifestOf y.bytes x) (some_is (sym w.manifest_stands ∙ j)) w.holds,
    );
  };
  lists = record {
    at = λ r c. elim c [
      | inl i ↦ subst (IsStored (lists_of (disk_of tree) r)) (sym (f.lists r)) (v.complete.reading.lists r (in_reading tree found v f r i)).file
      | inr i ↦ absurd (i.region)
    ];
  };
  sets = record { at = λ t x e. (v.complete.reading.sets t).file x (sym (set_is (disk_of tree) found v.complete.says t f) ∙ e) };
  tables = record { at = λ t. table_is (disk_of tree) found v.complete.says t f ∙ ap table_in_set (sym (set_is (disk_of tree) found v.complete.says t f)) };
}

-- the region of a snapshot that has an entry
entry_region : (rs : List CopiedRegion) (e : Entry) → Member e (flat_map (λ (x : CopiedRegion). x.entries) rs) → (r : CopiedRegion) × Member r rs × Member e r.entries
entry_region [] e m = absurd m
entry_region (r ∷ rs) e m = elim (member-append e r.entries (flat_map (λ (x : CopiedRegion). x.entries) rs) m) [
  | inl k ↦ (r, inl refl, k)
  | inr k ↦ (let w = entry_region rs e k in (w.0, inr w.1, w.2))
]

listed_fits : (tree : Tree) (found : Found) (v : IsValid tree) → IsFound (disk_of tree) found v.complete.says → (r : RegionKey) (split : Bool) → InSet (tables_in found) r split → (e : Entry) → Member e (found_list found.lists r).entries → FitsEntry (read_base found.cells) e
listed_fits tree found v f r split i e m c n =
    ((v.fit.lists r split (in_set tree found v f r split i)).cells e c (list_read tree found v f r e m) (subst (λ y. Member c (cells_of y e)) (made_is tree found v f) n)).family

copied_fits : (tree : Tree) (found : Found) (v : IsValid tree) → IsFound (disk_of tree) found v.complete.says → (name : List ℕ) (x : Snapshot) (e : Entry) → get (from_entries {R = bytes_cmp} found.snapshots) name ≡ Some x → Member e (snapshot_entries x) → FitsEntry (read_base found.cells) e
copied_fits tree found v f name x e i m c n =
    let w = entry_region x.regions e m in
    (((v.fit.snapshots name x (sym (snapshot_is (disk_of tree) found v.complete.says name f) ∙ i)).entries w.0 w.1).cells e c w.2 (subst (λ y. Member c (cells_of y e)) (made_is tree found v f) n)).family

opened_faithful : (epoch ttl : ℕ) (tree : Tree) (found : Found) (v : IsValid tree) → IsFound (disk_of tree) found v.complete.says → IsFaithful (opened (told_opening epoch ttl tree found))
opened_faithful epoch ttl tree found v f = record {
  contents = record { at = λ r i. same-refl _ };
  kept = record { at = λ r i. refl };
  copied = record { at = λ a r. tt };
  copies = record { at = λ name. copy_is (read_base found.cells) found name };
  exact = record { at = λ a n. absurd (n refl) };
  numbers = record { at = λ a i m. absurd m };
  fronts = record { at = λ a r pin e. absurd (cc) };
  families = record {
    listed = λ r e i m. elim i [ inl k ↦ listed_fits tree found v f r false k e m | inr k ↦ listed_fits tree found v f r true k e m ];
    completed = λ name x e i m. copied_fits tree found v f name x e i m;
    captured = λ a r l e i m. absurd (cc);
    planned = λ a x m. absurd m;
    pinned = λ a p e m n. absurd m;
  };
}

listed_sides : (tree : Tree) (found : Found) (v : IsValid tree) → IsFound (disk_of tree) found v.complete.says → (r : RegionKey) (split : Bool) → InSet (tables_in found) r split → InReading v.complete.says r → AreEntries r (found_list found.lists r).entries
listed_sides tree found v f r split i k = subst (λ (l : RegionFiles). AreEntries r l.entries) (sym (f.lists r)) (record {
  names = λ e m. (v.complete.reading.stand r e k m).names;
  side = one_side (v.complete.says.lists r).entries (v.fit.lists r split (in_set tree found v f r split i)).beside;
})

opened_pointed : (epoch ttl : ℕ) (tree : Tree) (found : Found) (v : IsValid tree) → IsFound (disk_of tree) found v.complete.says → IsPointed (opened (told_opening epoch ttl tree found))
opened_pointed epoch ttl tree found v f = record {
  sides = record {
    listed = λ r i. elim i [ inl k ↦ listed_sides tree found v f r false k (in_reading tree found v f r (inl k)) | inr k ↦ listed_sides tree found v f r true k (in_reading tree found v f r (inr k)) ];
    captured = λ a r l e. absurd (cc);
    completed = λ name x c e m. let k = sym (snapshot_is (disk_of tree) found v.complete.says name f) ∙ e in record {
      names = λ y n. (v.complete.reading.snapshots name x k).names c y m n;
      side = one_side c.entries ((v.fit.snapshots name x k).entries c m).beside;
    };
  };
  built = record { at = λ a i b g m. absurd m };
  listed = record { at = λ r e g i m j. v.complete.reading.point r e g (in_reading tree found v f r i) (list_read tree found v f r e m) j };
}

opened_recovers : (epoch ttl : ℕ) (tree : Tree) (found : Found) (v : IsValid tree) → IsFound (disk_of tree) found v.complete.says → Recovers tree (opened (told_opening epoch ttl tree found)).plain
opened_recovers epoch ttl tree found v f = record {
  says = v.complete.says;
  reading = v.complete.reading;
  tables = λ t. table_is (disk_of tree) found v.complete.says t f;
  regions = λ r i. record {
    same = same-equal (λ j. cells_in (sym (made_is tree found v f) j) ((sym (f.lists r) j).entries));
    kept = ap (λ (l : RegionFiles). l.seq) (sym (f.lists r));
  };
  snapshots = λ name. subst (λ o. Copies v.complete.says.made o (get (opened (told_opening epoch ttl tree found)).plain.snapshots name)) (snapshot_is (disk_of tree) found v.complete.says name f)
      (subst (λ y. Copies y (get (from_entries {R = bytes_cmp} found.snapshots) name) (get (opened (told_opening epoch ttl tree found)).plain.snapshots name)) (made_is tree found v f) (copy_is (read_base found.cells) found name));
  stop = record { mem = λ r. refl; frozen = λ r. refl; seq = λ r. refl; live = refl; captures = λ a r. refl; noted = λ a r. refl };
}

-- ---- all of it

begins : (epoch ttl : ℕ) (tree : Tree) (found : Found) → IsTree tree → (v : IsValid tree) → IsFound (disk_of tree) found v.complete.says → ((name : List ℕ) → disk_of tree (Tmp name) ≡ None) → HasNewEpoch (disk_of tree) epoch → BeginsWell (told_opening epoch ttl tree found) tree
begins epoch ttl tree found t v f swept new = record {
  begins = record {
    told = refl;
    files = t;
    sites = λ place k. let w = v.complete.rows place k in record { site = w.site; spelled = w.lawful.0; text = w.text };
    sound = opened_sound epoch ttl tree found v f swept new;
    filed = opened_filed epoch ttl tree found v f;
  };
  written = opened_written epoch ttl tree found v f;
  told = record { faithful = opened_faithful epoch ttl tree found v f; pointed = opened_pointed epoch ttl tree found v f };
  recovers = opened_recovers epoch ttl tree found v f;
}

pub begins_valid : (o : Opening) (tree : Tree) → BeginsValid o tree
begins_valid o tree c =
    let e : told_opening o.epoch o.ttl tree o.found ≡ o = λ i. record { epoch = o.epoch; ttl = o.ttl; tree = sym c.told i; found = o.found } in
    subst (λ x. BeginsWell x tree) e (begins o.epoch o.ttl tree o.found c.files c.valid c.found c.swept c.epoch)
