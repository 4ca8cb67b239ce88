-- A base that waits to be listed is used by nothing.
use Rattle.std.proofs.Common.{◌≡◌, ◌⊎◌, ◌≤◌, ℕ, ◌++◌, ◌&&◌, ◌==◌, true, false, cond, List, [], ◌∷◌, Option, Some, None, refl, sym, ap, ◌∙◌, subst, inl, inr}
use Rattle.std.specs.Prelude.{map}
use Rattle.std.specs.FinMap.{get}
use Rattle.cell_sight.specs.Member.{Member}
use Rattle.hb_cell.specs.declared.cell.Cell.{Cell}
use Rattle.hb_layout.specs.declared.base.Base.{Base}
use Rattle.ns_tree.specs.declared.file.FileState.{FileState}
use Rattle.plain_model.specs.declared.job.Job.{Job}
use Rattle.plain_model.specs.declared.job.Job.TheVariants as jobs
use Rattle.plain_model.specs.declared.region_key.RegionKey.{RegionKey}
use Rattle.plain_model.specs.Keys.{key_of, same_key}
use Rattle.plain_model.specs.LiveEvents.{job_of}
use Rattle.core_model.specs.declared.entry.Entry.{Entry}
use Rattle.core_model.specs.declared.entry.Entry.TheVariants.{Own, Link, Half}
use Rattle.core_model.specs.declared.region_files.RegionFiles.{RegionFiles}
use Rattle.core_model.specs.declared.snapshot.Snapshot.{Snapshot}
use Rattle.core_model.specs.declared.step.Started.TheVariants as started
use Rattle.core_model.specs.declared.step.Step.{Step}
use Rattle.core_model.specs.declared.step.Step.TheVariants as step
use Rattle.core_model.specs.declared.targets.MoveFrom.TheVariants as moves
use Rattle.core_model.specs.declared.targets.Why.{Why}
use Rattle.core_model.specs.declared.targets.Why.TheVariants as why
use Rattle.core_model.specs.ActorChanges.{captures_by, unless_by, waiting_by}
use Rattle.core_model.specs.ActorFacts as actors
use Rattle.core_model.specs.Actors.{IsRegion}
use Rattle.core_model.specs.Allows.{Allows}
use Rattle.core_model.specs.Disk.{live_of, archived_of, is_live, is_archived}
use Rattle.core_model.specs.Entries.{base_of, has_own, is_own, is_own_of}
use Rattle.core_model.specs.FileChanges.{lists_by, snapshots_by}
use Rattle.core_model.specs.Keys.{same_base}
use Rattle.core_model.specs.ListGuards.{AllowsList, Flushes}
use Rattle.core_model.specs.Named as named
use Rattle.core_model.specs.Named.{IsNamed}
use Rattle.core_model.specs.PassChanges.{snapshot_entries}
use Rattle.core_model.specs.Replay.{after}
use Rattle.core_model.specs.Site.{is_store_name}
use Rattle.core_model.specs.Sound.{IsSound}
use Rattle.core_model.specs.State.{Parts}
use Rattle.core_model.specs.TableChanges.{tables_by}
use Rattle.core_sound.proofs.Copied.{copied-member}
use Rattle.core_sound.proofs.Draws.{other_digits}
use Rattle.core_sound.proofs.Lists.{get-put, get-taken, member-append, or_left, or_right}
use Rattle.core_sound.proofs.NameFacts.{store_name}
use Rattle.core_sound.proofs.NamesKept.{piece_stem, placed_stem, staged_stem}
use Rattle.core_sound.proofs.NeverAgain.{added-planned, tables_after}
use Rattle.core_sound.proofs.RegionFacts.{region_was}
use Rattle.core_sound.proofs.Sources.{map-member, merged-member}
use Rattle.core_sound.proofs.Tests.{cond_cases, same_base-self, same_base-true, same_key-true}
use Rattle.core_sound.proofs.Vacant.{vacant-member}
use Rattle.core_beside.specs.Apart.{AreUnused, IsUsed, Uses, listed, copied, captured}

-- ---- entries that a commit adds are own files

old_or_own : (s : Parts) (r : RegionKey) (bs : List Base) (e : Entry) → Member e ((s.lists r).entries ++ map Own bs) → Member e (s.lists r).entries ⊎ (is_own e ≡ true)
old_or_own s r bs e m = elim (member-append e (s.lists r).entries (map Own bs) m) [
  | inl k ↦ inl k
  | inr k ↦ (let v = map-member Own e bs k in inr (ap is_own (sym v.2)))
]

flush_adds : (a : ℕ) (r : RegionKey) (l : RegionFiles) (cells : List Cell) (more : List (List ℕ × Entry)) (s : Parts) → Flushes a r l cells more s → (e : Entry) → Member e l.entries → Member e (s.lists r).entries ⊎ (is_own e ≡ true)
flush_adds a r l cells more s g e m = old_or_own s r g.added e (subst (Member e) g.entries m)

list_adds : (reason : Why) (a : ℕ) (r : RegionKey) (l : RegionFiles) (cells : List Cell) (more : List (List ℕ × Entry)) (s : Parts) → AllowsList reason a r l cells more s → IsRegion s.plain.tables r
    → (e : Entry) → Member e l.entries → Member e (s.lists r).entries ⊎ (is_own e ≡ true)
list_adds why.Flush a r l cells more s g i e m = flush_adds a r l cells more s g.1 e m
list_adds why.Capture a r l cells more s g i e m = flush_adds a r l cells more s g.flushes e m
list_adds (why.Compact major) a r l cells more s g i e m = elim (merged-member g.merges e (s.lists r).entries (subst (Member e) g.entries m)) [
  | inl k ↦ inl k
  | inr k ↦ (let v = map-member Own e k.0.output k.2 in inr (ap is_own (sym v.2)))
]
list_adds why.Bulk a r l cells more s g i e m = old_or_own s r g.added e (subst (Member e) g.entries m)
list_adds why.Build a r l cells more s g i e m = absurd (g.out i)

-- ---- what is used after a step was used before, or is an own file of the list that it commits

own_there : (b : Base) (es : List Entry) (e : Entry) → Member e es → is_own e ≡ true → base_of e ≡ b → has_own es b ≡ true
own_there b [] e m o i = absurd m
own_there b (x ∷ es) (Own c) (inl d) o i = or_left (is_own_of b x) _ (ap (is_own_of b) d ∙ ap (λ y. same_base y b) i ∙ same_base-self b)
own_there b (x ∷ es) (Link c) (inl d) o i = absurd (cc)
own_there b (x ∷ es) (Half c l p r t) (inl d) o i = absurd (cc)
own_there b (x ∷ es) e (inr m) o i = or_right (is_own_of b x) _ (own_there b es e m o i)

abbrev Lists : Step → Base → Type 0
Lists (step.CommitList actor region number name reason list cells more) b = has_own list.entries b ≡ true
Lists _ b = ⊥

abbrev WasUsed : Step → Parts → Base → Type 0
WasUsed p s b = Uses s b ⊎ Lists p b

list_used : (p : Step) (reason : Why) (a : ℕ) (r : RegionKey) (l : RegionFiles) (cells : List Cell) (more : List (List ℕ × Entry)) (s : Parts) → AllowsList reason a r l cells more s → IsRegion s.plain.tables r
    → (b : Base) (e : Entry) → Member e l.entries → base_of e ≡ b → Uses s b ⊎ (has_own l.entries b ≡ true)
list_used p reason a r l cells more s g i b e m d = elim (list_adds reason a r l cells more s g i e m) [
  | inl k ↦ inl (listed r e i k d)
  | inr o ↦ inr (own_there b l.entries e m o d)
]

-- a planned base is a snapshot's, or a listed one
planned_used : (o : Option Job) (a : ℕ) (s : Parts) (b : Base) → actors.ComesFrom o a b s.plain.live s.plain.tables s.snapshots s.lists → Uses s b
planned_used (Some (jobs.Clone name t)) a s b c = copied name c.1.0 c.1.2.entry c.1.1 c.1.2.listed c.1.2.reads
planned_used (Some (jobs.Restore name)) a s b c = copied name c.1.0 c.1.2.entry c.1.1 c.1.2.listed c.1.2.reads
planned_used (Some (jobs.Split t row)) a s b c = listed c.0 c.3.entry c.2 c.3.listed c.3.reads
planned_used _ a s b c = absurd c

listed_used : (p : Step) (s : Parts) → Allows p s → IsSound s → (b : Base) (r : RegionKey) (e : Entry) → IsRegion (tables_by p s.plain.snapshots s.plain.tables) r → Member e (lists_by p s.lists r).entries → base_of e ≡ b → WasUsed p s b
listed_used (step.CommitList actor region number name reason list cells more) s a h b r e i m d = (elim (same_key r region) as (λ x. same_key r region ≡ x → Member e (cond x list (s.lists r)).entries → Uses s b ⊎ (has_own list.entries b ≡ true)) [
  | true ↦ λ k n. list_used (step.CommitList actor region number name reason list cells more) reason actor.0 region list cells more s a.allowed (subst (IsRegion s.plain.tables) (same_key-true r region k) i) b e n d
  | false ↦ λ k n. inl (listed r e i n d)
]) refl m
listed_used (step.CommitRegions actor table number name set change) s a h b r e i m d = elim (region_was change s.plain.snapshots s.plain.tables r i) [
  | inl k ↦ inl (listed r e k m d)
  | inr k ↦ (let w = h.built.at actor.0 k.0 e (added-planned _ change table actor.0 s k.0 a.is_change k.1) (subst (λ q. Member e (s.lists q).entries) (sym k.2) m) in
      inl (subst (Uses s) d (planned_used (job_of s.plain.live actor.0) actor.0 s (base_of e) (h.sources.at actor.0 ((key_of k.0).region, e) w.1))))
]
listed_used (step.Start who job (started.Live actor) drawn) s a h b r e i m d = inl (listed r e i (vacant-member drawn.regions s.lists r e m) d)
listed_used _ s a h b r e i m d = inl (listed r e i m d)

copied_used : (p : Step) (s : Parts) → Allows p s → (b : Base) (name : List ℕ) (x : Snapshot) (e : Entry) → get (snapshots_by p s.snapshots) name ≡ Some x → Member e (snapshot_entries x) → base_of e ≡ b → WasUsed p s b
copied_used (step.Complete actor name new) s a b n x e i m d = get-put s.snapshots name new n x i
    (λ q k. let w = copied-member (s.captures actor.0) a.table s.plain e (subst (λ y. Member e (snapshot_entries y)) (sym k ∙ a.copied) m) in inl (captured actor.0 w.0 w.1 e w.2 w.3 d))
    (λ k. inl (copied n x e k m d))
copied_used (step.Uncomplete actor name) s a b n x e i m d = get-taken s.snapshots name n x i (λ q k. inl (copied n x e k m d))
copied_used _ s a b n x e i m d = inl (copied n x e i m d)

capture_used : {P : Type 0} (a : ℕ) (r : RegionKey) (l : RegionFiles) (s : Parts) (b : Base) → ((e : Entry) → Member e l.entries → base_of e ≡ b → Uses s b ⊎ P) → (w : ℕ) (q : RegionKey) (k : RegionFiles) (e : Entry)
    → cond ((w == a) && same_key q r) (Some l) (s.captures w q) ≡ Some k → Member e k.entries → base_of e ≡ b → Uses s b ⊎ P
capture_used a r l s b f w q k e i m d = cond_cases ((w == a) && same_key q r) (Some l) (s.captures w q) (Some k) i
    (λ y j. let z : l ≡ k = (cc) in f e (subst (λ (x : RegionFiles). Member e x.entries) (sym z) m) d)
    (λ y j. inl (captured w q k e j m d))

ended_used : {P : Type 0} (a : ℕ) (s : Parts) (b : Base) (w : ℕ) (q : RegionKey) (k : RegionFiles) (e : Entry) → cond (w == a) None (s.captures w q) ≡ Some k → Member e k.entries → base_of e ≡ b → Uses s b ⊎ P
ended_used a s b w q k e i m d = cond_cases (w == a) None (s.captures w q) (Some k) i (λ y j. absurd (cc)) (λ y j. inl (captured w q k e j m d))

captured_used : (p : Step) (s : Parts) → Allows p s → (b : Base) (w : ℕ) (q : RegionKey) (k : RegionFiles) (e : Entry) → captures_by p s.lists s.captures w q ≡ Some k → Member e k.entries → base_of e ≡ b → WasUsed p s b
captured_used (step.Capture actor region) s a b w q k e i m d = capture_used actor.0 region (s.lists region) s b (λ x n y. inl (listed region x (inl a.is_open) n y)) w q k e i m d
captured_used (step.CommitList actor region number name why.Capture list cells more) s a b w q k e i m d =
    capture_used actor.0 region list s b (λ x n y. list_used (step.CommitList actor region number name why.Capture list cells more) why.Capture actor.0 region list cells more s a.allowed (inl a.allowed.is_open) b x n y) w q k e i m d
captured_used (step.End actor refusal) s a b w q k e i m d = ended_used actor.0 s b w q k e i m d
captured_used (step.Abandon actor) s a b w q k e i m d = ended_used actor.0 s b w q k e i m d
captured_used _ s a b w q k e i m d = inl (captured w q k e i m d)

used_before : (p : Step) (s : Parts) → Allows p s → IsSound s → (b : Base) → IsUsed (tables_by p s.plain.snapshots s.plain.tables) (lists_by p s.lists) (snapshots_by p s.snapshots) (captures_by p s.lists s.captures) b → WasUsed p s b
used_before p s a h b (listed r e i m d) = listed_used p s a h b r e i m d
used_before p s a h b (copied name x e i m d) = copied_used p s a b name x e i m d
used_before p s a h b (captured w r l e i m d) = captured_used p s a b w r l e i m d

-- ---- a file that is placed is new

is_named : (s : Parts) (b : Base) → Uses s b → IsNamed s b
is_named s b (listed r e i m d) = named.listed r e i m d
is_named s b (copied name x e i m d) = named.in_snapshot name x e i m d
is_named s b (captured w r l e i m d) = named.captured w r l e i m d

abbrev NotUsed : Parts → Base → Type 0
NotUsed s b = Uses s b → ⊥

-- a base whose file does not stand is not used
not_used : (s : Parts) (b : Base) → IsSound s → ((f : FileState) → live_of s.disk b ≡ Some f → is_store_name b.name ≡ true → ⊥) → ((f : FileState) → archived_of s.disk b ≡ Some f → ⊥) → NotUsed s b
not_used s b h l k u = let n = is_named s b u in elim (h.places.at b n) [
  | is_live f e ↦ l f e (store_name b.name (h.lawful.at b n).file)
  | is_archived f e ↦ k f e
]

abbrev Places : Step → Base → Type 0
Places (step.Place actor from base cells) b = b ≡ base
Places _ b = ⊥

placed_new : (p : Step) (s : Parts) → s.files ≤ 4_194_304 → Allows p s → IsSound s → (b : Base) → Places p b → NotUsed s b
placed_new (step.Place actor (moves.Written name) base cells) s few a h b e = not_used s b h
    (λ f i o. h.tmps_apart.from_live name _ a.moved.wrote.stands b f i o (placed_stem s actor.0 name base b h cells a e))
    (λ f i. h.tmps_apart.from_archived name _ a.moved.wrote.stands b f i (placed_stem s actor.0 name base b h cells a e))
placed_new (step.Place actor (moves.WrittenBulk name) base cells) s few a h b e = not_used s b h
    (λ f i o. h.tmps_apart.from_live name _ a.moved.wrote.stands b f i o (piece_stem s actor.0 name base b h cells a e))
    (λ f i. h.tmps_apart.from_archived name _ a.moved.wrote.stands b f i (piece_stem s actor.0 name base b h cells a e))
placed_new (step.Place actor (moves.StagedBulk folder name) base cells) s few a h b e = not_used s b h
    (λ f i o. other_digits s.epoch s.files b.name few (h.names.live_file b f i o) (staged_stem s base b _ a.moved.named e))
    (λ f i. other_digits s.epoch s.files b.name few (h.names.archived_file b f i) (staged_stem s base b _ a.moved.named e))
placed_new _ s few a h b e = absurd e

-- ---- what waits

-- what is no longer waiting for one actor waited
kept_by : (a : ℕ) (o : Option ℕ) (w : ℕ) → unless_by a o ≡ Some w → o ≡ Some w
kept_by a None w e = absurd (cc)
kept_by a (Some v) w e = cond_cases (v == a) None (Some v) (Some w) e (λ d i. absurd (cc)) (λ d i. i)

waiting_was : (p : Step) (waiting : Base → Option ℕ) (b : Base) (w : ℕ) → waiting_by p waiting b ≡ Some w → ((waiting b ≡ Some w) × (Lists p b → ⊥)) ⊎ Places p b
waiting_was (step.Place actor from base cells) waiting b w e = cond_cases (same_base b base) (Some actor.0) (waiting b) (Some w) e (λ d i. inr (same_base-true b base d)) (λ d i. inl (i, λ z. z))
waiting_was (step.CommitList actor region number name reason list cells more) waiting b w e = cond_cases (has_own list.entries b) None (waiting b) (Some w) e
    (λ d i. absurd (cc)) (λ d i. inl (i, λ z. let y : true ≡ false = sym z ∙ d in absurd (cc)))
waiting_was (step.End actor refusal) waiting b w e = inl (kept_by actor.0 (waiting b) w e, λ z. z)
waiting_was (step.Abandon actor) waiting b w e = inl (kept_by actor.0 (waiting b) w e, λ z. z)
waiting_was _ waiting b w e = inl (e, λ z. z)

unused_after : (p : Step) (s : Parts) → s.files ≤ 4_194_304 → Allows p s → IsSound s → AreUnused s.waiting s.plain.tables s.lists s.snapshots s.captures
    → AreUnused (waiting_by p s.waiting) (tables_by p s.plain.snapshots s.plain.tables) (lists_by p s.lists) (snapshots_by p s.snapshots) (captures_by p s.lists s.captures)
unused_after p s few a h k = record {
  at = λ b w e u. elim (waiting_was p s.waiting b w e) [
    | inl v ↦ elim (used_before p s a h b u) [ inl x ↦ k.at b w v.0 x | inr x ↦ v.1 x ]
    | inr v ↦ elim (used_before p s a h b u) [ inl x ↦ placed_new p s few a h b v x | inr x ↦ none p b v x ]
  ];
}
  where
    none : (p : Step) (b : Base) → Places p b → Lists p b → ⊥
    none (step.Place actor from base cells) b x y = y
    none _ b x y = x

pub unused_kept : (p : Step) (s : Parts) → s.files ≤ 4_194_304 → Allows p s → IsSound s → AreUnused s.waiting s.plain.tables s.lists s.snapshots s.captures → AreUnused (after p s).waiting (after p s).plain.tables (after p s).lists (after p s).snapshots (after p s).captures
unused_kept p s few a h k = subst (λ t. AreUnused (waiting_by p s.waiting) t (lists_by p s.lists) (snapshots_by p s.snapshots) (captures_by p s.lists s.captures)) (sym (tables_after p s)) (unused_after p s few a h k)
