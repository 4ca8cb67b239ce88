-- Each step keeps that every named base has a place, and that each link and half has its back reference.
use Rattle.std.proofs.Common.{◌≡◌, ℕ, ◌&&◌, Bool, true, false, cond, [], Option, Some, None, refl, sym, ap, ◌∙◌, subst, inl, inr}
use Rattle.std.specs.Prelude.{option_map}
use Rattle.hb_layout.specs.declared.base.Base.{Base}
use Rattle.core_model.specs.Site.{Tmp, Live, Staged}
use Rattle.hb_file_names.specs.BackRef.{back_text}
use Rattle.ns_tree.specs.declared.file.FileState.{FileState}
use Rattle.ns_tree.specs.Step.{with_moment}
use Rattle.plain_model.specs.declared.region_key.RegionKey.{RegionKey}
use Rattle.hb_cell.specs.Order.{same_bytes}
use Rattle.core_model.specs.declared.entry.Entry.{Entry}
use Rattle.core_model.specs.declared.entry.Entry.TheVariants as entries
use Rattle.core_model.specs.declared.targets.ManifestPart.TheVariants as parts
use Rattle.core_model.specs.declared.targets.MoveFrom.TheVariants as moves
use Rattle.core_model.specs.declared.targets.OldFile.TheVariants as old
use Rattle.core_model.specs.declared.step.Step.{Step}
use Rattle.core_model.specs.declared.step.Step.TheVariants as step
use Rattle.core_model.specs.Allows.{Allows}
use Rattle.core_model.specs.Disk.{Bases, Backs, disk_after, live_of, archived_of, backs_of, HasPlace, is_live, is_archived}
use Rattle.core_model.specs.Entries.{base_of, file_of, is_own, IsKey, IsBase, IsEntryIn}
use Rattle.core_model.specs.FileFacts.{HasBackRefs}
use Rattle.core_model.specs.Site.{is_store_name}
use Rattle.core_model.specs.Keys.{same_base}
use Rattle.core_model.specs.Named.{IsNamed}
use Rattle.core_model.specs.Ops.{op_of}
use Rattle.core_model.specs.PassGuards.{CanCleanBackRef}
use Rattle.core_model.specs.Replay.{after}
use Rattle.core_model.specs.Sound.{IsSound}
use Rattle.core_model.specs.State.{Parts}
use Rattle.core_sound.proofs.NameFacts.{store_name, back_key, apart_bases}
use Rattle.core_sound.proofs.Deleted.{deleted_unnamed}
use Rattle.core_sound.proofs.NeverAgain.{Was, named_before, not_store, half_not_own}
use Rattle.core_sound.proofs.Tests.{cond_cases, both_left, both_right, same_bytes-true, same_base-true}

-- ---- places

put_place : (live archived : Bases) (b : Base) (f : FileState) (o : Option FileState) → o ≡ Some f → (c : Base) → HasPlace live archived c → HasPlace (λ x. cond (same_base x b) o (live x)) archived c
put_place live archived b f o e c (is_archived g k) = is_archived g k
put_place live archived b f o e c (is_live g k) = elim (same_base c b) as (λ x. same_base c b ≡ x → HasPlace (λ x. cond (same_base x b) o (live x)) archived c) [
  | true ↦ λ d. is_live f (ap (λ x. cond x o (live c)) d ∙ e)
  | false ↦ λ d. is_live g (ap (λ x. cond x o (live c)) d ∙ k)
] refl

move_place : (live archived : Bases) (b : Base) (f : FileState) → live b ≡ Some f → (c : Base) → HasPlace live archived c → HasPlace (λ x. cond (same_base x b) None (live x)) (λ x. cond (same_base x b) (live b) (archived x)) c
move_place live archived b f e c h = elim (same_base c b) as (λ x. same_base c b ≡ x → HasPlace (λ x. cond (same_base x b) None (live x)) (λ x. cond (same_base x b) (live b) (archived x)) c) [
  | true ↦ λ d. is_archived f (ap (λ x. cond x (live b) (archived c)) d ∙ e)
  | false ↦ λ d. elim h [
    | is_live g k ↦ is_live g (ap (λ x. cond x None (live c)) d ∙ k)
    | is_archived g k ↦ is_archived g (ap (λ x. cond x (live b) (archived c)) d ∙ k)
  ]
] refl

take_live : (live archived : Bases) (b c : Base) → (c ≡ b → ⊥) → HasPlace live archived c → HasPlace (λ x. cond (same_base x b) None (live x)) archived c
take_live live archived b c n (is_archived g k) = is_archived g k
take_live live archived b c n (is_live g k) = elim (same_base c b) as (λ x. same_base c b ≡ x → HasPlace (λ x. cond (same_base x b) None (live x)) archived c) [
  | true ↦ λ d. absurd (n (same_base-true c b d))
  | false ↦ λ d. is_live g (ap (λ x. cond x None (live c)) d ∙ k)
] refl

take_archived : (live archived : Bases) (b c : Base) → (c ≡ b → ⊥) → HasPlace live archived c → HasPlace live (λ x. cond (same_base x b) None (archived x)) c
take_archived live archived b c n (is_live g k) = is_live g k
take_archived live archived b c n (is_archived g k) = elim (same_base c b) as (λ x. same_base c b ≡ x → HasPlace live (λ x. cond (same_base x b) None (archived x)) c) [
  | true ↦ λ d. absurd (n (same_base-true c b d))
  | false ↦ λ d. is_archived g (ap (λ x. cond x None (archived c)) d ∙ k)
] refl

-- a base with a store file's name is at no link's place
pub not_link : (b : Base) (r : RegionKey) (e : Entry) → IsBase b → is_own e ≡ false → b ≡ file_of r e → ⊥
not_link b r e n o i = let z : true ≡ false = sym (store_name b.name n.file) ∙ ap (λ (x : Base). is_store_name x.name) i ∙ not_store e o in absurd (cc)

-- the base is not the one that the step deletes
abbrev NotDeleted : Step → Base → Type 0
NotDeleted (step.DeleteArchived actor base) b = b ≡ base → ⊥
NotDeleted _ b = Unit {0}

place_after : (p : Step) (s : Parts) → Allows p s → (b : Base) → IsBase b → NotDeleted p b → HasPlace (live_of s.disk) (archived_of s.disk) b
    → HasPlace (live_of (disk_after (op_of p) s.disk)) (archived_of (disk_after (op_of p) s.disk)) b
place_after (step.Place actor (moves.Written name) base cells) s a b n d h = put_place (live_of s.disk) (archived_of s.disk) base a.moved.wrote.file (s.disk (Tmp name)) a.moved.wrote.stands b h
place_after (step.Place actor (moves.WrittenBulk name) base cells) s a b n d h = put_place (live_of s.disk) (archived_of s.disk) base a.moved.wrote.file (s.disk (Tmp name)) a.moved.wrote.stands b h
place_after (step.Place actor (moves.StagedBulk folder name) base cells) s a b n d h = put_place (live_of s.disk) (archived_of s.disk) base a.moved.file (s.disk (Staged folder base.family name)) a.moved.stands b h
place_after (step.Stamp actor base moment) s a b n d h = put_place (live_of s.disk) (archived_of s.disk) base _ (option_map (with_moment moment) (s.disk (Live base))) (ap (option_map (with_moment moment)) a.stands) b h
place_after (step.Archive actor base) s a b n d h = move_place (live_of s.disk) (archived_of s.disk) base a.file a.stands b h
place_after (step.Link actor base region) s a b n d h = put_place (live_of s.disk) (archived_of s.disk) (file_of region (entries.Link base)) (record { bytes = []; moment = 0 }) _ refl b h
place_after (step.Half actor entry region bytes) s a b n d h = put_place (live_of s.disk) (archived_of s.disk) (file_of region entry) (record { bytes = bytes; moment = 0 }) _ refl b h
place_after (step.Unlink actor entry region) s a b n d h = take_live (live_of s.disk) (archived_of s.disk) (file_of region entry) b (not_link b region entry n a.refers) h
place_after (step.DeleteArchived actor base) s a b n d h = take_archived (live_of s.disk) (archived_of s.disk) base b d h
place_after (step.DropOld actor (old.Work snapshot parts.Info)) s a b n d h = h
place_after (step.Manifest actor parts.Info snapshot moment bytes) s a b n d h = h
place_after _ s a b n d h = h

not_deleted : (p : Step) (s : Parts) → Allows p s → IsSound s → (b : Base) → Was s b → NotDeleted p b
not_deleted (step.DeleteArchived actor base) s a h b (inl n) = λ e. deleted_unnamed s actor.0 base a h (subst (IsNamed s) e n)
not_deleted (step.DeleteArchived actor base) s a h b (inr l) = λ e. h.one_place.at b l.0 a.file l.1 (ap (archived_of s.disk) e ∙ a.archived)
not_deleted _ s a h b w = tt

-- every base that is named after a step has a place then
pub places_kept : (p : Step) (s : Parts) → Allows p s → IsSound s → (b : Base) → IsNamed (after p s) b → HasPlace (live_of (after p s).disk) (archived_of (after p s).disk) b
places_kept p s a h b i = let w = named_before p s a h b i in
    elim w as (λ v. NotDeleted p b → HasPlace (live_of (after p s).disk) (archived_of (after p s).disk) b) [
      | inl n ↦ λ d. place_after p s a b (h.lawful.at b n) d (h.places.at b n)
      | inr l ↦ λ d. place_after p s a b l.2 d (is_live l.0 l.1)
    ] (not_deleted p s a h b w)

-- ---- back references

abbrev HasBack : Backs → Base → RegionKey → Type 0
HasBack backs b r = (g : FileState) × (backs b r ≡ Some g)

more_back : (b : Bool) (g : FileState) (o : Option FileState) → (x : FileState) × (o ≡ Some x) → (x : FileState) × (cond b (Some g) o ≡ Some x)
more_back true g o h = (g, refl)
more_back false g o h = h

pub key_of_file : (r q : RegionKey) (e x : Entry) → file_of r e ≡ file_of q x → r ≡ q
key_of_file r q e x i = λ j. record { table = (i j).table; region = (i j).region }

-- a link or half that is made has its back reference, and so has each other
made_back : (s : Parts) (q : RegionKey) (x : Entry) (o : Option FileState) (g : FileState) → IsEntryIn q x → is_own x ≡ false → backs_of s.disk (base_of x) q ≡ Some g → IsSound s
    → (r : RegionKey) (e : Entry) (f : FileState) → IsKey r → IsEntryIn r e → is_own e ≡ false → cond (same_base (file_of r e) (file_of q x)) o (live_of s.disk (file_of r e)) ≡ Some f → HasBack (backs_of s.disk) (base_of e) r
made_back s q x o g n u k h r e f y v w i = cond_cases (same_base (file_of r e) (file_of q x)) o (live_of s.disk (file_of r e)) (Some f) i
    (λ d j. let z = same_base-true (file_of r e) (file_of q x) d in
    (g, ap (λ (c : Base). backs_of s.disk c r) (apart_bases r q e x v n w u z) ∙ ap (λ (c : RegionKey). backs_of s.disk (base_of x) c) (key_of_file r q e x z) ∙ k))
    (λ d j. h.back_refs.at r e f y v w j)

placed_back : (s : Parts) (b : Base) (o : Option FileState) → IsBase b → IsSound s → (r : RegionKey) (e : Entry) (f : FileState) → IsKey r → IsEntryIn r e → is_own e ≡ false
    → cond (same_base (file_of r e) b) o (live_of s.disk (file_of r e)) ≡ Some f → HasBack (backs_of s.disk) (base_of e) r
placed_back s b o n h r e f y v w i = cond_cases (same_base (file_of r e) b) o (live_of s.disk (file_of r e)) (Some f) i
    (λ d j. absurd (not_link b r e n w (sym (same_base-true (file_of r e) b d))))
    (λ d j. h.back_refs.at r e f y v w j)

taken_back : (s : Parts) (b : Base) → IsSound s → (r : RegionKey) (e : Entry) (f : FileState) → IsKey r → IsEntryIn r e → is_own e ≡ false
    → cond (same_base (file_of r e) b) None (live_of s.disk (file_of r e)) ≡ Some f → HasBack (backs_of s.disk) (base_of e) r
taken_back s b h r e f y v w i = cond_cases (same_base (file_of r e) b) None (live_of s.disk (file_of r e)) (Some f) i (λ d j. absurd (cc)) (λ d j. h.back_refs.at r e f y v w j)

-- a back reference goes only where no link of its region is left
cleaned_back : (s : Parts) (a : ℕ) (b : Base) (q : RegionKey) → CanCleanBackRef a b q s → IsSound s → (r : RegionKey) (e : Entry) (f : FileState) → IsKey r → IsEntryIn r e → is_own e ≡ false
    → live_of s.disk (file_of r e) ≡ Some f → (x : Bool) → (same_base (base_of e) b && same_bytes (back_text r.region r.table) (back_text q.region q.table)) ≡ x
    → (g : FileState) × (cond x None (backs_of s.disk (base_of e) r) ≡ Some g)
cleaned_back s a b q g h r e f y v w i true d =
    let c : base_of e ≡ b = same_base-true (base_of e) b (both_left _ _ d) in
    let k : r ≡ q = back_key r q y g.key (same_bytes-true _ _ (both_right (same_base (base_of e) b) _ d)) in
    let z : None ≡ Some f = sym (g.stale e (subst (λ (x : RegionKey). IsEntryIn x e) k v) w c) ∙ ap (λ (x : RegionKey). live_of s.disk (file_of x e)) (sym k) ∙ i in absurd (cc)
cleaned_back s a b q g h r e f y v w i false d = h.back_refs.at r e f y v w i

back_after : (p : Step) (s : Parts) → Allows p s → IsSound s → (r : RegionKey) (e : Entry) (f : FileState) → IsKey r → IsEntryIn r e → is_own e ≡ false
    → live_of (disk_after (op_of p) s.disk) (file_of r e) ≡ Some f → HasBack (backs_of (disk_after (op_of p) s.disk)) (base_of e) r
back_after (step.BackRef actor base region) s a h r e f y v w i = more_back _ _ _ (h.back_refs.at r e f y v w i)
back_after (step.CleanBackRef actor base region) s a h r e f y v w i = cleaned_back s actor.0 base region a h r e f y v w i _ refl
back_after (step.Place actor (moves.Written name) base cells) s a h r e f y v w i = placed_back s base _ a.names h r e f y v w i
back_after (step.Place actor (moves.WrittenBulk name) base cells) s a h r e f y v w i = placed_back s base _ a.names h r e f y v w i
back_after (step.Place actor (moves.StagedBulk folder name) base cells) s a h r e f y v w i = placed_back s base _ a.names h r e f y v w i
back_after (step.Stamp actor base moment) s a h r e f y v w i = cond_cases (same_base (file_of r e) base) (option_map (with_moment moment) (live_of s.disk base)) (live_of s.disk (file_of r e)) (Some f) i
    (λ d j. h.back_refs.at r e a.file y v w (ap (live_of s.disk) (same_base-true (file_of r e) base d) ∙ a.stands))
    (λ d j. h.back_refs.at r e f y v w j)
back_after (step.Archive actor base) s a h r e f y v w i = taken_back s base h r e f y v w i
back_after (step.Unlink actor entry region) s a h r e f y v w i = taken_back s (file_of region entry) h r e f y v w i
back_after (step.Link actor base region) s a h r e f y v w i = made_back s region (entries.Link base) _ a.back a.names refl a.referred h r e f y v w i
back_after (step.Half actor entry region bytes) s a h r e f y v w i = made_back s region entry _ a.refer.back a.refer.names (half_not_own entry a.half) a.refer.referred h r e f y v w i
back_after (step.DropOld actor (old.Work snapshot parts.Info)) s a h r e f y v w i = h.back_refs.at r e f y v w i
back_after (step.Manifest actor parts.Info snapshot moment bytes) s a h r e f y v w i = h.back_refs.at r e f y v w i
back_after _ s a h r e f y v w i = h.back_refs.at r e f y v w i

pub backs_kept : (p : Step) (s : Parts) → Allows p s → IsSound s → HasBackRefs (live_of (after p s).disk) (backs_of (after p s).disk)
backs_kept p s a h = record { at = λ r e f y v w i. back_after p s a h r e f y v w i }
