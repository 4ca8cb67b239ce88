-- Each step keeps that the files of listed and of pinned entries stand.
use Rattle.std.proofs.Common.{◌≡◌, ℕ, ◌==◌, true, false, cond, List, [], refl, sym, ap, ◌∙◌, subst, inl, inr}
use Rattle.std.specs.Prelude.{map, Ok}
use Rattle.hb_layout.specs.declared.base.Base.{Base}
use Rattle.plain_model.specs.declared.region_key.RegionKey.{RegionKey}
use Rattle.core_model.specs.declared.entry.Entry.{Entry}
use Rattle.core_model.specs.declared.entry.Entry.TheVariants as entries
use Rattle.core_model.specs.declared.step.Step.{Step}
use Rattle.core_model.specs.declared.step.Step.TheVariants as step
use Rattle.core_model.specs.ActorChanges.{pins_by, stale_at}
use Rattle.core_model.specs.Allows.{Allows}
use Rattle.core_model.specs.Disk.{Bases, disk_after, live_of}
use Rattle.core_model.specs.Entries.{base_of, file_of, is_own, IsBase}
use Rattle.core_model.specs.FileFacts.{Stands, PinnedStand}
use Rattle.cell_sight.specs.Member.{Member}
use Rattle.core_model.specs.Keys.{home}
use Rattle.core_sound.proofs.NameFacts.{apart_bases}
use Rattle.core_model.specs.Ops.{op_of}
use Rattle.core_model.specs.Replay.{after}
use Rattle.core_model.specs.Sound.{IsSound}
use Rattle.core_model.specs.State.{Parts, Pinned}
use Rattle.core_sound.proofs.LawfulKept.{NotTaken, there_after}
use Rattle.core_sound.proofs.PlacesKept.{not_link}
use Rattle.core_sound.proofs.Sources.{map-member, pins_region}

-- ---- a file that stands goes on standing

pub stand_after : (p : Step) (s : Parts) → Allows p s → (r : RegionKey) (e : Entry) → Stands (live_of s.disk) r e → NotTaken p (file_of r e) → Stands (live_of (disk_after (op_of p) s.disk)) r e
stand_after p s a r e h n = let k = there_after p s a (file_of r e) n (h.file, h.at) in record { file = k.0; at = k.1; key = h.key; names = h.names }

-- an own file of the region stands at its base
pub own_file : (r : RegionKey) (b : Base) → home b ≡ r → file_of r (entries.Own b) ≡ b
own_file r b p = λ i. record { table = (sym p i).table; region = (sym p i).region; family = b.family; name = b.name }

-- the entry whose file is archived is the region's own
pub archived_own : (live : Bases) (r : RegionKey) (e : Entry) (b : Base) → Stands live r e → IsBase b → file_of r e ≡ b → e ≡ entries.Own b
archived_own live r (entries.Own c) b h n i = ap entries.Own (sym (own_file r c h.names.1) ∙ i)
archived_own live r (entries.Link c) b h n i = absurd (not_link b r (entries.Link c) n refl (sym i))
archived_own live r (entries.Half c l p w t) b h n i = absurd (not_link b r (entries.Half c l p w t) n refl (sym i))

-- the entry whose file is taken away is none of its own
unlinked_other : (live : Bases) (r q : RegionKey) (e x : Entry) → Stands live r e → is_own x ≡ false → file_of r e ≡ file_of q x → is_own e ≡ false
unlinked_other live r q (entries.Own c) x h o i = absurd (not_link c q x h.names.0 o (sym (own_file r c h.names.1) ∙ i))
unlinked_other live r q (entries.Link c) x h o i = refl
unlinked_other live r q (entries.Half c l p w t) x h o i = refl

-- ---- pinned entries

pin_stays : (p : Step) (s : Parts) → Allows p s → IsSound s → (a : ℕ) (x : Pinned) (e : Entry) → Member x (s.pins a) → Member e x.entries → NotTaken p (file_of x.region e)
pin_stays (step.Archive actor base) s g h a x e m n = λ d.
    let k = archived_own (live_of s.disk) x.region e base (h.pinned.at a x e m n) g.names d in
    g.free.unpinned (record { actor = a; entry = e; pinned = record { pin = x; stands = m; entry = n }; reads = ap base_of k })
pin_stays (step.Unlink actor entry region) s g h a x e m n = λ d.
    let k = h.pinned.at a x e m n in
    let o = unlinked_other (live_of s.disk) x.region region e entry k g.refers d in
    g.unpinned (record { actor = a; entry = e; pinned = record { pin = x; stands = m; entry = n }; reads = apart_bases x.region region e entry k.names g.names o g.refers d })
pin_stays _ s g h a x e m n = tt

pinned_stays : (p : Step) (s : Parts) → Allows p s → IsSound s → (a : ℕ) (x : Pinned) (e : Entry) → Member x (s.pins a) → Member e x.entries → Stands (live_of (disk_after (op_of p) s.disk)) x.region e
pinned_stays p s g h a x e m n = stand_after p s g x.region e (h.pinned.at a x e m n) (pin_stays p s g h a x e m n)

-- an actor's pins changed
pins_cases : (live : Bases) (a : ℕ) (v : List Pinned) (pins : ℕ → List Pinned) → ((w : ℕ) (x : Pinned) (e : Entry) → Member x (pins w) → Member e x.entries → Stands live x.region e)
    → ((x : Pinned) (e : Entry) → Member x v → Member e x.entries → Stands live x.region e) → (w : ℕ) (x : Pinned) (e : Entry) → Member x (cond (w == a) v (pins w)) → Member e x.entries → Stands live x.region e
pins_cases live a v pins f g w x e m n = (elim (w == a) as (λ b. Member x (cond b v (pins w)) → Stands live x.region e) [ true ↦ λ k. g x e k n | false ↦ λ k. f w x e k n ]) m

stale-stands : (live : Bases) (r : RegionKey) (ps : List Pinned) → ((x : Pinned) (e : Entry) → Member x ps → Member e x.entries → Stands live x.region e)
    → (x : Pinned) (e : Entry) → Member x (map (stale_at r) ps) → Member e x.entries → Stands live x.region e
stale-stands live r ps f x e m n =
    let w = map-member (stale_at r) x ps m in
    subst (λ (y : Pinned). Member e y.entries → Stands live y.region e) w.2 (λ k. f w.0 e w.1 k) n

pinned_by : (p : Step) (s : Parts) → Allows p s → IsSound s → (w : ℕ) (x : Pinned) (e : Entry) → Member x (pins_by p s.lists s.pins w) → Member e x.entries → Stands (live_of (disk_after (op_of p) s.disk)) x.region e
pinned_by (step.Pin actor target (Ok region) major) s a h w x e m n = pins_cases (live_of s.disk) actor.0 _ s.pins h.pinned.at
    (λ y d k j. elim k [
      | inl i ↦ subst (λ (z : Pinned). Member d z.entries → Stands (live_of s.disk) z.region d) i (λ v. h.listed.at region d (inl (pins_region target region actor.0 s.plain h.own_regions a.answered)) v) j
      | inr i ↦ h.pinned.at actor.0 y d i j
    ]) w x e m n
pinned_by (step.CommitList actor region number name why list cells planned) s a h w x e m n =
    pins_cases (live_of s.disk) actor.0 _ s.pins h.pinned.at (stale-stands (live_of s.disk) region (s.pins actor.0) (h.pinned.at actor.0)) w x e m n
pinned_by (step.Unpin actor) s a h w x e m n = pins_cases (live_of s.disk) actor.0 [] s.pins h.pinned.at (λ y d k. absurd k) w x e m n
pinned_by (step.End actor refusal) s a h w x e m n = pins_cases (live_of s.disk) actor.0 [] s.pins h.pinned.at (λ y d k. absurd k) w x e m n
pinned_by (step.Abandon actor) s a h w x e m n = pins_cases (live_of s.disk) actor.0 [] s.pins h.pinned.at (λ y d k. absurd k) w x e m n
pinned_by p s a h w x e m n = pinned_stays p s a h w x e m n

pub pinned_kept : (p : Step) (s : Parts) → Allows p s → IsSound s → PinnedStand (after p s).pins (live_of (after p s).disk)
pinned_kept p s a h = record { at = λ w x e m n. pinned_by p s a h w x e m n }
