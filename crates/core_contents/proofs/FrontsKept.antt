-- Each step keeps that what a major pin gave stands in front of its list.
use Rattle.std.proofs.Common.{◌≡◌, ℕ, ◌≤◌, ◌&&◌, ◌==◌, Bool, true, false, not, cond, List, [], ◌∷◌, ◌++◌, length, Option, Some, None, refl, sym, ap, ◌∙◌, subst, inl, inr, arith}
use Rattle.std.specs.Prelude.{map, take, unwrap_or, is_some, Ok, zero, suc}
use Rattle.cell_sight.specs.Same.{Same}
use Rattle.plain_model.specs.declared.hold.Hold.{Hold}
use Rattle.hb_cell.specs.declared.cell.Cell.{Cell}
use Rattle.plain_model.specs.declared.hold.Hold.TheVariants as holds
use Rattle.plain_model.specs.declared.region_key.RegionKey.{RegionKey}
use Rattle.plain_model.specs.Names.{Names}
use Rattle.plain_model.specs.Keys.{same_key, set_at, set_each}
use Rattle.plain_model.specs.LiveEvents.{live_of, job_of, without}
use Rattle.plain_model.specs.declared.parts.Live.{Live}
use Rattle.plain_model.specs.declared.parts.PlainTable.{PlainTable}
use Rattle.core_model.specs.declared.entry.Entry.{Entry}
use Rattle.core_model.specs.declared.region_files.RegionFiles.{RegionFiles}
use Rattle.plain_model.specs.After.{after, after_all}
use Rattle.core_model.specs.declared.targets.MoveFrom.TheVariants as moves
use Rattle.core_model.specs.declared.targets.Why.TheVariants as why
use Rattle.core_model.specs.declared.step.Started.TheVariants as started
use Rattle.core_model.specs.declared.step.Step.{Step}
use Rattle.core_model.specs.declared.step.Step.TheVariants as step
use Rattle.core_model.specs.ActorChanges.{stale_at, pins_by}
use Rattle.core_model.specs.Allows.{Allows}
use Rattle.core_model.specs.Events.{events_of}
use Rattle.core_model.specs.FileChanges.{made_by, lists_by}
use Rattle.core_model.specs.Named.{pinned}
use Rattle.core_model.specs.Actors.{HasHold, IsLive, IsRegion, last_pin}
use Rattle.core_contents.specs.ContentFacts.{HasFront, HasFronts}
use Rattle.core_model.specs.Entries.{Made, base_of, cells_in, no_list}
use Rattle.cell_sight.specs.Member.{Member}
use Rattle.core_model.specs.Keys.{set_actor}
use Rattle.core_contents.specs.Faithful.{IsFaithful}
use Rattle.core_contents.proofs.ChangesLeave.{stays_alike, change_noted}
use Rattle.core_model.specs.Sound.{IsSound}
use Rattle.core_model.specs.ActorFacts.{FitsJob}
use Rattle.core_model.specs.SetGuards.{IsChange}
use Rattle.core_model.specs.StartGuards.{CanStart}
use Rattle.core_model.specs.declared.step.Drawn.{Drawn}
use Rattle.core_sound.proofs.RegionsStay.{free_stays}
use Rattle.core_sound.proofs.Vacant.{each-cases, drawn_out, same_key-self}
use Rattle.hb_cell.specs.Order.{same_bytes}
use Rattle.plain_model.specs.CellEvents.{each_with}
use Rattle.plain_model.specs.TableEvents.{tables_on}
use Rattle.plain_model.specs.declared.event.Event.{Event}
use Rattle.plain_model.specs.declared.job.Job.{Job}
use Rattle.plain_model.specs.declared.job.Job.TheVariants as jobs
use Rattle.plain_model.specs.declared.who.Actor.{Actor}
use Rattle.core_model.specs.StartGuards.{is_major}
use Rattle.core_model.specs.State.{Parts, Pinned}
use Rattle.core_contents.proofs.EntryFamilies.{pinned_of}
use Rattle.core_contents.proofs.MadeStays.{alike, made_stays}
use Rattle.core_contents.proofs.Tools.{set_here}
use Rattle.core_sound.proofs.Sources.{pins_region}
use Rattle.cell_sight.proofs.Counts.{same-trans, same-equal}
use Rattle.core_sound.proofs.HoldsFound.{some_is, found_joined, found_left, hold_fits, hold_job, holds_apart}
use Rattle.core_sound.proofs.LiveKept.{live_after}
use Rattle.core_sound.proofs.NumbersKept.{new_alone, same_self}
use Rattle.core_sound.proofs.Tests.{cond_cases, same_number, same_key-true, same_bytes-self, same_bytes-true, both_left, both_right}

-- what the last pins of major compactions gave, by the parts that tell it
abbrev pub Fronts : Made → (RegionKey → RegionFiles) → (ℕ → List Pinned) → Names PlainTable → List Live → (RegionKey → List Cell) → (ℕ → RegionKey → Option ℕ) → Type 0
Fronts made lists pins tables live stable noted = (a : ℕ) (r : RegionKey) (pin : Pinned) → last_pin (pins a) r ≡ Some pin → pin.fresh ≡ true → is_major (job_of live a) ≡ true → HasHold live a (holds.Compact r)
    → IsRegion tables r × HasFront made (lists r).entries (stable r) pin.entries (unwrap_or (noted a r) 0)

-- ---- fronts

assoc : {X : Type 0} (xs ys zs : List X) → (xs ++ ys) ++ zs ≡ xs ++ (ys ++ zs)
assoc [] ys zs = refl
assoc (x ∷ xs) ys zs = ap (λ v. x ∷ v) (assoc xs ys zs)

pub front_more : (made more : Made) (es : List Entry) (cs : List Cell) (front : List Entry) (n : ℕ) → ((e : Entry) → Member e front → more (base_of e) ≡ made (base_of e)) → HasFront made es cs front n → HasFront more es cs front n
front_more made more es cs front n k f = record { later = f.later; is = f.is; same = same-trans (same-equal (alike made more front k)) f.same; fits = f.fits }

length_front : (xs ys : List Cell) → length xs ≤ length (xs ++ ys)
length_front [] ys = grind (arith)
length_front (x ∷ xs) ys = let h : length xs ≤ length (xs ++ ys) = length_front xs ys in grind (arith)

at_most : (n m k : ℕ) → n ≤ m → m ≤ k → n ≤ k
at_most n m k a b = grind (arith)

-- a list that gains entries and cells behind keeps its front
pub front_longer : (made : Made) (es more : List Entry) (cs cells : List Cell) (front : List Entry) (n : ℕ) → take n (cs ++ cells) ≡ take n cs → HasFront made es cs front n → HasFront made (es ++ more) (cs ++ cells) front n
front_longer made es more cs cells front n t f = record {
  later = f.later ++ more;
  is = ap (λ v. v ++ more) f.is ∙ assoc front f.later more;
  same = same-trans f.same (same-equal (sym t));
  fits = at_most n (length cs) (length (cs ++ cells)) f.fits (length_front cs cells);
}

-- ---- pins that become stale

stale_pin : (r : RegionKey) (ps : List Pinned) (q : RegionKey) (pin : Pinned) → last_pin (map (stale_at r) ps) q ≡ Some pin → (o : Pinned) × (last_pin ps q ≡ Some o) × (stale_at r o ≡ pin) × (o.region ≡ q)
stale_pin r [] q pin e = absurd (cc)
stale_pin r (p ∷ ps) q pin e = cond_cases (same_key p.region q) (Some (stale_at r p)) (last_pin (map (stale_at r) ps) q) (Some pin) e
    (λ d i. (p, ap (λ b. cond b (Some p) (last_pin ps q)) d, some_is i, same_key-true p.region q d))
    (λ d i. let w = stale_pin r ps q pin i in (w.0, ap (λ b. cond b (Some p) (last_pin ps q)) d ∙ w.1, w.2, w.3))

-- a commit of a list: the committer's pins of the region are stale; those of others keep their front
pub commit_fronts : (s : Parts) (a : ℕ) (r : RegionKey) (l : RegionFiles) (stable : RegionKey → List Cell) → Fronts s.made s.lists s.pins s.plain.tables s.plain.live s.plain.stable s.plain.noted
    → ((q : RegionKey) → same_key q r ≡ false → stable q ≡ s.plain.stable q)
    → ((w : ℕ) (front : List Entry) (n : ℕ) → w == a ≡ false → HasHold s.plain.live w (holds.Compact r) → IsRegion s.plain.tables r → HasFront s.made (s.lists r).entries (s.plain.stable r) front n → HasFront s.made l.entries (stable r) front n)
    → Fronts s.made (set_at r l s.lists) (set_actor a (map (stale_at r) (s.pins a)) s.pins) s.plain.tables s.plain.live stable s.plain.noted
commit_fronts s a r l stable h k1 k2 w q pin e f j k = (elim (w == a) as (λ b. w == a ≡ b → last_pin (cond b (map (stale_at r) (s.pins a)) (s.pins w)) q ≡ Some pin
    → IsRegion s.plain.tables q × HasFront s.made (set_at r l s.lists q).entries (stable q) pin.entries (unwrap_or (s.plain.noted w q) 0)) [
      | true ↦ λ d i. let v = stale_pin r (s.pins a) q pin i in
          let u : stale_at r v.0 ≡ pin = v.2 in
          let t : (v.0.fresh && not (same_key v.0.region r)) ≡ true = ap (λ (x : Pinned). x.fresh) u ∙ f in
          let y = h w q v.0 (ap (λ x. last_pin (s.pins x) q) (same_number w a d) ∙ v.1) (both_left v.0.fresh _ t) j k in
          let z : same_key q r ≡ false = ap (λ x. same_key x r) (sym v.3) ∙ off _ (both_right v.0.fresh _ t) in
          (y.0, other q pin.entries _ z (subst (λ x. HasFront s.made (s.lists q).entries (s.plain.stable q) x (unwrap_or (s.plain.noted w q) 0)) (ap (λ (x : Pinned). x.entries) u) y.1))
      | false ↦ λ d i. let y = h w q pin i f j k in (
        y.0,
        (elim (same_key q r) as (λ b. same_key q r ≡ b → HasFront s.made (cond b l (s.lists q)).entries (stable q) pin.entries (unwrap_or (s.plain.noted w q) 0)) [
          | true ↦ λ z. let p = same_key-true q r z in
              subst (λ x. HasFront s.made l.entries (stable x) pin.entries (unwrap_or (s.plain.noted w q) 0)) (sym p)
              (k2 w pin.entries _ d (subst (λ x. HasHold s.plain.live w (holds.Compact x)) p k) (subst (IsRegion s.plain.tables) p y.0) (subst (λ x. HasFront s.made (s.lists x).entries (s.plain.stable x) pin.entries (unwrap_or (s.plain.noted w q) 0)) p y.1))
          | false ↦ λ z. subst (λ c. HasFront s.made (s.lists q).entries c pin.entries (unwrap_or (s.plain.noted w q) 0)) (sym (k1 q z)) y.1
        ]) refl,
      )
    ]) refl e
  where
    off : (b : Bool) → not b ≡ true → b ≡ false
    off true x = absurd (cc)
    off false x = refl

    other : (q : RegionKey) (front : List Entry) (n : ℕ) → same_key q r ≡ false → HasFront s.made (s.lists q).entries (s.plain.stable q) front n → HasFront s.made (set_at r l s.lists q).entries (stable q) front n
    other q front n z y = subst (λ b. HasFront s.made (cond b l (s.lists q)).entries (stable q) front n) (sym z) (subst (λ c. HasFront s.made (s.lists q).entries c front n) (sym (k1 q z)) y)

-- ---- whose pins

not_live : (live : List Live) (a : ℕ) → ((l : Live) → Member l live → l.actor.0 ≡ a → ⊥) → IsLive live a → ⊥
not_live [] a f e = absurd (cc)
not_live (x ∷ xs) a f e = (elim (x.actor.0 == a) as (λ b. x.actor.0 == a ≡ b → is_some (cond b (Some x) (live_of xs a)) ≡ true → ⊥) [
  | true ↦ λ d i. f x (inl refl) (same_number x.actor.0 a d)
  | false ↦ λ d i. not_live xs a (λ l m. f l (inr m)) i
]) refl e

no_pins : (s : Parts) (w : ℕ) (r : RegionKey) (pin : Pinned) → last_pin (s.pins w) r ≡ Some pin → IsSound s → IsLive s.plain.live w
no_pins s w r pin e h = h.owners.pinning w pin (pinned_of (s.pins w) r pin e)

-- an actor that is live in both has one job
same_major : (live next : List Live) (w : ℕ) (x y : Hold) (k : HasHold live w x) (j : HasHold next w y) → k.activity ≡ j.activity → is_major (job_of next w) ≡ true → is_major (job_of live w) ≡ true
same_major live next w x y k j e m = ap is_major (hold_job live w _ k) ∙ ap (λ (l : Live). is_major (Some l.job)) e ∙ sym (ap is_major (hold_job next w _ j)) ∙ m

start_fronts : (job : Job) (actor : Actor) (drawn : Drawn) (s : Parts) → CanStart job (started.Live actor) drawn s → IsSound s → IsFaithful s
    → Fronts s.made (set_each (each_with no_list drawn.regions) s.lists) s.pins s.plain.tables (s.plain.live ++ record { actor = actor; job = job; holds = drawn.holds } ∷ []) s.plain.stable s.plain.noted
start_fronts job actor drawn s a h fa w r pin e f m k = elim (found_joined s.plain.live _ w k.activity k.at_work) [
  | inl i ↦ let x : HasHold s.plain.live w (holds.Compact r) = record { activity = k.activity; at_work = i; held = k.held } in
      let y = fa.fronts.at w r pin e f (same_major s.plain.live (s.plain.live ++ record { actor = actor; job = job; holds = drawn.holds } ∷ []) w _ _ x k refl m) x in (
        y.0,
        each-cases (λ (l : RegionFiles). HasFront s.made l.entries (s.plain.stable r) pin.entries (unwrap_or (s.plain.noted w r) 0)) no_list drawn.regions s.lists r
            (λ j n z. absurd (drawn_out job actor drawn s a j n (subst (IsRegion s.plain.tables) (sym z) y.0))) y.1,
      )
  | inr i ↦ absurd (not_live s.plain.live w (new_alone s w (sym i.0 ∙ a.answered.1.number) h) (no_pins s w r pin e h))
]

end_fronts : (s : Parts) (a : ℕ) → IsFaithful s → Fronts s.made s.lists (set_actor a [] s.pins) s.plain.tables (without a s.plain.live) s.plain.stable (λ w q. cond (w == a) None (s.plain.noted w q))
end_fronts s a fa w r pin e f m k = (elim (w == a) as (λ b. last_pin (cond b [] (s.pins w)) r ≡ Some pin → IsRegion s.plain.tables r × HasFront s.made (s.lists r).entries (s.plain.stable r) pin.entries (unwrap_or (cond b None (s.plain.noted w r)) 0)) [
  | true ↦ λ i. absurd (cc)
  | false ↦ λ i. let j : HasHold s.plain.live w (holds.Compact r) = record { activity = k.activity; at_work = found_left w a s.plain.live k.activity k.at_work; held = k.held } in fa.fronts.at w r pin i f (same_major s.plain.live (without a s.plain.live) w _ _ j k refl m) j
]) e

unpin_fronts : (s : Parts) (a : ℕ) → IsFaithful s → Fronts s.made s.lists (set_actor a [] s.pins) s.plain.tables s.plain.live s.plain.stable s.plain.noted
unpin_fronts s a fa w r pin e f m k = (elim (w == a) as (λ b. last_pin (cond b [] (s.pins w)) r ≡ Some pin → IsRegion s.plain.tables r × HasFront s.made (s.lists r).entries (s.plain.stable r) pin.entries (unwrap_or (s.plain.noted w r) 0)) [
  | true ↦ λ i. absurd (cc)
  | false ↦ λ i. fa.fronts.at w r pin i f m k
]) e

-- ---- a pin

take-front : (n : ℕ) (xs ys : List Cell) → n ≤ length xs → take n (xs ++ ys) ≡ take n xs
take-front zero xs ys h = refl
take-front (suc n) [] ys h = absurd (grind (arith))
take-front (suc n) (x ∷ xs) ys h = ap (λ v. x ∷ v) (take-front n xs ys (grind (arith)))

take-whole : (xs : List Cell) → take (length xs) xs ≡ xs
take-whole [] = refl
take-whole (x ∷ xs) = ap (λ v. x ∷ v) (take-whole xs)

nothing_behind : (es : List Entry) → es ≡ es ++ []
nothing_behind [] = refl
nothing_behind (e ∷ es) = ap (λ v. e ∷ v) (nothing_behind es)

itself : (n : ℕ) → n ≤ n
itself n = grind (arith)

-- a whole list is its own front
whole_front : (made : Made) (es : List Entry) (cs : List Cell) → Same (cells_in made es) cs → HasFront made es cs es (length cs)
whole_front made es cs c = record { later = []; is = nothing_behind es; same = same-trans c (same-equal (sym (take-whole cs))); fits = itself (length cs) }

turned : (a b : RegionKey) (x : Bool) → same_key a b ≡ x → same_key b a ≡ x
turned a b true e = ap (λ y. same_key y a) (sym (same_key-true a b e)) ∙ ap (same_key a) (same_key-true a b e) ∙ e
turned a b false e = (elim (same_key b a) as (λ x. same_key b a ≡ x → x ≡ false) [
  | true ↦ λ d. let q = same_key-true b a d in let z : true ≡ false = sym d ∙ ap (λ y. same_key y a) q ∙ ap (same_key a) (sym q) ∙ e in absurd (cc)
  | false ↦ λ d. refl
]) refl

pin_fronts : (s : Parts) (a : ℕ) (r : RegionKey) → IsRegion s.plain.tables r → IsFaithful s
    → Fronts s.made s.lists (set_actor a (record { region = r; entries = (s.lists r).entries; fresh = true } ∷ s.pins a) s.pins) s.plain.tables s.plain.live s.plain.stable (λ w q. cond ((w == a) && same_key q r) (Some (length (s.plain.stable r))) (s.plain.noted w q))
pin_fronts s a r i fa w q pin e f m k = (elim (w == a) as (λ b. w == a ≡ b → last_pin (cond b (record { region = r; entries = (s.lists r).entries; fresh = true } ∷ s.pins a) (s.pins w)) q ≡ Some pin
    → IsRegion s.plain.tables q × HasFront s.made (s.lists q).entries (s.plain.stable q) pin.entries (unwrap_or (cond (b && same_key q r) (Some (length (s.plain.stable r))) (s.plain.noted w q)) 0)) [
      | true ↦ λ d x. cond_cases (same_key r q) (Some (record { region = r; entries = (s.lists r).entries; fresh = true })) (last_pin (s.pins a) q) (Some pin) x
          (λ z j. let p = same_key-true r q z in subst (λ y. IsRegion s.plain.tables y × HasFront s.made (s.lists y).entries (s.plain.stable y) pin.entries (unwrap_or (cond (same_key y r) (Some (length (s.plain.stable r))) (s.plain.noted w y)) 0)) p (
            i,
            subst (λ b. HasFront s.made (s.lists r).entries (s.plain.stable r) pin.entries (unwrap_or (cond b (Some (length (s.plain.stable r))) (s.plain.noted w r)) 0)) (sym (ap (same_key r) p ∙ z))
                (subst (λ (v : Pinned). HasFront s.made (s.lists r).entries (s.plain.stable r) v.entries (length (s.plain.stable r))) (some_is j) (whole_front s.made (s.lists r).entries (s.plain.stable r) (fa.contents.at r i))),
          ))
          (λ z j. subst (λ b. IsRegion s.plain.tables q × HasFront s.made (s.lists q).entries (s.plain.stable q) pin.entries (unwrap_or (cond b (Some (length (s.plain.stable r))) (s.plain.noted w q)) 0)) (sym (turned r q false z))
          (fa.fronts.at w q pin (ap (λ v. last_pin (s.pins v) q) (same_number w a d) ∙ j) f m k))
      | false ↦ λ d x. fa.fronts.at w q pin x f m k
    ]) refl e

minor_pin : (s : Parts) (a : ℕ) (ps : List Pinned) → false ≡ is_major (job_of s.plain.live a) → IsFaithful s → Fronts s.made s.lists (set_actor a ps s.pins) s.plain.tables s.plain.live s.plain.stable s.plain.noted
minor_pin s a ps b fa w q pin e f m k = (elim (w == a) as (λ x. w == a ≡ x → last_pin (cond x ps (s.pins w)) q ≡ Some pin → IsRegion s.plain.tables q × HasFront s.made (s.lists q).entries (s.plain.stable q) pin.entries (unwrap_or (s.plain.noted w q) 0)) [
  | true ↦ λ d x. let z : false ≡ true = b ∙ ap (λ v. is_major (job_of s.plain.live v)) (sym (same_number w a d)) ∙ m in absurd (cc)
  | false ↦ λ d x. fa.fronts.at w q pin x f m k
]) refl e

-- ---- all steps

far : {A : Type 0} (r : RegionKey) (v : A) (f : RegionKey → A) (q : RegionKey) → same_key q r ≡ false → set_at r v f q ≡ f q
far r v f q z = ap (λ b. cond b v (f q)) z

extended : (s : Parts) (r : RegionKey) (l : RegionFiles) (more : List Entry) (cells : List Cell) (front : List Entry) (n : ℕ) → l.entries ≡ (s.lists r).entries ++ more
    → HasFront s.made (s.lists r).entries (s.plain.stable r) front n → HasFront s.made l.entries (set_at r (s.plain.stable r ++ cells) s.plain.stable r) front n
extended s r l more cells front n e f = subst (λ es. HasFront s.made es (set_at r (s.plain.stable r ++ cells) s.plain.stable r) front n) (sym e)
    (subst (λ c. HasFront s.made ((s.lists r).entries ++ more) c front n) (sym (set_here r (s.plain.stable r ++ cells) s.plain.stable)) (front_longer s.made (s.lists r).entries more (s.plain.stable r) cells front n (take-front n (s.plain.stable r) cells f.fits) f))

one_compacts : {P : Type 0} (s : Parts) (a w : ℕ) (r : RegionKey) → IsSound s → HasHold s.plain.live a (holds.Compact r) → HasHold s.plain.live w (holds.Compact r) → w == a ≡ false → P
one_compacts s a w r h x y d = let z : true ≡ false = sym (same_key-self r) ∙ holds_apart s.plain.live w a _ _ h.apart y x (λ e. let k : true ≡ false = sym (same_self w) ∙ ap (λ v. w == v) e ∙ d in absurd (cc)) in absurd (cc)

grown_fronts : (p : Step) (s : Parts) → s.files ≤ 4_194_304 → Allows p s → IsSound s → IsFaithful s → Fronts (made_by p s.made) s.lists s.pins s.plain.tables s.plain.live s.plain.stable s.plain.noted
grown_fronts p s few a h fa w q pin e f m k = let y = fa.fronts.at w q pin e f m k in
    (y.0, front_more s.made (made_by p s.made) (s.lists q).entries (s.plain.stable q) pin.entries _ (λ x n. made_stays p s few a h (base_of x) (pinned w x (record { pin = pin; stands = pinned_of (s.pins w) q pin e; entry = n }) refl)) y.1)

-- ---- a change of regions

no_change : (w : ℕ) (q : RegionKey) (job : Job) (change : Event) (table : List ℕ) (a : ℕ) (s : Parts) → FitsJob (holds.Compact q) job → IsChange (Some job) change table a s → ⊥
no_change w q (jobs.Compact t major) change table a s f z = z
no_change w q (jobs.Discharge t) change table a s f z = z
no_change w q _ change table a s f z = f

-- whoever compacts a region changes none
not_compacts : (s : Parts) (a w : ℕ) (q : RegionKey) (change : Event) (table : List ℕ) → IsSound s → IsChange (job_of s.plain.live a) change table a s → HasHold s.plain.live w (holds.Compact q) → a ≡ w → ⊥
not_compacts s a w q change table h z y e =
    let k = subst (λ v. HasHold s.plain.live v (holds.Compact q)) (sym e) y in
    no_change w q k.activity.job change table a s (hold_fits s.plain.live a _ h.fits k) (subst (λ o. IsChange o change table a s) (hold_job s.plain.live a _ k) z)

compacted_set : (s : Parts) (a w : ℕ) (q : RegionKey) (change : Event) (table : List ℕ) → IsSound s → IsChange (job_of s.plain.live a) change table a s → HasHold s.plain.live w (holds.Compact q) → IsRegion s.plain.tables q
    → IsRegion (tables_on change s.plain.snapshots s.plain.tables) q
compacted_set s a w q change table h z y i = let n = not_compacts s a w q change table h z y in
    free_stays change table a s q z h
    (λ t x d. let v : true ≡ false = sym (same_bytes-self t) ∙ ap (same_bytes t) (sym (same_bytes-true q.table t d)) ∙ holds_apart s.plain.live a w (holds.Table t) (holds.Compact q) h.apart x y n in absurd (cc))
    (λ x. let v : true ≡ false = sym (same_key-self q) ∙ holds_apart s.plain.live a w (holds.Region q) (holds.Compact q) h.apart x y n in absurd (cc)) i

pub fronts_kept : (p : Step) (s : Parts) → s.files ≤ 4_194_304 → Allows p s → IsSound s → IsFaithful s → HasFronts (made_by p s.made) (lists_by p s.lists) (pins_by p s.lists s.pins) (after_all s.plain (events_of p))
fronts_kept (step.Start who job (started.Live actor) drawn) s few a h fa = record { at = start_fronts job actor drawn s a h fa }
fronts_kept (step.End actor refusal) s few a h fa = record { at = end_fronts s actor.0 fa }
fronts_kept (step.Abandon actor) s few a h fa = record { at = end_fronts s actor.0 fa }
fronts_kept (step.Unpin actor) s few a h fa = record { at = unpin_fronts s actor.0 fa }
fronts_kept (step.Pin actor target (Ok region) true) s few a h fa = record { at = pin_fronts s actor.0 region (pins_region target region actor.0 s.plain h.own_regions a.answered) fa }
fronts_kept (step.Pin actor target (Ok region) false) s few a h fa = record { at = minor_pin s actor.0 _ a.begins fa }
fronts_kept (step.CommitList actor region number name why.Flush list cells more) s few a h fa = record { at = commit_fronts s actor.0 region list _ fa.fronts.at (λ q z. far region _ s.plain.stable q z) (λ w front n d k i f. extended s region list _ _ front n a.allowed.1.entries f) }
fronts_kept (step.CommitList actor region number name why.Capture list cells more) s few a h fa = record { at = commit_fronts s actor.0 region list _ fa.fronts.at (λ q z. far region _ s.plain.stable q z) (λ w front n d k i f. extended s region list _ _ front n a.allowed.flushes.entries f) }
fronts_kept (step.CommitList actor region number name why.Bulk list cells more) s few a h fa = record { at = commit_fronts s actor.0 region list _ fa.fronts.at (λ q z. far region _ s.plain.stable q z) (λ w front n d k i f. extended s region list _ _ front n a.allowed.entries f) }
fronts_kept (step.CommitList actor region number name (why.Compact true) list cells more) s few a h fa = record { at = commit_fronts s actor.0 region list _ fa.fronts.at (λ q z. far region _ s.plain.stable q z) (λ w front n d k i f. one_compacts s actor.0 w region h a.allowed.held k d) }
fronts_kept (step.CommitList actor region number name (why.Compact false) list cells more) s few a h fa = record { at = commit_fronts s actor.0 region list s.plain.stable fa.fronts.at (λ q z. refl) (λ w front n d k i f. one_compacts s actor.0 w region h a.allowed.held k d) }
fronts_kept (step.CommitList actor region number name why.Build list cells more) s few a h fa = record { at = commit_fronts s actor.0 region list s.plain.stable fa.fronts.at (λ q z. refl) (λ w front n d k i f. absurd (a.allowed.out i)) }
fronts_kept (step.CommitRegions actor table number name set change) s few a h fa = record {
  at = λ w q pin e f m k.
      let l = live_after (step.CommitRegions actor table number name set change) s a in
      let x = subst (λ live. HasHold live w (holds.Compact q)) l k in
      let y = fa.fronts.at w q pin e f (ap (λ live. is_major (job_of live w)) (sym l) ∙ m) x in
      let z = stays_alike (job_of s.plain.live actor.0) change table actor.0 s q a.is_change h y.0 in (
        compacted_set s actor.0 w q change table h a.is_change x y.0,
        subst (λ c. HasFront s.made (s.lists q).entries c pin.entries (unwrap_or ((after change s.plain).noted w q) 0)) (sym z.stable)
            (subst (λ (o : ℕ → RegionKey → Option ℕ). HasFront s.made (s.lists q).entries (s.plain.stable q) pin.entries (unwrap_or (o w q) 0)) (sym (change_noted (job_of s.plain.live actor.0) change table actor.0 s a.is_change)) y.1),
      );
}
fronts_kept (step.WriteTmp actor recipe name cells bytes) s few a h fa = record { at = grown_fronts (step.WriteTmp actor recipe name cells bytes) s few a h fa }
fronts_kept (step.Place actor (moves.StagedBulk folder name) base cells) s few a h fa = record { at = grown_fronts (step.Place actor (moves.StagedBulk folder name) base cells) s few a h fa }
fronts_kept (step.Place actor (moves.WrittenBulk name) base cells) s few a h fa = record { at = fa.fronts.at }
fronts_kept (step.PutCell who table put moment (Some joined)) s few a h fa = record { at = fa.fronts.at }
fronts_kept _ s few a h fa = record { at = fa.fronts.at }
