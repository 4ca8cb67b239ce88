-- Each step keeps that the newest list of each region that counts is what its file says.
use Rattle.std.proofs.Common.{◌≡◌, ◌⊎◌, ℕ, ◌<◌, ◌==◌, ◌&&◌, Bool, true, false, cond, List, Option, None, refl, sym, ap, ◌∙◌, subst, inl, inr, arith}
use Rattle.std.proofs.lemmas.Bool.Decides.{nat_tests}
use Rattle.hb_cell.specs.Order.{same_bytes}
use Rattle.ns_tree.specs.declared.file.FileState.{FileState}
use Rattle.plain_model.specs.declared.region_key.RegionKey.{RegionKey}
use Rattle.plain_model.specs.Keys.{same_key}
use Rattle.core_model.specs.declared.region_files.RegionFiles.{RegionFiles}
use Rattle.core_model.specs.declared.targets.ManifestPart.TheVariants as parts
use Rattle.core_model.specs.declared.targets.MoveFrom.TheVariants as moves
use Rattle.core_model.specs.declared.targets.OldFile.TheVariants as old
use Rattle.core_model.specs.declared.step.Started.TheVariants as started
use Rattle.core_model.specs.declared.step.Step.{Step}
use Rattle.core_model.specs.declared.step.Step.TheVariants as step
use Rattle.core_model.specs.ActorChanges.{plans_by}
use Rattle.core_model.specs.Actors.{Counts}
use Rattle.core_model.specs.Allows.{Allows}
use Rattle.core_model.specs.Disk.{disk_after, lists_of, tmps_of}
use Rattle.core_model.specs.Entries.{no_list}
use Rattle.core_model.specs.FileChanges.{lists_by}
use Rattle.core_model.specs.FileGuards.{IsNoRegion}
use Rattle.core_model.specs.ListGuards.{IsNext}
use Rattle.core_model.specs.Ops.{op_of}
use Rattle.core_model.specs.Replay.{after}
use Rattle.core_model.specs.Site.{Tmp, StoreList}
use Rattle.core_model.specs.State.{Parts}
use Rattle.core_model.specs.TableChanges.{tables_by}
use Rattle.core_sound.proofs.BuiltKept.{counts_before}
use Rattle.core_sound.proofs.NeverAgain.{tables_after}
use Rattle.core_sound.proofs.NumbersKept.{same_self}
use Rattle.core_sound.proofs.Tests.{same_bytes-self, same_key-true}
use Rattle.core_sound.proofs.Vacant.{each-cases, each-new}
use Rattle.core_bytes.specs.Stored.{IsStored, unwritten, written, HasListFiles}
use Rattle.core_bytes.specs.Written.{HasTmps}

abbrev Has : Parts → Type 0
Has s = HasListFiles (lists_of s.disk) s.lists s.plain.tables s.plans

-- ---- tests

abbrev is_list : RegionKey → RegionKey → ℕ → ℕ → Bool
is_list r q m n = same_bytes r.table q.table && (same_bytes r.region q.region && (m == n))

other_key : (a b c : Bool) → (a && b) ≡ false → (a && (b && c)) ≡ false
other_key true true c e = absurd (cc)
other_key true false c e = refl
other_key false b c e = refl

other_number : (a b c : Bool) → c ≡ false → (a && (b && c)) ≡ false
other_number true true c e = e
other_number true false c e = refl
other_number false b c e = refl

pub above_not : (m n : ℕ) → n < m → (m == n) ≡ false
above_not m n e = grind (arith, nat_tests)

this_list : (r : RegionKey) (n : ℕ) → is_list r r n n ≡ true
this_list r n = λ i. (same_bytes-self r.table i) && ((same_bytes-self r.region i) && (same_self n i))

-- ---- lists

stored_same : (f g : ℕ → Option FileState) (l : RegionFiles) → g l.number ≡ f l.number → IsStored f l → IsStored g l
stored_same f g l k h = elim h [ unwritten e ↦ unwritten e | written x e t ↦ written x (k ∙ e) t ]

next_stored : (a : ℕ) (r : RegionKey) (n : ℕ) (name : List ℕ) (l : RegionFiles) (s : Parts) → IsNext a r n name l s → HasTmps (tmps_of s.disk) s.written
    → IsStored (λ m. cond (is_list r r m l.number) (s.disk (Tmp name)) (s.disk (StoreList r.table r.region m))) l
next_stored a r n name l s g h = written g.wrote.file (ap (λ x. cond x (s.disk (Tmp name)) (s.disk (StoreList r.table r.region l.number))) (this_list r l.number) ∙ g.wrote.stands) (h.at name g.wrote.file _ g.wrote.stands g.wrote.known)

committed : (a : ℕ) (q : RegionKey) (n : ℕ) (name : List ℕ) (l : RegionFiles) (s : Parts) → IsNext a q n name l s → HasTmps (tmps_of s.disk) s.written → (r : RegionKey) → IsStored (lists_of s.disk r) (s.lists r)
    → IsStored (λ m. cond (is_list r q m l.number) (s.disk (Tmp name)) (s.disk (StoreList r.table r.region m))) (cond (same_key r q) l (s.lists r))
committed a q n name l s g t r h = (elim (same_key r q) as (λ b. same_key r q ≡ b → IsStored (λ m. cond (is_list r q m l.number) (s.disk (Tmp name)) (s.disk (StoreList r.table r.region m))) (cond b l (s.lists r))) [
  | true ↦ λ d. subst (λ (x : RegionKey). IsStored (λ m. cond (is_list x q m l.number) (s.disk (Tmp name)) (s.disk (StoreList x.table x.region m))) l) (sym (same_key-true r q d)) (next_stored a q n name l s g t)
  | false ↦ λ d. stored_same (lists_of s.disk r) _ (s.lists r)
      (ap (λ x. cond x (s.disk (Tmp name)) (s.disk (StoreList r.table r.region (s.lists r).number))) (other_key (same_bytes r.table q.table) (same_bytes r.region q.region) ((s.lists r).number == l.number) d)) h
]) refl

not_gone : (r : RegionKey) (s : Parts) → IsNoRegion r s → Counts s.plain.tables s.plans r → ⊥
not_gone r s g (inl i) = g.out i
not_gone r s g (inr i) = g.unplanned i.actor i.info i.region i.key

dropped : (q : RegionKey) (n : ℕ) (s : Parts) → (n < (s.lists q).number) ⊎ IsNoRegion q s → (r : RegionKey) → Counts s.plain.tables s.plans r → IsStored (lists_of s.disk r) (s.lists r)
    → IsStored (λ m. cond (is_list r q m n) None (s.disk (StoreList r.table r.region m))) (s.lists r)
dropped q n s g r c h = (elim (same_key r q) as (λ b. same_key r q ≡ b → IsStored (λ m. cond (is_list r q m n) None (s.disk (StoreList r.table r.region m))) (s.lists r)) [
  | true ↦ λ d. let e : r ≡ q = same_key-true r q d in elim g [
    | inl u ↦ stored_same (lists_of s.disk r) _ (s.lists r)
        (ap (λ x. cond x None (s.disk (StoreList r.table r.region (s.lists r).number)))
        (other_number (same_bytes r.table q.table) (same_bytes r.region q.region) ((s.lists r).number == n) (above_not (s.lists r).number n (subst (λ (x : RegionKey). n < (s.lists x).number) (sym e) u)))) h
    | inr u ↦ absurd (not_gone q s u (subst (Counts s.plain.tables s.plans) e c))
  ]
  | false ↦ λ d. stored_same (lists_of s.disk r) _ (s.lists r)
      (ap (λ x. cond x None (s.disk (StoreList r.table r.region (s.lists r).number))) (other_key (same_bytes r.table q.table) (same_bytes r.region q.region) ((s.lists r).number == n) d)) h
]) refl

-- ---- all steps

stored_after : (p : Step) (s : Parts) → Allows p s → HasTmps (tmps_of s.disk) s.written → Has s → (r : RegionKey) → Counts (tables_by p s.plain.snapshots s.plain.tables) (plans_by p s.plans) r
    → IsStored (lists_of (disk_after (op_of p) s.disk) r) (lists_by p s.lists r)
stored_after (step.Start who job (started.Live actor) drawn) s a t h r c = elim (counts_before (step.Start who job (started.Live actor) drawn) s a r c) [
  | inl k ↦ each-cases (IsStored (lists_of s.disk r)) no_list drawn.regions s.lists r (λ i m e. unwritten refl) (h.at r k)
  | inr k ↦ subst (IsStored (lists_of s.disk r)) (sym (ap (lists_by (step.Start who job (started.Live actor) drawn) s.lists) (sym k.2) ∙ each-new no_list drawn.regions s.lists k.0 k.1)) (unwritten refl)
]
stored_after (step.CommitList actor region number name reason list cells more) s a t h r c = elim (counts_before (step.CommitList actor region number name reason list cells more) s a r c) [
  | inl k ↦ committed actor.0 region number name list s a.next t r (h.at r k)
  | inr k ↦ absurd (k.1)
]
stored_after (step.DropOld actor (old.List region number)) s a t h r c = elim (counts_before (step.DropOld actor (old.List region number)) s a r c) [ inl k ↦ dropped region number s a.old r k (h.at r k) | inr k ↦ absurd (k.1) ]
stored_after (step.DropOld actor (old.Work snapshot parts.Info)) s a t h r c = elim (counts_before (step.DropOld actor (old.Work snapshot parts.Info)) s a r c) [ inl k ↦ h.at r k | inr k ↦ absurd (k.1) ]
stored_after (step.Manifest actor parts.Info snapshot moment bytes) s a t h r c = elim (counts_before (step.Manifest actor parts.Info snapshot moment bytes) s a r c) [ inl k ↦ h.at r k | inr k ↦ absurd (k.1) ]
stored_after (step.Place actor (moves.Written name) base cells) s a t h r c = elim (counts_before (step.Place actor (moves.Written name) base cells) s a r c) [ inl k ↦ h.at r k | inr k ↦ absurd (k.1) ]
stored_after p s a t h r c = elim (counts_before p s a r c) [ inl k ↦ h.at r k | inr k ↦ absurd (k.1) ]

pub lists_stored : (p : Step) (s : Parts) → Allows p s → HasTmps (tmps_of s.disk) s.written → Has s → HasListFiles (lists_of (after p s).disk) (after p s).lists (after p s).plain.tables (after p s).plans
lists_stored p s a t h = record { at = λ r c. stored_after p s a t h r (subst (λ m. Counts m (plans_by p s.plans) r) (tables_after p s) c) }
