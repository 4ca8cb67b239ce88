-- Each step keeps that a region's list has its number.
use Rattle.std.proofs.Common.{◌≡◌, ◌≢◌, ℕ, true, false, cond, List, [], ◌∷◌, ◌++◌, Option, Some, None, refl, sym, ap, ◌∙◌, subst, inl, inr, arith}
use Rattle.std.specs.Prelude.{Ok}
use Rattle.std.specs.List.{AllByRecursion}
use Rattle.std.specs.FinMap.{get}
use Rattle.hb_records.specs.declared.region_info.RegionInfo.{RegionInfo}
use Rattle.plain_model.specs.declared.event.Event.{Event}
use Rattle.plain_model.specs.declared.event.Event.TheVariants as event
use Rattle.plain_model.specs.declared.hold.Hold.TheVariants as holds
use Rattle.plain_model.specs.declared.job.Job.{Job}
use Rattle.plain_model.specs.declared.job.Job.TheVariants as jobs
use Rattle.plain_model.specs.declared.parts.PlainSnapshot.{PlainSnapshot}
use Rattle.plain_model.specs.declared.parts.RegionCopy.{RegionCopy}
use Rattle.plain_model.specs.declared.region_key.RegionKey.{RegionKey}
use Rattle.plain_model.specs.After.{after_all}
use Rattle.plain_model.specs.CellEvents as cells
use Rattle.plain_model.specs.CellEvents.{each_with, numbers_by_key, greatest, kept_on}
use Rattle.plain_model.specs.Keys.{key_of, key_at, same_key, set_at, set_each}
use Rattle.plain_model.specs.LiveEvents.{job_of}
use Rattle.cell_sight.specs.Member.{Member}
use Rattle.core_model.specs.declared.entry.Entry.{Entry}
use Rattle.core_model.specs.declared.region_files.RegionFiles.{RegionFiles}
use Rattle.core_model.specs.declared.targets.MoveFrom.TheVariants as moves
use Rattle.core_model.specs.declared.targets.Why.TheVariants as why
use Rattle.core_model.specs.declared.step.Started.TheVariants as started
use Rattle.core_model.specs.declared.step.Step.{Step}
use Rattle.core_model.specs.declared.step.Step.TheVariants as step
use Rattle.core_model.specs.Actors.{HasHold, IsRegion}
use Rattle.core_model.specs.Allows.{Allows}
use Rattle.core_model.specs.Entries.{no_list}
use Rattle.core_model.specs.Events.{events_of}
use Rattle.core_model.specs.FileChanges.{lists_by}
use Rattle.core_model.specs.ListGuards.{HasNumber, number_of_copies, copies_of}
use Rattle.core_model.specs.Plans.{planned_for}
use Rattle.core_model.specs.Replay.{after}
use Rattle.core_model.specs.SetGuards.{IsChange, IsBuilt, built_by}
use Rattle.core_model.specs.Sound.{IsSound}
use Rattle.core_model.specs.State.{Parts}
use Rattle.core_model.specs.TableChanges.{tables_by, added_by}
use Rattle.core_sound.proofs.HoldsFound.{some_is}
use Rattle.core_sound.proofs.NeverAgain.{tables_after}
use Rattle.core_sound.proofs.RegionFacts.{region_was}
use Rattle.core_sound.proofs.Sources.{each-member}
use Rattle.core_sound.proofs.Tests.{same_key-true}
use Rattle.core_sound.proofs.Vacant.{each-cases, each-new, drawn_out, same_key-self}
use Rattle.core_contents.specs.ContentFacts.{HasKept}
use Rattle.core_contents.specs.Faithful.{IsFaithful}
use Rattle.core_contents.specs.PlanFacts.{IsPlan}
use Rattle.core_contents.proofs.ChangesLeave.{stays_alike}
use Rattle.core_contents.proofs.Tools.{set_at-each, set_at-both}

-- ---- a commit of a list

one_kept : (s : Parts) (r : RegionKey) (l : RegionFiles) (n : ℕ) → l.seq ≡ n → IsFaithful s → HasKept (set_at r l s.lists) s.plain.tables (set_at r n s.plain.kept)
one_kept s r l n e f = record { at = set_at-both (λ q (v : RegionFiles) (m : ℕ). IsRegion s.plain.tables q → v.seq ≡ m) s.lists s.plain.kept r l n f.kept.at (λ i. e) }

same_kept : (s : Parts) (r : RegionKey) (l : RegionFiles) → (IsRegion s.plain.tables r → l.seq ≡ s.plain.kept r) → IsFaithful s → HasKept (set_at r l s.lists) s.plain.tables s.plain.kept
same_kept s r l e f = record { at = set_at-each (λ q (v : RegionFiles). IsRegion s.plain.tables q → v.seq ≡ s.plain.kept q) s.lists r l f.kept.at e }

-- ---- a change of regions

one_number : (r k : RegionKey) → same_key k r ≡ same_key r k
one_number r k = (elim (same_key r k) as (λ b. same_key r k ≡ b → same_key k r ≡ b) [
  | true ↦ λ d. subst (λ x. same_key x r ≡ true) (same_key-true r k d) (same_key-self r)
  | false ↦ λ d. (elim (same_key k r) as (λ c. same_key k r ≡ c → c ≡ false) [
    | true ↦ λ e. (let z : true ≡ false = sym (subst (λ x. same_key x k ≡ true) (same_key-true k r e) (same_key-self k)) ∙ d in absurd (cc))
    | false ↦ λ e. refl
  ]) refl
]) refl

copied_number : (is : List RegionInfo) (cs : List RegionCopy) (kept : RegionKey → ℕ) (r : RegionKey) (n : ℕ) → number_of_copies is cs r ≡ Some n → set_each (numbers_by_key is cs) kept r ≡ n
copied_number [] cs kept r n e = absurd (cc)
copied_number (i ∷ is) [] kept r n e = absurd (cc)
copied_number (i ∷ is) (c ∷ cs) kept r n e = (elim (same_key r (key_of i)) as (λ b. same_key r (key_of i) ≡ b → cond b c.number (set_each (numbers_by_key is cs) kept r) ≡ n) [
  | true ↦ λ d. some_is (ap (λ b. cond b (Some c.number) (number_of_copies is cs r)) (sym (one_number r (key_of i) ∙ d)) ∙ e)
  | false ↦ λ d. copied_number is cs kept r n (ap (λ b. cond b (Some c.number) (number_of_copies is cs r)) (sym (one_number r (key_of i) ∙ d)) ∙ e)
]) refl

same_copies : (o : Option PlainSnapshot) → cells.copies_of o ≡ copies_of o
same_copies None = refl
same_copies (Some x) = refl

no_entries : (es : List Entry) → ((e : Entry) → Member e es → ⊥) → es ≡ []
no_entries [] f = refl
no_entries (e ∷ es) f = absurd (f e (inl refl))

-- a list of number 1 is not missing
has_list : (l : RegionFiles) → l.number ≡ 1 → l ≡ no_list → ⊥
has_list l e d = zero_one l.number (ap (λ (x : RegionFiles). x.number) d) e
  where
    zero_one : (n : ℕ) → n ≡ 0 → n ≡ 1 → ⊥
    zero_one n z e = grind (arith)

none_behind : (xs ys : List Entry) → xs ≡ xs ++ ys → ys ≡ []
none_behind [] ys e = sym e
none_behind (x ∷ xs) ys e = none_behind xs ys (tails e)
  where
    tails : {x y : Entry} {us vs : List Entry} → x ∷ us ≡ y ∷ vs → us ≡ vs
    tails e = (cc)

built_number : (s : Parts) (a : ℕ) (is : List RegionInfo) (i : RegionInfo) → IsFaithful s → AllByRecursion (IsBuilt a s) is → Member i is → Member i (s.plans a).regions → HasNumber (job_of s.plain.live a) (key_of i) a (s.lists (key_of i)).seq s
built_number s a is i f g m n = let k = each-member (IsBuilt a s) is i g m in
    elim (f.numbers.at a i n) [ inl d ↦ absurd (has_list (s.lists (key_of i)) k.number d) | inr d ↦ d.number (none_behind (s.lists (key_of i)).entries d.rest (k.entries ∙ d.first)) ]

some_regions : (is : List RegionInfo) (i : RegionInfo) → Member i is → is ≢ []
some_regions [] i m e = m
some_regions (j ∷ js) i m e = absurd (cc)

created_number : (s : Parts) (a : ℕ) (t : List ℕ) (fs : List (List ℕ)) (n : ℕ) (ks : List (List ℕ)) → job_of s.plain.live a ≡ Some (jobs.Create t fs n ks) → IsFaithful s → IsSound s → (i : RegionInfo) → Member i (s.plans a).regions → (s.lists (key_of i)).seq ≡ 0
created_number s a t fs n ks j f h i m =
    let none : (s.plans a).entries ≡ [] = subst (λ o. IsPlan o a (s.plans a) s.plain.live s.plain.tables s.snapshots s.lists) j (f.exact.at a (some_regions (s.plans a).regions i m)) in
    let empty : (s.lists (key_of i)).entries ≡ [] = no_entries (s.lists (key_of i)).entries (λ x k. subst (Member ((key_of i).region, x)) none (h.built.at a i x m k).1) in
    elim (f.numbers.at a i m) [
      | inl d ↦ ap (λ (l : RegionFiles). l.seq) d
      | inr d ↦ subst (λ o. HasNumber o (key_of i) a (s.lists (key_of i)).seq s) j (d.number (none_behind (s.lists (key_of i)).entries d.rest (empty ∙ sym (ap (λ es. planned_for es (key_of i)) none) ∙ d.first)))
    ]

-- the number of a region that a change adds
new_kept : (job : Option Job) (e : Event) (table : List ℕ) (a : ℕ) (s : Parts) (i : RegionInfo) → job_of s.plain.live a ≡ job → IsChange job e table a s → AllByRecursion (IsBuilt a s) (built_by e) → IsFaithful s → IsSound s → Member i (added_by e)
    → (s.lists (key_of i)).seq ≡ kept_on e s.plain.snapshots s.plain.mem s.plain.frozen s.plain.kept (key_of i)
new_kept (Some (jobs.Create t fs n ks)) (event.Create schema regions) table a s i j z g f h m = created_number s a t fs n ks j f h i (subst (Member i) z.2 m) ∙ sym (each-new 0 regions s.plain.kept i m)
new_kept (Some (jobs.Split t row)) (event.Split u parent low high) table a s i j z g f h m =
    subst (λ o. HasNumber o (key_of i) a (s.lists (key_of i)).seq s) j (built_number s a (low ∷ high ∷ []) i f g m (subst (Member i) z.3 m)) (key_at u parent) (subst (λ v. HasHold s.plain.live a (holds.Region (key_at v parent))) (sym z.1) z.2)
    ∙ sym (each-new (s.plain.kept (key_at u parent)) (low ∷ high ∷ []) s.plain.kept i m)
new_kept (Some (jobs.Clone name t)) (event.Clone c u regions) table a s i j z g f h m =
    sym (copied_number regions (cells.copies_of (get s.plain.snapshots c)) s.plain.kept (key_of i) (s.lists (key_of i)).seq
    (ap (λ cs. number_of_copies regions cs (key_of i)) (same_copies (get s.plain.snapshots c)) ∙ ap (λ v. number_of_copies regions (copies_of (get s.plain.snapshots v)) (key_of i)) z.2 ∙ ap (λ is. number_of_copies is (copies_of (get s.plain.snapshots name)) (key_of i)) z.3
    ∙ subst (λ o. HasNumber o (key_of i) a (s.lists (key_of i)).seq s) j (built_number s a regions i f g m (subst (Member i) z.3 m))))
new_kept (Some (jobs.Restore name)) (event.Restore c regions) table a s i j z g f h m =
    sym (copied_number regions (cells.copies_of (get s.plain.snapshots c)) s.plain.kept (key_of i) (s.lists (key_of i)).seq
    (ap (λ cs. number_of_copies regions cs (key_of i)) (same_copies (get s.plain.snapshots c)) ∙ ap (λ v. number_of_copies regions (copies_of (get s.plain.snapshots v)) (key_of i)) z.0 ∙ ap (λ is. number_of_copies is (copies_of (get s.plain.snapshots name)) (key_of i)) z.1
    ∙ subst (λ o. HasNumber o (key_of i) a (s.lists (key_of i)).seq s) j (built_number s a regions i f g m (subst (Member i) z.1 m))))
new_kept (Some (jobs.Enable t)) (event.Enable u) table a s i j z g f h m = absurd m
new_kept (Some (jobs.Disable t)) (event.Disable u) table a s i j z g f h m = absurd m
new_kept (Some (jobs.Drop t)) (event.Drop u) table a s i j z g f h m = absurd m
new_kept (Some jobs.Janitor) (event.Remove t rs) table a s i j z g f h m = absurd m
new_kept _ _ table a s i j z g f h m = absurd z

-- ---- all steps

kept_after : (p : Step) (s : Parts) → Allows p s → IsSound s → IsFaithful s → HasKept (lists_by p s.lists) (tables_by p s.plain.snapshots s.plain.tables) (after_all s.plain (events_of p)).kept
kept_after (step.CommitList actor region number name why.Flush list cells more) s a h f = one_kept s region list _ a.allowed.1.seq f
kept_after (step.CommitList actor region number name why.Capture list cells more) s a h f = one_kept s region list _ a.allowed.flushes.seq f
kept_after (step.CommitList actor region number name (why.Compact true) list cells more) s a h f = same_kept s region list (λ i. a.allowed.seq) f
kept_after (step.CommitList actor region number name (why.Compact false) list cells more) s a h f = same_kept s region list (λ i. a.allowed.seq) f
kept_after (step.CommitList actor region number name why.Bulk list cells more) s a h f = one_kept s region list _ (a.allowed.seq ∙ ap (greatest (s.plain.kept region)) (sym a.allowed.joins)) f
kept_after (step.CommitList actor region number name why.Build list cells more) s a h f = same_kept s region list (λ i. absurd (a.allowed.out i)) f
kept_after (step.CommitRegions actor table number name set change) s a h f = record {
  at = λ r i. elim (region_was change s.plain.snapshots s.plain.tables r i) [
    | inl k ↦ f.kept.at r k ∙ sym (stays_alike (job_of s.plain.live actor.0) change table actor.0 s r a.is_change h k).kept
    | inr k ↦ subst (λ q. (s.lists q).seq ≡ kept_on change s.plain.snapshots s.plain.mem s.plain.frozen s.plain.kept q) k.2 (new_kept (job_of s.plain.live actor.0) change table actor.0 s k.0 refl a.is_change a.built f h k.1)
  ];
}
kept_after (step.Start who job (started.Live actor) drawn) s a h f = record {
  at = λ r i. each-cases (λ (l : RegionFiles). l.seq ≡ s.plain.kept r) no_list drawn.regions s.lists r (λ j m k. absurd (drawn_out job actor drawn s a j m (subst (IsRegion s.plain.tables) (sym k) i))) (f.kept.at r i);
}
kept_after (step.PutCell who table put moment (Some joined)) s a h f = f.kept
kept_after (step.Place actor (moves.Written name) base cells) s a h f = f.kept
kept_after (step.Pin actor target (Ok region) true) s a h f = f.kept
kept_after _ s a h f = f.kept

pub kept_kept : (p : Step) (s : Parts) → Allows p s → IsSound s → IsFaithful s → HasKept (after p s).lists (after p s).plain.tables (after p s).plain.kept
kept_kept p s a h f = subst (λ t. HasKept (lists_by p s.lists) t (after_all s.plain (events_of p)).kept) (sym (tables_after p s)) (kept_after p s a h f)
