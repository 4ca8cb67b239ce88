-- What each step makes of the regions that are being built, and that their lists have only what is planned for them.
use Rattle.std.proofs.Common.{◌≡◌, ◌⊎◌, ℕ, ◌==◌, true, false, cond, List, [], ◌∷◌, ◌++◌, refl, sym, ◌∙◌, subst, inl, inr}
use Rattle.hb_cell.specs.declared.cell.Cell.{Cell}
use Rattle.hb_records.specs.declared.region_info.RegionInfo.{RegionInfo}
use Rattle.plain_model.specs.declared.region_key.RegionKey.{RegionKey}
use Rattle.hb_cell.specs.Order.{same_bytes}
use Rattle.plain_model.specs.Keys.{key_of, same_key}
use Rattle.core_model.specs.declared.entry.Entry.{Entry}
use Rattle.core_model.specs.declared.plan.Plan.{Plan}
use Rattle.core_model.specs.declared.region_files.RegionFiles.{RegionFiles}
use Rattle.core_model.specs.declared.targets.Why.{Why}
use Rattle.core_model.specs.declared.targets.Why.TheVariants as why
use Rattle.core_model.specs.declared.step.Started.TheVariants as started
use Rattle.core_model.specs.declared.step.Step.{Step}
use Rattle.core_model.specs.declared.step.Step.TheVariants as step
use Rattle.core_model.specs.ActorChanges.{plans_by}
use Rattle.core_model.specs.ActorFacts.{BuiltLists}
use Rattle.core_model.specs.Actors.{Counts, IsRegion, Plans}
use Rattle.core_model.specs.Allows.{Allows}
use Rattle.core_model.specs.Entries.{is_own, no_list}
use Rattle.core_model.specs.FileChanges.{lists_by}
use Rattle.cell_sight.specs.Member.{Member}
use Rattle.core_model.specs.ListGuards.{AllowsList, HasFile}
use Rattle.core_model.specs.Plans.{planned_for}
use Rattle.core_model.specs.Replay.{after}
use Rattle.core_model.specs.Sound.{IsSound}
use Rattle.core_model.specs.State.{Parts, no_plan}
use Rattle.core_model.specs.TableChanges.{tables_by}
use Rattle.core_sound.proofs.RegionFacts.{region_was}
use Rattle.core_sound.proofs.Lists.{member-front}
use Rattle.core_sound.proofs.NeverAgain.{added-planned}
use Rattle.core_sound.proofs.Sources.{each-member}
use Rattle.core_sound.proofs.Tests.{same_number, same_bytes-true, same_key-true}
use Rattle.core_sound.proofs.Vacant.{each-new, vacant-member}

-- ---- regions that are to be built

-- a start draws the region
abbrev pub Draws : Step → RegionInfo → Type 0
Draws (step.Start who job (started.Live actor) drawn) i = Member i drawn.regions
Draws _ i = ⊥

none_left : {P : Type 0} (s : Parts) (a w : ℕ) (i : RegionInfo) → Member i (cond (w == a) no_plan (s.plans w)).regions → Member i (s.plans w).regions ⊎ P
none_left {P = P} s a w i m = (elim (w == a) as (λ b. Member i (cond b no_plan (s.plans w)).regions → Member i (s.plans w).regions ⊎ P) [ true ↦ λ k. absurd k | false ↦ λ k. inl k ]) m

pub planned_before : (p : Step) (s : Parts) → Allows p s → (w : ℕ) (i : RegionInfo) → Member i (plans_by p s.plans w).regions → Member i (s.plans w).regions ⊎ Draws p i
planned_before (step.Start who job (started.Live actor) drawn) s a w i m = (elim (w == actor.0) as (λ b. Member i (cond b drawn.plan (s.plans w)).regions → Member i (s.plans w).regions ⊎ Member i drawn.regions) [
  | true ↦ λ k. inr (subst (Member i) (sym a.answered.1.regions) (subst (λ (v : Plan). Member i v.regions) a.answered.1.plan k))
  | false ↦ λ k. inl k
]) m
planned_before (step.CommitList actor region number name reason list cells planned) s a w i m =
    (elim (w == actor.0) as (λ b. (w == actor.0) ≡ b → Member i (cond b (record { regions = (s.plans actor.0).regions; entries = (s.plans actor.0).entries ++ planned }) (s.plans w)).regions → Member i (s.plans w).regions ⊎ ⊥) [
      | true ↦ λ d k. inl (subst (λ v. Member i (s.plans v).regions) (sym (same_number w actor.0 d)) k)
      | false ↦ λ d k. inl k
    ]) refl m
planned_before (step.CommitRegions actor table number name set change) s a w i m = none_left s actor.0 w i m
planned_before (step.End actor refusal) s a w i m = none_left s actor.0 w i m
planned_before (step.Abandon actor) s a w i m = none_left s actor.0 w i m
planned_before _ s a w i m = inl m

-- a region that counts after a step counted, or is drawn
pub counts_before : (p : Step) (s : Parts) → Allows p s → (r : RegionKey) → Counts (tables_by p s.plain.snapshots s.plain.tables) (plans_by p s.plans) r
    → Counts s.plain.tables s.plans r ⊎ ((i : RegionInfo) × Draws p i × (key_of i ≡ r))
counts_before (step.CommitRegions actor table number name set change) s a r (inl k) = elim (region_was change s.plain.snapshots s.plain.tables r k) [
  | inl i ↦ inl (inl i)
  | inr i ↦ inl (inr (record { actor = actor.0; info = i.0; region = added-planned _ change table actor.0 s i.0 a.is_change i.1; key = i.2 }))
]
counts_before p s a r (inr k) = elim (planned_before p s a k.actor k.info k.region) [
  | inl m ↦ inl (inr (record { actor = k.actor; info = k.info; region = m; key = k.key }))
  | inr m ↦ inr (k.info, m, k.key)
]
counts_before _ s a r (inl k) = inl (inl k)

-- ---- their lists

pub planned-member : (es : List (List ℕ × Entry)) (r : RegionKey) (e : Entry) → Member e (planned_for es r) → Member (r.region, e) es
planned-member [] r e m = absurd m
planned-member (x ∷ xs) r e m = (elim (same_bytes x.0 r.region) as (λ b. same_bytes x.0 r.region ≡ b → Member e (cond b (x.1 ∷ planned_for xs r) (planned_for xs r)) → Member (r.region, e) (x ∷ xs)) [
  | true ↦ λ d k. elim k [ inl j ↦ inl (λ i. (same_bytes-true x.0 r.region d i, j i)) | inr j ↦ inr (planned-member xs r e j) ]
  | false ↦ λ d k. inr (planned-member xs r e k)
]) refl m

built_list : (reason : Why) (a : ℕ) (r : RegionKey) (l : RegionFiles) (cells : List Cell) (more : List (List ℕ × Entry)) (s : Parts) → AllowsList reason a r l cells more s → IsSound s
    → (w : ℕ) (i : RegionInfo) (e : Entry) → Member i (s.plans w).regions → key_of i ≡ r → Member e l.entries → (is_own e ≡ false) × Plans s.plans w (key_of i) e
built_list why.Flush a r l cells more s g h w i e m k n = absurd (h.once.is_new w i m (subst (IsRegion s.plain.tables) (sym k) g.1.region))
built_list why.Capture a r l cells more s g h w i e m k n = absurd (h.once.is_new w i m (subst (IsRegion s.plain.tables) (sym k) g.flushes.region))
built_list (why.Compact major) a r l cells more s g h w i e m k n = absurd (h.once.is_new w i m (subst (IsRegion s.plain.tables) (sym k) g.region))
built_list why.Bulk a r l cells more s g h w i e m k n = absurd (h.once.is_new w i m (subst (IsRegion s.plain.tables) (sym k) (inl g.is_open)))
built_list why.Build a r l cells more s g h w i e m k n =
    let same : w ≡ a = h.once.alone w a i g.info m g.region (k ∙ sym g.key) in (
      (each-member (HasFile r s) l.entries e g.files n).refers,
      subst (λ v. Plans s.plans v (key_of i) e) (sym same) (subst (λ (q : RegionKey). Plans s.plans a q e) (sym k) (planned-member (s.plans a).entries r e (subst (Member e) g.entries n))),
    )

-- an actor's plan freed
unplanned_kept : (s : Parts) (a w : ℕ) (i : RegionInfo) (e : Entry) → (Member i (s.plans w).regions → Member e (s.lists (key_of i)).entries → (is_own e ≡ false) × Plans s.plans w (key_of i) e)
    → Member i (cond (w == a) no_plan (s.plans w)).regions → Member e (s.lists (key_of i)).entries → (is_own e ≡ false) × Member ((key_of i).region, e) (cond (w == a) no_plan (s.plans w)).entries
unplanned_kept s a w i e f m n = (elim (w == a) as (λ b. Member i (cond b no_plan (s.plans w)).regions → (is_own e ≡ false) × Member ((key_of i).region, e) (cond b no_plan (s.plans w)).entries) [ true ↦ λ k. absurd k | false ↦ λ k. f k n ]) m

built_after : (p : Step) (s : Parts) → Allows p s → IsSound s → (w : ℕ) (i : RegionInfo) (e : Entry) → Member i (plans_by p s.plans w).regions → Member e (lists_by p s.lists (key_of i)).entries
    → (is_own e ≡ false) × Plans (plans_by p s.plans) w (key_of i) e
built_after (step.Start who job (started.Live actor) drawn) s a h w i e m n =
    (elim (w == actor.0) as (λ b. Member i (cond b drawn.plan (s.plans w)).regions → (is_own e ≡ false) × Member ((key_of i).region, e) (cond b drawn.plan (s.plans w)).entries) [
      | true ↦ λ k. absurd (subst (λ (l : RegionFiles). Member e l.entries) (each-new no_list drawn.regions s.lists i (subst (Member i) (sym a.answered.1.regions) (subst (λ (v : Plan). Member i v.regions) a.answered.1.plan k))) n)
      | false ↦ λ k. h.built.at w i e k (vacant-member drawn.regions s.lists (key_of i) e n)
    ]) m
built_after (step.CommitList actor region number name reason list cells planned) s a h w i e m n =
    let v : Member i (s.plans w).regions ⊎ ⊥ = planned_before (step.CommitList actor region number name reason list cells planned) s a w i m in
    elim v [
      | inr z ↦ absurd z
      | inl x ↦ (let k : (is_own e ≡ false) × Plans s.plans w (key_of i) e = (elim (same_key (key_of i) region) as (λ b. same_key (key_of i) region ≡ b → Member e (cond b list (s.lists (key_of i))).entries → (is_own e ≡ false) × Plans s.plans w (key_of i) e) [
        | true ↦ λ d j. built_list reason actor.0 region list cells planned s a.allowed h w i e x (same_key-true (key_of i) region d) j
        | false ↦ λ d j. h.built.at w i e x j
      ]) refl n in (
        k.0,
        (elim (w == actor.0) as (λ b. (w == actor.0) ≡ b → Member ((key_of i).region, e) (cond b (record { regions = (s.plans actor.0).regions; entries = (s.plans actor.0).entries ++ planned }) (s.plans w)).entries) [
          | true ↦ λ d. member-front _ (s.plans actor.0).entries planned (subst (λ y. Plans s.plans y (key_of i) e) (same_number w actor.0 d) k.1)
          | false ↦ λ d. k.1
        ]) refl,
      ))
    ]
built_after (step.CommitRegions actor table number name set change) s a h w i e m n = unplanned_kept s actor.0 w i e (h.built.at w i e) m n
built_after (step.End actor refusal) s a h w i e m n = unplanned_kept s actor.0 w i e (h.built.at w i e) m n
built_after (step.Abandon actor) s a h w i e m n = unplanned_kept s actor.0 w i e (h.built.at w i e) m n
built_after _ s a h w i e m n = h.built.at w i e m n

pub built_kept : (p : Step) (s : Parts) → Allows p s → IsSound s → BuiltLists (after p s).plans (after p s).lists
built_kept p s a h = record { at = λ w i e m n. built_after p s a h w i e m n }
