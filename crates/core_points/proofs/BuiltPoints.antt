-- Each step keeps that the files in the directories of regions that are being built are those of planned entries.
use Rattle.std.proofs.Common.{◌≡◌, ℕ, ◌==◌, true, false, cond, List, ◌++◌, Some, refl, sym, ap, ◌∙◌, subst}
use Rattle.cell_sight.specs.Member.{Member}
use Rattle.hb_layout.specs.declared.base.Base.{Base}
use Rattle.hb_records.specs.declared.region_info.RegionInfo.{RegionInfo}
use Rattle.ns_tree.specs.declared.file.FileState.{FileState}
use Rattle.plain_model.specs.declared.region_key.RegionKey.{RegionKey}
use Rattle.plain_model.specs.Keys.{key_of}
use Rattle.core_model.specs.declared.entry.Entry.{Entry}
use Rattle.core_model.specs.declared.entry.Entry.TheVariants as entries
use Rattle.core_model.specs.declared.plan.Plan.{Plan}
use Rattle.core_model.specs.declared.step.Started.TheVariants as started
use Rattle.core_model.specs.declared.step.Step.{Step}
use Rattle.core_model.specs.declared.step.Step.TheVariants as step
use Rattle.core_model.specs.ActorChanges.{plans_by}
use Rattle.core_model.specs.Actors.{IsRegion, IsToBuild, Plans}
use Rattle.core_model.specs.Allows.{Allows}
use Rattle.core_model.specs.Disk.{disk_after, live_of}
use Rattle.core_model.specs.Entries.{file_of, IsEntryIn}
use Rattle.core_model.specs.Keys.{home}
use Rattle.core_model.specs.Ops.{op_of}
use Rattle.core_model.specs.Sound.{IsSound}
use Rattle.core_model.specs.StartGuards.{by_directory, live_file}
use Rattle.core_model.specs.State.{Parts, no_plan}
use Rattle.core_sound.proofs.Lists.{member-front}
use Rattle.core_sound.proofs.Vacant.{drawn_free}
use Rattle.core_bytes.specs.FileOf.{IsPointer}
use Rattle.core_bytes.specs.Written.{WritesFile}
use Rattle.core_points.specs.Points.{IsOfPlan, BuiltPoint}
use Rattle.core_points.proofs.LiveFiles.{MakesAt, live_was}

-- ---- a file that a step makes

entry_made : (s : Parts) (actor : ℕ) (region : RegionKey) (entry : Entry) (bytes : List ℕ) (b : Base) → IsToBuild s.plans actor region → Plans s.plans actor region entry → IsEntryIn region entry → IsPointer entry bytes → b ≡ file_of region entry → IsSound s
    → (w : ℕ) (i : RegionInfo) → Member i (s.plans w).regions → home b ≡ key_of i → IsOfPlan (s.plans w) (key_of i) b bytes
entry_made s actor region entry bytes b t p n v e h w i m d =
    let r : region ≡ key_of i = sym (ap home e) ∙ d in
    let same : w ≡ actor = h.once.alone w actor i t.info m t.region (sym r ∙ sym t.key) in
    record {
      entry = entry;
      planned = subst (λ (x : ℕ). Member ((key_of i).region, entry) (s.plans x).entries) (sym same) (subst (λ (q : RegionKey). Member (q.region, entry) (s.plans actor).entries) r p);
      names = subst (λ (q : RegionKey). IsEntryIn q entry) r n;
      file = ap (λ (q : RegionKey). file_of q entry) (sym r) ∙ sym e;
      points = v;
    }

makes : (p : Step) (s : Parts) → Allows p s → WritesFile p → IsSound s → (w : ℕ) (i : RegionInfo) (b : Base) (bytes : List ℕ) → Member i (s.plans w).regions → home b ≡ key_of i → MakesAt p b bytes → IsOfPlan (s.plans w) (key_of i) b bytes
makes (step.Place actor from base cells) s a v h w i b bytes m d e = absurd (h.once.is_new w i m (subst (IsRegion s.plain.tables) (sym (ap home e) ∙ d) a.region))
makes (step.Link actor base region) s a v h w i b bytes m d e = entry_made s actor.0 region (entries.Link base) bytes b a.built a.planned a.names tt e h w i m d
makes (step.Half actor entry region written) s a v h w i b bytes m d e = entry_made s actor.0 region entry bytes b a.refer.built a.refer.planned a.refer.names (subst (IsPointer entry) (sym e.1) v) e.0 h w i m d
makes _ s a v h w i b bytes m d e = absurd e

-- ---- plans as they were

file_planned : (p : Step) (s : Parts) → Allows p s → WritesFile p → IsSound s → BuiltPoint s.plans (live_of s.disk) → (w : ℕ) (i : RegionInfo) (b : Base) (f : FileState) → Member i (s.plans w).regions → home b ≡ key_of i
    → live_of (disk_after (op_of p) s.disk) b ≡ Some f → IsOfPlan (s.plans w) (key_of i) b f.bytes
file_planned p s a v h k w i b f m d e = live_was (IsOfPlan (s.plans w) (key_of i) b) p s b f e (λ g j. k.at w i b g m d j) (makes p s a v h w i b f.bytes m d)

grown : (plan more : Plan) (r : RegionKey) (b : Base) (bytes : List ℕ) → ((e : Entry) → Member (r.region, e) plan.entries → Member (r.region, e) more.entries) → IsOfPlan plan r b bytes → IsOfPlan more r b bytes
grown plan more r b bytes g k = record { entry = k.entry; planned = g k.entry k.planned; names = k.names; file = k.file; points = k.points }

-- an actor's plan is freed
freed : (s : Parts) (a w : ℕ) (i : RegionInfo) (b : Base) (bytes : List ℕ) → (Member i (s.plans w).regions → IsOfPlan (s.plans w) (key_of i) b bytes) → Member i (cond (w == a) no_plan (s.plans w)).regions → IsOfPlan (cond (w == a) no_plan (s.plans w)) (key_of i) b bytes
freed s a w i b bytes k = elim (w == a) as (λ x. Member i (cond x no_plan (s.plans w)).regions → IsOfPlan (cond x no_plan (s.plans w)) (key_of i) b bytes) [ true ↦ λ m. absurd m | false ↦ k ]

-- ---- all steps

built_after : (p : Step) (s : Parts) → Allows p s → WritesFile p → IsSound s → BuiltPoint s.plans (live_of s.disk) → (w : ℕ) (i : RegionInfo) (b : Base) (f : FileState) → Member i (plans_by p s.plans w).regions → home b ≡ key_of i
    → live_of (disk_after (op_of p) s.disk) b ≡ Some f → IsOfPlan (plans_by p s.plans w) (key_of i) b f.bytes
built_after (step.Start who job (started.Live actor) drawn) s a v h k w i b f m d e =
    (elim (w == actor.0) as (λ x. Member i (cond x drawn.plan (s.plans w)).regions → IsOfPlan (cond x drawn.plan (s.plans w)) (key_of i) b f.bytes) [
      | true ↦ λ n. let c = drawn_free job actor drawn s a i (subst (Member i) (sym a.answered.1.regions) (subst (λ (u : Plan). Member i u.regions) a.answered.1.plan n)) in absurd (c.2 (by_directory i c.1 (live_file b f d e)))
      | false ↦ λ n. k.at w i b f n d e
    ]) m
built_after (step.CommitList actor region number name reason list cells more) s a v h k w i b f m d e =
    (elim (w == actor.0) as (λ x. (w == actor.0) ≡ x → Member i (cond x (record { regions = (s.plans actor.0).regions; entries = (s.plans actor.0).entries ++ more }) (s.plans w)).regions
    → IsOfPlan (cond x (record { regions = (s.plans actor.0).regions; entries = (s.plans actor.0).entries ++ more }) (s.plans w)) (key_of i) b f.bytes) [
      | true ↦ λ c n. grown (s.plans actor.0) _ (key_of i) b f.bytes (λ y z. member-front _ (s.plans actor.0).entries more z) (k.at actor.0 i b f n d e)
      | false ↦ λ c n. k.at w i b f n d e
    ]) refl m
built_after (step.CommitRegions actor table number name set change) s a v h k w i b f m d e = freed s actor.0 w i b f.bytes (λ n. k.at w i b f n d e) m
built_after (step.End actor refusal) s a v h k w i b f m d e = freed s actor.0 w i b f.bytes (λ n. k.at w i b f n d e) m
built_after (step.Abandon actor) s a v h k w i b f m d e = freed s actor.0 w i b f.bytes (λ n. k.at w i b f n d e) m
built_after p s a v h k w i b f m d e = file_planned p s a v h k w i b f m d e

pub points_built : (p : Step) (s : Parts) → Allows p s → WritesFile p → IsSound s → BuiltPoint s.plans (live_of s.disk) → BuiltPoint (plans_by p s.plans) (live_of (disk_after (op_of p) s.disk))
points_built p s a v h k = record { at = built_after p s a v h k }
