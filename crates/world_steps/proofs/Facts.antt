-- What is known in a world of its actors, its names and its written files.
use Rattle.std.proofs.Common.{◌≡◌, ◌≤◌, ℕ, ◌+◌, Bool, true, false, List, [], ◌∷◌, length, Option, Some, None, refl, sym, ap, subst, ◌∙◌}
use Rattle.std.specs.Prelude.{option_map}
use Rattle.ns_tree.specs.declared.file.FileState.{FileState}
use Rattle.plain_model.specs.declared.parts.Live.{Live}
use Rattle.plain_model.specs.LiveEvents.{job_of, live_of}
use Rattle.core_bytes.specs.Written.{Writes}
use Rattle.core_model.specs.declared.journal.JournalEntry.{JournalEntry}
use Rattle.core_model.specs.declared.opening.Opening.{Opening}
use Rattle.core_model.specs.declared.plan.Plan.{Plan}
use Rattle.core_model.specs.declared.step.Step.{Step}
use Rattle.core_model.specs.Allows.{AllowsAll, AllowsEntry}
use Rattle.core_model.specs.Replay.{after, begun, replay, replay_from, unless}
use Rattle.core_model.specs.Replay as replay
use Rattle.core_model.specs.Site.{Tmp}
use Rattle.core_model.specs.State.{Parts, State, Written}
use Rattle.core_sound.proofs.HoldsFound.{actor_found}
use Rattle.core_sound.proofs.Journals.{few-begun}
use Rattle.core_sound.proofs.Unnamed.{few_from}
use Rattle.core_trees.specs.Trees.{HasNames}
use Rattle.world_state.specs.declared.at_work.AtWork.{AtWork}
use Rattle.world_state.specs.declared.written.WrittenFile.{WrittenFile}
use Rattle.world_state.specs.Held.{Held, parts_of}
use Rattle.world_state.specs.Parts.{brief, recorded}
use Rattle.world_state.specs.Works.{IsWork, live_in}
use Rattle.world_steps.specs.Commits.{change_at, change_by, set_at, set_in}
use Rattle.world_steps.specs.World.{Journaled, entry_of, state_at}
use Rattle.world_steps.proofs.Kept.{MayAdd}

-- ---- an entry that is allowed, seen in two ways

pub may_add : {N C : Type 0} (v w : Journaled N C) (worker : ℕ) (p : Step) (b : Bool) → v ≡ w → AllowsEntry (length w.entries) (entry_of worker p b) (state_at w) → HasNames p → Writes p (state_at w).now
    → MayAdd v.opening v.entries (entry_of worker p b)
may_add {N} {C} v w worker p b e a n x = subst (λ (u : Journaled N C). MayAdd u.opening u.entries (entry_of worker p b)) (sym e) (record { allowed = a; names = n; writes = x })

pub allowed_in : {N C : Type 0} (v w : Journaled N C) (q : Opening) (fs : List JournalEntry) (x : JournalEntry) → v ≡ w → q ≡ v.opening → fs ≡ v.entries → AllowsEntry (length w.entries) x (state_at w)
    → AllowsEntry (length fs) x (replay q fs)
allowed_in {N} {C} v w q fs x e o h a =
    let b : AllowsEntry (length v.entries) x (state_at v) = subst (λ (u : Journaled N C). AllowsEntry (length u.entries) x (state_at u)) (sym e) a in
    subst (λ (y : Opening). AllowsEntry (length fs) x (replay y fs)) (sym o) (subst (λ (gs : List JournalEntry). AllowsEntry (length gs) x (replay v.opening gs)) (sym h) b)

pub open_in : {N C : Type 0} (v w : Journaled N C) → v ≡ w → (state_at w).closed ≡ None → (state_at v).closed ≡ None
open_in {N} {C} v w e h = subst (λ (u : Journaled N C). (state_at u).closed ≡ None) (sym e) h

-- ---- actors

pub owner_is : {N C : Type 0} (v w : Journaled N C) (a : ℕ) (x : AtWork) → v ≡ w → Some (live_in x) ≡ live_of (state_at v).now.plain.live a
    → IsWork (state_at v).now.begun (state_at v).now.owners (state_at v).now.plans x → (state_at w).now.owners a ≡ Some x.worker
owner_is {N} {C} v w a x e l i =
    subst (λ (u : Journaled N C). (state_at u).now.owners a ≡ Some x.worker) e (ap (state_at v).now.owners (sym (actor_found (state_at v).now.plain.live a (live_in x) (sym l))) ∙ i.owner)

job_is : (o : Option Live) (x : Live) (plan : Plan) → Some x ≡ o → change_at (option_map (λ (l : Live). l.job) o) plan ≡ change_by x.job plan
job_is o x plan e = ap (λ (y : Option Live). change_at (option_map (λ (l : Live). l.job) y) plan) (sym e)

pub change_is : (s : Parts) (a : ℕ) (x : AtWork) → Some (live_in x) ≡ live_of s.plain.live a → IsWork s.begun s.owners s.plans x → change_by x.live.job x.plan ≡ change_at (job_of s.plain.live a) (s.plans a)
change_is s a x l i =
    let plan : s.plans a ≡ x.plan = ap s.plans (sym (actor_found s.plain.live a (live_in x) (sym l))) ∙ i.builds in
    sym (ap (change_at (job_of s.plain.live a)) plan ∙ job_is (live_of s.plain.live a) (live_in x) x.plan l)

-- ---- written files

brief_set : (x : WrittenFile) (w : Written) → Some x ≡ Some (brief w) → set_in x.recipe ≡ set_in w.recipe
brief_set x w e = let k : x ≡ brief w = cc in ap (λ (y : WrittenFile). set_in y.recipe) k

pub set_is : (d : Option FileState) (w : Option Written) (x : WrittenFile) → Some x ≡ recorded d w → set_in x.recipe ≡ set_at w
set_is None w x e = absurd (cc)
set_is (Some f) None x e = absurd (cc)
set_is (Some f) (Some w) x e = brief_set x w e

-- ---- what the core tells

pub state_in : {N C : Type 0} (h : Held) (w : Journaled N C) → h.opening ≡ w.opening → h.entries ≡ w.entries → replay h.opening h.entries ≡ state_at w
state_in h w o e = ap (λ (x : Opening). replay x h.entries) o ∙ ap (replay w.opening) e

pub set_here : {N C : Type 0} (h : Held) (w : Journaled N C) (name : List ℕ) (x : WrittenFile) → h.opening ≡ w.opening → h.entries ≡ w.entries → Some x ≡ recorded ((parts_of h).disk (Tmp name)) ((parts_of h).written name)
    → set_in x.recipe ≡ set_at ((state_at w).now.written name)
set_here h w name x o e k = set_is ((parts_of h).disk (Tmp name)) ((parts_of h).written name) x k ∙ ap (λ (s : State). set_at (s.now.written name)) (state_in h w o e)

pub change_here : {N C : Type 0} (h : Held) (w : Journaled N C) (a : ℕ) (x : AtWork) → h.opening ≡ w.opening → h.entries ≡ w.entries → Some (live_in x) ≡ live_of (parts_of h).plain.live a
    → IsWork (parts_of h).begun (parts_of h).owners (parts_of h).plans x → change_by x.live.job x.plan ≡ change_at (job_of (state_at w).now.plain.live a) ((state_at w).now.plans a)
change_here h w a x o e l i = change_is (parts_of h) a x l i ∙ ap (λ (s : State). change_at (job_of s.now.plain.live a) (s.now.plans a)) (state_in h w o e)

-- ---- names

pub few_drawn : (o : Opening) (es : List JournalEntry) → AllowsAll o es → (replay o es).now.files ≤ 4_194_304
unfolding replay
few_drawn o es a = (few_from 0 es (begun o) a (few-begun o)).now_limit

epoch_unless : (b : Bool) (p : Step) (s : Parts) → (unless b (after p) s).epoch ≡ s.epoch
epoch_unless true p s = refl
epoch_unless false p s = refl

epoch_from : (n : ℕ) (es : List JournalEntry) (s : State) → (replay_from n s es).now.epoch ≡ s.now.epoch
epoch_from n [] s = refl
epoch_from n (x ∷ es) s = epoch_from (n + 1) es (replay.step n s x) ∙ epoch_unless x.failed x.step s.now

pub epoch_is : (o : Opening) (es : List JournalEntry) → (replay o es).now.epoch ≡ o.epoch
unfolding replay
epoch_is o es = epoch_from 0 es (begun o)
