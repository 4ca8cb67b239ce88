-- A store that tells its tree refuses no allowed step.
use Rattle.std.proofs.Common.{◌≡◌, ℕ, Bool, List, [], Option, Some, None, IfSome, refl, sym, ap, subst, ◌∙◌}
use Rattle.std.specs.Prelude.{option_map}
use Rattle.ns_tree.specs.Namespace.{IsRefused}
use Rattle.ns_tree.specs.Step.{Write, refusal}
use Rattle.ns_tree.specs.Tree.{Tree}
use Rattle.ns_tree.specs.declared.namespace.NsError.{NsError}
use Rattle.ns_tree.specs.declared.namespace.NsError.TheVariants.{BelowFile, Exists, Failed, Inside, Missing, NoMemory}
use Rattle.core_model.specs.declared.journal.JournalEntry.{JournalEntry}
use Rattle.core_model.specs.declared.opening.Opening.{Opening}
use Rattle.core_model.specs.declared.step.Step.{Step}
use Rattle.core_model.specs.Ops.{op_of}
use Rattle.core_model.specs.Replay.{replay}
use Rattle.core_sites.specs.Calls.{IsAccepted, call_of}
use Rattle.core_trees.specs.Trees.{BeginsWith, trees_after}
use Rattle.core_trees.proofs.Shown.{journal_accepted}
use Rattle.world_steps.specs.World.{IsWorld, entry_of, tree_now}
use Rattle.world_steps.specs.declared.writing.Unmade.TheVariants.{Wrong}
use Rattle.world_steps.specs.declared.writing.Unmade.TheVariants as unmade
use Rattle.world_steps.specs.Writing.{IsUnmade, unmade_by}
use Rattle.world_steps.proofs.Agree.{told_now}
use Rattle.world_steps.proofs.Journals.{lawful-push}
use Rattle.world_steps.proofs.Kept.{MayAdd}

-- ---- an answer that is no fault and no want of memory

answered : (call : Write) (error : NsError) (old new : Option Tree) → Wrong ≡ unmade_by error → IsRefused call error old new → (new ≡ old) × IfSome old (λ tree. refusal call tree ≡ Some error)
answered call Failed old new a r = absurd (cc)
answered call NoMemory old new a r = absurd (cc)
answered call Missing old new a r = r
answered call Inside old new a r = r
answered call Exists old new a r = r
answered call BelowFile old new a r = r

pub is_fault : (error : NsError) → unmade.Failed ≡ unmade_by error → error ≡ Failed
is_fault Failed e = refl
is_fault NoMemory e = absurd (cc)
is_fault Missing e = absurd (cc)
is_fault Inside e = absurd (cc)
is_fault Exists e = absurd (cc)
is_fault BelowFile e = absurd (cc)

pub is_want : (error : NsError) → unmade.NoMemory ≡ unmade_by error → error ≡ NoMemory
is_want Failed e = absurd (cc)
is_want NoMemory e = refl
is_want Missing e = absurd (cc)
is_want Inside e = absurd (cc)
is_want Exists e = absurd (cc)
is_want BelowFile e = absurd (cc)

pub unmade_same : (c : Option Write) (error : NsError) (old new : Option Tree) → Wrong ≡ unmade_by error → IsUnmade c error old new → new ≡ old
unmade_same None error old new a u = absurd u
unmade_same (Some call) error old new a u = (answered call error old new a u).0

unmade_none : (c : Option Write) (old new : Option Tree) → IsUnmade c NoMemory old new → new ≡ old
unmade_none None old new u = absurd u
unmade_none (Some call) old new u = u

pub unmade_want : (c : Option Write) (error : NsError) (old new : Option Tree) → unmade.NoMemory ≡ unmade_by error → IsUnmade c error old new → new ≡ old
unmade_want c error old new e u = unmade_none c old new (subst (λ x. IsUnmade c x old new) (is_want error e) u)

-- ---- only a store that tells nothing gives one

refused : (c : Option Write) (error : NsError) (tree : Tree) (old new : Option Tree) → Wrong ≡ unmade_by error → old ≡ Some tree → IsUnmade c error old new → IsAccepted c tree → ⊥
refused None error tree old new a e u i = u
refused (Some call) error tree old new a e u i =
    let r : refusal call tree ≡ Some error = subst (λ (x : Option Tree). IfSome x (λ t. refusal call t ≡ Some error)) e (answered call error old new a u).1 in
    let z : None ≡ Some error = sym i ∙ r in cc

untold_by : (told ms : Option Tree) (o : Opening) (es : List JournalEntry) (worker : ℕ) (p : Step) (b : Bool) (error : NsError) (x : Option Tree) → o.tree ≡ x → Wrong ≡ unmade_by error → IsWorld told o es → MayAdd o es (entry_of worker p b)
    → told ≡ tree_now o es → IsUnmade (call_of (op_of p)) error told ms → told ≡ None
untold_by told ms o es worker p b error None e a w m t u = t ∙ ap (λ x. option_map (λ (tree : Tree). (trees_after tree es).now) x) e
untold_by told ms o es worker p b error (Some tree) e a w m t u =
    let begins : BeginsWith o tree = subst (λ (x : Option Tree). IfSome x (BeginsWith o)) e w.opened.told in
    let more = lawful-push o es (entry_of worker p b) w.lawful m.allowed m.names m.writes in
    let tells : told ≡ Some (trees_after tree es).now = t ∙ ap (λ x. option_map (λ (tree : Tree). (trees_after tree es).now) x) e in
    absurd (refused (call_of (op_of p)) error (trees_after tree es).now told ms a tells u (journal_accepted o tree es (entry_of worker p b) [] begins more.names more.allowed))

pub untold : (told ms : Option Tree) (o : Opening) (es : List JournalEntry) (worker : ℕ) (p : Step) (b : Bool) (error : NsError) → Wrong ≡ unmade_by error → IsWorld told o es → (replay o es).closed ≡ None → MayAdd o es (entry_of worker p b)
    → IsUnmade (call_of (op_of p)) error told ms → told ≡ None
untold told ms o es worker p b error a w n m u = untold_by told ms o es worker p b error o.tree refl a w m (told_now told o es w.tells n) u
