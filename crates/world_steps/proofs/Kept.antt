-- What the type of a world keeps at one entry more.
use Rattle.std.proofs.Common.{◌≡◌, ℕ, Bool, true, false, List, [], ◌∷◌, ◌++◌, length, Option, Some, None, refl, sym, ap, subst, ◌∙◌, inl, inr}
use Rattle.std.specs.Prelude.{option_map}
use Rattle.ns_tree.specs.Step.{Write}
use Rattle.ns_tree.specs.Step as ns
use Rattle.ns_tree.specs.Tree.{Tree}
use Rattle.ns_tree.specs.declared.namespace.NsError.TheVariants.{Failed}
use Rattle.core_bytes.specs.Written.{Writes}
use Rattle.core_model.specs.declared.journal.JournalEntry.{JournalEntry}
use Rattle.core_model.specs.declared.opening.Opening.{Opening}
use Rattle.core_model.specs.declared.step.Step.{Step}
use Rattle.core_model.specs.Allows.{AllowsEntry}
use Rattle.core_model.specs.Disk.{Nothing}
use Rattle.core_model.specs.Ops.{op_of}
use Rattle.core_model.specs.Replay.{replay}
use Rattle.core_sites.specs.Calls.{call_of, tree_after, tree_with}
use Rattle.core_trees.specs.Trees.{HasNames, Trees, tree_by, tree_unless, trees_after}
use Rattle.world_steps.specs.World.{IsOpened, IsWorld, Tells, entry_of, tree_now, tree_other}
use Rattle.world_steps.specs.Writing.{IsMade, IsUnmade}
use Rattle.world_steps.proofs.Agree.{mapped, told_now, told_other}
use Rattle.world_steps.proofs.Journals.{lawful-push, trees-push}

-- all that one entry more needs but for the trees
pub record MayAdd (o : Opening) (es : List JournalEntry) (e : JournalEntry) : Type 0 where
  pub allowed : AllowsEntry (length es) e (replay o es)
  pub names : HasNames e.step
  pub writes : Writes e.step (replay o es).now

world_with : (told ms : Option Tree) (o : Opening) (es : List JournalEntry) (e : JournalEntry) → IsWorld told o es → MayAdd o es e → Tells ms o (es ++ e ∷ []) → IsWorld ms o (es ++ e ∷ [])
world_with told ms o es e w m t = record { opened = w.opened; lawful = lawful-push o es e w.lawful m.allowed m.names m.writes; tells = t }

moved : (ms : Option Tree) (o q : Opening) (gs fs : List JournalEntry) → q ≡ o → fs ≡ gs → IsWorld ms o gs → IsWorld ms q fs
moved ms o q gs fs e h w = subst (λ (x : Opening). IsWorld ms x fs) (sym e) (subst (IsWorld ms o) (sym h) w)

-- ---- nothing

pub world_same : (told ms : Option Tree) (o q : Opening) (es fs : List JournalEntry) → ms ≡ told → q ≡ o → fs ≡ es → IsWorld told o es → IsWorld ms q fs
world_same told ms o q es fs t e h w = moved ms o q es fs e h (subst (λ (x : Option Tree). IsWorld x o es) (sym t) w)

-- ---- a step that changes no file

silent : (p : Step) (tree : Tree) → op_of p ≡ Nothing → tree_by p tree ≡ tree
silent p tree e = ap (λ o. tree_after o tree) e

now_kept : (o : Opening) (es : List JournalEntry) (worker : ℕ) (p : Step) (b : Bool) → ((tree : Tree) → tree_unless b p tree ≡ tree) → tree_now o (es ++ entry_of worker p b ∷ []) ≡ tree_now o es
now_kept o es worker p b h =
    mapped (λ (tree : Tree). (trees_after tree (es ++ entry_of worker p b ∷ [])).now) (λ (tree : Tree). (trees_after tree es).now) o.tree
    (λ tree. ap (λ (t : Trees). t.now) (trees-push (record { now = tree; other = tree }) es (entry_of worker p b)) ∙ h (trees_after tree es).now)

other_kept : (o : Opening) (es : List JournalEntry) (worker : ℕ) (p : Step) (b : Bool) → op_of p ≡ Nothing → tree_other o (es ++ entry_of worker p b ∷ []) ≡ tree_other o es
other_kept o es worker p b h =
    mapped (λ (tree : Tree). (trees_after tree (es ++ entry_of worker p b ∷ [])).other) (λ (tree : Tree). (trees_after tree es).other) o.tree
    (λ tree. ap (λ (t : Trees). t.other) (trees-push (record { now = tree; other = tree }) es (entry_of worker p b)) ∙ silent p (trees_after tree es).other h)

pub world_noted : (told ms : Option Tree) (o q : Opening) (es fs : List JournalEntry) (worker : ℕ) (p : Step) → ms ≡ told → q ≡ o → fs ≡ es ++ entry_of worker p false ∷ []
    → IsWorld told o es → MayAdd o es (entry_of worker p false) → op_of p ≡ Nothing → IsWorld ms q fs
world_noted told ms o q es fs worker p t e h w m n =
    moved ms o q (es ++ entry_of worker p false ∷ []) fs e h (world_with told ms o es (entry_of worker p false) w m (elim w.tells [
      | inl k ↦ inl (t ∙ k ∙ sym (now_kept o es worker p false (λ tree. silent p tree n)))
      | inr k ↦ inr (t ∙ k ∙ sym (other_kept o es worker p false n))
    ]))

-- ---- a step that changes a file

mapped_twice : {A B C : Type 0} (f : B → C) (g : A → B) (h : A → C) (x : Option A) → ((a : A) → f (g a) ≡ h a) → option_map f (option_map g x) ≡ option_map h x
mapped_twice f g h None e = refl
mapped_twice f g h (Some a) e = ap Some (e a)

now_by : (o : Opening) (es : List JournalEntry) (worker : ℕ) (p : Step) (call : Write) → call_of (op_of p) ≡ Some call → option_map (ns.step call) (tree_now o es) ≡ tree_now o (es ++ entry_of worker p false ∷ [])
now_by o es worker p call c =
    mapped_twice (ns.step call) (λ (tree : Tree). (trees_after tree es).now) (λ (tree : Tree). (trees_after tree (es ++ entry_of worker p false ∷ [])).now) o.tree
    (λ tree. sym (ap (λ (t : Trees). t.now) (trees-push (record { now = tree; other = tree }) es (entry_of worker p false)) ∙ ap (λ x. tree_with x (trees_after tree es).now) c))

other_by : (o : Opening) (es : List JournalEntry) (worker : ℕ) (p : Step) (b : Bool) (call : Write) → call_of (op_of p) ≡ Some call → option_map (ns.step call) (tree_other o es) ≡ tree_other o (es ++ entry_of worker p b ∷ [])
other_by o es worker p b call c =
    mapped_twice (ns.step call) (λ (tree : Tree). (trees_after tree es).other) (λ (tree : Tree). (trees_after tree (es ++ entry_of worker p b ∷ [])).other) o.tree
    (λ tree. sym (ap (λ (t : Trees). t.other) (trees-push (record { now = tree; other = tree }) es (entry_of worker p b)) ∙ ap (λ x. tree_with x (trees_after tree es).other) c))

tells_done : (told ms : Option Tree) (o : Opening) (es : List JournalEntry) (worker : ℕ) (p : Step) (c : Option Write) → call_of (op_of p) ≡ c → told ≡ tree_now o es → IsMade c told ms → Tells ms o (es ++ entry_of worker p false ∷ [])
tells_done told ms o es worker p None c t d =
    inl (d ∙ t ∙ sym (now_kept o es worker p false (λ tree. ap (λ x. tree_with x tree) c)))
tells_done told ms o es worker p (Some call) c t d = inl (d.0 ∙ ap (option_map (ns.step call)) t ∙ now_by o es worker p call c)

pub world_done : (told ms : Option Tree) (o q : Opening) (es fs : List JournalEntry) (worker : ℕ) (p : Step) → q ≡ o → fs ≡ es ++ entry_of worker p false ∷ [] → (replay o es).closed ≡ None
    → IsWorld told o es → MayAdd o es (entry_of worker p false) → IsMade (call_of (op_of p)) told ms → IsWorld ms q fs
world_done told ms o q es fs worker p e h n w m d =
    moved ms o q (es ++ entry_of worker p false ∷ []) fs e h (world_with told ms o es (entry_of worker p false) w m (tells_done told ms o es worker p (call_of (op_of p)) refl (told_now told o es w.tells n) d))

tells_failed : (told ms : Option Tree) (o : Opening) (es : List JournalEntry) (worker : ℕ) (p : Step) (c : Option Write) → call_of (op_of p) ≡ c → told ≡ tree_now o es → (replay o es).closed ≡ None → IsUnmade c Failed told ms
    → Tells ms o (es ++ entry_of worker p true ∷ [])
tells_failed told ms o es worker p None c t n d = absurd d
tells_failed told ms o es worker p (Some call) c t n d = elim d [
  | inl k ↦ inl (k ∙ t ∙ sym (now_kept o es worker p true (λ tree. refl)))
  | inr k ↦ inr (k.0 ∙ ap (option_map (ns.step call)) (t ∙ told_other o es n) ∙ other_by o es worker p true call c)
]

pub world_failed : (told ms : Option Tree) (o q : Opening) (es fs : List JournalEntry) (worker : ℕ) (p : Step) → q ≡ o → fs ≡ es ++ entry_of worker p true ∷ [] → (replay o es).closed ≡ None
    → IsWorld told o es → MayAdd o es (entry_of worker p true) → IsUnmade (call_of (op_of p)) Failed told ms → IsWorld ms q fs
world_failed told ms o q es fs worker p e h n w m d =
    moved ms o q (es ++ entry_of worker p true ∷ []) fs e h (world_with told ms o es (entry_of worker p true) w m (tells_failed told ms o es worker p (call_of (op_of p)) refl (told_now told o es w.tells n) n d))

-- ---- an empty journal

pub world_begun : (told : Option Tree) (o q : Opening) (es : List JournalEntry) → q ≡ o → es ≡ [] → o.tree ≡ told → IsOpened o → IsWorld told q es
world_begun told o q es e h t i = moved told o q [] es e h (record {
  opened = i;
  lawful = record { allowed = tt; names = tt; writes = tt };
  tells = inl (sym t ∙ sym (same o.tree));
})
  where
    same : (x : Option Tree) → option_map (λ (tree : Tree). (trees_after tree []).now) x ≡ x
    same None = refl
    same (Some tree) = refl
