-- The trees that a journal leads to.
use Rattle.std.specs.Prelude.{◌≡◌, ℕ, Bool, true, false, List, [], ◌∷◌, Option, Some}
use Rattle.std.specs.FinMap.{contains_key}
use Rattle.hb_names.specs.SnapName.{IsSnapName}
use Rattle.hb_names.specs.TableName.{IsTableName}
use Rattle.ns_tree.specs.Step.{Write}
use Rattle.ns_tree.specs.Tree.{Tree, IsTree}
use Rattle.core_model.specs.declared.journal.JournalEntry.{JournalEntry}
use Rattle.core_model.specs.declared.opening.Opening.{Opening}
use Rattle.core_model.specs.declared.step.Step.{Step}
use Rattle.core_model.specs.declared.step.Step.TheVariants as step
use Rattle.core_model.specs.Entries.{IsKey}
use Rattle.core_model.specs.Opened.{opened}
use Rattle.core_model.specs.Ops.{op_of}
use Rattle.core_model.specs.Sound.{IsSound}
use Rattle.core_model.specs.State.{State}
use Rattle.core_sites.specs.Calls.{call_of, tree_after}
use Rattle.core_sites.specs.Shows.{HasSite, Shows}
use Rattle.core_trees.specs.Filed.{IsFiled}

-- what the types of a step's fields keep: these names are in their grammars
abbrev pub HasNames : Step → Type 0
HasNames (step.CommitList actor region number name why list cells planned) = IsKey region
HasNames (step.CommitRegions actor table number name set change) = IsTableName table
HasNames (step.BackRef actor base region) = IsKey region
HasNames (step.Link actor base region) = IsKey region
HasNames (step.Half actor entry region bytes) = IsKey region
HasNames (step.Manifest actor part snapshot moment bytes) = IsSnapName snapshot
HasNames (step.Complete actor snapshot copied) = IsSnapName snapshot
HasNames (step.Uncomplete actor snapshot) = IsSnapName snapshot
HasNames _ = Unit {0}

abbrev pub HaveNames : List JournalEntry → Type 0
HaveNames [] = Unit {0}
HaveNames (e ∷ es) = HasNames e.step × HaveNames es

-- the call of a store that a step makes, if it makes one, and the tree that it leaves
abbrev pub call_by : Step → Option Write
call_by p = call_of (op_of p)

abbrev pub tree_by : Step → Tree → Tree
tree_by p tree = tree_after (op_of p) tree

-- a store's tree, and what it would be with the operation of a failed entry done too
pub record Trees : Type 0 where
  pub now : Tree
  pub other : Tree

abbrev pub tree_unless : Bool → Step → Tree → Tree
tree_unless true p tree = tree
tree_unless false p tree = tree_by p tree

abbrev pub trees_by : JournalEntry → Trees → Trees
trees_by e t = record { now = tree_unless e.failed e.step t.now; other = tree_by e.step t.other }

abbrev pub trees_from : Trees → List JournalEntry → Trees
trees_from t [] = t
trees_from t (e ∷ es) = trees_from (trees_by e t) es

-- those after some entries, from the tree of an opening on
abbrev pub trees_after : Tree → List JournalEntry → Trees
trees_after tree es = trees_from (record { now = tree; other = tree }) es

-- each tree shows what its state has
pub record AreShown (t : Trees) (s : State) : Type 0 where
  pub now : Shows t.now s.now.disk
  pub other : Shows t.other s.other.disk

-- an opening of a store that tells this tree
pub record BeginsWith (o : Opening) (tree : Tree) : Type 0 where
  pub told : o.tree ≡ Some tree
  pub files : IsTree tree
  pub sites : (place : List ℕ) → contains_key tree place ≡ true → HasSite place
  pub sound : IsSound (opened o)
  pub filed : IsFiled (opened o)
