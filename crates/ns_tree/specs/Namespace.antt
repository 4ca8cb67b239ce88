-- What the calls of a store answer and leave, over the tree that it tells before and after.
use Rattle.std.specs.Prelude.{◌≡◌, ◌⊎◌, ℕ, List, Option, Some, None, Bool, true, false, option_map, IfSome, take, drop, length}
use Rattle.ns_tree.specs.declared.file.FileState.{FileState}
use Rattle.ns_tree.specs.declared.file.Stat.{Stat}
use Rattle.ns_tree.specs.declared.namespace.NsError.{NsError}
use Rattle.ns_tree.specs.declared.namespace.NsError.TheVariants.{Missing, Inside, Exists, BelowFile, Failed, NoMemory}
use Rattle.ns_tree.specs.Tree.{Tree}
use Rattle.ns_tree.specs.Step.{Write, step, refusal}

-- a writing call is done: the tree is as the call leaves it, and nothing refused the call
abbrev pub IsDone : Write → Option Tree → Option Tree → Type 0
IsDone call old new = (new ≡ option_map (step call) old) × IfSome old (λ tree. refusal call tree ≡ None)

-- a writing call is not done: for that cause, with the tree as before; or the store failed, and the tree is as before or as
-- the whole call leaves it; or memory was lacking, with the tree as before
abbrev pub IsRefused : Write → NsError → Option Tree → Option Tree → Type 0
IsRefused call Failed old new = (new ≡ old) ⊎ IsDone call old new
IsRefused call NoMemory old new = new ≡ old
IsRefused call Missing old new = (new ≡ old) × IfSome old (λ tree. refusal call tree ≡ Some Missing)
IsRefused call Inside old new = (new ≡ old) × IfSome old (λ tree. refusal call tree ≡ Some Inside)
IsRefused call Exists old new = (new ≡ old) × IfSome old (λ tree. refusal call tree ≡ Some Exists)
IsRefused call BelowFile old new = (new ≡ old) × IfSome old (λ tree. refusal call tree ≡ Some BelowFile)

-- whether it may be answered to a call on a file that is to be there
abbrev pub is_change_error : NsError → Bool
is_change_error Missing = true
is_change_error Inside = false
is_change_error Exists = false
is_change_error BelowFile = false
is_change_error Failed = true
is_change_error NoMemory = true

-- whether it may be answered to a create
abbrev pub is_create_error : NsError → Bool
is_create_error Missing = false
is_create_error Inside = false
is_create_error Exists = true
is_create_error BelowFile = true
is_create_error Failed = true
is_create_error NoMemory = true

-- the bytes of a file from a position on, at most so many: fewer only at the file's end
abbrev pub bytes_at : ℕ → ℕ → FileState → List ℕ
bytes_at at len file = take len (drop at file.bytes)

-- the size and the moment of a file
abbrev pub stat_of : FileState → Stat
stat_of file = record { size = length file.bytes; moment = file.moment }
