-- What a cleaner's pass may read and delete.
use Rattle.std.specs.Prelude.{◌≡◌, ℕ, ◌+◌, ◌<◌, true, false, List, [], ◌∷◌, Option, Some, None}
use Rattle.hb_layout.specs.declared.base.Base.{Base}
use Rattle.core_model.specs.Site.{Archived}
use Rattle.ns_tree.specs.declared.file.FileState.{FileState}
use Rattle.plain_model.specs.declared.region_key.RegionKey.{RegionKey}
use Rattle.core_model.specs.declared.entry.Entry.{Entry}
use Rattle.core_model.specs.Disk.{Bases, live_of, backs_of}
use Rattle.core_model.specs.Entries.{base_of, file_of, is_own, IsKey, IsBase, IsEntryIn}
use Rattle.core_model.specs.Actors.{IsLive, Builds}
use Rattle.core_model.specs.State.{Parts, Pass}

-- the snapshot that a pass reads next: the least that is left
abbrev pub next_of : List (List ℕ) → Option (List ℕ)
next_of [] = None
next_of (name ∷ names) = Some name

abbrev pub pass_next : Option Pass → Option (List ℕ)
pass_next None = None
pass_next (Some p) = next_of p.unread

-- the pass is open, and the actor's
pub record HasPass (pass : Option Pass) (a : ℕ) : Type 0 where
  pub is : Pass
  pub stands : pass ≡ Some is
  pub own : is.actor ≡ a

-- an archived file is older than the time to live
pub record IsExpired (ttl moment : ℕ) (f : FileState) : Type 0 where
  pub old : f.moment + ttl < moment

pub record CanPassRead (a : ℕ) (name : List ℕ) (s : Parts) : Type 0 where
  pub live : IsLive s.plain.live a
  pub pass : HasPass s.pass a
  pub next : pass_next s.pass ≡ Some name

-- no link or half file of the base stands in the region
abbrev pub HasNoLink : Bases → Base → RegionKey → Type 0
HasNoLink live b r = (e : Entry) → IsEntryIn r e → is_own e ≡ false → base_of e ≡ b → live (file_of r e) ≡ None

pub record CanCleanBackRef (a : ℕ) (b : Base) (r : RegionKey) (s : Parts) : Type 0 where
  pub live : IsLive s.plain.live a
  pub pass : HasPass s.pass a
  pub file : FileState
  pub archived : s.disk (Archived b) ≡ Some file
  pub expired : s.told ≡ true → IsExpired s.ttl pass.is.moment file
  pub key : IsKey r
  pub names : IsBase b
  pub back : FileState
  pub stands : backs_of s.disk b r ≡ Some back
  pub stale : HasNoLink (live_of s.disk) b r
  pub unbuilt : Builds s.plans r b → ⊥

pub record CanDeleteArchived (a : ℕ) (b : Base) (s : Parts) : Type 0 where
  pub live : IsLive s.plain.live a
  pub pass : HasPass s.pass a
  pub file : FileState
  pub archived : s.disk (Archived b) ≡ Some file
  pub expired : s.told ≡ true → IsExpired s.ttl pass.is.moment file
  -- every snapshot is read, and none of those read has the base
  pub all_read : pass.is.unread ≡ []
  pub unread : pass.is.read b ≡ false
  pub no_back : (r : RegionKey) → backs_of s.disk b r ≡ None
  pub untouched : pass.is.touched b ≡ false
