-- A change of tables leaves the cells and numbers of the regions that were there.
use Rattle.std.proofs.Common.{◌≡◌, ℕ, ◌||◌, true, false, List, [], ◌∷◌, Option, Some, refl, sym, subst, inl, inr}
use Rattle.std.specs.Prelude.{map}
use Rattle.std.specs.List.{list_any}
use Rattle.hb_records.specs.declared.region_info.RegionInfo.{RegionInfo}
use Rattle.plain_model.specs.declared.event.Event.{Event}
use Rattle.plain_model.specs.declared.event.Event.TheVariants as event
use Rattle.plain_model.specs.declared.job.Job.{Job}
use Rattle.plain_model.specs.declared.job.Job.TheVariants as jobs
use Rattle.plain_model.specs.declared.region_key.RegionKey.{RegionKey}
use Rattle.plain_model.specs.Keys.{key_of, same_key}
use Rattle.plain_model.specs.Laws.{LeavesRegion, named, is_stop}
use Rattle.plain_model.specs.LiveEvents.{noted_on}
use Rattle.plain_model.proofs.PlainLaws.{leaves_others}
use Rattle.cell_sight.specs.Member.{Member}
use Rattle.core_model.specs.Actors.{IsRegion}
use Rattle.core_model.specs.SetGuards.{IsChange}
use Rattle.core_model.specs.Sound.{IsSound}
use Rattle.core_model.specs.State.{Parts}
use Rattle.core_model.specs.TableChanges.{added_by}
use Rattle.core_sound.proofs.NeverAgain.{added-planned}
use Rattle.core_sound.proofs.Tests.{same_key-true}

none_of : (q : RegionKey) (is : List RegionInfo) → ((i : RegionInfo) → Member i is → key_of i ≡ q → ⊥) → list_any (same_key q) (map key_of is) ≡ false
none_of q [] n = refl
none_of q (i ∷ is) n = (elim (same_key q (key_of i)) as (λ b. same_key q (key_of i) ≡ b → (b || list_any (same_key q) (map key_of is)) ≡ false) [
  | true ↦ λ d. absurd (n i (inl refl) (sym (same_key-true q (key_of i) d)))
  | false ↦ λ d. none_of q is (λ j m. n j (inr m))
]) refl

-- a change of tables sets cells and numbers of the regions alone that it adds
change_named : (job : Option Job) (change : Event) (table : List ℕ) (a : ℕ) (s : Parts) (q : RegionKey) → IsChange job change table a s → ((i : RegionInfo) → Member i (added_by change) → key_of i ≡ q → ⊥) → list_any (same_key q) (named change) ≡ false
change_named (Some (jobs.Create t fs n ks)) (event.Create schema regions) table a s q z k = none_of q regions k
change_named (Some (jobs.Split t row)) (event.Split u parent low high) table a s q z k = none_of q (low ∷ high ∷ []) k
change_named (Some (jobs.Clone name t)) (event.Clone c u regions) table a s q z k = none_of q regions k
change_named (Some (jobs.Restore name)) (event.Restore c regions) table a s q z k = none_of q regions k
change_named (Some (jobs.Enable t)) (event.Enable u) table a s q z k = refl
change_named (Some (jobs.Disable t)) (event.Disable u) table a s q z k = refl
change_named (Some (jobs.Drop t)) (event.Drop u) table a s q z k = refl
change_named (Some jobs.Janitor) (event.Remove t rs) table a s q z k = refl
change_named _ _ table a s q z k = absurd z

change_stop : (job : Option Job) (change : Event) (table : List ℕ) (a : ℕ) (s : Parts) → IsChange job change table a s → is_stop change ≡ false
change_stop job event.Stop table a s z = absurd (no_stop job z)
  where
    no_stop : (job : Option Job) → IsChange job event.Stop table a s → ⊥
    no_stop (Some (jobs.Create t fs n ks)) z = z
    no_stop (Some jobs.Janitor) z = z
    no_stop _ z = z
change_stop job _ table a s z = refl

pub stays_alike : (job : Option Job) (change : Event) (table : List ℕ) (a : ℕ) (s : Parts) (q : RegionKey) → IsChange job change table a s → IsSound s → IsRegion s.plain.tables q → LeavesRegion change s.plain q
stays_alike job change table a s q z h i = leaves_others change s.plain q (change_stop job change table a s z)
    (change_named job change table a s q z (λ k m e. h.once.is_new a k (added-planned job change table a s k z m) (subst (IsRegion s.plain.tables) (sym e) i)))

pub change_noted : (job : Option Job) (change : Event) (table : List ℕ) (a : ℕ) (s : Parts) → IsChange job change table a s → noted_on change s.plain.stable s.plain.noted ≡ s.plain.noted
change_noted (Some (jobs.Create t fs n ks)) (event.Create schema regions) table a s z = refl
change_noted (Some (jobs.Split t row)) (event.Split u parent low high) table a s z = refl
change_noted (Some (jobs.Clone name t)) (event.Clone c u regions) table a s z = refl
change_noted (Some (jobs.Restore name)) (event.Restore c regions) table a s z = refl
change_noted (Some (jobs.Enable t)) (event.Enable u) table a s z = refl
change_noted (Some (jobs.Disable t)) (event.Disable u) table a s z = refl
change_noted (Some (jobs.Drop t)) (event.Drop u) table a s z = refl
change_noted (Some jobs.Janitor) (event.Remove t rs) table a s z = refl
change_noted _ _ table a s z = absurd z
