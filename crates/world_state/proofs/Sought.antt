-- The activity of a number, beside what the state has of it.
use Rattle.std.proofs.Common.{◌≡◌, ℕ, ◌==◌, Bool, true, false, cond, List, [], ◌∷◌, map, Option, Some, IfSome, refl}
use Rattle.std.specs.Prelude.{option_map}
use Rattle.std.specs.List.{AllByRecursion}
use Rattle.plain_model.specs.declared.parts.Live.{Live}
use Rattle.plain_model.specs.LiveEvents.{live_of}
use Rattle.world_state.specs.declared.at_work.AtWork.{AtWork}
use Rattle.world_state.specs.Parts.{work_of}
use Rattle.world_state.specs.Works.{live_in}

live-cond : (b : Bool) (w : AtWork) (o : Option AtWork) (k : Option Live) → option_map live_in o ≡ k → option_map live_in (cond b (Some w) o) ≡ cond b (Some (live_in w)) k
live-cond true w o k h = refl
live-cond false w o k h = h

pub work-live : (ws : List AtWork) (a : ℕ) → option_map live_in (work_of ws a) ≡ live_of (map live_in ws) a
work-live [] a = refl
work-live (w ∷ ws) a = live-cond (w.live.actor.0 == a) w (work_of ws a) (live_of (map live_in ws) a) (work-live ws a)

is_one : (P : AtWork → Type 0) (b : Bool) (w : AtWork) (o : Option AtWork) → P w → IfSome o P → IfSome (cond b (Some w) o) P
is_one P true w o p h = p
is_one P false w o p h = h

pub work-is : (P : AtWork → Type 0) (ws : List AtWork) (a : ℕ) → AllByRecursion P ws → IfSome (work_of ws a) P
work-is P [] a h = tt
work-is P (w ∷ ws) a h = is_one P (w.live.actor.0 == a) w (work_of ws a) h.0 (work-is P ws a h.1)
