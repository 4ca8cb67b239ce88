-- The number that an event raises fits where the event can happen.
use Rattle.plain_model.specs.declared.event.Event.{Event}
use Rattle.plain_model.specs.declared.event.Event.TheVariants.{Put, Draw, Freeze, Flush, MajorStart, Major, Bulk, Capture, Complete, Delete, Create, Enable, Disable, Drop, Split, Clone, Restore, Remove, At, Stop}
use Rattle.plain_model.specs.Plain.{Plain}
use Rattle.plain_model.specs.CanHappen.{CanHappen}
use Rattle.plain_events.specs.State.{HasNumber}

pub numbers_fit : (e : Event) (s : Plain) → CanHappen e s → HasNumber e s
numbers_fit (Put k c) s h = h.2
numbers_fit (Draw k) s h = h.1
numbers_fit (Freeze k) s h = tt
numbers_fit (Flush k) s h = tt
numbers_fit (MajorStart a k) s h = tt
numbers_fit (Major a k) s h = tt
numbers_fit (Bulk k cells) s h = tt
numbers_fit (Capture a k) s h = tt
numbers_fit (Complete a) s h = tt
numbers_fit (Delete name) s h = tt
numbers_fit (Create schema regions) s h = tt
numbers_fit (Enable t) s h = tt
numbers_fit (Disable t) s h = tt
numbers_fit (Drop t) s h = tt
numbers_fit (Split t parent low high) s h = tt
numbers_fit (Clone name t regions) s h = tt
numbers_fit (Restore name regions) s h = tt
numbers_fit (Remove t regions) s h = tt
numbers_fit (At a job holds) s h = tt
numbers_fit Stop s h = tt
