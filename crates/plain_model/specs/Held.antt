-- Who is in the way of a start.
use Rattle.std.specs.Prelude.{ℕ, Bool, false, nat_lt, List, [], ◌∷◌, find, Option, Some, None, option_map, option_and_then, if◌then◌else◌}
use Rattle.std.specs.List.{list_any}
use Rattle.plain_model.specs.declared.hold.Hold.{Hold}
use Rattle.plain_model.specs.declared.who.Actor.{Actor}
use Rattle.plain_model.specs.declared.hold.Hold.TheVariants.{Table, Region}
use Rattle.plain_model.specs.declared.region_key.RegionKey.{RegionKey}
use Rattle.hb_cell.specs.Order.{same_bytes}
use Rattle.plain_model.specs.Keys.{same_key}
use Rattle.plain_model.specs.Conflicts.{blocks}
use Rattle.plain_model.specs.declared.parts.Live.{Live}

-- the one of the lesser number
abbrev pub lesser : Live → Option Live → Option Live
lesser a None = Some a
lesser a (Some b) = if nat_lt b.actor.0 a.actor.0 then Some b else Some a

-- the least actor of those that pass a test
abbrev pub least : (Live → Bool) → List Live → Option Live
least p [] = None
least p (a ∷ as') = if p a then lesser a (least p as') else least p as'

-- an actor, with the first of its holds that passes a test
abbrev pub first_hold : (Hold → Bool) → Live → Option (Actor × Hold)
first_hold p a = option_map (λ (h : Hold). (a.actor, h)) (find p a.holds)

-- the least live actor with a hold that passes a test, and its first such hold
abbrev pub holder : (Hold → Bool) → List Live → Option (Actor × Hold)
holder p live = option_and_then (first_hold p) (least (λ a. list_any p a.holds) live)

-- the hold is in the way of one of those asked for
abbrev pub blocks_any : List Hold → Hold → Bool
blocks_any asked held = list_any (λ h. blocks h held) asked

-- the least live actor in the way of these holds, and its first hold that is
abbrev pub held_by : List Live → List Hold → Option (Actor × Hold)
held_by live asked = holder (blocks_any asked) live

-- the hold is in the way of a put into the table: it is the table's, or that of the row's region
abbrev pub stops_put : List ℕ → Option RegionKey → Hold → Bool
stops_put table region (Table t) = same_bytes t table
stops_put table (Some k) (Region l) = same_key l k
stops_put table region _ = false

abbrev pub put_held_by : List Live → List ℕ → Option RegionKey → Option (Actor × Hold)
put_held_by live table region = holder (stops_put table region) live
