-- Which places have files, beside what stands where.
use Rattle.std.specs.Prelude.{◌≡◌, ℕ, true, false, List, Option, Some, None, is_some, option_map}
use Rattle.std.specs.FinMap.{FinMap, contains_key, insert, remove}
use Rattle.hb_cell.specs.Order.{bytes_cmp}
use Rattle.core_model.specs.Disk.{Disk, Op, Create, Rename, Remove, Publish, Withdraw, is_regular}
use Rattle.core_model.specs.Site.{Site, site_text}
use Rattle.core_sites.specs.Shows.{HasSite}

-- the places of files
abbrev pub Places : Type 0
Places = FinMap bytes_cmp (Unit {0})

-- each place is that of a site, and has a file exactly where one stands there; a site that is not regular has none
pub record ArePlaces (places : Places) (disk : Disk) : Type 0 where
  pub sites : (place : List ℕ) → contains_key places place ≡ true → HasSite place
  pub at : (q : Site) → is_regular q ≡ true → contains_key places (site_text q) ≡ is_some (disk q)
  pub regular : (q : Site) → is_regular q ≡ false → disk q ≡ None

-- where an operation makes a file, and where it takes one away
abbrev pub made_at : Op → Option Site
made_at (Create p bytes) = Some p
made_at (Rename p q) = Some q
made_at _ = None

abbrev pub gone_at : Op → Option Site
gone_at (Rename p q) = Some p
gone_at (Remove p) = Some p
gone_at _ = None

-- it moves no directory
abbrev pub IsOfFiles : Op → Type 0
IsOfFiles (Publish name) = ⊥
IsOfFiles (Withdraw name) = ⊥
IsOfFiles _ = Unit {0}

abbrev pub place_at : Option Site → Option (List ℕ)
place_at q = option_map site_text q

-- places without one, and with one
abbrev pub taken_out : Option (List ℕ) → Places → Places
taken_out None places = places
taken_out (Some place) places = remove places place

abbrev pub put_in : Option (List ℕ) → Places → Places
put_in None places = places
put_in (Some place) places = insert places place tt

abbrev pub places_by : Op → Places → Places
places_by o places = put_in (place_at (made_at o)) (taken_out (place_at (gone_at o)) places)
