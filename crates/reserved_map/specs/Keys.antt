-- The order of regions.
use Rattle.std.specs.Prelude.{◌≡◌, refl}
use Rattle.std.proofs.Common.{sym, ap}
use Rattle.std.specs.FinMap.{IsAntisymmetric, nat_cmp-IsAntisymmetric, slice_cmp-IsAntisymmetric}
use Rattle.std.specs.declared.cmp.Ordering.{Ordering}
use Rattle.std.specs.declared.cmp.Ordering.TheVariants.{Less, Equal, Greater}
use Rattle.std.specs.Ordering.{ordering_then, is_eq, is_lt}
use Rattle.std.proofs.lemmas.Bool.{true≢false}
use Rattle.hb_cell.specs.Order.{bytes_cmp}
use Rattle.plain_model.specs.declared.region_key.RegionKey.{RegionKey}

-- by table, then by region
abbrev pub region_cmp : RegionKey → RegionKey → Ordering
region_cmp a b = ordering_then (bytes_cmp a.table b.table) (bytes_cmp a.region b.region)

both_equal : (r s : Ordering) → ordering_then r s ≡ Equal → (r ≡ Equal) × (s ≡ Equal)
both_equal Less s e = absurd (true≢false (ap is_lt e))
both_equal Equal s e = (refl, e)
both_equal Greater s e = absurd (true≢false (sym (ap is_eq e)))

-- only equal texts tie
pub bytes_cmp-exact : IsAntisymmetric bytes_cmp
bytes_cmp-exact = slice_cmp-IsAntisymmetric nat_cmp-IsAntisymmetric

-- only equal regions tie
pub region_cmp-exact : IsAntisymmetric region_cmp
region_cmp-exact a b e =
    let parts = both_equal _ _ e in
    λ i. record { table = bytes_cmp-exact a.table b.table parts.0 i; region = bytes_cmp-exact a.region b.region parts.1 i }
