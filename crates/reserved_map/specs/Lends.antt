-- What places end as, once the `&mut` to one of their values has ended.
use Rattle.std.specs.Prelude.{◌≡◌, Option, is_some, IsSome}
use Rattle.std.specs.Borrow.{Fml, RattleType, MutBor, LendsSo}
use Rattle.std.specs.BTreeMap as tree
use Rattle.std.specs.BTreeMap.{BTreeMap}
use Rattle.std.specs.BTreeMap.Lent.{OrdMembers, map_row}
use Rattle.std.specs.declared.alloc.Allocator as alloc
use Rattle.std.specs.contracts.option.Option as option
use Rattle.std.specs.FinMap.{insert}
use Rattle.std.specs.declared.cmp.Ordering.{Ordering}
use Rattle.reserved_map.specs.Values.{values_at}

-- n has the value w at the key, and is as m else
pub record WritesValue {K X : Type 0} (R : K → K → Ordering) (m : BTreeMap K (Option X)) (key : K) (n : BTreeMap K (Option X)) (w : X) : Type 0 where
  pub values : values_at R n.entries ≡ insert (values_at R m.entries) key w
  pub kept : (q : K) → is_some (tree.get R n q) ≡ is_some (tree.get R m q)

-- the places behind m have the last value written through r
abbrev pub lends_value : (K V Z : RattleType) (g : OrdMembers K.Denot) (a : alloc.Ghosts Z.Denot) → MutBor (BTreeMap K.Denot (Option V.Denot)) → K.Denot → Option (MutBor V.Denot) → Fml
lends_value K V Z g a m key r = LendsSo (map_row K (option.the_row V) Z g a) V m r (λ n w. IsSome r → WritesValue g.cmp m.now key n w) (λ n. n.entries ≡ m.now.entries)
