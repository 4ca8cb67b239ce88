-- What a major compaction asks of the visible cells.
use Rattle.std.proofs.Common.{ℕ, List}
use Rattle.hb_cell.specs.Order.{same_bytes}
use Rattle.cell_sight.proofs.SeenParts.{same_seen, seen_by_family}
use Rattle.cell_sight.proofs.ShownExactly.{shows_exactly}
use Rattle.core_contents.proofs.Majored.{SeenLaws}

pub seen_laws : (families : List (List ℕ × ℕ)) → SeenLaws families
seen_laws families = record {
  same = λ xs ys h. same_seen families xs ys h;
  by_family = λ f xs. seen_by_family families (λ x. same_bytes x f) xs;
  shown = λ xs c m. ((shows_exactly families xs c).0 m).0.unhidden.0;
}
