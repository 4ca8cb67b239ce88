-- In a life each opening begins with a stop of the state before it.
use Rattle.std.proofs.Common.{◌≡◌, Bool, true, false, List, [], ◌∷◌, take, Option, Some, None, refl, sym, ap, ◌∙◌, subst, inl, inr}
use Rattle.std.specs.Prelude.{length}
use Rattle.std.specs.FinMap.{get}
use Rattle.std.specs.List.{AllZip}
use Rattle.cell_sight.proofs.Counts.{same-trans}
use Rattle.ns_tree.specs.Tree.{Tree}
use Rattle.plain_model.specs.declared.parts.PlainSnapshot.{PlainSnapshot}
use Rattle.plain_model.specs.declared.parts.PlainTable.{PlainTable}
use Rattle.plain_model.specs.declared.parts.RegionCopy.{RegionCopy}
use Rattle.plain_model.specs.declared.region_key.RegionKey.{RegionKey}
use Rattle.plain_model.specs.After.{stopped}
use Rattle.plain_model.specs.Names.{Names}
use Rattle.plain_model.specs.Plain.{Plain}
use Rattle.core_model.specs.declared.journal.Journal.{Journal}
use Rattle.core_model.specs.Actors.{InSet, IsRegion}
use Rattle.core_model.specs.Opened.{opened}
use Rattle.core_model.specs.Replay.{replay}
use Rattle.core_trees.specs.Trees.{trees_after}
use Rattle.core_reads.specs.Laws.{IsLife}
use Rattle.core_recovers.specs.Recovers.{AreSame, AreSameCopies, AreSameSnapshots, Recovers}
use Rattle.core_recovers.proofs.OneReading.{one_told}
use Rattle.core_recovers.proofs.Recovered.{journal_recovers}
use Rattle.core_opens.specs.Begins.{BeginsWell, BeginsWithStop, Follows, IsJournal, LivesGoOn}
use Rattle.core_opens.proofs.Opens.{begins_valid}

-- ---- states that hold the same

in_both : (tables more : Names PlainTable) (r : RegionKey) (split : Bool) → get tables r.table ≡ get more r.table → InSet tables r split → InSet more r split
in_both tables more r split e h = record { table = h.table; stands = sym e ∙ h.stands; info = h.info; listed = h.listed; key = h.key }

region_both : (tables more : Names PlainTable) (r : RegionKey) → get tables r.table ≡ get more r.table → IsRegion tables r → IsRegion more r
region_both tables more r e (inl h) = inl (in_both tables more r false e h)
region_both tables more r e (inr h) = inr (in_both tables more r true e h)

zip_same : (xs ys zs : List RegionCopy) → AllZip AreSameCopies xs ys → AllZip AreSameCopies ys zs → AllZip AreSameCopies xs zs
zip_same [] [] [] h k = tt
zip_same (x ∷ xs) (y ∷ ys) (z ∷ zs) h k = (
  record { region = h.0.region ∙ k.0.region; same = same-trans h.0.same k.0.same; number = h.0.number ∙ k.0.number },
  zip_same xs ys zs h.1 k.1,
)
zip_same [] (y ∷ ys) zs h k = absurd h
zip_same (x ∷ xs) [] zs h k = absurd h
zip_same [] [] (z ∷ zs) h k = absurd k
zip_same (x ∷ xs) (y ∷ ys) [] h k = absurd k

snapshots_same : (x y z : Option PlainSnapshot) → AreSameSnapshots x y → AreSameSnapshots y z → AreSameSnapshots x z
snapshots_same None None None h k = tt
snapshots_same (Some x) (Some y) (Some z) h k = (h.0 ∙ k.0, zip_same x.regions y.regions z.regions h.1 k.1)
snapshots_same None None (Some z) h k = absurd k
snapshots_same None (Some y) z h k = absurd h
snapshots_same (Some x) None z h k = absurd h
snapshots_same (Some x) (Some y) None h k = absurd k

same_then : (p q r : Plain) → AreSame p q → AreSame q r → AreSame p r
same_then p q r h k = record {
  tables = λ t. h.tables t ∙ k.tables t;
  regions = λ x i. let v = h.regions x i in let w = k.regions x (region_both p.tables q.tables x (h.tables x.table) i) in record { stable = same-trans v.stable w.stable; kept = v.kept ∙ w.kept };
  snapshots = λ name. snapshots_same (get p.snapshots name) (get q.snapshots name) (get r.snapshots name) (h.snapshots name) (k.snapshots name);
  one = h.one;
  other = k.other;
}

-- ---- a journal

take_all : {X : Type 0} (xs : List X) → take (length xs) xs ≡ xs
take_all [] = refl
take_all (x ∷ xs) = ap (λ ys. x ∷ ys) (take_all xs)

a_life : (j : Journal) (tree : Tree) → IsJournal j tree → BeginsWell j.opening tree → IsLife j.opening tree j.entries
a_life j tree h b = record { begins = b.begins; begins_written = b.written; names = h.names; allowed = h.allowed; writes = h.writes }

left : (j : Journal) (tree : Tree) → IsJournal j tree → Recovers (trees_after tree j.entries).now (stopped (replay j.opening j.entries).now.plain) × Recovers (trees_after tree j.entries).other (stopped (replay j.opening j.entries).other.plain)
left j tree h =
    let b = begins_valid j.opening tree h.begins in
    subst (λ es. Recovers (trees_after tree es).now (stopped (replay j.opening es).now.plain) × Recovers (trees_after tree es).other (stopped (replay j.opening es).other.plain)) (take_all j.entries)
    (journal_recovers j.opening tree j.entries (length j.entries) (a_life j tree h b) b.told)

stop_then : (j k : Journal) (tree next : Tree) → IsJournal j tree → IsJournal k next → Follows j tree next → BeginsWithStop j k.opening
stop_then j k tree next h g f =
    let w = left j tree h in
    let b = one_told next f.back (opened k.opening).plain f.recovers (begins_valid k.opening next g.begins).recovers in
    elim f.from [
      | inl e ↦ inl (same_then _ f.back _ (one_told (trees_after tree j.entries).now _ f.back w.0 e) b)
      | inr e ↦ inr (same_then _ f.back _ (one_told (trees_after tree j.entries).other _ f.back w.1 e) b)
    ]

pub lives_go_on : (js : List (Journal × Tree)) → LivesGoOn js
lives_go_on [] h = tt
lives_go_on (j ∷ []) h = tt
lives_go_on (j ∷ k ∷ []) h = (stop_then j.0 k.0 j.1 k.1 h.0 h.2 h.1, tt)
lives_go_on (j ∷ k ∷ i ∷ js) h = (stop_then j.0 k.0 j.1 k.1 h.0 h.2.0 h.1, lives_go_on (k ∷ i ∷ js) h.2)
