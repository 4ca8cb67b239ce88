-- A store without files is valid, and a journal may begin over it.
use Rattle.std.proofs.Common.{◌≡◌, ℕ, Bool, true, false, cond, List, Some, None, refl, sym, ap, ◌∙◌, inl, inr}
use Rattle.std.specs.Prelude.{is_some}
use Rattle.std.specs.FinMap.{contains_key, empty, get, get-empty}
use Rattle.std.specs.Cmp.Lexicographic.{slice_cmp}
use Rattle.std.specs.Ordering.{nat_cmp}
use Rattle.hb_layout.specs.declared.base.Base.{Base}
use Rattle.ns_tree.specs.declared.file.FileState.{FileState}
use Rattle.ns_tree.proofs.Trees.{IsTree-empty}
use Rattle.ns_tree.specs.Tree.{Tree}
use Rattle.plain_model.specs.declared.region_key.RegionKey.{RegionKey}
use Rattle.core_model.specs.declared.entry.Entry.TheVariants.{Link}
use Rattle.core_model.specs.Disk.{disk_of, is_regular}
use Rattle.core_model.specs.Entries.{file_of, no_list}
use Rattle.core_model.specs.Site.{Site, Epoch, Tmp, RegionSet, Live, Archived, BackRefTo, Info, Manifest, site_text}
use Rattle.core_recovers.specs.Reading.{Reading, InReading, IsIn, IsRead, by_list, by_snapshot}
use Rattle.core_opens.specs.Begins.{BeginsBare}
use Rattle.core_opens.specs.Valid.{IsComplete, IsValid}

abbrev bare : Tree
bare = empty

no_file : (place : List ℕ) → get bare place ≡ None
no_file place = get-empty (slice_cmp nat_cmp) place

nothing : (q : Site) → disk_of bare q ≡ None
nothing q = elim (is_regular q) as (λ b. cond b (get bare (site_text q)) None ≡ None) [ true ↦ no_file (site_text q) | false ↦ refl ]

absent : {P : Type 0} (q : Site) (f : FileState) → disk_of bare q ≡ Some f → P
absent q f e = let z : None ≡ Some f = sym (nothing q) ∙ e in absurd (cc)

no_place : {P : Type 0} (place : List ℕ) → contains_key bare place ≡ true → P
no_place place k = let z : false ≡ true = sym (ap is_some (no_file place)) ∙ k in absurd (cc)

abbrev says : Reading
says = record { sets = λ t. None; lists = λ r. no_list; snapshots = λ n. None; made = λ b. None }

no_region : {P : Type 0} (r : RegionKey) → InReading says r → P
no_region r (inl i) = let z : None ≡ Some i.table = i.stands in absurd (cc)
no_region r (inr i) = let z : None ≡ Some i.table = i.stands in absurd (cc)

unread : {P : Type 0} (b : Base) → IsRead says b → P
unread b (by_list r e i m k) = no_region r i
unread b (by_snapshot name s e i m k) = let z : None ≡ Some s = i in absurd (cc)

abbrev bare_complete : IsComplete bare
bare_complete = record {
  rows = λ place k. no_place place k;
  empties = record {
    epoch = λ n f e. absent (Epoch n) f e;
    link = λ r b f n e. absent (Live (file_of r (Link b))) f e;
    back = λ b text f e. absent (BackRefTo b text) f e;
  };
  references = record { at = λ r e f n h i. absent (Live (file_of r e)) f i };
  one_place = record { at = λ b f g e i. absent (Live b) f e };
  back_refs = record { at = λ r e f y n o i. absent (Live (file_of r e)) f i };
  pointed = record { at = λ r e f y n o i. absent (Live (file_of r e)) f i };
  says = says;
  reading = record {
    sets = λ t. record { above = λ m k. nothing (RegionSet t m); file = λ s e. absurd (cc) };
    lists = λ r i. no_region r i;
    missing = λ name e. (nothing (Info name), nothing (Manifest name));
    snapshots = λ name s e. absurd (cc);
    stand = λ r e i m. no_region r i;
    point = λ r e f i m j. no_region r i;
    places = λ b i. unread b i;
    bases = λ b i. unread b i;
    files = record { live_made = λ b f e o. absent (Live b) f e; archived_made = λ b f e. absent (Archived b) f e };
  };
}

in_either : {r : RegionKey} (split : Bool) → IsIn says.sets r split → InReading says r
in_either true i = inr i
in_either false i = inl i

abbrev bare_valid : IsValid bare
bare_valid = record {
  complete = bare_complete;
  fit = record { sets = λ t s e. absurd (cc); lists = λ r split i. no_region r (in_either split i); snapshots = λ name s e. absurd (cc) };
}

pub bare_begins : (epoch ttl : ℕ) → BeginsBare epoch ttl
bare_begins epoch ttl = record {
  told = refl;
  files = IsTree-empty;
  valid = bare_valid;
  found = record {
    sets = λ t s m. absurd m;
    all_sets = λ t s e. absurd (cc);
    snapshots = λ name x m. absurd m;
    all_snapshots = λ name x e. absurd (cc);
    lists = λ r. refl;
    made = λ b. refl;
    there = λ b cells e o. absurd (cc);
  };
  swept = λ name. nothing (Tmp name);
  epoch = record { live_file = λ b f e o. absent (Live b) f e; archived_file = λ b f e. absent (Archived b) f e };
}
