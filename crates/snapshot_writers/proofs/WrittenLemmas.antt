-- What is written is the record of its value.
use Rattle.std.proofs.Common.{◌≡◌, ℕ, zero, suc, ◌+◌, ◌*◌, ◌/◌, ◌%◌, ◌^◌, ◌<◌, ◌≤◌, Bool, true, false, cond, ltb, List, [], ◌∷◌, ◌++◌, length, Option, Some, None, refl, sym, ap, arith}
use Rattle.std.specs.Prelude.{codes, IfSome}
use Rattle.std.proofs.lemmas.List.{length-append}
use Rattle.wire_fields.specs.Varint.{sevens, varint}
use Rattle.wire_fields.specs.Fields.{Part, number, text, field_bytes, IsId}
use Rattle.hb_names.specs.Qualifier.{IsQualifier}
use Rattle.hb_names.specs.SnapName.{IsSnapName}
use Rattle.hb_names.specs.TableName.{IsTableName}
use Rattle.hb_records.specs.declared.region_info.RegionInfo.{RegionInfo}
use Rattle.snapshot_records.specs.declared.reference.Reference.{Reference}
use Rattle.snapshot_records.specs.declared.snapshot_info.SnapshotInfo.{SnapshotInfo}
use Rattle.snapshot_records.specs.Reference.{IsSplitRow, half_code, IsReferenceMessage}
use Rattle.snapshot_records.specs.SnapshotInfo.{flush_code}
use Rattle.snapshot_records.specs.TableMessage.{IsTableMessage}
use Rattle.snapshot_records.specs.RegionInfo.{IsRegionInfo}
use Rattle.snapshot_writers.specs.Written.{reference_parts, reference_message, reference_bytes, ReferencesAreWritten, info_parts, info_bytes, InfosAreWritten, table_bytes, region_parts, region_bytes, IsRegionRow, RegionsAreWritten}

half_small : (b : Bool) → half_code b < 2 ^ 64
half_small true = omega arith
half_small false = omega arith

flush_small : (b : Bool) → flush_code b < 2 ^ 64
flush_small true = omega arith
flush_small false = omega arith

pub reference_message_written : (reference : Reference) → IsSplitRow reference.row → IsReferenceMessage (reference_message reference) reference
reference_message_written reference row =
    let small = half_small reference.top in
    let most : length reference.row < 2 ^ 64 = omega arith in
    record {
      parts = reference_parts reference;
      values = (Some reference.row, Some reference.top);
      message = ((((omega arith, omega arith), most), (((omega arith, omega arith), small), tt)), refl);
      spelled = (record { all = reference.row ∷ []; each = ((row, refl), tt); counts = refl }, record { all = reference.top ∷ []; each = (refl, tt); counts = refl });
      whole = refl;
    }

pub reference_written : ReferencesAreWritten
reference_written reference row = record { rest = reference_message reference; prefix = refl; message = reference_message_written reference row }

qualifier_short : (bytes : List ℕ) → IsQualifier bytes → length bytes ≤ 100
qualifier_short bytes is =
    let whole = ap length is.whole in
    let parts = length-append is.front is.back in
    let first = is.in_first.long in
    let second = is.in_second.most in
    omega arith

pub info_written : InfosAreWritten
info_written info name table created =
    let small = flush_small info.flush in
    let name_fits = qualifier_short info.name name in
    let table_fits = qualifier_short info.table table in
    let name_small : length info.name < 2 ^ 64 = omega arith in
    let table_small : length info.table < 2 ^ 64 = omega arith in
    record {
      parts = info_parts info;
      values = (Some info.name, (Some info.table, (Some info.created, (Some info.flush, Some 2))));
      message = ((((omega arith, omega arith), name_small), (((omega arith, omega arith), table_small), (((omega arith, omega arith), created), (((omega arith, omega arith), small), (((omega arith, omega arith), omega arith), tt))))), refl);
      spelled = (
        record { all = info.name ∷ []; each = ((name, refl), tt); counts = refl },
        (
          record { all = info.table ∷ []; each = ((table, refl), tt); counts = refl },
          (
            record { all = info.created ∷ []; each = ((tt, refl), tt); counts = refl },
            (
              record { all = info.flush ∷ []; each = (refl, tt); counts = refl },
              record { all = 2 ∷ []; each = ((tt, refl), tt); counts = refl },
            ),
          ),
        ),
      );
      whole = refl;
    }

-- ---- regions

sevens_short : (more n : ℕ) → length (sevens more n) ≤ more + 1
sevens_short zero n = omega arith
sevens_short (suc more) n =
    let rest = sevens_short more (n / 128) in
    elim (ltb n 128) as (λ b. length (cond b (n ∷ []) ((128 + n % 128) ∷ sevens more (n / 128))) ≤ suc more + 1) [
      | true ↦ omega arith
      | false ↦ omega arith
    ]

field_short : (id : ℕ) (bytes : List ℕ) → length (field_bytes id (text bytes)) ≤ 20 + length bytes
unfolding field_bytes varint
field_short id bytes =
    let tag = sevens_short 9 (8 * id + 2) in
    let len = sevens_short 9 (length bytes) in
    let whole = length-append (sevens 9 (8 * id + 2)) (sevens 9 (length bytes) ++ bytes) in
    let inner = length-append (sevens 9 (length bytes)) bytes in
    omega arith

table_short : (table : List ℕ) → length table ≤ 100 → length (table_bytes table) ≤ 200
table_short table short =
    let first = field_short 1 (codes "default") in
    let second = field_short 2 table in
    let seven : length (codes "default") ≡ 7 = refl in
    let whole = length-append (field_bytes 1 (text (codes "default"))) (field_bytes 2 (text table) ++ []) in
    let inner = length-append (field_bytes 2 (text table)) [] in
    omega arith

pub table_written : (table : List ℕ) → IsTableName table → IsTableMessage (table_bytes table) table
table_written table is =
    let short = qualifier_short table is in
    let small : length table < 2 ^ 64 = omega arith in
    let seven : length (codes "default") < 2 ^ 64 = omega arith in
    record {
      parts = (1, text (codes "default")) ∷ (2, text table) ∷ [];
      values = (Some (codes "default"), Some table);
      message = ((((omega arith, omega arith), seven), (((omega arith, omega arith), small), tt)), refl);
      spelled = (record { all = codes "default" ∷ []; each = ((refl, refl), tt); counts = refl }, record { all = table ∷ []; each = ((is, refl), tt); counts = refl });
      whole = refl;
    }

region_of : ℕ → List ℕ → List ℕ → Option (List ℕ) → RegionInfo
region_of id table start end = record { id = id; table = table; start = start; end = end }

module _ (id : ℕ) (table : List ℕ) (small : id < 2 ^ 64) (is : IsTableName table) where
  table_fits : length (table_bytes table) < 2 ^ 64
  table_fits = let short = qualifier_short table is in let whole = table_short table short in omega arith

  region_case : (start : List ℕ) (end : Option (List ℕ)) → IsRegionRow start → IfSome end IsSplitRow
      → IsRegionInfo (region_bytes (region_of id table start end)) (region_of id table start end)
  unfolding region_of
  region_case [] None below above = record {
    parts = region_parts (region_of id table [] None);
    values = (Some id, (Some table, (None, None)));
    message = ((((omega arith, omega arith), small), (((omega arith, omega arith), table_fits), tt)), refl);
    spelled = (
      record { all = id ∷ []; each = ((tt, refl), tt); counts = refl },
      (
        record { all = table ∷ []; each = (table_written table is, tt); counts = refl },
        (record { all = []; each = tt; counts = refl }, record { all = []; each = tt; counts = refl }),
      ),
    );
    whole = refl;
  }
  region_case [] (Some []) below above = absurd (omega arith)
  region_case [] (Some (c ∷ end)) below above = record {
    parts = region_parts (region_of id table [] (Some (c ∷ end)));
    values = (Some id, (Some table, (None, Some (c ∷ end))));
    message = ((((omega arith, omega arith), small), (((omega arith, omega arith), table_fits), (((omega arith, omega arith), omega arith), tt))), refl);
    spelled = (
      record { all = id ∷ []; each = ((tt, refl), tt); counts = refl },
      (
        record { all = table ∷ []; each = (table_written table is, tt); counts = refl },
        (record { all = []; each = tt; counts = refl }, record { all = (c ∷ end) ∷ []; each = ((above.most, refl), tt); counts = refl }),
      ),
    );
    whole = refl;
  }
  region_case (b ∷ start) None below above = record {
    parts = region_parts (region_of id table (b ∷ start) None);
    values = (Some id, (Some table, (Some (b ∷ start), None)));
    message = ((((omega arith, omega arith), small), (((omega arith, omega arith), table_fits), (((omega arith, omega arith), omega arith), tt))), refl);
    spelled = (
      record { all = id ∷ []; each = ((tt, refl), tt); counts = refl },
      (
        record { all = table ∷ []; each = (table_written table is, tt); counts = refl },
        (record { all = (b ∷ start) ∷ []; each = ((below, refl), tt); counts = refl }, record { all = []; each = tt; counts = refl }),
      ),
    );
    whole = refl;
  }
  region_case (b ∷ start) (Some []) below above = absurd (omega arith)
  region_case (b ∷ start) (Some (c ∷ end)) below above = record {
    parts = region_parts (region_of id table (b ∷ start) (Some (c ∷ end)));
    values = (Some id, (Some table, (Some (b ∷ start), Some (c ∷ end))));
    message = ((((omega arith, omega arith), small), (((omega arith, omega arith), table_fits), (((omega arith, omega arith), omega arith), (((omega arith, omega arith), omega arith), tt)))), refl);
    spelled = (
      record { all = id ∷ []; each = ((tt, refl), tt); counts = refl },
      (
        record { all = table ∷ []; each = (table_written table is, tt); counts = refl },
        (record { all = (b ∷ start) ∷ []; each = ((below, refl), tt); counts = refl }, record { all = (c ∷ end) ∷ []; each = ((above.most, refl), tt); counts = refl }),
      ),
    );
    whole = refl;
  }

pub region_written : RegionsAreWritten
unfolding region_of
region_written info is = region_case info.id info.table is.id is.table info.start info.end is.start is.end
