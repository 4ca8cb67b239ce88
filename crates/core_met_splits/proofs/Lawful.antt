-- The names and the region set of the journal are in their grammars.
use Rattle.std.proofs.Common.{zero, suc, refl, arith}
use Rattle.std.specs.Prelude.{codes}
use Rattle.hex.specs.Hex.{IsBytes}
use Rattle.hb_grammar.specs.Class.{has}
use Rattle.hb_names.specs.Encoded.{IsEncoded}
use Rattle.region_set.specs.RegionLine.{IsRow}
use Rattle.region_set.specs.RegionSet.{IsRegionSet}
use Rattle.core_model.specs.Entries.{IsKey}
use Rattle.core_met.proofs.Lawful.{table_lawful, family_lawful}
use Rattle.core_met_splits.specs.Halved.{row}
use Rattle.core_met_splits.proofs.Splitting.{low_key, high_key, set2}

low_region : IsEncoded low_key.region
unfolding has
low_region = record { long = refl; each = (refl, (refl, (refl, (refl, (refl, (refl, (refl, (refl, (refl, (refl, (refl, (refl, (refl, (refl, (refl, (refl, (refl, (refl, (refl, (refl, (refl, (refl, (refl, (refl, (refl, (refl, (refl, (refl, (refl, (refl, (refl, (refl, tt)))))))))))))))))))))))))))))))) }

high_region : IsEncoded high_key.region
unfolding has
high_region = record { long = refl; each = (refl, (refl, (refl, (refl, (refl, (refl, (refl, (refl, (refl, (refl, (refl, (refl, (refl, (refl, (refl, (refl, (refl, (refl, (refl, (refl, (refl, (refl, (refl, (refl, (refl, (refl, (refl, (refl, (refl, (refl, (refl, (refl, tt)))))))))))))))))))))))))))))))) }

pub low_lawful : IsKey low_key
low_lawful = record { table = table_lawful; region = low_region }

pub high_lawful : IsKey high_key
high_lawful = record { table = table_lawful; region = high_region }

row_small : IsBytes row
row_small zero = (omega arith)
row_small (suc i) = (omega arith)

row_lawful : IsRow row
row_lawful = record { small = row_small; limit = (omega arith) }

pub set2_lawful : IsRegionSet (codes "t") set2
set2_lawful = record {
  number = ((omega arith), (omega arith));
  of_table = refl;
  families = (record { name = family_lawful; versions = ((omega arith), (omega arith)) }, tt);
  regions = (
    record { of_table = refl; id = (omega arith); start = record { small = λ i. (omega arith); limit = (omega arith) }; end = tt; end_some = tt },
    (
      (record { of_table = refl; id = (omega arith); start = record { small = λ i. (omega arith); limit = (omega arith) }; end = row_lawful; end_some = (omega arith) }, λ e. absurd (cc)),
      ((record { of_table = refl; id = (omega arith); start = row_lawful; end = tt; end_some = tt }, λ e. absurd (cc)), tt),
    ),
  );
  no_families = λ e. absurd (cc);
  no_regions = λ e. absurd (cc);
}
