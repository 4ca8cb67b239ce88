-- The names and the region sets of the journal are in their grammars.
use Rattle.std.proofs.Common.{[], refl, arith}
use Rattle.std.specs.Prelude.{codes}
use Rattle.hb_grammar.specs.Class.{has}
use Rattle.hb_names.specs.Encoded.{IsEncoded}
use Rattle.hb_names.specs.TableName.{IsTableName}
use Rattle.region_set.specs.RegionSet.{IsRegionSet}
use Rattle.core_model.specs.Entries.{IsKey}
use Rattle.core_met.proofs.Lawful.{family_lawful}
use Rattle.core_met_clones.proofs.Cloning.{key2, set2}
use Rattle.core_met_clones.proofs.Dropping.{disabled_set, dropped_set}

second_table : IsTableName (codes "c")
unfolding has
second_table = record { front = codes "c"; back = []; whole = refl; in_first = record { long = refl; each = (refl, tt) }; in_second = record { least = (omega arith); most = (omega arith); each = tt } }

second_region : IsEncoded key2.region
unfolding has
second_region = record {
  long = refl;
  each = (refl, (refl, (refl, (refl, (refl, (refl, (refl, (refl, (refl, (refl, (refl, (refl, (refl, (refl, (refl, (refl, (refl, (refl, (refl, (refl, (refl, (refl, (refl, (refl, (refl, (refl, (refl, (refl, (refl, (refl, (refl, (refl, tt))))))))))))))))))))))))))))))));
}

pub key2_lawful : IsKey key2
key2_lawful = record { table = second_table; region = second_region }

pub set2_lawful : IsRegionSet (codes "c") set2
set2_lawful = record {
  number = ((omega arith), (omega arith));
  of_table = refl;
  families = (record { name = family_lawful; versions = ((omega arith), (omega arith)) }, tt);
  regions = (record { of_table = refl; id = (omega arith); start = record { small = λ i. (omega arith); limit = (omega arith) }; end = tt; end_some = tt }, tt);
  no_families = λ e. absurd (cc);
  no_regions = λ e. absurd (cc);
}

pub disabled_lawful : IsRegionSet (codes "t") disabled_set
disabled_lawful = record {
  number = ((omega arith), (omega arith));
  of_table = refl;
  families = (record { name = family_lawful; versions = ((omega arith), (omega arith)) }, tt);
  regions = (record { of_table = refl; id = (omega arith); start = record { small = λ i. (omega arith); limit = (omega arith) }; end = tt; end_some = tt }, tt);
  no_families = λ e. absurd (cc);
  no_regions = λ e. absurd (cc);
}

pub dropped_lawful : IsRegionSet (codes "t") dropped_set
dropped_lawful = record { number = ((omega arith), (omega arith)); of_table = refl; families = tt; regions = tt; no_families = λ e. refl; no_regions = λ e. refl }
