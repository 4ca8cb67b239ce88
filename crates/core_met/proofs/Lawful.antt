-- The names and the region set of the journal are in their grammars.
use Rattle.std.proofs.Common.{[], None, refl, subst, arith}
use Rattle.std.specs.Prelude.{codes}
use Rattle.hb_file_names.proofs.FileLemmas.{IsFileName-file_text}
use Rattle.hb_file_names.specs.FileName.{IsFileName}
use Rattle.hb_grammar.specs.Class.{has}
use Rattle.hb_names.specs.Encoded.{IsEncoded}
use Rattle.hb_names.specs.FamilyName.{IsFamilyName}
use Rattle.hb_names.specs.TableName.{IsTableName}
use Rattle.region_set.specs.RegionSet.{IsRegionSet}
use Rattle.core_model.specs.Entries.{IsBase}
use Rattle.core_met.proofs.Begin.{key, set}
use Rattle.core_met.proofs.Flush.{base, name2, second_name}

pub table_lawful : IsTableName (codes "t")
unfolding has
table_lawful = record { front = codes "t"; back = []; whole = refl; in_first = record { long = refl; each = (refl, tt) }; in_second = record { least = (omega arith); most = (omega arith); each = tt } }

pub family_lawful : IsFamilyName (codes "f")
unfolding has
family_lawful = record { front = codes "f"; back = []; whole = refl; in_first = record { long = refl; each = (refl, tt) }; in_second = record { least = (omega arith); most = (omega arith); each = tt } }

pub region_lawful : IsEncoded key.region
unfolding has
region_lawful = record {
  long = refl;
  each = (refl, (refl, (refl, (refl, (refl, (refl, (refl, (refl, (refl, (refl, (refl, (refl, (refl, (refl, (refl, (refl, (refl, (refl, (refl, (refl, (refl, (refl, (refl, (refl, (refl, (refl, (refl, (refl, (refl, (refl, (refl, (refl, tt))))))))))))))))))))))))))))))));
}

name_lawful : IsFileName name2
name_lawful = subst IsFileName second_name (IsFileName-file_text (record { epoch = 1; counter = 2; seq = None }) tt)

pub base_lawful : IsBase base
base_lawful = record { names = record { table = table_lawful; region = region_lawful; family = family_lawful }; file = name_lawful }

pub set_lawful : IsRegionSet (codes "t") set
set_lawful = record {
  number = ((omega arith), (omega arith));
  of_table = refl;
  families = (record { name = family_lawful; versions = ((omega arith), (omega arith)) }, tt);
  regions = (record { of_table = refl; id = (omega arith); start = record { small = λ i. (omega arith); limit = (omega arith) }; end = tt; end_some = tt }, tt);
  no_families = λ e. absurd (cc);
  no_regions = λ e. absurd (cc);
}
