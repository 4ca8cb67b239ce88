-- The name of the file that takes the cells over is in its grammar.
use Rattle.std.proofs.Common.{None, subst}
use Rattle.hb_file_names.proofs.FileLemmas.{IsFileName-file_text}
use Rattle.hb_file_names.specs.FileName.{IsFileName}
use Rattle.core_model.specs.Entries.{IsBase}
use Rattle.core_met.proofs.Lawful.{table_lawful, region_lawful, family_lawful}
use Rattle.core_met_cleaning.proofs.Compacting.{output, name4, fourth_name}

name_lawful : IsFileName name4
name_lawful = subst IsFileName fourth_name (IsFileName-file_text (record { epoch = 1; counter = 4; seq = None }) tt)

pub output_lawful : IsBase output
output_lawful = record { names = record { table = table_lawful; region = region_lawful; family = family_lawful }; file = name_lawful }
