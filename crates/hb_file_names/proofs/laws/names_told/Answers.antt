use Rattle.hb_grammar.proofs.AvoidsLemmas.{Avoids-Free}
use Rattle.hb_file_names.specs.FileName.{IsFileName}
use Rattle.hb_file_names.proofs.FreeLemmas.{Free-IsFileName_equals, Avoids-IsFileName}
use Rattle.hb_file_names.proofs.ToldLemmas.{take-file_text, links_told, references_told, backs_told, halves_apart}
use Rattle.hb_file_names.proofs.laws.names_told.Goals as goal

pub returns-clause-no_equals : goal.returns-clause-no_equals
returns-clause-no_equals c = Avoids-Free IsFileName 61 Free-IsFileName_equals

pub returns-clause-no_dot : goal.returns-clause-no_dot
returns-clause-no_dot c = Avoids-IsFileName

pub returns-clause-digits : goal.returns-clause-digits
returns-clause-digits c = take-file_text

pub returns-clause-links : goal.returns-clause-links
returns-clause-links c = links_told

pub returns-clause-references : goal.returns-clause-references
returns-clause-references c = references_told

pub returns-clause-backs : goal.returns-clause-backs
returns-clause-backs c = backs_told

pub returns-clause-apart : goal.returns-clause-apart
returns-clause-apart c = halves_apart
