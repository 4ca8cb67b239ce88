use Rattle.print_laws.proofs.ShownLemmas.{byte_told, shown_told}
use Rattle.print_laws.proofs.laws.shown_bytes_are_told.Goals as goal

pub returns-clause-bytes : goal.returns-clause-bytes
returns-clause-bytes c = shown_told

pub returns-clause-byte : goal.returns-clause-byte
returns-clause-byte c = byte_told
