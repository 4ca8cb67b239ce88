-- Entries by their parts.
use Rattle.std.proofs.Common.{ℕ, Bool}
use Rattle.core_model.specs.declared.journal.JournalEntry.{JournalEntry}
use Rattle.core_model.specs.declared.step.Step.{Step}

abbrev pub entry_of : ℕ → Step → Bool → JournalEntry
entry_of worker p b = record { worker = worker; step = p; failed = b }
