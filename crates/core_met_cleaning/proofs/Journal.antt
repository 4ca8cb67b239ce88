-- The journal is allowed, and leads to a state without the file.
use Rattle.std.proofs.Common.{ℕ, List, [], ◌∷◌, refl, inl, inr, arith}
use Rattle.core_model.specs.declared.journal.JournalEntry.{JournalEntry}
use Rattle.core_model.specs.Replay.{replay}
use Rattle.core_model.specs.State.{Parts}
use Rattle.core_met.proofs.Begin.{key}
use Rattle.core_met.proofs.Flush.{base, in_set, t7}
use Rattle.core_met.proofs.Journal.{entry, Leads, with_table, from_bare}
use Rattle.core_met.proofs.Shot.{flushed}
use Rattle.core_met_cleaning.specs.Cleaned.{HasCleaned, DeletionIsMet}
use Rattle.core_met_cleaning.proofs.Cleaning.{cleaner, clean, delete, cleaned, clean_allowed, delete_allowed}
use Rattle.core_met_cleaning.proofs.Compacting.{output, compact, pin, write, place, write_list, commit, unpin, stamp, archive, compacted, c10, compact_allowed, pin_allowed, write_allowed, place_allowed, write_list_allowed, commit_allowed, unpin_allowed, stamp_allowed, archive_allowed}
use Rattle.core_met_cleaning.proofs.Lawful.{output_lawful}

-- the entries that compact the table and archive its file, before others
abbrev with_archive : List JournalEntry → List JournalEntry
with_archive more = entry flushed ∷ entry compact ∷ entry pin ∷ entry write ∷ entry place ∷ entry write_list ∷ entry commit ∷ entry unpin ∷ entry stamp ∷ entry archive ∷ entry compacted ∷ more

-- those of the pass
abbrev pass : ℕ → List JournalEntry
pass ttl = entry (clean ttl) ∷ entry delete ∷ entry cleaned ∷ []

abbrev Cleaned : Parts → Type 0
Cleaned s = HasCleaned s base

archive_leads : (P : Parts → Type 0) (more : List JournalEntry) (ttl : ℕ) → Leads P 22 more (c10 ttl) → Leads P 11 (with_archive more) (t7 ttl)
archive_leads P more ttl rest = record {
  allowed = (((refl, refl), inl (refl, tt, λ e. absurd (cc))), (((refl, compact_allowed ttl), inl (refl, (omega arith), λ e. absurd (cc))), (((refl, pin_allowed ttl), inl (refl, (omega arith), λ e. absurd (cc))), (((refl, write_allowed ttl), inl (refl, (omega arith), λ e. absurd (cc))), (((refl, place_allowed ttl output_lawful), inl (refl, (omega arith), λ e. absurd (cc))), (((refl, write_list_allowed ttl), inl (refl, (omega arith), λ e. absurd (cc))), (((refl, commit_allowed ttl), inl (refl, (omega arith), λ e. absurd (cc))), (((refl, unpin_allowed ttl), inl (refl, tt, λ e. absurd (cc))), (((refl, stamp_allowed ttl), inl (refl, (omega arith), λ e. absurd (cc))), (((refl, archive_allowed ttl), inl (refl, (omega arith), λ e. absurd (cc))), (((refl, refl), inl (refl, tt, λ e. absurd (cc))), rest.allowed)))))))))));
  leads = rest.leads;
}

pass_leads : (ttl : ℕ) → Leads Cleaned 22 (pass ttl) (c10 ttl)
pass_leads ttl = record {
  allowed = (((refl, clean_allowed ttl), inl (refl, (omega arith), λ e. absurd (cc))), (((refl, delete_allowed ttl), inl (refl, (omega arith), λ e. absurd (cc))), (((refl, refl), inl (refl, tt, λ e. absurd (cc))), tt)));
  leads = record { had = refl; moved = refl; deleted = refl; region = key; there = in_set; other = output; listed = refl; cells = refl };
}

pub deletion_met : (ttl : ℕ) → DeletionIsMet ttl
unfolding replay
deletion_met ttl =
    let all = from_bare Cleaned (with_archive (pass ttl)) ttl (archive_leads Cleaned (pass ttl) ttl (pass_leads ttl)) in
    record {
      entries = with_table (with_archive (pass ttl));
      allowed = all.allowed;
      actor = cleaner;
      file = base;
      worker = 1;
      deletes = inr (inr (inr (inr (inr (inr (inr (inr (inr (inr (inr (inr (inr (inr (inr (inr (inr (inr (inr (inr (inr (inr (inr (inl refl)))))))))))))))))))))));
      cleaned = all.leads;
    }
