-- Journals of a flush, and of a snapshot behind it, are allowed, and lead to a list and a snapshot with the cell.
use Rattle.std.proofs.Common.{ℕ, false, List, [], ◌∷◌, None, refl, sym, subst, inl, arith}
use Rattle.std.specs.Prelude.{codes}
use Rattle.core_model.specs.declared.journal.JournalEntry.{JournalEntry}
use Rattle.core_model.specs.declared.step.Step.{Step}
use Rattle.core_model.specs.Allows.{AllowsFrom}
use Rattle.core_model.specs.Opened.{opened}
use Rattle.core_model.specs.Replay.{replay, replay_from}
use Rattle.core_sound.specs.Laws.{bare_opening}
use Rattle.core_met.proofs.Shot.{flushed, take, capture, write_info, write_data, complete, shot, u5, take_allowed, capture_allowed, info_allowed, data_allowed, complete_allowed, shot_there}
use Rattle.core_model.specs.State.{Parts, State}
use Rattle.core_met.specs.Met.{HasFlushed, FlushIsMet, HasSnapshot, SnapshotIsMet}
use Rattle.core_met.proofs.Begin.{begin, key, opened_is, create, write_set, commit_set, made, create_allowed, write_set_allowed, commit_set_allowed}
use Rattle.core_met.proofs.Lawful.{base_lawful, set_lawful}
use Rattle.core_met.proofs.Flush.{base, in_set, table_made, t0, t7, put_cell, start, freeze, write, place, write_list, commit, put_allowed, start_allowed, freeze_allowed, write_allowed, place_allowed, write_list_allowed, commit_allowed}

abbrev pub entry : Step → JournalEntry
entry p = record { worker = 1; step = p; failed = false }

-- both states of a journal without a failure
abbrev pub both : Parts → State
both s = record { now = s; other = s; closed = None }

-- the entries are allowed from here on, and what they lead to
pub record Leads (P : Parts → Type 0) (n : ℕ) (es : List JournalEntry) (s : Parts) : Type 0 where
  pub allowed : AllowsFrom n (both s) es
  pub leads : P (replay_from n (both s) es).now

-- the entries that make the table, and put and flush the cell, before others
abbrev pub with_flush : List JournalEntry → List JournalEntry
with_flush more = entry put_cell ∷ entry start ∷ entry freeze ∷ entry write ∷ entry place ∷ entry write_list ∷ entry commit ∷ more

abbrev pub with_table : List JournalEntry → List JournalEntry
with_table more = entry create ∷ entry write_set ∷ entry commit_set ∷ entry made ∷ with_flush more

-- those that take a snapshot, before others
abbrev pub with_shot : List JournalEntry → List JournalEntry
with_shot more = entry flushed ∷ entry take ∷ entry capture ∷ entry write_info ∷ entry write_data ∷ entry complete ∷ more

flush_leads : (P : Parts → Type 0) (more : List JournalEntry) (ttl : ℕ) → Leads P 11 more (t7 ttl) → Leads P 4 (with_flush more) (t0 ttl)
flush_leads P more ttl rest = record {
  allowed = (((refl, put_allowed ttl), inl (refl, (omega arith), λ e. absurd (cc))), (((refl, start_allowed ttl), inl (refl, (omega arith), λ e. absurd (cc))), (((refl, freeze_allowed ttl), inl (refl, (omega arith), λ e. absurd (cc))), (((refl, write_allowed ttl), inl (refl, (omega arith), λ e. absurd (cc))), (((refl, place_allowed ttl base_lawful), inl (refl, (omega arith), λ e. absurd (cc))), (((refl, write_list_allowed ttl), inl (refl, (omega arith), λ e. absurd (cc))), (((refl, commit_allowed ttl), inl (refl, (omega arith), λ e. absurd (cc))), rest.allowed)))))));
  leads = rest.leads;
}

all_lead : (P : Parts → Type 0) (more : List JournalEntry) (ttl : ℕ) → Leads P 11 more (t7 ttl) → Leads P 0 (with_table more) (begin ttl)
all_lead P more ttl last = let rest = subst (Leads P 4 (with_flush more)) (sym (table_made ttl)) (flush_leads P more ttl last) in record {
  allowed = (((refl, create_allowed ttl), inl (refl, (omega arith), λ e. absurd (cc))), (((refl, write_set_allowed ttl), inl (refl, (omega arith), λ e. absurd (cc))), (((refl, commit_set_allowed ttl set_lawful), inl (refl, (omega arith), λ e. absurd (cc))), (((refl, refl), inl (refl, tt, λ e. absurd (cc))), rest.allowed))));
  leads = rest.leads;
}

pub from_bare : (P : Parts → Type 0) (more : List JournalEntry) (ttl : ℕ) → Leads P 11 more (t7 ttl) → Leads P 0 (with_table more) (opened (bare_opening 1 ttl))
from_bare P more ttl last = subst (Leads P 0 (with_table more)) (sym (opened_is ttl)) (all_lead P more ttl last)

pub flush_met : (ttl : ℕ) → FlushIsMet ttl
unfolding replay
flush_met ttl = let all = from_bare HasFlushed [] ttl (record { allowed = tt; leads = record { region = key; there = in_set; file = base; listed = refl; cells = refl } }) in record { entries = with_table []; allowed = all.allowed; flushed = all.leads }

pub shot_leads : (P : Parts → Type 0) (more : List JournalEntry) (ttl : ℕ) → Leads P 17 more (u5 ttl) → Leads P 11 (with_shot more) (t7 ttl)
shot_leads P more ttl rest = record {
  allowed = (((refl, refl), inl (refl, tt, λ e. absurd (cc))), (((refl, take_allowed ttl), inl (refl, (omega arith), λ e. absurd (cc))), (((refl, capture_allowed ttl), inl (refl, (omega arith), λ e. absurd (cc))), (((refl, info_allowed ttl), inl (refl, (omega arith), λ e. absurd (cc))), (((refl, data_allowed ttl), inl (refl, (omega arith), λ e. absurd (cc))), (((refl, complete_allowed ttl), inl (refl, (omega arith), λ e. absurd (cc))), rest.allowed))))));
  leads = rest.leads;
}

pub shot_met : (ttl : ℕ) → SnapshotIsMet ttl
unfolding replay
shot_met ttl =
    let last : Leads HasSnapshot 17 [] (u5 ttl) = record { allowed = tt; leads = record { name = codes "n"; snapshot = shot; complete = shot_there ttl; cells = refl } } in
    let all = from_bare HasSnapshot (with_shot []) ttl (shot_leads HasSnapshot [] ttl last) in
    record { entries = with_table (with_shot []); allowed = all.allowed; taken = all.leads }
