-- The journal is allowed, and leads to a list with both files.
use Rattle.std.proofs.Common.{ℕ, List, [], ◌∷◌, refl, sym, subst, inl, arith}
use Rattle.core_model.specs.declared.journal.JournalEntry.{JournalEntry}
use Rattle.core_model.specs.Replay.{replay}
use Rattle.core_met.proofs.Begin.{key, made}
use Rattle.core_met.proofs.Journal.{entry, Leads}
use Rattle.core_met_loads.specs.Loaded.{HasLoaded, LoadIsMet}
use Rattle.core_met_loads.proofs.Loading.{first_base, second_base, load, place_first, place_second, write_list, commit, loaded, load_allowed, place_first_allowed, place_second_allowed, write_list_allowed, commit_allowed}
use Rattle.core_met_loads.proofs.Tabled.{create, write_set, commit_set, set_lawful, in_set, b0, m4, table_made, create_allowed, write_set_allowed, commit_set_allowed}
use Rattle.core_met_loads.proofs.Waiting.{waiting, waiting_is, begins_sound}

-- the entries that load the files
abbrev load_entries : List JournalEntry
load_entries = entry load ∷ entry place_first ∷ entry place_second ∷ entry write_list ∷ entry commit ∷ entry loaded ∷ []

-- behind those that make the table
abbrev entries : List JournalEntry
entries = entry create ∷ entry write_set ∷ entry commit_set ∷ entry made ∷ load_entries

load_leads : (ttl : ℕ) → Leads HasLoaded 4 load_entries (b0 ttl)
load_leads ttl = record {
  allowed = (((refl, load_allowed ttl), inl (refl, (omega arith), λ e. absurd (cc))), (((refl, place_first_allowed ttl), inl (refl, (omega arith), λ e. absurd (cc))), (((refl, place_second_allowed ttl), inl (refl, (omega arith), λ e. absurd (cc))), (((refl, write_list_allowed ttl), inl (refl, (omega arith), λ e. absurd (cc))), (((refl, commit_allowed ttl), inl (refl, (omega arith), λ e. absurd (cc))), (((refl, refl), inl (refl, tt, λ e. absurd (cc))), tt))))));
  leads = record { region = key; there = in_set; first = first_base; of_first = refl; second = second_base; of_second = refl; listed = refl; cells = refl; plain = refl; first_moved = refl; second_moved = refl };
}

all_lead : (ttl : ℕ) → Leads HasLoaded 4 load_entries (m4 ttl) → Leads HasLoaded 0 entries (waiting ttl)
all_lead ttl rest = record {
  allowed = (((refl, create_allowed ttl), inl (refl, (omega arith), λ e. absurd (cc))), (((refl, write_set_allowed ttl), inl (refl, (omega arith), λ e. absurd (cc))), (((refl, commit_set_allowed ttl set_lawful), inl (refl, (omega arith), λ e. absurd (cc))), (((refl, refl), inl (refl, tt, λ e. absurd (cc))), rest.allowed))));
  leads = rest.leads;
}

pub load_met : (ttl : ℕ) → LoadIsMet ttl
unfolding replay
load_met ttl =
    let tabled = subst (Leads HasLoaded 4 load_entries) (sym (table_made ttl)) (load_leads ttl) in
    let all = subst (Leads HasLoaded 0 entries) (sym (waiting_is ttl)) (all_lead ttl tabled) in
    record { sound = begins_sound ttl; entries = entries; allowed = all.allowed; loaded = all.leads }
