-- The journal is allowed, and leads to a clone over an archived file.
use Rattle.std.proofs.Common.{ℕ, List, [], ◌∷◌, refl, sym, subst, inl, arith}
use Rattle.core_model.specs.declared.journal.JournalEntry.{JournalEntry}
use Rattle.core_model.specs.Replay.{replay}
use Rattle.core_model.specs.State.{Parts}
use Rattle.core_met.proofs.Flush.{base}
use Rattle.core_met.proofs.Journal.{entry, Leads, with_table, with_shot, from_bare, shot_leads}
use Rattle.core_met.proofs.Shot.{u5}
use Rattle.core_met_clones.specs.Cloned.{HasClone, CloneIsMet}
use Rattle.core_met_clones.proofs.Cloning.{shot_taken, v, v0, copy_made, key2, clone, refer_back, link, write_list, build, write_set, commit, cloned, v7, w0, clone_made, clone_allowed, refer_back_allowed, link_allowed, write_list_allowed, build_allowed, write_set_allowed, commit_allowed}
use Rattle.core_met_clones.proofs.Dropping.{disable, write_disabled, commit_disabled, off, drop, write_dropped, commit_dropped, stamp, archive, dropped, w4, x0, x7, disable_made, disable_allowed, write_disabled_allowed, commit_disabled_allowed, drop_allowed, write_dropped_allowed, commit_dropped_allowed, stamp_allowed, archive_allowed, first_gone, second_there}
use Rattle.core_met_clones.proofs.Lawful.{key2_lawful, set2_lawful, disabled_lawful, dropped_lawful}

-- the entries that clone the table, before others
abbrev with_clone : List JournalEntry → List JournalEntry
with_clone more = entry clone ∷ entry refer_back ∷ entry link ∷ entry write_list ∷ entry build ∷ entry write_set ∷ entry commit ∷ more

-- those that disable the first
abbrev with_disabled : List JournalEntry → List JournalEntry
with_disabled more = entry cloned ∷ entry disable ∷ entry write_disabled ∷ entry commit_disabled ∷ more

-- and those that drop it and archive its file
abbrev with_dropped : List JournalEntry → List JournalEntry
with_dropped more = entry off ∷ entry drop ∷ entry write_dropped ∷ entry commit_dropped ∷ entry stamp ∷ entry archive ∷ entry dropped ∷ more

abbrev entries : List JournalEntry
entries = with_table (with_shot (entry shot_taken ∷ with_clone (with_disabled (with_dropped []))))

taken_leads : (P : Parts → Type 0) (more : List JournalEntry) (ttl : ℕ) → Leads P 18 more (v ttl) → Leads P 17 (entry shot_taken ∷ more) (u5 ttl)
taken_leads P more ttl rest = record {
  allowed = (((refl, refl), inl (refl, tt, λ e. absurd (cc))), rest.allowed);
  leads = rest.leads;
}

clone_leads : (P : Parts → Type 0) (more : List JournalEntry) (ttl : ℕ) → Leads P 25 more (v7 ttl) → Leads P 18 (with_clone more) (v0 ttl)
clone_leads P more ttl rest = record {
  allowed = (((refl, clone_allowed ttl), inl (refl, (omega arith), λ e. absurd (cc))), (((refl, refer_back_allowed ttl), inl (refl, (omega arith), λ e. absurd (cc))), (((refl, link_allowed ttl), inl (refl, (omega arith), λ e. absurd (cc))), (((refl, write_list_allowed ttl), inl (refl, (omega arith), λ e. absurd (cc))), (((refl, build_allowed ttl key2_lawful), inl (refl, (omega arith), λ e. absurd (cc))), (((refl, write_set_allowed ttl), inl (refl, (omega arith), λ e. absurd (cc))), (((refl, commit_allowed ttl set2_lawful), inl (refl, (omega arith), λ e. absurd (cc))), rest.allowed)))))));
  leads = rest.leads;
}

disable_leads : (P : Parts → Type 0) (more : List JournalEntry) (ttl : ℕ) → Leads P 29 more (w4 ttl) → Leads P 25 (with_disabled more) (w0 ttl)
disable_leads P more ttl rest = record {
  allowed = (((refl, refl), inl (refl, tt, λ e. absurd (cc))), (((refl, disable_allowed ttl), inl (refl, (omega arith), λ e. absurd (cc))), (((refl, write_disabled_allowed ttl), inl (refl, (omega arith), λ e. absurd (cc))), (((refl, commit_disabled_allowed ttl disabled_lawful), inl (refl, (omega arith), λ e. absurd (cc))), rest.allowed))));
  leads = rest.leads;
}

drop_leads : (P : Parts → Type 0) (more : List JournalEntry) (ttl : ℕ) → Leads P 36 more (x7 ttl) → Leads P 29 (with_dropped more) (x0 ttl)
drop_leads P more ttl rest = record {
  allowed = (((refl, refl), inl (refl, tt, λ e. absurd (cc))), (((refl, drop_allowed ttl), inl (refl, (omega arith), λ e. absurd (cc))), (((refl, write_dropped_allowed ttl), inl (refl, (omega arith), λ e. absurd (cc))), (((refl, commit_dropped_allowed ttl dropped_lawful), inl (refl, (omega arith), λ e. absurd (cc))), (((refl, stamp_allowed ttl), inl (refl, (omega arith), λ e. absurd (cc))), (((refl, archive_allowed ttl), inl (refl, (omega arith), λ e. absurd (cc))), (((refl, refl), inl (refl, tt, λ e. absurd (cc))), rest.allowed)))))));
  leads = rest.leads;
}

pub clone_met : (ttl : ℕ) → CloneIsMet ttl
unfolding replay
clone_met ttl =
    let last : Leads HasClone 36 [] (x7 ttl) = record { allowed = tt; leads = record { region = key2; there = second_there; file = base; listed = refl; cells = refl; dropped = first_gone; moved = refl; archive = record { bytes = []; moment = 9 }; archived = refl } } in
    let gone = subst (Leads HasClone 29 (with_dropped [])) (sym (disable_made ttl)) (drop_leads HasClone [] ttl last) in
    let disabled = subst (Leads HasClone 25 (with_disabled (with_dropped []))) (sym (clone_made ttl)) (disable_leads HasClone (with_dropped []) ttl gone) in
    let copied = subst (Leads HasClone 18 (with_clone (with_disabled (with_dropped [])))) (sym (copy_made ttl)) (clone_leads HasClone (with_disabled (with_dropped [])) ttl disabled) in
    let shot = shot_leads HasClone (entry shot_taken ∷ with_clone (with_disabled (with_dropped []))) ttl (taken_leads HasClone (with_clone (with_disabled (with_dropped []))) ttl copied) in
    let all = from_bare HasClone (with_shot (entry shot_taken ∷ with_clone (with_disabled (with_dropped [])))) ttl shot in
    record { entries = entries; allowed = all.allowed; cloned = all.leads }
