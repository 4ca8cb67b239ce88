-- The journal is allowed, and leads to a split region and two halves.
use Rattle.std.proofs.Common.{ℕ, List, [], ◌∷◌, refl, sym, subst, inl, inr, arith}
use Rattle.core_model.specs.declared.journal.JournalEntry.{JournalEntry}
use Rattle.core_model.specs.Replay.{replay}
use Rattle.core_met.proofs.Begin.{info, key, key_is}
use Rattle.core_met.proofs.Flush.{base, t7}
use Rattle.core_met.proofs.Journal.{entry, Leads, with_table, from_bare}
use Rattle.core_met.proofs.Shot.{flushed}
use Rattle.core_met_splits.specs.Halved.{HasSplit, SplitIsMet}
use Rattle.core_met_splits.proofs.Lawful.{low_lawful, high_lawful, set2_lawful}
use Rattle.core_met_splits.proofs.Splitting.{low, high, low_key, high_key, low_is, high_is, tab2, split, low_back, halve_low, high_back, halve_high, write_low, build_low, write_high, build_high, write_set, commit, halved, h, h1, h11, k0, split_begun, split_made, split_allowed, low_back_allowed, halve_low_allowed, high_back_allowed, halve_high_allowed, write_low_allowed, build_low_allowed, write_high_allowed, build_high_allowed, write_set_allowed, commit_allowed, table_there}

-- the entries that build the two regions, before others
abbrev with_halves : List JournalEntry → List JournalEntry
with_halves more = entry low_back ∷ entry halve_low ∷ entry high_back ∷ entry halve_high ∷ entry write_low ∷ entry build_low ∷ entry write_high ∷ entry build_high ∷ entry write_set ∷ entry commit ∷ more

abbrev split_entries : List JournalEntry
split_entries = entry flushed ∷ entry split ∷ with_halves (entry halved ∷ [])

end_leads : (ttl : ℕ) → Leads HasSplit 23 (entry halved ∷ []) (k0 ttl)
end_leads ttl = record {
  allowed = (((refl, refl), inl (refl, tt, λ e. absurd (cc))), tt);
  leads = record {
    parent = key;
    split = record { table = tab2; stands = table_there; info = info; listed = inl refl; key = key_is };
    lower = low_key;
    lower_open = record { table = tab2; stands = table_there; info = low; listed = inr (inl refl); key = low_is };
    upper = high_key;
    upper_open = record { table = tab2; stands = table_there; info = high; listed = inr (inr (inl refl)); key = high_is };
    file = base;
    lower_half = record { listed = refl; pointer = record { bytes = []; moment = 0 }; stands = refl };
    upper_half = record { listed = refl; pointer = record { bytes = []; moment = 0 }; stands = refl };
    lower_cells = refl;
    upper_cells = refl;
  };
}

halves_lead : (ttl : ℕ) → Leads HasSplit 23 (entry halved ∷ []) (h11 ttl) → Leads HasSplit 13 (with_halves (entry halved ∷ [])) (h1 ttl)
halves_lead ttl rest = record {
  allowed = (((refl, low_back_allowed ttl), inl (refl, (omega arith), λ e. absurd (cc))), (((refl, halve_low_allowed ttl), inl (refl, (omega arith), λ e. absurd (cc))), (((refl, high_back_allowed ttl), inl (refl, (omega arith), λ e. absurd (cc))), (((refl, halve_high_allowed ttl), inl (refl, (omega arith), λ e. absurd (cc))), (((refl, write_low_allowed ttl), inl (refl, (omega arith), λ e. absurd (cc))), (((refl, build_low_allowed ttl low_lawful), inl (refl, (omega arith), λ e. absurd (cc))), (((refl, write_high_allowed ttl), inl (refl, (omega arith), λ e. absurd (cc))), (((refl, build_high_allowed ttl high_lawful), inl (refl, (omega arith), λ e. absurd (cc))), (((refl, write_set_allowed ttl), inl (refl, (omega arith), λ e. absurd (cc))), (((refl, commit_allowed ttl set2_lawful), inl (refl, (omega arith), λ e. absurd (cc))), rest.allowed))))))))));
  leads = rest.leads;
}

start_leads : (ttl : ℕ) → Leads HasSplit 13 (with_halves (entry halved ∷ [])) (h ttl) → Leads HasSplit 11 split_entries (t7 ttl)
start_leads ttl rest = record {
  allowed = (((refl, refl), inl (refl, tt, λ e. absurd (cc))), (((refl, split_allowed ttl), inl (refl, (omega arith), λ e. absurd (cc))), rest.allowed));
  leads = rest.leads;
}

pub split_met : (ttl : ℕ) → SplitIsMet ttl
unfolding replay
split_met ttl =
    let ended = subst (Leads HasSplit 23 (entry halved ∷ [])) (sym (split_made ttl)) (end_leads ttl) in
    let begun = subst (Leads HasSplit 13 (with_halves (entry halved ∷ []))) (sym (split_begun ttl)) (halves_lead ttl ended) in
    let all = from_bare HasSplit split_entries ttl (start_leads ttl begun) in
    record { entries = with_table split_entries; allowed = all.allowed; split = all.leads }
