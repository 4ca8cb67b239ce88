-- Each allowed step keeps what is sound.
use Rattle.std.proofs.Common.{◌≤◌}
use Rattle.core_model.specs.declared.step.Step.{Step}
use Rattle.core_model.specs.Allows.{Allows}
use Rattle.core_model.specs.Replay.{after}
use Rattle.core_model.specs.Sound.{IsSound}
use Rattle.core_model.specs.State.{Parts}
use Rattle.core_sound.proofs.BuiltKept.{built_kept}
use Rattle.core_sound.proofs.FilesKept.{archived_lawful_kept}
use Rattle.core_sound.proofs.FitsKept.{fits_kept, jobs_kept}
use Rattle.core_sound.proofs.HoldsKept.{apart_kept}
use Rattle.core_sound.proofs.LawfulKept as lawful
use Rattle.core_sound.proofs.LawfulKept.{waiting_kept}
use Rattle.core_sound.proofs.ListedKept.{listed_kept}
use Rattle.core_sound.proofs.LiveKept.{captures_held}
use Rattle.core_sound.proofs.NamesKept.{names_kept, one_place_kept, tmps_apart_kept}
use Rattle.core_sound.proofs.NumbersKept.{numbered_kept, pass_held_kept}
use Rattle.core_sound.proofs.OwnersKept.{owners_kept}
use Rattle.core_sound.proofs.PassKept.{pass_kept}
use Rattle.core_sound.proofs.PlacesKept.{backs_kept, places_kept}
use Rattle.core_sound.proofs.PlansKept.{once_kept}
use Rattle.core_sound.proofs.SnapshotsKept.{snapshots_kept, uses_kept}
use Rattle.core_sound.proofs.SourcesKept.{sources_kept}
use Rattle.core_sound.proofs.StandKept.{pinned_kept}
use Rattle.core_sound.proofs.TablesKept.{own_kept}
use Rattle.core_sound.proofs.TakenKept.{alike_kept, taken_kept}
use Rattle.core_sound.proofs.TmpsKept.{drawn_kept}

pub sound_kept : (p : Step) (s : Parts) → s.files ≤ 4_194_304 → Allows p s → IsSound s → IsSound (after p s)
sound_kept p s few a h = record {
  names = names_kept p s a h few;
  known_tmps = drawn_kept p s a h;
  tmps_apart = tmps_apart_kept p s a few h;
  one_place = one_place_kept p s a few h;
  archived_lawful = archived_lawful_kept p s a h;
  places = record { at = places_kept p s a h };
  lawful = lawful.names_kept p s a h;
  back_refs = backs_kept p s a h;
  listed = listed_kept p s a h;
  pinned = pinned_kept p s a h;
  waiting = waiting_kept p s a h;
  own_regions = own_kept p s a h;
  alike = alike_kept p s a h;
  numbered = numbered_kept p s a h;
  apart = apart_kept p s a h;
  fits = fits_kept p s a h;
  uses = uses_kept p s a h;
  jobs = jobs_kept p s a h.jobs;
  held = snapshots_kept p s a h;
  taken = taken_kept p s a h;
  once = once_kept p s a h;
  built = built_kept p s a h;
  sources = sources_kept p s a h;
  captures = captures_held p s a h;
  owners = owners_kept p s a h;
  pass_held = pass_held_kept p s a h;
  pass = pass_kept p s a h;
}
