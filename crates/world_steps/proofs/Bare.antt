-- The first opening of a store without files.
use Rattle.std.proofs.Common.{◌≡◌, ℕ, [], refl, sym, ap, subst, ◌∙◌}
use Rattle.std.specs.Prelude.{is_some}
use Rattle.std.specs.FinMap.{get-empty, get-from_entries}
use Rattle.std.specs.Cmp.Lexicographic.{nat_list_cmp_total}
use Rattle.std.proofs.lemmas.Bool.{false≢true}
use Rattle.hb_layout.specs.Lawful.{IsEpoch}
use Rattle.core_bytes.specs.Stored.{table_in_set}
use Rattle.core_model.specs.declared.found.Found.{Found}
use Rattle.core_model.specs.declared.opening.Opening.{Opening}
use Rattle.core_sound.specs.Laws.{bare_opening}
use Rattle.core_sound.proofs.Bare.{bare_sound}
use Rattle.core_trees.proofs.Shown.{bare_begins}
use Rattle.world_state.specs.Opened.{HasFound}
use Rattle.world_steps.specs.World.{IsOpened}

bare_opened : (epoch ttl : ℕ) → IsEpoch epoch → IsOpened (bare_opening epoch ttl)
bare_opened epoch ttl e = record {
  sound = bare_sound epoch ttl;
  told = bare_begins epoch ttl;
  epoch = e;
  tables = record { at = λ t. get-from_entries nat_list_cmp_total [] t ∙ sym (ap table_in_set (get-from_entries nat_list_cmp_total [] t)) };
}

bare_found : (epoch ttl : ℕ) → HasFound (bare_opening epoch ttl) (record { places = []; cells = []; lists = []; sets = []; snapshots = [] })
bare_found epoch ttl = record {
  same = refl;
  places = λ place. (λ e. absurd (false≢true (sym (ap is_some (get-empty _ place)) ∙ e)), λ m. absurd m);
  sites = λ place m. absurd m;
}

pub opened_bare : (o : Opening) (epoch ttl : ℕ) → o ≡ bare_opening epoch ttl → IsEpoch epoch → IsOpened o
opened_bare o epoch ttl e i = subst IsOpened (sym e) (bare_opened epoch ttl i)

pub found_bare : (o : Opening) (f : Found) (epoch ttl : ℕ) → o ≡ bare_opening epoch ttl → f ≡ record { places = []; cells = []; lists = []; sets = []; snapshots = [] } → HasFound o f
found_bare o f epoch ttl e i = subst (λ (x : Opening). HasFound x f) (sym e) (subst (HasFound (bare_opening epoch ttl)) (sym i) (bare_found epoch ttl))
