-- A store without files begins faithful.
use Rattle.std.proofs.Common.{◌≡◌, ℕ, List, Some, None, refl, sym, ◌∙◌, subst, inl, inr}
use Rattle.std.specs.FinMap.{empty, get, get-empty}
use Rattle.hb_cell.specs.Order.{bytes_cmp}
use Rattle.plain_model.specs.declared.region_key.RegionKey.{RegionKey}
use Rattle.core_model.specs.Actors.{IsRegion}
use Rattle.core_model.specs.Opened.{opened}
use Rattle.core_sound.specs.Laws.{bare_opening}
use Rattle.core_contents.specs.ContentFacts.{Copies}
use Rattle.core_contents.specs.Faithful.{IsFaithful}

no_key : {X P : Type 0} (name : List ℕ) (x : X) → get (empty {R = bytes_cmp}) name ≡ Some x → P
no_key {X} name x e = let z : None ≡ Some x = sym (get-empty bytes_cmp name) ∙ e in absurd (cc)

no_region : {P : Type 0} (r : RegionKey) → IsRegion empty r → P
no_region r (inl i) = no_key r.table i.table i.stands
no_region r (inr i) = no_key r.table i.table i.stands

pub bare_faithful : (epoch ttl : ℕ) → IsFaithful (opened (bare_opening epoch ttl))
bare_faithful epoch ttl = record {
  contents = record { at = λ r i. no_region r i };
  kept = record { at = λ r i. no_region r i };
  copied = record { at = λ a r. tt };
  copies = record { at = λ name. subst (λ o. Copies (opened (bare_opening epoch ttl)).made o (get (empty {R = bytes_cmp}) name)) (sym (get-empty bytes_cmp name)) (subst (λ o. Copies (opened (bare_opening epoch ttl)).made None o) (sym (get-empty bytes_cmp name)) tt) };
  exact = record { at = λ a n. absurd (n refl) };
  numbers = record { at = λ a i m. absurd m };
  fronts = record { at = λ a r pin e. absurd (cc) };
  families = record {
    listed = λ r e i m. no_region r i;
    completed = λ name x e i m. no_key name x i;
    captured = λ a r l e i m. absurd (cc);
    planned = λ a x m. absurd m;
    pinned = λ a p e m n. absurd m;
  };
}
