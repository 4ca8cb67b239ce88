-- An operation makes of the places of files what it makes of the files.
use Rattle.std.proofs.Common.{◌≡◌, Bool, true, false, cond, ℕ, List, Option, Some, None, refl, sym, ap, subst, ◌∙◌, rules}
use Rattle.std.specs.Prelude.{is_some, option_map}
use Rattle.std.specs.FinMap.{contains_key, get, insert, remove, get-insert, get-remove}
use Rattle.std.specs.Cmp.Rules.{comparing}
use Rattle.std.specs.Cmp.{IsTotalOrder, Equal-is, tied_itself}
use Rattle.std.specs.Ordering.{eq_by_cmp, is_eq}
use Rattle.std.proofs.lemmas.Bool.{true≢false}
use Rattle.hb_cell.specs.Order.{bytes_cmp}
use Rattle.ns_tree.specs.declared.file.FileState.{FileState}
use Rattle.ns_tree.specs.Step.{with_moment}
use Rattle.reserved_map.specs.Keys.{bytes_cmp-exact}
use Rattle.core_model.specs.Disk.{Disk, Op, Nothing, Create, Rename, Remove, Touch, Publish, Withdraw, is_regular, same_site}
use Rattle.core_model.specs.Site.{Site, site_text}
use Rattle.core_sites.specs.Shows.{HasSite, IsSpelledSite, StandsAt}
use Rattle.core_sites.proofs.Regular.{regular_apart, spelled_regular}
use Rattle.core_sites.proofs.Tests.{same_site-self, same_site-true}
use Rattle.core_places.specs.Laws.{KeepsPlaces}
use Rattle.core_places.specs.Places.{ArePlaces, Places}

total : IsTotalOrder bytes_cmp
total = search (comparing, rules)

-- ---- two sites at one place

same_text : (a b : List ℕ) → eq_by_cmp bytes_cmp a b ≡ true → a ≡ b
same_text a b e = bytes_cmp-exact a b ((Equal-is (bytes_cmp a b)).0 e)

text_self : (a b : List ℕ) → a ≡ b → eq_by_cmp bytes_cmp a b ≡ true
text_self a b e = subst (λ x. eq_by_cmp bytes_cmp a x ≡ true) e (ap is_eq (tied_itself total a))

both_ways : (a b : Bool) → (a ≡ true → b ≡ true) → (b ≡ true → a ≡ true) → a ≡ b
both_ways true b f g = sym (f refl)
both_ways false true f g = g refl
both_ways false false f g = refl

one_site : (q p : Site) → is_regular q ≡ true → is_regular p ≡ true → eq_by_cmp bytes_cmp (site_text q) (site_text p) ≡ same_site q p
one_site q p h k = both_ways _ _
    (λ e. subst (λ x. same_site q x ≡ true) (regular_apart q p h k (same_text _ _ e)) (same_site-self q))
    (λ e. text_self _ _ (ap site_text (same_site-true q p e)))

-- a site that is regular is not one that is not
not_same : (q p : Site) → is_regular q ≡ false → is_regular p ≡ true → same_site q p ≡ false
not_same q p h k = both_ways _ _ (λ e. absurd (true≢false (sym k ∙ ap is_regular (sym (same_site-true q p e)) ∙ h))) (λ e. absurd (cc))

-- what stands is regular
stands_regular : (m : Places) (d : Disk) (p : Site) → ArePlaces m d → StandsAt d p → is_regular p ≡ true
stands_regular m d p h s = by (is_regular p) refl
  where
    by : (b : Bool) → is_regular p ≡ b → is_regular p ≡ true
    by true e = e
    by false e = let z : None ≡ Some s.0 = sym (h.regular p e) ∙ s.1 in absurd (cc)

-- ---- what is there

abbrev IsAlike : Option (Unit {0}) → Option FileState → Type 0
IsAlike x y = is_some x ≡ is_some y

put_alike : (a : Bool) (x : Option (Unit {0})) (f y : Option FileState) → is_some f ≡ true → IsAlike x y → IsAlike (cond a (Some tt) x) (cond a f y)
put_alike true x f y k h = sym k
put_alike false x f y k h = h

gone_alike : (a : Bool) (x : Option (Unit {0})) (y : Option FileState) → IsAlike x y → IsAlike (cond a None x) (cond a None y)
gone_alike true x y h = refl
gone_alike false x y h = h

touch_alike : (a : Bool) (x : Option (Unit {0})) (f y : Option FileState) → IsAlike x y → (a ≡ true → IsAlike x f) → IsAlike x (cond a f y)
touch_alike true x f y h k = k refl
touch_alike false x f y h k = h

moved : (moment : ℕ) (o : Option FileState) → is_some (option_map (with_moment moment) o) ≡ is_some o
moved moment None = refl
moved moment (Some f) = refl

-- a file more at a site, and one less
insert_at : (m : Places) (q p : Site) → is_regular q ≡ true → is_regular p ≡ true → get (insert m (site_text p) tt) (site_text q) ≡ cond (same_site q p) (Some tt) (get m (site_text q))
insert_at m q p h k = get-insert total m (site_text p) tt (site_text q) ∙ ap (λ b. cond b (Some tt) (get m (site_text q))) (one_site q p h k)

remove_at : (m : Places) (q p : Site) → is_regular q ≡ true → is_regular p ≡ true → get (remove m (site_text p)) (site_text q) ≡ cond (same_site q p) None (get m (site_text q))
remove_at m q p h k = get-remove total m (site_text p) (site_text q) ∙ ap (λ b. cond b None (get m (site_text q))) (one_site q p h k)

-- no other place than a site's gets a file
insert_sites : (m : Places) (p : Site) → IsSpelledSite p → ((place : List ℕ) → contains_key m place ≡ true → HasSite place) → (place : List ℕ) → contains_key (insert m (site_text p) tt) place ≡ true → HasSite place
insert_sites m p l h place e = by (eq_by_cmp bytes_cmp place (site_text p)) refl (sym (ap is_some (get-insert total m (site_text p) tt place)) ∙ e)
  where
    by : (b : Bool) → eq_by_cmp bytes_cmp place (site_text p) ≡ b → is_some (cond (eq_by_cmp bytes_cmp place (site_text p)) (Some tt) (get m place)) ≡ true → HasSite place
    by true i k = record { site = p; spelled = l; text = sym (same_text _ _ i) }
    by false i k = h place (sym (ap (λ b. is_some (cond b (Some tt) (get m place))) i) ∙ k)

remove_sites : (m : Places) (p : Site) → ((place : List ℕ) → contains_key m place ≡ true → HasSite place) → (place : List ℕ) → contains_key (remove m (site_text p)) place ≡ true → HasSite place
remove_sites m p h place e = by (eq_by_cmp bytes_cmp place (site_text p)) refl (sym (ap is_some (get-remove total m (site_text p) place)) ∙ e)
  where
    by : (b : Bool) → eq_by_cmp bytes_cmp place (site_text p) ≡ b → is_some (cond (eq_by_cmp bytes_cmp place (site_text p)) None (get m place)) ≡ true → HasSite place
    by true i k = absurd (true≢false (sym k ∙ ap (λ b. is_some (cond b None (get m place))) i))
    by false i k = h place (sym (ap (λ b. is_some (cond b None (get m place))) i) ∙ k)

-- ---- operations

pub places_kept : (o : Op) (d : Disk) (m : Places) → KeepsPlaces o d m
places_kept Nothing d m u l w h = h
places_kept (Create p bytes) d m u l w h = let k = spelled_regular p l in record {
  sites = insert_sites m p l h.sites;
  at = λ q r. ap is_some (insert_at m q p r k) ∙ put_alike (same_site q p) (get m (site_text q)) (Some (record { bytes = bytes; moment = 0 })) (d q) refl (h.at q r);
  regular = λ q r. ap (λ b. cond b (Some (record { bytes = bytes; moment = 0 })) (d q)) (not_same q p r k) ∙ h.regular q r;
}
places_kept (Rename p t) d m u l w h =
    let k = spelled_regular t l in
    let j = stands_regular m d p h w in
    record {
      sites = insert_sites (remove m (site_text p)) t l (remove_sites m p h.sites);
      at = λ q r. ap is_some (insert_at (remove m (site_text p)) q t r k)
          ∙ put_alike (same_site q t) (get (remove m (site_text p)) (site_text q)) (d p) (cond (same_site q p) None (d q)) (ap is_some w.1)
          (ap is_some (remove_at m q p r j) ∙ gone_alike (same_site q p) (get m (site_text q)) (d q) (h.at q r));
      regular = λ q r. ap (λ b. cond b (d p) (cond (same_site q p) None (d q))) (not_same q t r k) ∙ ap (λ b. cond b None (d q)) (not_same q p r j) ∙ h.regular q r;
    }
places_kept (Remove p) d m u l w h = let j = stands_regular m d p h w in record {
  sites = remove_sites m p h.sites;
  at = λ q r. ap is_some (remove_at m q p r j) ∙ gone_alike (same_site q p) (get m (site_text q)) (d q) (h.at q r);
  regular = λ q r. ap (λ b. cond b None (d q)) (not_same q p r j) ∙ h.regular q r;
}
places_kept (Touch p moment) d m u l w h = let j = stands_regular m d p h w in record {
  sites = h.sites;
  at = λ q r. touch_alike (same_site q p) (get m (site_text q)) (option_map (with_moment moment) (d p)) (d q) (h.at q r)
      (λ e. h.at q r ∙ ap (λ x. is_some (d x)) (same_site-true q p e) ∙ sym (moved moment (d p)));
  regular = λ q r. ap (λ b. cond b (option_map (with_moment moment) (d p)) (d q)) (not_same q p r j) ∙ h.regular q r;
}
places_kept (Publish name) d m u l w h = absurd u
places_kept (Withdraw name) d m u l w h = absurd u
