-- A store whose files stand at the places of sites refuses no operation that makes a new file of one that stands.
use Rattle.std.proofs.Common.{◌≡◌, ◌⊎◌, inl, inr, ℕ, ◌&&◌, true, false, List, ◌∷◌, nat_eq, Some, None, refl, sym, ap, ◌∙◌}
use Rattle.std.specs.Prelude.{is_some, codes}
use Rattle.std.specs.Cmp.Lexicographic.{pointwise}
use Rattle.std.specs.FinMap.{contains_key}
use Rattle.std.proofs.lemmas.Bool.{true≢false, false_from_ne_true, cond-true, cond-false, or_from, or_right}
use Rattle.hb_names.specs.SnapName.{IsSnapName}
use Rattle.ns_tree.specs.declared.file.FileState.{FileState}
use Rattle.ns_tree.specs.Places.{is_below, is_within, is_too_deep, target_of}
use Rattle.ns_tree.specs.Step as ns
use Rattle.ns_tree.specs.Tree.{Tree, is_taken, create_refusal}
use Rattle.ns_tree.proofs.Leads.{is_within-on}
use Rattle.ns_tree.proofs.Trees.{is_within-same, any_key-from, no_key}
use Rattle.core_model.specs.Disk.{Op, Nothing, Create, Rename, Remove, Touch, Publish, Withdraw, Disk, disk_of}
use Rattle.core_model.specs.Site.{Site, Info, Manifest, WorkInfo, WorkManifest, site_text}
use Rattle.core_sites.specs.Calls.{call_of, IsAccepted, snapshot_place, working_place}
use Rattle.core_sites.specs.Shows.{CanDo, IsSpelledSite, HasSite, Shows, MakesSpelled, WorksOn, MakesNew}
use Rattle.core_sites.proofs.Nested.{nested, shallow, done_apart, work_apart}
use Rattle.core_sites.proofs.Regular.{spelled_regular, is_in_snapshot, is_in_work, in_snapshot, in_work}
use Rattle.core_sites.proofs.Shown.{shown, stood, target-self, from_work, from_done}
use Rattle.core_sites.proofs.Tests.{same_bytes-true, same_bytes-self}
use Rattle.core_sites.proofs.Texts.{within_cases}

abbrev HasSites : Tree → Type 0
HasSites t = (place : List ℕ) → contains_key t place ≡ true → HasSite place

-- ---- one file

-- no file stands at or below a site where none is
taken_not : (t : Tree) (p : Site) → HasSites t → IsSpelledSite p → disk_of t p ≡ None → is_taken (site_text p) t ≡ false
taken_not t p rows l e = no_key (is_within (site_text p)) t (λ q s. let row = rows q s in false_from_ne_true _ (λ w. within_cases (site_text p) q w
    (λ i. let z : true ≡ false = sym s ∙ ap (contains_key t) (sym i) ∙ ap is_some (sym (shown t p (spelled_regular p l)) ∙ e) in absurd (cc))
    (λ b. true≢false (sym b ∙ ap (is_below (site_text p)) (sym row.text) ∙ nested p row.site l row.spelled))))

create_free : (t : Tree) (p : Site) → HasSites t → IsSpelledSite p → disk_of t p ≡ None → create_refusal (site_text p) t ≡ None
create_free t p rows l e =
    cond-false _ _ _ (taken_not t p rows l e)
    ∙ cond-false _ _ _ (no_key (λ file. is_below file (site_text p)) t (λ q s. let row = rows q s in ap (λ x. is_below x (site_text p)) (sym row.text) ∙ nested row.site p row.spelled l))

rename_free : (t : Tree) (p r : Site) (f : FileState) → HasSites t → disk_of t p ≡ Some f → IsSpelledSite r → disk_of t r ≡ None → ns.refusal (ns.Rename (site_text p) (site_text r)) t ≡ None
rename_free t p r f rows i l e =
    cond-true _ _ _ (any_key-from (is_within from) t from stands (is_within-same from))
    ∙ cond-false _ _ _ (or_from (is_below from to) _
    (ap (λ x. is_below x to) (sym row.text) ∙ nested row.site r row.spelled l)
    (no_key (λ place. is_within from place && is_too_deep (target_of from to place)) t deep))
    ∙ create_free t r rows l e
  where
    from : List ℕ
    from = site_text p

    to : List ℕ
    to = site_text r

    stands : contains_key t from ≡ true
    stands = ap is_some (stood t p f i).1

    row : HasSite from
    row = rows from stands

    deep : (k : List ℕ) → contains_key t k ≡ true → (is_within from k && is_too_deep (target_of from to k)) ≡ false
    deep k s = (elim (is_within from k) as (λ b. is_within from k ≡ b → (b && is_too_deep (target_of from to k)) ≡ false) [
      | true ↦ λ w. within_cases from k w
          (λ j. ap (λ x. is_too_deep (target_of from to x)) (sym j) ∙ ap is_too_deep (target-self from to) ∙ shallow r l)
          (λ b. let one = rows k s in absurd (true≢false (sym b ∙ ap (λ x. is_below x k) (sym row.text) ∙ ap (is_below (site_text row.site)) (sym one.text) ∙ nested row.site one.site row.spelled one.spelled)))
      | false ↦ λ w. refl
    ]) refl

change_free : (t : Tree) (p : Site) (f : FileState) → disk_of t p ≡ Some f → ns.change_refusal (site_text p) t ≡ None
change_free t p f e = cond-true _ _ _ (ap is_some (stood t p f e).1)

-- ---- a directory of two files

-- what the directory that moves has, and that which it becomes
record IsMove (t : Tree) (from to : List ℕ) (a c p q : Site) : Type 0 where
  inside : (x : Site) → IsSpelledSite x → is_within from (site_text x) ≡ true → (x ≡ a) ⊎ (x ≡ c)
  beyond : (x : Site) → IsSpelledSite x → is_within to (site_text x) ≡ true → (x ≡ p) ⊎ (x ≡ q)
  file : FileState
  stands : disk_of t a ≡ Some file
  first : is_within from (site_text a) ≡ true
  none_p : disk_of t p ≡ None
  none_q : disk_of t q ≡ None
  target_p : is_within to (site_text p) ≡ true
  spelled_p : IsSpelledSite p
  spelled_q : IsSpelledSite q
  goes_p : target_of from to (site_text a) ≡ site_text p
  goes_q : target_of from to (site_text c) ≡ site_text q
  apart : is_below from to ≡ false

dir_free : (t : Tree) (from to : List ℕ) (a c p q : Site) → HasSites t → IsMove t from to a c p q → ns.refusal (ns.Rename from to) t ≡ None
dir_free t from to a c p q rows m =
    cond-true _ _ _ (any_key-from (is_within from) t (site_text a) (ap is_some (stood t a m.file m.stands).1) m.first)
    ∙ cond-false _ _ _ (or_from (is_below from to) _ m.apart (no_key (λ place. is_within from place && is_too_deep (target_of from to place)) t deep))
    ∙ cond-false _ _ _ (no_key (is_within to) t (λ k s. false_from_ne_true _ (λ w. let row = rows k s in
    elim (m.beyond row.site row.spelled (ap (is_within to) row.text ∙ w)) [
      | inl e ↦ missing p k m.spelled_p m.none_p (ap site_text (sym e) ∙ row.text) s
      | inr e ↦ missing q k m.spelled_q m.none_q (ap site_text (sym e) ∙ row.text) s
    ])))
    ∙ cond-false _ _ _ (no_key (λ file. is_below file to) t (λ k s. false_from_ne_true _ (λ b. let row = rows k s in
    within_cases k (site_text p) (is_within-on k to (site_text p) (or_right (pointwise nat_eq k to) _ b) m.target_p)
    (λ e. missing p k m.spelled_p m.none_p (sym e) s)
    (λ e. true≢false (sym e ∙ ap (λ x. is_below x (site_text p)) (sym row.text) ∙ nested row.site p row.spelled m.spelled_p)))))
  where
    missing : (x : Site) (k : List ℕ) → IsSpelledSite x → disk_of t x ≡ None → site_text x ≡ k → contains_key t k ≡ true → ⊥
    missing x k l n e s = let z : true ≡ false = sym s ∙ ap (contains_key t) (sym e) ∙ ap is_some (sym (shown t x (spelled_regular x l)) ∙ n) in absurd (cc)

    deep : (k : List ℕ) → contains_key t k ≡ true → (is_within from k && is_too_deep (target_of from to k)) ≡ false
    deep k s = (elim (is_within from k) as (λ b. is_within from k ≡ b → (b && is_too_deep (target_of from to k)) ≡ false) [
      | true ↦ λ w. let row = rows k s in elim (m.inside row.site row.spelled (ap (is_within from) row.text ∙ w)) [
        | inl e ↦ ap (λ x. is_too_deep (target_of from to x)) (sym row.text ∙ ap site_text e) ∙ ap is_too_deep m.goes_p ∙ shallow p m.spelled_p
        | inr e ↦ ap (λ x. is_too_deep (target_of from to x)) (sym row.text ∙ ap site_text e) ∙ ap is_too_deep m.goes_q ∙ shallow q m.spelled_q
      ]
      | false ↦ λ w. refl
    ]) refl

work_cases : (n : List ℕ) (x : Site) → is_in_work n x ≡ true → (x ≡ WorkInfo n) ⊎ (x ≡ WorkManifest n)
work_cases n (WorkInfo m) e = inl (ap WorkInfo (sym (same_bytes-true n m e)))
work_cases n (WorkManifest m) e = inr (ap WorkManifest (sym (same_bytes-true n m e)))
work_cases n _ e = absurd (cc)

snapshot_cases : (n : List ℕ) (x : Site) → is_in_snapshot n x ≡ true → (x ≡ Info n) ⊎ (x ≡ Manifest n)
snapshot_cases n (Info m) e = inl (ap Info (sym (same_bytes-true n m e)))
snapshot_cases n (Manifest m) e = inr (ap Manifest (sym (same_bytes-true n m e)))
snapshot_cases n _ e = absurd (cc)

publish_free : (t : Tree) (n : List ℕ) (f : FileState) → HasSites t → IsSnapName n → disk_of t (WorkInfo n) ≡ Some f → disk_of t (Info n) ≡ None → disk_of t (Manifest n) ≡ None
    → ns.refusal (ns.Rename (working_place n) (snapshot_place n)) t ≡ None
publish_free t n f rows l e i m = dir_free t (working_place n) (snapshot_place n) (WorkInfo n) (WorkManifest n) (Info n) (Manifest n) rows (record {
  inside = λ x k w. work_cases n x (sym (in_work n l x (spelled_regular x k)) ∙ w);
  beyond = λ x k w. snapshot_cases n x (sym (in_snapshot n l x (spelled_regular x k)) ∙ w);
  file = f;
  stands = e;
  first = in_work n l (WorkInfo n) (spelled_regular (WorkInfo n) l) ∙ same_bytes-self n;
  none_p = i;
  none_q = m;
  target_p = in_snapshot n l (Info n) (spelled_regular (Info n) l) ∙ same_bytes-self n;
  spelled_p = l;
  spelled_q = l;
  goes_p = from_done n (47 ∷ codes ".snapshotinfo");
  goes_q = from_done n (47 ∷ codes "data.manifest");
  apart = done_apart n l;
})

withdraw_free : (t : Tree) (n : List ℕ) (f : FileState) → HasSites t → IsSnapName n → disk_of t (Info n) ≡ Some f → disk_of t (WorkInfo n) ≡ None → disk_of t (WorkManifest n) ≡ None
    → ns.refusal (ns.Rename (snapshot_place n) (working_place n)) t ≡ None
withdraw_free t n f rows l e i m = dir_free t (snapshot_place n) (working_place n) (Info n) (Manifest n) (WorkInfo n) (WorkManifest n) rows (record {
  inside = λ x k w. snapshot_cases n x (sym (in_snapshot n l x (spelled_regular x k)) ∙ w);
  beyond = λ x k w. work_cases n x (sym (in_work n l x (spelled_regular x k)) ∙ w);
  file = f;
  stands = e;
  first = in_snapshot n l (Info n) (spelled_regular (Info n) l) ∙ same_bytes-self n;
  none_p = i;
  none_q = m;
  target_p = in_work n l (WorkInfo n) (spelled_regular (WorkInfo n) l) ∙ same_bytes-self n;
  spelled_p = l;
  spelled_q = l;
  goes_p = from_work n (47 ∷ codes ".snapshotinfo");
  goes_q = from_work n (47 ∷ codes "data.manifest");
  apart = work_apart n l;
})

-- ---- all operations

accepted_by : (o : Op) (t : Tree) (d : Disk) → HasSites t → Shows t d → MakesSpelled o → WorksOn o d → MakesNew o d → IsAccepted (call_of o) t
accepted_by Nothing t d rows h l w n = tt
accepted_by (Create p bytes) t d rows h l w n = create_free t p rows l (h.at p ∙ n)
accepted_by (Rename p r) t d rows h l w n = rename_free t p r w.0 rows (h.at p ∙ w.1) l (h.at r ∙ n)
accepted_by (Remove p) t d rows h l w n = change_free t p w.0 (h.at p ∙ w.1)
accepted_by (Touch p moment) t d rows h l w n = change_free t p w.0 (h.at p ∙ w.1)
accepted_by (Publish m) t d rows h l w n = publish_free t m w.0 rows l (h.at (WorkInfo m) ∙ w.1) (h.at (Info m) ∙ n.0) (h.at (Manifest m) ∙ n.1)
accepted_by (Withdraw m) t d rows h l w n = withdraw_free t m w.0 rows l (h.at (Info m) ∙ w.1) (h.at (WorkInfo m) ∙ n.0) (h.at (WorkManifest m) ∙ n.1)

pub accepted : (o : Op) (t : Tree) (d : Disk) → CanDo o d → Shows t d → IsAccepted (call_of o) t
accepted o t d c h = accepted_by o t d h.sites h c.spelled c.works c.new
