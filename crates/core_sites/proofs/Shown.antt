-- What an operation makes of a tree is what it makes of the disk that the tree shows.
use Rattle.std.proofs.Common.{◌≡◌, ◌⊎◌, ℕ, Bool, true, false, cond, List, [], ◌∷◌, ◌++◌, Option, Some, None, refl, sym, ap, ◌∙◌, subst, inl, inr, append_assoc, nat_cmp}
use Rattle.std.specs.Prelude.{length, drop, option_map, is_some, codes}
use Rattle.std.specs.FinMap.{get, insert, remove, contains_key, get-insert, get-remove}
use Rattle.std.specs.Ordering.{eq_by_cmp}
use Rattle.std.specs.Cmp.{both_ways}
use Rattle.std.specs.Cmp.Lexicographic.{slice_cmp, nat_list_cmp_total}
use Rattle.std.proofs.lemmas.List.{append-nil}
use Rattle.std.proofs.lemmas.Bool.{true≢false, false_from_ne_true, or_cases, and_parts, cond-true, cond-false}
use Rattle.hb_cell.specs.Order.{same_bytes}
use Rattle.hb_layout.proofs.LawfulLemmas.{IsPlace-place_text}
use Rattle.hb_names.specs.SnapName.{IsSnapName}
use Rattle.ns_tree.specs.declared.file.FileState.{FileState}
use Rattle.ns_tree.specs.Places.{is_below, is_within, target_of}
use Rattle.ns_tree.specs.Moves.{IsMovable}
use Rattle.ns_tree.specs.Step as ns
use Rattle.ns_tree.specs.Tree.{Tree, IsTree}
use Rattle.ns_tree.proofs.Below.{is_below-same}
use Rattle.ns_tree.proofs.CallLaws.{get-rename, get-change}
use Rattle.ns_tree.proofs.Leads.{is_within-target, target_of-target_of}
use Rattle.ns_tree.proofs.Renaming.{IsTree-renamed, IsMovable-renamable}
use Rattle.ns_tree.proofs.Trees.{same_text, tied_itself, is_within-same, any_key-none, contains_key-insert, contains_key-remove, IsTree-insert, IsTree-replace, IsTree-remove}
use Rattle.core_model.specs.Disk.{same_site, is_regular, disk_of, Disk, Op, Nothing, Create, Rename, Remove, Touch, Publish, Withdraw, disk_after, published, withdrawn}
use Rattle.core_model.specs.Site.{Site, Info, Manifest, WorkInfo, WorkManifest, spot_of, site_text}
use Rattle.core_sites.specs.Calls.{call_of, tree_after, IsAccepted, snapshot_place, working_place}
use Rattle.core_sites.specs.Shows.{IsSpelledSite, HasSite, Shows, MakesSpelled, WorksOn}
use Rattle.core_sites.proofs.Regular.{regular_apart, spelled_regular, snapshot_is_place, working_is_place, is_in_snapshot, is_in_work, in_snapshot, in_work}
use Rattle.core_sites.proofs.Tests.{same_bytes-true, same_bytes-self, same_site-true, same_site-self}
use Rattle.core_sites.proofs.Texts.{within_cases}

-- what a choice gives, by either side
cond_cases : {A P : Type 0} (b : Bool) (x o y : A) → cond b x o ≡ y → (b ≡ true → x ≡ y → P) → (b ≡ false → o ≡ y → P) → P
cond_cases true x o y e f g = f refl e
cond_cases false x o y e f g = g refl e

-- the texts of two regular sites tie exactly where the sites are the same
ties : (p q : Site) → is_regular p ≡ true → is_regular q ≡ true → eq_by_cmp (slice_cmp nat_cmp) (site_text q) (site_text p) ≡ same_site q p
ties p q h k = both_ways _ _
    (λ e. ap (same_site q) (regular_apart p q h k (sym (same_text (site_text q) (site_text p) e))) ∙ same_site-self q)
    (λ e. ap (λ x. eq_by_cmp (slice_cmp nat_cmp) (site_text q) (site_text x)) (sym (same_site-true q p e)) ∙ tied_itself (site_text q))

-- ---- one file

-- what is put at the place of one site
put_at : (t u : Tree) (p q : Site) (o : Option FileState) → is_regular p ≡ true
    → ((x : List ℕ) → get u x ≡ cond (eq_by_cmp (slice_cmp nat_cmp) x (site_text p)) o (get t x)) → disk_of u q ≡ cond (same_site q p) o (disk_of t q)
put_at t u p q o h k = (elim (is_regular q) as (λ b. is_regular q ≡ b → cond b (get u (site_text q)) None ≡ cond (same_site q p) o (cond b (get t (site_text q)) None)) [
  | true ↦ λ e. k (site_text q) ∙ ap (λ b. cond b o (get t (site_text q))) (ties p q h e)
  | false ↦ λ e. (elim (same_site q p) as (λ b. same_site q p ≡ b → None ≡ cond b o None) [
    | true ↦ λ d. let z : true ≡ false = sym h ∙ ap is_regular (sym (same_site-true q p d)) ∙ e in absurd (cc)
    | false ↦ λ d. refl
  ]) refl
]) refl

pub stood : (t : Tree) (p : Site) (f : FileState) → disk_of t p ≡ Some f → (is_regular p ≡ true) × (get t (site_text p) ≡ Some f)
stood t p f e = cond_cases (is_regular p) (get t (site_text p)) None (Some f) e (λ d i. (d, i)) (λ d i. absurd (cc))

none_from : (o : Option FileState) → is_some o ≡ false → o ≡ None
none_from None e = refl
none_from (Some f) e = absurd (cc)

-- below a file stands none
below_none : (t : Tree) (file q : List ℕ) (f : FileState) → IsTree t → get t file ≡ Some f → is_below file q ≡ true → get t q ≡ None
below_none t file q f tree e b = none_from (get t q) (tree.apart file q (ap is_some e) b)

drop_front : (p a : List ℕ) → drop (length p) (p ++ a) ≡ a
drop_front [] a = refl
drop_front (x ∷ p) a = drop_front p a

pub target-self : (from to : List ℕ) → target_of from to from ≡ to
target-self from to = ap (λ x. to ++ drop (length from) x) (sym (append-nil from)) ∙ ap (λ x. to ++ x) (drop_front from []) ∙ append-nil to

-- a file that moves to where none stands
moved_get : (t : Tree) (from to q : List ℕ) (f : FileState) → IsTree t → get t from ≡ Some f → ns.refusal (ns.Rename from to) t ≡ None
    → get (ns.moved from to t) q ≡ cond (eq_by_cmp (slice_cmp nat_cmp) q to) (Some f) (cond (eq_by_cmp (slice_cmp nat_cmp) q from) None (get t q))
moved_get t from to q f tree e none = get-rename from to t q none ∙ by (is_within to q) (is_within from q) refl refl
  where
    can : IsMovable from to t
    can = IsMovable-renamable from to t none

    by : (a b : Bool) → is_within to q ≡ a → is_within from q ≡ b
        → cond a (get t (target_of to from q)) (cond b None (get t q)) ≡ cond (eq_by_cmp (slice_cmp nat_cmp) q to) (Some f) (cond (eq_by_cmp (slice_cmp nat_cmp) q from) None (get t q))
    by true b w v = within_cases to q w
        (λ i. ap (get t) (ap (target_of to from) (sym i) ∙ target-self to from) ∙ e ∙ sym (cond-true _ _ _ (ap (λ x. eq_by_cmp (slice_cmp nat_cmp) x to) (sym i) ∙ tied_itself to)))
        (λ i. within_cases from (target_of to from q) (is_within-target to from q w)
        (λ j. let k : q ≡ to = sym (target_of-target_of to from q w) ∙ ap (target_of from to) (sym j) ∙ target-self from to in
        ap (get t) (sym j) ∙ e ∙ sym (cond-true _ _ _ (ap (λ x. eq_by_cmp (slice_cmp nat_cmp) x to) k ∙ tied_itself to)))
        (λ j. below_none t from (target_of to from q) f tree e j ∙ sym (apart_at i)))
      where
        apart_at : is_below to q ≡ true → cond (eq_by_cmp (slice_cmp nat_cmp) q to) (Some f) (cond (eq_by_cmp (slice_cmp nat_cmp) q from) None (get t q)) ≡ None
        apart_at i = (elim (eq_by_cmp (slice_cmp nat_cmp) q to) as (λ x. eq_by_cmp (slice_cmp nat_cmp) q to ≡ x → cond x (Some f) (cond (eq_by_cmp (slice_cmp nat_cmp) q from) None (get t q)) ≡ None) [
          | true ↦ λ d. absurd (true≢false (sym i ∙ ap (is_below to) (same_text q to d) ∙ is_below-itself))
          | false ↦ λ d. (elim (eq_by_cmp (slice_cmp nat_cmp) q from) as (λ x. cond x None (get t q) ≡ None) [ true ↦ refl | false ↦ none_from (get t q) unstanding ])
        ]) refl
          where
            is_below-itself : is_below to to ≡ false
            is_below-itself = is_below-same to

            unstanding : contains_key t q ≡ false
            unstanding = false_from_ne_true _ (λ s. true≢false (sym w ∙ any_key-none (is_within to) t q can.free s))
    by false true w v = sym (cond-false _ _ _ (false_from_ne_true _ (λ d. true≢false (sym (is_within-same to) ∙ ap (is_within to) (sym (same_text q to d)) ∙ w)))
        ∙ within_cases from q v
        (λ i. cond-true _ _ _ (ap (eq_by_cmp (slice_cmp nat_cmp) q) i ∙ tied_itself q))
        (λ i. (elim (eq_by_cmp (slice_cmp nat_cmp) q from) as (λ x. cond x None (get t q) ≡ None) [ true ↦ refl | false ↦ below_none t from q f tree e i ])))
    by false false w v = sym (cond-false _ _ _ (false_from_ne_true _ (λ d. true≢false (sym (is_within-same to) ∙ ap (is_within to) (sym (same_text q to d)) ∙ w)))
        ∙ cond-false _ _ _ (false_from_ne_true _ (λ d. true≢false (sym (is_within-same from) ∙ ap (is_within from) (sym (same_text q from d)) ∙ v))))

-- ---- a snapshot's directory

-- a site's place in the tree, and that of none
pub shown : (t : Tree) (q : Site) → is_regular q ≡ true → disk_of t q ≡ get t (site_text q)
shown t q h = ap (λ b. cond b (get t (site_text q)) None) h

none_at : (t : Tree) (q : Site) → is_regular q ≡ false → disk_of t q ≡ None
none_at t q h = ap (λ b. cond b (get t (site_text q)) None) h

target-front : (from to rest : List ℕ) → target_of from to (from ++ rest) ≡ to ++ rest
target-front from to rest = ap (λ x. to ++ x) (drop_front from rest)

abbrev head : List ℕ
head = codes ".hbase-snapshot"

abbrev work : List ℕ
work = codes ".tmp"

in_done : (n rest : List ℕ) → head ++ (47 ∷ (n ++ rest)) ≡ snapshot_place n ++ rest
in_done n rest = sym (append_assoc head (47 ∷ n) rest)

in_working : (n rest : List ℕ) → head ++ (47 ∷ (work ++ (47 ∷ (n ++ rest)))) ≡ working_place n ++ rest
in_working n rest = sym (append_assoc head (47 ∷ (work ++ (47 ∷ n))) rest ∙ ap (λ x. head ++ (47 ∷ x)) (append_assoc work (47 ∷ n) rest))

-- where the files of a snapshot come from, each way
pub from_work : (n rest : List ℕ) → target_of (snapshot_place n) (working_place n) (head ++ (47 ∷ (n ++ rest))) ≡ head ++ (47 ∷ (work ++ (47 ∷ (n ++ rest))))
from_work n rest = ap (target_of (snapshot_place n) (working_place n)) (in_done n rest) ∙ target-front (snapshot_place n) (working_place n) rest ∙ sym (in_working n rest)

pub from_done : (n rest : List ℕ) → target_of (working_place n) (snapshot_place n) (head ++ (47 ∷ (work ++ (47 ∷ (n ++ rest))))) ≡ head ++ (47 ∷ (n ++ rest))
from_done n rest = ap (target_of (working_place n) (snapshot_place n)) (in_working n rest) ∙ target-front (working_place n) (snapshot_place n) rest ∙ sym (in_done n rest)

-- a name compared either way
turned : (m n : List ℕ) → same_bytes n m ≡ same_bytes m n
turned m n = both_ways _ _ (λ e. ap (same_bytes m) (same_bytes-true n m e) ∙ same_bytes-self m) (λ e. ap (same_bytes n) (same_bytes-true m n e) ∙ same_bytes-self n)

-- a file of the directory, which is there or not
dir_file : (t : Tree) (m n : List ℕ) (to from : List ℕ) (q r : Site) → is_regular q ≡ true → is_regular r ≡ true → (m ≡ n → target_of to from (site_text q) ≡ site_text r)
    → cond (same_bytes n m) (get t (target_of to from (site_text q))) (get t (site_text q)) ≡ cond (same_bytes m n) (disk_of t r) (disk_of t q)
dir_file t m n to from q r h k e = ap (λ b. cond b (get t (target_of to from (site_text q))) (get t (site_text q))) (turned m n)
    ∙ (elim (same_bytes m n) as (λ b. same_bytes m n ≡ b → cond b (get t (target_of to from (site_text q))) (get t (site_text q)) ≡ cond b (disk_of t r) (disk_of t q)) [
      | true ↦ λ d. ap (get t) (e (same_bytes-true m n d)) ∙ sym (shown t r k)
      | false ↦ λ d. sym (shown t q h)
    ]) refl

dir_gone : (t : Tree) (m n : List ℕ) (q : Site) → is_regular q ≡ true → cond (same_bytes n m) None (get t (site_text q)) ≡ cond (same_bytes m n) None (disk_of t q)
dir_gone t m n q h = ap (λ b. cond b None (get t (site_text q))) (turned m n) ∙ ap (cond (same_bytes m n) None) (sym (shown t q h))

published_at : (t : Tree) (n : List ℕ) → IsSnapName n → (q : Site) → is_regular q ≡ true
    → cond (is_in_snapshot n q) (get t (target_of (snapshot_place n) (working_place n) (site_text q))) (cond (is_in_work n q) None (get t (site_text q))) ≡ published n (disk_of t) q
published_at t n l (Info m) h = dir_file t m n (snapshot_place n) (working_place n) (Info m) (WorkInfo n) h (spelled_regular (WorkInfo n) l)
    (λ e. ap (λ x. target_of (snapshot_place n) (working_place n) (site_text (Info x))) e ∙ from_work n (47 ∷ codes ".snapshotinfo"))
published_at t n l (Manifest m) h = dir_file t m n (snapshot_place n) (working_place n) (Manifest m) (WorkManifest n) h (spelled_regular (WorkManifest n) l)
    (λ e. ap (λ x. target_of (snapshot_place n) (working_place n) (site_text (Manifest x))) e ∙ from_work n (47 ∷ codes "data.manifest"))
published_at t n l (WorkInfo m) h = dir_gone t m n (WorkInfo m) h
published_at t n l (WorkManifest m) h = dir_gone t m n (WorkManifest m) h
published_at t n l q h = sym (shown t q h)

withdrawn_at : (t : Tree) (n : List ℕ) → IsSnapName n → (q : Site) → is_regular q ≡ true
    → cond (is_in_work n q) (get t (target_of (working_place n) (snapshot_place n) (site_text q))) (cond (is_in_snapshot n q) None (get t (site_text q))) ≡ withdrawn n (disk_of t) q
withdrawn_at t n l (WorkInfo m) h = dir_file t m n (working_place n) (snapshot_place n) (WorkInfo m) (Info n) h (spelled_regular (Info n) l)
    (λ e. ap (λ x. target_of (working_place n) (snapshot_place n) (site_text (WorkInfo x))) e ∙ from_done n (47 ∷ codes ".snapshotinfo"))
withdrawn_at t n l (WorkManifest m) h = dir_file t m n (working_place n) (snapshot_place n) (WorkManifest m) (Manifest n) h (spelled_regular (Manifest n) l)
    (λ e. ap (λ x. target_of (working_place n) (snapshot_place n) (site_text (WorkManifest x))) e ∙ from_done n (47 ∷ codes "data.manifest"))
withdrawn_at t n l (Info m) h = dir_gone t m n (Info m) h
withdrawn_at t n l (Manifest m) h = dir_gone t m n (Manifest m) h
withdrawn_at t n l q h = sym (shown t q h)

-- no file is at a site that is not regular
irregular : (t : Tree) (m n : List ℕ) (f : List ℕ → Site) (o : Option FileState) → is_regular (f n) ≡ true → is_regular (f m) ≡ false → cond (same_bytes m n) o (disk_of t (f m)) ≡ None
irregular t m n f o h k = (elim (same_bytes m n) as (λ b. same_bytes m n ≡ b → cond b o (disk_of t (f m)) ≡ None) [
  | true ↦ λ d. absurd (true≢false (sym h ∙ ap (λ x. is_regular (f x)) (sym (same_bytes-true m n d)) ∙ k))
  | false ↦ λ d. none_at t (f m) k
]) refl

published_none : (t : Tree) (n : List ℕ) → IsSnapName n → (q : Site) → is_regular q ≡ false → published n (disk_of t) q ≡ None
published_none t n l (Info m) k = irregular t m n Info _ (spelled_regular (Info n) l) k
published_none t n l (Manifest m) k = irregular t m n Manifest _ (spelled_regular (Manifest n) l) k
published_none t n l (WorkInfo m) k = irregular t m n WorkInfo None (spelled_regular (WorkInfo n) l) k
published_none t n l (WorkManifest m) k = irregular t m n WorkManifest None (spelled_regular (WorkManifest n) l) k
published_none t n l q k = none_at t q k

withdrawn_none : (t : Tree) (n : List ℕ) → IsSnapName n → (q : Site) → is_regular q ≡ false → withdrawn n (disk_of t) q ≡ None
withdrawn_none t n l (Info m) k = irregular t m n Info None (spelled_regular (Info n) l) k
withdrawn_none t n l (Manifest m) k = irregular t m n Manifest None (spelled_regular (Manifest n) l) k
withdrawn_none t n l (WorkInfo m) k = irregular t m n WorkInfo _ (spelled_regular (WorkInfo n) l) k
withdrawn_none t n l (WorkManifest m) k = irregular t m n WorkManifest _ (spelled_regular (WorkManifest n) l) k
withdrawn_none t n l q k = none_at t q k

seen_by_site : (t : Tree) (d : Disk) (q : Site) → (is_regular q ≡ true → get t (site_text q) ≡ d q) → (is_regular q ≡ false → d q ≡ None) → disk_of t q ≡ d q
seen_by_site t d q f g = (elim (is_regular q) as (λ b. is_regular q ≡ b → cond b (get t (site_text q)) None ≡ d q) [ true ↦ λ e. f e | false ↦ λ e. sym (g e) ]) refl

-- ---- all operations

shown_after : (o : Op) (t : Tree) → IsTree t → IsAccepted (call_of o) t → MakesSpelled o → WorksOn o (disk_of t) → (q : Site) → disk_of (tree_after o t) q ≡ disk_after o (disk_of t) q
shown_after Nothing t tree none l w q = refl
shown_after (Create p bytes) t tree none l w q = put_at t (tree_after (Create p bytes) t) p q (Some (record { bytes = bytes; moment = 0 })) (spelled_regular p l) (λ x. get-insert nat_list_cmp_total t (site_text p) _ x)
shown_after (Remove p) t tree none l w q = put_at t (tree_after (Remove p) t) p q None (stood t p w.0 w.1).0 (λ x. get-remove nat_list_cmp_total t (site_text p) x)
shown_after (Touch p moment) t tree none l w q =
    put_at t (tree_after (Touch p moment) t) p q (option_map (ns.with_moment moment) (get t (site_text p))) (stood t p w.0 w.1).0 (λ x. get-change (ns.with_moment moment) (site_text p) t x)
    ∙ ap (λ o. cond (same_site q p) (option_map (ns.with_moment moment) o) (disk_of t q)) (sym (shown t p (stood t p w.0 w.1).0))
shown_after (Rename p r) t tree none l w q =
    let s = stood t p w.0 w.1 in
    put_at (remove t (site_text p)) (tree_after (Rename p r) t) r q (Some w.0) (spelled_regular r l)
    (λ x. moved_get t (site_text p) (site_text r) x w.0 tree s.1 none ∙ ap (cond (eq_by_cmp (slice_cmp nat_cmp) x (site_text r)) (Some w.0)) (sym (get-remove nat_list_cmp_total t (site_text p) x)))
    ∙ ap (cond (same_site q r) (Some w.0)) (put_at t (remove t (site_text p)) p q None s.0 (λ x. get-remove nat_list_cmp_total t (site_text p) x))
    ∙ ap (λ o. cond (same_site q r) o (cond (same_site q p) None (disk_of t q))) (sym w.1)
shown_after (Publish n) t tree none l w q = seen_by_site (tree_after (Publish n) t) (published n (disk_of t)) q
    (λ h. get-rename (working_place n) (snapshot_place n) t (site_text q) none
    ∙ ap (λ b. cond b (get t (target_of (snapshot_place n) (working_place n) (site_text q))) (cond (is_within (working_place n) (site_text q)) None (get t (site_text q)))) (in_snapshot n l q h)
    ∙ ap (λ b. cond (is_in_snapshot n q) (get t (target_of (snapshot_place n) (working_place n) (site_text q))) (cond b None (get t (site_text q)))) (in_work n l q h)
    ∙ published_at t n l q h)
    (published_none t n l q)
shown_after (Withdraw n) t tree none l w q = seen_by_site (tree_after (Withdraw n) t) (withdrawn n (disk_of t)) q
    (λ h. get-rename (snapshot_place n) (working_place n) t (site_text q) none
    ∙ ap (λ b. cond b (get t (target_of (working_place n) (snapshot_place n) (site_text q))) (cond (is_within (snapshot_place n) (site_text q)) None (get t (site_text q)))) (in_work n l q h)
    ∙ ap (λ b. cond (is_in_work n q) (get t (target_of (working_place n) (snapshot_place n) (site_text q))) (cond b None (get t (site_text q)))) (in_snapshot n l q h)
    ∙ withdrawn_at t n l q h)
    (withdrawn_none t n l q)

tree_kept : (o : Op) (t : Tree) → IsTree t → IsAccepted (call_of o) t → MakesSpelled o → WorksOn o (disk_of t) → IsTree (tree_after o t)
tree_kept Nothing t tree none l w = tree
tree_kept (Create p bytes) t tree none l w = IsTree-insert t (site_text p) _ tree (IsPlace-place_text (spot_of p) l) none
tree_kept (Rename p r) t tree none l w = IsTree-renamed (site_text p) (site_text r) t none (IsPlace-place_text (spot_of r) l) tree
tree_kept (Remove p) t tree none l w = IsTree-remove t (site_text p) tree
tree_kept (Touch p moment) t tree none l w = let s = stood t p w.0 w.1 in
    subst (λ o. IsTree (ns.put_if_some (option_map (ns.with_moment moment) o) (site_text p) t)) (sym s.1) (IsTree-replace t (site_text p) (ns.with_moment moment w.0) (ap is_some s.1) tree)
tree_kept (Publish n) t tree none l w = IsTree-renamed (working_place n) (snapshot_place n) t none (snapshot_is_place n l) tree
tree_kept (Withdraw n) t tree none l w = IsTree-renamed (snapshot_place n) (working_place n) t none (working_is_place n l) tree

-- ---- the places of files

abbrev HasSites : Tree → Type 0
HasSites t = (place : List ℕ) → contains_key t place ≡ true → HasSite place

sites_put : (t : Tree) (place : List ℕ) (file : FileState) → HasSite place → HasSites t → HasSites (insert t place file)
sites_put t place file new h q s = elim (or_cases (eq_by_cmp (slice_cmp nat_cmp) q place) (contains_key t q) (sym (contains_key-insert t place file q) ∙ s)) as (λ _. HasSite q) [
  | inl here ↦ subst HasSite (sym (same_text q place here)) new
  | inr there ↦ h q there
]

moved_cases : (t : Tree) (from to q : List ℕ) → ns.refusal (ns.Rename from to) t ≡ None → contains_key (ns.moved from to t) q ≡ true → ((is_within to q ≡ true) × (contains_key t (target_of to from q) ≡ true)) ⊎ (contains_key t q ≡ true)
moved_cases t from to q none s = by (is_within to q) (is_within from q) refl (sym (ap is_some (get-rename from to t q none)) ∙ s)
  where
    by : (a b : Bool) → is_within to q ≡ a → is_some (cond a (get t (target_of to from q)) (cond b None (get t q))) ≡ true → ((is_within to q ≡ true) × (contains_key t (target_of to from q) ≡ true)) ⊎ (contains_key t q ≡ true)
    by true b w k = inl (w, k)
    by false true w k = absurd (cc)
    by false false w k = inr k

sites_moved : (t : Tree) (from to : List ℕ) → ns.refusal (ns.Rename from to) t ≡ None → HasSites t → ((q : List ℕ) → is_within to q ≡ true → contains_key t (target_of to from q) ≡ true → HasSite q) → HasSites (ns.moved from to t)
sites_moved t from to none h f q s = elim (moved_cases t from to q none s) as (λ _. HasSite q) [ inl k ↦ f q k.0 k.1 | inr k ↦ h q k ]

-- a file that is moved goes to its own new place
file_goes : (t : Tree) (from to : List ℕ) → IsTree t → contains_key t from ≡ true → HasSite to → (q : List ℕ) → is_within to q ≡ true → contains_key t (target_of to from q) ≡ true → HasSite q
file_goes t from to tree stands new q w s = within_cases from (target_of to from q) (is_within-target to from q w)
    (λ e. subst HasSite (sym (sym (target_of-target_of to from q w) ∙ ap (target_of from to) (sym e) ∙ target-self from to)) new)
    (λ b. absurd (true≢false (sym s ∙ tree.apart from (target_of to from q) stands b)))

-- what stands in a directory of a snapshot, by either file
dir_goes : (t : Tree) (from to : List ℕ) (is_in : Site → Bool) → HasSites t → ((x : Site) → is_regular x ≡ true → is_within from (site_text x) ≡ is_in x)
    → ((x : Site) → is_in x ≡ true → HasSite (target_of from to (site_text x))) → (q : List ℕ) → is_within to q ≡ true → contains_key t (target_of to from q) ≡ true → HasSite q
dir_goes t from to is_in h f g q w s =
    let x = h (target_of to from q) s in
    subst HasSite (ap (target_of from to) x.text ∙ target_of-target_of to from q w)
    (g x.site (sym (f x.site (spelled_regular x.site x.spelled)) ∙ ap (is_within from) x.text ∙ is_within-target to from q w))

published_site : (n : List ℕ) → IsSnapName n → (x : Site) → is_in_work n x ≡ true → HasSite (target_of (working_place n) (snapshot_place n) (site_text x))
published_site n l (WorkInfo m) e = record { site = Info n; spelled = l; text = sym (ap (λ y. target_of (working_place n) (snapshot_place n) (site_text (WorkInfo y))) (sym (same_bytes-true n m e)) ∙ from_done n (47 ∷ codes ".snapshotinfo")) }
published_site n l (WorkManifest m) e = record { site = Manifest n; spelled = l; text = sym (ap (λ y. target_of (working_place n) (snapshot_place n) (site_text (WorkManifest y))) (sym (same_bytes-true n m e)) ∙ from_done n (47 ∷ codes "data.manifest")) }
published_site n l _ e = absurd (cc)

withdrawn_site : (n : List ℕ) → IsSnapName n → (x : Site) → is_in_snapshot n x ≡ true → HasSite (target_of (snapshot_place n) (working_place n) (site_text x))
withdrawn_site n l (Info m) e = record { site = WorkInfo n; spelled = l; text = sym (ap (λ y. target_of (snapshot_place n) (working_place n) (site_text (Info y))) (sym (same_bytes-true n m e)) ∙ from_work n (47 ∷ codes ".snapshotinfo")) }
withdrawn_site n l (Manifest m) e = record { site = WorkManifest n; spelled = l; text = sym (ap (λ y. target_of (snapshot_place n) (working_place n) (site_text (Manifest y))) (sym (same_bytes-true n m e)) ∙ from_work n (47 ∷ codes "data.manifest")) }
withdrawn_site n l _ e = absurd (cc)

new_site : (p : Site) → IsSpelledSite p → HasSite (site_text p)
new_site p l = record { site = p; spelled = l; text = refl }

sites_kept : (o : Op) (t : Tree) → IsTree t → HasSites t → IsAccepted (call_of o) t → MakesSpelled o → WorksOn o (disk_of t) → HasSites (tree_after o t)
sites_kept Nothing t tree h none l w = h
sites_kept (Create p bytes) t tree h none l w = sites_put t (site_text p) _ (new_site p l) h
sites_kept (Rename p r) t tree h none l w = sites_moved t (site_text p) (site_text r) none h (file_goes t (site_text p) (site_text r) tree (ap is_some (stood t p w.0 w.1).1) (new_site r l))
sites_kept (Remove p) t tree h none l w = λ q s. h q (and_parts _ (contains_key t q) (sym (contains_key-remove t (site_text p) q) ∙ s)).1
sites_kept (Touch p moment) t tree h none l w = let s = stood t p w.0 w.1 in
    subst (λ o. HasSites (ns.put_if_some (option_map (ns.with_moment moment) o) (site_text p) t)) (sym s.1) (sites_put t (site_text p) (ns.with_moment moment w.0) (h (site_text p) (ap is_some s.1)) h)
sites_kept (Publish n) t tree h none l w = sites_moved t (working_place n) (snapshot_place n) none h (dir_goes t (working_place n) (snapshot_place n) (is_in_work n) h (in_work n l) (published_site n l))
sites_kept (Withdraw n) t tree h none l w = sites_moved t (snapshot_place n) (working_place n) none h (dir_goes t (snapshot_place n) (working_place n) (is_in_snapshot n) h (in_snapshot n l) (withdrawn_site n l))

-- ---- both

works_shown : (o : Op) (t : Tree) (d : Disk) → Shows t d → WorksOn o d → WorksOn o (disk_of t)
works_shown (Rename p r) t d h w = (w.0, h.at p ∙ w.1)
works_shown (Remove p) t d h w = (w.0, h.at p ∙ w.1)
works_shown (Touch p moment) t d h w = (w.0, h.at p ∙ w.1)
works_shown (Publish n) t d h w = (w.0, h.at (WorkInfo n) ∙ w.1)
works_shown (Withdraw n) t d h w = (w.0, h.at (Info n) ∙ w.1)
works_shown Nothing t d h w = w
works_shown (Create p bytes) t d h w = w

pub shows_by : (o : Op) (t : Tree) (d : Disk) → IsAccepted (call_of o) t → MakesSpelled o → WorksOn o d → Shows t d → Shows (tree_after o t) (disk_after o d)
shows_by o t d none l w h = let v = works_shown o t d h w in record {
  files = tree_kept o t h.files none l v;
  sites = sites_kept o t h.files h.sites none l v;
  at = λ q. shown_after o t h.files none l v q ∙ ap (λ (x : Disk). disk_after o x q) (λ i p. h.at p i);
}
