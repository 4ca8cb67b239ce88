-- When an encoded name of new regions is taken, by their keys.
use Rattle.std.proofs.Common.{◌≡◌, ◌↔◌, ℕ, ◌+◌, ◌<◌, Bool, true, false, List, [], ◌∷◌, ◌++◌, map, take, drop, length, get_or, Option, Some, None, refl, sym, ap, subst, ◌∙◌, inl, inr}
use Rattle.std.specs.FinMap.{get}
use Rattle.std.specs.List.{list_any}
use Rattle.std.proofs.lemmas.Bool.{or_cases, or_left, or_right, false≢true}
use Rattle.std.proofs.lemmas.List.{map-append, take-append-drop}
use Rattle.cell_sight.specs.Member.{Member}
use Rattle.hb_records.specs.declared.region_info.RegionInfo.{RegionInfo}
use Rattle.plain_model.specs.declared.parts.PlainTable.{PlainTable}
use Rattle.plain_model.specs.declared.region_key.RegionKey.{RegionKey}
use Rattle.plain_model.specs.Keys.{key_of, same_key}
use Rattle.plain_model.specs.Plain.{Plain}
use Rattle.plain_tables.proofs.Walks.{drop-step}
use Rattle.core_model.specs.Actors.{InSet, IsRegion}
use Rattle.core_model.specs.StartGuards.{IsTaken, StandsBelow}
use Rattle.core_model.specs.State.{Parts}
use Rattle.core_sound.proofs.Lists.{member-behind, member-map}
use Rattle.core_sound.proofs.Sources.{map-member}
use Rattle.core_sound.proofs.Tests.{same_key-true}
use Rattle.core_sound.proofs.Vacant.{same_key-self}
use Rattle.world_steps.specs.Starts.{AreOf, HasTaken, IsKeyTaken, Repeats, keys_in}

-- ---- a key among some

key_there : (keys : List RegionKey) (key : RegionKey) → list_any (λ g. same_key g key) keys ≡ true → Member key keys
key_there [] key e = absurd (false≢true e)
key_there (k ∷ ks) key e = elim (or_cases (same_key k key) (list_any (λ g. same_key g key) ks) e) [
  | inl h ↦ inl (same_key-true k key h)
  | inr h ↦ inr (key_there ks key h)
]

there_key : (keys : List RegionKey) (key : RegionKey) → Member key keys → list_any (λ g. same_key g key) keys ≡ true
there_key [] key m = absurd m
there_key (k ∷ ks) key (inl e) = or_left (same_key k key) (list_any (λ g. same_key g key) ks) (subst (λ x. same_key k x ≡ true) e (same_key-self k))
there_key (k ∷ ks) key (inr m) = or_right (same_key k key) (list_any (λ g. same_key g key) ks) (there_key ks key m)

pub has_key-Member : (b : Bool) (keys : List RegionKey) (key : RegionKey) → b ≡ list_any (λ g. same_key g key) keys → (b ≡ true) ↔ Member key keys
has_key-Member b keys key e = (λ h. key_there keys key (sym e ∙ h), λ m. e ∙ there_key keys key m)

-- ---- a key that stands twice

-- a member stands between others
record Parted (key : RegionKey) (keys : List RegionKey) : Type 0 where
  front : List RegionKey
  back : List RegionKey
  are : keys ≡ front ++ key ∷ back

parted : (key : RegionKey) (keys : List RegionKey) → Member key keys → Parted key keys
parted key [] m = absurd m
parted key (k ∷ ks) (inl e) = record { front = []; back = ks; are = ap (λ x. x ∷ ks) e }
parted key (k ∷ ks) (inr m) = let p = parted key ks m in record { front = k ∷ p.front; back = p.back; are = ap (λ xs. k ∷ xs) p.are }

stands_there : (front back : List RegionKey) (key : RegionKey) → Member key (front ++ key ∷ back)
stands_there [] back key = inl refl
stands_there (k ∷ front) back key = inr (stands_there front back key)

pub repeats_none : (keys : List RegionKey) → keys ≡ [] → Repeats keys → ⊥
repeats_none keys e r = no r.before (sym e ∙ r.are)
  where
    no : (before : List RegionKey) → [] ≡ before ++ (r.key ∷ r.between ++ (r.key ∷ r.behind)) → ⊥
    no [] x = absurd (cc)
    no (k ∷ before) x = absurd (cc)

repeats_behind : (k : RegionKey) (rest : List RegionKey) → (Member k rest → ⊥) → Repeats (k ∷ rest) → Repeats rest
repeats_behind k rest n r = at r.before r.are
  where
    at : (before : List RegionKey) → k ∷ rest ≡ before ++ (r.key ∷ r.between ++ (r.key ∷ r.behind)) → Repeats rest
    at [] e =
        let h : k ≡ r.key = cc in
        let t : rest ≡ r.between ++ (r.key ∷ r.behind) = cc in
        absurd (n (subst (λ xs. Member k xs) (sym t) (subst (λ x. Member k (r.between ++ (x ∷ r.behind))) h (stands_there r.between r.behind k))))
    at (b ∷ before) e = let t : rest ≡ before ++ (r.key ∷ r.between ++ (r.key ∷ r.behind)) = cc in record { before = before; between = r.between; behind = r.behind; key = r.key; are = t }

-- where none of the keys passed stands again, what repeats is behind them
pub repeats_more : (keys : List RegionKey) (i : ℕ) (k : RegionKey) → i < length keys → k ≡ get_or keys i k → (Repeats keys → Repeats (drop i keys)) → (Member k (drop (i + 1) keys) → ⊥) → Repeats keys → Repeats (drop (i + 1) keys)
repeats_more keys i k lt is was n r = repeats_behind k (drop (i + 1) keys) n (subst Repeats (drop-step keys i k lt is) (was r))

pub repeats_here : (keys : List RegionKey) (i : ℕ) (k : RegionKey) → i < length keys → k ≡ get_or keys i k → Member k (drop (i + 1) keys) → Repeats keys
repeats_here keys i k lt is m =
    let p = parted k (drop (i + 1) keys) m in
    record {
      before = take i keys;
      between = p.front;
      behind = p.back;
      key = k;
      are = sym (take-append-drop i keys) ∙ ap (λ xs. take i keys ++ xs) (drop-step keys i k lt is ∙ ap (λ xs. k ∷ xs) p.are);
    }

-- ---- new regions, by their keys

-- the front, the key and the rest of a list of keys are those of regions
record Cut (key : RegionKey) (front back : List RegionKey) (new : List RegionInfo) : Type 0 where
  before : List RegionInfo
  region : RegionInfo
  behind : List RegionInfo
  are : new ≡ before ++ region ∷ behind
  same : key_of region ≡ key
  rest : map key_of behind ≡ back

cut : (new : List RegionInfo) (front back : List RegionKey) (key : RegionKey) → map key_of new ≡ front ++ key ∷ back → Cut key front back new
cut [] [] back key e = absurd (cc)
cut [] (k ∷ front) back key e = absurd (cc)
cut (r ∷ rs) [] back key e = record { before = []; region = r; behind = rs; are = refl; same = (let h : key_of r ≡ key = cc in h); rest = (let h : map key_of rs ≡ back = cc in h) }
cut (r ∷ rs) (k ∷ front) back key e =
    let h : map key_of rs ≡ front ++ key ∷ back = cc in
    let c = cut rs front back key h in
    record { before = r ∷ c.before; region = c.region; behind = c.behind; are = ap (λ xs. r ∷ xs) c.are; same = c.same; rest = c.rest }

repeated_new : (disk : _) (drawn : List RegionKey) (p : Plain) (new : List RegionInfo) → Repeats (map key_of new) → IsTaken disk drawn p new
repeated_new disk drawn p new r =
    let c = cut new r.before (r.between ++ (r.key ∷ r.behind)) r.key r.are in
    let d = cut c.behind r.between r.behind r.key c.rest in
    IsTaken.by_new c.before d.before d.behind c.region d.region (c.are ∙ ap (λ xs. c.before ++ (c.region ∷ xs)) d.are) (c.same ∙ sym d.same)

new_repeated : (new before between behind : List RegionInfo) (r q : RegionInfo) → new ≡ before ++ (r ∷ between ++ (q ∷ behind)) → key_of r ≡ key_of q → Repeats (map key_of new)
new_repeated new before between behind r q e k = record {
  before = map key_of before;
  between = map key_of between;
  behind = map key_of behind;
  key = key_of r;
  are = ap (map key_of) e ∙ map-append key_of before (r ∷ between ++ (q ∷ behind))
      ∙ ap (λ xs. map key_of before ++ (key_of r ∷ xs)) (map-append key_of between (q ∷ behind))
      ∙ ap (λ x. map key_of before ++ (key_of r ∷ map key_of between ++ (x ∷ map key_of behind))) (sym k);
}

-- ---- keys that a newest set has

listed_region : (o : Option PlainTable) (tables : _) (t : List ℕ) (key : RegionKey) → get tables t ≡ o → key.table ≡ t → Member key (keys_in o) → IsRegion tables key
listed_region None tables t key e h m = absurd m
listed_region (Some x) tables t key e h m = let n = map-member (λ (y : RegionInfo × Bool). key_of y.0) key x.regions m in here n.0 n.1 n.2
  where
    here : (y : RegionInfo × Bool) → Member y x.regions → key_of y.0 ≡ key → IsRegion tables key
    here (i, true) m k = inr (record { table = x; stands = ap (get tables) h ∙ e; info = i; listed = m; key = k })
    here (i, false) m k = inl (record { table = x; stands = ap (get tables) h ∙ e; info = i; listed = m; key = k })

in_set : (tables : _) (t : List ℕ) (key : RegionKey) (split : Bool) → key.table ≡ t → InSet tables key split → Member key (keys_in (get tables t))
in_set tables t key split h s =
    subst (λ o. Member key (keys_in o)) (sym s.stands ∙ ap (get tables) h)
    (subst (λ k. Member k (map (λ (y : RegionInfo × Bool). key_of y.0) s.table.regions)) s.key (member-map (λ (y : RegionInfo × Bool). key_of y.0) (s.info, split) s.table.regions s.listed))

-- ---- what is taken

taken_key : (s : Parts) (t : List ℕ) (new : List RegionInfo) → AreOf t new → HasTaken (keys_in (get s.plain.tables t)) s (map key_of new) → IsTaken s.disk s.drawn s.plain new
taken_key s t new a h = let n = map-member key_of h.key new h.stands in by n.0 n.1 n.2 h.taken
  where
    by : (r : RegionInfo) → Member r new → key_of r ≡ h.key → IsKeyTaken (keys_in (get s.plain.tables t)) s h.key → IsTaken s.disk s.drawn s.plain new
    by r m e (IsKeyTaken.was_drawn d) = IsTaken.by_drawn r m (subst (λ k. Member k s.drawn) (sym e) d)
    by r m e (IsKeyTaken.is_listed d) = IsTaken.by_set r m (listed_region (get s.plain.tables t) s.plain.tables t (key_of r) refl (a r m) (subst (λ k. Member k (keys_in (get s.plain.tables t))) (sym e) d))
    by r m e (IsKeyTaken.has_files d) = IsTaken.by_directory r m (subst (StandsBelow s.disk) (sym e) d)

-- where no key repeats, a name is taken by a key
by_key : (s : Parts) (t : List ℕ) (new : List RegionInfo) → AreOf t new → (Repeats (map key_of new) → ⊥) → IsTaken s.disk s.drawn s.plain new → HasTaken (keys_in (get s.plain.tables t)) s (map key_of new)
by_key s t new a n (IsTaken.by_new before between behind r q e k) = absurd (n (new_repeated new before between behind r q e k))
by_key s t new a n (IsTaken.by_drawn r m d) = record { key = key_of r; stands = member-map key_of r new m; taken = IsKeyTaken.was_drawn d }
by_key s t new a n (IsTaken.by_set r m d) = record {
  key = key_of r;
  stands = member-map key_of r new m;
  taken = IsKeyTaken.is_listed (elim d [ inl x ↦ in_set s.plain.tables t (key_of r) false (a r m) x | inr x ↦ in_set s.plain.tables t (key_of r) true (a r m) x ]);
}
by_key s t new a n (IsTaken.by_directory r m d) = record { key = key_of r; stands = member-map key_of r new m; taken = IsKeyTaken.has_files d }

pub taken-repeated : (s : Parts) (new : List RegionInfo) (keys : List RegionKey) → keys ≡ map key_of new → Repeats keys → IsTaken s.disk s.drawn s.plain new
taken-repeated s new keys e r = repeated_new s.disk s.drawn s.plain new (subst Repeats e r)

pub taken-by_key : (b : Bool) (s : Parts) (t : List ℕ) (new : List RegionInfo) (keys listed : List RegionKey) → keys ≡ map key_of new → listed ≡ keys_in (get s.plain.tables t) → AreOf t new → (Repeats keys → ⊥)
    → ((b ≡ true) ↔ HasTaken listed s keys) → (b ≡ true) ↔ IsTaken s.disk s.drawn s.plain new
taken-by_key b s t new keys listed e l a n h = (
  λ x. taken_key s t new a (subst (λ ks. HasTaken (keys_in (get s.plain.tables t)) s ks) e (subst (λ ls. HasTaken ls s keys) l (h.0 x))),
  λ x. h.1 (subst (λ ls. HasTaken ls s keys) (sym l) (subst (λ ks. HasTaken (keys_in (get s.plain.tables t)) s ks) (sym e) (by_key s t new a (λ r. n (subst Repeats (sym e) r)) x))),
)

-- ---- a walk over keys

-- no key that was passed is taken
pub none_taken : (listed : List RegionKey) (s : Parts) (keys : List RegionKey) (i : ℕ) (k : RegionKey) → i < length keys → k ≡ get_or keys i k → (HasTaken listed s keys → HasTaken listed s (drop i keys)) → (IsKeyTaken listed s k → ⊥)
    → HasTaken listed s keys → HasTaken listed s (drop (i + 1) keys)
none_taken listed s keys i k lt is was n h = let g = subst (λ ks. HasTaken listed s ks) (drop-step keys i k lt is) (was h) in elim g.stands [
  | inl e ↦ absurd (n (subst (IsKeyTaken listed s) (sym e) g.taken))
  | inr m ↦ record { key = g.key; stands = m; taken = g.taken }
]

pub taken_here : (listed : List RegionKey) (s : Parts) (keys : List RegionKey) (i : ℕ) (k : RegionKey) → i < length keys → k ≡ get_or keys i k → IsKeyTaken listed s k → HasTaken listed s keys
taken_here listed s keys i k lt is t = record { key = k; stands = subst (Member k) (take-append-drop i keys) (member-behind k (take i keys) (drop i keys) (subst (Member k) (sym (drop-step keys i k lt is)) (inl refl))); taken = t }

pub taken_none : (listed : List RegionKey) (s : Parts) (keys : List RegionKey) → keys ≡ [] → HasTaken listed s keys → ⊥
taken_none listed s keys e h = subst (Member h.key) e h.stands
