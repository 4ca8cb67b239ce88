-- Changes of a finite map's values, and their laws.
use Rattle.std.specs.Prelude.{◌≡◌, Bool, true, false, cond, List, [], ◌∷◌, Option, Some, None, option_map, refl}
use Rattle.std.proofs.Common.{sym, ap, ◌∙◌}
use Rattle.std.specs.FinMap.{FinMap, IsAntisymmetric, contains_key, find, empty, entries, from_entries, get, insert, remove, get-entries, get-empty, get-insert, get-remove, get-from_entries, get_tied, same_map}
use Rattle.std.specs.Ordering.{eq_by_cmp, is_eq}
use Rattle.std.specs.Cmp.{IsTotalOrder, Equal-is, tied_itself}
use Rattle.std.specs.declared.cmp.Ordering.{Ordering}

-- entries with f done to each value
abbrev pub mapped : {K X Y : Type 0} → (X → Y) → List (K × X) → List (K × Y)
mapped f [] = []
mapped f (e ∷ es) = (e.0, f e.1) ∷ mapped f es

module _ {K X : Type 0} {R : K → K → Ordering} where
  -- the map with a value at a key, where there is one to set
  abbrev pub changed_to : FinMap R X → K → Option X → FinMap R X
  changed_to map key None = map
  changed_to map key (Some value) = insert map key value

  -- the map with f done to the value at a key, where it has one
  abbrev pub changed_at : FinMap R X → K → (X → X) → FinMap R X
  changed_at map key f = changed_to map key (option_map f (get map key))

  -- the map with a value at a key that has none
  abbrev pub with_first : FinMap R X → K → X → FinMap R X
  with_first map key value = cond (contains_key map key) map (insert map key value)

  -- the map with f done to each value
  abbrev pub map_values : {Y : Type 0} → (X → Y) → FinMap R X → FinMap R Y
  map_values f map = from_entries (mapped f (entries map))

cond-map : {X Y : Type 0} (f : X → Y) (b : Bool) (x y : Option X) → cond b (option_map f x) (option_map f y) ≡ option_map f (cond b x y)
cond-map f true x y = refl
cond-map f false x y = refl

cond-again : {X : Type 0} (b : Bool) (x y z : X) → cond b x (cond b y z) ≡ cond b x z
cond-again true x y z = refl
cond-again false x y z = refl

unless_none : {X : Type 0} (b : Bool) (x : Option X) → (b ≡ true → x ≡ None) → cond b None x ≡ x
unless_none true x h = sym (h refl)
unless_none false x h = refl

cond-else : {X : Type 0} (b : Bool) (x y : X) → (b ≡ true → x ≡ y) → cond b x y ≡ y
cond-else true x y h = h refl
cond-else false x y h = refl

find-mapped : {K X Y : Type 0} (R : K → K → Ordering) (f : X → Y) (q : K) (es : List (K × X)) → find R q (mapped f es) ≡ option_map f (find R q es)
find-mapped R f q [] = refl
find-mapped R f q (e ∷ es) = ap (cond (eq_by_cmp R q e.0) (Some (f e.1))) (find-mapped R f q es) ∙ cond-map f (eq_by_cmp R q e.0) (Some e.1) (find R q es)

module _ {K X : Type 0} {R : K → K → Ordering} (o : IsTotalOrder R) (same : IsAntisymmetric R) where
  -- a key with no value is removed already
  pub remove-absent : (map : FinMap R X) (key : K) → get map key ≡ None → remove map key ≡ map
  remove-absent map key none = same_map o same _ _ (λ q.
      get-remove o map key q ∙ unless_none (eq_by_cmp R q key) (get map q) (λ e. sym (get_tied o map q key ((Equal-is (R q key)).0 e)) ∙ none))

  -- what is set after it was taken out is set
  pub insert-remove : (map : FinMap R X) (key : K) (value : X) → insert (remove map key) key value ≡ insert map key value
  insert-remove map key value = same_map o same _ _ (λ q.
      get-insert o (remove map key) key value q
      ∙ ap (cond (eq_by_cmp R q key) (Some value)) (get-remove o map key q)
      ∙ cond-again (eq_by_cmp R q key) (Some value) None (get map q)
      ∙ sym (get-insert o map key value q))

  pub get-put : (map : FinMap R X) (key : K) (value : X) → get (insert map key value) key ≡ Some value
  get-put map key value = get-insert o map key value key ∙ ap (λ b. cond b (Some value) (get map key)) (ap is_eq (tied_itself o key))

  pub get-taken : (map : FinMap R X) (key : K) → get (remove map key) key ≡ None
  get-taken map key = get-remove o map key key ∙ ap (λ b. cond b None (get map key)) (ap is_eq (tied_itself o key))

  -- what a key has, set again
  pub insert-same : (map : FinMap R X) (key : K) (value : X) → Some value ≡ get map key → insert map key value ≡ map
  insert-same map key value has = same_map o same _ _ (λ q.
      get-insert o map key value q ∙ cond-else (eq_by_cmp R q key) (Some value) (get map q) (λ e. has ∙ get_tied o map q key ((Equal-is (R q key)).0 e)))

module _ {K X Y : Type 0} {R : K → K → Ordering} (o : IsTotalOrder R) (same : IsAntisymmetric R) (f : X → Y) where
  pub get-map_values : (map : FinMap R X) (q : K) → get (map_values f map) q ≡ option_map f (get map q)
  get-map_values map q = get-from_entries o (mapped f (entries map)) q ∙ find-mapped R f q (entries map) ∙ ap (option_map f) (sym (get-entries map q))

  pub map_values-empty : map_values f (empty {R = R}) ≡ empty
  map_values-empty = same_map o same _ _ (λ q. get-map_values empty q ∙ ap (option_map f) (get-empty R q) ∙ sym (get-empty R q))

  pub map_values-insert : (map : FinMap R X) (key : K) (value : X) → map_values f (insert map key value) ≡ insert (map_values f map) key (f value)
  map_values-insert map key value = same_map o same _ _ (λ q.
      get-map_values (insert map key value) q
      ∙ ap (option_map f) (get-insert o map key value q)
      ∙ sym (cond-map f (eq_by_cmp R q key) (Some value) (get map q))
      ∙ ap (cond (eq_by_cmp R q key) (Some (f value))) (sym (get-map_values map q))
      ∙ sym (get-insert o (map_values f map) key (f value) q))

  -- a value that is changed
  pub map_values-changed : (map new : FinMap R X) (key : K) (old value : X) (g : Y → Y) → Some old ≡ get map key → new ≡ insert map key value → f value ≡ g (f old)
      → map_values f new ≡ changed_at (map_values f map) key g
  map_values-changed map new key old value g stands is does =
      ap (map_values f) is
      ∙ map_values-insert map key value
      ∙ ap (insert (map_values f map) key) does
      ∙ ap (λ v. changed_to (map_values f map) key (option_map g v)) (ap (option_map f) stands ∙ sym (get-map_values map key))

  -- where there is none
  pub map_values-absent : (map new : FinMap R X) (key : K) (g : Y → Y) → None ≡ get map key → new ≡ map
      → map_values f new ≡ changed_at (map_values f map) key g
  map_values-absent map new key g none is =
      ap (map_values f) is
      ∙ ap (λ v. changed_to (map_values f map) key (option_map g v)) (ap (option_map f) none ∙ sym (get-map_values map key))

  -- a value that looks the same
  pub map_values-same : (map new : FinMap R X) (key : K) (old value : X) → Some old ≡ get map key → new ≡ insert map key value → f value ≡ f old
      → map_values f new ≡ map_values f map
  map_values-same map new key old value stands is does =
      ap (map_values f) is
      ∙ map_values-insert map key value
      ∙ ap (insert (map_values f map) key) does
      ∙ insert-same o same (map_values f map) key (f old) (ap (option_map f) stands ∙ sym (get-map_values map key))
