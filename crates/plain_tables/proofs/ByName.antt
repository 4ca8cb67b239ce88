-- What a map by names has, by the list that it stands for.
use Rattle.std.proofs.Common.{◌≡◌, ℕ, ◌+◌, ◌<◌, ◌≤◌, List, length, get_or, drop, sym, ap, ◌∙◌, cond, true, false, Option, Some, None}
use Rattle.std.proofs.lemmas.List.{drop_all}
use Rattle.std.specs.FinMap.{get, get-empty, get-insert, get-remove}
use Rattle.std.specs.Cmp.Lexicographic.{nat_list_cmp_total, texts_ties}
use Rattle.hb_cell.specs.Order.{bytes_cmp, same_bytes}
use Rattle.plain_model.specs.Names.{Names}
use Rattle.plain_tables.specs.ByName.{by_name, put}
use Rattle.plain_tables.proofs.Walks.{drop-step}

-- what the map has at a name, by its first entry
pub get-put : {X : Type 0} (m : Names X) (name q : List ℕ) (x : Option X) → get (put name x m) q ≡ cond (same_bytes q name) x (get m q)
get-put m name q None = get-remove nat_list_cmp_total m name q ∙ ap (λ b. cond b None (get m q)) (sym (texts_ties q name))
get-put m name q (Some x) = get-insert nat_list_cmp_total m name x q ∙ ap (λ b. cond b (Some x) (get m q)) (sym (texts_ties q name))

pub get-step : {X : Type 0} (es : List (List ℕ × Option X)) (i : ℕ) (e : List ℕ × Option X) (name : List ℕ) → i < length es → e ≡ get_or es i e
    → get (by_name (drop i es)) name ≡ get (by_name es) name → cond (same_bytes name e.0) e.1 (get (by_name (drop (i + 1) es)) name) ≡ get (by_name es) name
get-step es i e name lt is was = sym (get-put (by_name (drop (i + 1) es)) e.0 name e.1) ∙ ap (λ xs. get (by_name xs) name) (sym (drop-step es i e lt is)) ∙ was

pub name_here : {X : Type 0} (es : List (List ℕ × Option X)) (i : ℕ) (e : List ℕ × Option X) (name : List ℕ) → i < length es → e ≡ get_or es i e
    → get (by_name (drop i es)) name ≡ get (by_name es) name → same_bytes name e.0 ≡ true → e.1 ≡ get (by_name es) name
name_here es i e name lt is was here = ap (λ b. cond b e.1 (get (by_name (drop (i + 1) es)) name)) (sym here) ∙ get-step es i e name lt is was

pub name_behind : {X : Type 0} (es : List (List ℕ × Option X)) (i : ℕ) (e : List ℕ × Option X) (name : List ℕ) → i < length es → e ≡ get_or es i e
    → get (by_name (drop i es)) name ≡ get (by_name es) name → same_bytes name e.0 ≡ false → get (by_name (drop (i + 1) es)) name ≡ get (by_name es) name
name_behind es i e name lt is was other = ap (λ b. cond b e.1 (get (by_name (drop (i + 1) es)) name)) (sym other) ∙ get-step es i e name lt is was

-- past the last entry, a name has nothing
pub name_nowhere : {X : Type 0} (es : List (List ℕ × Option X)) (i : ℕ) (name : List ℕ) → length es ≤ i → get (by_name (drop i es)) name ≡ get (by_name es) name → None ≡ get (by_name es) name
name_nowhere es i name past was = sym (get-empty bytes_cmp name) ∙ ap (λ xs. get (by_name xs) name) (sym (drop_all i es past)) ∙ was
