-- Names that repeat.
use Rattle.std.proofs.Common.{◌≡◌, ℕ, ◌+◌, ◌<◌, List, [], ◌∷◌, ◌++◌, length, get_or, take, drop, sym, ap, ◌∙◌, cond, true, false, Some}
use Rattle.std.specs.List.{list_any}
use Rattle.hb_cell.specs.Order.{same_bytes}
use Rattle.plain_model.specs.Replies.{repeated_behind}
use Rattle.std.proofs.lemmas.List.{take_more}
use Rattle.plain_tables.proofs.Walks.{drop-step}

-- the front up to an element and it
take-step : {A : Type 0} (xs : List A) (i : ℕ) (x : A) → i < length xs → x ≡ get_or xs i x → take (i + 1) xs ≡ take i xs ++ x ∷ []
take-step xs i x lt is = take_more xs i x lt ∙ ap (λ y. take i xs ++ y ∷ []) (sym is)

repeats_step : (fs : List (List ℕ)) (i : ℕ) (f : List ℕ) → i < length fs → f ≡ get_or fs i f → repeated_behind (take i fs) (drop i fs) ≡ repeated_behind [] fs
    → cond (list_any (λ g. same_bytes g f) (take i fs)) (Some f) (repeated_behind (take i fs ++ f ∷ []) (drop (i + 1) fs)) ≡ repeated_behind [] fs
repeats_step fs i f lt is was = ap (repeated_behind (take i fs)) (sym (drop-step fs i f lt is)) ∙ was

pub repeats_here : (fs : List (List ℕ)) (i : ℕ) (f : List ℕ) → i < length fs → f ≡ get_or fs i f → repeated_behind (take i fs) (drop i fs) ≡ repeated_behind [] fs
    → list_any (λ g. same_bytes g f) (take i fs) ≡ true → Some f ≡ repeated_behind [] fs
repeats_here fs i f lt is was found = ap (λ b. cond b (Some f) (repeated_behind (take i fs ++ f ∷ []) (drop (i + 1) fs))) (sym found) ∙ repeats_step fs i f lt is was

pub repeats_behind : (fs : List (List ℕ)) (i : ℕ) (f : List ℕ) → i < length fs → f ≡ get_or fs i f → repeated_behind (take i fs) (drop i fs) ≡ repeated_behind [] fs
    → list_any (λ g. same_bytes g f) (take i fs) ≡ false → repeated_behind (take (i + 1) fs) (drop (i + 1) fs) ≡ repeated_behind [] fs
repeats_behind fs i f lt is was other =
    ap (λ xs. repeated_behind xs (drop (i + 1) fs)) (take-step fs i f lt is)
    ∙ ap (λ b. cond b (Some f) (repeated_behind (take i fs ++ f ∷ []) (drop (i + 1) fs))) (sym other) ∙ repeats_step fs i f lt is was
