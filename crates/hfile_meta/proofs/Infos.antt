-- There is one list of pairs for a file info, and pairs are read one by one.
use Rattle.std.proofs.Common.{◌≡◌, ℕ, zero, suc, ◌+◌, ◌^◌, ◌<◌, List, [], ◌∷◌, ◌++◌, length, get_or, take, drop, map, Option, Some, None, option_map, refl, sym, ap, subst, ◌∙◌, arith}
use Rattle.std.proofs.lemmas.List.{take_more, map-append, drop_at}
use Rattle.std.specs.Prelude.{MatchOption}
use Rattle.std.specs.Option.{option_to_list}
use Rattle.wire_fields.specs.Varint.{varint, varint_at}
use Rattle.wire_fields.specs.Fields.{Part}
use Rattle.wire_fields.specs.Message.{texts, later, IsMessage}
use Rattle.wire_fields.proofs.Messages.{one_message}
use Rattle.wire_fields.proofs.Varints.{ok, ok_is, varint_at-varint}
use Rattle.hfile_meta.specs.Trailer.{delimited}
use Rattle.hfile_meta.specs.Info.{last_of, IsPair, ArePairs, IsInfo, value_here, last_value}

-- ---- one list of pairs

some_is : {A : Type 0} (x y : A) → ◌≡◌ {A = Option A} (Some x) (Some y) → x ≡ y
some_is x y e = cc

one_pair : (bytes : List ℕ) (p q : List ℕ × List ℕ) → IsPair bytes p → IsPair bytes q → p ≡ q
one_pair bytes p q is_p is_q =
    let same : is_p.0 ≡ is_q.0 = one_message bytes is_p.0 is_q.0 is_p.1 is_q.1 in
    let first : p.0 ≡ q.0 = some_is p.0 q.0 (sym is_p.2 ∙ ap (λ (parts : List (ℕ × Part)). last_of (texts 1 parts)) same ∙ is_q.2) in
    let second : p.1 ≡ q.1 = some_is p.1 q.1 (sym is_p.3 ∙ ap (λ (parts : List (ℕ × Part)). last_of (texts 2 parts)) same ∙ is_q.3) in
    λ i. (first i, second i)

one_pairs : (ts : List (List ℕ)) (ps qs : List (List ℕ × List ℕ)) → ArePairs ts ps → ArePairs ts qs → ps ≡ qs
one_pairs [] [] [] are_p are_q = refl
one_pairs [] [] (q ∷ qs) are_p are_q = absurd are_q
one_pairs [] (p ∷ ps) qs are_p are_q = absurd are_p
one_pairs (t ∷ ts) [] qs are_p are_q = absurd are_p
one_pairs (t ∷ ts) (p ∷ ps) [] are_p are_q = absurd are_q
one_pairs (t ∷ ts) (p ∷ ps) (q ∷ qs) are_p are_q =
    let first : p ≡ q = one_pair t p q are_p.0 are_q.0 in
    let others : ps ≡ qs = one_pairs ts ps qs are_p.1 are_q.1 in
    λ i. first i ∷ others i

-- a message behind its length is one
one_delimited : (m n : List ℕ) → length m < 2 ^ 64 → length n < 2 ^ 64 → delimited m ≡ delimited n → m ≡ n
one_delimited m n small_m small_n e =
    let read : ok {A = ℕ × ℕ} (length m, length (varint (length m))) ≡ ok (length n, length (varint (length n))) = sym (varint_at-varint (length m) m small_m) ∙ ap varint_at e ∙ varint_at-varint (length n) n small_n in
    let sizes : length (varint (length n)) ≡ length (varint (length m)) = sym (ap (λ (x : ℕ × ℕ). x.1) (ok_is (length m, length (varint (length m))) (length n, length (varint (length n))) read)) in
    sym (drop_at (varint (length m)) m (length (varint (length m))) refl) ∙ ap (drop (length (varint (length m)))) e ∙ drop_at (varint (length n)) n (length (varint (length m))) sizes

pub one_info : (content : List ℕ) (ps qs : List (List ℕ × List ℕ)) → IsInfo content ps → IsInfo content qs → ps ≡ qs
one_info content ps qs is_p is_q =
    let behind : delimited is_p.message ≡ delimited is_q.message = ap (drop 4) (sym is_p.whole ∙ is_q.whole) in
    let same : is_p.message ≡ is_q.message = one_delimited is_p.message is_q.message is_p.small is_q.small behind in
    let message : IsMessage is_q.message is_p.parts = subst (λ (m : List ℕ). IsMessage m is_p.parts) same is_p.is in
    let parts : is_p.parts ≡ is_q.parts = one_message is_q.message is_p.parts is_q.parts message is_q.is in
    one_pairs (texts 1 is_q.parts) ps qs (subst (λ (ts : List (ℕ × Part)). ArePairs (texts 1 ts) ps) parts is_p.are) is_q.are

-- ---- reading one by one

ArePairs-push : (ts : List (List ℕ)) (ps : List (List ℕ × List ℕ)) (t : List ℕ) (p : List ℕ × List ℕ) → ArePairs ts ps → IsPair t p → ArePairs (ts ++ t ∷ []) (ps ++ p ∷ [])
ArePairs-push [] [] t p are is = (is, tt)
ArePairs-push [] (q ∷ ps) t p are is = absurd are
ArePairs-push (s ∷ ts) [] t p are is = absurd are
ArePairs-push (s ∷ ts) (q ∷ ps) t p are is = (are.0, ArePairs-push ts ps t p are.1 is)

pub ArePairs-more : {A : Type 0} (now : A → List ℕ) (xs : List A) (i : ℕ) (d : A) (ps qs : List (List ℕ × List ℕ)) (p : List ℕ × List ℕ)
    → i < length xs → ArePairs (map now (take i xs)) ps → IsPair (now (get_or xs i d)) p → qs ≡ ps ++ p ∷ [] → ArePairs (map now (take (i + 1) xs)) qs
ArePairs-more now xs i d ps qs p inside are is e =
    let x = get_or xs i d in
    let split : map now (take (i + 1) xs) ≡ map now (take i xs) ++ now x ∷ [] = ap (map now) (take_more xs i d inside) ∙ map-append now (take i xs) (x ∷ []) in
    subst (λ (ts : List (List ℕ)). ArePairs ts qs) (sym split) (subst (ArePairs (map now (take i xs) ++ now x ∷ [])) (sym e) (ArePairs-push (map now (take i xs)) ps (now x) p are is))

pub ArePairs-at : {A : Type 0} (now : A → List ℕ) (xs : List A) (i : ℕ) (d : A) (ps : List (List ℕ × List ℕ)) → i < length xs → ArePairs (map now xs) ps → (p : List ℕ × List ℕ) × IsPair (now (get_or xs i d)) p
ArePairs-at now [] i d ps inside are = absurd (omega arith)
ArePairs-at now (x ∷ xs) i d [] inside are = absurd are
ArePairs-at now (x ∷ xs) zero d (p ∷ ps) inside are = (p, are.0)
ArePairs-at now (x ∷ xs) (suc i) d (p ∷ ps) inside are = ArePairs-at now xs i d ps (omega arith) are.1

-- ---- the last of some

later-assoc : {A : Type 0} (x y z : Option A) → later (later x y) z ≡ later x (later y z)
later-assoc x y None = refl
later-assoc x y (Some w) = refl

pub last_of-push : {A B : Type 0} (f : A → B) (xs : List A) (x : A) → last_of (map f (xs ++ x ∷ [])) ≡ Some (f x)
last_of-push f [] x = refl
last_of-push f (y ∷ xs) x = ap (later (Some (f y))) (last_of-push f xs x)

later-none : {A : Type 0} (x : Option A) → later None x ≡ later x None
later-none None = refl
later-none (Some x) = refl

length-zero : {A : Type 0} (xs : List A) → length xs ≡ 0 → xs ≡ []
length-zero [] e = refl
length-zero (x ∷ xs) e = absurd (omega arith)

-- what was popped was the last
pub last_of-popped : {A B : Type 0} (f : A → B) (old new : List A) (r : Option A) → old ≡ new ++ option_to_list r → MatchOption r ((length old ≡ 0) × (length new ≡ 0)) (λ _. length new + 1 ≡ length old)
    → option_map f r ≡ last_of (map f old)
last_of-popped f old new None e none = ap (λ xs. last_of (map f xs)) (sym (length-zero old none.0))
last_of-popped f old new (Some x) e some = sym (ap (λ xs. last_of (map f xs)) e ∙ last_of-push f new x)

last_value-push : (key : List ℕ) (xs : List (List ℕ × List ℕ)) (x : List ℕ × List ℕ) → last_value key (xs ++ x ∷ []) ≡ later (last_value key xs) (value_here key x)
last_value-push key [] x = sym (later-none (value_here key x))
last_value-push key (y ∷ xs) x = ap (later (value_here key y)) (last_value-push key xs x) ∙ sym (later-assoc (value_here key y) (last_value key xs) (value_here key x))

pub last_value-more : (key : List ℕ) (xs : List (List ℕ × List ℕ)) (i : ℕ) (d x : List ℕ × List ℕ) (before after here : Option (List ℕ))
    → i < length xs → x ≡ get_or xs i d → before ≡ last_value key (take i xs) → here ≡ value_here key x → after ≡ later before here → after ≡ last_value key (take (i + 1) xs)
last_value-more key xs i d x before after here inside at so_far is next =
    next ∙ ap (λ o. later o here) so_far ∙ ap (later (last_value key (take i xs))) (is ∙ ap (value_here key) at) ∙ sym (last_value-push key (take i xs) (get_or xs i d)) ∙ ap (last_value key) (sym (take_more xs i d inside))
