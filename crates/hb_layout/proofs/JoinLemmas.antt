use Rattle.std.proofs.Common.{◌≡◌, ℕ, List, [], ◌∷◌, ◌++◌, false, eqb, refl, ap, ◌∙◌, sym, arith}
use Rattle.std.specs.List.{join_with_byte, AllByRecursion}
use Rattle.std.proofs.lemmas.Bool.Decides.{nat_tests}
use Rattle.std.proofs.lemmas.List.{append-nil}
use Rattle.hb_grammar.proofs.AvoidsLemmas.{Lacks}

-- texts, each behind a slash
abbrev behind : List (List ℕ) → List ℕ
behind [] = []
behind (part ∷ parts) = 47 ∷ (part ++ behind parts)

-- texts joined by slashes are the first, and the others behind
join-behind : (part : List ℕ) (parts : List (List ℕ)) → 47 ∷ join_with_byte 47 (part ∷ parts) ≡ behind (part ∷ parts)
join-behind part [] = ap (λ (x : List ℕ). 47 ∷ x) (sym (append-nil part))
join-behind part (next ∷ parts) = ap (λ (x : List ℕ). 47 ∷ (part ++ x)) (join-behind next parts)

-- a byte that is no slash
no_slash : (x : ℕ) → eqb x 47 ≡ false → x ≡ 47 → ⊥
no_slash x e same = grind (arith, nat_tests)

-- the first slash ends the first text
cut : (c d : List ℕ) (cs ds : List (List ℕ)) → Lacks 47 c → Lacks 47 d → c ++ behind cs ≡ d ++ behind ds → (c ≡ d) × (behind cs ≡ behind ds)
cut [] [] cs ds h k e = (refl, e)
cut [] (y ∷ ys) [] ds h k e = absurd (cc)
cut [] (y ∷ ys) (c ∷ cs) ds h k e = let z : y ≡ 47 = (cc) in absurd (no_slash y k.0 z)
cut (x ∷ xs) [] cs [] h k e = absurd (cc)
cut (x ∷ xs) [] cs (d ∷ ds) h k e = let z : x ≡ 47 = (cc) in absurd (no_slash x h.0 z)
cut (x ∷ xs) (y ∷ ys) cs ds h k e =
    let a : x ≡ y = (cc) in let b : xs ++ behind cs ≡ ys ++ behind ds = (cc) in
    let r = cut xs ys cs ds h.1 k.1 b in
    let f = r.0 in ((cc), r.1)

-- texts without slashes are told by what stands behind
behind-injective : (cs ds : List (List ℕ)) → AllByRecursion (Lacks 47) cs → AllByRecursion (Lacks 47) ds → behind cs ≡ behind ds → cs ≡ ds
behind-injective [] [] h k e = refl
behind-injective [] (d ∷ ds) h k e = absurd (cc)
behind-injective (c ∷ cs) [] h k e = absurd (cc)
behind-injective (c ∷ cs) (d ∷ ds) h k e =
    let b : c ++ behind cs ≡ d ++ behind ds = (cc) in
    let r = cut c d cs ds h.0 k.0 b in
    let a = r.0 in let z = behind-injective cs ds h.1 k.1 r.1 in (cc)

-- so are they by the text that they are joined to
pub join_with_byte-injective : (c d : List ℕ) (cs ds : List (List ℕ)) → AllByRecursion (Lacks 47) (c ∷ cs) → AllByRecursion (Lacks 47) (d ∷ ds) →
    join_with_byte 47 (c ∷ cs) ≡ join_with_byte 47 (d ∷ ds) → c ∷ cs ≡ d ∷ ds
join_with_byte-injective c d cs ds h k e =
    behind-injective (c ∷ cs) (d ∷ ds) h k (sym (join-behind c cs) ∙ ap (λ (x : List ℕ). 47 ∷ x) e ∙ join-behind d ds)
