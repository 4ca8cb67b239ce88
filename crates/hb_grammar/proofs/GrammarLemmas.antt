use Rattle.std.proofs.Common.{◌≡◌, ℕ, ◌<◌, ◌≤◌, ◌+◌, List, [], ◌∷◌, ◌++◌, length, take, drop, get_or, subst, sym, ap, ◌∙◌, arith}
use Rattle.std.proofs.lemmas.List.{append_assoc, take_more, take_all, append-nil, take-append-drop, take-take, drop_more, length-take-le, get_or-take}
use Rattle.hb_grammar.specs.Grammar.{IsViable, IsFault, Follows, Refuses, IsLive}

-- the grammar new has exactly what the grammar old has behind these bytes
pub record Leaves (old : List ℕ → Type 0) (bytes : List ℕ) (new : List ℕ → Type 0) : Type 0 where
  pub forth : (rest : List ℕ) → old (bytes ++ rest) → new rest
  pub back : (rest : List ℕ) → new rest → old (bytes ++ rest)

-- behind no bytes stands the grammar itself
pub Leaves-nil : (old : List ℕ → Type 0) → Leaves old [] old
Leaves-nil old = record { forth = λ rest spelled. spelled; back = λ rest spelled. spelled }

-- one byte more
pub Leaves-push : (old mid new : List ℕ → Type 0) (bytes : List ℕ) (i : ℕ) (byte : ℕ) → i < length bytes → get_or bytes i 0 ≡ byte →
    Leaves old (take i bytes) mid → Follows mid byte new → Leaves old (take (i + 1) bytes) new
Leaves-push old mid new bytes i byte below e leaves follows =
    let more : take (i + 1) bytes ≡ take i bytes ++ byte ∷ [] = take_more bytes i 0 below ∙ ap (λ b. take i bytes ++ b ∷ []) e in
    let at : (rest : List ℕ) → take (i + 1) bytes ++ rest ≡ take i bytes ++ (byte ∷ rest) =
    λ rest. ap (λ (x : List ℕ). x ++ rest) more ∙ append_assoc (take i bytes) (byte ∷ []) rest in
    record {
      forth = λ rest spelled. follows.forth rest (leaves.forth (byte ∷ rest) (subst old (at rest) spelled));
      back = λ rest spelled. subst old (sym (at rest)) (leaves.back (byte ∷ rest) (follows.back rest spelled));
    }

-- a longer prefix is a shorter one, the byte behind that, and more
take-split : (bytes : List ℕ) (i m byte : ℕ) → i < m → m ≤ length bytes → get_or bytes i 0 ≡ byte →
    (more : List ℕ) × (take m bytes ≡ take i bytes ++ (byte ∷ more))
take-split bytes i m byte below within e =
    let shorter : take i (take m bytes) ≡ take i bytes = take-take i m bytes (omega arith) in
    let inside : i < length (take m bytes) = omega (arith, length-take-le m bytes within) in
    let behind : drop i (take m bytes) ≡ get_or (take m bytes) i 0 ∷ drop (i + 1) (take m bytes) = drop_more (take m bytes) i 0 inside in
    let first : get_or (take m bytes) i 0 ≡ byte = get_or-take m bytes i 0 below ∙ e in
    (drop (i + 1) (take m bytes), sym (take-append-drop i (take m bytes)) ∙ cc (shorter, behind, first))

-- a byte that is refused is the place of the fault
pub IsFault_refused : (old mid : List ℕ → Type 0) (bytes : List ℕ) (i : ℕ) (byte : ℕ) → i < length bytes → get_or bytes i 0 ≡ byte →
    Leaves old (take i bytes) mid → IsLive mid → Refuses mid byte → IsFault old bytes i
IsFault_refused old mid bytes i byte below e leaves live refused =
    let longest : (m : ℕ) → i < m → m ≤ length bytes → IsViable old (take m bytes) → ⊥ =
    λ m above within viable. let split = take-split bytes i m byte above within e in
    let at : take m bytes ++ viable.0 ≡ take i bytes ++ (byte ∷ (split.0 ++ viable.0)) =
    ap (λ (x : List ℕ). x ++ viable.0) split.1 ∙ append_assoc (take i bytes) (byte ∷ split.0) viable.0 in
    refused (split.0 ++ viable.0) (leaves.forth (byte ∷ (split.0 ++ viable.0)) (subst old at viable.1)) in
    record {
      not_spelled = λ spelled. longest (length bytes) below (omega arith)
          ([], subst old (sym (append-nil (take (length bytes) bytes) ∙ take_all (length bytes) bytes (omega arith))) spelled);
      reach = record { within = omega arith; viable = (live.0, leaves.back live.0 live.1); longest = longest };
    }

-- bytes that end too early have their fault at the end
pub IsFault_cut : (old mid : List ℕ → Type 0) (bytes : List ℕ) (i : ℕ) → i ≡ length bytes →
    Leaves old (take i bytes) mid → IsLive mid → (mid [] → ⊥) → IsFault old bytes i
IsFault_cut old mid bytes i e leaves live never = record {
  not_spelled = λ spelled. never (leaves.forth [] (subst old (sym (append-nil (take i bytes) ∙ take_all i bytes (omega arith))) spelled));
  reach = record {
    within = omega arith;
    viable = (live.0, leaves.back live.0 live.1);
    longest = λ m above within viable. absurd (omega arith);
  };
}

-- bytes behind which the grammar has the string of no bytes are in the grammar
pub spelled_whole : (old mid : List ℕ → Type 0) (bytes : List ℕ) (i : ℕ) → i ≡ length bytes →
    Leaves old (take i bytes) mid → mid [] → old bytes
spelled_whole old mid bytes i e leaves whole =
    subst old (append-nil (take i bytes) ∙ take_all i bytes (omega arith)) (leaves.back [] whole)
