-- Where the last field with a number stands.
use Rattle.std.proofs.Common.{◌≡◌, ℕ, ◌+◌, ◌*◌, ◌-◌, ◌<◌, ◌≤◌, Bool, true, false, eqb, List, [], ◌∷◌, ◌++◌, length, drop, Option, Some, None, refl, sym, ap, subst, ◌∙◌, arith}
use Rattle.std.specs.Prelude.{unwrap_or}
use Rattle.std.proofs.lemmas.List.{append-nil, length-append, length-drop}
use Rattle.wire_fields.specs.Fields.{Part, field_bytes}
use Rattle.wire_fields.specs.Message.{AreParts, message_bytes, later}
use Rattle.wire_fields.specs.Fields.{IsId, Fits}
use Rattle.wire_fields.specs.Message.{IsMessage}
use Rattle.wire_fields.proofs.Messages.{GoesOn-message_bytes}
use Rattle.field_rules.proofs.OneValues.{same_parts}
use Rattle.field_reader.specs.Faults.{here_place, last_place}
use Rattle.field_reader.proofs.Walks.{IsSoFar, IsMessage-so_far}

later_later : {A : Type 0} (a b c : Option A) → later (later a b) c ≡ later a (later b c)
later_later a b None = refl
later_later a b (Some x) = refl

later_none : {A : Type 0} (o : Option A) → later None o ≡ o
later_none None = refl
later_none (Some x) = refl

-- the fields up to a place, and where the last with the number stands
pub last_place-push : (id at : ℕ) (parts : List (ℕ × Part)) (p : ℕ × Part)
    → last_place id at (parts ++ p ∷ []) ≡ later (last_place id at parts) (here_place (eqb p.0 id) (at + length (message_bytes parts)))
last_place-push id at [] p =
    let here : at ≡ at + length (message_bytes []) = omega arith in
    ap (here_place (eqb p.0 id)) here ∙ sym (later_none (here_place (eqb p.0 id) (at + length (message_bytes []))))
last_place-push id at (q ∷ parts) p =
    let next = at + length (field_bytes q.0 q.1) in
    let rest = last_place-push id next parts p in
    let size = length-append (field_bytes q.0 q.1) (message_bytes parts) in
    let there : next + length (message_bytes parts) ≡ at + length (message_bytes (q ∷ parts)) = omega (arith, size) in
    ap (later (here_place (eqb q.0 id) at)) (rest ∙ ap (λ (k : ℕ). later (last_place id next parts) (here_place (eqb p.0 id) k)) there)
    ∙ sym (later_later (here_place (eqb q.0 id) at) (last_place id next parts) (here_place (eqb p.0 id) (at + length (message_bytes (q ∷ parts)))))

-- the last of the fields so far
abbrev pub IsLastPlace : ℕ → List (ℕ × Part) → Option ℕ → Type 0
IsLastPlace id parts last = last ≡ last_place id 0 parts

pub IsLastPlace-more : (id n at : ℕ) (part : Part) (before here after : Option ℕ) (parts : List (ℕ × Part)) → IsLastPlace id parts before → at ≡ length (message_bytes parts)
    → here ≡ here_place (eqb n id) at → after ≡ later before here → IsLastPlace id (parts ++ (n, part) ∷ []) after
IsLastPlace-more id n at part before here after parts so_far place here_is is =
    let there : here ≡ here_place (eqb n id) (0 + length (message_bytes parts)) = here_is ∙ ap (here_place (eqb n id)) (omega arith) in
    is ∙ ap (λ o. later o here) so_far ∙ ap (later (last_place id 0 parts)) there ∙ sym (last_place-push id 0 parts (n, part))

pub later_within : (before : Option ℕ) (b : Bool) (at used : ℕ) → unwrap_or before 0 ≤ at → unwrap_or (later before (here_place b at)) 0 ≤ at + used
later_within before true at used within = omega arith
later_within before false at used within = omega arith

-- the walk is over, and found the last
pub last_told : (bytes : List ℕ) (id at : ℕ) (last : Option ℕ) (parts : List (ℕ × Part)) (there : ℕ) → IsSoFar (IsLastPlace id) bytes at last → length bytes ≤ at
    → IsMessage bytes parts → last_place id 0 parts ≡ Some there → unwrap_or last 0 ≡ there
last_told bytes id at last parts there so_far end message is =
    let same = same_parts bytes so_far.parts parts (IsMessage-so_far (IsLastPlace id) bytes at last so_far end) message in
    ap (λ o. unwrap_or o 0) (so_far.spelled ∙ ap (last_place id 0) same ∙ is)

no_front : (bytes : List ℕ) (at : ℕ) (others : List (ℕ × Part)) → at < length bytes → ((n : ℕ) (part : Part) (rest : List ℕ) → IsId n → Fits part → drop at bytes ≡ field_bytes n part ++ rest → ⊥)
    → AreParts others → drop at bytes ≡ message_bytes others → ⊥
no_front bytes at [] more none fit is = omega (arith, ap length is, length-drop at bytes)
no_front bytes at (p ∷ others) more none fit is = none p.0 p.1 (message_bytes others) fit.0.0 fit.0.1 is

-- no message stops in the middle
pub no_stop : (bytes : List ℕ) (id at : ℕ) (last : Option ℕ) (parts : List (ℕ × Part)) → IsSoFar (IsLastPlace id) bytes at last → at < length bytes
    → ((n : ℕ) (part : Part) (rest : List ℕ) → IsId n → Fits part → drop at bytes ≡ field_bytes n part ++ rest → ⊥) → IsMessage bytes parts → ⊥
no_stop bytes id at last parts so_far more none message =
    let on = GoesOn-message_bytes so_far.parts parts (drop at bytes) so_far.fit message.0 (sym so_far.whole ∙ message.1) in
    no_front bytes at on.others more none on.fit on.behind
