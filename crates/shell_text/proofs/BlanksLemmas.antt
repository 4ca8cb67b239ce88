use Rattle.std.proofs.Common.{◌≡◌, ℕ, List, [], ◌∷◌, ◌++◌, Bool, true, false, refl, sym, ap, subst, ◌≢◌}
use Rattle.hb_grammar.specs.Grammar.{Follows, Refuses}
use Rattle.hb_grammar.specs.Joined.{Joined}
use Rattle.hb_grammar.specs.JoinedLaws.{Joined-nil_second}
use Rattle.shell_text.specs.Blanks.{BlanksFrom, PaddedFrom}

-- a padded grammar has the string of no bytes where the grammar has it
pub PaddedFrom-nil : (padding : Bool) (inner : List ℕ → Type 0) → inner [] → PaddedFrom padding inner []
PaddedFrom-nil true inner whole = record { front = []; back = []; whole = refl; in_first = tt; in_second = whole }
PaddedFrom-nil false inner whole = whole

pub nil-PaddedFrom : (padding : Bool) (inner : List ℕ → Type 0) → PaddedFrom padding inner [] → inner []
nil-PaddedFrom true inner pair = Joined-nil_second (BlanksFrom false) inner pair
nil-PaddedFrom false inner whole = whole

-- behind a blank of the padding stands what stood before it
behind-blank : (inner : List ℕ → Type 0) (rest front back : List ℕ) → Refuses inner 32 → 32 ∷ rest ≡ front ++ back → BlanksFrom false front → inner back →
    Joined (BlanksFrom false) inner rest
behind-blank inner rest [] back refused e blanks spelled = absurd (refused rest (subst inner (sym e) spelled))
behind-blank inner rest (x ∷ xs) back refused e blanks spelled =
    record { front = xs; back = back; whole = cc; in_first = blanks.1; in_second = spelled }

pub Follows-blank : (inner : List ℕ → Type 0) (byte : ℕ) → byte ≡ 32 → Refuses inner 32 → Follows (PaddedFrom true inner) byte (PaddedFrom true inner)
Follows-blank inner byte e refused = subst (λ (b : ℕ). Follows (PaddedFrom true inner) b (PaddedFrom true inner)) (sym e) (record {
  forth = λ rest pair. behind-blank inner rest pair.front pair.back refused pair.whole pair.in_first pair.in_second;
  back = λ rest pair. record {
    front = 32 ∷ pair.front;
    back = pair.back;
    whole = ap (λ (x : List ℕ). 32 ∷ x) pair.whole;
    in_first = (refl, pair.in_first);
    in_second = pair.in_second;
  };
})

-- another byte is one of the grammar itself
unpadded : (inner : List ℕ → Type 0) (byte : ℕ) (rest front back : List ℕ) → byte ≢ 32 → byte ∷ rest ≡ front ++ back → BlanksFrom false front → inner back →
    inner (byte ∷ rest)
unpadded inner byte rest [] back other e blanks spelled = subst inner (sym e) spelled
unpadded inner byte rest (x ∷ xs) back other e blanks spelled =
    let same : byte ≡ x = cc in
    let blank : x ≡ 32 = blanks.0 in
    absurd (other cc)

pub Follows-unpadded : (inner next : List ℕ → Type 0) (byte : ℕ) → byte ≢ 32 → Follows inner byte next → Follows (PaddedFrom true inner) byte next
Follows-unpadded inner next byte other follows = record {
  forth = λ rest pair. follows.forth rest (unpadded inner byte rest pair.front pair.back other pair.whole pair.in_first pair.in_second);
  back = λ rest spelled. record { front = []; back = byte ∷ rest; whole = refl; in_first = tt; in_second = follows.back rest spelled };
}

pub Refuses-unpadded : (inner : List ℕ → Type 0) (byte : ℕ) → byte ≢ 32 → Refuses inner byte → Refuses (PaddedFrom true inner) byte
Refuses-unpadded inner byte other refused rest pair =
    refused rest (unpadded inner byte rest pair.front pair.back other pair.whole pair.in_first pair.in_second)
