use Rattle.std.proofs.Common.{◌≡◌, ℕ, List, [], ◌∷◌, codes, refl, subst, ap, arith, Option, Some, None, true, inl}
use Rattle.hb_grammar.specs.declared.class.Class.TheVariants.{Name, FamilyStart}
use Rattle.hb_grammar.specs.Grammar.{Same, IsLive}
use Rattle.hb_grammar.specs.Class.{has}
use Rattle.hb_grammar.specs.Marked.{Avoids}
use Rattle.hb_grammar.specs.Run.{IsRun, IsExactly}
use Rattle.hb_grammar.specs.TextOf.{IsTextOf, IsTold, IsPair, pair_text}
use Rattle.hb_grammar.proofs.AvoidsLemmas.{Avoids-Free, Free-Joined, Free-IsExactly, Free-IsRun}
use Rattle.hb_grammar.proofs.TextOfLemmas.{IsTold-IsPair}
use Rattle.hb_grammar.proofs.AtLeastLemmas.{Avoids-NotBelow, Same-FromBound}
use Rattle.hb_grammar.specs.Rows.{IsBegun}
use Rattle.hb_grammar.proofs.RowsLemmas.{IsApart}
use Rattle.hb_names.specs.FamilyName.{IsFamilyName}
use Rattle.commit_line.specs.Line.{field, IsNumber}
use Rattle.commit_line.proofs.ReadLemmas.{Same-map}
use Rattle.region_set.specs.FamilyLine.{IsFamilyBehind, IsNameBehind, family_text, begins_family}
use Rattle.region_set.proofs.FieldLemmas.{Always, IsTold-Always, IsTold-field, last_number, IsTold-last_number}

-- no family's name has a blank
pub Avoids-IsFamilyName : Avoids IsFamilyName 32
unfolding has
Avoids-IsFamilyName =
    Avoids-Free IsFamilyName 32
    (Free-Joined (IsExactly FamilyStart 1) (IsRun Name 0 126) 32 (Free-IsExactly FamilyStart 1 32 refl) (Free-IsRun Name 0 126 32 refl))

-- nor has one that stands behind a family
pub Avoids-IsNameBehind : (last : Option (List ℕ × ℕ)) → Avoids (IsNameBehind last) 32
Avoids-IsNameBehind None = Avoids-IsFamilyName
Avoids-IsNameBehind (Some last) = Avoids-NotBelow IsFamilyName (Some last.0) 32 Avoids-IsFamilyName

-- there is a family's name behind each family that has one
pub IsLive-IsNameBehind : (last : Option (List ℕ × ℕ)) → ((family : List ℕ × ℕ) → last ≡ Some family → IsFamilyName family.0) → IsLive (IsNameBehind last)
unfolding has
IsLive-IsNameBehind None named = (
  97 ∷ [],
  record {
    front = 97 ∷ [];
    back = [];
    whole = refl;
    in_first = record { long = refl; each = (refl, tt) };
    in_second = record { least = omega arith; most = omega arith; each = tt };
  },
)
IsLive-IsNameBehind (Some last) named =
    let same = Same-FromBound IsFamilyName (Some last.0) (λ bytes e. subst IsFamilyName (let k : last.0 ≡ bytes = cc in k) (named last refl)) in
    (last.0, same.forth last.0 (inl refl))

-- the numbers of versions
abbrev pub IsVersions : ℕ → Type 0
IsVersions = IsNumber 1 2_147_483_647

-- there is a number of versions
pub IsLive-IsVersions : IsLive (IsTextOf IsVersions last_number)
IsLive-IsVersions = (last_number 1, (1, (omega arith, omega arith), refl))

-- a name behind a family, and a number of versions
abbrev pub IsNamed : Option (List ℕ × ℕ) → List ℕ × ℕ → Type 0
IsNamed last = IsPair (IsNameBehind last) (λ _. IsVersions)

-- the text of these
abbrev pub named_text : List ℕ × ℕ → List ℕ
named_text = pair_text field last_number

-- there are such
pub IsLive-IsNamed : (last : Option (List ℕ × ℕ)) → IsLive (IsNameBehind last) → IsLive (IsTextOf (IsNamed last) named_text)
IsLive-IsNamed last live = (named_text (live.0, 1), ((live.0, 1), (live.1, (omega arith, omega arith)), refl))

-- they are a family
pub IsFamilyBehind-IsNamed : (last : Option (List ℕ × ℕ)) (family : List ℕ × ℕ) → IsNamed last family → IsFamilyBehind last family
IsFamilyBehind-IsNamed None family ok = record { name = ok.0; versions = ok.1 }
IsFamilyBehind-IsNamed (Some last) family ok = (record { name = ok.0.0; versions = ok.1 }, ok.0.1)

-- and each family is such
pub IsNamed-IsFamilyBehind : (last : Option (List ℕ × ℕ)) (family : List ℕ × ℕ) → IsFamilyBehind last family → IsNamed last family
IsNamed-IsFamilyBehind None family ok = (ok.name, ok.versions)
IsNamed-IsFamilyBehind (Some last) family ok = ((ok.0.name, ok.1), ok.0.versions)

-- the first word of a family's line, which is always the same
abbrev pub family_word : Unit {0} → List ℕ
family_word _ = codes "family"

-- a family with the first word of its line
abbrev pub IsLine : Option (List ℕ × ℕ) → Unit {0} × (List ℕ × ℕ) → Type 0
IsLine last = IsPair Always (λ _. IsNamed last)

-- the text of these
abbrev pub line_text : Unit {0} × (List ℕ × ℕ) → List ℕ
line_text = pair_text (λ word. field (family_word word)) named_text

-- they are families
pub Same-family : (last : Option (List ℕ × ℕ)) → Same (IsTextOf (IsLine last) line_text) (IsTextOf (IsFamilyBehind last) family_text)
Same-family last =
    Same-map (IsLine last) line_text (IsFamilyBehind last) family_text (λ line. line.1) (λ family. (tt, family))
    (λ line ok. IsFamilyBehind-IsNamed last line.1 ok.1) (λ family ok. (tt, IsNamed-IsFamilyBehind last family ok)) (λ line. refl) (λ family. refl)

-- families behind another are told by their lines
pub IsTold-family : (last : Option (List ℕ × ℕ)) → IsTold (IsFamilyBehind last) family_text
IsTold-family last v w a b ok ok' e =
    let named = IsTold-IsPair (IsNameBehind last) field (λ _. IsVersions) last_number (IsTold-field (IsNameBehind last) (Avoids-IsNameBehind last))
    (λ _ _. IsTold-last_number 1 2_147_483_647 (omega arith)) in
    let line = IsTold-IsPair Always (λ word. field (family_word word)) (λ _. IsNamed last) named_text (IsTold-Always (field (codes "family"))) (λ _ _. named) in
    let same = line (tt, v) (tt, w) a b (tt, IsNamed-IsFamilyBehind last v ok) (tt, IsNamed-IsFamilyBehind last w ok') e in
    ap (λ p. p.1) same

-- families stand apart from whatever doesn't begin as they do
pub IsApart-family : (tail : List ℕ → Type 0) → ((bytes : List ℕ) → tail bytes → IsBegun begins_family bytes → ⊥) → IsApart IsFamilyBehind family_text tail begins_family
IsApart-family tail other = record { rows = λ last family ok. refl; tails = other; told = IsTold-family }
