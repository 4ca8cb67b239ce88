-- What has one value at most.
use Rattle.std.proofs.Common.{◌≡◌, ℕ, List, [], ◌∷◌, ◌++◌, Result, Ok, refl, sym, ap, subst, ◌∙◌}
use Rattle.std.proofs.lemmas.List.{append-nil}
use Rattle.wire_fields.specs.Fields.{Part, number, eight, four, text}
use Rattle.wire_fields.specs.Message.{IsMessage, message_bytes}
use Rattle.wire_fields.proofs.Messages.{GoesOn-message_bytes, no_bytes}
use Rattle.field_rules.specs.declared.unmade.Unmade.{Unmade}
use Rattle.field_rules.specs.Values.{Number, Inner, Text, OneValue}
use Rattle.field_rules.specs.Rules.{values_of, Spell, last_of, Repeated, Last, Rising, ◌&◌}
use Rattle.field_rules.specs.Record.{IsRecord}

-- bytes are a message of one list of fields
pub same_parts : (bytes : List ℕ) (ps qs : List (ℕ × Part)) → IsMessage bytes ps → IsMessage bytes qs → ps ≡ qs
same_parts bytes ps qs is_p is_q =
    let on = GoesOn-message_bytes ps qs [] is_p.0 is_q.0 (append-nil (message_bytes ps) ∙ sym is_p.1 ∙ is_q.1) in
    let none : on.others ≡ [] = no_bytes on.others on.fit on.behind in
    sym (on.joined ∙ ap (λ (zs : List (ℕ × Part)). ps ++ zs) none ∙ append-nil ps)

pub OneValue-Number : (grammar : ℕ → Type 0) → OneValue (Number grammar)
OneValue-Number grammar (number n) v w a b = a.1 ∙ sym b.1
OneValue-Number grammar (eight n) v w a b = absurd a
OneValue-Number grammar (four n) v w a b = absurd a
OneValue-Number grammar (text bytes) v w a b = absurd a

pub OneValue-Inner : {V : Type 0} (spells : List ℕ → V → Type 0) → OneValue spells → OneValue (Inner spells)
OneValue-Inner spells one (number n) v w a b = absurd a
OneValue-Inner spells one (eight n) v w a b = absurd a
OneValue-Inner spells one (four n) v w a b = absurd a
OneValue-Inner spells one (text bytes) v w a b = one bytes v w a b

pub OneValue-Text : (grammar : List ℕ → Type 0) → OneValue (Text grammar)
OneValue-Text grammar = OneValue-Inner (λ bytes v. grammar bytes × (v ≡ bytes)) (λ bytes v w a b. a.1 ∙ sym b.1)

pub OneValue-Spell : {V : Type 0} (spells : Part → V → Type 0) → OneValue spells → OneValue (Spell spells)
OneValue-Spell spells one [] [] [] a b = refl
OneValue-Spell spells one [] [] (w ∷ ws) a b = absurd b
OneValue-Spell spells one [] (v ∷ vs) ws a b = absurd a
OneValue-Spell spells one (x ∷ xs) [] ws a b = absurd a
OneValue-Spell spells one (x ∷ xs) (v ∷ vs) [] a b = absurd b
OneValue-Spell spells one (x ∷ xs) (v ∷ vs) (w ∷ ws) a b =
    let first = one x v w a.0 b.0 in
    let rest = OneValue-Spell spells one xs vs ws a.1 b.1 in
    λ i. first i ∷ rest i

pub OneValue-Repeated : {V : Type 0} (spells : Part → V → Type 0) (id : ℕ) → OneValue spells → OneValue (Repeated spells id)
OneValue-Repeated spells id one parts vs ws a b = OneValue-Spell spells one (values_of id parts) vs ws a.each b.each

pub OneValue-Last : {V : Type 0} (spells : Part → V → Type 0) (id : ℕ) → OneValue spells → OneValue (Last spells id)
OneValue-Last spells id one parts v w a b =
    a.counts ∙ ap last_of (OneValue-Spell spells one (values_of id parts) a.all b.all a.each b.each) ∙ sym b.counts

pub OneValue-Rising : {V : Type 0} (spells : Part → List ℕ × V → Type 0) (id : ℕ) → OneValue spells → OneValue (Rising spells id)
OneValue-Rising spells id one parts vs ws a b = OneValue-Spell spells one (values_of id parts) vs ws a.each b.each

pub OneValue-& : {A B : Type 0} (f : List (ℕ × Part) → A → Type 0) (g : List (ℕ × Part) → B → Type 0) → OneValue f → OneValue g → OneValue (f & g)
OneValue-& f g one other parts v w a b =
    let first = one parts v.0 w.0 a.0 b.0 in
    let second = other parts v.1 w.1 a.1 b.1 in
    λ i. (first i, second i)

ok : {V : Type 0} → V → Result V Unmade
ok v = Ok v

ok_same : {V : Type 0} (v w : V) (r : Result V Unmade) → r ≡ Ok v → r ≡ Ok w → v ≡ w
ok_same v w r a b = cc

pub OneValue-IsRecord : {S V : Type 0} (rules : List (ℕ × Part) → S → Type 0) (made : S → Result V Unmade) → OneValue rules → OneValue (IsRecord rules made)
OneValue-IsRecord rules made one bytes v w a b =
    let parts = same_parts bytes a.parts b.parts a.message b.message in
    let spelled = subst (λ ps. rules ps a.values) parts a.spelled in
    let values = one b.parts a.values b.values spelled b.spelled in
    ok_same v w (made b.values) (ap made (sym values) ∙ a.whole) b.whole
