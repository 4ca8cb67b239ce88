-- What a line adds to the sessions, and where it is bad.
use Rattle.std.proofs.Common.{◌≡◌, ℕ, zero, suc, ◌+◌, ◌<◌, ◌≤◌, List, [], ◌∷◌, ◌++◌, Bool, true, false, ◌||◌, Result, Ok, Err, OnOk, count_by, filter, get_or, length, map, refl, sym, ap, ◌∙◌, subst, arith, inl, inr}
use Rattle.std.specs.List.{AllByRecursion}
use Rattle.std.specs.Str.{bytes_eq}
use Rattle.std.proofs.lemmas.List.{length-map}
use Rattle.std.proofs.lemmas.List.Sums.{count_by-le-length, length-filter}
use Rattle.hb_grammar.specs.Grammar.{IsFault}
use Rattle.shell_line.specs.declared.line_kind.LineKind.{LineKind}
use Rattle.shell_line.specs.Line.{IsLine}
use Rattle.shell_script.specs.declared.session.Session.{Session}
use Rattle.shell_script.specs.declared.add.Refusal.{Refusal}
use Rattle.shell_script.specs.declared.add.Refusal.TheVariants.{Behind, NoMemory}
use Rattle.shell_script.specs.Block.{IsBlock, begins, block_name, is_used, names_of}
use Rattle.shell_script.specs.Session.{IsAllowed, IsBadBehind, IsGood, IsRefused, IsTaken, name_of, names_begun}

-- a name more that is not the wanted one
none_more : (b c : Bool) → b ≡ false → c ≡ false → b || c ≡ false
none_more b c e f = cc

one_first : (b c : Bool) → b ≡ true → b || c ≡ true
one_first b c e = cc

one_later : (b c : Bool) → c ≡ true → b || c ≡ true
one_later true c e = refl
one_later false c e = e

first_none : (b c : Bool) → b || c ≡ false → (b ≡ false) × (c ≡ false)
first_none true c e = absurd (cc)
first_none false c e = (refl, e)

pub is_used-push : (sessions : List Session) (session : Session) (name : List ℕ) → is_used (map name_of sessions) name ≡ false → bytes_eq session.name name ≡ false →
    is_used (map name_of (sessions ++ session ∷ [])) name ≡ false
is_used-push [] session name none other = none_more (bytes_eq session.name name) false other refl
is_used-push (s ∷ ss) session name none other =
    let both = first_none (bytes_eq s.name name) (is_used (map name_of ss) name) none in
    none_more (bytes_eq s.name name) (is_used (map name_of (ss ++ session ∷ [])) name) both.0 (is_used-push ss session name both.1 other)

pub is_used-at : (sessions : List Session) (i : ℕ) (session : Session) (name : List ℕ) → i < length sessions → session ≡ get_or sessions i session → bytes_eq session.name name ≡ true →
    is_used (map name_of sessions) name ≡ true
is_used-at [] i session name below is e = absurd (omega arith)
is_used-at (s ∷ ss) zero session name below is e =
    one_first (bytes_eq s.name name) (is_used (map name_of ss) name) (ap (λ (t : Session). bytes_eq t.name name) (sym is) ∙ e)
is_used-at (s ∷ ss) (suc i) session name below is e =
    one_later (bytes_eq s.name name) (is_used (map name_of ss) name) (is_used-at ss i session name (omega arith) is e)

-- in a script without blocks no line begins a session
pub no_begins : (lines : List (ℕ × List ℕ)) → count_by (λ (line : ℕ × List ℕ). begins false line.1) lines ≡ 0
no_begins [] = refl
no_begins (l ∷ ls) = no_begins ls

pub allowed_begun : (kinds : List LineKind) (blocks : Bool) (sessions : List Session) (line : List ℕ) (at : ℕ) → 0 < length sessions →
    ((name : List ℕ) (names : List (List ℕ)) → IsFault (IsAllowed kinds blocks (name ∷ names)) line at) → IsFault (IsAllowed kinds blocks (names_begun blocks sessions)) line at
allowed_begun kinds true [] line at some f = absurd (omega arith)
allowed_begun kinds true (s ∷ ss) line at some f = f s.name (map name_of ss)
allowed_begun kinds false sessions line at some f = f [] []

-- a good line
true_false : (b : Bool) → b ≡ true → b ≡ false → ⊥
true_false true e f = absurd (cc)
true_false false e f = absurd (cc)

IsGood-line : (kinds : List LineKind) (line : List ℕ) → IsLine kinds line → IsGood kinds false [] line
IsGood-line kinds line is = record { allowed = is; fresh = λ e. absurd (cc e) }

allowed_block : (kinds : List LineKind) (names : List (List ℕ)) (line : List ℕ) → IsBlock line → IsAllowed kinds true names line
allowed_block kinds [] line block = block
allowed_block kinds (name ∷ names) line block = inr block

IsGood-block : (kinds : List LineKind) (names : List (List ℕ)) (line : List ℕ) → IsBlock line → is_used names (block_name line) ≡ false → IsGood kinds true names line
IsGood-block kinds names line block fresh = record { allowed = allowed_block kinds names line block; fresh = λ _. fresh }

allowed_line : (kinds : List LineKind) (sessions : List Session) (line : List ℕ) → 0 < length sessions → IsLine kinds line → IsAllowed kinds true (map name_of sessions) line
allowed_line kinds [] line some is = absurd (omega arith)
allowed_line kinds (s ∷ ss) line some is = inl is

IsGood-asked : (kinds : List LineKind) (sessions : List Session) (line : List ℕ) → 0 < length sessions → begins true line ≡ false → IsLine kinds line →
    IsGood kinds true (map name_of sessions) line
IsGood-asked kinds sessions line some other is =
    record { allowed = allowed_line kinds sessions line some is; fresh = λ e. absurd (true_false (begins true line) e other) }

-- what holds of a call that succeeds
on_ok : {E : Type 0} (P Q : Type 0) (result : Result (Unit {0}) E) → (P → Q) → OnOk result P → OnOk result Q
on_ok P Q (Ok u) f h = f h
on_ok P Q (Err e) f h = tt

pub OnOk-line : {E : Type 0} (kinds : List LineKind) (blocks : Bool) (sessions : List Session) (line : List ℕ) (result : Result (Unit {0}) E) → blocks ≡ false → OnOk result (IsLine kinds line) →
    OnOk result (IsGood kinds blocks (names_begun blocks sessions) line)
OnOk-line kinds blocks sessions line result e h =
    subst (λ (b : Bool). OnOk result (IsGood kinds b (names_begun b sessions) line)) (sym e) (on_ok (IsLine kinds line) (IsGood kinds false [] line) result (IsGood-line kinds line) h)

pub OnOk-block : {E : Type 0} (kinds : List LineKind) (names : List (List ℕ)) (line : List ℕ) (result : Result (Unit {0}) E) → IsBlock line → OnOk result (is_used names (block_name line) ≡ false) →
    OnOk result (IsGood kinds true names line)
OnOk-block kinds names line result block h = on_ok (is_used names (block_name line) ≡ false) (IsGood kinds true names line) result (IsGood-block kinds names line block) h

pub OnOk-asked : {E : Type 0} (kinds : List LineKind) (sessions : List Session) (line : List ℕ) (result : Result (Unit {0}) E) → 0 < length sessions → begins true line ≡ false →
    OnOk result (IsLine kinds line) → OnOk result (IsGood kinds true (map name_of sessions) line)
OnOk-asked kinds sessions line result some other h = on_ok (IsLine kinds line) (IsGood kinds true (map name_of sessions) line) result (IsGood-asked kinds sessions line some other) h

pub IsRefused-IsTaken : (kinds : List LineKind) (names : List (List ℕ)) (line : List ℕ) (refusal : Refusal) → IsBlock line → IsTaken names line refusal → IsRefused kinds true names line refusal
IsRefused-IsTaken kinds names line (Behind at) block taken = inr (block, taken.0, taken.1)
IsRefused-IsTaken kinds names line NoMemory block taken = tt

-- the place of a bad line lies within it
pub IsBadBehind-within : (kinds : List LineKind) (blocks : Bool) (names : List (List ℕ)) (line : List ℕ) (at : ℕ) → IsBadBehind kinds blocks names line at → at ≤ length line
IsBadBehind-within kinds blocks names line at (inl fault) = fault.reach.within
IsBadBehind-within kinds blocks names line at (inr used) = omega (arith, used.2)

-- there are no more sessions than lines
length-names_of : (blocks : Bool) (lines : List (ℕ × List ℕ)) → length (names_of blocks lines) ≤ length lines
length-names_of blocks lines =
    let test = λ (line : ℕ × List ℕ). begins blocks line.1 in
    omega (arith, length-map (filter test lines) (λ (line : ℕ × List ℕ). block_name line.1), length-filter test lines, count_by-le-length test lines)

pub length-names_begun : (blocks : Bool) (front : List (ℕ × List ℕ)) (sessions : List Session) → names_of blocks front ≡ names_begun blocks sessions → length (names_begun blocks sessions) ≤ length front
length-names_begun blocks front sessions e = omega (arith, length-names_of blocks front, ap length e)

-- what holds of each line holds of the one at an index
pub AllByRecursion-at : (P : ℕ × List ℕ → Type 0) (lines : List (ℕ × List ℕ)) (i : ℕ) (line : ℕ × List ℕ) → i < length lines → line ≡ get_or lines i line → AllByRecursion P lines → P line
AllByRecursion-at P [] i line below is all = absurd (omega arith)
AllByRecursion-at P (l ∷ ls) zero line below is all = subst P (sym is) all.0
AllByRecursion-at P (l ∷ ls) (suc i) line below is all = AllByRecursion-at P ls i line (omega arith) is all.1

pub AllByRecursion-short : (limit bound : ℕ) (lines : List (ℕ × List ℕ)) → limit + 1 < bound → AllByRecursion (λ (line : ℕ × List ℕ). length line.1 ≤ limit) lines →
    AllByRecursion (λ (line : ℕ × List ℕ). length line.1 + 1 < bound) lines
AllByRecursion-short limit bound [] less all = tt
AllByRecursion-short limit bound (l ∷ ls) less all = (omega (arith, all.0), AllByRecursion-short limit bound ls less all.1)
