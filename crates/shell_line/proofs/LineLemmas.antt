use Rattle.std.proofs.Common.{◌≡◌, ℕ, zero, suc, ◌+◌, ◌-◌, ◌<◌, ◌≤◌, List, [], ◌∷◌, ◌++◌, Bool, true, false, ◌||◌, nat_eq, cond, Option, Some, None, length, take, drop, get_or, refl, sym, ap, ◌∙◌, subst, inl, inr, arith, All, Contains}
use Rattle.std.specs.List.{list_any}
use Rattle.std.proofs.lemmas.List.{append_assoc, append-nil, take-append-drop, take_more, drop_more, length-drop, length-append, length-take-le, take_at}
use Rattle.std.proofs.lemmas.List.Elements.{All-contains, Contains-get_or}
use Rattle.std.proofs.lemmas.Bool.{cases_lt}
use Rattle.hb_grammar.specs.Grammar.{IsFault, IsLive, Refuses}
use Rattle.hb_grammar.specs.Joined.{Joined}
use Rattle.hb_grammar.specs.JoinedLaws.{IsLive-Joined}
use Rattle.hb_grammar.specs.Marked.{Marked}
use Rattle.hb_grammar.proofs.FrontLemmas.{GoesOn, GoesOn-cuts}
use Rattle.hb_grammar.proofs.GrammarLemmas.{IsFault_cut, IsFault_refused, Leaves}
use Rattle.shell_text.specs.declared.argument.Argument.{Argument}
use Rattle.shell_line.specs.declared.line_kind.LineKind.{LineKind}
use Rattle.shell_line.specs.declared.line_kind.LineKind.TheVariants as kind
use Rattle.shell_line.specs.declared.line_kind.Arguments.{Arguments}
use Rattle.shell_line.specs.declared.line_kind.Arguments.TheVariants.{Nothing, One, Two, Put, Delete, Create}
use Rattle.shell_text.specs.declared.text.Place.TheVariants.{Between}
use Rattle.shell_text.specs.Blanks.{BlanksFrom, IsLive-BlanksFrom}
use Rattle.shell_line.specs.Line.{Begins, IsArguments, IsBegun, IsLine, IsLineOf, arguments, word}
use Rattle.shell_line.specs.Table.{IsItem, IsLead, IsQuoted, column, family, name, cell_value, row}
use Rattle.shell_text.specs.Text.{IsText}
use Rattle.shell_text.specs.TextLaws.{IsLive-TextFrom}

-- arguments begin with a blank
lead_blank : (byte : ℕ) (rest front : List ℕ) → byte ∷ rest ≡ front ++ 39 ∷ [] → BlanksFrom true front → byte ≡ 32
lead_blank byte rest [] e blanks = absurd blanks
lead_blank byte rest (x ∷ xs) e blanks = let same : byte ≡ x = cc in same ∙ blanks.0

-- no lead is the string of no bytes
lead_some : (front : List ℕ) → [] ≡ front ++ 39 ∷ [] → ⊥
lead_some [] e = cc
lead_some (x ∷ xs) e = cc

-- what begins a string of two grammars begins one of the first
AllBlank : (List ℕ → Type 0) → Type 0
AllBlank spells = (byte : ℕ) (rest : List ℕ) → spells (byte ∷ rest) → byte ≡ 32

joined_blank : (first second : List ℕ → Type 0) → AllBlank first → (first [] → ⊥) → (byte : ℕ) (rest front back : List ℕ) → byte ∷ rest ≡ front ++ back → first front → byte ≡ 32
unfolding AllBlank
joined_blank first second blank never byte rest [] back e a = absurd (never a)
joined_blank first second blank never byte rest (x ∷ xs) back e a = let same : byte ≡ x = cc in same ∙ blank x xs a

joined_some : (first second : List ℕ → Type 0) → (first [] → ⊥) → (front back : List ℕ) → [] ≡ front ++ back → first front → ⊥
joined_some first second never [] back e a = never a
joined_some first second never (x ∷ xs) back e a = cc

Joined-blank : (first second : List ℕ → Type 0) → AllBlank first → (first [] → ⊥) → AllBlank (Joined first second)
unfolding AllBlank
Joined-blank first second blank never byte rest pair = joined_blank first second blank never byte rest pair.front pair.back pair.whole pair.in_first

Joined-some : (first second : List ℕ → Type 0) → (first [] → ⊥) → Joined first second [] → ⊥
Joined-some first second never pair = joined_some first second never pair.front pair.back pair.whole pair.in_first

lead-blank : AllBlank (IsLead true 39)
unfolding AllBlank
lead-blank byte rest marked = lead_blank byte rest marked.front marked.whole marked.in_inner

lead-some : IsLead true 39 [] → ⊥
lead-some marked = lead_some marked.front marked.whole

first-blank : (argument : Argument) (rest : List ℕ → Type 0) → AllBlank (Joined (IsQuoted true argument) rest)
first-blank argument rest =
    Joined-blank (IsQuoted true argument) rest (Joined-blank (IsLead true 39) (Marked (IsText argument) 39) lead-blank lead-some)
    (Joined-some (IsLead true 39) (Marked (IsText argument) 39) lead-some)

arguments_blank : (arguments : Arguments) (byte : ℕ) (rest : List ℕ) → IsArguments arguments (byte ∷ rest) → byte ≡ 32
unfolding AllBlank
arguments_blank Nothing byte rest h = h.0
arguments_blank (One argument) byte rest h = first-blank argument (BlanksFrom false) byte rest h
arguments_blank (Two first second) byte rest h = first-blank first (Joined (IsItem second) (BlanksFrom false)) byte rest h
arguments_blank Put byte rest h = first-blank name _ byte rest h
arguments_blank Delete byte rest h = first-blank name _ byte rest h
arguments_blank Create byte rest h = first-blank name _ byte rest h

-- each kind has arguments
live_lead : (some : Bool) (mark : ℕ) → IsLive (IsLead some mark)
live_lead some mark = let blanks = IsLive-BlanksFrom some in (blanks.0 ++ mark ∷ [], record { front = blanks.0; whole = refl; in_inner = blanks.1 })

live_text : (argument : Argument) → IsLive (Marked (IsText argument) 39)
live_text argument = let text = IsLive-TextFrom Between argument refl in (text.0 ++ 39 ∷ [], record { front = text.0; whole = refl; in_inner = text.1 })

live_quoted : (some : Bool) (argument : Argument) → IsLive (IsQuoted some argument)
live_quoted some argument = IsLive-Joined (IsLead some 39) (Marked (IsText argument) 39) (live_lead some 39) (live_text argument)

live_item : (argument : Argument) → IsLive (IsItem argument)
live_item argument = IsLive-Joined (IsLead false 44) (IsQuoted false argument) (live_lead false 44) (live_quoted false argument)

live_arguments : (arguments : Arguments) → IsLive (IsArguments arguments)
live_arguments Nothing = ([], tt)
live_arguments (One argument) = IsLive-Joined (IsQuoted true argument) _ (live_quoted true argument) ([], tt)
live_arguments (Two first second) = IsLive-Joined (IsQuoted true first) _ (live_quoted true first) (IsLive-Joined (IsItem second) _ (live_item second) ([], tt))
live_arguments Put =
    IsLive-Joined (IsQuoted true name) _ (live_quoted true name) (IsLive-Joined (IsItem row) _ (live_item row)
    (IsLive-Joined (IsItem column) _ (live_item column) (IsLive-Joined (IsItem cell_value) _ (live_item cell_value) ([], inl tt))))
live_arguments Delete =
    let stamped = IsLive-Joined (IsItem column) _ (live_item column) ([], inl (inl tt)) in
    IsLive-Joined (IsQuoted true name) _ (live_quoted true name) (IsLive-Joined (IsItem row) _ (live_item row) (stamped.0, inl stamped.1))
live_arguments Create =
    IsLive-Joined (IsQuoted true name) _ (live_quoted true name) (IsLive-Joined (IsItem family) _ (live_item family) ([], inl (inl tt)))

cond_or : (a b : Bool) → a ≡ false → b ≡ false → a || b ≡ false
cond_or false b e f = f
cond_or true b e f = absurd (cc)

-- bytes without a blank
is_blank : ℕ → Bool
is_blank byte = nat_eq byte 32

abbrev NoBlank : List ℕ → Type 0
NoBlank bytes = list_any is_blank bytes ≡ false

either_false : (a b : Bool) → a || b ≡ false → (a ≡ false) × (b ≡ false)
either_false false b e = (refl, e)
either_false true b e = absurd (cc)

NoBlank-at : (front : List ℕ) (byte : ℕ) (rest : List ℕ) → byte ≡ 32 → NoBlank (front ++ byte ∷ rest) → ⊥
unfolding is_blank
NoBlank-at [] byte rest e none =
    let never : nat_eq 32 32 ≡ false = subst (λ (b : ℕ). nat_eq b 32 ≡ false) e (either_false (nat_eq byte 32) _ none).0 in
    cc never
NoBlank-at (x ∷ xs) byte rest e none = NoBlank-at xs byte rest e (either_false (is_blank x) _ none).1

NoBlank-front : (front rest : List ℕ) → NoBlank (front ++ rest) → NoBlank front
NoBlank-front [] rest none = refl
NoBlank-front (x ∷ xs) rest none =
    let both = either_false (is_blank x) _ none in
    cond_or (is_blank x) (list_any is_blank xs) both.0 (NoBlank-front xs rest both.1)

word_NoBlank : (k : LineKind) → NoBlank (word k)
unfolding is_blank
word_NoBlank kind.Create = refl
word_NoBlank kind.Put = refl
word_NoBlank kind.Delete = refl
word_NoBlank kind.Scan = refl
word_NoBlank kind.Flush = refl
word_NoBlank kind.Compact = refl
word_NoBlank kind.MajorCompact = refl
word_NoBlank kind.Disable = refl
word_NoBlank kind.Enable = refl
word_NoBlank kind.Drop = refl
word_NoBlank kind.Split = refl
word_NoBlank kind.Snapshot = refl
word_NoBlank kind.ListSnapshots = refl
word_NoBlank kind.DeleteSnapshot = refl
word_NoBlank kind.CloneSnapshot = refl
word_NoBlank kind.RestoreSnapshot = refl
word_NoBlank kind.Bulkload = refl
word_NoBlank kind.CatalogjanitorRun = refl
word_NoBlank kind.CleanerChoreRun = refl

-- a kind is told by its word
bytes_eq : List ℕ → List ℕ → Bool
bytes_eq [] [] = true
bytes_eq [] (y ∷ ys) = false
bytes_eq (x ∷ xs) [] = false
bytes_eq (x ∷ xs) (y ∷ ys) = cond (nat_eq x y) (bytes_eq xs ys) false

kind_among : List LineKind → List ℕ → Option LineKind
kind_among [] bytes = None
kind_among (k ∷ ks) bytes = cond (bytes_eq (word k) bytes) (Some k) (kind_among ks bytes)

kind_of : List ℕ → Option LineKind
kind_of bytes = kind_among (kind.Create ∷ kind.Put ∷ kind.Delete ∷ kind.Scan ∷ kind.Flush ∷ kind.Compact ∷ kind.MajorCompact ∷ kind.Disable ∷ kind.Enable ∷ kind.Drop ∷ kind.Split ∷ kind.Snapshot ∷ kind.ListSnapshots ∷ kind.DeleteSnapshot ∷ kind.CloneSnapshot ∷ kind.RestoreSnapshot ∷ kind.Bulkload ∷ kind.CatalogjanitorRun ∷ kind.CleanerChoreRun ∷ []) bytes

kind_of-word : (k : LineKind) → kind_of (word k) ≡ Some k
unfolding kind_of kind_among bytes_eq
kind_of-word kind.Create = refl
kind_of-word kind.Put = refl
kind_of-word kind.Delete = refl
kind_of-word kind.Scan = refl
kind_of-word kind.Flush = refl
kind_of-word kind.Compact = refl
kind_of-word kind.MajorCompact = refl
kind_of-word kind.Disable = refl
kind_of-word kind.Enable = refl
kind_of-word kind.Drop = refl
kind_of-word kind.Split = refl
kind_of-word kind.Snapshot = refl
kind_of-word kind.ListSnapshots = refl
kind_of-word kind.DeleteSnapshot = refl
kind_of-word kind.CloneSnapshot = refl
kind_of-word kind.RestoreSnapshot = refl
kind_of-word kind.Bulkload = refl
kind_of-word kind.CatalogjanitorRun = refl
kind_of-word kind.CleanerChoreRun = refl

same_value : {V : Type 0} (x y : V) → Some x ≡ Some y → x ≡ y
same_value x y e = cc

word-injective : (k l : LineKind) → word k ≡ word l → k ≡ l
word-injective k l e = same_value k l (sym (kind_of-word k) ∙ ap kind_of e ∙ kind_of-word l)

-- a line that begins with a front of a word goes on with the rest of its word
meets_at : (front x w a : List ℕ) (k : Arguments) → NoBlank front → IsArguments k a → (more : List ℕ) → front ≡ w ++ more → a ≡ more ++ x → GoesOn front x w a
meets_at front x w a k none h [] e f = ([], sym (append-nil front ∙ e ∙ append-nil w), sym f)
meets_at front x w a k none h (y ∷ ys) e f =
    let blank : y ≡ 32 = arguments_blank k y (ys ++ x) (subst (IsArguments k) f h) in
    absurd (NoBlank-at w y ys blank (subst NoBlank e none))

meets : (kinds : List LineKind) (front x : List ℕ) → NoBlank front → (l : IsLine kinds (front ++ x)) → GoesOn front x (word l.kind) l.rest
meets kinds front x none l =
    elim (GoesOn-cuts front x (word l.kind) l.rest l.whole) as (λ _. GoesOn front x (word l.kind) l.rest) [
      | inl on ↦ on
      | inr on ↦ meets_at front x (word l.kind) l.rest (arguments l.kind) none l.in_arguments on.0 on.1 on.2
    ]

begun_NoBlank : (kinds : List LineKind) (front : List ℕ) → IsBegun kinds front → NoBlank front
begun_NoBlank kinds front begun = NoBlank-front front begun.begins.0 (subst NoBlank begun.begins.1 (word_NoBlank begun.kind))

-- a front of a word can be completed
begun_live : (kinds : List LineKind) (front : List ℕ) → IsBegun kinds front → IsLive (λ rest. IsLine kinds (front ++ rest))
begun_live kinds front begun =
    let live = live_arguments (arguments begun.kind) in (
      begun.begins.0 ++ live.0,
      record {
        kind = begun.kind;
        listed = begun.listed;
        rest = live.0;
        whole = sym (append_assoc front begun.begins.0 live.0) ∙ ap (λ (w : List ℕ). w ++ live.0) (sym begun.begins.1);
        in_arguments = live.1;
      },
    )

-- what is left of the lines behind a front
leaves_front : (kinds : List LineKind) (front : List ℕ) → Leaves (IsLine kinds) front (λ rest. IsLine kinds (front ++ rest))
leaves_front kinds front = record { forth = λ rest h. h; back = λ rest h. h }

-- a byte that is no blank, and goes on with no word
other_at : (kinds : List LineKind) (front : List ℕ) (byte : ℕ) (rest : List ℕ) → (byte ≡ 32 → ⊥) → (IsBegun kinds (front ++ byte ∷ []) → ⊥) →
    (l : IsLine kinds (front ++ byte ∷ rest)) → (more : List ℕ) → word l.kind ≡ front ++ more → byte ∷ rest ≡ more ++ l.rest → ⊥
other_at kinds front byte rest other never l [] e f = other (arguments_blank (arguments l.kind) byte rest (subst (IsArguments (arguments l.kind)) (sym f) l.in_arguments))
other_at kinds front byte rest other never l (y ∷ ys) e f =
    let same : byte ≡ y = cc in
    never (record {
      kind = l.kind;
      listed = l.listed;
      begins = (ys, e ∙ ap (λ (b : ℕ). front ++ b ∷ ys) (sym same) ∙ sym (append_assoc front (byte ∷ []) ys));
    })

Refuses-other : (kinds : List LineKind) (front : List ℕ) (byte : ℕ) → IsBegun kinds front → (byte ≡ 32 → ⊥) → (IsBegun kinds (front ++ byte ∷ []) → ⊥) →
    Refuses (λ rest. IsLine kinds (front ++ rest)) byte
Refuses-other kinds front byte begun other never rest l =
    let on = meets kinds front (byte ∷ rest) (begun_NoBlank kinds front begun) l in
    other_at kinds front byte rest other never l on.0 on.1 on.2

-- a blank behind a front that is no word
blank_at : (kinds : List LineKind) (front : List ℕ) (byte : ℕ) (rest : List ℕ) → byte ≡ 32 → ((k : LineKind) → Contains kinds k → word k ≡ front → ⊥) →
    (l : IsLine kinds (front ++ byte ∷ rest)) → (more : List ℕ) → word l.kind ≡ front ++ more → byte ∷ rest ≡ more ++ l.rest → ⊥
blank_at kinds front byte rest blank never l [] e f = never l.kind l.listed (e ∙ append-nil front)
blank_at kinds front byte rest blank never l (y ∷ ys) e f =
    let same : byte ≡ y = cc in
    NoBlank-at front y ys (sym same ∙ blank) (subst NoBlank e (word_NoBlank l.kind))

Refuses-blank : (kinds : List LineKind) (front : List ℕ) (byte : ℕ) → IsBegun kinds front → byte ≡ 32 → ((k : LineKind) → Contains kinds k → word k ≡ front → ⊥) →
    Refuses (λ rest. IsLine kinds (front ++ rest)) byte
Refuses-blank kinds front byte begun blank never rest l =
    let on = meets kinds front (byte ∷ rest) (begun_NoBlank kinds front begun) l in
    blank_at kinds front byte rest blank never l on.0 on.1 on.2

end_at : (kinds : List LineKind) (front : List ℕ) → ((k : LineKind) → Contains kinds k → word k ≡ front → ⊥) →
    (l : IsLine kinds (front ++ [])) → (more : List ℕ) → word l.kind ≡ front ++ more → [] ≡ more ++ l.rest → ⊥
end_at kinds front never l [] e f = never l.kind l.listed (e ∙ append-nil front)
end_at kinds front never l (y ∷ ys) e f = cc

never_end : (kinds : List LineKind) (front : List ℕ) → IsBegun kinds front → ((k : LineKind) → Contains kinds k → word k ≡ front → ⊥) → IsLine kinds (front ++ []) → ⊥
never_end kinds front begun never l =
    let on = meets kinds front [] (begun_NoBlank kinds front begun) l in end_at kinds front never l on.0 on.1 on.2

-- the place of a byte that goes on with no word
pub IsFault-other : (kinds : List LineKind) (bytes : List ℕ) (i : ℕ) → i < length bytes → IsBegun kinds (take i bytes) → (get_or bytes i 0 ≡ 32 → ⊥) →
    (IsBegun kinds (take (i + 1) bytes) → ⊥) → IsFault (IsLine kinds) bytes i
IsFault-other kinds bytes i below begun other never =
    let front = take i bytes in
    let longer : take (i + 1) bytes ≡ front ++ get_or bytes i 0 ∷ [] = take_more bytes i 0 below in
    IsFault_refused (IsLine kinds) (λ rest. IsLine kinds (front ++ rest)) bytes i (get_or bytes i 0) below refl (leaves_front kinds front) (begun_live kinds front begun)
    (Refuses-other kinds front (get_or bytes i 0) begun other (λ b. never (subst (IsBegun kinds) (sym longer) b)))

-- the place of a blank, or of the end, behind bytes that are no word
pub IsFault-no_word : (kinds : List LineKind) (bytes : List ℕ) (i : ℕ) → i ≤ length bytes → IsBegun kinds (take i bytes) → (i < length bytes → get_or bytes i 0 ≡ 32) →
    ((k : LineKind) → Contains kinds k → word k ≡ take i bytes → ⊥) → IsFault (IsLine kinds) bytes i
IsFault-no_word kinds bytes i within begun blank never =
    let front = take i bytes in
    elim (cases_lt i (length bytes)) as (λ _. IsFault (IsLine kinds) bytes i) [
      | inl below ↦ IsFault_refused (IsLine kinds) (λ rest. IsLine kinds (front ++ rest)) bytes i (get_or bytes i 0) below refl (leaves_front kinds front) (begun_live kinds front begun)
          (Refuses-blank kinds front (get_or bytes i 0) begun (blank below) never)
      | inr full ↦ IsFault_cut (IsLine kinds) (λ rest. IsLine kinds (front ++ rest)) bytes i (omega arith) (leaves_front kinds front) (begun_live kinds front begun)
          (never_end kinds front begun never)
    ]

-- what stands behind a word is its arguments, where it begins with a blank
abbrev BeginsBlank : List ℕ → Type 0
BeginsBlank x = (y : ℕ) (ys : List ℕ) → x ≡ y ∷ ys → y ≡ 32

arguments_at : (kinds : List LineKind) (k : LineKind) (front x : List ℕ) → word k ≡ front → BeginsBlank x → (l : IsLine kinds (front ++ x)) →
    (more : List ℕ) → word l.kind ≡ front ++ more → x ≡ more ++ l.rest → IsArguments (arguments k) x
arguments_at kinds k front x w blank l [] e f =
    let same : l.kind ≡ k = word-injective l.kind k (e ∙ append-nil front ∙ sym w) in
    let found : IsArguments (arguments l.kind) x = subst (IsArguments (arguments l.kind)) (sym f) l.in_arguments in
    subst (λ (n : LineKind). IsArguments (arguments n) x) same found
arguments_at kinds k front x w blank l (y ∷ ys) e f =
    absurd (NoBlank-at front y ys (blank y (ys ++ l.rest) f) (subst NoBlank e (word_NoBlank l.kind)))

arguments_of : (kinds : List LineKind) (k : LineKind) (front x : List ℕ) → word k ≡ front → BeginsBlank x → IsLine kinds (front ++ x) → IsArguments (arguments k) x
arguments_of kinds k front x w blank l =
    let on = meets kinds front x (subst NoBlank w (word_NoBlank k)) l in
    arguments_at kinds k front x w blank l on.0 on.1 on.2

line_of : (kinds : List LineKind) (k : LineKind) (front x : List ℕ) → Contains kinds k → word k ≡ front → IsArguments (arguments k) x → IsLine kinds (front ++ x)
line_of kinds k front x listed w h = record { kind = k; listed = listed; rest = x; whole = ap (λ (y : List ℕ). y ++ x) (sym w); in_arguments = h }

-- a longer take goes beyond a shorter one
take_beyond : (i m : ℕ) (bytes : List ℕ) → i ≤ m → m ≤ length bytes → take m bytes ≡ take i bytes ++ take (m - i) (drop i bytes)
take_beyond zero m bytes a b = let e : m - 0 ≡ m = omega arith in ap (λ (n : ℕ). take n bytes) (sym e)
take_beyond (suc i) zero bytes a b = absurd (omega arith)
take_beyond (suc i) (suc m) [] a b = absurd (omega arith)
take_beyond (suc i) (suc m) (x ∷ xs) a b =
    let e : suc m - suc i ≡ m - i = omega arith in
    ap (λ (l : List ℕ). x ∷ l) (take_beyond i m xs (omega arith) (omega arith)) ∙ ap (λ (n : ℕ). x ∷ (take i xs ++ take n (drop i xs))) (sym e)

-- bytes whose first is a blank, and more of them
drop_blank : (bytes : List ℕ) (i : ℕ) → i < length bytes → get_or bytes i 0 ≡ 32 → BeginsBlank (drop i bytes)
drop_blank bytes i below blank y ys e =
    let behind : drop i bytes ≡ get_or bytes i 0 ∷ drop (i + 1) bytes = drop_more bytes i 0 below in
    let same : y ≡ get_or bytes i 0 = cc in
    same ∙ blank

none_blank : (bytes : List ℕ) (i : ℕ) → i ≡ length bytes → BeginsBlank (drop i bytes)
none_blank bytes i e y ys f =
    let long : length (drop i bytes) ≡ length bytes - i = length-drop i bytes in
    let some : length (drop i bytes) ≡ suc (length ys) = ap length f in
    absurd (omega arith)

drop_BeginsBlank : (bytes : List ℕ) (i : ℕ) → i ≤ length bytes → (i < length bytes → get_or bytes i 0 ≡ 32) → BeginsBlank (drop i bytes)
drop_BeginsBlank bytes i within blank = elim (cases_lt i (length bytes)) as (λ _. BeginsBlank (drop i bytes)) [
  | inl below ↦ drop_blank bytes i below (blank below)
  | inr full ↦ none_blank bytes i (omega arith)
]

more_blank : (x c : List ℕ) (n : ℕ) → 0 < n → 0 < length x → BeginsBlank x → BeginsBlank (take n x ++ c)
more_blank x c zero some long blank y ys e = absurd (omega arith)
more_blank [] c (suc n) some long blank y ys e = absurd (omega arith)
more_blank (z ∷ zs) c (suc n) some long blank y ys e = let same : y ≡ z = cc in same ∙ blank z zs refl

-- a word and its arguments are a line
pub IsLine-word : (kinds : List LineKind) (k : LineKind) (bytes : List ℕ) (i : ℕ) → Contains kinds k → word k ≡ take i bytes → IsArguments (arguments k) (drop i bytes) →
    IsLine kinds bytes
IsLine-word kinds k bytes i listed w h = subst (IsLine kinds) (take-append-drop i bytes) (line_of kinds k (take i bytes) (drop i bytes) listed w h)

-- they are so as a line of the word's kind
pub IsLineOf-word : (k : LineKind) (bytes : List ℕ) (i : ℕ) → i ≤ length bytes → word k ≡ take i bytes → IsArguments (arguments k) (drop i bytes) → IsLineOf k bytes
IsLineOf-word k bytes i within w h =
    let long : length (word k) ≡ i = ap length w ∙ length-take-le i bytes within in
    record {
      begins = ap (λ (n : ℕ). take n bytes) long ∙ sym w;
      in_arguments = subst (λ (n : ℕ). IsArguments (arguments k) (drop n bytes)) (sym long) h;
    }

-- the place of a fault in the arguments of a word
pub IsFault-word : (kinds : List LineKind) (k : LineKind) (bytes : List ℕ) (i at : ℕ) → i ≤ length bytes → Contains kinds k → word k ≡ take i bytes →
    (i < length bytes → get_or bytes i 0 ≡ 32) → IsFault (IsArguments (arguments k)) (drop i bytes) at → IsFault (IsLine kinds) bytes (i + at)
IsFault-word kinds k bytes i at within listed w blank fault =
    let front = take i bytes in
    let rest = drop i bytes in
    let begins = drop_BeginsBlank bytes i within blank in
    let long : length rest ≡ length bytes - i = length-drop i bytes in
    let inside = fault.reach.within in
    let reached : take (i + at) bytes ≡ front ++ take at rest =
    let e : (i + at) - i ≡ at = omega arith in
    take_beyond i (i + at) bytes (omega arith) (omega arith) ∙ ap (λ (n : ℕ). front ++ take n rest) e in
    record {
      not_spelled = λ l. fault.not_spelled (arguments_of kinds k front rest w begins (subst (IsLine kinds) (sym (take-append-drop i bytes)) l));
      reach = record {
        within = omega arith;
        viable = (
          fault.reach.viable.0,
          subst (IsLine kinds) (sym (ap (λ (x : List ℕ). x ++ fault.reach.viable.0) reached ∙ append_assoc front (take at rest) fault.reach.viable.0))
              (line_of kinds k front (take at rest ++ fault.reach.viable.0) listed w fault.reach.viable.1),
        );
        longest = λ m above m_within viable.
            let beyond : take m bytes ≡ front ++ take (m - i) rest = take_beyond i m bytes (omega arith) m_within in
            let at_line : IsLine kinds (front ++ (take (m - i) rest ++ viable.0)) =
            subst (IsLine kinds) (ap (λ (x : List ℕ). x ++ viable.0) beyond ∙ append_assoc front (take (m - i) rest) viable.0) viable.1 in
            fault.reach.longest (m - i) (omega arith) (omega arith)
            (viable.0, arguments_of kinds k front (take (m - i) rest ++ viable.0) w (more_blank rest viable.0 (m - i) (omega arith) (omega arith) begins) at_line);
      };
    }

-- with no front a word begins
pub IsBegun-nil : (kinds : List LineKind) → 0 < length kinds → IsBegun kinds []
IsBegun-nil kinds some = record { kind = get_or kinds 0 kind.Put; listed = Contains-get_or kinds 0 kind.Put some; begins = (word (get_or kinds 0 kind.Put), refl) }

-- a front of a word, as its first bytes
pub Begins-take : (front bytes : List ℕ) → take (length front) bytes ≡ front → Begins front bytes
Begins-take front bytes e =
    (drop (length front) bytes, sym (take-append-drop (length front) bytes) ∙ ap (λ (x : List ℕ). x ++ drop (length front) bytes) e)

pub take-Begins : (front bytes : List ℕ) → Begins front bytes → take (length front) bytes ≡ front
take-Begins front bytes begins =
    ap (λ (x : List ℕ). take (length front) x) begins.1 ∙ take_at front begins.0 (length front) refl

pub longer-Begins : (front bytes : List ℕ) → length bytes < length front → Begins front bytes → ⊥
longer-Begins front bytes shorter begins =
    let long : length bytes ≡ length front + length begins.0 = ap length begins.1 ∙ length-append front begins.0 in
    absurd (omega arith)

-- none of the kinds has such a word
pub none_listed : (kinds : List LineKind) (front : List ℕ) → All (λ k. word k ≡ front → ⊥) kinds → (k : LineKind) → Contains kinds k → word k ≡ front → ⊥
none_listed kinds front all k listed = All-contains (λ n. word n ≡ front → ⊥) kinds k all listed

pub none_begun : (kinds : List LineKind) (front : List ℕ) → All (λ k. Begins front (word k) → ⊥) kinds → IsBegun kinds front → ⊥
none_begun kinds front all begun = All-contains (λ n. Begins front (word n) → ⊥) kinds begun.kind all begun.listed begun.begins
