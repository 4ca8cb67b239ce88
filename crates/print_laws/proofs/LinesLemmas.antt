use Rattle.std.proofs.Common.{◌≡◌, ℕ, ◌<◌, ◌+◌, ◌^◌, ◌%◌, List, [], ◌∷◌, ◌++◌, false, eqb, refl, sym, ap, ◌∙◌, arith}
use Rattle.std.specs.Fmt.{decimal}
use Rattle.std.specs.List.{flat_map}
use Rattle.std.proofs.lemmas.Bool.Decides.{nat_tests}
use Rattle.std.proofs.lemmas.Fmt.{decimal_by_steps}
use Rattle.std.proofs.lemmas.List.{append_assoc}
use Rattle.hb_grammar.proofs.AvoidsLemmas.{Lacks, Lacks-append}
use Rattle.shell_value.specs.Cut.{before, behind}
use Rattle.shell_value.proofs.CutLemmas.{before-Lacks, behind-Lacks}
use Rattle.shell_print.specs.Piece.{line}

-- what stands before the first mark, and what stands behind it, are told
pub cut_told : (mark : ℕ) (a b x y : List ℕ) → Lacks mark a → Lacks mark b → a ++ mark ∷ x ≡ b ++ mark ∷ y → (a ≡ b) × (x ≡ y)
cut_told mark a b x y clear clear' e = (
  sym (before-Lacks mark a x clear) ∙ ap (before mark) e ∙ before-Lacks mark b y clear',
  sym (behind-Lacks mark a x clear) ∙ ap (behind mark) e ∙ behind-Lacks mark b y clear',
)

-- lines of one text each
abbrev pub AreLines : List (List ℕ) → Type 0
AreLines [] = Unit {0}
AreLines (text ∷ texts) = Lacks 10 text × AreLines texts

-- the lines of some texts
abbrev pub lines : List (List ℕ) → List ℕ
lines texts = flat_map line texts

-- a line in front of others
pub line_before : (text : List ℕ) (rest : List ℕ) → line text ++ rest ≡ text ++ 10 ∷ rest
line_before text rest = append_assoc text (10 ∷ []) rest

not_nothing : (a x : List ℕ) → [] ≡ a ++ 10 ∷ x → ⊥
not_nothing [] x e = cc
not_nothing (y ∷ ys) x e = cc

-- lines tell their texts
pub lines_told : (xs ys : List (List ℕ)) → AreLines xs → AreLines ys → lines xs ≡ lines ys → xs ≡ ys
lines_told [] [] a b e = refl
lines_told [] (y ∷ ys) a b e = absurd (not_nothing y (lines ys) (e ∙ line_before y (lines ys)))
lines_told (x ∷ xs) [] a b e = absurd (not_nothing x (lines xs) (sym e ∙ line_before x (lines xs)))
lines_told (x ∷ xs) (y ∷ ys) a b e =
    let both : (x ≡ y) × (lines xs ≡ lines ys) =
    cut_told 10 x y (lines xs) (lines ys) a.0 b.0 (sym (line_before x (lines xs)) ∙ e ∙ line_before y (lines ys)) in
    let first : x ≡ y = both.0 in
    let rest : xs ≡ ys = lines_told xs ys a.1 b.1 both.1 in
    cc

-- texts behind one another
pub AreLines-append : (xs ys : List (List ℕ)) → AreLines xs → AreLines ys → AreLines (xs ++ ys)
AreLines-append [] ys a b = b
AreLines-append (x ∷ xs) ys a b = (a.0, AreLines-append xs ys a.1 b)

not_empty : {A : Type 0} (xs : List A) (x : A) → [] ≡ xs ++ x ∷ [] → ⊥
not_empty [] x e = cc
not_empty (y ∷ ys) x e = cc

-- a last element is told, and those before it
pub last_told : {A : Type 0} (xs ys : List A) (x y : A) → xs ++ x ∷ [] ≡ ys ++ y ∷ [] → (xs ≡ ys) × (x ≡ y)
last_told [] [] x y e = (refl, cc)
last_told [] (b ∷ bs) x y e = let rest : [] ≡ bs ++ y ∷ [] = cc in absurd (not_empty bs y rest)
last_told (a ∷ as') [] x y e = let rest : [] ≡ as' ++ x ∷ [] = cc in absurd (not_empty as' x rest)
last_told (a ∷ as') (b ∷ bs) x y e =
    let rest : as' ++ x ∷ [] ≡ bs ++ y ∷ [] = cc in
    let both : (as' ≡ bs) × (x ≡ y) = last_told as' bs x y rest in
    let front : as' ≡ bs = both.0 in
    let first : a ≡ b = cc in
    (cc, both.1)

digit_apart : (mark n : ℕ) → mark < 48 → n < 10 → eqb (48 + n) mark ≡ false
digit_apart mark n low small = grind (arith, nat_tests)

-- a decimal has no mark below the digits
pub Lacks-decimal : (mark : ℕ) → mark < 48 → (n : ℕ) → n < 2 ^ 64 → Lacks mark (decimal n)
Lacks-decimal mark low n small =
    decimal_by_steps (λ _ digits. Lacks mark digits)
    (λ n below. (digit_apart mark n low below, tt))
    (λ n ds high lacks. Lacks-append mark ds ((48 + n % 10) ∷ []) lacks (digit_apart mark (n % 10) low (omega arith), tt))
    n small
