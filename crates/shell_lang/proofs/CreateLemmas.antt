-- Where the families of a line that creates a table end, and what its end has.
use Rattle.std.proofs.Common.{◌≡◌, ℕ, zero, suc, ◌+◌, ◌<◌, ◌^◌, List, [], ◌∷◌, ◌++◌, Bool, true, false, ◌||◌, IfSome, eqb, codes, refl, sym, ap, ◌∙◌, subst, arith, inl, inr}
use Rattle.std.proofs.lemmas.List.{append_assoc, append-nil}
use Rattle.hb_grammar.specs.Class.{is_digit}
use Rattle.hb_grammar.specs.Joined.{Joined}
use Rattle.hb_grammar.specs.Marked.{Marked}
use Rattle.hb_grammar.specs.Numeral.{IsNumeral}
use Rattle.hb_grammar.proofs.AvoidsLemmas.{Lacks, Lacks-append, Free-AreDigits}
use Rattle.hb_grammar.proofs.DecimalLemmas.{AreDigits-decimal}
use Rattle.shell_text.specs.declared.argument.Argument.{Argument}
use Rattle.shell_text.specs.Blanks.{BlanksFrom, PaddedFrom}
use Rattle.shell_text.specs.Repeated.{ItemsThen}
use Rattle.shell_text.specs.Text.{IsText}
use Rattle.shell_text.specs.TextLaws.{cond_false, cond_true}
use Rattle.shell_line.specs.Table.{IsCreate, IsCreateEnd, IsItem, IsLead, IsNumberEnd, IsQuoted, IsSplits, IsVersionCount, IsVersions, family, name, row}
use Rattle.shell_value.specs.Cut.{before, behind, has_mark}
use Rattle.shell_value.specs.Quotes.{behind_values, is_listed, number_of, rest_of, text_of, value_of, values_of}
use Rattle.shell_value.proofs.ColumnLemmas.{has_mark-middle, no_mark}
use Rattle.shell_value.proofs.FitsLemmas.{Digitless, HasOne, Digitless-append, Digitless-BlanksFrom, Digitless-IsLead, HasOne-IsNumeral, HasOne-before, HasOne-behind, number_of-fits}
use Rattle.shell_value.proofs.PieceLemmas.{IsCut-IsItem, IsCut-IsQuoted, Lacks-BlanksFrom, Lacks-IsLead}
use Rattle.shell_lang.specs.Create.{AreTexts, HasRows}

-- one more value, and no more
pub values-listed : (more less : ℕ) (bytes : List ℕ) → more ≡ less + 1 → is_listed bytes ≡ true → values_of more bytes ≡ value_of bytes ∷ values_of less (rest_of bytes)
unfolding values_of
values-listed zero less bytes e listed = absurd (omega (arith, e))
values-listed (suc more) less bytes e listed =
    let same : more ≡ less = omega arith in
    cond_true (is_listed bytes) _ _ listed ∙ ap (λ (n : ℕ). value_of bytes ∷ values_of n (rest_of bytes)) same

pub values-none : (bytes : List ℕ) → values_of 0 bytes ≡ []
unfolding values_of
values-none bytes = refl

pub values-unlisted : (more : ℕ) (bytes : List ℕ) → is_listed bytes ≡ false → values_of more bytes ≡ []
unfolding values_of
values-unlisted zero bytes none = refl
values-unlisted (suc more) bytes none = cond_false (is_listed bytes) _ _ none

pub behind-listed : (more less : ℕ) (bytes : List ℕ) → more ≡ less + 1 → is_listed bytes ≡ true → behind_values more bytes ≡ behind_values less (rest_of bytes)
unfolding behind_values
behind-listed zero less bytes e listed = absurd (omega (arith, e))
behind-listed (suc more) less bytes e listed =
    let same : more ≡ less = omega arith in
    cond_true (is_listed bytes) _ _ listed ∙ ap (λ (n : ℕ). behind_values n (rest_of bytes)) same

pub behind-none : (bytes : List ℕ) → behind_values 0 bytes ≡ bytes
unfolding behind_values
behind-none bytes = refl

pub behind-unlisted : (more : ℕ) (bytes : List ℕ) → is_listed bytes ≡ false → behind_values more bytes ≡ bytes
unfolding behind_values
behind-unlisted zero bytes none = refl
behind-unlisted (suc more) bytes none = cond_false (is_listed bytes) _ _ none

-- the text that is listed next, and those behind it
pub AreTexts-listed : (argument : Argument) (more less : ℕ) (bytes : List ℕ) → more ≡ less + 1 → is_listed bytes ≡ true → AreTexts argument more bytes →
    IsText argument (text_of bytes) × AreTexts argument less (rest_of bytes)
unfolding AreTexts
AreTexts-listed argument zero less bytes e listed texts = absurd (omega (arith, e))
AreTexts-listed argument (suc more) less bytes e listed texts =
    let same : more ≡ less = omega arith in
    let both = texts listed in
    (both.0, subst (λ (n : ℕ). AreTexts argument n (rest_of bytes)) same both.1)

-- nothing more is read where no more may be
pub values-over : (more : ℕ) (bytes : List ℕ) → more ≡ 0 → values_of more bytes ≡ []
values-over more bytes over = ap (λ (n : ℕ). values_of n bytes) over ∙ values-none bytes

pub behind-over : (more : ℕ) (bytes : List ℕ) → more ≡ 0 → behind_values more bytes ≡ bytes
behind-over more bytes over = ap (λ (n : ℕ). behind_values n bytes) over ∙ behind-none bytes

-- a value more was read
pub values-push : (all so_far : List (List ℕ)) (value : List ℕ) (more less : ℕ) (bytes : List ℕ) → more ≡ less + 1 → is_listed bytes ≡ true → value ≡ value_of bytes →
    all ≡ so_far ++ values_of more bytes → all ≡ (so_far ++ value ∷ []) ++ values_of less (rest_of bytes)
values-push all so_far value more less bytes e listed is whole =
    whole ∙ ap (λ (l : List (List ℕ)). so_far ++ l) (values-listed more less bytes e listed ∙ ap (λ (v : List ℕ). v ∷ values_of less (rest_of bytes)) (sym is))
    ∙ sym (append_assoc so_far (value ∷ []) (values_of less (rest_of bytes)))

-- all values were read
pub values-all : (all so_far left : List (List ℕ)) → left ≡ [] → all ≡ so_far ++ left → so_far ≡ all
values-all all so_far left none whole = sym (whole ∙ ap (λ (l : List (List ℕ)). so_far ++ l) none ∙ append-nil so_far)

-- no comma stands before the first quote
abbrev pub Unlisted : List ℕ → Type 0
Unlisted bytes = Lacks 44 (before 39 bytes)

-- bytes that have neither quotes nor commas nor digits
pub record IsBare (bytes : List ℕ) : Type 0 where
  pub quoteless : Lacks 39 bytes
  pub commaless : Lacks 44 bytes
  pub digitless : Digitless bytes

IsBare-blanks : (some : Bool) (bytes : List ℕ) → BlanksFrom some bytes → IsBare bytes
IsBare-blanks some bytes blanks = record {
  quoteless = Lacks-BlanksFrom some 39 bytes refl blanks;
  commaless = Lacks-BlanksFrom some 44 bytes refl blanks;
  digitless = Digitless-BlanksFrom some bytes blanks;
}

IsBare-lead : (some : Bool) (mark : ℕ) (bytes : List ℕ) → eqb mark 39 ≡ false → eqb mark 44 ≡ false → Digitless (mark ∷ []) → IsLead some mark bytes → IsBare bytes
IsBare-lead some mark bytes quote comma plain lead = record {
  quoteless = Lacks-IsLead some mark 39 bytes refl quote lead;
  commaless = Lacks-IsLead some mark 44 bytes refl comma lead;
  digitless = Digitless-IsLead some mark plain bytes lead;
}

-- what stands before, behind and at a quote, in front of which some bytes without one stand
before-front : (mark : ℕ) (front back : List ℕ) → Lacks mark front → before mark (front ++ back) ≡ front ++ before mark back
before-front mark [] back lacks = refl
before-front mark (x ∷ xs) back lacks = cond_false (eqb x mark) _ _ lacks.0 ∙ ap (λ (l : List ℕ). x ∷ l) (before-front mark xs back lacks.1)

behind-front : (mark : ℕ) (front back : List ℕ) → Lacks mark front → behind mark (front ++ back) ≡ behind mark back
behind-front mark [] back lacks = refl
behind-front mark (x ∷ xs) back lacks = cond_false (eqb x mark) _ _ lacks.0 ∙ behind-front mark xs back lacks.1

or_false : (b c : Bool) → b ≡ false → b || c ≡ c
or_false true c e = absurd (cc)
or_false false c e = refl

has_mark-front : (mark : ℕ) (front back : List ℕ) → Lacks mark front → has_mark mark (front ++ back) ≡ has_mark mark back
has_mark-front mark [] back lacks = refl
has_mark-front mark (x ∷ xs) back lacks = or_false (eqb x mark) (has_mark mark (xs ++ back)) lacks.0 ∙ has_mark-front mark xs back lacks.1

-- what the end of a line has: no comma before its first quote, one number there, and rows from there on
pub record IsEnd (bytes : List ℕ) : Type 0 where
  pub unlisted : Unlisted bytes
  pub one : HasOne 2147483647 (before 39 bytes)
  pub rows : has_mark 39 bytes ≡ true → HasRows bytes

-- the same, of an end without a number
record IsPlainEnd (bytes : List ℕ) : Type 0 where
  unlisted : Unlisted bytes
  none : Digitless (before 39 bytes)
  rows : has_mark 39 bytes ≡ true → HasRows bytes

rows_behind : (front back : List ℕ) → Lacks 39 front → (has_mark 39 back ≡ true → HasRows back) → has_mark 39 (front ++ back) ≡ true → HasRows (front ++ back)
rows_behind front back lacks rows has =
    let found = rows (sym (has_mark-front 39 front back lacks) ∙ has) in
    let same : behind 39 (front ++ back) ≡ behind 39 back = behind-front 39 front back lacks in
    record {
      first = subst (λ (l : List ℕ). IsText row (before 39 l)) (sym same) found.first;
      more = subst (λ (l : List ℕ). AreTexts row 998 (behind 39 l)) (sym same) found.more;
    }

unlisted_behind : (front back : List ℕ) → Lacks 39 front → Lacks 44 front → Unlisted back → Unlisted (front ++ back)
unlisted_behind front back quoteless commaless unlisted =
    subst (Lacks 44) (sym (before-front 39 front back quoteless)) (Lacks-append 44 front (before 39 back) commaless unlisted)

plain_behind : (front back : List ℕ) → IsBare front → IsPlainEnd back → IsPlainEnd (front ++ back)
plain_behind front back bare end = record {
  unlisted = unlisted_behind front back bare.quoteless bare.commaless end.unlisted;
  none = subst Digitless (sym (before-front 39 front back bare.quoteless)) (Digitless-append front (before 39 back) bare.digitless end.none);
  rows = rows_behind front back bare.quoteless end.rows;
}

end_behind : (front back : List ℕ) → IsBare front → IsEnd back → IsEnd (front ++ back)
end_behind front back bare end = record {
  unlisted = unlisted_behind front back bare.quoteless bare.commaless end.unlisted;
  one = subst (HasOne 2147483647) (sym (before-front 39 front back bare.quoteless)) (HasOne-behind 2147483647 front (before 39 back) bare.digitless end.one);
  rows = rows_behind front back bare.quoteless end.rows;
}

number_behind : (front back : List ℕ) → Lacks 39 front → Lacks 44 front → HasOne 2147483647 front → IsPlainEnd back → IsEnd (front ++ back)
number_behind front back quoteless commaless one end = record {
  unlisted = unlisted_behind front back quoteless commaless end.unlisted;
  one = subst (HasOne 2147483647) (sym (before-front 39 front back quoteless)) (HasOne-before 2147483647 front (before 39 back) one end.none);
  rows = rows_behind front back quoteless end.rows;
}

nothing : IsPlainEnd []
nothing = record { unlisted = tt; none = refl; rows = λ has. absurd (cc) }

bare_end : (bytes : List ℕ) → IsBare bytes → IsPlainEnd bytes
bare_end bytes bare = subst IsPlainEnd (append-nil bytes) (plain_behind bytes [] bare nothing)

IsEnd-plain : (bytes : List ℕ) → IsPlainEnd bytes → IsEnd bytes
IsEnd-plain bytes end = record { unlisted = end.unlisted; one = inl end.none; rows = end.rows }

-- a numeral, and the blank behind it
numeral_lacks : (max mark : ℕ) (bytes : List ℕ) → is_digit mark ≡ false → max < 2 ^ 64 → IsNumeral 1 max bytes → Lacks mark bytes
numeral_lacks max mark bytes other small numeral =
    let most = numeral.most in
    let digits = AreDigits-decimal false numeral.number numeral.number (λ e. absurd (cc)) (omega arith) (omega arith) in
    subst (Lacks mark) (sym numeral.text) (Free-AreDigits false numeral.number mark other _ digits)

marked_lacks : (mark : ℕ) (bytes : List ℕ) → is_digit mark ≡ false → eqb 32 mark ≡ false → Marked (IsNumeral 1 2147483647) 32 bytes → Lacks mark bytes
marked_lacks mark bytes other apart marked =
    subst (Lacks mark) (sym marked.whole) (Lacks-append mark marked.front (32 ∷ []) (numeral_lacks 2147483647 mark marked.front other (omega arith) marked.in_inner) (apart, tt))

marked_one : (bytes : List ℕ) → Marked (IsNumeral 1 2147483647) 32 bytes → HasOne 2147483647 bytes
marked_one bytes marked =
    subst (HasOne 2147483647) (sym marked.whole) (HasOne-before 2147483647 marked.front (32 ∷ []) (HasOne-IsNumeral 1 2147483647 marked.front (omega arith) marked.in_inner) refl)

numeral_then : (second : List ℕ → Type 0) (bytes : List ℕ) → ((b : List ℕ) → second b → IsPlainEnd b) → Joined (Marked (IsNumeral 1 2147483647) 32) second bytes → IsEnd bytes
numeral_then second bytes ends pair =
    subst IsEnd (sym pair.whole) (number_behind pair.front pair.back (marked_lacks 39 pair.front refl refl pair.in_first) (marked_lacks 44 pair.front refl refl pair.in_first)
    (marked_one pair.front pair.in_first) (ends pair.back pair.in_second))

IsEnd-IsNumberEnd : (bytes : List ℕ) → IsNumberEnd 1 2147483647 bytes → IsEnd bytes
IsEnd-IsNumberEnd bytes (inl numeral) =
    subst IsEnd (append-nil bytes) (number_behind bytes [] (numeral_lacks 2147483647 39 bytes refl (omega arith) numeral) (numeral_lacks 2147483647 44 bytes refl (omega arith) numeral)
    (HasOne-IsNumeral 1 2147483647 bytes (omega arith) numeral) nothing)
IsEnd-IsNumberEnd bytes (inr marked) = numeral_then (BlanksFrom false) bytes (λ b blanks. bare_end b (IsBare-blanks false b blanks)) marked

-- the rows of splits
unlisted_quoted : (some : Bool) (argument : Argument) (second : List ℕ → Type 0) (bytes : List ℕ) → Joined (IsQuoted some argument) second bytes →
    (Unlisted bytes) × Digitless (before 39 bytes)
unlisted_quoted some argument second bytes pair =
    let q = pair.in_first in
    let blanks = q.in_first.front in
    let more : List ℕ = q.back ++ pair.back in
    let bare = IsBare-blanks some blanks q.in_first.in_inner in
    let whole : bytes ≡ blanks ++ 39 ∷ more =
    pair.whole ∙ ap (λ (l : List ℕ). l ++ pair.back) (q.whole ∙ ap (λ (l : List ℕ). l ++ q.back) q.in_first.whole)
    ∙ append_assoc (blanks ++ 39 ∷ []) q.back pair.back ∙ append_assoc blanks (39 ∷ []) more in
    let cut : before 39 bytes ≡ blanks = ap (before 39) whole ∙ before-front 39 blanks (39 ∷ more) bare.quoteless ∙ append-nil blanks in
    (subst (Lacks 44) (sym cut) bare.commaless, subst Digitless (sym cut) bare.digitless)

-- a comma stands before the first quote of a further argument
pub is_listed-IsItem : (argument : Argument) (second : List ℕ → Type 0) (bytes : List ℕ) → Joined (IsItem argument) second bytes → is_listed bytes ≡ true
is_listed-IsItem argument second bytes pair =
    let item = pair.in_first in
    let blanks = item.in_first.front in
    let more : List ℕ = item.back ++ pair.back in
    let bare = IsBare-blanks false blanks item.in_first.in_inner in
    let whole : bytes ≡ blanks ++ 44 ∷ more =
    pair.whole ∙ ap (λ (l : List ℕ). l ++ pair.back) (item.whole ∙ ap (λ (l : List ℕ). l ++ item.back) item.in_first.whole)
    ∙ append_assoc (blanks ++ 44 ∷ []) item.back pair.back ∙ append_assoc blanks (44 ∷ []) more in
    let cut : before 39 bytes ≡ blanks ++ 44 ∷ before 39 more = ap (before 39) whole ∙ before-front 39 blanks (44 ∷ more) bare.quoteless in
    ap (has_mark 44) cut ∙ has_mark-middle 44 blanks (before 39 more)

-- an end without a comma is not listed
pub unlisted : (bytes : List ℕ) → Unlisted bytes → is_listed bytes ≡ false
unlisted bytes none = no_mark 44 (before 39 bytes) none

true_false : (b : Bool) → b ≡ true → b ≡ false → ⊥
true_false true e f = absurd (cc)
true_false false e f = absurd (cc)

-- the texts of items before an end that is not listed
pub AreTexts-ItemsThen : (argument : Argument) (tail : List ℕ → Type 0) → ((b : List ℕ) → tail b → Unlisted b) → (more : ℕ) (bytes : List ℕ) → ItemsThen (IsItem argument) tail more bytes →
    AreTexts argument more bytes
unfolding AreTexts
AreTexts-ItemsThen argument tail ends zero bytes items = tt
AreTexts-ItemsThen argument tail ends (suc more) bytes (inl end) = λ listed. absurd (true_false (is_listed bytes) listed (unlisted bytes (ends bytes end)))
AreTexts-ItemsThen argument tail ends (suc more) bytes (inr pair) =
    λ listed. let cut = IsCut-IsItem argument (ItemsThen (IsItem argument) tail more) bytes pair in
    (cut.means, AreTexts-ItemsThen argument tail ends more (rest_of bytes) cut.in_rest)

-- behind the items stands the end
pub tail-behind_values : (argument : Argument) (tail : List ℕ → Type 0) → ((b : List ℕ) → tail b → Unlisted b) → (more : ℕ) (bytes : List ℕ) → ItemsThen (IsItem argument) tail more bytes →
    tail (behind_values more bytes)
tail-behind_values argument tail ends zero bytes items = subst tail (sym (behind-none bytes)) items
tail-behind_values argument tail ends (suc more) bytes (inl end) = subst tail (sym (behind-unlisted (suc more) bytes (unlisted bytes (ends bytes end)))) end
tail-behind_values argument tail ends (suc more) bytes (inr pair) =
    let cut = IsCut-IsItem argument (ItemsThen (IsItem argument) tail more) bytes pair in
    subst tail (sym (behind-listed (suc more) more bytes (omega arith) (is_listed-IsItem argument (ItemsThen (IsItem argument) tail more) bytes pair)))
    (tail-behind_values argument tail ends more (rest_of bytes) cut.in_rest)

unlisted_blanks : (bytes : List ℕ) → BlanksFrom false bytes → Unlisted bytes
unlisted_blanks bytes blanks = (bare_end bytes (IsBare-blanks false bytes blanks)).unlisted

rows_end : (bytes : List ℕ) → Joined (IsQuoted true row) (ItemsThen (IsItem row) (BlanksFrom false) 998) bytes → IsPlainEnd bytes
rows_end bytes pair =
    let further : List ℕ → Type 0 = ItemsThen (IsItem row) (BlanksFrom false) 998 in
    let front = unlisted_quoted true row further bytes pair in
    record {
      unlisted = front.0;
      none = front.1;
      rows = λ _. let cut = IsCut-IsQuoted true row further bytes pair in
          record { first = cut.means; more = AreTexts-ItemsThen row (BlanksFrom false) unlisted_blanks 998 (rest_of bytes) cut.in_rest };
    }

bare_then : (first second : List ℕ → Type 0) (bytes : List ℕ) → ((b : List ℕ) → first b → IsBare b) → ((b : List ℕ) → second b → IsPlainEnd b) → Joined first second bytes → IsPlainEnd bytes
bare_then first second bytes bare ends pair =
    subst IsPlainEnd (sym pair.whole) (plain_behind pair.front pair.back (bare pair.front pair.in_first) (ends pair.back pair.in_second))

bare_then_end : (first second : List ℕ → Type 0) (bytes : List ℕ) → ((b : List ℕ) → first b → IsBare b) → ((b : List ℕ) → second b → IsEnd b) → Joined first second bytes → IsEnd bytes
bare_then_end first second bytes bare ends pair =
    subst IsEnd (sym pair.whole) (end_behind pair.front pair.back (bare pair.front pair.in_first) (ends pair.back pair.in_second))

IsBare-plits : (bytes : List ℕ) → bytes ≡ codes "plits" → IsBare bytes
IsBare-plits bytes e = subst IsBare (sym e) (record {
  quoteless = (refl, (refl, (refl, (refl, (refl, tt)))));
  commaless = (refl, (refl, (refl, (refl, (refl, tt)))));
  digitless = refl;
})

IsBare-ersions : (bytes : List ℕ) → bytes ≡ codes "ersions " → IsBare bytes
IsBare-ersions bytes e = subst IsBare (sym e) (record {
  quoteless = (refl, (refl, (refl, (refl, (refl, (refl, (refl, (refl, tt))))))));
  commaless = (refl, (refl, (refl, (refl, (refl, (refl, (refl, (refl, tt))))))));
  digitless = refl;
})

splits_end : (some : Bool) (bytes : List ℕ) → IsSplits some bytes → IsPlainEnd bytes
splits_end some bytes splits =
    let rows : List ℕ → Type 0 = Joined (IsQuoted true row) (ItemsThen (IsItem row) (BlanksFrom false) 998) in
    bare_then (IsLead some 115) (Joined (λ b. b ≡ codes "plits") rows) bytes (λ b lead. IsBare-lead some 115 b refl refl refl lead)
    (λ b words. bare_then (λ c. c ≡ codes "plits") rows b IsBare-plits rows_end words) splits

count_end : (bytes : List ℕ) → IsVersionCount bytes → IsEnd bytes
count_end bytes (inl number) = IsEnd-IsNumberEnd bytes number
count_end bytes (inr more) = numeral_then (IsSplits false) bytes (splits_end false) more

versions_end : (bytes : List ℕ) → IsVersions bytes → IsEnd bytes
versions_end bytes versions =
    bare_then_end (IsLead true 118) (Joined (λ b. b ≡ codes "ersions ") (PaddedFrom true IsVersionCount)) bytes (λ b lead. IsBare-lead true 118 b refl refl refl lead)
    (λ b words. bare_then_end (λ c. c ≡ codes "ersions ") (PaddedFrom true IsVersionCount) b IsBare-ersions
    (λ c padded. bare_then_end (BlanksFrom false) IsVersionCount c (IsBare-blanks false) count_end padded) words) versions

pub IsEnd-IsCreateEnd : (bytes : List ℕ) → IsCreateEnd bytes → IsEnd bytes
IsEnd-IsCreateEnd bytes (inl blanks) = IsEnd-plain bytes (bare_end bytes (IsBare-blanks false bytes blanks))
IsEnd-IsCreateEnd bytes (inr (inl versions)) = versions_end bytes versions
IsEnd-IsCreateEnd bytes (inr (inr splits)) = IsEnd-plain bytes (splits_end true bytes splits)

-- the texts of a line that creates a table, and its end
pub record CreateTexts (bytes : List ℕ) : Type 0 where
  pub in_table : IsText name (text_of bytes)
  pub families : AreTexts family 16 (rest_of bytes)
  pub end : IsEnd (behind_values 16 (rest_of bytes))

create_unlisted : (bytes : List ℕ) → IsCreateEnd bytes → Unlisted bytes
create_unlisted bytes end = (IsEnd-IsCreateEnd bytes end).unlisted

pub CreateTexts-IsCreate : (bytes : List ℕ) → IsCreate bytes → CreateTexts bytes
CreateTexts-IsCreate bytes line =
    let further : List ℕ → Type 0 = ItemsThen (IsItem family) IsCreateEnd 15 in
    let table = IsCut-IsQuoted true name (Joined (IsItem family) further) bytes line in
    let all : ItemsThen (IsItem family) IsCreateEnd 16 (rest_of bytes) = inr table.in_rest in
    record {
      in_table = table.means;
      families = AreTexts-ItemsThen family IsCreateEnd create_unlisted 16 (rest_of bytes) all;
      end = IsEnd-IsCreateEnd (behind_values 16 (rest_of bytes)) (tail-behind_values family IsCreateEnd create_unlisted 16 (rest_of bytes) all);
    }

-- the number of versions fits
pub versions-fit : (bytes : List ℕ) → IsEnd bytes → IfSome (number_of (before 39 bytes)) (λ n. n < 2 ^ 32)
versions-fit bytes end = number_of-fits 2147483647 (2 ^ 32) (before 39 bytes) (omega arith) (omega arith) end.one
