use Rattle.std.proofs.Common.{◌≡◌, inl, inr, ℕ, ◌<◌, ◌+◌, ◌^◌, ◌%◌, List, [], ◌∷◌, ◌++◌, Bool, true, false, not, ◌||◌, eqb, codes, length, map, refl, sym, ap, ◌∙◌, arith, rules}
use Rattle.std.specs.Fmt.{decimal}
use Rattle.std.specs.List.{AllByRecursion, flat_map}
use Rattle.std.proofs.lemmas.Bool.Decides.{nat_tests}
use Rattle.std.proofs.lemmas.Fmt.{decimal_by_steps}
use Rattle.std.proofs.lemmas.List.{append_assoc, append-nil}
use Rattle.hb_cell.specs.declared.cell.Cell.{Cell}
use Rattle.hb_grammar.specs.Class.{has}
use Rattle.hb_grammar.proofs.AvoidsLemmas.{Lacks, Lacks-append}
use Rattle.hb_names.specs.FamilyName.{IsFamilyName}
use Rattle.hb_names.specs.SnapName.{IsSnapName}
use Rattle.hb_names.proofs.FreeLemmas.{Free-IsFamilyName, Free-IsTableName}
use Rattle.plain_model.specs.declared.job.Job.{Job}
use Rattle.plain_model.specs.declared.job.Job.TheVariants as job
use Rattle.plain_model.specs.declared.reply.Reply.{Reply}
use Rattle.plain_model.specs.declared.reply.Reply.TheVariants as reply
use Rattle.shell_print.specs.declared.cause.PrintCause.{PrintCause}
use Rattle.shell_print.specs.declared.cause.PrintCause.TheVariants as cause
use Rattle.shell_print.specs.Piece.{line}
use Rattle.shell_print.specs.Shown.{shown}
use Rattle.shell_value.specs.Cut.{behind, has_mark}
use Rattle.shell_value.proofs.CutLemmas.{behind-Lacks}
use Rattle.print_laws.specs.Reply.{IsReply, IsCause, IsTableCell}
use Rattle.print_laws.specs.Answer.{Answer, AreAnswers, IsAnswer, answer_text, is_given, shown_answer}
use Rattle.print_laws.proofs.CellLemmas.{cell_body, column_part, ts_part, value_part}
use Rattle.print_laws.proofs.ClearLemmas.{front_clear, last_clear, cause_clear}
use Rattle.print_laws.proofs.LastLemmas.{front, last, last-word, second, cause_body, cause_body-word, deleted_body, reply_lines, cause_lines}
use Rattle.print_laws.proofs.LinesLemmas.{AreLines, Lacks-decimal, cut_told, line_before, lines}
use Rattle.print_laws.proofs.ReplyLemmas.{causes_told, tags_same, texts_told, words_apart}
use Rattle.print_laws.proofs.ShownLemmas.{Lacks-shown}

-- no family and no name has a blank
family_lacks : (family : List ℕ) → IsFamilyName family → Lacks 32 family
unfolding has
family_lacks family is = Free-IsFamilyName 32 refl refl family is

name_lacks : (name : List ℕ) → IsSnapName name → Lacks 32 name
unfolding has
name_lacks name is = Free-IsTableName 32 refl refl name is

-- texts that pass a test
abbrev AllPass : (List ℕ → Bool) → List (List ℕ) → Type 0
AllPass test [] = Unit {0}
AllPass test (text ∷ texts) = (test text ≡ true) × AllPass test texts

-- the one line of a text, and what stands behind it
alone : (text rest : List ℕ) → lines ([] ++ text ∷ []) ++ rest ≡ text ++ 10 ∷ rest
alone text rest = ap (λ (x : List ℕ). x ++ rest) (append-nil (line text)) ∙ line_before text rest

-- the first line of several, and what stands behind it
behind_first : (text more rest : List ℕ) → (line text ++ more) ++ rest ≡ text ++ 10 ∷ (more ++ rest)
behind_first text more rest = append_assoc (line text) more rest ∙ line_before text (more ++ rest)

-- texts that pass a test, and behind them one that does not, are told whatever follows
parted_told : (test : List ℕ → Bool) (xs ys : List (List ℕ)) (x y r s : List ℕ) → AreLines xs → AreLines ys → Lacks 10 x → Lacks 10 y →
    AllPass test xs → AllPass test ys → test x ≡ false → test y ≡ false → lines (xs ++ x ∷ []) ++ r ≡ lines (ys ++ y ∷ []) ++ s →
    (xs ≡ ys) × (x ≡ y) × (r ≡ s)
parted_told test [] [] x y r s cx cy lx ly px py nx ny e =
    let both : (x ≡ y) × (r ≡ s) = cut_told 10 x y r s lx ly (sym (alone x r) ∙ e ∙ alone y s) in
    (refl, both.0, both.1)
parted_told test [] (b ∷ bs) x y r s cx cy lx ly px py nx ny e =
    let rest = lines (bs ++ y ∷ []) ++ s in
    let both : (x ≡ b) × (r ≡ rest) = cut_told 10 x b r rest lx cy.0 (sym (alone x r) ∙ e ∙ behind_first b (lines (bs ++ y ∷ [])) s) in
    let same : test x ≡ test b = ap test both.0 in
    let passes : test b ≡ true = py.0 in
    cc
parted_told test (a ∷ as') [] x y r s cx cy lx ly px py nx ny e =
    let rest = lines (as' ++ x ∷ []) ++ r in
    let both : (a ≡ y) × (rest ≡ s) = cut_told 10 a y rest s cx.0 ly (sym (behind_first a (lines (as' ++ x ∷ [])) r) ∙ e ∙ alone y s) in
    let same : test a ≡ test y = ap test both.0 in
    let passes : test a ≡ true = px.0 in
    cc
parted_told test (a ∷ as') (b ∷ bs) x y r s cx cy lx ly px py nx ny e =
    let both : (a ≡ b) × (lines (as' ++ x ∷ []) ++ r ≡ lines (bs ++ y ∷ []) ++ s) =
    cut_told 10 a b (lines (as' ++ x ∷ []) ++ r) (lines (bs ++ y ∷ []) ++ s) cx.0 cy.0
    (sym (behind_first a (lines (as' ++ x ∷ [])) r) ∙ e ∙ behind_first b (lines (bs ++ y ∷ [])) s) in
    let rest : (as' ≡ bs) × (x ≡ y) × (r ≡ s) = parted_told test as' bs x y r s cx.1 cy.1 lx ly px.1 py.1 nx ny both.1 in
    let first : a ≡ b = both.0 in
    let more : as' ≡ bs = rest.0 in
    (cc, rest.1, rest.2)

-- whether a text begins with a d
abbrev begins_d : List ℕ → Bool
begins_d [] = false
begins_d (byte ∷ bytes) = eqb byte 100

-- whether a line of a job's answer is not the last: a cell's has three blanks, a name none, and a deleted place its word
abbrev goes_on : Job → List ℕ → Bool
goes_on (job.Scan table) text = has_mark 32 (behind 32 (behind 32 text))
goes_on job.ListSnapshots text = not (has_mark 32 text)
goes_on job.Clean text = begins_d text
goes_on other text = false

lacks_mark : (mark : ℕ) (bytes : List ℕ) → Lacks mark bytes → has_mark mark bytes ≡ false
lacks_mark mark [] lacks = refl
lacks_mark mark (byte ∷ bytes) lacks =
    let first : eqb byte mark ≡ false = lacks.0 in
    let rest : has_mark mark bytes ≡ false = lacks_mark mark bytes lacks.1 in
    rw first rest

or_true : (b : Bool) → (b || true) ≡ true
or_true true = refl
or_true false = refl

self : (mark : ℕ) → eqb mark mark ≡ true
self mark = search rules

has_mark-behind : (mark : ℕ) (bytes more : List ℕ) → has_mark mark (bytes ++ mark ∷ more) ≡ true
has_mark-behind mark [] more = rw (self mark) refl
has_mark-behind mark (byte ∷ bytes) more = rw (has_mark-behind mark bytes more) (or_true (eqb byte mark))

cell_goes_on : (cell : Cell) → IsTableCell cell → has_mark 32 (behind 32 (behind 32 (cell_body cell))) ≡ true
cell_goes_on cell is =
    let column : List ℕ = cell.family ++ 58 ∷ shown cell.qualifier in
    let clear : Lacks 32 column =
    Lacks-append 32 cell.family (58 ∷ shown cell.qualifier) (family_lacks cell.family is.family) (refl, Lacks-shown 32 (omega arith) cell.qualifier) in
    let first : behind 32 (cell_body cell) ≡ column_part cell = behind-Lacks 32 (shown cell.row) (column_part cell) (Lacks-shown 32 (omega arith) cell.row) in
    let regrouped : column_part cell ≡ column ++ 32 ∷ ts_part cell = sym (append_assoc cell.family (58 ∷ shown cell.qualifier) (32 ∷ ts_part cell)) in
    let next : behind 32 (column_part cell) ≡ ts_part cell = ap (behind 32) regrouped ∙ behind-Lacks 32 column (ts_part cell) clear in
    ap (λ (x : List ℕ). has_mark 32 (behind 32 x)) first ∙ ap (has_mark 32) next
    ∙ has_mark-behind 32 (116 ∷ 115 ∷ 61 ∷ decimal cell.ts) (value_part cell)

cells_go_on : (table : List ℕ) (cells : List Cell) → AllByRecursion IsTableCell cells → AllPass (goes_on (job.Scan table)) (map cell_body cells)
cells_go_on table [] each = tt
cells_go_on table (cell ∷ cells) each = (cell_goes_on cell each.0, cells_go_on table cells each.1)

names_go_on : (names : List (List ℕ)) → AllByRecursion IsSnapName names → AllPass (goes_on job.ListSnapshots) names
names_go_on [] each = tt
names_go_on (name ∷ names) each = (ap not (lacks_mark 32 name (name_lacks name each.0)), names_go_on names each.1)

places_go_on : (places : List (List ℕ)) → AllPass (goes_on job.Clean) (map deleted_body places)
places_go_on [] = tt
places_go_on (place ∷ places) = (refl, places_go_on places)

front_goes_on : (j : Job) (r : Reply) → IsReply r → is_given j r ≡ true → AllPass (goes_on j) (front r)
front_goes_on (job.Scan table) (reply.Cells cells) is given = cells_go_on table cells is.1
front_goes_on job.ListSnapshots (reply.Snapshots names) is given = names_go_on names is.1
front_goes_on job.Clean (reply.Deleted places) is given = places_go_on places
front_goes_on j (reply.Cells cells) is given = cc
front_goes_on j (reply.Snapshots names) is given = cc
front_goes_on j (reply.Deleted places) is given = cc
front_goes_on j other is given = tt

letter_apart : (n : ℕ) → n < 10 → eqb (48 + n) 100 ≡ false
letter_apart n small = grind (arith, nat_tests)

Lacks-letter : (n : ℕ) → n < 2 ^ 64 → Lacks 100 (decimal n)
Lacks-letter n small =
    decimal_by_steps (λ _ digits. Lacks 100 digits)
    (λ n below. (letter_apart n below, tt))
    (λ n ds high lacks. Lacks-append 100 ds ((48 + n % 10) ∷ []) lacks (letter_apart (n % 10) (omega arith), tt))
    n small

begins_d-counted : (bytes more : List ℕ) → Lacks 100 bytes → begins_d (bytes ++ 32 ∷ more) ≡ false
begins_d-counted [] more lacks = refl
begins_d-counted (byte ∷ bytes) more lacks = lacks.0

last_ends : (j : Job) (r : Reply) → IsReply r → is_given j r ≡ true → goes_on j (last r) ≡ false
last_ends (job.Scan table) (reply.Cells cells) is given =
    ap (λ (x : List ℕ). has_mark 32 (behind 32 x)) (behind-Lacks 32 (decimal (length cells)) (codes "cells") (Lacks-decimal 32 (omega arith) (length cells) is.0))
last_ends (job.Scan table) reply.TableNotFound is given = refl
last_ends (job.Scan table) reply.TableNotEnabled is given = refl
last_ends (job.Scan table) other is given = cc
last_ends job.ListSnapshots (reply.Snapshots names) is given = ap not (has_mark-behind 32 (decimal (length names)) (codes "snapshots"))
last_ends job.ListSnapshots other is given = cc
last_ends job.Clean (reply.Deleted places) is given = begins_d-counted (decimal (length places)) (codes "deleted") (Lacks-letter (length places) is.0)
last_ends job.Clean (reply.Taking name) is given = refl
last_ends job.Clean other is given = cc
last_ends j r is given = refl

cause_ends : (j : Job) (c : PrintCause) → IsCause c → goes_on j (cause_body c) ≡ false
cause_ends (job.Scan table) (cause.Closed by) is = lacks_mark 32 (decimal by) (Lacks-decimal 32 (omega arith) by is)
cause_ends (job.Scan table) cause.NoMemory is = refl
cause_ends (job.Scan table) other is = refl
cause_ends job.ListSnapshots cause.NoMemory is = refl
cause_ends job.ListSnapshots other is = refl
cause_ends job.Clean cause.NoMemory is = refl
cause_ends job.Clean other is = refl
cause_ends j c is = refl

-- the texts of an answer's lines but the last, and the last
abbrev front_of : Answer → List (List ℕ)
front_of (inl r) = front r
front_of (inr c) = []

abbrev last_of : Answer → List ℕ
last_of (inl r) = last r
last_of (inr c) = cause_body c

answer_lines : (a : Answer) → answer_text a ≡ lines (front_of a ++ last_of a ∷ [])
answer_lines (inl r) = reply_lines r
answer_lines (inr c) = cause_lines c

front_of-clear : (j : Job) (a : Answer) → IsAnswer j a → AreLines (front_of a)
front_of-clear j (inl r) is = front_clear r is.0
front_of-clear j (inr c) is = tt

last_of-clear : (j : Job) (a : Answer) → IsAnswer j a → Lacks 10 (last_of a)
last_of-clear j (inl r) is = last_clear r is.0
last_of-clear j (inr c) is = cause_clear c is

front_of-goes_on : (j : Job) (a : Answer) → IsAnswer j a → AllPass (goes_on j) (front_of a)
front_of-goes_on j (inl r) is = front_goes_on j r is.0 is.1
front_of-goes_on j (inr c) is = tt

last_of-ends : (j : Job) (a : Answer) → IsAnswer j a → goes_on j (last_of a) ≡ false
last_of-ends j (inl r) is = last_ends j r is.0 is.1
last_of-ends j (inr c) is = cause_ends j c is

same_answer : (j : Job) (a b : Answer) → IsAnswer j a → IsAnswer j b → front_of a ≡ front_of b → last_of a ≡ last_of b → shown_answer a ≡ shown_answer b
same_answer j (inl r) (inl q) ir iq fronts lasts =
    ap inl (texts_told r q ir.0 iq.0 fronts lasts (tags_same r q (sym (last-word r ir.0) ∙ ap second lasts ∙ last-word q iq.0)))
same_answer j (inl r) (inr c) ir ic fronts lasts = absurd (words_apart r c (sym (last-word r ir.0) ∙ ap second lasts ∙ cause_body-word c))
same_answer j (inr c) (inl r) ic ir fronts lasts = absurd (words_apart r c (sym (last-word r ir.0) ∙ ap second (sym lasts) ∙ cause_body-word c))
same_answer j (inr c) (inr d) ic id fronts lasts = ap inr (causes_told c d ic id lasts)

-- an answer to a job is told by its text, whatever follows
pub answer_told : (j : Job) (a b : Answer) (x y : List ℕ) → IsAnswer j a → IsAnswer j b → answer_text a ++ x ≡ answer_text b ++ y →
    (shown_answer a ≡ shown_answer b) × (x ≡ y)
answer_told j a b x y ia ib e =
    let all : (front_of a ≡ front_of b) × (last_of a ≡ last_of b) × (x ≡ y) =
    parted_told (goes_on j) (front_of a) (front_of b) (last_of a) (last_of b) x y (front_of-clear j a ia) (front_of-clear j b ib)
    (last_of-clear j a ia) (last_of-clear j b ib) (front_of-goes_on j a ia) (front_of-goes_on j b ib) (last_of-ends j a ia) (last_of-ends j b ib)
    (ap (λ (t : List ℕ). t ++ x) (sym (answer_lines a)) ∙ e ∙ ap (λ (t : List ℕ). t ++ y) (answer_lines b)) in
    (same_answer j a b ia ib all.0 all.1, all.2)

-- the answers to jobs are told by their text
pub answers_told : (jobs : List Job) (xs ys : List Answer) → AreAnswers jobs xs → AreAnswers jobs ys →
    flat_map answer_text xs ≡ flat_map answer_text ys → map shown_answer xs ≡ map shown_answer ys
answers_told [] [] [] ax ay e = refl
answers_told [] [] (y ∷ ys) ax ay e = absurd ay
answers_told [] (x ∷ xs) ys ax ay e = absurd ax
answers_told (j ∷ js) [] ys ax ay e = absurd ax
answers_told (j ∷ js) (x ∷ xs) [] ax ay e = absurd ay
answers_told (j ∷ js) (x ∷ xs) (y ∷ ys) ax ay e =
    let both : (shown_answer x ≡ shown_answer y) × (flat_map answer_text xs ≡ flat_map answer_text ys) =
    answer_told j x y (flat_map answer_text xs) (flat_map answer_text ys) ax.0 ay.0 e in
    let first : shown_answer x ≡ shown_answer y = both.0 in
    let rest : map shown_answer xs ≡ map shown_answer ys = answers_told js xs ys ax.1 ay.1 both.1 in
    cc
