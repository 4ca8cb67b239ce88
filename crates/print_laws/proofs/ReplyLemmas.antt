use Rattle.std.proofs.Common.{◌≡◌, ℕ, ◌+◌, ◌<◌, ◌^◌, List, [], ◌∷◌, ◌++◌, codes, map, Bool, true, false, cond, eqb, refl, sym, ap, subst, ◌∙◌, arith, rules}
use Rattle.std.specs.Fmt.{decimal}
use Rattle.std.specs.List.{AllByRecursion, list_any}
use Rattle.std.specs.Str.{bytes_eq}
use Rattle.std.proofs.lemmas.Fmt.{decimal_injective}
use Rattle.std.proofs.lemmas.List.{append_cancel_left}
use Rattle.hb_cell.specs.declared.cell.Cell.{Cell}
use Rattle.hb_grammar.specs.Class.{has}
use Rattle.hb_grammar.proofs.AvoidsLemmas.{Lacks}
use Rattle.hb_names.specs.Encoded.{IsEncoded}
use Rattle.hb_names.proofs.FreeLemmas.{Free-IsEncoded}
use Rattle.plain_model.specs.declared.reply.Reply.{Reply}
use Rattle.plain_model.specs.declared.reply.Reply.TheVariants as reply
use Rattle.plain_model.specs.declared.who.Actor.{Actor}
use Rattle.shell_print.specs.declared.cause.PrintCause.{PrintCause}
use Rattle.shell_print.specs.declared.cause.PrintCause.TheVariants as cause
use Rattle.shell_print.specs.Shown.{shown}
use Rattle.print_laws.specs.Reply.{IsReply, IsCause, IsTableCell, shown_cell, shown_reply}
use Rattle.print_laws.proofs.CellLemmas.{cell_body, cell_told}
use Rattle.print_laws.proofs.LastLemmas.{front, last, word, second, cause_body, cause_body-word, cause_word, deleted_body}
use Rattle.print_laws.proofs.LinesLemmas.{cut_told, Lacks-decimal}
use Rattle.print_laws.proofs.ShownLemmas.{shown_told}

cells_told : (xs ys : List Cell) → AllByRecursion IsTableCell xs → AllByRecursion IsTableCell ys → map cell_body xs ≡ map cell_body ys →
    map shown_cell xs ≡ map shown_cell ys
cells_told [] [] a b e = refl
cells_told [] (y ∷ ys) a b e = cc
cells_told (x ∷ xs) [] a b e = cc
cells_told (x ∷ xs) (y ∷ ys) a b e =
    let first : shown_cell x ≡ shown_cell y = cell_told x y a.0 b.0 cc in
    let rest : map shown_cell xs ≡ map shown_cell ys = cells_told xs ys a.1 b.1 cc in
    cc

places_told : (xs ys : List (List ℕ)) → map deleted_body xs ≡ map deleted_body ys → xs ≡ ys
places_told [] [] e = refl
places_told [] (y ∷ ys) e = cc
places_told (x ∷ xs) [] e = cc
places_told (x ∷ xs) (y ∷ ys) e =
    let first : deleted_body x ≡ deleted_body y = cc in
    let same : x ≡ y = append_cancel_left (codes "deleted ") x y first in
    let rest : xs ≡ ys = places_told xs ys cc in
    cc

count_told : (m n : ℕ) (more : List ℕ) → m < 2 ^ 64 → n < 2 ^ 64 → decimal m ++ 32 ∷ more ≡ decimal n ++ 32 ∷ more → m ≡ n
count_told m n more small small' e =
    decimal_injective m n small small'
    (cut_told 32 (decimal m) (decimal n) more more (Lacks-decimal 32 (omega arith) m small) (Lacks-decimal 32 (omega arith) n small') e).0

-- the actor of a number
abbrev actor : ℕ → Actor
actor n = record { 0 = n }

actor_told : (a b : Actor) → a.0 < 2 ^ 64 → b.0 < 2 ^ 64 → decimal a.0 ≡ decimal b.0 → a ≡ b
actor_told a b small small' e = ap (λ (n : ℕ). actor n) (decimal_injective a.0 b.0 small small' e)

-- no region's name has a blank
region_lacks : (region : List ℕ) → IsEncoded region → Lacks 32 region
unfolding has
region_lacks region is = Free-IsEncoded 32 refl region is

files_told : (r s f g : List ℕ) → IsEncoded r → IsEncoded s → r ++ 32 ∷ f ≡ s ++ 32 ∷ g → reply.TooManyFiles r f ≡ reply.TooManyFiles s g
files_told r s f g a b e =
    let both : (r ≡ s) × (f ≡ g) = cut_told 32 r s f g (region_lacks r a) (region_lacks s b) e in
    let regions : r ≡ s = both.0 in
    let families : f ≡ g = both.1 in
    cc

self_differs : (n : ℕ) → eqb n n ≡ false → ⊥
self_differs n e = let same : eqb n n ≡ true = search rules in cc

-- numbers that differ by their test are not the same
differ : (m n : ℕ) → eqb m n ≡ false → m ≡ n → ⊥
differ m n e same = self_differs n (subst (λ (x : ℕ). eqb x n ≡ false) same e)

-- where a word stands in a list of words
abbrev index_in : List (List ℕ) → List ℕ → ℕ
index_in [] text = 0
index_in (first ∷ rest) text = cond (bytes_eq text first) 0 (1 + index_in rest text)

-- the words of replies, in the order of their numbers
abbrev all_words : List (List ℕ)
all_words =
    [] ∷ codes "cells" ∷ codes "snapshots" ∷ codes "deleted" ∷ codes "regions" ∷ codes "TableExists" ∷ codes "TableNotFound" ∷ codes "TableNotEnabled" ∷ codes "TableNotDisabled" ∷ codes "NameTaken" ∷ codes "DuplicateFamily" ∷ codes "UnknownFamily" ∷ codes "BadSplitKey" ∷ codes "HasReferences" ∷ codes "TooManyRegions" ∷ codes "SnapshotExists" ∷ codes "SnapshotNotFound" ∷ codes "InUse" ∷ codes "Taking" ∷ codes "EmptyGroup" ∷ codes "BadFile" ∷ codes "DuplicateKey" ∷ codes "TooManyFiles" ∷ []

-- a number for each kind of reply
abbrev pub tag : Reply → ℕ
tag reply.Fine = 0
tag (reply.Cells cells) = 1
tag (reply.Snapshots names) = 2
tag (reply.Deleted places) = 3
tag (reply.Removed count) = 4
tag reply.TableExists = 5
tag reply.TableNotFound = 6
tag reply.TableNotEnabled = 7
tag reply.TableNotDisabled = 8
tag reply.NameTaken = 9
tag (reply.DuplicateFamily family) = 10
tag (reply.UnknownFamily family) = 11
tag reply.BadSplitKey = 12
tag reply.HasReferences = 13
tag reply.TooManyRegions = 14
tag reply.SnapshotExists = 15
tag reply.SnapshotNotFound = 16
tag (reply.InUse actor) = 17
tag (reply.Taking name) = 18
tag reply.EmptyGroup = 19
tag (reply.BadFile file) = 20
tag (reply.DuplicateKey file) = 21
tag (reply.TooManyFiles region family) = 22

word_tag : (r : Reply) → index_in all_words (word r) ≡ tag r
word_tag reply.Fine = refl
word_tag other = refl

-- replies with the same word are of the same kind
pub tags_same : (a b : Reply) → word a ≡ word b → tag a ≡ tag b
tags_same a b e = sym (word_tag a) ∙ ap (index_in all_words) e ∙ word_tag b

-- replies of the same texts are the same but for the kinds and numbers of cells
pub texts_told : (a b : Reply) → IsReply a → IsReply b → front a ≡ front b → last a ≡ last b → tag a ≡ tag b → shown_reply a ≡ shown_reply b
texts_told reply.Fine reply.Fine ia ib fronts lasts tags = refl
texts_told (reply.Cells xs) (reply.Cells ys) ia ib fronts lasts tags = ap reply.Cells (cells_told xs ys ia.1 ib.1 fronts)
texts_told (reply.Snapshots xs) (reply.Snapshots ys) ia ib fronts lasts tags = ap reply.Snapshots fronts
texts_told (reply.Deleted xs) (reply.Deleted ys) ia ib fronts lasts tags = ap reply.Deleted (places_told xs ys fronts)
texts_told (reply.Removed m) (reply.Removed n) ia ib fronts lasts tags = ap reply.Removed (count_told m n (codes "regions removed") ia ib lasts)
texts_told reply.TableExists reply.TableExists ia ib fronts lasts tags = refl
texts_told reply.TableNotFound reply.TableNotFound ia ib fronts lasts tags = refl
texts_told reply.TableNotEnabled reply.TableNotEnabled ia ib fronts lasts tags = refl
texts_told reply.TableNotDisabled reply.TableNotDisabled ia ib fronts lasts tags = refl
texts_told reply.NameTaken reply.NameTaken ia ib fronts lasts tags = refl
texts_told (reply.DuplicateFamily f) (reply.DuplicateFamily g) ia ib fronts lasts tags =
    ap reply.DuplicateFamily (append_cancel_left (codes "refused DuplicateFamily ") f g lasts)
texts_told (reply.UnknownFamily f) (reply.UnknownFamily g) ia ib fronts lasts tags =
    ap reply.UnknownFamily (append_cancel_left (codes "refused UnknownFamily ") f g lasts)
texts_told reply.BadSplitKey reply.BadSplitKey ia ib fronts lasts tags = refl
texts_told reply.HasReferences reply.HasReferences ia ib fronts lasts tags = refl
texts_told reply.TooManyRegions reply.TooManyRegions ia ib fronts lasts tags = refl
texts_told reply.SnapshotExists reply.SnapshotExists ia ib fronts lasts tags = refl
texts_told reply.SnapshotNotFound reply.SnapshotNotFound ia ib fronts lasts tags = refl
texts_told (reply.InUse a) (reply.InUse b) ia ib fronts lasts tags =
    ap reply.InUse (actor_told a b ia ib (append_cancel_left (codes "refused InUse ") (decimal a.0) (decimal b.0) lasts))
texts_told (reply.Taking f) (reply.Taking g) ia ib fronts lasts tags = ap reply.Taking (append_cancel_left (codes "refused Taking ") f g lasts)
texts_told reply.EmptyGroup reply.EmptyGroup ia ib fronts lasts tags = refl
texts_told (reply.BadFile f) (reply.BadFile g) ia ib fronts lasts tags =
    ap reply.BadFile (shown_told f g (append_cancel_left (codes "refused BadFile ") (shown f) (shown g) lasts))
texts_told (reply.DuplicateKey f) (reply.DuplicateKey g) ia ib fronts lasts tags =
    ap reply.DuplicateKey (shown_told f g (append_cancel_left (codes "refused DuplicateKey ") (shown f) (shown g) lasts))
texts_told (reply.TooManyFiles r f) (reply.TooManyFiles s g) ia ib fronts lasts tags =
    files_told r s f g ia.0 ib.0 (append_cancel_left (codes "refused TooManyFiles ") (r ++ 32 ∷ f) (s ++ 32 ∷ g) lasts)
texts_told a b _ _ _ _ tags = absurd (differ (tag a) (tag b) refl tags)

-- whether a word is that of a cause
abbrev is_cause_word : List ℕ → Bool
is_cause_word text =
    list_any (λ other. bytes_eq text other) (codes "NoMemory" ∷ codes "Closed" ∷ codes "JournalFull" ∷ codes "Spent" ∷ codes "NsFault" ∷ codes "Damaged" ∷ [])

reply_words : (r : Reply) → is_cause_word (word r) ≡ false
reply_words reply.Fine = refl
reply_words other = refl

cause_words : (c : PrintCause) → is_cause_word (cause_word c) ≡ true
cause_words cause.NoMemory = refl
cause_words other = refl

-- no cause has the word of a reply
pub words_apart : (r : Reply) (c : PrintCause) → word r ≡ cause_word c → ⊥
words_apart r c e = let same : is_cause_word (word r) ≡ is_cause_word (cause_word c) = ap is_cause_word e in let no = reply_words r in let yes = cause_words c in cc

-- the words of causes, in the order of their numbers
abbrev all_causes : List (List ℕ)
all_causes = codes "NoMemory" ∷ codes "Closed" ∷ codes "JournalFull" ∷ codes "Spent" ∷ codes "NsFault" ∷ codes "Damaged" ∷ []

-- a number for each cause
abbrev cause_tag : PrintCause → ℕ
cause_tag cause.NoMemory = 0
cause_tag (cause.Closed by) = 1
cause_tag cause.JournalFull = 2
cause_tag cause.Spent = 3
cause_tag cause.NsFault = 4
cause_tag cause.Damaged = 5

cause_word_tag : (c : PrintCause) → index_in all_causes (cause_word c) ≡ cause_tag c
cause_word_tag cause.NoMemory = refl
cause_word_tag other = refl

causes_by_tag : (a b : PrintCause) → IsCause a → IsCause b → cause_body a ≡ cause_body b → cause_tag a ≡ cause_tag b → a ≡ b
causes_by_tag cause.NoMemory cause.NoMemory ia ib e tags = refl
causes_by_tag (cause.Closed m) (cause.Closed n) ia ib e tags =
    ap cause.Closed (decimal_injective m n ia ib (append_cancel_left (codes "refused Closed ") (decimal m) (decimal n) e))
causes_by_tag cause.JournalFull cause.JournalFull ia ib e tags = refl
causes_by_tag cause.Spent cause.Spent ia ib e tags = refl
causes_by_tag cause.NsFault cause.NsFault ia ib e tags = refl
causes_by_tag cause.Damaged cause.Damaged ia ib e tags = refl
causes_by_tag a b _ _ _ tags = absurd (differ (cause_tag a) (cause_tag b) refl tags)

-- causes of the same line are the same
pub causes_told : (a b : PrintCause) → IsCause a → IsCause b → cause_body a ≡ cause_body b → a ≡ b
causes_told a b ia ib e =
    let words : cause_word a ≡ cause_word b = sym (cause_body-word a) ∙ ap second e ∙ cause_body-word b in
    causes_by_tag a b ia ib e (sym (cause_word_tag a) ∙ ap (index_in all_causes) words ∙ cause_word_tag b)
