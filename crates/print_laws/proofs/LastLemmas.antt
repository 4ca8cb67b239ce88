use Rattle.std.proofs.Common.{◌≡◌, ℕ, ◌<◌, ◌^◌, List, [], ◌∷◌, ◌++◌, codes, length, map, refl, sym, ap, ◌∙◌, arith}
use Rattle.std.specs.Fmt.{decimal}
use Rattle.std.specs.List.{flat_map}
use Rattle.std.proofs.lemmas.List.{append_assoc, append-nil}
use Rattle.hb_cell.specs.declared.cell.Cell.{Cell}
use Rattle.plain_model.specs.declared.reply.Reply.{Reply}
use Rattle.plain_model.specs.declared.reply.Reply.TheVariants as reply
use Rattle.shell_print.specs.declared.cause.PrintCause.{PrintCause}
use Rattle.shell_print.specs.declared.cause.PrintCause.TheVariants as cause
use Rattle.shell_print.specs.CauseText.{cause_text}
use Rattle.shell_print.specs.Piece.{line}
use Rattle.shell_print.specs.ReplyText.{cell_line, deleted_line, count_line, reply_text}
use Rattle.shell_print.specs.Shown.{shown}
use Rattle.shell_value.specs.Cut.{before, behind}
use Rattle.shell_value.proofs.CutLemmas.{behind-Lacks}
use Rattle.print_laws.specs.Reply.{IsReply}
use Rattle.print_laws.proofs.CellLemmas.{cell_body}
use Rattle.print_laws.proofs.LinesLemmas.{lines, Lacks-decimal}

-- the line of a place, without its end
abbrev pub deleted_body : List ℕ → List ℕ
deleted_body place = codes "deleted " ++ place

-- the texts of a reply's lines but the last
abbrev pub front : Reply → List (List ℕ)
front (reply.Cells cells) = map cell_body cells
front (reply.Snapshots names) = names
front (reply.Deleted places) = map deleted_body places
front other = []

-- the text of its last line
abbrev pub last : Reply → List ℕ
last reply.Fine = codes "ok"
last (reply.Cells cells) = decimal (length cells) ++ codes " cells"
last (reply.Snapshots names) = decimal (length names) ++ codes " snapshots"
last (reply.Deleted places) = decimal (length places) ++ codes " deleted"
last (reply.Removed count) = decimal count ++ codes " regions removed"
last reply.TableExists = codes "refused TableExists"
last reply.TableNotFound = codes "refused TableNotFound"
last reply.TableNotEnabled = codes "refused TableNotEnabled"
last reply.TableNotDisabled = codes "refused TableNotDisabled"
last reply.NameTaken = codes "refused NameTaken"
last (reply.DuplicateFamily family) = codes "refused DuplicateFamily " ++ family
last (reply.UnknownFamily family) = codes "refused UnknownFamily " ++ family
last reply.BadSplitKey = codes "refused BadSplitKey"
last reply.HasReferences = codes "refused HasReferences"
last reply.TooManyRegions = codes "refused TooManyRegions"
last reply.SnapshotExists = codes "refused SnapshotExists"
last reply.SnapshotNotFound = codes "refused SnapshotNotFound"
last (reply.InUse actor) = codes "refused InUse " ++ decimal actor.0
last (reply.Taking name) = codes "refused Taking " ++ name
last reply.EmptyGroup = codes "refused EmptyGroup"
last (reply.BadFile file) = codes "refused BadFile " ++ shown file
last (reply.DuplicateKey file) = codes "refused DuplicateKey " ++ shown file
last (reply.TooManyFiles region family) = codes "refused TooManyFiles " ++ (region ++ 32 ∷ family)

-- the text of a cause's line
abbrev pub cause_body : PrintCause → List ℕ
cause_body cause.NoMemory = codes "refused NoMemory"
cause_body (cause.Closed by) = codes "refused Closed " ++ decimal by
cause_body cause.JournalFull = codes "refused JournalFull"
cause_body cause.Spent = codes "refused Spent"
cause_body cause.NsFault = codes "refused NsFault"
cause_body cause.Damaged = codes "refused Damaged"

cell_line-body : (cell : Cell) → cell_line cell ≡ line (cell_body cell)
cell_line-body cell = simp append_assoc refl

cell_lines : (cells : List Cell) → flat_map cell_line cells ≡ lines (map cell_body cells)
cell_lines [] = refl
cell_lines (cell ∷ cells) =
    let first : cell_line cell ≡ line (cell_body cell) = cell_line-body cell in
    let rest : flat_map cell_line cells ≡ lines (map cell_body cells) = cell_lines cells in
    cc

deleted_lines : (places : List (List ℕ)) → flat_map deleted_line places ≡ lines (map deleted_body places)
deleted_lines [] = refl
deleted_lines (place ∷ places) = let rest : flat_map deleted_line places ≡ lines (map deleted_body places) = deleted_lines places in cc

count_body : (n : ℕ) (word : List ℕ) → count_line n word ≡ line (decimal n ++ 32 ∷ word)
count_body n word = ap line (append_assoc (decimal n) (32 ∷ []) word)

-- texts and a last one
pub lines_and_last : (texts : List (List ℕ)) (text : List ℕ) → lines (texts ++ text ∷ []) ≡ lines texts ++ line text
lines_and_last [] text = append-nil (line text)
lines_and_last (first ∷ texts) text =
    ap (λ (rest : List ℕ). line first ++ rest) (lines_and_last texts text) ∙ sym (append_assoc (line first) (lines texts) (line text))

alone : (text : List ℕ) → line text ≡ lines ([] ++ text ∷ [])
alone text = sym (append-nil (line text))

counted : (texts : List (List ℕ)) (front : List ℕ) (n : ℕ) (word : List ℕ) → front ≡ lines texts →
    front ++ count_line n word ≡ lines (texts ++ (decimal n ++ 32 ∷ word) ∷ [])
counted texts front n word e =
    ap (λ (x : List ℕ). x ++ count_line n word) e ∙ ap (λ (x : List ℕ). lines texts ++ x) (count_body n word)
    ∙ sym (lines_and_last texts (decimal n ++ 32 ∷ word))

-- the lines of a reply are those of its texts
pub reply_lines : (r : Reply) → reply_text r ≡ lines (front r ++ last r ∷ [])
reply_lines reply.Fine = alone (last reply.Fine)
reply_lines (reply.Cells cells) = counted (map cell_body cells) (flat_map cell_line cells) (length cells) (codes "cells") (cell_lines cells)
reply_lines (reply.Snapshots names) = counted names (lines names) (length names) (codes "snapshots") refl
reply_lines (reply.Deleted places) = counted (map deleted_body places) (flat_map deleted_line places) (length places) (codes "deleted") (deleted_lines places)
reply_lines (reply.Removed count) = count_body count (codes "regions removed") ∙ alone (last (reply.Removed count))
reply_lines (reply.TooManyFiles region family) =
    ap line (ap (λ (x : List ℕ). codes "refused TooManyFiles " ++ x) (append_assoc region (32 ∷ []) family)) ∙ alone (last (reply.TooManyFiles region family))
reply_lines other = alone (last other)

pub cause_lines : (c : PrintCause) → cause_text c ≡ lines ([] ++ cause_body c ∷ [])
cause_lines cause.NoMemory = alone (cause_body cause.NoMemory)
cause_lines other = alone (cause_body other)

-- the second word of a line
abbrev pub second : List ℕ → List ℕ
second text = before 32 (behind 32 text)

-- the word that a reply's last line has second
abbrev pub word : Reply → List ℕ
word reply.Fine = []
word (reply.Cells cells) = codes "cells"
word (reply.Snapshots names) = codes "snapshots"
word (reply.Deleted places) = codes "deleted"
word (reply.Removed count) = codes "regions"
word reply.TableExists = codes "TableExists"
word reply.TableNotFound = codes "TableNotFound"
word reply.TableNotEnabled = codes "TableNotEnabled"
word reply.TableNotDisabled = codes "TableNotDisabled"
word reply.NameTaken = codes "NameTaken"
word (reply.DuplicateFamily family) = codes "DuplicateFamily"
word (reply.UnknownFamily family) = codes "UnknownFamily"
word reply.BadSplitKey = codes "BadSplitKey"
word reply.HasReferences = codes "HasReferences"
word reply.TooManyRegions = codes "TooManyRegions"
word reply.SnapshotExists = codes "SnapshotExists"
word reply.SnapshotNotFound = codes "SnapshotNotFound"
word (reply.InUse actor) = codes "InUse"
word (reply.Taking name) = codes "Taking"
word reply.EmptyGroup = codes "EmptyGroup"
word (reply.BadFile file) = codes "BadFile"
word (reply.DuplicateKey file) = codes "DuplicateKey"
word (reply.TooManyFiles region family) = codes "TooManyFiles"

-- and the one of a cause
abbrev pub cause_word : PrintCause → List ℕ
cause_word cause.NoMemory = codes "NoMemory"
cause_word (cause.Closed by) = codes "Closed"
cause_word cause.JournalFull = codes "JournalFull"
cause_word cause.Spent = codes "Spent"
cause_word cause.NsFault = codes "NsFault"
cause_word cause.Damaged = codes "Damaged"

counted_second : (n : ℕ) (more : List ℕ) → n < 2 ^ 64 → second (decimal n ++ 32 ∷ more) ≡ before 32 more
counted_second n more small = ap (before 32) (behind-Lacks 32 (decimal n) more (Lacks-decimal 32 (omega arith) n small))

pub last-word : (r : Reply) → IsReply r → second (last r) ≡ word r
last-word (reply.Cells cells) is = counted_second (length cells) (codes "cells") is.0
last-word (reply.Snapshots names) is = counted_second (length names) (codes "snapshots") is.0
last-word (reply.Deleted places) is = counted_second (length places) (codes "deleted") is.0
last-word (reply.Removed count) is = counted_second count (codes "regions removed") is
last-word other is = refl

pub cause_body-word : (c : PrintCause) → second (cause_body c) ≡ cause_word c
cause_body-word cause.NoMemory = refl
cause_body-word (cause.Closed by) = refl
cause_body-word cause.JournalFull = refl
cause_body-word cause.Spent = refl
cause_body-word cause.NsFault = refl
cause_body-word cause.Damaged = refl
