use Rattle.std.proofs.Common.{◌≡◌, ℕ, List, [], ◌∷◌, ◌++◌, length, map, refl, sym, ap, ◌∙◌}
use Rattle.std.specs.List.{flat_map}
use Rattle.hb_cell.specs.declared.cell.Cell.{Cell}
use Rattle.hb_grammar.proofs.AvoidsLemmas.{Lacks}
use Rattle.plain_model.specs.declared.reply.Reply.{Reply}
use Rattle.plain_model.specs.declared.reply.Reply.TheVariants as reply
use Rattle.shell_print.specs.declared.cause.PrintCause.{PrintCause}
use Rattle.shell_print.specs.CauseText.{cause_text}
use Rattle.shell_print.specs.ReplyText.{cell_line, reply_text}
use Rattle.print_laws.specs.Reply.{IsReply, IsCause, shown_cell, shown_reply}
use Rattle.print_laws.proofs.ClearLemmas.{front_clear, last_clear, cause_clear}
use Rattle.print_laws.proofs.LastLemmas.{front, last, last-word, reply_lines, second, cause_body, cause_body-word, cause_lines}
use Rattle.print_laws.proofs.LinesLemmas.{AreLines, AreLines-append, last_told, lines, lines_told}
use Rattle.print_laws.proofs.ReplyLemmas.{causes_told, tags_same, texts_told, words_apart}

-- the same lines have the same texts, and the same last one
ended_told : (xs ys : List (List ℕ)) (x y : List ℕ) → AreLines xs → AreLines ys → Lacks 10 x → Lacks 10 y →
    lines (xs ++ x ∷ []) ≡ lines (ys ++ y ∷ []) → (xs ≡ ys) × (x ≡ y)
ended_told xs ys x y cx cy lx ly e =
    last_told xs ys x y (lines_told (xs ++ x ∷ []) (ys ++ y ∷ []) (AreLines-append xs (x ∷ []) cx (lx, tt)) (AreLines-append ys (y ∷ []) cy (ly, tt)) e)

pub replies_told : (a b : Reply) → IsReply a → IsReply b → reply_text a ≡ reply_text b → shown_reply a ≡ shown_reply b
replies_told a b ia ib e =
    let both : (front a ≡ front b) × (last a ≡ last b) =
    ended_told (front a) (front b) (last a) (last b) (front_clear a ia) (front_clear b ib) (last_clear a ia) (last_clear b ib)
    (sym (reply_lines a) ∙ e ∙ reply_lines b) in
    texts_told a b ia ib both.0 both.1 (tags_same a b (sym (last-word a ia) ∙ ap second both.1 ∙ last-word b ib))

pub causes_told_by_text : (a b : PrintCause) → IsCause a → IsCause b → cause_text a ≡ cause_text b → a ≡ b
causes_told_by_text a b ia ib e =
    let both : ([] ≡ []) × (cause_body a ≡ cause_body b) =
    ended_told [] [] (cause_body a) (cause_body b) tt tt (cause_clear a ia) (cause_clear b ib) (sym (cause_lines a) ∙ e ∙ cause_lines b) in
    causes_told a b ia ib both.1

pub causes_apart : (r : Reply) (c : PrintCause) → IsReply r → IsCause c → reply_text r ≡ cause_text c → ⊥
causes_apart r c ir ic e =
    let both : (front r ≡ []) × (last r ≡ cause_body c) =
    ended_told (front r) [] (last r) (cause_body c) (front_clear r ir) tt (last_clear r ir) (cause_clear c ic) (sym (reply_lines r) ∙ e ∙ cause_lines c) in
    words_apart r c (sym (last-word r ir) ∙ ap second both.1 ∙ cause_body-word c)

shown_lines : (cells : List Cell) → flat_map cell_line cells ≡ flat_map cell_line (map shown_cell cells)
shown_lines [] = refl
shown_lines (cell ∷ cells) = ap (λ (rest : List ℕ). cell_line cell ++ rest) (shown_lines cells)

shown_count : (cells : List Cell) → length cells ≡ length (map shown_cell cells)
shown_count [] = refl
shown_count (cell ∷ cells) = let rest : length cells ≡ length (map shown_cell cells) = shown_count cells in cc

shown_text : (r : Reply) → reply_text r ≡ reply_text (shown_reply r)
shown_text (reply.Cells cells) =
    let bodies : flat_map cell_line cells ≡ flat_map cell_line (map shown_cell cells) = shown_lines cells in
    let counts : length cells ≡ length (map shown_cell cells) = shown_count cells in
    cc
shown_text other = refl

pub alike_printed : (a b : Reply) → shown_reply a ≡ shown_reply b → reply_text a ≡ reply_text b
alike_printed a b e = shown_text a ∙ ap reply_text e ∙ sym (shown_text b)
