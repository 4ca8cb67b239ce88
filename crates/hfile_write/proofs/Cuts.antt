-- Cells cut into blocks one by one.
use Rattle.std.proofs.Common.{◌≡◌, ℕ, ◌+◌, ◌<◌, Bool, true, false, cond, leb, List, [], ◌∷◌, ◌++◌, length, map, Option, Some, None, refl, sym, subst, ap, ◌∙◌, append_assoc, append-nil, add_assoc, arith}
use Rattle.std.specs.List.{fold, AllByRecursion}
use Rattle.std.proofs.lemmas.List.{length-append}
use Rattle.std.proofs.lemmas.List.Sums.{fold-append, sum_by-cons}
use Rattle.std.proofs.lemmas.Bool.{leb-false}
use Rattle.hb_cell.specs.declared.cell.Cell.{Cell}
use Rattle.hb_cell.specs.Limits.{IsCell}
use Rattle.hb_cell.specs.Stored.{key, stored}
use Rattle.hfile_block.specs.declared.magic.Magic.TheVariants as kinds
use Rattle.hfile_block.specs.Header.{block_bytes}
use Rattle.hfile_block.proofs.CellLists.{stored_long}
use Rattle.hfile_index.specs.declared.entry.IndexEntry.{IndexEntry}
use Rattle.hfile_write.specs.declared.ended.EndedBlocks.{EndedBlocks}
use Rattle.hfile_write.specs.Blocks.{content_of, contents, Cut, with_cell, no_cut, cut_of, with_held, blocks_of, first_key, listed}
use Rattle.hfile_write.specs.Ended.{key_in, with_block, with_cells, none_ended, ended_of, ends_as, IsEnded, IsWritten}
use Rattle.hfile_index.specs.Written.{index_of}
use Rattle.hfile_meta.specs.Written.{written_info, written_trailer}
use Rattle.hfile_write.specs.declared.summary.Summary.{Summary}
use Rattle.hfile_write.specs.Summary.{summary_of, pairs_with, pairs_of, IsTold}
use Rattle.hfile_write.specs.Written.{previous_of, chain, last_place, with_blocks, total_len, body_of, trailer_for, written_as, written}
use Rattle.hfile_write.proofs.Chains.{length-block_bytes}
use Rattle.hfile_write.proofs.FirstKeys.{FirstKey, first_key-content, first_key-push}

-- ---- one cell more

cut_of-push : (cells : List Cell) (c : Cell) → cut_of (cells ++ c ∷ []) ≡ with_cell (cut_of cells) c
cut_of-push cells c = fold-append with_cell no_cut cells (c ∷ [])

ended_of-push : (blocks : List (List Cell)) (cells : List Cell) → ended_of (blocks ++ cells ∷ []) ≡ with_cells (ended_of blocks) cells
ended_of-push blocks cells = fold-append with_cells none_ended blocks (cells ∷ [])

content_of-push : (cells : List Cell) (c : Cell) → content_of (cells ++ c ∷ []) ≡ content_of cells ++ stored true c
content_of-push [] c = append-nil (stored true c)
content_of-push (x ∷ cells) c = ap (λ (t : List ℕ). stored true x ++ t) (content_of-push cells c) ∙ sym (append_assoc (stored true x) (content_of cells) (stored true c))

All-push : (cells : List Cell) (c : Cell) → AllByRecursion IsCell cells → IsCell c → AllByRecursion IsCell (cells ++ c ∷ [])
All-push [] c fits is = (is, tt)
All-push (x ∷ cells) c fits is = (fits.0, All-push cells c fits.1 is)

-- what is written as a cut says
record IsCutAs (cut : Cut) (e : EndedBlocks) (block : List ℕ) : Type 0 where
  ended_are : e ≡ ended_of cut.ended
  block_is : block ≡ content_of cut.held
  fit : AllByRecursion IsCell cut.held
  low : length block < 65536

ends_right : (b : Bool) (ended : List (List Cell)) (held : List Cell) (e next : EndedBlocks) (block rest : List ℕ) → b ≡ leb 65536 (length block) → AllByRecursion IsCell held
    → e ≡ ended_of ended → block ≡ content_of held → key_in block ≡ first_key held → (next, rest) ≡ ends_as b e block
    → IsCutAs (cond b (record { ended = ended ++ held ∷ []; held = [] }) (record { ended = ended; held = held })) next rest
ends_right true ended held e next block rest test fit e_is block_is key_is ends =
    let same : with_block e block (key_in block) ≡ ended_of (ended ++ held ∷ []) =
    ap (λ (k : List ℕ). with_block e block k) key_is ∙ ap (λ (t : List ℕ). with_block e t (first_key held)) block_is
    ∙ ap (λ (x : EndedBlocks). with_cells x held) e_is ∙ sym (ended_of-push ended held) in
    let none : rest ≡ [] = ap (λ (p : EndedBlocks × List ℕ). p.1) ends in
    record { ended_are = ap (λ (p : EndedBlocks × List ℕ). p.0) ends ∙ same; block_is = none; fit = tt; low = subst (λ (t : List ℕ). length t < 65536) (sym none) (omega arith) }
ends_right false ended held e next block rest test fit e_is block_is key_is ends =
    let same : rest ≡ block = ap (λ (p : EndedBlocks × List ℕ). p.1) ends in
    record {
      ended_are = ap (λ (p : EndedBlocks × List ℕ). p.0) ends ∙ e_is;
      block_is = same ∙ block_is;
      fit = fit;
      low = subst (λ (t : List ℕ). length t < 65536) (sym same) (leb-false 65536 (length block) (sym test));
    }

pub written-push : (cells more : List Cell) (c : Cell) (e next : EndedBlocks) (block content rest : List ℕ) → IsWritten cells e block → IsCell c
    → content ≡ block ++ stored true c → IsEnded e content next rest → more ≡ cells ++ c ∷ [] → IsWritten more next rest
written-push cells more c e next block content rest w is added ends more_is =
    let held = (cut_of cells).held in
    let ended = (cut_of cells).ended in
    let whole : content ≡ content_of (held ++ c ∷ []) = added ∙ ap (λ (t : List ℕ). t ++ stored true c) w.block_is ∙ sym (content_of-push held c) in
    let found = first_key-push held c block content w.fit is w.block_is added in
    let right = ends_right (leb 65536 (length content)) ended (held ++ c ∷ []) e next content rest refl (All-push held c w.fit is) w.ended_are whole found.is ends in
    let cut = cut_of more in
    let turned : IsCutAs (with_cell (cut_of cells) c) next rest =
    subst (λ (t : List ℕ). IsCutAs (cond (leb 65536 (length t)) (record { ended = ended ++ (held ++ c ∷ []) ∷ []; held = [] }) (record { ended = ended; held = held ++ c ∷ [] })) next rest) whole right in
    let all : IsCutAs (cut_of more) next rest = subst (λ (x : Cut). IsCutAs x next rest) (sym (ap cut_of more_is ∙ cut_of-push cells c)) turned in
    record { ended_are = all.ended_are; block_is = all.block_is; fit = all.fit; low = all.low }

pub written-none : (cells : List Cell) (e : EndedBlocks) (block : List ℕ) → cells ≡ [] → e ≡ none_ended → block ≡ [] → IsWritten cells e block
written-none cells e block none e_is block_is =
    let nothing : IsWritten [] none_ended [] = record { ended_are = refl; block_is = refl; fit = tt; low = omega arith } in
    subst (λ (cs : List Cell). IsWritten cs e block) (sym none) (subst (λ (x : EndedBlocks). IsWritten [] x block) (sym e_is) (subst (λ (t : List ℕ). IsWritten [] none_ended t) (sym block_is) nothing))

-- ---- the end

content_some : (c : Cell) (cells : List Cell) → [] ≡ content_of (c ∷ cells) → ⊥
content_some c cells e =
    let none : 0 ≡ length (stored true c ++ content_of cells) = ap length e in
    omega (arith, stored_long true c, length-append (stored true c) (content_of cells))

held-none : (ended : List (List Cell)) (held : List Cell) (e : EndedBlocks) → e ≡ ended_of ended → [] ≡ content_of held → e ≡ ended_of (with_held ended held)
held-none ended [] e is none = is
held-none ended (c ∷ cells) e is none = absurd (content_some c cells none)

pub written-ended : (cells : List Cell) (e : EndedBlocks) (block : List ℕ) → IsWritten cells e block → block ≡ [] → e ≡ ended_of (blocks_of cells)
written-ended cells e block w none = held-none (cut_of cells).ended (cut_of cells).held e w.ended_are (sym none ∙ w.block_is)

held-first : (held : List Cell) (block : List ℕ) → AllByRecursion IsCell held → block ≡ content_of held → (block ≡ [] → ⊥) → FirstKey block (first_key held)
held-first [] block fit is some = absurd (some is)
held-first (c ∷ cells) block fit is some = first_key-content c cells block fit.0 is

pub written-first : (cells : List Cell) (e : EndedBlocks) (block : List ℕ) → IsWritten cells e block → (block ≡ [] → ⊥) → FirstKey block (first_key (cut_of cells).held)
written-first cells e block w some = held-first (cut_of cells).held block w.fit w.block_is some

held-some : (ended : List (List Cell)) (held : List Cell) (e : EndedBlocks) (block : List ℕ) → e ≡ ended_of ended → block ≡ content_of held → (block ≡ [] → ⊥) → key_in block ≡ first_key held
    → with_block e block (key_in block) ≡ ended_of (with_held ended held)
held-some ended [] e block is block_is some key_is = absurd (some block_is)
held-some ended (c ∷ cells) e block is block_is some key_is =
    ap (λ (k : List ℕ). with_block e block k) key_is ∙ ap (λ (t : List ℕ). with_block e t (key c)) block_is
    ∙ ap (λ (x : EndedBlocks). with_cells x (c ∷ cells)) is ∙ sym (ended_of-push ended (c ∷ cells))

pub written-all : (cells : List Cell) (e : EndedBlocks) (block : List ℕ) → IsWritten cells e block → (block ≡ [] → ⊥) → with_block e block (key_in block) ≡ ended_of (blocks_of cells)
written-all cells e block w some = held-some (cut_of cells).ended (cut_of cells).held e block w.ended_are w.block_is some (written-first cells e block w some).is

-- ---- what was ended one by one

pub record IsEndedAs (e from : EndedBlocks) (blocks : List (List Cell)) : Type 0 where
  pub file : e.file ≡ from.file ++ chain kinds.Data from.last_at (length from.file) (contents blocks)
  pub index : e.index ≡ from.index ++ listed (length from.file) blocks
  pub last_at : e.last_at ≡ last_place from.last_at (length from.file) (contents blocks)
  pub total : e.total ≡ from.total + total_len (contents blocks)

ended_as : (from : EndedBlocks) (blocks : List (List Cell)) → IsEndedAs (fold with_cells from blocks) from blocks
ended_as from [] = record { file = sym (append-nil from.file); index = sym (append-nil from.index); last_at = refl; total = omega arith }
ended_as from (cells ∷ blocks) =
    let next = with_cells from cells in
    let on = ended_as next blocks in
    let block = block_bytes kinds.Data (content_of cells) (previous_of from.last_at) in
    let entry : IndexEntry = record { offset = length from.file; size = 33 + length (content_of cells); key = first_key cells } in
    let size : length next.file ≡ length from.file + (33 + length (content_of cells)) = omega (arith, length-append from.file block, length-block_bytes kinds.Data (content_of cells) (previous_of from.last_at)) in
    let more_total : from.total + length (content_of cells) + total_len (contents blocks) ≡ from.total + total_len (contents (cells ∷ blocks)) = add_assoc from.total (length (content_of cells)) (total_len (contents blocks))
    ∙ ap (λ (n : ℕ). from.total + n) (sym (sum_by-cons (λ (n : ℕ). n) (length (content_of cells)) (map length (contents blocks)))) in
    record {
      file = on.file ∙ append_assoc from.file block (chain kinds.Data (Some (length from.file)) (length next.file) (contents blocks))
          ∙ ap (λ (n : ℕ). from.file ++ (block ++ chain kinds.Data (Some (length from.file)) n (contents blocks))) size;
      index = on.index ∙ append_assoc from.index (entry ∷ []) (listed (length next.file) blocks) ∙ ap (λ (n : ℕ). from.index ++ entry ∷ listed n blocks) size;
      last_at = on.last_at ∙ ap (λ (n : ℕ). last_place (Some (length from.file)) n (contents blocks)) size;
      total = on.total ∙ more_total;
    }

pub ended_is : (e : EndedBlocks) (blocks : List (List Cell)) → e ≡ ended_of blocks → IsEndedAs e none_ended blocks
ended_is e blocks is = subst (λ (x : EndedBlocks). IsEndedAs x none_ended blocks) (sym is) (ended_as none_ended blocks)

-- ---- the whole file

pub written-file : (cells : List Cell) (e : EndedBlocks) (info : List ℕ) (s : Summary) (last : Option Cell) → e ≡ ended_of (blocks_of cells) → info ≡ written_info (pairs_with s last) → IsTold cells s last
    → body_of e.file (index_of e.index) info ++ written_trailer (trailer_for e.file (index_of e.index) e.total e.last_at s.cells) ≡ written cells
unfolding written_as summary_of
written-file cells e info s last is info_is told =
    let all = ended_is e (blocks_of cells) is in
    let more = contents (blocks_of cells) in
    let file : e.file ≡ with_blocks kinds.Data more [] = all.file in
    let index : e.index ≡ listed 0 (blocks_of cells) = all.index in
    let last_at : e.last_at ≡ last_place None 0 more = all.last_at in
    let total : e.total ≡ total_len more = omega (arith, all.total) in
    let count : s.cells ≡ length cells = ap (λ (x : Summary). x.cells) told.summary_is in
    let pairs : info ≡ written_info (pairs_of cells) = info_is ∙ ap (λ (x : Summary). written_info (pairs_with x last)) told.summary_is ∙ ap (λ (x : Option Cell). written_info (pairs_with (summary_of cells) x)) told.last_is in
    λ i. body_of (file i) (index_of (index i)) (pairs i) ++ written_trailer (trailer_for (file i) (index_of (index i)) (total i) (last_at i) (count i))
