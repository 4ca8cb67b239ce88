use Rattle.std.proofs.Common.{◌≡◌, ℕ, ◌+◌, ◌-◌, List, [], ◌∷◌, ◌++◌, length, take, drop, ap, sym, ◌∙◌, arith}
use Rattle.std.proofs.lemmas.List.{take_more}
use Rattle.ns_tree.proofs.Pieces.{copied_next}
use Rattle.ns_tree.proofs.file_bytes.copied.Goals as goal

pub loop-piece-preserved : goal.loop-piece-preserved
loop-piece-preserved c =
    let all : List ℕ = c.loop-piece.all.items in
    let skip : ℕ = c.loop-piece.skip in
    let more : take (c.loop-piece.piece-index + 1) c.args.pieces.now ≡ take c.loop-piece.piece-index c.args.pieces.now ++ c.piece-item.result ∷ [] =
    take_more c.args.pieces.now c.loop-piece.piece-index c.piece-item.result c.loop-piece-test.true ∙ ap (λ x. take c.loop-piece.piece-index c.args.pieces.now ++ x ∷ []) (sym c.piece-item.is) in
    let room : c.saturating_sub-room.result ≡ c.args.len - length all = omega (arith, c.loop-piece.all.ok.0) in
    let part : c.part.result.now ≡ take (c.args.len - length all) (drop skip c.piece-item.result) =
    c.part.ensures ∙ ap (λ n. take n (drop skip c.as_slice.result.now)) room ∙ ap (λ (xs : List ℕ). take (c.args.len - length all) (drop skip xs)) c.as_slice.ensures in
    let next = copied_next c.args.pieces.now c.loop-piece.piece-index c.piece-item.result c.args.at c.args.len skip all more c.loop-piece.invariant.bytes c.loop-piece.invariant.skip in
    record {
      bytes = c.in_ok-extend_from_slice.ensures.items ∙ ap (λ (xs : List ℕ). all ++ xs) part ∙ next.0;
      skip = c.saturating_sub-skip.ensures ∙ ap (λ n. skip - n) c.len-in-loop-piece.ensures.value ∙ next.1;
    }
