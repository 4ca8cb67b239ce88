use Rattle.std.proofs.Common.{ℕ, List, [], ◌∷◌, ◌++◌, refl, ap, ◌∙◌, sym}
use Rattle.std.proofs.lemmas.List.{append_assoc}
use Rattle.hb_grammar.specs.Grammar.{Same}
use Rattle.hb_grammar.specs.Joined.{Joined}
use Rattle.hb_grammar.specs.Marked.{Marked}

-- three parts, in either grouping
pub Same-Joined_assoc : (a b c : List ℕ → Type 0) → Same (Joined a (Joined b c)) (Joined (Joined a b) c)
Same-Joined_assoc a b c = record {
  forth = λ bytes pair. record {
    front = pair.front ++ pair.in_second.front;
    back = pair.in_second.back;
    whole = pair.whole ∙ ap (λ (x : List ℕ). pair.front ++ x) pair.in_second.whole ∙ sym (append_assoc pair.front pair.in_second.front pair.in_second.back);
    in_first = record { front = pair.front; back = pair.in_second.front; whole = refl; in_first = pair.in_first; in_second = pair.in_second.in_first };
    in_second = pair.in_second.in_second;
  };
  back = λ bytes pair. record {
    front = pair.in_first.front;
    back = pair.in_first.back ++ pair.back;
    whole = pair.whole ∙ ap (λ (x : List ℕ). x ++ pair.back) pair.in_first.whole ∙ append_assoc pair.in_first.front pair.in_first.back pair.back;
    in_first = pair.in_first.in_first;
    in_second = record { front = pair.in_first.back; back = pair.back; whole = refl; in_first = pair.in_first.in_second; in_second = pair.in_second };
  };
}

-- a mark behind the second of two parts is one behind both
pub Same-Marked_Joined : (a b : List ℕ → Type 0) (mark : ℕ) → Same (Joined a (Marked b mark)) (Marked (Joined a b) mark)
Same-Marked_Joined a b mark = record {
  forth = λ bytes pair. record {
    front = pair.front ++ pair.in_second.front;
    whole = pair.whole ∙ ap (λ (x : List ℕ). pair.front ++ x) pair.in_second.whole ∙ sym (append_assoc pair.front pair.in_second.front (mark ∷ []));
    in_inner = record { front = pair.front; back = pair.in_second.front; whole = refl; in_first = pair.in_first; in_second = pair.in_second.in_inner };
  };
  back = λ bytes marked. record {
    front = marked.in_inner.front;
    back = marked.in_inner.back ++ mark ∷ [];
    whole = marked.whole ∙ ap (λ (x : List ℕ). x ++ mark ∷ []) marked.in_inner.whole ∙ append_assoc marked.in_inner.front marked.in_inner.back (mark ∷ []);
    in_first = marked.in_inner.in_first;
    in_second = record { front = marked.in_inner.back; whole = refl; in_inner = marked.in_inner.in_second };
  };
}
