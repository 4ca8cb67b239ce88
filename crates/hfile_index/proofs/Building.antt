-- Nodes that are built entry by entry.
use Rattle.std.proofs.Common.{◌≡◌, ℕ, zero, suc, ◌+◌, ◌-◌, ◌*◌, ◌^◌, ◌<◌, ◌≤◌, List, [], ◌∷◌, ◌++◌, length, get_or, take, drop, map, Result, Ok, Err, OnOk, sym, subst, ap, ◌∙◌, append_assoc, arith}
use Rattle.std.specs.List.{flat_map}
use Rattle.std.specs.Simd.{first_chunks}
use Rattle.std.proofs.lemmas.List.{length-append, drop_all, drop_more}
use Rattle.hb_wire.specs.Fixed.{be_bytes}
use Rattle.hb_wire.proofs.BigEndian.{length-be_bytes}
use Rattle.hfile_index.specs.declared.entry.IndexEntry.{IndexEntry}
use Rattle.hfile_index.specs.Short.{HasShortKey, HaveShortKeys}
use Rattle.hfile_index.specs.Written.{node_entry_bytes, places_from, node_bytes, node_size, behind, first_key, named, end_of, end_from}

-- ---- short keys

pub short_at : (es : List IndexEntry) (i : ℕ) (e : IndexEntry) → i < length es → e ≡ get_or es i e → HaveShortKeys es → HasShortKey e
short_at [] i e inside is short = absurd (omega arith)
short_at (x ∷ es) zero e inside is short = subst HasShortKey (sym is) short.0
short_at (x ∷ es) (suc i) e inside is short = short_at es i e (omega arith) is short.1

pub short-take : (n : ℕ) (es : List IndexEntry) → HaveShortKeys es → HaveShortKeys (take n es)
short-take zero es short = tt
short-take (suc n) [] short = tt
short-take (suc n) (x ∷ es) short = (short.0, short-take n es short.1)

pub short-drop : (n : ℕ) (es : List IndexEntry) → HaveShortKeys es → HaveShortKeys (drop n es)
short-drop zero es short = short
short-drop (suc n) [] short = tt
short-drop (suc n) (x ∷ es) short = short-drop n es short.1

short-first_key : (es : List IndexEntry) → HaveShortKeys es → length (first_key es) ≤ 65673
short-first_key [] short = omega arith
short-first_key (e ∷ es) short = short.0

pub short-named : (at k : ℕ) (es : List IndexEntry) → HaveShortKeys es → HaveShortKeys (named at (first_chunks 128 k es))
short-named at zero es short = tt
short-named at (suc k) es short = (short-first_key (take 128 es) (short-take 128 es short), short-named (behind at (node_size (take 128 es))) k (drop 128 es) (short-drop 128 es short))

-- ---- how long a node is

length-node_entry_bytes : (e : IndexEntry) → length (node_entry_bytes e) ≡ 12 + length e.key
length-node_entry_bytes e = omega (arith, length-append (be_bytes 8 e.offset) (be_bytes 4 e.size ++ e.key), length-append (be_bytes 4 e.size) e.key, length-be_bytes 8 e.offset, length-be_bytes 4 e.size)

pub length-places_from : (at : ℕ) (es : List IndexEntry) → length (places_from at es) ≡ 4 + 4 * length es
length-places_from at [] = omega (arith, length-be_bytes 4 at)
length-places_from at (e ∷ es) = omega (arith, length-append (be_bytes 4 at) (places_from (at + (12 + length e.key)) es), length-be_bytes 4 at, length-places_from (at + (12 + length e.key)) es)

pub length-entries : (es : List IndexEntry) → HaveShortKeys es → length (flat_map node_entry_bytes es) ≤ 65685 * length es
length-entries [] short = omega arith
length-entries (e ∷ es) short =
    let key : length e.key ≤ 65673 = short.0 in
    omega (arith, length-append (node_entry_bytes e) (flat_map node_entry_bytes es), length-node_entry_bytes e, length-entries es short.1)

pub node_small : (es : List IndexEntry) → HaveShortKeys es → length es ≤ 128 → length (node_bytes es) < 2 ^ 24
unfolding node_bytes
node_small es short few =
    omega (
      arith,
      length-append (be_bytes 4 (length es)) (places_from 0 es ++ flat_map node_entry_bytes es),
      length-be_bytes 4 (length es),
      length-append (places_from 0 es) (flat_map node_entry_bytes es),
      length-places_from 0 es,
      length-entries es short,
    )

-- ---- the places of entries

-- the places so far, and those that are left, are all
pub places-push : (out start : List ℕ) (at : ℕ) (es : List IndexEntry) (i : ℕ) (e : IndexEntry) → i < length es → e ≡ get_or es i e
    → out ++ places_from at (drop i es) ≡ start ++ places_from 0 es → (out ++ be_bytes 4 at) ++ places_from (at + (12 + length e.key)) (drop (i + 1) es) ≡ start ++ places_from 0 es
places-push out start at es i e inside is all =
    let cut : drop i es ≡ e ∷ drop (i + 1) es = drop_more es i e inside ∙ ap (λ (x : IndexEntry). x ∷ drop (i + 1) es) (sym is) in
    append_assoc out (be_bytes 4 at) (places_from (at + (12 + length e.key)) (drop (i + 1) es)) ∙ ap (λ (xs : List IndexEntry). out ++ places_from at xs) (sym cut) ∙ all

pub places-all : (out start : List ℕ) (at : ℕ) (es : List IndexEntry) (i : ℕ) → length es ≤ i → out ++ places_from at (drop i es) ≡ start ++ places_from 0 es
    → out ++ be_bytes 4 at ≡ start ++ places_from 0 es
places-all out start at es i end all = ap (λ (xs : List IndexEntry). out ++ places_from at xs) (sym (drop_all i es end)) ∙ all

-- ---- the nodes of a level

-- a node more, of what is written of each of them
pub chunk-push : {A : Type 0} (f : List IndexEntry → A) (done : List A) (left : ℕ) (rest node others : List IndexEntry) (whole : List A)
    → 0 < left → node ≡ take 128 rest → others ≡ drop 128 rest → done ++ map f (first_chunks 128 left rest) ≡ whole
    → (done ++ f node ∷ []) ++ map f (first_chunks 128 (left - 1) others) ≡ whole
chunk-push f done zero rest node others whole some front behind all = absurd (omega arith)
chunk-push f done (suc left) rest node others whole some front behind all =
    let less : suc left - 1 ≡ left = omega arith in
    append_assoc done (f node ∷ []) (map f (first_chunks 128 (suc left - 1) others))
    ∙ ap (λ (n : ℕ). done ++ f node ∷ map f (first_chunks 128 n others)) less
    ∙ ap (λ (xs : List IndexEntry). done ++ f xs ∷ map f (first_chunks 128 left others)) front
    ∙ ap (λ (xs : List IndexEntry). done ++ f (take 128 rest) ∷ map f (first_chunks 128 left xs)) behind ∙ all

pub named-push : (done : List IndexEntry) (at left : ℕ) (rest node others : List IndexEntry) (whole : List IndexEntry)
    → 0 < left → node ≡ take 128 rest → others ≡ drop 128 rest → done ++ named at (first_chunks 128 left rest) ≡ whole
    → (done ++ record { offset = at; size = node_size node; key = first_key node } ∷ []) ++ named (behind at (node_size node)) (first_chunks 128 (left - 1) others) ≡ whole
named-push done at zero rest node others whole some front back all = absurd (omega arith)
named-push done at (suc left) rest node others whole some front back all =
    let less : suc left - 1 ≡ left = omega arith in
    let name : List IndexEntry → IndexEntry = λ xs. record { offset = at; size = node_size xs; key = first_key xs } in
    append_assoc done (name node ∷ []) (named (behind at (node_size node)) (first_chunks 128 (suc left - 1) others))
    ∙ ap (λ (n : ℕ). done ++ name node ∷ named (behind at (node_size node)) (first_chunks 128 n others)) less
    ∙ ap (λ (xs : List IndexEntry). done ++ name xs ∷ named (behind at (node_size xs)) (first_chunks 128 left others)) front
    ∙ ap (λ (xs : List IndexEntry). done ++ name (take 128 rest) ∷ named (behind at (node_size (take 128 rest))) (first_chunks 128 left xs)) back ∙ all

pub end-push : (at left : ℕ) (rest node others : List IndexEntry) (whole : ℕ)
    → 0 < left → node ≡ take 128 rest → others ≡ drop 128 rest → end_of at (first_chunks 128 left rest) ≡ whole
    → end_of (behind at (node_size node)) (first_chunks 128 (left - 1) others) ≡ whole
end-push at zero rest node others whole some front back all = absurd (omega arith)
end-push at (suc left) rest node others whole some front back all =
    let less : suc left - 1 ≡ left = omega arith in
    ap (λ (n : ℕ). end_of (behind at (node_size node)) (first_chunks 128 n others)) less
    ∙ ap (λ (xs : List IndexEntry). end_of (behind at (node_size xs)) (first_chunks 128 left others)) front
    ∙ ap (λ (xs : List IndexEntry). end_of (behind at (node_size (take 128 rest))) (first_chunks 128 left xs)) back ∙ all

-- ---- the place behind the last entry

end_from-at : (at n : ℕ) (es : List IndexEntry) (e : IndexEntry) → suc n ≡ length es → e ≡ get_or es n e → end_from at es ≡ behind e.offset e.size
end_from-at at n [] e last is = absurd (omega arith)
end_from-at at zero (x ∷ []) e last is = ap (λ (y : IndexEntry). behind y.offset y.size) (sym is)
end_from-at at (suc n) (x ∷ []) e last is = absurd (omega arith)
end_from-at at zero (x ∷ y ∷ es) e last is = absurd (omega arith)
end_from-at at (suc n) (x ∷ y ∷ es) e last is = end_from-at (behind x.offset x.size) n (y ∷ es) e (omega arith) is

pub end_from-last : (at : ℕ) (es : List IndexEntry) (e : IndexEntry) → 0 < length es → e ≡ get_or es (length es - 1) e → end_from at es ≡ behind e.offset e.size
end_from-last at es e some is = end_from-at at (length es - 1) es e (omega arith) is

-- ---- answers

pub OnOk-to : {A E P Q : Type 0} (r : Result A E) → (P → Q) → OnOk r P → OnOk r Q
OnOk-to (Ok x) f p = f p
OnOk-to (Err e) f p = tt
