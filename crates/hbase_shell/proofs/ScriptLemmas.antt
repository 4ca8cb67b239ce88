-- How a buffer is filled from a source, and how much of the input was read.
use Rattle.std.proofs.Common.{◌≡◌, ℕ, ◌+◌, ◌-◌, ◌<◌, ◌≤◌, List, [], ◌++◌, length, take, drop, Option, Some, None, IfSome, option_map, refl, ap, sym, subst, ◌∙◌, arith}
use Rattle.std.proofs.Math.Seq.{drop-append_seam, take-add, take-append-add}
use Rattle.std.proofs.lemmas.List.{append_assoc, append-nil, drop-drop, length-append, length-drop, length-take-le, take-append-drop, take-append-le, take_all}
use borrow.Rule.Slice.PartMut.{put_mid, post_of}
use Rattle.hb_causes.specs.Source.{Moves}
use Rattle.hbase_shell.specs.declared.script.TheConstants.{MAX_INPUT}
use Rattle.hbase_shell.specs.Script.{HasMoved, HasRead, ReadsTooLong, ReadsWhole}

-- the bytes that a read moves stand at the front of the buffer
take-Moves : (n : ℕ) (bytes old new : List ℕ) → Moves n bytes old new → (behind : List ℕ) → take n (new ++ behind) ≡ take n bytes
take-Moves n bytes old new moves behind =
    let long : length (take n bytes) ≡ n = length-take-le n bytes moves.enough in
    let fits : n ≤ length new = omega (arith, ap length moves.front, length-append (take n bytes) (drop n old)) in
    take-append-le n new behind fits ∙ ap (take n) moves.front ∙ take-append-le n (take n bytes) (drop n old) (omega arith) ∙ take_all n (take n bytes) (omega arith)

-- a read behind the bytes that were moved moves more of them
pub HasMoved-more : (count n k : ℕ) (left mid rest : Option (List ℕ)) (buffer old new : List ℕ) → count ≤ length buffer → HasMoved count left mid buffer →
    IfSome mid (λ bytes. Moves n bytes old new) → rest ≡ option_map (drop n) mid → HasMoved (count + n) left rest (put_mid count k buffer new)
HasMoved-more count n k None mid rest buffer old new within moved moves e = tt
HasMoved-more count n k (Some input) mid rest buffer old new within moved moves e =
    let P : Option (List ℕ) → Type 0 = λ told. IfSome told (λ bytes. Moves n bytes old new) in
    let here : Moves n (drop count input) old new = subst P moved.2 moves in
    let enough : n ≤ length (drop count input) = here.enough in
    let long : length (take count buffer) ≡ count = length-take-le count buffer within in
    let front : take (count + n) (put_mid count k buffer new) ≡ take count buffer ++ take n (new ++ post_of count k buffer) =
    ap (λ m. take (m + n) (put_mid count k buffer new)) (sym long) ∙ take-append-add (take count buffer) (new ++ post_of count k buffer) n in
    let same : take count buffer ++ take n (new ++ post_of count k buffer) ≡ take count input ++ take n (drop count input) =
    ap (λ (x : List ℕ). x ++ take n (new ++ post_of count k buffer)) moved.1 ∙ ap (λ (x : List ℕ). take count input ++ x) (take-Moves n (drop count input) old new here _) in (
      omega (arith, length-drop count input, moved.0),
      front ∙ same ∙ sym (take-add count n input),
      e ∙ ap (option_map (drop n)) moved.2 ∙ ap (λ (x : List ℕ). Some x) (drop-drop n count input),
    )

-- nothing was read yet
pub HasRead-start : (left : Option (List ℕ)) → HasRead left left []
HasRead-start None = tt
HasRead-start (Some told) = (told, refl, refl)

-- more was read
read_more : (count : ℕ) (told bytes more buffer : List ℕ) (mid rest : Option (List ℕ)) → told ≡ bytes ++ more → mid ≡ Some more → HasMoved count mid rest buffer →
    HasRead (Some told) rest (bytes ++ take count buffer)
read_more count told bytes more buffer mid rest whole is moved =
    let here : HasMoved count (Some more) rest buffer = subst (λ (o : Option (List ℕ)). HasMoved count o rest buffer) is moved in (
      drop count more,
      whole ∙ ap (λ (l : List ℕ). bytes ++ l) (sym (take-append-drop count more)) ∙ sym (append_assoc bytes (take count more) (drop count more))
          ∙ ap (λ (l : List ℕ). (bytes ++ l) ++ drop count more) (sym here.1),
      here.2,
    )

pub HasRead-more : (count : ℕ) (left mid rest : Option (List ℕ)) (bytes buffer : List ℕ) → HasRead left mid bytes → HasMoved count mid rest buffer →
    HasRead left rest (bytes ++ take count buffer)
HasRead-more count None mid rest bytes buffer read moved = tt
HasRead-more count (Some told) mid rest bytes buffer read moved = read_more count told bytes read.0 buffer mid rest read.1 read.2 moved

-- the input ended, so what was read is all of it
pub ReadsWhole-HasRead : (left mid rest : Option (List ℕ)) (old bytes : List ℕ) → HasRead left mid old → HasRead left rest bytes → IfSome mid (λ _. rest ≡ Some []) → ReadsWhole left rest bytes
ReadsWhole-HasRead None mid rest old bytes before read none = tt
ReadsWhole-HasRead (Some told) mid rest old bytes before read none =
    let ended : rest ≡ Some [] = subst (λ (o : Option (List ℕ)). IfSome o (λ _. rest ≡ Some [])) before.2 none in
    let left : read.0 ≡ [] = let same : Some read.0 ≡ Some [] = sym read.2 ∙ ended in cc in
    (read.1 ∙ ap (λ (l : List ℕ). bytes ++ l) left ∙ append-nil bytes, ended)

-- one byte too many was read
pub ReadsTooLong-HasRead : (left rest : Option (List ℕ)) (bytes : List ℕ) → length bytes ≡ MAX_INPUT + 1 → HasRead left rest bytes → ReadsTooLong left rest
ReadsTooLong-HasRead None rest bytes long read = tt
ReadsTooLong-HasRead (Some told) rest bytes long read =
    let more : List ℕ = read.0 in
    let behind : drop (MAX_INPUT + 1) told ≡ more =
    ap (drop (MAX_INPUT + 1)) read.1 ∙ ap (λ (n : ℕ). drop n (bytes ++ more)) (sym long) ∙ drop-append_seam bytes more in
    (omega (arith, long, ap length read.1, length-append bytes more), read.2 ∙ ap (λ (l : List ℕ). Some l) (sym behind))

-- what is written into the end of a buffer fits the buffer
pub within-put_mid : (count n : ℕ) (buffer new : List ℕ) → count ≤ length buffer → n ≤ length new → count + n ≤ length (put_mid count (length buffer - count) buffer new)
within-put_mid count n buffer new within enough =
    let long : length (take count buffer) ≡ count = length-take-le count buffer within in
    omega (arith, long, length-append (take count buffer) (new ++ post_of count (length buffer - count) buffer), length-append new (post_of count (length buffer - count) buffer))
