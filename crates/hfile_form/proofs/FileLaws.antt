-- Reading an HFile part by part gives the cells of its one cut, and its first fault where it has none.
use Rattle.std.proofs.Common.{◌≡◌, ◌≢◌, ℕ, ◌+◌, ◌-◌, ◌^◌, ◌<◌, ◌≤◌, Bool, true, false, cond, eqb, List, [], ◌∷◌, ◌++◌, length, get_or, take, drop, replicate, Option, Some, None, Result, Ok, Err, refl, sym, ap, subst, ◌∙◌, append_assoc, ◌⊎◌, inl, inr, arith}
use Rattle.std.specs.Prelude.{EachIndex}
use Rattle.std.proofs.lemmas.Bool.{eqb-true, eq-eqb, cases_lt}
use Rattle.std.proofs.lemmas.List.{append-nil, get_or_past, take_at, drop_at, drop-drop, take-append-drop, length-append, length-take, length-take-le, length-drop}
use Rattle.hb_wire.proofs.BigEndian.{IsBytes, IsBytes-take, IsBytes-drop}
use Rattle.hb_wire.specs.Fixed.{be_bytes}
use Rattle.hb_cell.specs.declared.cell.Cell.{Cell}
use Rattle.wire_fields.specs.Varint.{varint, varint_at}
use Rattle.wire_fields.specs.Fields.{Part as Field}
use Rattle.wire_fields.specs.Message.{IsMessage}
use Rattle.wire_fields.proofs.Varints.{ok as read_ok, ok_is as read_ok_is, varint_at-varint}
use Rattle.wire_fields.proofs.Messages.{one_message}
use Rattle.hfile_block.specs.declared.fault.HFileError.{HFileError}
use Rattle.hfile_block.specs.declared.fault.HFileError.TheVariants as errors
use Rattle.hfile_block.specs.CellBlock.{GivesCells}
use Rattle.hfile_meta.specs.declared.fault.MetaError.{MetaError}
use Rattle.hfile_meta.specs.declared.trailer.Trailer.{Trailer}
use Rattle.hfile_meta.specs.Trailer.{magic, delimited, padded, trailer_bytes, IsTrailer, trailer_at, major_of, told, trailer_of, judged}
use Rattle.hfile_meta.specs.Info.{IsInfo, is_encoded, with_numbers}
use Rattle.hfile_meta.proofs.Infos.{one_info}
use Rattle.hfile_meta.proofs.Trailers.{major_of-IsTrailer, message_small}
use Rattle.hfile_form.specs.declared.section.Section.TheVariants as sections
use Rattle.hfile_form.specs.Blocks.{Block, content, size_of, block_spelling, spelled, IsBlock, AreBlocks, block_at, blocks_at, steps, ◌>>=◌}
use Rattle.hfile_form.specs.DataCells.{Ascends}
use Rattle.hfile_form.specs.Front.{Front, no_front, Part, AreHeld, blocks_of, cells_of, joined, taken}
use Rattle.hfile_form.specs.File.{version_two, TrailerTells, in_index, index_of, IsFile, IsHFile, Opened, info_of, opened_at, passed, counted, behind_info, rest_at, IsTrailerFault, IsInfoFault, IsRestFault, IsFirstFault, IsAnswer, PassesAll}
use Rattle.hfile_form.proofs.Tools.{bind_ok, then_ok, else_ok, ok, ok_is}
use Rattle.hfile_form.proofs.BlockLaws.{Takes, Takes-block_at, block_at-block_spelling, length-block_spelling, drop-block_spelling, Cut-blocks_at, blocks_at-spelled}
use Rattle.hfile_form.proofs.FrontLaws.{AreBytes-spelled, Held-steps, steps-held, cells-joined, IsBytes-left}

-- ---- one trailer

front_of_padded : (m : List ℕ) (count : ℕ) (rest : List ℕ) → padded m count ++ rest ≡ varint (length m) ++ (m ++ (replicate count 0 ++ rest))
front_of_padded m count rest = simp append_assoc

one_padded : (m n : List ℕ) (y z : ℕ) (a b : List ℕ) → length m < 2 ^ 64 → length n < 2 ^ 64 → padded m y ++ a ≡ padded n z ++ b → m ≡ n
one_padded m n y z a b small_m small_n e =
    let p = m ++ (replicate y 0 ++ a) in
    let q = n ++ (replicate z 0 ++ b) in
    let whole : varint (length m) ++ p ≡ varint (length n) ++ q = sym (front_of_padded m y a) ∙ e ∙ front_of_padded n z b in
    let read : read_ok {A = ℕ × ℕ} (length m, length (varint (length m))) ≡ read_ok (length n, length (varint (length n))) = sym (varint_at-varint (length m) p small_m) ∙ ap varint_at whole ∙ varint_at-varint (length n) q small_n in
    let same = read_ok_is (length m, length (varint (length m))) (length n, length (varint (length n))) read in
    let sizes : length (varint (length n)) ≡ length (varint (length m)) = sym (ap (λ (x : ℕ × ℕ). x.1) same) in
    let lengths : length n ≡ length m = sym (ap (λ (x : ℕ × ℕ). x.0) same) in
    let behind : p ≡ q = sym (drop_at (varint (length m)) p (length (varint (length m))) refl) ∙ ap (drop (length (varint (length m)))) whole ∙ drop_at (varint (length n)) q (length (varint (length m))) sizes in
    sym (take_at m (replicate y 0 ++ a) (length m) refl) ∙ ap (take (length m)) behind ∙ take_at n (replicate z 0 ++ b) (length m) lengths

one_trailer_message : (bytes m n : List ℕ) (y z i j : ℕ) → 212 ≤ length bytes → IsTrailer bytes m y i → IsTrailer bytes n z j → m ≡ n
one_trailer_message bytes m n y z i j long is_m is_n =
    let tail = drop (trailer_at bytes) bytes in
    let size : length tail ≡ 212 = omega (arith, length-drop (trailer_at bytes) bytes) in
    one_padded m n y z (i ∷ be_bytes 3 2) (j ∷ be_bytes 3 2) (message_small tail m y i size is_m.whole) (message_small tail n z j size is_n.whole) (ap (drop 8) (sym is_m.whole ∙ is_n.whole))

-- one answer of the trailer
pub one_answer : (bytes : List ℕ) (a b : Result Trailer MetaError) → TrailerTells version_two bytes a → TrailerTells version_two bytes b → a ≡ b
one_answer bytes a b (m, ps, y, i, long, is_m, of_m, told_m) (n, qs, z, j, longer, is_n, of_n, told_n) =
    let same : m ≡ n = one_trailer_message bytes m n y z i j long is_m is_n in
    let parts : ps ≡ qs = one_message n ps qs (subst (λ (t : List ℕ). IsMessage t ps) same of_m) of_n in
    told_m ∙ ap (λ (p : List (ℕ × Field)). judged (trailer_at bytes) (trailer_of (told p))) parts ∙ sym told_n

-- ---- the parts that are loaded on open

pub record Opens (t : Trailer) (body : List ℕ) (o : Opened) : Type 0 where
  pub root : Takes sections.Roots (drop t.load_at body) o.root
  pub meta : Takes sections.Roots (drop (t.load_at + size_of o.root) body) o.meta
  pub info_at : t.info_at ≡ t.load_at + size_of o.root + size_of o.meta
  pub info : Takes sections.Infos (drop t.info_at body) o.info

pub Opens-opened_at : (t : Trailer) (body : List ℕ) (o : Opened) → IsBytes body → opened_at t body ≡ Ok o → Opens t body o
Opens-opened_at t body o fits e =
    let a = bind_ok (block_at sections.Roots t.load_at (drop t.load_at body)) (λ root. block_at sections.Roots (t.load_at + size_of root) (drop (t.load_at + size_of root) body) >>= λ meta. info_of t root meta body) o e in
    let b = bind_ok (block_at sections.Roots (t.load_at + size_of a.0) (drop (t.load_at + size_of a.0) body)) (λ meta. info_of t a.0 meta body) o a.2 in
    let c = then_ok (eqb t.info_at (t.load_at + size_of a.0 + size_of b.0)) (errors.BadInfo t.info_at) (block_at sections.Infos t.info_at (drop t.info_at body) >>= λ info. Ok (record { root = a.0; meta = b.0; info = info })) o b.2 in
    let d = bind_ok (block_at sections.Infos t.info_at (drop t.info_at body)) (λ info. ok (record { root = a.0; meta = b.0; info = info })) o c.1 in
    let made : Opens t body (record { root = a.0; meta = b.0; info = d.0 }) = record {
      root = Takes-block_at sections.Roots t.load_at (drop t.load_at body) a.0 (IsBytes-drop t.load_at body fits) a.1;
      meta = Takes-block_at sections.Roots (t.load_at + size_of a.0) (drop (t.load_at + size_of a.0) body) b.0 (IsBytes-drop (t.load_at + size_of a.0) body fits) b.1;
      info_at = eqb-true t.info_at (t.load_at + size_of a.0 + size_of b.0) c.0;
      info = Takes-block_at sections.Infos t.info_at (drop t.info_at body) d.0 (IsBytes-drop t.info_at body fits) d.1;
    } in
    subst (Opens t body) (ok_is (record { root = a.0; meta = b.0; info = d.0 }) o d.2) made

-- ---- the cut of a file that is read

index_ok : (r : Result (Unit {0}) ℕ) (x : Unit {0}) → in_index r ≡ Ok x → r ≡ Ok tt
index_ok (Ok tt) x e = refl
index_ok (Err at) x e = absurd cc

count_ok : (t : Trailer) (cells found : List Cell) → counted t cells ≡ Ok found → (t.entries ≡ length cells) × (cells ≡ found)
count_ok t cells found e =
    let a = then_ok (eqb t.entries (length cells)) (errors.Count t.entries (length cells)) (ok cells) found e in
    (eqb-true t.entries (length cells) a.0, ok_is cells found a.1)

pub IsHFile-rest_at : (bytes : List ℕ) (t : Trailer) (o : Opened) (pairs : List (List ℕ × List ℕ)) (cells : List Cell) → IsBytes bytes → TrailerTells version_two bytes (Ok t)
    → opened_at t (take (trailer_at bytes) bytes) ≡ Ok o → IsInfo (content o.info) pairs → is_encoded pairs ≡ false → rest_at t o (with_numbers pairs) (take (trailer_at bytes) bytes) ≡ Ok cells → IsHFile bytes cells
IsHFile-rest_at bytes t o pairs cells fits tells found is_pairs plain e =
    let body = take (trailer_at bytes) bytes in
    let with_seq = with_numbers pairs in
    let body_fits = IsBytes-take (trailer_at bytes) bytes fits in
    let opens = Opens-opened_at t body o body_fits found in
    let behind = behind_info t o in
    let a = bind_ok (blocks_at (taken with_seq) sections.Front (length body) 0 (take t.load_at body) no_front)
    (λ front. blocks_at passed sections.Others (length body) behind (drop behind body) tt >>= λ (done : Unit {0}). in_index (index_of t o.root front) >>= λ (listed : Unit {0}). counted t front.cells) cells e in
    let b = bind_ok (blocks_at passed sections.Others (length body) behind (drop behind body) tt) (λ (done : Unit {0}). in_index (index_of t o.root a.0) >>= λ (listed : Unit {0}). counted t a.0.cells) cells a.2 in
    let c = bind_ok (in_index (index_of t o.root a.0)) (λ (listed : Unit {0}). counted t a.0.cells) cells b.2 in
    let d = count_ok t a.0.cells cells c.2 in
    let front_fits = IsBytes-take t.load_at body body_fits in
    let cut = Cut-blocks_at (taken with_seq) sections.Front (length body) 0 (take t.load_at body) no_front a.0 front_fits (omega (arith, length-take t.load_at body)) a.1 in
    let rest = Cut-blocks_at passed sections.Others (length body) behind (drop behind body) tt b.0 (IsBytes-drop behind body body_fits) (omega (arith, length-drop behind body)) b.1 in
    let held = Held-steps with_seq 0 cut.blocks no_front a.0 (AreBytes-spelled cut.blocks (subst IsBytes cut.whole front_fits)) cut.made in
    let blocks : spelled (blocks_of held.parts) ≡ spelled cut.blocks = ap spelled held.blocks_are in
    let has : a.0.cells ≡ cells_of held.parts = ap (λ (f : Front). f.cells) held.is ∙ cells-joined with_seq 0 held.parts no_front held.held in
    let same : cells ≡ cells_of held.parts = sym d.1 ∙ has in
    let room : t.load_at ≤ length body = omega (arith, length-drop t.load_at body, ap length opens.root.whole, length-append (block_spelling o.root) (drop (size_of o.root) (drop t.load_at body)), length-block_spelling sections.Roots o.root opens.root.is) in
    let at : t.load_at ≡ length (spelled (blocks_of held.parts)) = sym (length-take-le t.load_at body room) ∙ ap length cut.whole ∙ sym (ap length blocks) in
    let p3 : drop t.info_at body ≡ block_spelling o.info ++ spelled rest.blocks = opens.info.whole ∙ ap (λ (x : List ℕ). block_spelling o.info ++ x) (drop-drop (size_of o.info) t.info_at body ∙ rest.whole) in
    let p2 : drop (t.load_at + size_of o.root) body ≡ block_spelling o.meta ++ (block_spelling o.info ++ spelled rest.blocks) =
    opens.meta.whole ∙ ap (λ (x : List ℕ). block_spelling o.meta ++ x) (drop-drop (size_of o.meta) (t.load_at + size_of o.root) body ∙ ap (λ (n : ℕ). drop n body) (sym opens.info_at) ∙ p3) in
    let p1 : drop t.load_at body ≡ block_spelling o.root ++ (block_spelling o.meta ++ (block_spelling o.info ++ spelled rest.blocks)) =
    opens.root.whole ∙ ap (λ (x : List ℕ). block_spelling o.root ++ x) (drop-drop (size_of o.root) t.load_at body ∙ p2) in
    record {
      trailer = t;
      parts = held.parts;
      root = o.root;
      meta = o.meta;
      info = o.info;
      others = rest.blocks;
      pairs = pairs;
      tells = tells;
      whole = sym (take-append-drop t.load_at body) ∙ ap (λ (x : List ℕ). x ++ drop t.load_at body) (cut.whole ∙ sym blocks) ∙ ap (λ (x : List ℕ). spelled (blocks_of held.parts) ++ x) p1;
      are_blocks = subst (AreBlocks sections.Front) (sym held.blocks_are) cut.are;
      is_root = opens.root.is;
      is_meta = opens.meta.is;
      is_info = opens.info.is;
      are_others = rest.are;
      load_at = at;
      info_at = opens.info_at;
      tells_pairs = is_pairs;
      not_encoded = plain;
      held = held.held;
      cells_are = same;
      ascends = subst (Ascends None) (sym same) held.up;
      index = subst (λ (f : Front). index_of t o.root f ≡ Ok tt) held.is (index_ok (index_of t o.root a.0) c.0 c.1);
      count = d.0 ∙ ap length d.1;
    }

-- ---- a file is read so

abbrev opened_of : (bytes : List ℕ) (cells : List Cell) → IsHFile bytes cells → Opened
opened_of bytes cells f = record { root = f.root; meta = f.meta; info = f.info }

-- what stands behind the blocks at the front, part by part
record Behind (bytes : List ℕ) (cells : List Cell) (f : IsHFile bytes cells) : Type 0 where
  front : take f.trailer.load_at (take (trailer_at bytes) bytes) ≡ spelled (blocks_of f.parts)
  root : drop f.trailer.load_at (take (trailer_at bytes) bytes) ≡ block_spelling f.root ++ (block_spelling f.meta ++ (block_spelling f.info ++ spelled f.others))
  meta : drop (f.trailer.load_at + size_of f.root) (take (trailer_at bytes) bytes) ≡ block_spelling f.meta ++ (block_spelling f.info ++ spelled f.others)
  info : drop f.trailer.info_at (take (trailer_at bytes) bytes) ≡ block_spelling f.info ++ spelled f.others
  others : drop (f.trailer.info_at + size_of f.info) (take (trailer_at bytes) bytes) ≡ spelled f.others

Behind-file : (bytes : List ℕ) (cells : List Cell) (f : IsHFile bytes cells) → Behind bytes cells f
Behind-file bytes cells f =
    let body = take (trailer_at bytes) bytes in
    let s = spelled (blocks_of f.parts) in
    let o = spelled f.others in
    let i = block_spelling f.info ++ o in
    let m = block_spelling f.meta ++ i in
    let r = block_spelling f.root ++ m in
    let at = f.trailer.load_at in
    let e0 : drop at body ≡ r = ap (drop at) f.whole ∙ drop_at s r at (sym f.load_at) in
    let e1 : drop (at + size_of f.root) body ≡ m = sym (drop-drop (size_of f.root) at body) ∙ ap (drop (size_of f.root)) e0 ∙ drop-block_spelling sections.Roots f.root m f.is_root in
    let e2 : drop f.trailer.info_at body ≡ i =
    ap (λ (n : ℕ). drop n body) f.info_at ∙ sym (drop-drop (size_of f.meta) (at + size_of f.root) body) ∙ ap (drop (size_of f.meta)) e1 ∙ drop-block_spelling sections.Roots f.meta i f.is_meta in
    let e3 : drop (f.trailer.info_at + size_of f.info) body ≡ o = sym (drop-drop (size_of f.info) f.trailer.info_at body) ∙ ap (drop (size_of f.info)) e2 ∙ drop-block_spelling sections.Infos f.info o f.is_info in
    record { front = ap (take at) f.whole ∙ take_at s r at (sym f.load_at); root = e0; meta = e1; info = e2; others = e3 }

pub opened_at-file : (bytes : List ℕ) (cells : List Cell) (f : IsHFile bytes cells) → opened_at f.trailer (take (trailer_at bytes) bytes) ≡ Ok (opened_of bytes cells f)
opened_at-file bytes cells f =
    let b = Behind-file bytes cells f in
    let t = f.trailer in
    let body = take (trailer_at bytes) bytes in
    let i = block_spelling f.info ++ spelled f.others in
    let m = block_spelling f.meta ++ i in
    let root : block_at sections.Roots t.load_at (drop t.load_at body) ≡ Ok f.root = ap (block_at sections.Roots t.load_at) b.root ∙ block_at-block_spelling sections.Roots t.load_at f.root m f.is_root in
    let meta : block_at sections.Roots (t.load_at + size_of f.root) (drop (t.load_at + size_of f.root) body) ≡ Ok f.meta =
    ap (block_at sections.Roots (t.load_at + size_of f.root)) b.meta ∙ block_at-block_spelling sections.Roots (t.load_at + size_of f.root) f.meta i f.is_meta in
    let info : block_at sections.Infos t.info_at (drop t.info_at body) ≡ Ok f.info = ap (block_at sections.Infos t.info_at) b.info ∙ block_at-block_spelling sections.Infos t.info_at f.info (spelled f.others) f.is_info in
    let test : eqb t.info_at (t.load_at + size_of f.root + size_of f.meta) ≡ true = eq-eqb t.info_at (t.load_at + size_of f.root + size_of f.meta) f.info_at in
    let last : info_of t f.root f.meta body ≡ Ok (opened_of bytes cells f) =
    ap (λ (c : Bool). cond c (block_at sections.Infos t.info_at (drop t.info_at body) >>= λ x. ok (record { root = f.root; meta = f.meta; info = x })) (Err (errors.BadInfo t.info_at))) test
    ∙ ap (λ r. r >>= λ (x : Block). ok (record { root = f.root; meta = f.meta; info = x })) info in
    ap (λ r. r >>= λ (x : Block). block_at sections.Roots (t.load_at + size_of x) (drop (t.load_at + size_of x) body) >>= λ y. info_of t x y body) root
    ∙ ap (λ r. r >>= λ (y : Block). info_of t f.root y body) meta ∙ last

steps-passed : (at : ℕ) (blocks : List Block) → steps passed at blocks tt ≡ Ok tt
steps-passed at [] = refl
steps-passed at (b ∷ blocks) = steps-passed (at + size_of b) blocks

pub rest_at-file : (bytes : List ℕ) (cells : List Cell) (f : IsHFile bytes cells) → rest_at f.trailer (opened_of bytes cells f) (with_numbers f.pairs) (take (trailer_at bytes) bytes) ≡ Ok cells
rest_at-file bytes cells f =
    let b = Behind-file bytes cells f in
    let t = f.trailer in
    let body = take (trailer_at bytes) bytes in
    let with_seq = with_numbers f.pairs in
    let end = joined 0 f.parts no_front in
    let behind = t.info_at + size_of f.info in
    let cells_end : end.cells ≡ cells = cells-joined with_seq 0 f.parts no_front f.held ∙ sym f.cells_are in
    let up : Ascends None (cells_of f.parts) = subst (Ascends None) f.cells_are f.ascends in
    let few : length (spelled (blocks_of f.parts)) ≤ length body = omega (arith, ap length b.front, length-take t.load_at body) in
    let few_others : length (spelled f.others) ≤ length body = omega (arith, ap length b.others, length-drop behind body) in
    let front : blocks_at (taken with_seq) sections.Front (length body) 0 (take t.load_at body) no_front ≡ Ok end =
    ap (λ (x : List ℕ). blocks_at (taken with_seq) sections.Front (length body) 0 x no_front) b.front ∙ blocks_at-spelled (taken with_seq) sections.Front (length body) 0 (blocks_of f.parts) no_front f.are_blocks few
    ∙ steps-held with_seq 0 f.parts no_front f.held up in
    let others : blocks_at passed sections.Others (length body) behind (drop behind body) tt ≡ Ok tt =
    ap (λ (x : List ℕ). blocks_at passed sections.Others (length body) behind x tt) b.others ∙ blocks_at-spelled passed sections.Others (length body) behind f.others tt f.are_others few_others ∙ steps-passed behind f.others in
    let count : counted t end.cells ≡ Ok cells =
    ap (counted t) cells_end ∙ ap (λ (c : Bool). cond c (ok cells) (Err (errors.Count t.entries (length cells)))) (eq-eqb t.entries (length cells) f.count) in
    ap (λ r. r >>= λ (x : Front). blocks_at passed sections.Others (length body) behind (drop behind body) tt >>= λ (done : Unit {0}). in_index (index_of t f.root x) >>= λ (listed : Unit {0}). counted t x.cells) front
    ∙ ap (λ r. r >>= λ (done : Unit {0}). in_index (index_of t f.root end) >>= λ (listed : Unit {0}). counted t end.cells) others
    ∙ ap (λ r. in_index r >>= λ (listed : Unit {0}). counted t end.cells) f.index ∙ count

-- ---- one answer

trailer_is : {A : Type 0} (x y : A) → ◌≡◌ {A = Result A MetaError} (Ok x) (Ok y) → x ≡ y
trailer_is x y e = cc

no_err : {A : Type 0} (x : A) (e : HFileError) (r : Result A HFileError) → r ≡ Ok x → r ≡ Err e → ⊥
no_err x e r is not = absurd cc

clash : (x : Trailer) (e : MetaError) → ◌≡◌ {A = Result Trailer MetaError} (Ok x) (Err e) → ⊥
clash x e h = absurd cc

differ : (b : Bool) → b ≡ true → b ≡ false → ⊥
differ b is not = absurd cc

no_trailer_fault : (bytes : List ℕ) (cells : List Cell) (fault : HFileError) → IsHFile bytes cells → IsTrailerFault bytes fault → ⊥
no_trailer_fault bytes cells fault f (inl short) = let long = f.tells.4 in let few = short.0 in omega arith
no_trailer_fault bytes cells fault f (inr (inl version)) = version.1 (major_of-IsTrailer bytes f.tells.0 f.tells.2 f.tells.3 f.tells.4 f.tells.5)
no_trailer_fault bytes cells fault f (inr (inr (inl none))) = none.0.2 f.tells.0 f.tells.1 f.tells.2 f.tells.3 f.tells.5 f.tells.6
no_trailer_fault bytes cells fault f (inr (inr (inr told))) = clash f.trailer told.0 (one_answer bytes (Ok f.trailer) (Err told.0) f.tells told.1)

no_info_fault : (bytes : List ℕ) (at : ℕ) (fault : HFileError) (pairs : List (List ℕ × List ℕ)) → IsInfo bytes pairs → is_encoded pairs ≡ false → IsInfoFault bytes at fault → ⊥
no_info_fault bytes at fault pairs is plain (inl none) = none.0 pairs is
no_info_fault bytes at fault pairs is plain (inr encoded) = differ (is_encoded pairs) (ap is_encoded (one_info bytes pairs encoded.0 is encoded.1) ∙ encoded.2) plain

pub no_fault : (bytes : List ℕ) (cells : List Cell) (fault : HFileError) → IsHFile bytes cells → IsFirstFault bytes fault → ⊥
no_fault bytes cells fault f (inl trailer) = no_trailer_fault bytes cells fault f trailer
no_fault bytes cells fault f (inr (t, tells, inl unopened)) =
    let same : f.trailer ≡ t = trailer_is f.trailer t (one_answer bytes (Ok f.trailer) (Ok t) f.tells tells) in
    no_err (opened_of bytes cells f) fault (opened_at f.trailer (take (trailer_at bytes) bytes)) (opened_at-file bytes cells f) (ap (λ (x : Trailer). opened_at x (take (trailer_at bytes) bytes)) same ∙ unopened)
no_fault bytes cells fault f (inr (t, tells, inr (o, is_open, wrong))) =
    let body = take (trailer_at bytes) bytes in
    let same : f.trailer ≡ t = trailer_is f.trailer t (one_answer bytes (Ok f.trailer) (Ok t) f.tells tells) in
    let parts : opened_of bytes cells f ≡ o = ok_is (opened_of bytes cells f) o (sym (opened_at-file bytes cells f) ∙ ap (λ (x : Trailer). opened_at x body) same ∙ is_open) in
    let infos : f.info ≡ o.info = ap (λ (x : Opened). x.info) parts in
    let is : IsInfo (content o.info) f.pairs = subst (λ (x : Block). IsInfo (content x) f.pairs) infos f.tells_pairs in
    elim wrong [
      | inl info ↦ no_info_fault (content o.info) t.info_at fault f.pairs is f.not_encoded info
      | inr rest ↦
          let pairs : f.pairs ≡ rest.0 = one_info (content o.info) f.pairs rest.0 is rest.1 in
          no_err cells fault (rest_at f.trailer (opened_of bytes cells f) (with_numbers f.pairs) body) (rest_at-file bytes cells f)
          (ap (λ (x : Trailer). rest_at x (opened_of bytes cells f) (with_numbers f.pairs) body) same ∙ ap (λ (x : Opened). rest_at t x (with_numbers f.pairs) body) parts
          ∙ ap (λ (x : List (List ℕ × List ℕ)). rest_at t o (with_numbers x) body) pairs ∙ rest.3)
    ]

pub one_list : (bytes : List ℕ) (cells others : List Cell) → IsHFile bytes cells → IsHFile bytes others → cells ≡ others
one_list bytes cells others f g =
    let body = take (trailer_at bytes) bytes in
    let same : f.trailer ≡ g.trailer = trailer_is f.trailer g.trailer (one_answer bytes (Ok f.trailer) (Ok g.trailer) f.tells g.tells) in
    let parts : opened_of bytes cells f ≡ opened_of bytes others g =
    ok_is (opened_of bytes cells f) (opened_of bytes others g) (sym (opened_at-file bytes cells f) ∙ ap (λ (x : Trailer). opened_at x body) same ∙ opened_at-file bytes others g) in
    let infos : f.info ≡ g.info = ap (λ (x : Opened). x.info) parts in
    let pairs : f.pairs ≡ g.pairs = one_info (content g.info) f.pairs g.pairs (subst (λ (x : Block). IsInfo (content x) f.pairs) infos f.tells_pairs) g.tells_pairs in
    ok_is cells others (sym (rest_at-file bytes cells f) ∙ ap (λ (x : Trailer). rest_at x (opened_of bytes cells f) (with_numbers f.pairs) body) same
    ∙ ap (λ (x : Opened). rest_at g.trailer x (with_numbers f.pairs) body) parts ∙ ap (λ (x : List (List ℕ × List ℕ)). rest_at g.trailer (opened_of bytes others g) (with_numbers x) body) pairs ∙ rest_at-file bytes others g)

-- an answer that is right gives the cells
pub GivesCells-answer : (bytes : List ℕ) (r : Result (List Cell) HFileError) → IsAnswer bytes r → (cells : List Cell) → IsHFile bytes cells → GivesCells r cells
GivesCells-answer bytes (Ok found) is cells f = one_list bytes found cells is f
GivesCells-answer bytes (Err errors.NoMemory) is cells f = tt
GivesCells-answer bytes (Err fault) is cells f = absurd (no_fault bytes cells fault f is)

-- ---- all tests passed

bytes_small : (bytes : List ℕ) → EachIndex bytes (λ i. get_or bytes i 0 < 256) → IsBytes bytes
bytes_small bytes fits i =
    elim (cases_lt i (length bytes)) [
      | inl inside ↦ fits i inside
      | inr past ↦ rw (get_or_past bytes i 0 past) (omega arith)
    ]

pub found_file : (bytes : List ℕ) (cells : List Cell) → EachIndex bytes (λ i. get_or bytes i 0 < 256) → PassesAll bytes cells → IsHFile bytes cells
found_file bytes cells fits (t, tells, (o, found, (pairs, is, plain, read))) = IsHFile-rest_at bytes t o pairs cells (bytes_small bytes fits) tells found is plain read

pub passes_file : (bytes : List ℕ) (cells : List Cell) → IsHFile bytes cells → PassesAll bytes cells
passes_file bytes cells f = (f.trailer, f.tells, (opened_of bytes cells f, opened_at-file bytes cells f, (f.pairs, f.tells_pairs, f.not_encoded, rest_at-file bytes cells f)))
