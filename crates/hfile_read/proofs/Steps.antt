-- The steps of reading: a fault goes on, and blocks are read one after another.
use Rattle.std.proofs.Common.{◌≡◌, ℕ, zero, suc, ◌+◌, ◌<◌, ◌≤◌, Bool, true, false, cond, eqb, List, length, drop, Result, Ok, Err, refl, sym, ap, subst, ◌∙◌, arith}
use Rattle.std.proofs.lemmas.Bool.{eq-eqb, ne_eqb, eqb-true, eqb-false}
use Rattle.std.proofs.lemmas.List.{length-append, length-drop}
use Rattle.hfile_block.specs.declared.fault.HFileError.{HFileError}
use Rattle.hfile_block.specs.declared.fault.HFileError.TheVariants as errors
use Rattle.hfile_block.specs.declared.header.Header.{Header}
use Rattle.hfile_block.specs.Header.{header_bytes, BeginsWith}
use Rattle.hfile_block.proofs.HeaderLaws.{length-header_bytes}
use Rattle.hfile_form.specs.declared.section.Section.{Section}
use Rattle.hfile_form.specs.Blocks.{Block, size_of, block_at, blocks_at, ◌>>=◌}
use Rattle.hfile_form.proofs.Tools.{ok}
use Rattle.hfile_read.specs.Answers.{Says, Fails}

-- what a fault says of one thing it says of another that follows
pub Says-map : {A B : Type 0} (e : HFileError) → (A → B) → Says e A → Says e B
Says-map errors.NoMemory f x = tt
Says-map _ f x = f x

-- a fault of the first step is that of the whole
pub Fails-bind : {A B : Type 0} (e : HFileError) (r : Result A HFileError) (f : A → Result B HFileError) → Fails e r → Fails e (r >>= f)
Fails-bind e r f h = Says-map e (λ (is : r ≡ Err e). ap (λ x. x >>= f) is) h

-- a fault of what is equal
pub Fails-same : {A : Type 0} (e : HFileError) (r s : Result A HFileError) → s ≡ r → Fails e r → Fails e s
Fails-same e r s same h = Says-map e (λ (is : r ≡ Err e). same ∙ is) h

-- the bytes hold a header and its block
pub BeginsWith-long : (bytes : List ℕ) (h : Header) → BeginsWith bytes h → 33 + h.on_disk ≤ length bytes
BeginsWith-long bytes h is = let room = is.room in omega (arith, ap length is.whole, length-append (header_bytes h) (drop 33 bytes), length-header_bytes h)

-- ---- blocks one after another

-- of bytes from a place on, some are left at a later place, and what they make is what all of them do
pub record IsLeft {S : Type 0} (step : ℕ → Block → S → Result S HFileError) (section : Section) (from : ℕ) (bytes : List ℕ) (start : S) (at : ℕ) (rest : List ℕ) (s : S) : Type 0 where
  pub place : at + length rest ≡ from + length bytes
  pub told : (more : ℕ) → length bytes ≤ more → (left : ℕ) × (length rest ≤ left) × (blocks_at step section left at rest s ≡ blocks_at step section more from bytes start)

pub IsLeft-all : {S : Type 0} (step : ℕ → Block → S → Result S HFileError) (section : Section) (from : ℕ) (bytes : List ℕ) (start : S) → IsLeft step section from bytes start from bytes start
IsLeft-all step section from bytes start = record { place = refl; told = λ more enough. (more, enough, refl) }

-- what is made of a block and of those behind it
abbrev behind : {S : Type 0} → (ℕ → Block → S → Result S HFileError) → Section → ℕ → ℕ → List ℕ → S → Block → Result S HFileError
behind step section left at rest s b = step at b s >>= λ next. blocks_at step section left (at + size_of b) (drop (size_of b) rest) next

one_block : {S : Type 0} (step : ℕ → Block → S → Result S HFileError) (section : Section) (left at : ℕ) (rest : List ℕ) (s : S) → 0 < length rest
    → blocks_at step section (suc left) at rest s ≡ (block_at section at rest >>= behind step section left at rest s)
one_block step section left at rest s some =
    let test : eqb (length rest) 0 ≡ false = ne_eqb (length rest) 0 (λ none. omega arith) in
    ap (λ (t : Bool). cond t (ok s) (block_at section at rest >>= behind step section left at rest s)) test

next_left : {S : Type 0} (step : ℕ → Block → S → Result S HFileError) (section : Section) (left at : ℕ) (rest : List ℕ) (s next : S) (b : Block) (whole : Result S HFileError)
    → 0 < length rest → block_at section at rest ≡ Ok b → step at b s ≡ Ok next → length rest ≤ left → blocks_at step section left at rest s ≡ whole
    → (less : ℕ) × (length (drop (size_of b) rest) ≤ less) × (blocks_at step section less (at + size_of b) (drop (size_of b) rest) next ≡ whole)
next_left step section zero at rest s next b whole some read made short told = absurd (omega arith)
next_left step section (suc left) at rest s next b whole some read made short told =
    let on : blocks_at step section (suc left) at rest s ≡ blocks_at step section left (at + size_of b) (drop (size_of b) rest) next =
    one_block step section left at rest s some ∙ ap (λ r. r >>= behind step section left at rest s) read ∙ ap (λ r. r >>= λ n. blocks_at step section left (at + size_of b) (drop (size_of b) rest) n) made in
    (left, omega (arith, length-drop (size_of b) rest), sym on ∙ told)

pub IsLeft-next : {S : Type 0} (step : ℕ → Block → S → Result S HFileError) (section : Section) (from : ℕ) (bytes : List ℕ) (start : S) (at : ℕ) (rest : List ℕ) (s next : S) (b : Block)
    → IsLeft step section from bytes start at rest s → 0 < length rest → block_at section at rest ≡ Ok b → size_of b ≤ length rest → step at b s ≡ Ok next
    → IsLeft step section from bytes start (at + size_of b) (drop (size_of b) rest) next
IsLeft-next step section from bytes start at rest s next b so_far some read inside made = record {
  place = let place = so_far.place in omega (arith, length-drop (size_of b) rest);
  told = λ more enough. let t = so_far.told more enough in next_left step section t.0 at rest s next b (blocks_at step section more from bytes start) some read made t.1 t.2;
}

-- a fault of a block is that of all
wrong_left : {S : Type 0} (step : ℕ → Block → S → Result S HFileError) (section : Section) (left at : ℕ) (rest : List ℕ) (s : S) (e : HFileError) (whole : Result S HFileError)
    → 0 < length rest → Fails e (block_at section at rest) → length rest ≤ left → blocks_at step section left at rest s ≡ whole → Fails e whole
wrong_left step section zero at rest s e whole some wrong short told = absurd (omega arith)
wrong_left step section (suc left) at rest s e whole some wrong short told =
    Fails-same e (block_at section at rest >>= behind step section left at rest s) whole (sym told ∙ one_block step section left at rest s some) (Fails-bind e (block_at section at rest) (behind step section left at rest s) wrong)

pub IsLeft-block_wrong : {S : Type 0} (step : ℕ → Block → S → Result S HFileError) (section : Section) (from : ℕ) (bytes : List ℕ) (start : S) (at : ℕ) (rest : List ℕ) (s : S) (e : HFileError)
    → IsLeft step section from bytes start at rest s → 0 < length rest → Fails e (block_at section at rest) → (more : ℕ) → length bytes ≤ more → Fails e (blocks_at step section more from bytes start)
IsLeft-block_wrong step section from bytes start at rest s e so_far some wrong more enough =
    let t = so_far.told more enough in wrong_left step section t.0 at rest s e (blocks_at step section more from bytes start) some wrong t.1 t.2

wrong_step : {S : Type 0} (step : ℕ → Block → S → Result S HFileError) (section : Section) (left at : ℕ) (rest : List ℕ) (s : S) (b : Block) (e : HFileError) (whole : Result S HFileError)
    → 0 < length rest → block_at section at rest ≡ Ok b → Fails e (step at b s) → length rest ≤ left → blocks_at step section left at rest s ≡ whole → Fails e whole
wrong_step step section zero at rest s b e whole some read wrong short told = absurd (omega arith)
wrong_step step section (suc left) at rest s b e whole some read wrong short told =
    Fails-same e (behind step section left at rest s b) whole (sym told ∙ one_block step section left at rest s some ∙ ap (λ r. r >>= behind step section left at rest s) read)
    (Fails-bind e (step at b s) (λ n. blocks_at step section left (at + size_of b) (drop (size_of b) rest) n) wrong)

pub IsLeft-step_wrong : {S : Type 0} (step : ℕ → Block → S → Result S HFileError) (section : Section) (from : ℕ) (bytes : List ℕ) (start : S) (at : ℕ) (rest : List ℕ) (s : S) (b : Block) (e : HFileError)
    → IsLeft step section from bytes start at rest s → 0 < length rest → block_at section at rest ≡ Ok b → Fails e (step at b s) → (more : ℕ) → length bytes ≤ more → Fails e (blocks_at step section more from bytes start)
IsLeft-step_wrong step section from bytes start at rest s b e so_far some read wrong more enough =
    let t = so_far.told more enough in wrong_step step section t.0 at rest s b e (blocks_at step section more from bytes start) some read wrong t.1 t.2

end_left : {S : Type 0} (step : ℕ → Block → S → Result S HFileError) (section : Section) (left at : ℕ) (rest : List ℕ) (s : S) → length rest ≡ 0 → blocks_at step section left at rest s ≡ Ok s
end_left step section zero at rest s none = refl
end_left step section (suc left) at rest s none =
    ap (λ (t : Bool). cond t (ok s) (block_at section at rest >>= behind step section left at rest s)) (eq-eqb (length rest) 0 none)

pub IsLeft-none : {S : Type 0} (step : ℕ → Block → S → Result S HFileError) (section : Section) (from : ℕ) (bytes : List ℕ) (start : S) (at : ℕ) (rest : List ℕ) (s : S)
    → IsLeft step section from bytes start at rest s → length rest ≡ 0 → (more : ℕ) → length bytes ≤ more → blocks_at step section more from bytes start ≡ Ok s
IsLeft-none step section from bytes start at rest s so_far none more enough =
    let t = so_far.told more enough in sym t.2 ∙ end_left step section t.0 at rest s none

-- whether bytes are left
pub some_left : (rest : List ℕ) → eqb (length rest) 0 ≡ false → 0 < length rest
some_left rest some = let differ = eqb-false (length rest) 0 some in omega arith

pub none_left : (rest : List ℕ) → eqb (length rest) 0 ≡ true → length rest ≡ 0
none_left rest none = eqb-true (length rest) 0 none

-- what is left behind a block, by how it was cut
pub moved_left : {S : Type 0} (step : ℕ → Block → S → Result S HFileError) (section : Section) (from : ℕ) (bytes : List ℕ) (start : S) (at size cut : ℕ) (rest behind : List ℕ) (s : S) (b : Block)
    → IsLeft step section from bytes start (at + size_of b) (drop (size_of b) rest) s → size ≡ size_of b → cut ≡ size_of b → behind ≡ drop cut rest → IsLeft step section from bytes start (at + size) behind s
moved_left step section from bytes start at size cut rest behind s b next is_size is_cut is_behind =
    let place : at + size_of b ≡ at + size = ap (λ n. at + n) (sym is_size) in
    let bytes_left : drop (size_of b) rest ≡ behind = sym (is_behind ∙ ap (λ n. drop n rest) is_cut) in
    subst (λ n. IsLeft step section from bytes start n behind s) place (subst (λ r. IsLeft step section from bytes start (at + size_of b) r s) bytes_left next)
