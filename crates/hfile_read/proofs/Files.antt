-- A whole file, by what its parts gave.
use Rattle.std.proofs.Common.{◌≡◌, ℕ, Bool, false, List, length, take, drop, Result, Ok, Err, sym, ap, ◌∙◌, inl, inr}
use Rattle.hb_cell.specs.declared.cell.Cell.{Cell}
use Rattle.hfile_block.specs.declared.fault.HFileError.{HFileError}
use Rattle.hfile_block.specs.declared.fault.HFileError.TheVariants as errors
use Rattle.hfile_meta.specs.declared.trailer.Trailer.{Trailer}
use Rattle.hfile_meta.specs.Trailer.{trailer_at}
use Rattle.hfile_meta.specs.Info.{IsInfo, is_encoded, with_numbers}
use Rattle.hb_wire.proofs.BigEndian.{IsBytes}
use Rattle.hfile_form.specs.declared.section.Section.TheVariants as sections
use Rattle.hfile_form.specs.Blocks.{content, blocks_at, ◌>>=◌}
use Rattle.hfile_form.specs.Front.{Front, no_front, taken}
use Rattle.hfile_form.proofs.FileLaws.{IsHFile-rest_at}
use Rattle.hfile_form.specs.File.{version_two, TrailerTells, Opened, opened_at, rest_at, passed, counted, behind_info, in_index, index_of, IsHFile, IsTrailerFault, IsInfoFault, IsFirstFault, IsAnswer}
use Rattle.hfile_read.specs.Answers.{Says, Fails}
use Rattle.hfile_read.proofs.Steps.{Says-map, Fails-bind, Fails-same}

-- a fault that is the first one is answered
answer_from : (bytes : List ℕ) (e : HFileError) → Says e (IsFirstFault bytes e) → IsAnswer bytes (Err e)
answer_from bytes errors.NoMemory says = tt
answer_from bytes (errors.BadTrailer at) says = says
answer_from bytes (errors.Version n) says = says
answer_from bytes (errors.Compressed n) says = says
answer_from bytes (errors.BadIndex at) says = says
answer_from bytes (errors.BadInfo at) says = says
answer_from bytes errors.Encoded says = says
answer_from bytes (errors.Magic at) says = says
answer_from bytes (errors.Size at) says = says
answer_from bytes (errors.Checksum n) says = says
answer_from bytes (errors.Cell at cause) says = says
answer_from bytes (errors.Order at) says = says
answer_from bytes (errors.Count n m) says = says

says_fact : {A : Type 0} (e : HFileError) → A → Says e A
says_fact errors.NoMemory a = tt
says_fact _ a = a

pub wrong_trailer : (bytes : List ℕ) (e : HFileError) → IsTrailerFault bytes e → IsAnswer bytes (Err e)
wrong_trailer bytes e wrong = answer_from bytes e (says_fact e (inl wrong))

pub wrong_opened : (bytes : List ℕ) (t : Trailer) (e : HFileError) → TrailerTells version_two bytes (Ok t) → Fails e (opened_at t (take (trailer_at bytes) bytes)) → IsAnswer bytes (Err e)
wrong_opened bytes t e tells wrong = answer_from bytes e (Says-map e (λ is. inr (t, tells, inl is)) wrong)

pub wrong_info : (bytes : List ℕ) (t : Trailer) (o : Opened) (e : HFileError) → TrailerTells version_two bytes (Ok t) → opened_at t (take (trailer_at bytes) bytes) ≡ Ok o
    → Says e (IsInfoFault (content o.info) t.info_at e) → IsAnswer bytes (Err e)
wrong_info bytes t o e tells found wrong = answer_from bytes e (Says-map e (λ is. inr (t, tells, inr (o, found, inl is))) wrong)

pub wrong_rest : (bytes : List ℕ) (t : Trailer) (o : Opened) (with_seq : Bool) (e : HFileError) → TrailerTells version_two bytes (Ok t) → opened_at t (take (trailer_at bytes) bytes) ≡ Ok o
    → ((pairs : List (List ℕ × List ℕ)) × IsInfo (content o.info) pairs × (is_encoded pairs ≡ false) × (with_seq ≡ with_numbers pairs))
    → Fails e (rest_at t o with_seq (take (trailer_at bytes) bytes)) → IsAnswer bytes (Err e)
wrong_rest bytes t o with_seq e tells found (pairs, is, plain, numbered) wrong =
    let body = take (trailer_at bytes) bytes in
    answer_from bytes e (Says-map e (λ (r : rest_at t o with_seq body ≡ Err e). inr (t, tells, inr (o, found, inr (pairs, is, plain, ap (λ (b : Bool). rest_at t o b body) (sym numbered) ∙ r)))) wrong)

-- ---- behind the parts that are loaded on open

abbrev count_step : Trailer → Front → Unit {0} → Result (List Cell) HFileError
count_step t front listed = counted t front.cells

abbrev index_step : Trailer → Opened → Front → Unit {0} → Result (List Cell) HFileError
index_step t o front done = in_index (index_of t o.root front) >>= count_step t front

abbrev others_at : Trailer → Opened → List ℕ → Result (Unit {0}) HFileError
others_at t o body = blocks_at passed sections.Others (length body) (behind_info t o) (drop (behind_info t o) body) tt

abbrev others_step : Trailer → Opened → List ℕ → Front → Result (List Cell) HFileError
others_step t o body front = others_at t o body >>= index_step t o front

abbrev front_at : Trailer → Bool → List ℕ → Result Front HFileError
front_at t with_seq body = blocks_at (taken with_seq) sections.Front (length body) 0 (take t.load_at body) no_front

pub wrong_front : (t : Trailer) (o : Opened) (with_seq : Bool) (body : List ℕ) (e : HFileError) → Fails e (front_at t with_seq body) → Fails e (rest_at t o with_seq body)
wrong_front t o with_seq body e wrong = Fails-bind e (front_at t with_seq body) (others_step t o body) wrong

pub wrong_others : (t : Trailer) (o : Opened) (with_seq : Bool) (body : List ℕ) (front : Front) (e : HFileError) → front_at t with_seq body ≡ Ok front → Fails e (others_at t o body) → Fails e (rest_at t o with_seq body)
wrong_others t o with_seq body front e read wrong =
    Fails-same e (others_step t o body front) (rest_at t o with_seq body) (ap (λ r. r >>= others_step t o body) read) (Fails-bind e (others_at t o body) (index_step t o front) wrong)

to_index : (t : Trailer) (o : Opened) (with_seq : Bool) (body : List ℕ) (front : Front) → front_at t with_seq body ≡ Ok front → others_at t o body ≡ Ok tt → rest_at t o with_seq body ≡ index_step t o front tt
to_index t o with_seq body front read passes = ap (λ r. r >>= others_step t o body) read ∙ ap (λ r. r >>= index_step t o front) passes

pub wrong_index : (t : Trailer) (o : Opened) (with_seq : Bool) (body : List ℕ) (front : Front) (e : HFileError) → front_at t with_seq body ≡ Ok front → others_at t o body ≡ Ok tt → Fails e (in_index (index_of t o.root front)) → Fails e (rest_at t o with_seq body)
wrong_index t o with_seq body front e read passes wrong =
    Fails-same e (index_step t o front tt) (rest_at t o with_seq body) (to_index t o with_seq body front read passes) (Fails-bind e (in_index (index_of t o.root front)) (count_step t front) wrong)

pub to_count : (t : Trailer) (o : Opened) (with_seq : Bool) (body : List ℕ) (front : Front) → front_at t with_seq body ≡ Ok front → others_at t o body ≡ Ok tt → in_index (index_of t o.root front) ≡ Ok tt → rest_at t o with_seq body ≡ counted t front.cells
to_count t o with_seq body front read passes lists = to_index t o with_seq body front read passes ∙ ap (λ r. r >>= count_step t front) lists

-- ---- all tests passed

pub right_rest : (bytes : List ℕ) (t : Trailer) (o : Opened) (with_seq : Bool) (cells : List Cell) → IsBytes bytes → TrailerTells version_two bytes (Ok t) → opened_at t (take (trailer_at bytes) bytes) ≡ Ok o
    → ((pairs : List (List ℕ × List ℕ)) × IsInfo (content o.info) pairs × (is_encoded pairs ≡ false) × (with_seq ≡ with_numbers pairs))
    → rest_at t o with_seq (take (trailer_at bytes) bytes) ≡ Ok cells → IsHFile bytes cells
right_rest bytes t o with_seq cells fits tells found (pairs, is, plain, numbered) read =
    let body = take (trailer_at bytes) bytes in
    IsHFile-rest_at bytes t o pairs cells fits tells found is plain (ap (λ (b : Bool). rest_at t o b body) (sym numbered) ∙ read)
