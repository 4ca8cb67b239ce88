-- What each status of a run says of its answer.
use Rattle.std.proofs.Common.{◌≡◌, ℕ, ◌⊎◌, ◌∙◌, List, Option, Some, None, IfSome, Result, Ok, Err, false, refl, sym, subst, ap, arith, inl, inr}
use Rattle.hb_causes.specs.Faults.{Rose}
use Rattle.hbase_shell.specs.declared.run_error.RunError.{RunError}
use Rattle.hbase_shell.specs.declared.run_error.RunError.TheVariants.{TooLong, BadScript, Usage, ReadFault, NsFault, NoMemory}
use Rattle.hbase_shell.specs.Output.{Writes}
use Rattle.hbase_shell.specs.Run.{AnswersScript, IsDue, IsWritten, Met, RefusesScript, Sent}
use Rattle.hbase_shell.specs.Script.{IsScript, ReadsBad, ReadsTooLong, ReadsWhole, lines_of, run_kinds}
use Rattle.shell_script.proofs.ScriptLemmas.{not_both}
use Rattle.shell_words.specs.declared.options.Options.{Options}
use Rattle.shell_words.specs.declared.words.WordsError.TheVariants as words

-- two numbers that are not the same
apart : (status a b : ℕ) → status ≡ a → status ≡ b → (a ≡ b → ⊥) → ⊥
apart status a b e f other = other (sym e ∙ f)

pub answers : {N : Type 0} (met : Met N) (sent : Sent) (status : ℕ) (answer : Result (List ℕ) RunError) → IsDue met answer → IsWritten sent answer status → status ≡ 0 →
    AnswersScript met.told met.left.old met.left.new sent.written.old sent.written.new
answers met sent status (Ok text) due (inl whole) e = (due.1, text, due.2, due.3, due.4, whole.0)
answers met sent status (Ok text) due (inr cut) e = absurd (apart status 4 0 cut.2 e (λ f. absurd (cc)))
answers met sent status (Err TooLong) due (inl whole) e = absurd (apart status 1 0 whole.1 e (λ f. absurd (cc)))
answers met sent status (Err (BadScript bad)) due (inl whole) e = absurd (apart status 1 0 whole.1 e (λ f. absurd (cc)))
answers met sent status (Err Usage) due (inl whole) e = absurd (apart status 2 0 whole.1 e (λ f. absurd (cc)))
answers met sent status (Err ReadFault) due (inl whole) e = absurd (apart status 3 0 whole.1 e (λ f. absurd (cc)))
answers met sent status (Err NsFault) due (inl whole) e = absurd (apart status 5 0 whole.1 e (λ f. absurd (cc)))
answers met sent status (Err NoMemory) due (inl whole) e = absurd (apart status 8 0 whole.1 e (λ f. absurd (cc)))
answers met sent status (Err error) due (inr cut) e = absurd (apart status 4 0 cut.2 e (λ f. absurd (cc)))

pub refuses : {N : Type 0} (met : Met N) (sent : Sent) (status : ℕ) (answer : Result (List ℕ) RunError) → IsDue met answer → IsWritten sent answer status → status ≡ 1 →
    RefusesScript met.left.old met.left.new sent.written.old sent.written.new
refuses met sent status (Ok text) due (inl whole) e = absurd (apart status 0 1 whole.1 e (λ f. absurd (cc)))
refuses met sent status (Ok text) due (inr cut) e = absurd (apart status 4 1 cut.2 e (λ f. absurd (cc)))
refuses met sent status (Err TooLong) due (inl whole) e = inl (due.1, whole.0)
refuses met sent status (Err (BadScript bad)) due (inl whole) e =
    inr (bad.session, bad.line, bad.column, due.1.0, subst (Writes sent.written.old sent.written.new) due.1.1 whole.0)
refuses met sent status (Err Usage) due (inl whole) e = absurd (apart status 2 1 whole.1 e (λ f. absurd (cc)))
refuses met sent status (Err ReadFault) due (inl whole) e = absurd (apart status 3 1 whole.1 e (λ f. absurd (cc)))
refuses met sent status (Err NsFault) due (inl whole) e = absurd (apart status 5 1 whole.1 e (λ f. absurd (cc)))
refuses met sent status (Err NoMemory) due (inl whole) e = absurd (apart status 8 1 whole.1 e (λ f. absurd (cc)))
refuses met sent status (Err error) due (inr cut) e = absurd (apart status 4 1 cut.2 e (λ f. absurd (cc)))

-- words that were taken are not refused
pub not_usage : {N : Type 0} (met : Met N) (sent : Sent) (options : Options) (status : ℕ) (answer : Result (List ℕ) RunError) → met.words ≡ Ok options → IsDue met answer →
    IsWritten sent answer status → status ≡ 2 → ⊥
not_usage met sent options status (Ok text) taken due (inl whole) e = apart status 0 2 whole.1 e (λ f. absurd (cc))
not_usage met sent options status (Ok text) taken due (inr cut) e = apart status 4 2 cut.2 e (λ f. absurd (cc))
not_usage met sent options status (Err TooLong) taken due (inl whole) e = apart status 1 2 whole.1 e (λ f. absurd (cc))
not_usage met sent options status (Err (BadScript bad)) taken due (inl whole) e = apart status 1 2 whole.1 e (λ f. absurd (cc))
not_usage met sent options status (Err Usage) taken due (inl whole) e = let same : Ok options ≡ Err words.Usage = sym taken ∙ due.0 in cc
not_usage met sent options status (Err ReadFault) taken due (inl whole) e = apart status 3 2 whole.1 e (λ f. absurd (cc))
not_usage met sent options status (Err NsFault) taken due (inl whole) e = apart status 5 2 whole.1 e (λ f. absurd (cc))
not_usage met sent options status (Err NoMemory) taken due (inl whole) e = apart status 8 2 whole.1 e (λ f. absurd (cc))
not_usage met sent options status (Err error) taken due (inr cut) e = apart status 4 2 cut.2 e (λ f. absurd (cc))

-- the causes of the store and of the source
pub read_fault : {N : Type 0} (met : Met N) (sent : Sent) (status : ℕ) (answer : Result (List ℕ) RunError) → IsDue met answer → IsWritten sent answer status → status ≡ 3 →
    Rose met.read_faults.old met.read_faults.new
read_fault met sent status (Ok text) due (inl whole) e = absurd (apart status 0 3 whole.1 e (λ f. absurd (cc)))
read_fault met sent status (Ok text) due (inr cut) e = absurd (apart status 4 3 cut.2 e (λ f. absurd (cc)))
read_fault met sent status (Err TooLong) due (inl whole) e = absurd (apart status 1 3 whole.1 e (λ f. absurd (cc)))
read_fault met sent status (Err (BadScript bad)) due (inl whole) e = absurd (apart status 1 3 whole.1 e (λ f. absurd (cc)))
read_fault met sent status (Err Usage) due (inl whole) e = absurd (apart status 2 3 whole.1 e (λ f. absurd (cc)))
read_fault met sent status (Err ReadFault) due (inl whole) e = due.1
read_fault met sent status (Err NsFault) due (inl whole) e = absurd (apart status 5 3 whole.1 e (λ f. absurd (cc)))
read_fault met sent status (Err NoMemory) due (inl whole) e = absurd (apart status 8 3 whole.1 e (λ f. absurd (cc)))
read_fault met sent status (Err error) due (inr cut) e = absurd (apart status 4 3 cut.2 e (λ f. absurd (cc)))

pub ns_fault : {N : Type 0} (met : Met N) (sent : Sent) (status : ℕ) (answer : Result (List ℕ) RunError) → IsDue met answer → IsWritten sent answer status → status ≡ 5 →
    Rose met.ns_faults.old met.ns_faults.new
ns_fault met sent status (Ok text) due (inl whole) e = absurd (apart status 0 5 whole.1 e (λ f. absurd (cc)))
ns_fault met sent status (Ok text) due (inr cut) e = absurd (apart status 4 5 cut.2 e (λ f. absurd (cc)))
ns_fault met sent status (Err TooLong) due (inl whole) e = absurd (apart status 1 5 whole.1 e (λ f. absurd (cc)))
ns_fault met sent status (Err (BadScript bad)) due (inl whole) e = absurd (apart status 1 5 whole.1 e (λ f. absurd (cc)))
ns_fault met sent status (Err Usage) due (inl whole) e = absurd (apart status 2 5 whole.1 e (λ f. absurd (cc)))
ns_fault met sent status (Err ReadFault) due (inl whole) e = absurd (apart status 3 5 whole.1 e (λ f. absurd (cc)))
ns_fault met sent status (Err NsFault) due (inl whole) e = due.1
ns_fault met sent status (Err NoMemory) due (inl whole) e = absurd (apart status 8 5 whole.1 e (λ f. absurd (cc)))
ns_fault met sent status (Err error) due (inr cut) e = absurd (apart status 4 5 cut.2 e (λ f. absurd (cc)))

-- a source that tells had the input that was read of it
told_is : (told input : List ℕ) (left rest : Option (List ℕ)) → left ≡ Some told → ReadsWhole left rest input → told ≡ input
told_is told input left rest e whole = (subst (λ (o : Option (List ℕ)). ReadsWhole o rest input) e whole).0

-- an input that is no script is refused, unless there is a fault or no memory
pub refused_script : {N : Type 0} (met : Met N) (sent : Sent) (options : Options) (told : List ℕ) (status : ℕ) (answer : Result (List ℕ) RunError) → met.words ≡ Ok options →
    met.left.old ≡ Some told → ¬ IsScript told → IsDue met answer → IsWritten sent answer status → (status ≡ 1) ⊎ ((status ≡ 3) ⊎ ((status ≡ 4) ⊎ (status ≡ 8)))
refused_script met sent options told status (Ok text) taken left other due written =
    absurd (other (subst IsScript (sym (told_is told due.1 met.left.old met.left.new left due.2)) due.3))
refused_script met sent options told status (Err TooLong) taken left other due (inl whole) = inl whole.1
refused_script met sent options told status (Err (BadScript bad)) taken left other due (inl whole) = inl whole.1
refused_script met sent options told status (Err Usage) taken left other due (inl whole) = let same : Ok options ≡ Err words.Usage = sym taken ∙ due.0 in cc
refused_script met sent options told status (Err ReadFault) taken left other due (inl whole) = inr (inl whole.1)
refused_script met sent options told status (Err NsFault) taken left other due (inl whole) =
    absurd (other (subst IsScript (sym (told_is told due.0.1 met.left.old met.left.new left due.0.2)) due.0.3))
refused_script met sent options told status (Err NoMemory) taken left other due (inl whole) = inr (inr (inr whole.1))
refused_script met sent options told status (Err error) taken left other due (inr cut) = inr (inr (inl cut.2))

pub other_script : {N : Type 0} (met : Met N) (sent : Sent) (options : Options) (left : Option (List ℕ)) (status : ℕ) (answer : Result (List ℕ) RunError) → met.words ≡ Ok options →
    met.left.old ≡ left → IsDue met answer → IsWritten sent answer status →
    IfSome left (λ told. ¬ IsScript told → (status ≡ 1) ⊎ ((status ≡ 3) ⊎ ((status ≡ 4) ⊎ (status ≡ 8))))
other_script met sent options None status answer taken e due written = tt
other_script met sent options (Some told) status answer taken e due written = λ other. refused_script met sent options told status answer taken e other due written

-- a script is not refused
too_long : (told : List ℕ) (left rest : Option (List ℕ)) → left ≡ Some told → IsScript told → ReadsTooLong left rest → ⊥
too_long told left rest e script long =
    let here = subst (λ (o : Option (List ℕ)). ReadsTooLong o rest) e long in let short = script.short in omega (arith, here.0)

bad_line : (told : List ℕ) (left rest : Option (List ℕ)) (session number column : ℕ) → left ≡ Some told → IsScript told → ReadsBad left rest session number column → ⊥
bad_line told left rest session number column e script bad =
    let good = subst IsScript (told_is told bad.input left rest e bad.whole) script in not_both run_kinds false (lines_of bad.input) session number column good.good bad.bad

pub taken_script : (left rest old new : Option (List ℕ)) (status : ℕ) → (status ≡ 1 → RefusesScript left rest old new) → IfSome left (λ told. IsScript told → status ≡ 1 → ⊥)
taken_script None rest old new status refused = tt
taken_script (Some told) rest old new status refused = λ script e. elim (refused e) as (λ _. ⊥) [
  | inl long ↦ too_long told (Some told) rest refl script long.0
  | inr bad ↦ bad_line told (Some told) rest bad.0 bad.1 bad.2 refl script bad.3
]
