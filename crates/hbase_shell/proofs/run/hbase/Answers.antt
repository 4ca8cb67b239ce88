use Rattle.std.proofs.Common.{arith, ◌≡◌, ◌⊎◌, ◌∙◌, ℕ, List, Option, Some, None, Err, inl, inr, sym}
use Rattle.std.specs.Prelude.{IfSome}
use Rattle.shell_words.specs.declared.options.Options.{Options}
use Rattle.shell_words.specs.declared.words.WordsError.{WordsError}
use Rattle.shell_words.specs.declared.words.WordsError.TheVariants as words
use Rattle.shell_words.specs.Reading.{IsOrNoMemory}
use Rattle.hbase_shell.specs.declared.run_error.RunError.{RunError}
use Rattle.hbase_shell.specs.RunError.{error_of}
use Rattle.hbase_shell.specs.Run.{IsWritten, Sent}
use Rattle.hbase_shell.specs.Script.{IsScript}
use Rattle.hbase_shell.proofs.run.hbase.Goals as goal

pub returns-in-Ok-clause-listed : goal.returns-in-Ok-clause-listed
returns-in-Ok-clause-listed g c status =
    let listed = c.hbase_script.ensures.listed status in ((c.in-Ok.options, c.in-Ok.ensures.reads), listed)

pub returns-in-Ok-clause-other_words : goal.returns-in-Ok-clause-other_words
returns-in-Ok-clause-other_words g c other = absurd (other (c.in-Ok.options, c.in-Ok.ensures.reads))

-- words that would be taken were not read for want of memory
status-plain : (options : Options) (read : WordsError) (error : RunError) (sent : Sent) (status : ℕ) → IsOrNoMemory options (Err read) → error ≡ error_of read
    → IsWritten sent (Err error) status → (status ≡ 4) ⊎ (status ≡ 8)
status-plain options words.Usage error sent status plain is written = absurd plain
status-plain options words.NoMemory error sent status plain is (inl whole) = inr (rw is at whole.1)
status-plain options words.NoMemory error sent status plain is (inr front) = inl front.2

pub returns-clause-plain_words : goal.returns-clause-plain_words
returns-clause-plain_words g c options line two =
    elim (status-plain options c.in-Err.error c.from-error.result _ _ (c.in-Err.ensures.plain options line) c.from-error.ensures c.finish-status.ensures) [
      | inl four ↦ let bad : 2 ≡ 4 = sym two ∙ four in absurd (omega (arith, bad))
      | inr eight ↦ let bad : 2 ≡ 8 = sym two ∙ eight in absurd (omega (arith, bad))
    ]

other_script : (left : Option (List ℕ)) (status : ℕ) → (status ≡ 4) ⊎ (status ≡ 8)
    → IfSome left (λ script. ¬ IsScript script → (status ≡ 1) ⊎ ((status ≡ 3) ⊎ ((status ≡ 4) ⊎ (status ≡ 8))))
other_script None status h = tt
other_script (Some script) status h = λ other. inr (inr h)

pub returns-clause-other_script : goal.returns-clause-other_script
returns-clause-other_script g c options line =
    other_script _ _ (status-plain options c.in-Err.error c.from-error.result _ _ (c.in-Err.ensures.plain options line) c.from-error.ensures c.finish-status.ensures)

-- words that were not read are no script that is refused
not_refused : (read : WordsError) (error : RunError) (sent : Sent) (status : ℕ) → error ≡ error_of read → IsWritten sent (Err error) status → status ≡ 1 → ⊥
not_refused words.Usage error sent status is (inl whole) one = let two : status ≡ 2 = (rw is at whole.1) in omega (arith, one, two)
not_refused words.NoMemory error sent status is (inl whole) one = let eight : status ≡ 8 = (rw is at whole.1) in omega (arith, one, eight)
not_refused read error sent status is (inr front) one = omega (arith, front.2, one)

script : (left : Option (List ℕ)) (status : ℕ) → (status ≡ 1 → ⊥) → IfSome left (λ script. IsScript script → status ≡ 1 → ⊥)
script None status h = tt
script (Some told) status h = λ is. h

pub returns-clause-script : goal.returns-clause-script
returns-clause-script g c = script _ _ (not_refused c.in-Err.error c.from-error.result _ _ c.from-error.ensures c.finish-status.ensures)
