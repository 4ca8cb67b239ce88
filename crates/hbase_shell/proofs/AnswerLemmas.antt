-- What the lines of a script of the program ask for.
use Rattle.std.proofs.Common.{◌≡◌, ℕ, zero, suc, ◌+◌, ◌<◌, ◌⊎◌, List, [], ◌∷◌, ◌++◌, Contains, false, slice_index_or, Option, Result, Ok, Err, IsOk, IfOk, IfErr, length, inl, inr, refl, sym, ap, ◌∙◌, subst, arith}
use Rattle.std.specs.List.{flat_map}
use Rattle.std.specs.Result.{IsErrOf}
use Rattle.plain_model.specs.declared.job.Job.{Job}
use Rattle.plain_model.specs.declared.job.Job.TheVariants as job
use Rattle.ns_tree.specs.Tree.{Tree}
use Rattle.shell_line.specs.declared.line_kind.LineKind.{LineKind}
use Rattle.shell_line.specs.declared.line_kind.LineKind.TheVariants as kind
use Rattle.shell_line.specs.Line.{behind_word}
use Rattle.shell_lang.specs.Jobs.{job_of}
use Rattle.shell_lang.specs.Line.{Asks}
use Rattle.shell_script.specs.declared.session.NumberedJob.{NumberedJob}
use Rattle.shell_script.specs.declared.session.Session.{Session}
use Rattle.shell_script.specs.Session.{AllAsk}
use Rattle.hb_causes.specs.Faults.{Rose}
use Rattle.hbase_shell.specs.declared.run_error.RunError.{RunError}
use Rattle.hbase_shell.specs.declared.run_error.RunError.TheVariants.{TooLong, BadScript, Usage, ReadFault, NsFault, NoMemory}
use Rattle.hbase_shell.specs.Run.{AreListings, IsDue, Met}
use Rattle.hbase_shell.specs.Script.{IsScript, ReadsWhole, lines_of, run_kinds}
use Rattle.hbase_shell.specs.Snapshots.{AreAnswered, AskForSnapshots}

-- the one kind of line
kind_at : (i : ℕ) (k : LineKind) → i < length run_kinds → slice_index_or run_kinds i k ≡ k → kind.ListSnapshots ≡ k
kind_at zero k below is = is
kind_at (suc i) k below is = absurd (omega (arith, below))

asks_for : (line : List ℕ) (asked : Job) → Asks run_kinds line asked → asked ≡ job.ListSnapshots
asks_for line asked asks =
    let same : kind.ListSnapshots ≡ asks.kind = kind_at asks.listed.0 asks.kind asks.listed.1 asks.listed.2 in
    asks.asked ∙ ap (λ (k : LineKind). job_of k (behind_word asks.kind line)) (sym same)

ask_for : (lines : List (ℕ × List ℕ)) (jobs : List NumberedJob) → AllAsk run_kinds lines jobs → AskForSnapshots jobs × (length jobs ≡ length lines)
ask_for [] [] all = (tt, refl)
ask_for [] (j ∷ js) all = absurd all
ask_for (l ∷ ls) [] all = absurd all
ask_for (l ∷ ls) (j ∷ js) all =
    let rest = ask_for ls js all.2 in
    let long = rest.1 in
    ((asks_for l.1 j.job all.1, rest.0), omega (arith, long))

-- the jobs of the session that the lines were read as
pub ask_for_all : (lines : List (ℕ × List ℕ)) (session one : Session) (jobs : List NumberedJob) → jobs ≡ session.lines → session ≡ one → AllAsk run_kinds lines one.lines →
    AskForSnapshots jobs × (length jobs ≡ length lines)
ask_for_all lines session one jobs is same all =
    subst (λ (j : List NumberedJob). AskForSnapshots j × (length j ≡ length lines)) (sym (is ∙ ap (λ (s : Session). s.lines) same)) (ask_for lines one.lines all)

-- one text for each of two lists that are as long
same_long : (text : List ℕ) (jobs : List NumberedJob) (lines : List (ℕ × List ℕ)) → length jobs ≡ length lines →
    flat_map (λ (job : NumberedJob). text) jobs ≡ flat_map (λ (line : ℕ × List ℕ). text) lines
same_long text [] [] e = refl
same_long text [] (l ∷ ls) e = absurd (omega (arith, e))
same_long text (j ∷ js) [] e = absurd (omega (arith, e))
same_long text (j ∷ js) (l ∷ ls) e = ap (λ (t : List ℕ). text ++ t) (same_long text js ls (omega (arith, e)))

pub AreListings-AreAnswered : (told : Option Tree) (jobs : List NumberedJob) (lines : List (ℕ × List ℕ)) (text : List ℕ) → length jobs ≡ length lines → AreAnswered told jobs text →
    AreListings told lines text
AreListings-AreAnswered told jobs lines text e answered = record {
  listing = answered.listing;
  whole = answered.whole ∙ same_long answered.listing jobs lines e;
  listed = λ some. answered.listed (omega (arith, e));
}

-- what the store answers is due
pub IsDue-lines : {N : Type 0} (met : Met N) (input : List ℕ) (jobs : List NumberedJob) (result : Result (List ℕ) RunError) → IsOk met.words →
    ReadsWhole met.left.old met.left.new input → IsScript input → length jobs ≡ length (lines_of input) → IfOk result (AreAnswered met.told jobs) →
    (IsErrOf result NsFault → Rose met.ns_faults.old met.ns_faults.new) → IfErr result (λ error. (error ≡ NsFault) ⊎ (error ≡ NoMemory)) → IsDue met result
IsDue-lines met input jobs (Ok text) taken whole script long answered fault only = (taken, input, whole, script, AreListings-AreAnswered met.told jobs (lines_of input) text long answered)
IsDue-lines met input jobs (Err NsFault) taken whole script long answered fault only = ((taken, input, whole, script), fault refl)
IsDue-lines met input jobs (Err NoMemory) taken whole script long answered fault only = inr (taken, input, whole, script)
IsDue-lines met input jobs (Err TooLong) taken whole script long answered fault only = absurd (elim only as (λ _. ⊥) [ inl e ↦ cc e | inr e ↦ cc e ])
IsDue-lines met input jobs (Err (BadScript bad)) taken whole script long answered fault only = absurd (elim only as (λ _. ⊥) [ inl e ↦ cc e | inr e ↦ cc e ])
IsDue-lines met input jobs (Err Usage) taken whole script long answered fault only = absurd (elim only as (λ _. ⊥) [ inl e ↦ cc e | inr e ↦ cc e ])
IsDue-lines met input jobs (Err ReadFault) taken whole script long answered fault only = absurd (elim only as (λ _. ⊥) [ inl e ↦ cc e | inr e ↦ cc e ])
