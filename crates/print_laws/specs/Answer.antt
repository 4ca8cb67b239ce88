-- What a line of a script may be answered.
use Rattle.std.specs.Prelude.{◌≡◌, ◌⊎◌, ℕ, Bool, true, false, List, [], ◌∷◌}
use Rattle.std.proofs.Common.{inl, inr}
use Rattle.plain_model.specs.declared.job.Job.{Job}
use Rattle.plain_model.specs.declared.job.Job.TheVariants as job
use Rattle.plain_model.specs.declared.reply.Reply.{Reply}
use Rattle.plain_model.specs.declared.reply.Reply.TheVariants as reply
use Rattle.shell_print.specs.declared.cause.PrintCause.{PrintCause}
use Rattle.shell_print.specs.CauseText.{cause_text}
use Rattle.shell_print.specs.ReplyText.{reply_text}
use Rattle.print_laws.specs.Reply.{IsCause, IsReply, shown_reply}

-- whether a job may be given a reply: one of its refusals, or what it answers where none holds
abbrev pub is_given : Job → Reply → Bool
is_given job.ListSnapshots (reply.Snapshots names) = true
is_given (job.Create table families versions splits) reply.Fine = true
is_given (job.Create table families versions splits) reply.TableExists = true
is_given (job.Create table families versions splits) (reply.DuplicateFamily family) = true
is_given (job.Create table families versions splits) reply.BadSplitKey = true
is_given (job.Create table families versions splits) reply.NameTaken = true
is_given (job.Put table cell) reply.Fine = true
is_given (job.Put table cell) reply.TableNotFound = true
is_given (job.Put table cell) reply.TableNotEnabled = true
is_given (job.Put table cell) (reply.UnknownFamily family) = true
is_given (job.Scan table) (reply.Cells cells) = true
is_given (job.Scan table) reply.TableNotFound = true
is_given (job.Scan table) reply.TableNotEnabled = true
is_given (job.Flush table) reply.Fine = true
is_given (job.Flush table) reply.TableNotFound = true
is_given (job.Flush table) reply.TableNotEnabled = true
is_given (job.Compact table major) reply.Fine = true
is_given (job.Compact table major) reply.TableNotFound = true
is_given (job.Compact table major) reply.TableNotEnabled = true
is_given (job.Discharge table) reply.Fine = true
is_given (job.Discharge table) reply.TableNotFound = true
is_given (job.Discharge table) reply.TableNotEnabled = true
is_given (job.Split table row) reply.Fine = true
is_given (job.Split table row) reply.TableNotFound = true
is_given (job.Split table row) reply.TableNotEnabled = true
is_given (job.Split table row) reply.BadSplitKey = true
is_given (job.Split table row) reply.HasReferences = true
is_given (job.Split table row) reply.TooManyRegions = true
is_given (job.Split table row) reply.NameTaken = true
is_given (job.Disable table) reply.Fine = true
is_given (job.Disable table) reply.TableNotFound = true
is_given (job.Disable table) reply.TableNotEnabled = true
is_given (job.Enable table) reply.Fine = true
is_given (job.Enable table) reply.TableNotFound = true
is_given (job.Enable table) reply.TableNotDisabled = true
is_given (job.Drop table) reply.Fine = true
is_given (job.Drop table) reply.TableNotFound = true
is_given (job.Drop table) reply.TableNotDisabled = true
is_given (job.Snapshot table snapshot) reply.Fine = true
is_given (job.Snapshot table snapshot) reply.TableNotFound = true
is_given (job.Snapshot table snapshot) reply.SnapshotExists = true
is_given (job.DeleteSnapshot snapshot) reply.Fine = true
is_given (job.DeleteSnapshot snapshot) reply.SnapshotNotFound = true
is_given (job.DeleteSnapshot snapshot) (reply.InUse actor) = true
is_given (job.Clone snapshot table) reply.Fine = true
is_given (job.Clone snapshot table) reply.SnapshotNotFound = true
is_given (job.Clone snapshot table) reply.TableExists = true
is_given (job.Clone snapshot table) reply.NameTaken = true
is_given (job.Restore snapshot) reply.Fine = true
is_given (job.Restore snapshot) reply.SnapshotNotFound = true
is_given (job.Restore snapshot) reply.TableNotFound = true
is_given (job.Restore snapshot) reply.TableNotDisabled = true
is_given (job.Restore snapshot) reply.NameTaken = true
is_given (job.Bulk table folder) reply.Fine = true
is_given (job.Bulk table folder) reply.TableNotFound = true
is_given (job.Bulk table folder) reply.TableNotEnabled = true
is_given (job.Bulk table folder) reply.EmptyGroup = true
is_given (job.Bulk table folder) (reply.UnknownFamily family) = true
is_given (job.Bulk table folder) (reply.BadFile file) = true
is_given (job.Bulk table folder) (reply.DuplicateKey file) = true
is_given (job.Bulk table folder) (reply.TooManyFiles region family) = true
is_given job.Janitor (reply.Removed count) = true
is_given job.Clean (reply.Deleted places) = true
is_given job.Clean (reply.Taking name) = true
is_given asked answer = false

-- an answer: a reply, or the cause that stopped the line
abbrev pub Answer : Type 0
Answer = Reply ⊎ PrintCause

-- its lines
abbrev pub answer_text : Answer → List ℕ
answer_text (inl given) = reply_text given
answer_text (inr met) = cause_text met

-- an answer as its lines show it
abbrev pub shown_answer : Answer → Answer
shown_answer (inl given) = inl (shown_reply given)
shown_answer (inr met) = inr met

-- an answer to a job
abbrev pub IsAnswer : Job → Answer → Type 0
IsAnswer asked (inl given) = IsReply given × (is_given asked given ≡ true)
IsAnswer asked (inr met) = IsCause met

-- an answer to each of some jobs
abbrev pub AreAnswers : List Job → List Answer → Type 0
AreAnswers [] [] = Unit {0}
AreAnswers [] (answer ∷ answers) = ⊥
AreAnswers (asked ∷ jobs) [] = ⊥
AreAnswers (asked ∷ jobs) (answer ∷ answers) = IsAnswer asked answer × AreAnswers jobs answers
