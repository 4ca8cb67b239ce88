-- What a start without new regions asks of files.
use Rattle.std.proofs.Common.{◌≡◌, ◌++◌, List, [], ◌∷◌, None, sym, ◌∙◌}
use Rattle.plain_model.specs.declared.job.Job.{Job}
use Rattle.plain_model.specs.Replies.{no_files}
use Rattle.core_model.specs.StartGuards.{AreFiles, row_of_split, by_new, by_drawn, by_set, by_directory}
use Rattle.core_model.specs.State.{Parts}

pub no_cons : {P A : Type 0} (before : List A) (x : A) (xs : List A) → [] ≡ before ++ (x ∷ xs) → P
no_cons [] x xs e = absurd (cc)
no_cons (b ∷ bs) x xs e = absurd (cc)

pub no_new_files : (job : Job) (s : Parts) → row_of_split job ≡ None → AreFiles no_files job [] s
no_new_files job s none = record {
  name_taken = (λ e. absurd (cc), λ i. elim i [ by_new before between behind r q e d ↦ no_cons before r _ e | by_drawn r m d ↦ absurd m | by_set r m d ↦ absurd m | by_directory r m d ↦ absurd m ]);
  has_references = (λ e. absurd (cc), λ i. let z = sym none ∙ i.splits in absurd (cc));
}
