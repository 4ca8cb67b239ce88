use Rattle.std.proofs.Common.{ap, sym, ◌∙◌}
use Rattle.std.specs.List.{position}
use Rattle.hbase_shell.specs.Snapshots.{is_slash}
use Rattle.hbase_shell.proofs.PlaceLemmas.{IsInDirectory-position, no_directory-prefix, no_directory-slash}
use Rattle.hbase_shell.proofs.snapshots.directory_name.Goals as goal

pub returns-in_err-rest-clause-none : goal.returns-in_err-rest-clause-none
returns-in_err-rest-clause-none c = rw c.from_residual.ensures (λ name. no_directory-prefix _ name c.in_err-rest.ensures.cases)

pub returns-in_err-end-clause-none : goal.returns-in_err-end-clause-none
returns-in_err-end-clause-none c =
    let behind = c.in_ok-rest.ensures.cases.1 in
    rw c.from_residual-in_err-end.ensures (λ name. no_directory-slash _ name (sym (c.in_err-end.ensures ∙ ap (position is_slash) behind)))

pub returns-clause-found : goal.returns-clause-found
returns-clause-found c =
    let behind = c.in_ok-rest.ensures.cases.1 in
    rw behind (IsInDirectory-position _ _ c.in_ok-rest.ensures.cases.0 (sym (c.in_ok-end.ensures ∙ ap (position is_slash) behind)))
