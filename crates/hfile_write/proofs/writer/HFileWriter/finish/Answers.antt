use Rattle.std.proofs.Common.{◌≡◌, ◌∙◌, ◌++◌, List, ℕ, ap}
use Rattle.hfile_index.specs.Written.{index_of}
use Rattle.hfile_index.proofs.Smalls.{IfOk-to}
use Rattle.hfile_meta.specs.Written.{written_trailer}
use Rattle.hfile_write.specs.Written.{body_of, trailer_for, written}
use Rattle.hfile_write.proofs.Cuts.{written-file}
use Rattle.hfile_write.proofs.writer.HFileWriter.finish.Goals as goal

pub returns : goal.returns
returns c =
    let e = c.in_ok-finish.field-0 in
    IfOk-to {P = λ (file : List ℕ). file ≡ body_of e.file (index_of e.index) c.in_ok-info.info ++ written_trailer (trailer_for e.file (index_of e.index) e.total e.last_at c.self.inside.summary.cells)}
    {Q = λ (file : List ℕ). file ≡ written c.args.self} c.write_rest.result
    (λ file is. is ∙ written-file c.self.inside.blocks e c.in_ok-info.info c.self.inside.summary c.self.inside.last c.in_ok-finish.ensures c.in_ok-info.ensures.exact c.self.invariant ∙ ap written c.self.view_is)
    c.write_rest.ensures
