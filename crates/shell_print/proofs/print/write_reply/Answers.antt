use Rattle.std.proofs.Common.{rules, ◌≡◌, ◌++◌, OnOk, ℕ, List, codes, subst}
use Rattle.std.specs.Fmt.{decimal}
use Rattle.shell_print.specs.Shown.{shown}
use Rattle.shell_print.specs.ReplyText.{refused_with}
use Rattle.shell_print.proofs.print.write_reply.Goals as goal

pub returns-in-SnapshotExists-clause-ok : goal.returns-in-SnapshotExists-clause-ok
returns-in-SnapshotExists-clause-ok c = rw c.in-SnapshotExists.is c.add_refused-in-SnapshotExists.ensures.ok

pub returns-in-SnapshotNotFound-clause-ok : goal.returns-in-SnapshotNotFound-clause-ok
returns-in-SnapshotNotFound-clause-ok c = rw c.in-SnapshotNotFound.is c.add_refused-in-SnapshotNotFound.ensures.ok

pub returns-in-EmptyGroup-clause-ok : goal.returns-in-EmptyGroup-clause-ok
returns-in-EmptyGroup-clause-ok c = rw c.in-EmptyGroup.is c.add_refused-in-EmptyGroup.ensures.ok

pub returns-in-DuplicateFamily-clause-ok : goal.returns-in-DuplicateFamily-clause-ok
returns-in-DuplicateFamily-clause-ok c =
    rw c.in-DuplicateFamily.is (subst (λ (field : List ℕ). OnOk c.add_refused_with.result (c.add_refused_with.new.out ≡ c.args.out.now ++ refused_with (codes "DuplicateFamily") field))
    c.as_slice-in-DuplicateFamily.ensures.bytes c.add_refused_with.ensures.ok)

pub returns-in-UnknownFamily-clause-ok : goal.returns-in-UnknownFamily-clause-ok
returns-in-UnknownFamily-clause-ok c =
    rw c.in-UnknownFamily.is (subst (λ (field : List ℕ). OnOk c.add_refused_with-in-UnknownFamily.result (c.add_refused_with-in-UnknownFamily.new.out ≡ c.args.out.now ++ refused_with (codes "UnknownFamily") field))
    c.as_slice-in-UnknownFamily.ensures.bytes c.add_refused_with-in-UnknownFamily.ensures.ok)

pub returns-in-Taking-clause-ok : goal.returns-in-Taking-clause-ok
returns-in-Taking-clause-ok c =
    rw c.in-Taking.is (subst (λ (field : List ℕ). OnOk c.add_refused_with-in-Taking.result (c.add_refused_with-in-Taking.new.out ≡ c.args.out.now ++ refused_with (codes "Taking") field))
    c.as_slice-in-Taking.ensures.bytes c.add_refused_with-in-Taking.ensures.ok)

pub returns-in-DuplicateKey-clause-ok : goal.returns-in-DuplicateKey-clause-ok
returns-in-DuplicateKey-clause-ok c =
    rw c.in-DuplicateKey.is (subst (λ (field : List ℕ). OnOk c.add_refused_with-in-DuplicateKey.result (c.add_refused_with-in-DuplicateKey.new.out ≡ c.args.out.now ++ refused_with (codes "DuplicateKey") (shown field)))
    c.as_slice-in-DuplicateKey.ensures c.add_refused_with-in-DuplicateKey.ensures.ok)

pub returns-in-InUse-clause-ok : goal.returns-in-InUse-clause-ok
returns-in-InUse-clause-ok c = rw c.in-InUse.is c.add_refused_with-in-InUse.ensures.ok
