use Rattle.std.proofs.Common.{List, ℕ}
use Rattle.std.specs.Borrow.{Bor}
use Rattle.hfile_meta.proofs.Infos.{last_of-popped}
use Rattle.hfile_meta.proofs.info.last_of.Goals as goal

pub returns : goal.returns
returns c =
    last_of-popped (λ (t : Bor (List ℕ)). t.now) c.args.texts.items c.pop.new.self.items c.pop.result c.pop.ensures.items
    (rw (c.args.texts.ok.0, c.pop.new.self.ok.0) at c.pop.ensures.cases)
