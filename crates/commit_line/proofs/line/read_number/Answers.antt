use Rattle.std.proofs.Common.{refl, arith}
use Rattle.hb_grammar.proofs.FrontLemmas.{IsFrontFault-Same}
use Rattle.commit_line.proofs.NumberLineLemmas.{IsValueAt-number_line, IsTextOf-wider, IsFrontFault-rest}
use Rattle.commit_line.proofs.line.read_number.Goals as goal

pub number_between-requires : goal.number_between-requires
number_between-requires c =
    let fits = c.ranges.max.fits in
    IsTextOf-wider c.args.text.now c.args.low c.args.max c.in-Ok.line.now (omega arith) (c.number_grammar.ensures.forth _ c.in-Ok.ensures.front)

pub returns-in-Ok : goal.returns-in-Ok
returns-in-Ok c =
    let fits = c.ranges.max.fits in
    IsValueAt-number_line c.args.text.now c.args.low c.args.max c.args.bytes.now c.args.at c.in-Ok.line.now _ c.number_between.result (omega arith) (omega arith) c.requires.within
    c.in-Ok.ensures.whole (c.number_grammar.ensures.forth _ c.in-Ok.ensures.front) c.number_between.ensures

pub returns-in-Err : goal.returns-in-Err
returns-in-Err c = (
  c.in-Err.fault.0,
  refl,
  IsFrontFault-Same _ _ c.number_grammar.ensures _ _
      (IsFrontFault-rest _ c.args.bytes.now c.args.at c.in-Err.fault.0 c.in-Err.ensures.fault),
)
