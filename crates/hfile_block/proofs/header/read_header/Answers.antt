use Rattle.std.proofs.Common.{◌≡◌, Result, Ok, Err, ◌∙◌, drop, refl, sym, arith}
use Rattle.std.specs.Prelude.{IfOk}
use Rattle.hfile_block.proofs.HeaderLaws.{found_header, header_at-header_bytes}
use Rattle.hfile_block.proofs.header.read_header.Goals as goal

pub returns-clause-found : goal.returns-clause-found
returns-clause-found c = found_header c.args.at c.args.bytes.now c.header_of.result (λ i. omega (arith, c.type_inv.bytes i)) c.header_of.ensures

pub returns-clause-only : goal.returns-clause-only
returns-clause-only c = λ h is. c.header_of.ensures ∙ header_at-header_bytes c.args.at c.args.bytes.now (drop 33 c.args.bytes.now) h is.is is.room is.whole
