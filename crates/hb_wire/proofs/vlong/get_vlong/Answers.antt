use Rattle.std.proofs.Common.{◌≡◌, drop, sym, ap, ◌∙◌, arith}
use Rattle.std.proofs.lemmas.Grind.{common_steps}
use Rattle.hb_wire.specs.Vlong.{vlong_at}
use Rattle.hb_wire.proofs.Vlongs.{vlong_at-vlong, found_vlong, within_vlong}
use Rattle.hb_wire.proofs.VlongFaults.{BeginsWithNone-short, BeginsWithNone-overlong}
use Rattle.hb_wire.proofs.vlong.get_vlong.Goals as goal

pub returns-clause-within : goal.returns-clause-within
returns-clause-within c =
    let exact : c.vlong_at.result ≡ vlong_at (drop c.args.at c.args.bytes.now) = grind (arith, common_steps) in
    within_vlong c.args.bytes.now c.args.at c.vlong_at.result (λ i. omega (arith, c.type_inv.bytes i)) c.requires exact

pub returns-clause-found : goal.returns-clause-found
returns-clause-found c =
    let exact : c.vlong_at.result ≡ vlong_at (drop c.args.at c.args.bytes.now) = grind (arith, common_steps) in
    found_vlong c.args.bytes.now c.args.at c.vlong_at.result (λ i. omega (arith, c.type_inv.bytes i)) exact

pub returns-clause-only : goal.returns-clause-only
returns-clause-only c = λ value rest fits e.
    let exact : c.vlong_at.result ≡ vlong_at (drop c.args.at c.args.bytes.now) = grind (arith, common_steps) in
    exact ∙ ap vlong_at e ∙ vlong_at-vlong value rest fits

pub returns-clause-short : goal.returns-clause-short
returns-clause-short c = λ missing more is few.
    let exact : c.vlong_at.result ≡ vlong_at (drop c.args.at c.args.bytes.now) = grind (arith, common_steps) in
    BeginsWithNone-short (drop c.args.at c.args.bytes.now) more missing (sym exact ∙ is) few

pub returns-clause-overlong : goal.returns-clause-overlong
returns-clause-overlong c = λ more is.
    let exact : c.vlong_at.result ≡ vlong_at (drop c.args.at c.args.bytes.now) = grind (arith, common_steps) in
    BeginsWithNone-overlong (drop c.args.at c.args.bytes.now) more (sym exact ∙ is)
