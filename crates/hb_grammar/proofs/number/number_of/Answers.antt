use Rattle.std.proofs.Common.{◌≡◌, ℕ, List, ◌+◌, ◌*◌, ◌-◌, ap, ◌∙◌, subst, get_or, drop, arith, false}
use Rattle.std.specs.Fmt.{decimal}
use Rattle.hb_grammar.specs.Numeral.{IsNumeral}
use Rattle.hb_grammar.proofs.NumberLemmas.{Takes, Leaves, Takes-get_or, Takes-AreDigits, Leaves-drop_all, decimal-value_after, length-AreDigits, value_after}
use Rattle.hb_grammar.proofs.NumeralLemmas.{AreDigits-IsNumeral}
use Rattle.hb_grammar.proofs.number.number_of.Goals as goal

-- a numeral's digits are taken from the first on
first : (bytes : List ℕ) → IsNumeral 0 18_446_744_073_709_551_615 bytes → Takes 18_446_744_073_709_551_615 0 (get_or bytes 0 0) (drop 1 bytes) (value_after 0 bytes)
first bytes numeral = Takes-AreDigits 18_446_744_073_709_551_615 bytes (AreDigits-IsNumeral 0 18_446_744_073_709_551_615 bytes (omega arith) numeral)

pub bounds-bytes-0 : goal.bounds-bytes-0
bounds-bytes-0 c = length-AreDigits false 18_446_744_073_709_551_615 c.args.bytes.now (AreDigits-IsNumeral 0 18_446_744_073_709_551_615 c.args.bytes.now (omega arith) c.requires)

pub overflow_sub-value : goal.overflow_sub-value
overflow_sub-value c = let takes = first c.args.bytes.now c.requires in takes.low

pub loop-i-init : goal.loop-i-init
loop-i-init c =
    let takes = first c.args.bytes.now c.requires in
    let e : 0 * 10 + (get_or c.args.bytes.now 0 0 - 48) ≡ get_or c.args.bytes.now 0 0 - 48 = omega arith in
    subst (λ n. Leaves 18_446_744_073_709_551_615 n (drop 1 c.args.bytes.now) (value_after 0 c.args.bytes.now)) e takes.leaves

pub overflow_mul-value : goal.overflow_mul-value
overflow_mul-value c =
    let takes = Takes-get_or _ _ _ c.loop-i.i c.args.bytes.now c.loop-i-test.true c.loop-i.invariant in
    let bound = takes.bound in omega arith

pub overflow_add-value : goal.overflow_add-value
overflow_add-value c =
    let takes = Takes-get_or _ _ _ c.loop-i.i c.args.bytes.now c.loop-i-test.true c.loop-i.invariant in
    let bound = takes.bound in omega arith

pub returns : goal.returns
returns c =
    let same : c.loop-i.value ≡ _ = Leaves-drop_all _ _ _ c.loop-i.i c.args.bytes.now (omega arith) c.loop-i.invariant in
    ap decimal same ∙ decimal-value_after false 18_446_744_073_709_551_615 c.args.bytes.now (omega arith) (AreDigits-IsNumeral 0 18_446_744_073_709_551_615 c.args.bytes.now (omega arith) c.requires)
