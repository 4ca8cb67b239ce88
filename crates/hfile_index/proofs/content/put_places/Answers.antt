use Rattle.std.proofs.Common.{◌≤◌, ◌+◌, ◌++◌, length, drop, List, ℕ, ap, ◌∙◌, arith}
use Rattle.hb_wire.specs.Fixed.{be_bytes}
use Rattle.hfile_index.specs.Written.{places_from}
use Rattle.hfile_index.proofs.Building.{short_at, places-push, places-all, OnOk-to}
use Rattle.hfile_index.proofs.content.put_places.Goals as goal

pub overflow_add-place-in-loop-entry : goal.overflow_add-place-in-loop-entry
overflow_add-place-in-loop-entry c =
    let short : length c.entry-item.result.key ≤ 65673 = short_at c.args.entries.now c.loop-entry.entry-index c.entry-item.result c.loop-entry-test.true c.entry-item.is c.requires.short in
    omega (arith, c.loop-entry.invariant.low, c.requires.few, c.loop-entry-test.true)

pub loop-entry-preserved : goal.loop-entry-preserved
loop-entry-preserved c =
    let es = c.args.entries.now in
    let i = c.loop-entry.entry-index in
    let short : length c.entry-item.result.key ≤ 65673 = short_at es i c.entry-item.result c.loop-entry-test.true c.entry-item.is c.requires.short in
    record {
      told = ap (λ (t : List ℕ). t ++ places_from (c.loop-entry.place + (12 + c.len.result)) (drop (i + 1) es)) c.in_ok-put_u32.ensures.ok
          ∙ ap (λ (n : ℕ). (c.loop-entry.out ++ be_bytes 4 c.loop-entry.place) ++ places_from (c.loop-entry.place + (12 + n)) (drop (i + 1) es)) c.len.ensures
          ∙ places-push c.loop-entry.out c.args.out.now c.loop-entry.place es i c.entry-item.result c.loop-entry-test.true c.entry-item.is c.loop-entry.invariant.told;
      low = omega (arith, c.loop-entry.invariant.low);
    }

pub returns : goal.returns
returns c = OnOk-to c.put_u32-2.result (λ added. added ∙ places-all c.loop-entry.out c.args.out.now c.loop-entry.place c.args.entries.now c.loop-entry.entry-index (omega arith) c.loop-entry.invariant.told) c.put_u32-2.ensures.ok
