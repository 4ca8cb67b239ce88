use Rattle.std.proofs.Common.{◌≡◌, sym, ◌∙◌}
use Rattle.wire_fields.specs.Fields.{part_of}
use Rattle.field_reader.proofs.Walks.{IsSoFar-then}
use Rattle.field_reader.proofs.Places.{IsLastPlace, IsLastPlace-more, later_within, last_told, no_stop}
use Rattle.field_reader.proofs.made.last_place.Goals as goal

pub returns-in_default-clause-told : goal.returns-in_default-clause-told
returns-in_default-clause-told c parts at message is =
    absurd (no_stop c.args.bytes.now c.args.number c.loop-at.at c.loop-at.last parts c.loop-at.invariant.0 c.loop-at-test.true c.in_default.ensures.only message)

pub loop-at-preserved : goal.loop-at-preserved
loop-at-preserved c =
    let part = part_of c.args.bytes.now c.in-Ok.field.value in
    let so_far = c.loop-at.invariant.0 in (
      IsSoFar-then (IsLastPlace c.args.number) c.args.bytes.now c.loop-at.at c.in-Ok.used c.loop-at.last c.later-last.result c.in-Ok.field.number part so_far c.in-Ok.ensures.within c.in-Ok.ensures.found.0 c.in-Ok.ensures.found.1 c.in-Ok.ensures.found.2
          (IsLastPlace-more c.args.number c.in-Ok.field.number c.loop-at.at part c.loop-at.last c.here_place.result c.later-last.result so_far.parts so_far.spelled so_far.here c.here_place.ensures c.later-last.ensures),
      rw (c.later-last.ensures, c.here_place.ensures) (later_within c.loop-at.last _ c.loop-at.at c.in-Ok.used c.loop-at.invariant.1),
    )

pub returns-clause-told : goal.returns-clause-told
returns-clause-told c parts at message is =
    c.unwrap_or.ensures ∙ last_told c.args.bytes.now c.args.number c.loop-at.at c.loop-at.last parts at c.loop-at.invariant.0 c.loop-at-test.false message is
