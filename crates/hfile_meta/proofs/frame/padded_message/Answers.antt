use Rattle.std.proofs.Common.{◌++◌, Some, length, take, drop, replicate, ap, ◌∙◌, arith}
use Rattle.hfile_meta.proofs.Trailers.{padded_from, padded_spelled, message_is, zeros_are}
use Rattle.hfile_meta.proofs.frame.padded_message.Goals as goal

pub returns-then-are_zeros-clause-found : goal.returns-then-are_zeros-clause-found
returns-then-are_zeros-clause-found c =
    let bytes = c.args.bytes.now in
    let behind = c.split_at.ensures.back in (
      length c.split_at-2.result.1.now,
      padded_from bytes c.split_at-2.result.0.now c.split_at-2.result.1.now c.in-Ok.len c.in-Ok.used c.in-Ok.ensures.found.1
          (let e = ap length behind in omega arith)
          (c.split_at-2.ensures.front ∙ ap (take c.in-Ok.len) behind)
          (c.split_at-2.ensures.back ∙ ap (drop c.in-Ok.len) behind)
          (c.are_zeros.ensures.yes c.if-are_zeros.true),
    )

pub returns-then-are_zeros-clause-only : goal.returns-then-are_zeros-clause-only
returns-then-are_zeros-clause-only c = λ message zeros small e.
    let read = c.in-Ok.ensures.only (length message) (message ++ replicate zeros 0) small (padded_spelled c.args.bytes.now message zeros e) in
    ap (λ m. Some m) (message_is c.args.bytes.now c.split_at.result.1.now c.split_at-2.result.0.now message zeros c.in-Ok.len c.in-Ok.used e read c.split_at.ensures.back c.split_at-2.ensures.front)

pub returns-else-are_zeros-clause-only : goal.returns-else-are_zeros-clause-only
returns-else-are_zeros-clause-only c = λ message zeros small e.
    let read = c.in-Ok.ensures.only (length message) (message ++ replicate zeros 0) small (padded_spelled c.args.bytes.now message zeros e) in
    let are = zeros_are c.args.bytes.now c.split_at.result.1.now c.split_at-2.result.1.now message zeros c.in-Ok.len c.in-Ok.used e read c.split_at.ensures.back c.split_at-2.ensures.back in
    absurd (c.are_zeros.ensures.no c.if-are_zeros.false are)
