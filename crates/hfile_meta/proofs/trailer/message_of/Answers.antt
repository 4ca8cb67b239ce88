use Rattle.std.proofs.Common.{get_or, drop, take, sym, ap, subst, ◌∙◌, arith}
use Rattle.hfile_meta.specs.Trailer.{IsMinor}
use Rattle.hfile_meta.proofs.Trailers.{HasParts-trailer_bytes, found_message, message_small}
use Rattle.hfile_meta.proofs.trailer.message_of.Goals as goal

pub returns-then-not-is_magic-clause-only : goal.returns-then-not-is_magic-clause-only
returns-then-not-is_magic-clause-only c = λ message zeros minor is e.
    let parts = HasParts-trailer_bytes c.args.tail.now message zeros minor c.requires e in
    absurd (c.is_magic.ensures.no c.if-not-is_magic.true (c.split_at.ensures.front ∙ parts.front))

pub returns-then-not-is_minor-clause-only : goal.returns-then-not-is_minor-clause-only
returns-then-not-is_minor-clause-only c = λ message zeros minor is e.
    let parts = HasParts-trailer_bytes c.args.tail.now message zeros minor c.requires e in
    let first = c.split_at-2.ensures.back ∙ ap (drop 200) c.split_at.ensures.back ∙ parts.version in
    absurd (c.is_minor.ensures.no c.if-not-is_minor.true (subst (λ n. IsMinor n) (sym (ap (λ v. get_or v 0 0) first)) is))

pub returns-clause-found : goal.returns-clause-found
returns-clause-found c =
    found_message (λ m. m.now) c.args.tail.now c.split_at.result.0.now c.split_at-2.result.0.now c.split_at-2.result.1.now c.padded_message.result c.padded_message.ensures.found
    c.requires (λ i. omega (arith, c.type_inv.tail i)) c.split_at.ensures.front (c.is_magic.ensures.yes c.if-not-is_magic.false)
    (c.split_at-2.ensures.front ∙ ap (take 200) c.split_at.ensures.back) (c.split_at-2.ensures.back ∙ ap (drop 200) c.split_at.ensures.back) (c.is_minor.ensures.yes c.if-not-is_minor.false)

pub returns-clause-only : goal.returns-clause-only
returns-clause-only c = λ message zeros minor is e.
    let parts = HasParts-trailer_bytes c.args.tail.now message zeros minor c.requires e in
    c.padded_message.ensures.only message zeros (message_small c.args.tail.now message zeros minor c.requires e) (c.split_at-2.ensures.front ∙ ap (take 200) c.split_at.ensures.back ∙ parts.body)
