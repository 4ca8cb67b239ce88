use Rattle.std.proofs.Common.{sym, ap, ◌∙◌, Err}
use Rattle.hfile_meta.specs.declared.fault.MetaError.TheVariants.{Version}
use Rattle.hfile_meta.proofs.Trailers.{major_of-IsTrailer, major_is, major_in_tail}
use Rattle.hfile_meta.proofs.trailer.trailer_in.Goals as goal

pub returns-then-major-ne2-clause-version : goal.returns-then-major-ne2-clause-version
returns-then-major-ne2-clause-version c = λ long other.
    ap (λ n. Err (Version n)) (major_is c.args.bytes.now c.split_at.result.1.now c.read_uint-major.result c.read_uint-major.ensures c.split_at.ensures.back)

pub returns-then-major-ne2-clause-trailer : goal.returns-then-major-ne2-clause-trailer
returns-then-major-ne2-clause-trailer c = λ message parts zeros minor long is of.
    let major = major_is c.args.bytes.now c.split_at.result.1.now c.read_uint-major.result c.read_uint-major.ensures c.split_at.ensures.back in
    absurd (c.if-major-ne2.true (major ∙ major_of-IsTrailer c.args.bytes.now message zeros minor long is))

pub returns-then-major-ne2-clause-none : goal.returns-then-major-ne2-clause-none
returns-then-major-ne2-clause-none c = λ long two none.
    let major = major_is c.args.bytes.now c.split_at.result.1.now c.read_uint-major.result c.read_uint-major.ensures c.split_at.ensures.back in
    absurd (c.if-major-ne2.true (major ∙ two))

pub returns-in-None-clause-version : goal.returns-in-None-clause-version
returns-in-None-clause-version c = λ long other.
    let major = major_is c.args.bytes.now c.split_at.result.1.now c.read_uint-major.result c.read_uint-major.ensures c.split_at.ensures.back in
    absurd (other (sym major ∙ c.if-major-ne2.false))

pub returns-in-Some-clause-version : goal.returns-in-Some-clause-version
returns-in-Some-clause-version c = λ long other.
    let major = major_is c.args.bytes.now c.split_at.result.1.now c.read_uint-major.result c.read_uint-major.ensures c.split_at.ensures.back in
    absurd (other (sym major ∙ c.if-major-ne2.false))

pub returns-in-Some-clause-none : goal.returns-in-Some-clause-none
returns-in-Some-clause-none c = λ long two none.
    let found = c.in-Some.ensures.found (major_in_tail c.args.bytes.now c.split_at-2.result.1.now long c.split_at-2.ensures.back ∙ two) in
    c.judged.ensures.none (λ parts of. none c.in-Some.message.now parts found.0 found.1 (record { is_minor = found.2; whole = sym c.split_at-2.ensures.back ∙ found.3 }) of)
