-- What `get_one` reads as a number.
use Rattle.std.proofs.Common.{◌≡◌, ℕ, Bool, true, false, Option, Some, None, refl, arith}
use Rattle.std.specs.Prelude.{Result, Ok, Err}
use Rattle.std.specs.Str.Parse.{ParsesUnsigned}
use Rattle.clap.specs.Words.{ReadsOne, Text}
use Rattle.clap.specs.ValueTests.{is_unsigned_in}
use Rattle.clap.specs.declared.builder.value_parser.ValueParser.TheVariants as parser
use Rattle.clap.proofs.ValueTestLemmas.{accepts-Accepts, Accepts-accepts}
use Rattle.shell_words.specs.Matches.{number_of}

pub number_of-long : {E : Type 0} (gives : Text → Result ℕ E → Type 0) (t : Text) (r : Option ℕ)
    → ((r' : Result ℕ E) → gives t r' → ParsesUnsigned 64 10 t r') → ReadsOne gives t r → r ≡ number_of 18446744073709551615 t
number_of-long gives t (Some n) says h =
    let p = says (Ok n) h in
    let yes : is_unsigned_in 0 18446744073709551615 t ≡ true =
    Accepts-accepts false (parser.Unsigned 0 18446744073709551615) t (p.0.0, p.0.1, omega arith, omega (arith, p.0.1)) in
    rw (yes, p.1) refl
number_of-long gives t None says h = go (is_unsigned_in 0 18446744073709551615 t) refl
  where
    go : (b : Bool) → is_unsigned_in 0 18446744073709551615 t ≡ b → None ≡ number_of 18446744073709551615 t
    go true e =
        let a = accepts-Accepts false (parser.Unsigned 0 18446744073709551615) t e in
        absurd (says (Err h.0) h.1 (a.0, a.1))
    go false e = rw e refl

pub number_of-count : {E : Type 0} (gives : Text → Result ℕ E → Type 0) (t : Text) (r : Option ℕ)
    → ((r' : Result ℕ E) → gives t r' → ParsesUnsigned 32 10 t r') → ReadsOne gives t r → r ≡ number_of 4294967295 t
number_of-count gives t (Some n) says h =
    let p = says (Ok n) h in
    let yes : is_unsigned_in 0 4294967295 t ≡ true =
    Accepts-accepts false (parser.Unsigned 0 4294967295) t (p.0.0, omega (arith, p.0.1), omega arith, omega (arith, p.0.1)) in
    rw (yes, p.1) refl
number_of-count gives t None says h = go (is_unsigned_in 0 4294967295 t) refl
  where
    go : (b : Bool) → is_unsigned_in 0 4294967295 t ≡ b → None ≡ number_of 4294967295 t
    go true e =
        let a = accepts-Accepts false (parser.Unsigned 0 4294967295) t e in
        absurd (says (Err h.0) h.1 (a.0, omega (arith, a.3)))
    go false e = rw e refl
