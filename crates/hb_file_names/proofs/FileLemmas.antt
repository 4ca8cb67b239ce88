use Rattle.std.proofs.Common.{ℕ, ◌≤◌, [], ◌∷◌, ◌++◌, refl, arith, codes, Option, Some, None, inl, inr}
use Rattle.std.specs.Prelude.{IfSome}
use Rattle.std.specs.Fmt.{decimal}
use Rattle.hb_file_names.specs.FileName.{IsSuffix, IsFileName}
use Rattle.hb_file_names.specs.FileParts.{sixteen_digits, suffix_text, file_text, HasSeqInLimit}
use Rattle.hb_file_names.proofs.DigitsLemmas.{IsExactly-sixteen_digits}
use Rattle.hb_file_names.specs.declared.file_parts.FileParts.{FileParts}

-- the text of a sequence number within its limit, or of none, is a suffix
pub IsSuffix-suffix_text : (seq : Option ℕ) → IfSome seq (λ n. n ≤ 9_223_372_036_854_775_807) → IsSuffix (suffix_text seq)
IsSuffix-suffix_text None within = inl refl
IsSuffix-suffix_text (Some n) within = inr (record {
  front = codes "_SeqId_";
  back = decimal n ++ 95 ∷ [];
  whole = refl;
  in_first = refl;
  in_second = record { front = decimal n; whole = refl; in_inner = record { number = n; least = omega arith; most = within; text = refl } };
})

-- the text of parts is a file name
pub IsFileName-file_text : (parts : FileParts) → HasSeqInLimit parts → IsFileName (file_text parts)
IsFileName-file_text parts within = record {
  front = sixteen_digits parts.epoch;
  back = sixteen_digits parts.counter ++ suffix_text parts.seq;
  whole = refl;
  in_first = IsExactly-sixteen_digits parts.epoch;
  in_second = record {
    front = sixteen_digits parts.counter;
    back = suffix_text parts.seq;
    whole = refl;
    in_first = IsExactly-sixteen_digits parts.counter;
    in_second = IsSuffix-suffix_text parts.seq within;
  };
}
