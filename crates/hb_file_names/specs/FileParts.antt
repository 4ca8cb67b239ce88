use Rattle.std.specs.Prelude.{ℕ, ◌≤◌, List, [], ◌∷◌, ◌++◌, codes, Option, Some, None, IfSome}
use Rattle.std.specs.Int.{w64, to_be_bytes}
use Rattle.std.specs.Fmt.{decimal}
use Rattle.hex.specs.Hex.{encode_lower}
use Rattle.hb_file_names.specs.declared.file_parts.FileParts.{FileParts}
use Rattle.hb_file_names.specs.declared.file_parts.TheConstants.{MAX_SEQ}

-- a number of 64 bits as 16 lower-case hexadecimal digits
abbrev pub sixteen_digits : ℕ → List ℕ
sixteen_digits number = encode_lower (to_be_bytes w64 number)

-- what stands behind the digits of a file name: a sequence number, or nothing; 95 is _
abbrev pub suffix_text : Option ℕ → List ℕ
suffix_text None = []
suffix_text (Some seq) = codes "_SeqId_" ++ (decimal seq ++ 95 ∷ [])

-- a file name as a text
abbrev pub file_text : FileParts → List ℕ
file_text parts = sixteen_digits parts.epoch ++ (sixteen_digits parts.counter ++ suffix_text parts.seq)

-- a sequence number, where there is one, is at most 2 ^ 63 - 1
abbrev pub HasSeqInLimit : FileParts → Type 0
HasSeqInLimit parts = IfSome parts.seq (λ seq. seq ≤ MAX_SEQ)
