use Rattle.std.proofs.Common.{◌≡◌, ◌++◌, take}
use Rattle.std.specs.List.{flat_map}
use Rattle.wire_fields.specs.Fields.{text, field_bytes}
use Rattle.manifest_writers.specs.Written.{file_bytes, file_of}
use Rattle.manifest_writers.proofs.file.put_files.Given as goal

-- the fields of the files before the index stand behind what stood there
abbrev pub invariant-loop-file : goal.invariant-loop-file
invariant-loop-file l = l.out ≡ l.initial.out ++ flat_map (λ e. field_bytes 2 (text (file_bytes (file_of e)))) (take l.file-index l.files)
