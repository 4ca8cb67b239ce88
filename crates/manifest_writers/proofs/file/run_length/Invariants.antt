use Rattle.std.proofs.Common.{◌≡◌, ◌+◌, drop}
use Rattle.manifest_writers.specs.Written.{run_length}
use Rattle.manifest_writers.proofs.file.run_length.Given as goal

-- the files before the index are of the family
abbrev pub invariant-loop-file : goal.invariant-loop-file
invariant-loop-file l = record {
  here : l.run ≡ l.file-index;
  so_far : run_length l.family l.files ≡ l.file-index + run_length l.family (drop l.file-index l.files);
}
