use Rattle.std.proofs.Common.{◌≡◌, None, take, option_copied}
use Rattle.hb_grammar.specs.Rows.{RowsFrom, last_of}
use Rattle.region_set.specs.FamilyLine.{IsFamilyBehind}
use Rattle.region_set.proofs.family_line.are_families.Given as goal

-- the families so far can stand in a set, and the last of them is known
abbrev pub invariant-loop-family : goal.invariant-loop-family
invariant-loop-family l = record {
  each : RowsFrom IsFamilyBehind None (take l.family-index l.families);
  known : option_copied l.last ≡ last_of None (take l.family-index l.families);
}
