-- The lines of a reply.
use Rattle.std.specs.Prelude.{ℕ, List, ◌∷◌, ◌++◌, codes, length}
use Rattle.std.specs.Fmt.{decimal}
use Rattle.std.specs.List.{flat_map}
use Rattle.hb_cell.specs.declared.cell.Cell.{Cell}
use Rattle.plain_model.specs.declared.reply.Reply.{Reply}
use Rattle.plain_model.specs.declared.reply.Reply.TheVariants as reply
use Rattle.shell_print.specs.Piece.{line}
use Rattle.shell_print.specs.Shown.{shown}

-- a cell: its row, its column, its timestamp and its value
abbrev pub cell_line : Cell → List ℕ
cell_line cell = line (shown cell.row ++ codes " " ++ cell.family ++ codes ":" ++ shown cell.qualifier ++ codes " ts=" ++ decimal cell.ts ++ codes " value=" ++ shown cell.value)

-- a place whose file was deleted
abbrev pub deleted_line : List ℕ → List ℕ
deleted_line place = line (codes "deleted " ++ place)

-- how many there are; the word is always plural
abbrev pub count_line : ℕ → List ℕ → List ℕ
count_line count word = line (decimal count ++ codes " " ++ word)

-- a refusal
abbrev pub refused_line : List ℕ → List ℕ
refused_line word = line (codes "refused " ++ word)

-- a refusal with a field
abbrev pub refused_with : List ℕ → List ℕ → List ℕ
refused_with word field = line (codes "refused " ++ word ++ codes " " ++ field)

-- the lines of a reply
abbrev pub reply_text : Reply → List ℕ
reply_text reply.Fine = line (codes "ok")
reply_text (reply.Cells cells) = flat_map cell_line cells ++ count_line (length cells) (codes "cells")
reply_text (reply.Snapshots names) = flat_map line names ++ count_line (length names) (codes "snapshots")
reply_text (reply.Deleted places) = flat_map deleted_line places ++ count_line (length places) (codes "deleted")
reply_text (reply.Removed count) = count_line count (codes "regions removed")
reply_text reply.TableExists = refused_line (codes "TableExists")
reply_text reply.TableNotFound = refused_line (codes "TableNotFound")
reply_text reply.TableNotEnabled = refused_line (codes "TableNotEnabled")
reply_text reply.TableNotDisabled = refused_line (codes "TableNotDisabled")
reply_text reply.NameTaken = refused_line (codes "NameTaken")
reply_text (reply.DuplicateFamily family) = refused_with (codes "DuplicateFamily") family
reply_text (reply.UnknownFamily family) = refused_with (codes "UnknownFamily") family
reply_text reply.BadSplitKey = refused_line (codes "BadSplitKey")
reply_text reply.HasReferences = refused_line (codes "HasReferences")
reply_text reply.TooManyRegions = refused_line (codes "TooManyRegions")
reply_text reply.SnapshotExists = refused_line (codes "SnapshotExists")
reply_text reply.SnapshotNotFound = refused_line (codes "SnapshotNotFound")
reply_text (reply.InUse actor) = refused_with (codes "InUse") (decimal actor.0)
reply_text (reply.Taking name) = refused_with (codes "Taking") name
reply_text reply.EmptyGroup = refused_line (codes "EmptyGroup")
reply_text (reply.BadFile file) = refused_with (codes "BadFile") (shown file)
reply_text (reply.DuplicateKey file) = refused_with (codes "DuplicateKey") (shown file)
reply_text (reply.TooManyFiles region family) = refused_with (codes "TooManyFiles") (region ++ codes " " ++ family)
