-- What the lines of a reply or of a cause show.
use Rattle.std.specs.Prelude.{◌<◌, ◌^◌, length, map}
use Rattle.std.specs.List.{AllByRecursion}
use Rattle.hb_cell.specs.declared.cell.Cell.{Cell}
use Rattle.hb_cell.specs.declared.kind.Kind.TheVariants as kinds
use Rattle.hb_names.specs.Encoded.{IsEncoded}
use Rattle.hb_names.specs.FamilyName.{IsFamilyName}
use Rattle.hb_names.specs.Place.{IsPlace}
use Rattle.hb_names.specs.SnapName.{IsSnapName}
use Rattle.plain_model.specs.declared.reply.Reply.{Reply}
use Rattle.plain_model.specs.declared.reply.Reply.TheVariants as reply
use Rattle.shell_print.specs.declared.cause.PrintCause.{PrintCause}
use Rattle.shell_print.specs.declared.cause.PrintCause.TheVariants as cause

-- a cell as its line shows it: of any kind and number the same
abbrev pub shown_cell : Cell → Cell
shown_cell cell = record { row = cell.row; family = cell.family; qualifier = cell.qualifier; ts = cell.ts; kind = kinds.Put; seq = 0; value = cell.value }

-- a reply as its lines show it
abbrev pub shown_reply : Reply → Reply
shown_reply (reply.Cells cells) = reply.Cells (map shown_cell cells)
shown_reply other = other

-- a cell of a table: the name of a family, and a timestamp of 64 bits
pub record IsTableCell (cell : Cell) : Type 0 where
  pub family : IsFamilyName cell.family
  pub ts : cell.ts < 2 ^ 64

-- a reply: its names and places are in their grammars, its numbers of 64 bits, and its cells those of a table
abbrev pub IsReply : Reply → Type 0
IsReply (reply.Cells cells) = (length cells < 2 ^ 64) × AllByRecursion IsTableCell cells
IsReply (reply.Snapshots names) = (length names < 2 ^ 64) × AllByRecursion IsSnapName names
IsReply (reply.Deleted places) = (length places < 2 ^ 64) × AllByRecursion IsPlace places
IsReply (reply.Removed count) = count < 2 ^ 64
IsReply (reply.DuplicateFamily family) = IsFamilyName family
IsReply (reply.UnknownFamily family) = IsFamilyName family
IsReply (reply.InUse actor) = actor.0 < 2 ^ 64
IsReply (reply.Taking name) = IsSnapName name
IsReply (reply.TooManyFiles region family) = IsEncoded region × IsFamilyName family
IsReply other = Unit {0}

-- a cause: its number is one of 64 bits
abbrev pub IsCause : PrintCause → Type 0
IsCause (cause.Closed by) = by < 2 ^ 64
IsCause other = Unit {0}
