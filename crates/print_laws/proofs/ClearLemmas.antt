use Rattle.std.proofs.Common.{◌≡◌, ℕ, zero, suc, ◌<◌, ◌^◌, List, [], ◌∷◌, ◌++◌, Bool, true, false, not, ◌&&◌, eqb, codes, length, map, refl, arith}
use Rattle.std.specs.Fmt.{decimal}
use Rattle.std.specs.List.{AllByRecursion}
use Rattle.hb_cell.specs.declared.cell.Cell.{Cell}
use Rattle.hb_grammar.specs.declared.class.Class.TheVariants.{Component}
use Rattle.hb_grammar.specs.Class.{has}
use Rattle.hb_grammar.specs.Joined.{Joined}
use Rattle.hb_grammar.specs.Marked.{Marked}
use Rattle.hb_grammar.specs.Separated.{SeparatedFrom}
use Rattle.hb_grammar.proofs.AvoidsLemmas.{Free, Free-EitherOf, Free-Joined, Free-Marked, Lacks, Lacks-append, Lacks-AllIn}
use Rattle.hb_names.specs.Component.{IsComponent}
use Rattle.hb_names.specs.Encoded.{IsEncoded}
use Rattle.hb_names.specs.FamilyName.{IsFamilyName}
use Rattle.hb_names.specs.Place.{IsPlace}
use Rattle.hb_names.specs.SnapName.{IsSnapName}
use Rattle.hb_names.proofs.FreeLemmas.{Free-IsEncoded, Free-IsFamilyName, Free-IsTableName}
use Rattle.plain_model.specs.declared.reply.Reply.{Reply}
use Rattle.plain_model.specs.declared.reply.Reply.TheVariants as reply
use Rattle.shell_print.specs.declared.cause.PrintCause.{PrintCause}
use Rattle.shell_print.specs.declared.cause.PrintCause.TheVariants as cause
use Rattle.shell_print.specs.Shown.{shown}
use Rattle.print_laws.specs.Reply.{IsReply, IsCause, IsTableCell}
use Rattle.print_laws.proofs.CellLemmas.{cell_body, column_part, ts_part, value_part}
use Rattle.print_laws.proofs.LastLemmas.{front, last, cause_body, deleted_body}
use Rattle.print_laws.proofs.LinesLemmas.{AreLines, Lacks-decimal}
use Rattle.print_laws.proofs.ShownLemmas.{Lacks-shown}

-- whether no byte ends a line
abbrev is_clear : List ℕ → Bool
is_clear [] = true
is_clear (byte ∷ bytes) = not (eqb byte 10) && is_clear bytes

clear_first : (a b : Bool) → (not a && b) ≡ true → (a ≡ false) × (b ≡ true)
clear_first true b e = absurd (cc)
clear_first false b e = (refl, e)

Lacks-is_clear : (bytes : List ℕ) → is_clear bytes ≡ true → Lacks 10 bytes
Lacks-is_clear [] e = tt
Lacks-is_clear (byte ∷ bytes) e =
    let both : (eqb byte 10 ≡ false) × (is_clear bytes ≡ true) = clear_first (eqb byte 10) (is_clear bytes) e in
    (both.0, Lacks-is_clear bytes both.1)

-- a text and what stands behind it
behind_text : (text bytes : List ℕ) → is_clear text ≡ true → Lacks 10 bytes → Lacks 10 (text ++ bytes)
behind_text text bytes e clear = Lacks-append 10 text bytes (Lacks-is_clear text e) clear

Free-IsComponent : Free IsComponent 10
unfolding has
Free-IsComponent bytes component = Lacks-AllIn Component 10 refl bytes component.each

-- no name has an end of a line
family_clear : (family : List ℕ) → IsFamilyName family → Lacks 10 family
unfolding has
family_clear family is = Free-IsFamilyName 10 refl refl family is

name_clear : (name : List ℕ) → IsSnapName name → Lacks 10 name
unfolding has
name_clear name is = Free-IsTableName 10 refl refl name is

region_clear : (region : List ℕ) → IsEncoded region → Lacks 10 region
unfolding has
region_clear region is = Free-IsEncoded 10 refl region is

Free-SeparatedFrom : (left : ℕ) → Free (SeparatedFrom IsComponent IsComponent 47 left) 10
Free-SeparatedFrom zero = Free-IsComponent
Free-SeparatedFrom (suc left) =
    Free-EitherOf IsComponent (Joined (Marked IsComponent 47) (SeparatedFrom IsComponent IsComponent 47 left)) 10 Free-IsComponent
    (Free-Joined (Marked IsComponent 47) (SeparatedFrom IsComponent IsComponent 47 left) 10 (Free-Marked IsComponent 47 10 Free-IsComponent refl) (Free-SeparatedFrom left))

cell_clear : (cell : Cell) → IsTableCell cell → Lacks 10 (cell_body cell)
cell_clear cell is =
    let values : Lacks 10 (value_part cell) = behind_text (codes "value=") (shown cell.value) refl (Lacks-shown 10 (omega arith) cell.value) in
    let stamps : Lacks 10 (ts_part cell) =
    behind_text (codes "ts=") (decimal cell.ts ++ 32 ∷ value_part cell) refl
    (Lacks-append 10 (decimal cell.ts) (32 ∷ value_part cell) (Lacks-decimal 10 (omega arith) cell.ts is.ts) (refl, values)) in
    let columns : Lacks 10 (column_part cell) =
    Lacks-append 10 cell.family (58 ∷ (shown cell.qualifier ++ 32 ∷ ts_part cell)) (family_clear cell.family is.family)
    (refl, Lacks-append 10 (shown cell.qualifier) (32 ∷ ts_part cell) (Lacks-shown 10 (omega arith) cell.qualifier) (refl, stamps)) in
    Lacks-append 10 (shown cell.row) (32 ∷ column_part cell) (Lacks-shown 10 (omega arith) cell.row) (refl, columns)

cells_clear : (cells : List Cell) → AllByRecursion IsTableCell cells → AreLines (map cell_body cells)
cells_clear [] each = tt
cells_clear (cell ∷ cells) each = (cell_clear cell each.0, cells_clear cells each.1)

names_clear : (names : List (List ℕ)) → AllByRecursion IsSnapName names → AreLines names
names_clear [] each = tt
names_clear (name ∷ names) each = (name_clear name each.0, names_clear names each.1)

places_clear : (places : List (List ℕ)) → AllByRecursion IsPlace places → AreLines (map deleted_body places)
places_clear [] each = tt
places_clear (place ∷ places) each = (behind_text (codes "deleted ") place refl (Free-SeparatedFrom 15 place each.0), places_clear places each.1)

-- each text of a reply is one line
pub front_clear : (r : Reply) → IsReply r → AreLines (front r)
front_clear (reply.Cells cells) is = cells_clear cells is.1
front_clear (reply.Snapshots names) is = names_clear names is.1
front_clear (reply.Deleted places) is = places_clear places is.1
front_clear other is = tt

counted_clear : (n : ℕ) (more : List ℕ) → n < 2 ^ 64 → is_clear more ≡ true → Lacks 10 (decimal n ++ more)
counted_clear n more small e = Lacks-append 10 (decimal n) more (Lacks-decimal 10 (omega arith) n small) (Lacks-is_clear more e)

pub last_clear : (r : Reply) → IsReply r → Lacks 10 (last r)
last_clear (reply.Cells cells) is = counted_clear (length cells) (codes " cells") is.0 refl
last_clear (reply.Snapshots names) is = counted_clear (length names) (codes " snapshots") is.0 refl
last_clear (reply.Deleted places) is = counted_clear (length places) (codes " deleted") is.0 refl
last_clear (reply.Removed count) is = counted_clear count (codes " regions removed") is refl
last_clear (reply.DuplicateFamily family) is = behind_text (codes "refused DuplicateFamily ") family refl (family_clear family is)
last_clear (reply.UnknownFamily family) is = behind_text (codes "refused UnknownFamily ") family refl (family_clear family is)
last_clear (reply.InUse actor) is = behind_text (codes "refused InUse ") (decimal actor.0) refl (Lacks-decimal 10 (omega arith) actor.0 is)
last_clear (reply.Taking name) is = behind_text (codes "refused Taking ") name refl (name_clear name is)
last_clear (reply.BadFile file) is = behind_text (codes "refused BadFile ") (shown file) refl (Lacks-shown 10 (omega arith) file)
last_clear (reply.DuplicateKey file) is = behind_text (codes "refused DuplicateKey ") (shown file) refl (Lacks-shown 10 (omega arith) file)
last_clear (reply.TooManyFiles region family) is =
    behind_text (codes "refused TooManyFiles ") (region ++ 32 ∷ family) refl
    (Lacks-append 10 region (32 ∷ family) (region_clear region is.0) (refl, family_clear family is.1))
last_clear other is = Lacks-is_clear (last other) refl

pub cause_clear : (c : PrintCause) → IsCause c → Lacks 10 (cause_body c)
cause_clear (cause.Closed by) is = behind_text (codes "refused Closed ") (decimal by) refl (Lacks-decimal 10 (omega arith) by is)
cause_clear other is = Lacks-is_clear (cause_body other) refl
