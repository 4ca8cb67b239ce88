use Rattle.std.proofs.Common.{◌≡◌, false, map, take}
use Rattle.shell_script.specs.Block.{is_used}
use Rattle.shell_script.specs.Session.{name_of}
use Rattle.shell_script.proofs.add.is_used.Given as goal

-- none of the sessions so far has the name
abbrev pub invariant-loop-session : goal.invariant-loop-session
invariant-loop-session l = is_used (map name_of (take l.session-index l.sessions)) l.name ≡ false
