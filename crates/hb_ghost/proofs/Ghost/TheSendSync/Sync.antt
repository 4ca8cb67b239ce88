-- A `Ghost` owns nothing, so any thread may share it.
use denote.RattleType.{RattleType}
use denote.Param.Send.{IsSend, IsSync, part_keyless}
use Rattle.hb_ghost.specs.contracts.Ghost.{the_row}
use Rattle.hb_ghost.specs.contracts.Ghost.TheInside as Inside

inside_send : (Y : RattleType) → IsSend (Inside.the_row Y)
inside_send Y = record { owned = λ d vs. ((λ vss. (tt, ((λ uss. (tt, tt)), tt))), tt); leaving = λ k f vs. tt }

pub sync : (Y : RattleType) → IsSync (the_row Y)
sync Y = record { shared = λ d b o κ. (λ x. ((λ q. part_keyless (Inside.the_row Y) (inside_send Y) q x.0 b o), tt)) }
