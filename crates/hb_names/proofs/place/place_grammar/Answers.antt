use Rattle.hb_grammar.proofs.SameLemmas.{Same_trans, Same-SeparatedFrom, Avoids-Same}
use Rattle.hb_names.specs.Component.{IsComponent}
use Rattle.hb_names.proofs.ComponentLemmas.{Avoids-IsComponent}
use Rattle.hb_names.proofs.place.place_grammar.Goals as goal

pub new-requires-2 : goal.new-requires-2
new-requires-2 c = Avoids-Same _ _ 47 c.new.ensures Avoids-IsComponent

pub returns : goal.returns
returns c = Same_trans _ _ _ c.new-2.ensures (Same-SeparatedFrom _ _ IsComponent IsComponent 47 15 c.new.ensures c.new.ensures)
