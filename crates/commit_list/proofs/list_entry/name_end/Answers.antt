use Rattle.hb_grammar.proofs.SameLemmas.{Avoids-Same}
use Rattle.commit_list.specs.declared.list_entry.EntryKind.TheVariants.{Own, Link, Half}
use Rattle.commit_list.proofs.FreeLemmas.{Avoids-IsNameOf}
use Rattle.commit_line.proofs.WordLemmas.{IsWordEnd-Same}
use Rattle.commit_list.proofs.list_entry.name_end.Goals as goal

pub word_end-requires-clause-avoids : goal.word_end-requires-clause-avoids
word_end-requires-clause-avoids c = Avoids-Same _ _ 10 c.file_grammar.ensures (Avoids-IsNameOf Own)

pub word_end-requires-in-Link-clause-avoids : goal.word_end-requires-in-Link-clause-avoids
word_end-requires-in-Link-clause-avoids c = Avoids-Same _ _ 10 c.link_grammar.ensures (Avoids-IsNameOf Link)

pub word_end-requires-in-Half-clause-avoids : goal.word_end-requires-in-Half-clause-avoids
word_end-requires-in-Half-clause-avoids c = Avoids-Same _ _ 10 c.reference_grammar.ensures (Avoids-IsNameOf Half)

pub returns-in-Own : goal.returns-in-Own
returns-in-Own c = rw c.in-Own.is (IsWordEnd-Same _ _ c.file_grammar.ensures 10 _ _ _ c.word_end.ensures)

pub returns-in-Link : goal.returns-in-Link
returns-in-Link c = rw c.in-Link.is (IsWordEnd-Same _ _ c.link_grammar.ensures 10 _ _ _ c.word_end-in-Link.ensures)

pub returns-in-Half : goal.returns-in-Half
returns-in-Half c = rw c.in-Half.is (IsWordEnd-Same _ _ c.reference_grammar.ensures 10 _ _ _ c.word_end-in-Half.ensures)
