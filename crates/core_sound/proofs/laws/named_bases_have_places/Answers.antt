use Rattle.core_sound.proofs.laws.named_bases_have_places.Goals as goal

pub returns : goal.returns
returns c = λ s b h n. h.places.at b n
