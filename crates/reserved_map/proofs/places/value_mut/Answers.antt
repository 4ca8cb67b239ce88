use Rattle.std.proofs.Common.{◌∙◌, Some, refl, sym, ap}
use Rattle.std.proofs.lemmas.Bool.{true≢false}
use Rattle.std.proofs.lemmas.Map.Steps.{set_value_same}
use Rattle.reserved_map.proofs.Values.{found}
use Rattle.reserved_map.proofs.Writes.{writes}
use Rattle.reserved_map.proofs.places.value_mut.Goals as goal

pub returns-in-Some : goal.returns-in-Some
returns-in-Some g c =
    let o = g.met.K.Ord.total in (
      (
        refl,
        λ w is. writes o g.met.K.ExactKey.exact c.args.places.now (c.get_mut.follows.lender (Some w)) c.args.key.now c.in-Some.place.now w c.in-Some.ensures.value (c.get_mut.follows.holds (Some w)),
        (c.get_mut.follows.holds c.in-Some.place.now).0 ∙ set_value_same _ c.args.places.now.entries c.in-Some.place.now (sym c.in-Some.ensures.value),
      ),
      record { writes_back = tt; value = c.as_mut.ensures.value ∙ found o _ _ _ c.in-Some.ensures.value },
    )

pub returns-in-None : goal.returns-in-None
returns-in-None g c = ((refl, λ w is. absurd (true≢false (sym is)), ap (λ m. m.entries) c.get_mut.follows.holds-at-none), record { writes_back = tt; value = found g.met.K.Ord.total _ _ _ c.in-None.ensures.value })
