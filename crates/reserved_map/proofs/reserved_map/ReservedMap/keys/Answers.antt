use Rattle.std.proofs.Common.{◌≡◌, ◌∙◌, ◌++◌, sym, ap}
use Rattle.std.specs.Map.{keys_of}
use Rattle.reserved_map.proofs.Valued.{entries-values_at, valued}
use Rattle.reserved_map.proofs.reserved_map.ReservedMap.keys.Goals as goal

pub loop-key-init : goal.loop-key-init
loop-key-init g c =
    let all : c.into_iter-key-iterator.result ≡ c.args.self.now.places.entries = c.into_iter-key-iterator.ensures.into_iter_gives.0 in
    ap (λ ks. ks ++ keys_of (valued c.into_iter-key-iterator.result)) c.in_ok-keys.ensures.items
    ∙ ap (λ es. keys_of (valued es)) all
    ∙ ap keys_of (sym (entries-values_at g.met.K.Ord.total g.met.K.ExactKey.exact c.args.self.now.places.entries c.len.ensures.ordered))
