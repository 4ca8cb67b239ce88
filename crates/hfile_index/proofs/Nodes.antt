-- Entries that are read one by one.
use Rattle.std.proofs.Common.{◌≡◌, ℕ, zero, suc, ◌-◌, ◌<◌, List, [], ◌∷◌, ◌++◌, drop, Option, Some, None, refl, sym, ap, ◌∙◌, append_assoc, arith}
use Rattle.hfile_index.specs.declared.entry.IndexEntry.{IndexEntry}
use Rattle.hfile_index.specs.IndexKey.{◌>>=◌}
use Rattle.hfile_index.specs.Entries.{root_entry_at, root_entries_at, node_entry_at, node_entries_at}

-- entries that were read already stand before those that are left
abbrev pub with_front : List IndexEntry → Option (List IndexEntry × List ℕ) → Option (List IndexEntry × List ℕ)
with_front front read = read >>= λ y. Some (front ++ y.0, y.1)

with_front-push : (front : List IndexEntry) (e : IndexEntry) (read : Option (List IndexEntry × List ℕ))
    → with_front front (read >>= λ y. Some (e ∷ y.0, y.1)) ≡ with_front (front ++ e ∷ []) read
with_front-push front e None = refl
with_front-push front e (Some y) = ap (λ (es : List IndexEntry). Some (es, y.1)) (sym (append_assoc front (e ∷ []) y.0))

pub root-push : (left : ℕ) (rest : List ℕ) (front : List IndexEntry) (e : IndexEntry) (behind : List ℕ) (whole : Option (List IndexEntry × List ℕ))
    → 0 < left → Some (e, behind) ≡ root_entry_at rest → with_front front (root_entries_at left rest) ≡ whole
    → with_front (front ++ e ∷ []) (root_entries_at (left - 1) behind) ≡ whole
root-push zero rest front e behind whole some read all = absurd (omega arith)
root-push (suc left) rest front e behind whole some read all =
    let less : suc left - 1 ≡ left = omega arith in
    ap (λ (n : ℕ). with_front (front ++ e ∷ []) (root_entries_at n behind)) less ∙ sym (with_front-push front e (root_entries_at left behind))
    ∙ ap (λ r. with_front front (r >>= λ (x : IndexEntry × List ℕ). root_entries_at left x.1 >>= λ y. Some (x.0 ∷ y.0, y.1))) read ∙ all

pub root-none : (left : ℕ) (rest : List ℕ) (front : List IndexEntry) (whole : Option (List IndexEntry × List ℕ))
    → 0 < left → None ≡ root_entry_at rest → with_front front (root_entries_at left rest) ≡ whole → whole ≡ None
root-none zero rest front whole some read all = absurd (omega arith)
root-none (suc left) rest front whole some read all =
    sym all ∙ ap (λ r. with_front front (r >>= λ (x : IndexEntry × List ℕ). root_entries_at left x.1 >>= λ y. Some (x.0 ∷ y.0, y.1))) (sym read)

-- the same for the entries of another node
abbrev pub behind_front : List IndexEntry → Option (List IndexEntry) → Option (List IndexEntry)
behind_front front read = read >>= λ y. Some (front ++ y)

behind_front-push : (front : List IndexEntry) (e : IndexEntry) (read : Option (List IndexEntry))
    → behind_front front (read >>= λ y. Some (e ∷ y)) ≡ behind_front (front ++ e ∷ []) read
behind_front-push front e None = refl
behind_front-push front e (Some y) = ap (λ (es : List IndexEntry). Some es) (sym (append_assoc front (e ∷ []) y))

pub node-push : (left : ℕ) (table ends rest : List ℕ) (front : List IndexEntry) (e : IndexEntry) (behind : List ℕ) (whole : Option (List IndexEntry))
    → 0 < left → Some (e, behind) ≡ node_entry_at table rest → ends ≡ drop 4 table → behind_front front (node_entries_at left table rest) ≡ whole
    → behind_front (front ++ e ∷ []) (node_entries_at (left - 1) ends behind) ≡ whole
node-push zero table ends rest front e behind whole some read cut all = absurd (omega arith)
node-push (suc left) table ends rest front e behind whole some read cut all =
    let less : suc left - 1 ≡ left = omega arith in
    ap (λ (n : ℕ). behind_front (front ++ e ∷ []) (node_entries_at n ends behind)) less ∙ ap (λ (t : List ℕ). behind_front (front ++ e ∷ []) (node_entries_at left t behind)) cut
    ∙ sym (behind_front-push front e (node_entries_at left (drop 4 table) behind))
    ∙ ap (λ r. behind_front front (r >>= λ (x : IndexEntry × List ℕ). node_entries_at left (drop 4 table) x.1 >>= λ y. Some (x.0 ∷ y))) read ∙ all

pub node-none : (left : ℕ) (table rest : List ℕ) (front : List IndexEntry) (whole : Option (List IndexEntry))
    → 0 < left → None ≡ node_entry_at table rest → behind_front front (node_entries_at left table rest) ≡ whole → whole ≡ None
node-none zero table rest front whole some read all = absurd (omega arith)
node-none (suc left) table rest front whole some read all =
    sym all ∙ ap (λ r. behind_front front (r >>= λ (x : IndexEntry × List ℕ). node_entries_at left (drop 4 table) x.1 >>= λ y. Some (x.0 ∷ y))) (sym read)
