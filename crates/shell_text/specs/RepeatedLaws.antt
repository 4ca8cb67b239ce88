use Rattle.std.proofs.Common.{◌≡◌, ℕ, zero, suc, List, refl, Option, Some, None, inl, inr}
use Rattle.hb_grammar.specs.Grammar.{IsLive}
use Rattle.hb_grammar.specs.JoinedLaws.{IsLive-Joined}
use Rattle.shell_text.specs.Repeated.{ItemsThen, RepeatedFrom}

-- items and a tail have a string where the tail has one
IsLive-ItemsThen : (item tail : List ℕ → Type 0) (more : ℕ) → IsLive tail → IsLive (ItemsThen item tail more)
IsLive-ItemsThen item tail zero live = live
IsLive-ItemsThen item tail (suc more) live = (live.0, inl live.1)

-- so has what is left of them
pub IsLive-RepeatedFrom : {A B : Type 0} (items : A → List ℕ → Type 0) (tails : B → List ℕ → Type 0) →
    ((a : A) → IsLive (items a)) → ((b : B) → IsLive (tails b)) →
    (item : Option A) (tail : Option B) (fresh_item : A) (fresh_tail : B) (more : ℕ) → (item ≡ None → tail ≡ None → ⊥) →
    IsLive (RepeatedFrom items tails item tail fresh_item fresh_tail more)
IsLive-RepeatedFrom items tails lives_items lives_tails item (Some tail) fresh_item fresh_tail more some =
    let live = lives_tails tail in (live.0, inl live.1)
IsLive-RepeatedFrom items tails lives_items lives_tails (Some item) None fresh_item fresh_tail more some =
    let behind : List ℕ → Type 0 = ItemsThen (items fresh_item) (tails fresh_tail) more in
    let live = IsLive-Joined (items item) behind (lives_items item) (IsLive-ItemsThen (items fresh_item) (tails fresh_tail) more (lives_tails fresh_tail)) in
    (live.0, inr live.1)
IsLive-RepeatedFrom items tails lives_items lives_tails None None fresh_item fresh_tail more some = absurd (some refl refl)
