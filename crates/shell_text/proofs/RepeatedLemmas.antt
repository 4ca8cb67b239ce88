use Rattle.std.proofs.Common.{◌≡◌, ℕ, zero, suc, ◌-◌, ◌<◌, List, [], ◌∷◌, ◌++◌, refl, sym, subst, Option, Some, None, inl, inr, arith}
use Rattle.hb_grammar.specs.Grammar.{Follows, Refuses, IsLive, Same}
use Rattle.hb_grammar.specs.Joined.{Joined}
use Rattle.hb_grammar.specs.JoinedLaws.{Joined-nil_first, Joined-nil_second}
use Rattle.hb_grammar.specs.Either.{EitherOf, IfLeft}
use Rattle.hb_grammar.proofs.EitherLemmas.{Follows-EitherOf}
use Rattle.hb_grammar.proofs.JoinedLemmas.{Follows-Joined_first, Joined-nil}
use Rattle.shell_text.specs.Repeated.{ItemsThen, Parts, PartsLeft, RepeatedFrom}

-- an item that begins no tail is not the string of no bytes
pub Parts-not_nil : (item tail : List ℕ → Type 0) → Parts item tail → IsLive tail → item [] → ⊥
Parts-not_nil item tail parts live whole = parts [] live.0 whole live.1

-- before the first item
module _ {A B : Type 0} (items : A → List ℕ → Type 0) (tails : B → List ℕ → Type 0) (item : A) (tail : B) where
  Same-some_suc : (more : ℕ) → Same (RepeatedFrom items tails (Some item) (Some tail) item tail more) (ItemsThen (items item) (tails tail) (suc more))
  Same-some_suc more = record { forth = λ _ h. h; back = λ _ h. h }

  pub Same-some : (more : ℕ) → 0 < more → Same (RepeatedFrom items tails (Some item) (Some tail) item tail (more - 1)) (ItemsThen (items item) (tails tail) more)
  Same-some zero some = absurd (omega arith)
  Same-some (suc more) some =
      let e : suc more - 1 ≡ more = omega arith in
      subst (λ (n : ℕ). Same (RepeatedFrom items tails (Some item) (Some tail) item tail n) (ItemsThen (items item) (tails tail) (suc more))) (sym e) (Same-some_suc more)

  none_of : (bytes : List ℕ) → RepeatedFrom items tails None (Some tail) item tail 0 bytes → tails tail bytes
  none_of bytes either = elim either as (λ _. tails tail bytes) [ inl t ↦ t | inr pair ↦ absurd (pair.in_first) ]

  pub Same-none : (more : ℕ) → more ≡ 0 → Same (RepeatedFrom items tails None (Some tail) item tail 0) (ItemsThen (items item) (tails tail) more)
  Same-none zero e = record { forth = none_of; back = λ _ h. inl h }
  Same-none (suc more) e = absurd (omega arith)

-- what is left of items and tails that part
pub PartsLeft-some : {A B : Type 0} (items : A → List ℕ → Type 0) (tails : B → List ℕ → Type 0) (item : A) (tail : B) → Parts (items item) (tails tail) →
    PartsLeft items tails (Some item) (Some tail)
PartsLeft-some items tails item tail parts = parts

pub PartsLeft-next : {A B : Type 0} (items : A → List ℕ → Type 0) (tails : B → List ℕ → Type 0) (item item' : Option A) (tail tail' : Option B) (byte : ℕ) →
    PartsLeft items tails item tail → Follows (IfLeft items item) byte (IfLeft items item') → Follows (IfLeft tails tail) byte (IfLeft tails tail') →
    PartsLeft items tails item' tail'
PartsLeft-next items tails item item' tail tail' byte parts f g front back a b = parts (byte ∷ front) back (f.back front a) (g.back (front ++ back) b)

-- a byte leaves what it leaves of an item and of the tail
pub Follows-parts : (item item' tail tail' behind : List ℕ → Type 0) (byte : ℕ) → (item [] → ⊥) → Follows item byte item' → Follows tail byte tail' →
    Follows (EitherOf tail (Joined item behind)) byte (EitherOf tail' (Joined item' behind))
Follows-parts item item' tail tail' behind byte never f g =
    Follows-EitherOf tail (Joined item behind) tail' (Joined item' behind) byte g (Follows-Joined_first item item' behind byte never f)

-- where both are gone, the byte is refused
gone : {A B : Type 0} (items : A → List ℕ → Type 0) (tails : B → List ℕ → Type 0) (behind : List ℕ → Type 0) (rest : List ℕ) →
    EitherOf (IfLeft tails None) (Joined (IfLeft items None) behind) rest → ⊥
gone items tails behind rest either = elim either as (λ _. ⊥) [ inl t ↦ t | inr pair ↦ pair.in_first ]

pub Refuses-parts : {A B : Type 0} (items : A → List ℕ → Type 0) (tails : B → List ℕ → Type 0) (item : Option A) (tail : Option B) (behind : List ℕ → Type 0) (byte : ℕ) →
    (IfLeft items item [] → ⊥) → Follows (IfLeft items item) byte (IfLeft items None) → Follows (IfLeft tails tail) byte (IfLeft tails None) →
    Refuses (EitherOf (IfLeft tails tail) (Joined (IfLeft items item) behind)) byte
Refuses-parts items tails item tail behind byte never f g rest either =
    gone items tails behind rest ((Follows-parts (IfLeft items item) (IfLeft items None) (IfLeft tails tail) (IfLeft tails None) behind byte never f g).forth rest either)

-- a closed string of no bytes has all bytes behind it
whole_behind : (item behind : List ℕ → Type 0) (bytes front back : List ℕ) → ((byte : ℕ) → Refuses item byte) → bytes ≡ front ++ back → item front → behind back →
    behind bytes
whole_behind item behind bytes [] back done e a b = subst behind (sym e) b
whole_behind item behind bytes (x ∷ xs) back done e a b = absurd (done x xs a)

-- behind a whole item stands what follows it
pub Same-whole : {A B : Type 0} (items : A → List ℕ → Type 0) (tails : B → List ℕ → Type 0) → ((a : A) → items a [] → (byte : ℕ) → Refuses (items a) byte) →
    (item : Option A) (tail : Option B) (behind : List ℕ → Type 0) → PartsLeft items tails item tail → IfLeft items item [] →
    Same (EitherOf (IfLeft tails tail) (Joined (IfLeft items item) behind)) behind
Same-whole items tails closed None tail behind parts whole = absurd whole
Same-whole items tails closed (Some item) tail behind parts whole = record {
  forth = λ bytes either. elim either as (λ _. behind bytes) [
    | inl t ↦ absurd (parts [] bytes whole t)
    | inr pair ↦ whole_behind (items item) behind bytes pair.front pair.back (closed item whole) pair.whole pair.in_first pair.in_second
  ];
  back = λ bytes h. inr (record { front = []; back = bytes; whole = refl; in_first = whole; in_second = h });
}

-- a byte leaves of a grammar what it leaves of one with the same strings
pub Follows-Same : (a b c : List ℕ → Type 0) (byte : ℕ) → Same a b → Follows b byte c → Follows a byte c
Follows-Same a b c byte same follows =
    record { forth = λ rest h. follows.forth rest (same.forth (byte ∷ rest) h); back = λ rest h. same.back (byte ∷ rest) (follows.back rest h) }

pub Refuses-Same : (a b : List ℕ → Type 0) (byte : ℕ) → Same a b → Refuses b byte → Refuses a byte
Refuses-Same a b byte same refused rest h = refused rest (same.forth (byte ∷ rest) h)

-- items and a tail have the string of no bytes where the tail has it, or no item is needed
ItemsThen-nil : (item tail : List ℕ → Type 0) (more : ℕ) → tail [] → ItemsThen item tail more []
ItemsThen-nil item tail zero whole = whole
ItemsThen-nil item tail (suc more) whole = inl whole

ItemsThen-not_nil : (item tail : List ℕ → Type 0) (more : ℕ) → (item [] → ⊥) → (tail [] → ⊥) → ItemsThen item tail more [] → ⊥
ItemsThen-not_nil item tail zero never_item never_tail h = never_tail h
ItemsThen-not_nil item tail (suc more) never_item never_tail either =
    elim either as (λ _. ⊥) [ inl t ↦ never_tail t | inr pair ↦ never_item (Joined-nil_first item (ItemsThen item tail more) pair) ]

pub Repeated-nil_item : (tail item fresh_item fresh_tail : List ℕ → Type 0) (more : ℕ) → item [] → fresh_tail [] →
    EitherOf tail (Joined item (ItemsThen fresh_item fresh_tail more)) []
Repeated-nil_item tail item fresh_item fresh_tail more a b =
    inr (Joined-nil item (ItemsThen fresh_item fresh_tail more) a (ItemsThen-nil fresh_item fresh_tail more b))

pub Repeated-not_item : (tail item behind : List ℕ → Type 0) → (tail [] → ⊥) → (item [] → ⊥) → EitherOf tail (Joined item behind) [] → ⊥
Repeated-not_item tail item behind never_tail never_item either =
    elim either as (λ _. ⊥) [ inl t ↦ never_tail t | inr pair ↦ never_item (Joined-nil_first item behind pair) ]

pub Repeated-not_tail : (tail item fresh_item fresh_tail : List ℕ → Type 0) (more : ℕ) → (tail [] → ⊥) → (fresh_item [] → ⊥) → (fresh_tail [] → ⊥) →
    EitherOf tail (Joined item (ItemsThen fresh_item fresh_tail more)) [] → ⊥
Repeated-not_tail tail item fresh_item fresh_tail more never_tail never_item never_fresh either =
    elim either as (λ _. ⊥) [
      | inl t ↦ never_tail t
      | inr pair ↦ ItemsThen-not_nil fresh_item fresh_tail more never_item never_fresh (Joined-nil_second item (ItemsThen fresh_item fresh_tail more) pair)
    ]

pub Same-sym : (a b : List ℕ → Type 0) → Same a b → Same b a
Same-sym a b same = record { forth = same.back; back = same.forth }
