-- Messages by the rules of their fields.
use Rattle.std.specs.Prelude.{◌≡◌, ℕ, List, Option, Some, None, Result, Ok, Err}
use Rattle.wire_fields.specs.Fields.{Part}
use Rattle.wire_fields.specs.Message.{IsMessage}
use Rattle.field_rules.specs.declared.unmade.Unmade.{Unmade}
use Rattle.field_rules.specs.declared.unmade.Unmade.TheVariants.{Missing}

infixl 10 ◌>>=◌
abbrev pub ◌>>=◌ : {A B : Type 0} → Result A Unmade → (A → Result B Unmade) → Result B Unmade
(Ok x) >>= f = f x
(Err e) >>= f = Err e

-- the value of a field that is required
abbrev pub need : {V : Type 0} → ℕ → Option V → Result V Unmade
need id None = Err (Missing id)
need id (Some v) = Ok v

-- the bytes are a message whose fields have these rules, and this value is made of what they spell
pub record IsRecord {S V : Type 0} (rules : List (ℕ × Part) → S → Type 0) (made : S → Result V Unmade) (bytes : List ℕ) (v : V) : Type 0 where
  pub parts : List (ℕ × Part)
  pub values : S
  pub message : IsMessage bytes parts
  pub spelled : rules parts values
  pub whole : made values ≡ Ok v
