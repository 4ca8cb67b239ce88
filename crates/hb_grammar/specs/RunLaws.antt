use Rattle.std.proofs.Common.{◌≡◌, ℕ, ◌≤◌, [], true, refl, replicate, arith, suc, zero}
use Rattle.std.proofs.lemmas.List.{length-replicate}
use Rattle.hb_grammar.specs.Grammar.{IsLive, Refuses}
use Rattle.hb_grammar.specs.declared.class.Class.{Class}
use Rattle.hb_grammar.specs.declared.class.Class.TheVariants.{Digit, LowerHex, Name, NameStart, FamilyStart, Component}
use Rattle.hb_grammar.specs.Class.{has, AllIn}
use Rattle.hb_grammar.specs.Run.{IsRun, IsExactly}

-- each class has the digit 0
has-zero_digit : (class : Class) → has class 48 ≡ true
unfolding has
has-zero_digit Digit = refl
has-zero_digit LowerHex = refl
has-zero_digit Name = refl
has-zero_digit NameStart = refl
has-zero_digit Component = refl
has-zero_digit FamilyStart = refl

-- so many zeros are in each class
AllIn-replicate : (class : Class) (count : ℕ) → AllIn class (replicate count 48)
AllIn-replicate class zero = tt
AllIn-replicate class (suc count) = (has-zero_digit class, AllIn-replicate class count)

-- there is a run between each two bounds that are in order
pub IsLive-IsRun : (class : Class) (low high : ℕ) → low ≤ high → IsLive (IsRun class low high)
IsLive-IsRun class low high ordered = (
  replicate low 48,
  record {
    least = omega (arith, length-replicate {A = ℕ} low 48);
    most = omega (arith, length-replicate {A = ℕ} low 48);
    each = AllIn-replicate class low;
  },
)

-- there is a string of each length
pub IsLive-IsExactly : (class : Class) (count : ℕ) → IsLive (IsExactly class count)
IsLive-IsExactly class count =
    (replicate count 48, record { long = length-replicate {A = ℕ} count 48; each = AllIn-replicate class count })

-- where the string of no bytes is long enough, none is longer
pub Refuses-IsExactly : (class : Class) (count : ℕ) → IsExactly class count [] → (byte : ℕ) → Refuses (IsExactly class count) byte
Refuses-IsExactly class count none byte rest more = let done = none.long in let longer = more.long in absurd (omega arith)
