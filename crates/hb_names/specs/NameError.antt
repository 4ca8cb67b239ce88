use Rattle.std.specs.Prelude.{ℕ, List}
use Rattle.hb_grammar.specs.Grammar.{IsFault}
use Rattle.hb_names.specs.declared.error.NameError.{NameError}
use Rattle.hb_names.specs.declared.error.NameError.TheVariants.{Bad, NoMemory}

-- a refusal to read the bytes as a string of the grammar: they are none, and the place is that of their fault;
-- or they are one, and there was no memory for it
abbrev pub IsRefusal : (List ℕ → Type 0) → List ℕ → NameError → Type 0
IsRefusal spells bytes (Bad bad) = IsFault spells bytes bad.0
IsRefusal spells bytes NoMemory = spells bytes
