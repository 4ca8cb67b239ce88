use Rattle.std.specs.Prelude.{◌≡◌, ◌≤◌, ℕ, ◌+◌, Bool, List, ◌++◌, length, drop, Option, None, Result, Ok, Err}
use Rattle.std.specs.List.{flat_map}
use Rattle.hb_grammar.specs.TextOf.{IsTextOf}
use Rattle.hb_grammar.specs.Rows.{RowsFrom, last_of, IsBegun}
use Rattle.commit_line.specs.declared.error.ListError.{ListError}
use Rattle.commit_line.specs.ListError.{IsFrontRefusal}

-- some rows stand between two places
pub record AreRows {V : Type 0} (right : Option V → V → Type 0) (text : V → List ℕ) (bytes : List ℕ) (at : ℕ) (rows : List V) (end : ℕ) : Type 0 where
  pub each : RowsFrom right None rows
  pub within : end ≤ length bytes
  pub place : end ≡ at + length (flat_map text rows)
  pub whole : drop at bytes ≡ flat_map text rows ++ drop end bytes

-- behind some rows stands a byte that begins one, and none is read there
pub record IsRowRefused {V : Type 0} (right : Option V → V → Type 0) (text : V → List ℕ) (first : ℕ → Bool) (bytes : List ℕ) (at : ℕ) (error : ListError) : Type 0 where
  pub rows : List V
  pub mid : ℕ
  pub before : AreRows right text bytes at rows mid
  pub begun : IsBegun first (drop mid bytes)
  pub refused : IsFrontRefusal (IsTextOf (right (last_of None rows)) text) bytes mid error

-- the rows from a place on, with the place behind them, where none begins; or why one of them is refused
abbrev pub AreRowsRead : {V : Type 0} → (Option V → V → Type 0) → (V → List ℕ) → (ℕ → Bool) → List ℕ → ℕ → Result (List V × ℕ) ListError → Type 0
AreRowsRead right text first bytes at (Ok read) = AreRows right text bytes at read.0 read.1 × (IsBegun first (drop read.1 bytes) → ⊥)
AreRowsRead right text first bytes at (Err error) = IsRowRefused right text first bytes at error
