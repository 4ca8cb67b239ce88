-- What each word of a plain line does to the walk.
use Rattle.std.proofs.Common.{◌≡◌, ◌∙◌, ◌==◌, ℕ, false, List, [], ◌∷◌, Some, None, ap, refl, arith, codes}
use Rattle.std.specs.Str.Parse.{IsNumeral}
use Rattle.std.proofs.lemmas.Bool.{ne_eqb}
use Rattle.std.proofs.lemmas.Str.Parse.{digit_from_value}
use Rattle.clap.specs.Kinds.{Kinds, or_else}
use Rattle.clap.specs.Walk.{Row, Rule, Text, Walk, idle, option, settled, used, walked}
use Rattle.clap.specs.Simple.{Shape, built, filled, with_index}
use Rattle.clap.specs.Faults.{settle_fault, turn_fault, use_fault}
use Rattle.clap.specs.declared.parser.matches.ValueSource.TheVariants.{CommandLine}
use Rattle.clap.specs.declared.builder.value_parser.ValueParser.TheVariants as parser
use Rattle.clap.specs.declared.builder.value_parser.Reading.TheVariants.{AsWritten}
use Rattle.clap.proofs.OnLiterals.{clap_on_literals}
use Rattle.shell_words.specs.Command.{Knob, Names, app_over, knob_id, knob_rule, ttl, tick, rounds, word_rule}
use Rattle.shell_words.specs.Line.{flag_of}

abbrev pub shape : Names → Names → Shape
shape s v = (built (app_over s v)).top

-- what waits for its end: the command, or an option
pub data Slot : Type 0 where
  command : Slot
  knob : Knob → Slot

abbrev pub slot_id : Slot → Text
slot_id command = codes "COMMAND"
slot_id (knob k) = knob_id k

abbrev pub slot_rule : Names → Slot → Rule
slot_rule v command = with_index 2 (filled (word_rule (codes "COMMAND") (parser.Names v)))
slot_rule v (knob k) = filled (knob_rule k)

-- the row of a text
abbrev pub row_for : Text → Text → Row
row_for id t = record { id = id; values = t ∷ []; count = None; source = Some CommandLine; reading = AsWritten }

-- the text t stands as the value of p
abbrev pub done_at : ℕ → List Row → Slot → Text → Walk
done_at n rows p t = record {
  held = record { rows = rows; pending = Some (slot_id p, t ∷ []); skip = 0 };
  waiting = idle;
  position = n;
  is_trailing = false;
  stopped = None;
}

-- the option waits for its value
abbrev pub waits_at : ℕ → List Row → Knob → Walk
waits_at n rows k = record {
  held = record { rows = rows; pending = Some (knob_id k, []); skip = 0 };
  waiting = option (knob_id k);
  position = n;
  is_trailing = false;
  stopped = None;
}

-- the rows once p is used
abbrev pub rows_then : Names → List Row → Slot → Text → List Row
rows_then v rows p t = used (slot_rule v p) (t ∷ []) rows

abbrev pub slot_fault : Names → List Row → Slot → Text → Kinds
slot_fault v rows p t = use_fault false (slot_rule v p) (t ∷ []) rows

module _ (s v : Names) where
  pub flag_walked : (n : ℕ) (rows : List Row) (p : Slot) (t : Text) (k : Knob)
      → walked (shape s v).rules [] (done_at n rows p t) (flag_of k) ≡ waits_at n (rows_then v rows p t) k
  unfolding clap_on_literals
  flag_walked n rows command t ttl = refl
  flag_walked n rows command t tick = refl
  flag_walked n rows command t rounds = refl
  flag_walked n rows (knob ttl) t ttl = refl
  flag_walked n rows (knob ttl) t tick = refl
  flag_walked n rows (knob ttl) t rounds = refl
  flag_walked n rows (knob tick) t ttl = refl
  flag_walked n rows (knob tick) t tick = refl
  flag_walked n rows (knob tick) t rounds = refl
  flag_walked n rows (knob rounds) t ttl = refl
  flag_walked n rows (knob rounds) t tick = refl
  flag_walked n rows (knob rounds) t rounds = refl

  flag_fault : (n : ℕ) (rows : List Row) (p : Slot) (t : Text) (k : Knob)
      → turn_fault (shape s v) [] (done_at n rows p t) (flag_of k) ≡ or_else (slot_fault v rows p t) []
  unfolding clap_on_literals
  flag_fault n rows command t ttl = refl
  flag_fault n rows command t tick = refl
  flag_fault n rows command t rounds = refl
  flag_fault n rows (knob ttl) t ttl = refl
  flag_fault n rows (knob ttl) t tick = refl
  flag_fault n rows (knob ttl) t rounds = refl
  flag_fault n rows (knob tick) t ttl = refl
  flag_fault n rows (knob tick) t tick = refl
  flag_fault n rows (knob tick) t rounds = refl
  flag_fault n rows (knob rounds) t ttl = refl
  flag_fault n rows (knob rounds) t tick = refl
  flag_fault n rows (knob rounds) t rounds = refl

  pub flag_passes : (n : ℕ) (rows : List Row) (p : Slot) (t : Text) (k : Knob) → slot_fault v rows p t ≡ []
      → turn_fault (shape s v) [] (done_at n rows p t) (flag_of k) ≡ []
  flag_passes n rows p t k h = flag_fault n rows p t k ∙ ap (λ (x : Kinds). or_else x []) h

  value_walked_from : (n : ℕ) (rows : List Row) (k : Knob) (d : ℕ) (ds : Text) → (d == 45) ≡ false
      → walked (shape s v).rules [] (waits_at n rows k) (d ∷ ds) ≡ done_at n rows (knob k) (d ∷ ds)
  unfolding clap_on_literals
  value_walked_from n rows ttl d ds e = simp e
  value_walked_from n rows tick d ds e = simp e
  value_walked_from n rows rounds d ds e = simp e

  value_passes_from : (n : ℕ) (rows : List Row) (k : Knob) (d : ℕ) (ds : Text) → (d == 45) ≡ false
      → turn_fault (shape s v) [] (waits_at n rows k) (d ∷ ds) ≡ []
  unfolding clap_on_literals
  value_passes_from n rows ttl d ds e = simp e
  value_passes_from n rows tick d ds e = simp e
  value_passes_from n rows rounds d ds e = simp e

  no_hyphen : (d : ℕ) (ds : Text) → IsNumeral 10 (d ∷ ds) → (d == 45) ≡ false
  no_hyphen d ds h = let r = digit_from_value d h.1.0 in ne_eqb d 45 (λ e. absurd (omega (arith, r)))

  pub value_walked : (n : ℕ) (rows : List Row) (k : Knob) (t : Text) → IsNumeral 10 t
      → walked (shape s v).rules [] (waits_at n rows k) t ≡ done_at n rows (knob k) t
  value_walked n rows k [] h = absurd (omega (arith, h.0))
  value_walked n rows k (d ∷ ds) h = value_walked_from n rows k d ds (no_hyphen d ds h)

  pub value_passes : (n : ℕ) (rows : List Row) (k : Knob) (t : Text) → IsNumeral 10 t
      → turn_fault (shape s v) [] (waits_at n rows k) t ≡ []
  value_passes n rows k [] h = absurd (omega (arith, h.0))
  value_passes n rows k (d ∷ ds) h = value_passes_from n rows k d ds (no_hyphen d ds h)

  -- at the end of the words
  pub end_fault : (n : ℕ) (rows : List Row) (p : Slot) (t : Text)
      → settle_fault (shape s v).rules false (done_at n rows p t).held ≡ slot_fault v rows p t
  unfolding clap_on_literals
  end_fault n rows command t = refl
  end_fault n rows (knob ttl) t = refl
  end_fault n rows (knob tick) t = refl
  end_fault n rows (knob rounds) t = refl

  pub end_rows : (n : ℕ) (rows : List Row) (p : Slot) (t : Text)
      → (settled (shape s v).rules (done_at n rows p t).held).rows ≡ rows_then v rows p t
  unfolding clap_on_literals
  end_rows n rows command t = refl
  end_rows n rows (knob ttl) t = refl
  end_rows n rows (knob tick) t = refl
  end_rows n rows (knob rounds) t = refl

-- the first word
abbrev pub store_row : Row
store_row = row_for (codes "STORE") (codes "mem")
