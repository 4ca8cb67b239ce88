-- A plain line is taken, and the matches say its options.
use Rattle.std.proofs.Common.{◌≡◌, ◌∙◌, ◌≤◌, ◌<◌, ◌++◌, ◌&&◌, ◌||◌, ◌==◌, ◌^◌, ℕ, Bool, true, false, List, [], ◌∷◌, map, Option, Some, None, ap, ap₂, refl, sym, arith, codes}
use Rattle.std.specs.Prelude.{⊤, fold, find, cond, option_map, option_and_then, unwrap_or}
use Rattle.std.specs.Str.{bytes_eq}
use Rattle.std.specs.Str.Parse.{IsNumeral, digits_value, without_leading_plus}
use Rattle.std.proofs.lemmas.Bool.{ne_eqb}
use Rattle.std.proofs.lemmas.List.Folds.{list_any-append}
use Rattle.std.proofs.lemmas.List.{append_assoc, append-nil}
use Rattle.std.proofs.lemmas.Str.Parse.{digit_from_value}
use Rattle.clap.specs.Kinds.{Kinds, or_else, request_kinds, value_kinds}
use Rattle.clap.specs.Values.{Accepts, same_text}
use Rattle.clap.specs.ValueTests.{is_unsigned_in}
use Rattle.clap.specs.Walk.{action_of, idle, Row, Rule, Text, Walk, has_row, nothing_held, settled, walk_from, walked, walk, at_row, finished, with_default, more_values, row_text}
use Rattle.clap.specs.Simple.{App, built, matches_of}
use Rattle.clap.specs.Faults.{check_fault, default_fault, defaults_fault, fault_of, settle_fault, turn_fault, walk_fault}
use Rattle.clap.specs.declared.parser.matches.ValueSource.TheVariants.{CommandLine}
use Rattle.clap.specs.declared.builder.value_parser.ValueParser.{ValueParser}
use Rattle.clap.specs.declared.builder.value_parser.ValueParser.TheVariants as parser
use Rattle.clap.proofs.OnLiterals.{clap_on_literals}
use Rattle.clap.proofs.FaultLemmas.{leaf_fault}
use Rattle.clap.proofs.KindLemmas.{value_kinds-ok}
use Rattle.clap.proofs.ValueTestLemmas.{Accepts-accepts}
use Rattle.clap.proofs.WalkLemmas.{list_any-map}
use Rattle.shell_words.specs.declared.options.Options.{Options}
use Rattle.shell_words.specs.Command.{IsCommand, Knob, Names, app_over, command_names, high_of, knob_id, low_of, rounds, store_names, tick, ttl}
use Rattle.shell_words.specs.Line.{IsInRange, IsPlainLine, IsProper, Setting, flag_of, given_of, options_given, same_knob, setting_words, value_given}
use Rattle.shell_words.specs.Matches.{number_of, options_of}
use Rattle.shell_words.proofs.StepLemmas.{Slot, command, done_at, end_fault, end_rows, flag_passes, flag_walked, knob, row_for, rows_then, shape, slot_fault, slot_id, store_row, value_passes, value_walked, waits_at}

-- ---- rows

fresh_row : (id : Text) (change : Row → List Row) (missing : List Row) (rows : List Row) → has_row id rows ≡ false
    → at_row id change missing rows ≡ rows ++ missing
fresh_row id change missing [] h = refl
fresh_row id change missing (r ∷ rs) h = go (bytes_eq r.id id) refl (λ e. fresh_row id change missing rs e)
  where
    go : (b : Bool) → bytes_eq r.id id ≡ b → (has_row id rs ≡ false → at_row id change missing rs ≡ rs ++ missing)
        → at_row id change missing (r ∷ rs) ≡ r ∷ (rs ++ missing)
    go true e rec =
        let bad : true ≡ false = rw e at h in
        cc
    go false e rec =
        let rest : has_row id rs ≡ false = rw e at h in
        rw e (ap (λ (x : List Row). r ∷ x) (rec rest))

module _ (v : Names) where
  set_row : (rows : List Row) (id : Text) (new : List Row) (c1 c2 : Row → List Row) → has_row id rows ≡ false
      → at_row id c1 new (at_row id c2 [] rows) ≡ rows ++ new
  set_row rows id new c1 c2 h = ap (at_row id c1 new) (fresh_row id c2 [] rows h ∙ append-nil rows) ∙ fresh_row id c1 new rows h

  pub fresh_rows : (rows : List Row) (p : Slot) (t : Text) → has_row (slot_id p) rows ≡ false
      → rows_then v rows p t ≡ rows ++ row_for (slot_id p) t ∷ []
  fresh_rows rows command t h = set_row rows (slot_id command) (row_for (slot_id command) t ∷ []) (more_values CommandLine (t ∷ [])) (λ _. []) h
  fresh_rows rows (knob ttl) t h = set_row rows (codes "ttl") (row_for (codes "ttl") t ∷ []) (more_values CommandLine (t ∷ [])) (λ _. []) h
  fresh_rows rows (knob tick) t h = set_row rows (codes "tick") (row_for (codes "tick") t ∷ []) (more_values CommandLine (t ∷ [])) (λ _. []) h
  fresh_rows rows (knob rounds) t h = set_row rows (codes "rounds") (row_for (codes "rounds") t ∷ []) (more_values CommandLine (t ∷ [])) (λ _. []) h

  abbrev slot_parser : Slot → ValueParser
  slot_parser command = parser.Names v
  slot_parser (knob k) = parser.Unsigned (low_of k) (high_of k)

  fault_parts : (h : Bool) (k many : Kinds) → h ≡ false → k ≡ [] → or_else (cond (h && true) many []) (or_else k []) ≡ []
  fault_parts h k many eh ek = rw (eh, ek) refl

  slot_passes : (rows : List Row) (p : Slot) (t : Text) → has_row (slot_id p) rows ≡ false
      → value_kinds false (slot_parser p) t ≡ [] → slot_fault v rows p t ≡ []
  slot_passes rows command t h k = fault_parts (has_row (slot_id command) rows) (value_kinds false (slot_parser command) t) _ h k
  slot_passes rows (knob ttl) t h k = fault_parts (has_row (codes "ttl") rows) (value_kinds false (slot_parser (knob ttl)) t) _ h k
  slot_passes rows (knob tick) t h k = fault_parts (has_row (codes "tick") rows) (value_kinds false (slot_parser (knob tick)) t) _ h k
  slot_passes rows (knob rounds) t h k = fault_parts (has_row (codes "rounds") rows) (value_kinds false (slot_parser (knob rounds)) t) _ h k

-- ---- numbers

plain_digits : (t : Text) → IsNumeral 10 t → without_leading_plus t ≡ t
plain_digits [] h = absurd (omega (arith, h.0))
plain_digits (d ∷ ds) h =
    let r = digit_from_value d h.1.0 in
    let e : (d == 43) ≡ false = ne_eqb d 43 (λ e. absurd (omega (arith, r))) in
    rw e refl

high_fits : (k : Knob) → high_of k < 2 ^ 63
high_fits ttl = omega arith
high_fits tick = omega arith
high_fits rounds = omega arith

number_accepted : (g : Setting) → IsInRange g → Accepts false (parser.Unsigned (low_of g.0) (high_of g.0)) g.1
number_accepted g h = let most = high_fits g.0 in rw (plain_digits g.1 h.0) (h.0, omega (arith, h.2), h.1, h.2)

abbrev limit_of : Knob → ℕ
limit_of rounds = 4294967295
limit_of _ = 18446744073709551615

limit_fits : (k : Knob) → (high_of k ≤ limit_of k) × (limit_of k < 2 ^ 64)
limit_fits ttl = (omega arith, omega arith)
limit_fits tick = (omega arith, omega arith)
limit_fits rounds = (omega arith, omega arith)

number_read : (g : Setting) → IsInRange g → number_of (limit_of g.0) g.1 ≡ Some (digits_value 10 g.1)
number_read g h =
    let most = limit_fits g.0 in
    let same = plain_digits g.1 h.0 in
    let a : Accepts false (parser.Unsigned 0 (limit_of g.0)) g.1 = rw same (h.0, omega (arith, h.2, most.0, most.1), omega arith, omega (arith, h.2, most.0)) in
    let yes : is_unsigned_in 0 (limit_of g.0) g.1 ≡ true = Accepts-accepts false (parser.Unsigned 0 (limit_of g.0)) g.1 a in
    rw (yes, same) refl

-- ---- the options

abbrev setting_row : Setting → Row
setting_row g = row_for (knob_id g.0) g.1

abbrev Clear : List Setting → List Row → Type 0
Clear [] rows = ⊤
Clear (g ∷ gs) rows = (has_row (knob_id g.0) rows ≡ false) × Clear gs rows

other_id : (a b : Knob) → same_knob a b ≡ false → bytes_eq (knob_id b) (knob_id a) ≡ false
other_id ttl ttl h = cc
other_id ttl tick h = refl
other_id ttl rounds h = refl
other_id tick ttl h = refl
other_id tick tick h = cc
other_id tick rounds h = refl
other_id rounds ttl h = refl
other_id rounds tick h = refl
other_id rounds rounds h = cc

clear_more : (gs : List Setting) (rows : List Row) (g : Setting) → given_of g.0 gs ≡ None → Clear gs rows
    → Clear gs (rows ++ setting_row g ∷ [])
clear_more [] rows g none clear = tt
clear_more (x ∷ xs) rows g none clear =
    go (same_knob x.0 g.0) refl (λ e. clear_more xs rows g e clear.1)
  where
    go : (b : Bool) → same_knob x.0 g.0 ≡ b → (given_of g.0 xs ≡ None → Clear xs (rows ++ setting_row g ∷ []))
        → Clear (x ∷ xs) (rows ++ setting_row g ∷ [])
    go true e rec =
        let bad : Some x.1 ≡ None = rw e at none in
        cc
    go false e rec =
        let rest : given_of g.0 xs ≡ None = rw e at none in
        let here : has_row (knob_id x.0) (rows ++ setting_row g ∷ []) ≡ false =
        list_any-append (λ r. bytes_eq r.id (knob_id x.0)) rows (setting_row g ∷ []) ∙ rw (clear.0, other_id x.0 g.0 e) refl in
        (here, rec rest)

three : (a b k : Kinds) → a ≡ [] → b ≡ [] → k ≡ [] → or_else a (or_else b k) ≡ []
three a b k ea eb ek = rw (ea, eb) ek

abbrev All_empty : List Rule → Type 0
All_empty [] = ⊤
All_empty (a ∷ others) = (a.defaults ≡ []) × All_empty others

module _ (s v : Names) where
  abbrev step : Walk → Text → Walk
  step = walked (shape s v).rules []

  -- the walk from w over the words ends well, with these rows
  abbrev Runs : Walk → List Text → List Row → Type 0
  Runs w ws all = (walk_fault (shape s v) [] w ws ≡ []) × (rows : List Row) × (p : Slot) × (t : Text) × (n : ℕ)
      × (fold step w ws ≡ done_at n rows p t) × (slot_fault v rows p t ≡ []) × (rows_then v rows p t ≡ all)

  runs_none : (n : ℕ) (rows : List Row) (p : Slot) (t : Text) → has_row (slot_id p) rows ≡ false → value_kinds false (slot_parser v p) t ≡ []
      → Runs (done_at n rows p t) [] ((rows ++ row_for (slot_id p) t ∷ []) ++ [])
  unfolding walk_fault
  runs_none n rows p t h k = (refl, rows, p, t, n, refl, slot_passes v rows p t h k, fresh_rows v rows p t h ∙ sym (append-nil (rows ++ row_for (slot_id p) t ∷ [])))

  turns : (w w1 w2 : Walk) (a b : Text) (ws : List Text) → step w a ≡ w1 → step w1 b ≡ w2 → turn_fault (shape s v) [] w a ≡ [] → turn_fault (shape s v) [] w1 b ≡ []
      → walk_fault (shape s v) [] w2 ws ≡ [] → walk_fault (shape s v) [] w (a ∷ b ∷ ws) ≡ []
  unfolding walk_fault
  turns w w1 w2 a b ws e1 e2 f1 f2 rest = three _ _ _ f1
      (ap (λ (x : Walk). turn_fault (shape s v) [] x b) e1 ∙ f2)
      (ap (λ (x : Walk). walk_fault (shape s v) [] x ws) (ap (λ (x : Walk). step x b) e1 ∙ e2) ∙ rest)

  runs : (n : ℕ) (gs : List Setting) (rows : List Row) (p : Slot) (t : Text) → IsProper gs → has_row (slot_id p) rows ≡ false
      → value_kinds false (slot_parser v p) t ≡ [] → Clear gs (rows ++ row_for (slot_id p) t ∷ [])
      → Runs (done_at n rows p t) (setting_words gs) ((rows ++ row_for (slot_id p) t ∷ []) ++ map setting_row gs)
  runs n [] rows p t proper h k clear = runs_none n rows p t h k
  runs n (g ∷ gs) rows p t proper h k clear =
      let more = rows ++ row_for (slot_id p) t ∷ [] in
      let next = runs n gs more (knob g.0) g.1 proper.2 clear.0 (value_kinds-ok false (parser.Unsigned (low_of g.0) (high_of g.0)) g.1 (number_accepted g proper.0)) (clear_more gs more g proper.1 clear.1) in
      let w1 : step (done_at n rows p t) (flag_of g.0) ≡ waits_at n more g.0 = flag_walked s v n rows p t g.0 ∙ ap (λ (x : List Row). waits_at n x g.0) (fresh_rows v rows p t h) in
      let w2 : step (waits_at n more g.0) g.1 ≡ done_at n more (knob g.0) g.1 = value_walked s v n more g.0 g.1 proper.0.0 in
      let both : step (step (done_at n rows p t) (flag_of g.0)) g.1 ≡ done_at n more (knob g.0) g.1 = ap (λ (x : Walk). step x g.1) w1 ∙ w2 in (
        turns (done_at n rows p t) _ _ (flag_of g.0) g.1 (setting_words gs) w1 w2 (flag_passes s v n rows p t g.0 (slot_passes v rows p t h k)) (value_passes s v n more g.0 g.1 proper.0.0) next.0,
        next.1,
        next.2,
        next.3,
        next.4,
        ap (λ (x : Walk). fold step x (setting_words gs)) both ∙ next.5,
        next.6,
        next.7 ∙ append_assoc more (setting_row g ∷ []) (map setting_row gs),
      )

  -- ---- after the words

  keeps : (rows : List Row) (a : Rule) → a.defaults ≡ [] → with_default rows a ≡ rows
  keeps rows a e = go (has_row a.id rows) refl
    where
      go : (b : Bool) → has_row a.id rows ≡ b → with_default rows a ≡ rows
      go true h = rw h refl
      go false h = rw (h, e) refl

  no_fault : (rows : List Row) (a : Rule) → a.defaults ≡ [] → default_fault rows a ≡ []
  no_fault rows a e = rw e (go (has_row a.id rows))
    where
      go : (b : Bool) → cond (b || true) [] (or_else (request_kinds (action_of a)) []) ≡ []
      go true = refl
      go false = refl

  all_defaults : (rows : List Row) (others : List Rule) → All_empty others → defaults_fault rows others ≡ []
  unfolding defaults_fault
  all_defaults rows [] h = refl
  all_defaults rows (a ∷ others) h =
      rw (no_fault rows a h.0, keeps rows a h.0) (all_defaults rows others h.1)

  all_kept : (rows : List Row) (others : List Rule) → All_empty others → fold with_default rows others ≡ rows
  all_kept rows [] h = refl
  all_kept rows (a ∷ others) h = ap (λ (x : List Row). fold with_default x others) (keeps rows a h.0) ∙ all_kept rows others h.1

  rules_empty : All_empty (shape s v).rules
  rules_empty = (refl, (refl, (refl, (refl, (refl, tt)))))

  -- ---- the first two words

  abbrev stored : Walk
  stored = record {
    held = record { rows = []; pending = Some (codes "STORE", codes "mem" ∷ []); skip = 0 };
    waiting = idle;
    position = 2;
    is_trailing = false;
    stopped = None;
  }

  store_walked : step (walk_from nothing_held) (codes "mem") ≡ stored
  unfolding clap_on_literals
  store_walked = refl

  store_passes : turn_fault (shape s v) [] (walk_from nothing_held) (codes "mem") ≡ []
  unfolding clap_on_literals
  store_passes = refl

  command_walked : step stored (codes "script") ≡ done_at 3 (store_row ∷ []) command (codes "script")
  unfolding clap_on_literals
  command_walked = refl

  command_fault : turn_fault (shape s v) [] stored (codes "script") ≡ or_else (value_kinds false (parser.Names s) (codes "mem")) []
  unfolding clap_on_literals
  command_fault = refl

  abbrev Are : Names → List Text → Type 0
  Are n texts = map (λ x. x.now) n.now ≡ texts

  store_named : Are s store_names → value_kinds false (parser.Names s) (codes "mem") ≡ []
  store_named e = value_kinds-ok false (parser.Names s) (codes "mem") (list_any-map (λ n. same_text false n (codes "mem")) (λ x. x.now) s.now ∙ rw e refl)

  command_named : Are v command_names → value_kinds false (parser.Names v) (codes "script") ≡ []
  command_named e = value_kinds-ok false (parser.Names v) (codes "script") (list_any-map (λ n. same_text false n (codes "script")) (λ x. x.now) v.now ∙ rw e refl)

  -- ---- the whole line

  abbrev line : List Setting → List Text
  line gs = codes "mem" ∷ codes "script" ∷ setting_words gs

  abbrev all_rows : List Setting → List Row
  all_rows gs = store_row ∷ row_for (codes "COMMAND") (codes "script") ∷ map setting_row gs

  clear_first : (gs : List Setting) → Clear gs (store_row ∷ row_for (codes "COMMAND") (codes "script") ∷ [])
  clear_first [] = tt
  clear_first (g ∷ gs) = (go g.0, clear_first gs)
    where
      go : (k : Knob) → has_row (knob_id k) (store_row ∷ row_for (codes "COMMAND") (codes "script") ∷ []) ≡ false
      go ttl = refl
      go tick = refl
      go rounds = refl

  line_runs : (gs : List Setting) → Are s store_names → Are v command_names → IsProper gs
      → Runs (walk_from nothing_held) (line gs) (all_rows gs)
  line_runs gs es ev proper =
      let next = runs 3 gs (store_row ∷ []) command (codes "script") proper refl (command_named ev) (clear_first gs) in
      let both : step (step (walk_from nothing_held) (codes "mem")) (codes "script") ≡ done_at 3 (store_row ∷ []) command (codes "script") =
      ap (λ (x : Walk). step x (codes "script")) store_walked ∙ command_walked in
      let second : turn_fault (shape s v) [] stored (codes "script") ≡ [] = command_fault ∙ ap (λ (k : Kinds). or_else k []) (store_named es) in (
        turns (walk_from nothing_held) _ _ (codes "mem") (codes "script") (setting_words gs) store_walked command_walked store_passes second next.0,
        next.1,
        next.2,
        next.3,
        next.4,
        ap (λ (x : Walk). fold step x (setting_words gs)) both ∙ next.5,
        next.6,
        next.7,
      )

  checked : (rows : List Row) → check_fault (shape s v) (store_row ∷ row_for (codes "COMMAND") (codes "script") ∷ rows) false ≡ []
  checked rows = refl

  four : (a b c d : Kinds) → a ≡ [] → b ≡ [] → c ≡ [] → d ≡ [] → or_else a (or_else [] (or_else b (or_else c d))) ≡ []
  four a b c d ea eb ec ed = rw (ea, eb, ec) ed

  line_rows : (gs : List Setting) → Are s store_names → Are v command_names → IsProper gs
      → (settled (shape s v).rules (walk (shape s v).rules [] nothing_held (line gs)).held).rows ≡ all_rows gs
  line_rows gs es ev proper =
      let r = line_runs gs es ev proper in
      ap (λ (x : Walk). (settled (shape s v).rules x.held).rows) r.5 ∙ (end_rows s v r.4 r.1 r.2 r.3 ∙ r.7)

  matches-line : (gs : List Setting) → Are s store_names → Are v command_names → IsProper gs
      → finished (shape s v).rules (walk (shape s v).rules [] nothing_held (line gs)).held ≡ all_rows gs
  matches-line gs es ev proper =
      ap (λ (x : List Row). fold with_default x (shape s v).rules) (line_rows gs es ev proper) ∙ all_kept (all_rows gs) (shape s v).rules rules_empty

  fault_of-line : (gs : List Setting) → Are s store_names → Are v command_names → IsProper gs
      → fault_of (app_over s v) (line gs) ≡ []
  fault_of-line gs es ev proper =
      let r = line_runs gs es ev proper in
      leaf_fault (built (app_over s v)) nothing_held (line gs) refl ∙ four _ _ _ _ r.0
      (ap (λ (x : Walk). settle_fault (shape s v).rules false x.held) r.5 ∙ (end_fault s v r.4 r.1 r.2 r.3 ∙ r.6))
      (ap (λ (x : List Row). defaults_fault x (shape s v).rules) (line_rows gs es ev proper) ∙ all_defaults (all_rows gs) (shape s v).rules rules_empty)
      (ap (λ (x : List Row). check_fault (shape s v) x false) (matches-line gs es ev proper) ∙ checked (map setting_row gs))

-- ---- what the matches say

knob_eq : (a b : Knob) → bytes_eq (knob_id a) (knob_id b) ≡ same_knob a b
knob_eq ttl ttl = refl
knob_eq ttl tick = refl
knob_eq ttl rounds = refl
knob_eq tick ttl = refl
knob_eq tick tick = refl
knob_eq tick rounds = refl
knob_eq rounds ttl = refl
knob_eq rounds tick = refl
knob_eq rounds rounds = refl

same_knob_same : (a b : Knob) → same_knob a b ≡ true → a ≡ b
same_knob_same ttl ttl h = refl
same_knob_same ttl tick h = cc
same_knob_same ttl rounds h = cc
same_knob_same tick ttl h = cc
same_knob_same tick tick h = refl
same_knob_same tick rounds h = cc
same_knob_same rounds ttl h = cc
same_knob_same rounds tick h = cc
same_knob_same rounds rounds h = refl

abbrev number_at : Knob → List Row → Option ℕ
number_at k rows = option_and_then (number_of (limit_of k)) (option_and_then row_text (find (λ r. bytes_eq r.id (knob_id k)) rows))

read_setting : (k : Knob) (gs : List Setting) → IsProper gs → number_at k (map setting_row gs) ≡ value_given k gs
read_setting k [] proper = refl
read_setting k (g ∷ gs) proper = rw (knob_eq g.0 k) (go (same_knob g.0 k) refl (read_setting k gs proper.2))
  where
    go : (b : Bool) → same_knob g.0 k ≡ b → number_at k (map setting_row gs) ≡ value_given k gs
        → option_and_then (number_of (limit_of k)) (option_and_then row_text (cond b (Some (setting_row g)) (find (λ r. bytes_eq r.id (knob_id k)) (map setting_row gs))))
        ≡ option_map (digits_value 10) (cond b (Some g.1) (given_of k gs))
    go true same e = ap (λ (x : Knob). number_of (limit_of x) g.1) (sym (same_knob_same g.0 k same)) ∙ number_read g proper.0
    go false same e = e

abbrev options_from : Option ℕ → Option ℕ → Option ℕ → Options
options_from a b c = record { ttl = unwrap_or a 300000; tick = b; rounds = unwrap_or c 1 }

options_by : (a b c x y z : Option ℕ) → a ≡ x → b ≡ y → c ≡ z → options_from a b c ≡ options_from x y z
options_by a b c x y z ea eb ec = rw (ea, eb, ec) refl

module _ (s v : Names) where
  options_of-rows : (gs : List Setting) → IsProper gs → options_of (all_rows s v gs) ≡ options_given gs
  options_of-rows gs proper = options_by _ _ _ _ _ _ (read_setting ttl gs proper) (read_setting tick gs proper) (read_setting rounds gs proper)

pub takes-plain : (app : App) (ws : List Text) (options : Options) → IsCommand app → IsPlainLine ws options
    → (fault_of app ws ≡ []) × (options_of (matches_of app ws) ≡ options)
takes-plain app ws options h p =
    let s = h.0 in
    let v = h.1 in (
      ap₂ fault_of h.4 p.1 ∙ fault_of-line s v p.0 h.2 h.3 p.2,
      ap options_of (ap₂ matches_of h.4 p.1 ∙ matches-line s v p.0 h.2 h.3 p.2) ∙ options_of-rows s v p.0 p.2 ∙ sym p.3,
    )
