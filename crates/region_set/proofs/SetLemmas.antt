use Rattle.std.proofs.Common.{◌≡◌, ℕ, List, [], ◌++◌, refl, sym, ap, subst, ◌∙◌, arith, true, codes, Result, Ok, Err, Bool, None}
use Rattle.std.specs.Prelude.{IfOk, IfErr}
use Rattle.std.specs.List.{flat_map}
use Rattle.std.proofs.lemmas.List.{append_cancel_left}
use Rattle.hb_grammar.specs.Grammar.{IsLive, Same}
use Rattle.hb_grammar.specs.TextOf.{IsTextOf, IsTold, IsPair, pair_text}
use Rattle.hb_grammar.specs.Rows.{RowsFrom, IsBegun}
use Rattle.hb_grammar.proofs.TextOfLemmas.{behind-IsTold}
use Rattle.hb_grammar.proofs.RowsLemmas.{rows-injective}
use Rattle.hb_records.specs.declared.region_info.RegionInfo.{RegionInfo}
use Rattle.commit_line.specs.declared.error.ListError.{ListError}
use Rattle.commit_line.specs.declared.error.ListError.TheVariants.{BadList, NoMemory}
use Rattle.commit_line.specs.Line.{field, ended, IsNumber, number_line}
use Rattle.commit_line.specs.Numbered.{HasOtherNumber}
use Rattle.commit_line.proofs.NumberedLemmas.{number_only, number_told}
use Rattle.commit_line.specs.ListError.{IsFileRefusal, IsRefusalAt, IsFrontRefusal, IsValueAt}
use Rattle.commit_line.proofs.NumberToldLemmas.{IsTold-number_line}
use Rattle.commit_line.proofs.ReadLemmas.{Same-map}
use Rattle.commit_line.proofs.RefusalLemmas.{IsRefusalAt-Same, IsRefusalAt-IsPair_first, IsRefusalAt-IsPair_second, IsFileRefusal-IsRefusalAt}
use Rattle.region_set.specs.declared.set_state.SetState.{SetState}
use Rattle.region_set.specs.declared.set_state.SetState.TheVariants.{Enabled}
use Rattle.region_set.specs.declared.region_set.RegionSet.{RegionSet}
use Rattle.region_set.specs.SetState.{IsState, state_word}
use Rattle.region_set.specs.FamilyLine.{IsFamilyBehind, family_text, begins_family}
use Rattle.region_set.specs.RegionLine.{IsRegionBehind, region_text, begins_region}
use Rattle.region_set.specs.Body.{IsEnd, IsBody, body_text}
use Rattle.region_set.specs.RegionSet.{IsRegionSet, region_set_text, IsSetFile, GivesSet}
use Rattle.region_set.proofs.StateLemmas.{IsTold-state}
use Rattle.region_set.proofs.FamilyLineLemmas.{IsApart-family}
use Rattle.region_set.proofs.RegionLineLemmas.{IsApart-IsRegionBehind}
use Rattle.region_set.proofs.BodyLemmas.{AreRegions, AreRegions-not_family, IsEnd-not_region}

-- families and regions
abbrev Rows : Type 0
Rows = List (List ℕ × ℕ) × List (RegionInfo × Bool)

-- a set's number
abbrev IsSetNumber : ℕ → Type 0
IsSetNumber = IsNumber 1 9_223_372_036_854_775_807

-- the line of a number
abbrev set_line : ℕ → List ℕ
set_line = number_line (codes "set")

-- the line of a state
abbrev state_line : SetState → List ℕ
state_line state = ended (state_word state)

-- what stands behind the number
abbrev IsRest : List ℕ → SetState × Rows → Type 0
IsRest table = IsPair IsState (IsBody table)

-- as its lines
abbrev rest_text : SetState × Rows → List ℕ
rest_text = pair_text state_line body_text

-- the parts of a set
abbrev AreParts : List ℕ → ℕ × (SetState × Rows) → Type 0
AreParts table = IsPair IsSetNumber (λ _. IsRest table)

-- as its lines
abbrev parts_text : ℕ × (SetState × Rows) → List ℕ
parts_text = pair_text set_line rest_text

-- the set of this table and these parts
abbrev set_of : List ℕ → ℕ × (SetState × Rows) → RegionSet
set_of table parts =
    record { number = parts.0; state = parts.1.0; schema = record { table = table; families = parts.1.1.0 }; regions = parts.1.1.1 }

-- the parts of a set
abbrev parts_of : RegionSet → ℕ × (SetState × Rows)
parts_of set = (set.number, (set.state, (set.schema.families, set.regions)))

-- they are parts
AreParts-IsRegionSet : (table : List ℕ) (set : RegionSet) → IsRegionSet table set → AreParts table (parts_of set)
AreParts-IsRegionSet table set ok =
    (ok.number, (tt, record { families = ok.families; regions = ok.regions; no_families = ok.no_families; no_regions = ok.no_regions }))

-- the set of parts is one of the table
pub IsRegionSet-set_of : (table : List ℕ) (parts : ℕ × (SetState × Rows)) → AreParts table parts → IsRegionSet table (set_of table parts)
IsRegionSet-set_of table parts ok = record {
  number = ok.0;
  of_table = refl;
  families = ok.1.1.families;
  regions = ok.1.1.regions;
  no_families = ok.1.1.no_families;
  no_regions = ok.1.1.no_regions;
}

-- the lines of parts are those of sets
Same-IsSetFile : (table : List ℕ) → Same (IsTextOf (AreParts table) parts_text) (IsSetFile table)
Same-IsSetFile table =
    Same-map (AreParts table) parts_text (IsRegionSet table) region_set_text (set_of table) parts_of (IsRegionSet-set_of table) (AreParts-IsRegionSet table) (λ parts. refl) (λ set. refl)

-- a body is told by its lines
body_text-injective : (table : List ℕ) (state : SetState) (v w : Rows) → IsBody table state v → IsBody table state w → body_text v ≡ body_text w → v ≡ w
body_text-injective table state v w ok ok' e =
    let regions : Rows → List ℕ = λ x. flat_map region_text x.1 ++ ended (codes "end") in
    let behind : (x : Rows) → RowsFrom (IsRegionBehind table) None x.1 → IsBegun begins_family (regions x) → ⊥ =
    λ x each. AreRegions-not_family table (regions x) (record { rows = x.1; back = ended (codes "end"); each = each; in_tail = refl; whole = refl }) in
    let families : v.0 ≡ w.0 =
    rows-injective IsFamilyBehind family_text (AreRegions table) begins_family (IsApart-family (AreRegions table) (AreRegions-not_family table)) None v.0 w.0 ok.families ok'.families
    (regions v) (regions w) (behind v ok.regions) (behind w ok'.regions) e in
    let rest : regions v ≡ regions w = append_cancel_left (flat_map family_text v.0) (regions v) (regions w) (e ∙ ap (λ rows. flat_map family_text rows ++ regions w) (sym families)) in
    let same : v.1 ≡ w.1 =
    rows-injective (IsRegionBehind table) region_text IsEnd begins_region (IsApart-IsRegionBehind table IsEnd IsEnd-not_region) None v.1 w.1 ok.regions ok'.regions
    (ended (codes "end")) (ended (codes "end")) (IsEnd-not_region (ended (codes "end")) refl) (IsEnd-not_region (ended (codes "end")) refl) rest in
    λ i. (families i, same i)

-- so are a state and a body
rest_text-injective : (table : List ℕ) (v w : SetState × Rows) → IsRest table v → IsRest table w → rest_text v ≡ rest_text w → v ≡ w
rest_text-injective table v w ok ok' e =
    let state : v.0 ≡ w.0 = IsTold-state v.0 w.0 (body_text v.1) (body_text w.1) ok.0 ok'.0 e in
    let behind = behind-IsTold IsState state_line IsTold-state v.0 w.0 (body_text v.1) (body_text w.1) ok.0 ok'.0 e in
    let body : v.1 ≡ w.1 = body_text-injective table v.0 v.1 w.1 ok.1 (subst (λ s. IsBody table s w.1) (sym state) ok'.1) behind in
    λ i. (state i, body i)

-- a number is told by its line
IsTold-set_line : IsTold IsSetNumber set_line
IsTold-set_line = IsTold-number_line (field (codes "set")) 1 9_223_372_036_854_775_807 (omega arith)

-- two sets of a table with the same lines are equal
pub region_set_text-injective : (table : List ℕ) (v w : RegionSet) → IsRegionSet table v → IsRegionSet table w → region_set_text v ≡ region_set_text w → v ≡ w
region_set_text-injective table v w ok ok' e =
    let pv = parts_of v in
    let pw = parts_of w in
    let fits = AreParts-IsRegionSet table v ok in
    let fits' = AreParts-IsRegionSet table w ok' in
    let number : pv.0 ≡ pw.0 = IsTold-set_line pv.0 pw.0 (rest_text pv.1) (rest_text pw.1) fits.0 fits'.0 e in
    let behind = behind-IsTold IsSetNumber set_line IsTold-set_line pv.0 pw.0 (rest_text pv.1) (rest_text pw.1) fits.0 fits'.0 e in
    let rest : pv.1 ≡ pw.1 = rest_text-injective table pv.1 pw.1 fits.1 fits'.1 behind in
    let of_v = ok.of_table in
    let of_w = ok'.of_table in
    λ i. record { number = number i; state = (rest i).0; schema = record { table = (of_v ∙ sym of_w) i; families = (rest i).1.0 }; regions = (rest i).1.1 }

-- there is a body of each state
IsLive-body : (table : List ℕ) (state : SetState) → IsState state → IsLive (IsTextOf (IsBody table state) body_text)
IsLive-body table state ok = (body_text ([], []), (([], []), record { families = tt; regions = tt; no_families = λ _. refl; no_regions = λ _. refl }, refl))

-- there is what stands behind a number
IsLive-rest : (table : List ℕ) → IsLive (IsTextOf (IsRest table) rest_text)
IsLive-rest table =
    let bare : IsBody table Enabled ([], []) = record { families = tt; regions = tt; no_families = λ _. refl; no_regions = λ _. refl } in
    (rest_text (Enabled, ([], [])), ((Enabled, ([], [])), (tt, bare), refl))

-- a refusal of the parts is one of the set
IsRefusal-parts : (table bytes : List ℕ) (error : ListError) → IsRefusalAt (IsTextOf (AreParts table) parts_text) bytes 0 error → IsFileRefusal (IsSetFile table) bytes error
IsRefusal-parts table bytes error refused =
    IsFileRefusal-IsRefusalAt (IsSetFile table) bytes error (IsRefusalAt-Same (IsTextOf (AreParts table) parts_text) (IsSetFile table) (Same-IsSetFile table) bytes 0 error refused)

-- a refusal of the number's line is one of the set
pub IsRefusal-number : (table bytes : List ℕ) (error : ListError) → IsFrontRefusal (IsTextOf IsSetNumber set_line) bytes 0 error → IsFileRefusal (IsSetFile table) bytes error
IsRefusal-number table bytes error refused =
    IsRefusal-parts table bytes error (IsRefusalAt-IsPair_first IsSetNumber set_line (λ _. IsRest table) rest_text (λ _ _. IsLive-rest table) bytes 0 error refused)

-- behind it, so is a refusal of the rest
IsRefusal-rest : (table bytes : List ℕ) (state_at number : ℕ) → IsValueAt IsSetNumber set_line bytes 0 number state_at → (error : ListError) →
    IsRefusalAt (IsTextOf (IsRest table) rest_text) bytes state_at error → IsFileRefusal (IsSetFile table) bytes error
IsRefusal-rest table bytes state_at number first error refused =
    IsRefusal-parts table bytes error (IsRefusalAt-IsPair_second IsSetNumber set_line (λ _. IsRest table) rest_text IsTold-set_line bytes 0 state_at number first error refused)

-- that of the state's line
pub IsRefusal-state : (table bytes : List ℕ) (state_at number : ℕ) → IsValueAt IsSetNumber set_line bytes 0 number state_at → (error : ListError) →
    IsFrontRefusal (IsTextOf IsState state_line) bytes state_at error → IsFileRefusal (IsSetFile table) bytes error
IsRefusal-state table bytes state_at number first error refused =
    IsRefusal-rest table bytes state_at number first error (IsRefusalAt-IsPair_first IsState state_line (IsBody table) body_text (IsLive-body table) bytes state_at error refused)

-- and behind both, that of the body
pub IsRefusal-body : (table bytes : List ℕ) (state_at body_at number : ℕ) (state : SetState) → IsValueAt IsSetNumber set_line bytes 0 number state_at →
    IsValueAt IsState state_line bytes state_at state body_at → (error : ListError) → IsRefusalAt (IsTextOf (IsBody table state) body_text) bytes body_at error →
    IsFileRefusal (IsSetFile table) bytes error
IsRefusal-body table bytes state_at body_at number state first second error refused =
    IsRefusal-rest table bytes state_at number first error
    (IsRefusalAt-IsPair_second IsState state_line (IsBody table) body_text IsTold-state bytes state_at body_at state second error refused)

-- an answer that is right gives the set of the bytes
pub GivesSet-from : (table bytes : List ℕ) (result : Result RegionSet ListError) → IfOk result (λ set. IsRegionSet table set × (bytes ≡ region_set_text set)) →
    IfErr result (IsFileRefusal (IsSetFile table) bytes) → (set : RegionSet) → IsRegionSet table set → bytes ≡ region_set_text set → GivesSet result set
GivesSet-from table bytes (Ok found) read fault set ok e = region_set_text-injective table found set read.0 ok (sym read.1 ∙ e)
GivesSet-from table bytes (Err NoMemory) read fault set ok e = tt
GivesSet-from table bytes (Err (BadList place)) read fault set ok e = fault.not_spelled (set, ok, e)

-- what stands behind the number's line
abbrev behind_number : RegionSet → List ℕ
behind_number set = ended (state_word set.state) ++ (flat_map family_text set.schema.families ++ (flat_map region_text set.regions ++ ended (codes "end")))

-- the text of a set of this number begins with no other
pub number_only-set : (table bytes : List ℕ) (number : ℕ) (set : RegionSet) → IsRegionSet table set → bytes ≡ region_set_text set → set.number ≡ number →
    HasOtherNumber (codes "set ") number bytes → ⊥
number_only-set table bytes number set ok e same = number_only (codes "set ") number set.number bytes (behind_number set) ok.number e same

-- a set that is read has the number, where its bytes begin with no other
pub number_told-set : (table bytes : List ℕ) (number : ℕ) (result : Result RegionSet ListError) → (HasOtherNumber (codes "set ") number bytes → ⊥) →
    IfOk result (λ set. IsRegionSet table set × (bytes ≡ region_set_text set)) → IfOk result (λ set. set.number ≡ number)
number_told-set table bytes number (Ok set) none found = number_told (codes "set ") number set.number bytes (behind_number set) found.0.number found.1 none
number_told-set table bytes number (Err error) none found = tt
