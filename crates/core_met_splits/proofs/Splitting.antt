-- The split of the table's region at a row below the cell's.
use Rattle.std.proofs.Common.{◌≡◌, ℕ, ◌+◌, ◌++◌, ◌==◌, ◌&&◌, Bool, true, false, cond, List, [], ◌∷◌, Option, Some, None, refl, sym, ap, ◌∙◌, subst, inl, inr, arith}
use Rattle.std.specs.Prelude.{codes, not, length, map, nat_lt, option_map, option_to_list, unwrap_or, is_some}
use Rattle.std.specs.List.{list_any}
use Rattle.std.specs.FinMap.{get, empty, insert}
use Rattle.hex.specs.Hex.{encode_with}
use Rattle.md5.specs.Md5.{md5, digest_bytes, hash_after, compress, rounds, block_words}
use Rattle.std.specs.Fmt.{digits}
use Rattle.hb_cell.specs.Order.{same_bytes}
use Rattle.hb_records.specs.declared.region_info.RegionInfo.{RegionInfo}
use Rattle.ns_tree.specs.declared.file.FileState.{FileState}
use Rattle.region_set.specs.declared.region_set.RegionSet.{RegionSet}
use Rattle.region_set.specs.declared.set_state.SetState.TheVariants as states
use Rattle.plain_model.specs.declared.event.Event.TheVariants as event
use Rattle.plain_model.specs.declared.hold.Hold.TheVariants as holds
use Rattle.plain_model.specs.declared.job.Job.{Job}
use Rattle.plain_model.specs.declared.job.Job.TheVariants as jobs
use Rattle.plain_model.specs.declared.parts.Live.{Live}
use Rattle.plain_model.specs.declared.parts.PlainTable.{PlainTable}
use Rattle.plain_model.specs.declared.region_key.RegionKey.{RegionKey}
use Rattle.plain_model.specs.declared.reply.Reply.{Reply}
use Rattle.plain_model.specs.declared.reply.Reply.TheVariants.{Fine, TableNotFound, TableNotEnabled, BadSplitKey, TooManyRegions}
use Rattle.plain_model.specs.declared.who.Actor.{Actor}
use Rattle.plain_model.specs.Found.{regions_in, is_enabled_in}
use Rattle.plain_model.specs.Keys.{key_of, same_key, set_at}
use Rattle.plain_model.specs.Names.{Names, change_found}
use Rattle.plain_model.specs.Replies.{first, when, no_files, is_start_of}
use Rattle.plain_model.specs.Rows.{region_of}
use Rattle.plain_model.specs.TableEvents.{with_region, with_split}
use Rattle.core_model.specs.declared.entry.Entry.{Entry}
use Rattle.core_model.specs.declared.entry.Entry.TheVariants.{Half}
use Rattle.core_model.specs.declared.plan.Plan.{Plan}
use Rattle.core_model.specs.declared.recipe.Recipe.TheVariants as recipes
use Rattle.core_model.specs.declared.region_files.RegionFiles.{RegionFiles}
use Rattle.core_model.specs.declared.targets.Why.TheVariants as why
use Rattle.core_model.specs.declared.step.Started.TheVariants as started
use Rattle.core_model.specs.declared.step.Step.{Step}
use Rattle.core_model.specs.declared.step.Step.TheVariants as step
use Rattle.cell_sight.specs.Member.{Member}
use Rattle.core_model.specs.Actors.{IsRegion, HasHold}
use Rattle.core_model.specs.Allows.{Allows}
use Rattle.core_model.specs.Entries.{IsKey, is_half, no_list, region_list}
use Rattle.core_model.specs.FileChanges.{set_number}
use Rattle.core_model.specs.FileGuards.{next_name}
use Rattle.core_model.specs.Keys.{home, same_base}
use Rattle.core_model.specs.Plans.{daughters, halves_in, planned_for, split_entries}
use Rattle.core_model.specs.Replay.{after}
use Rattle.core_model.specs.StartGuards.{AreFiles, IsTaken, StandsBelow, by_new, by_drawn, by_set, by_directory, live_file, archived_file, list_file, back_file}
use Rattle.core_model.specs.State.{Parts}
use Rattle.region_set.specs.RegionSet.{IsRegionSet}
use Rattle.core_sound.proofs.Tests.{cond_cases, both_left, same_base-true}
use Rattle.core_sound.proofs.TablesKept.{put_this}
use Rattle.core_met.proofs.Begin.{info, key, key_is, schema, set, tab, who, not_two}
use Rattle.core_met.proofs.Flush.{base, tables, table_is, list}
use Rattle.core_met.proofs.Lawful.{base_lawful}
use Rattle.core_met.proofs.Shot.{u0}
use Rattle.core_met.proofs.Starts.{no_cons}
use Rattle.core_met_splits.specs.Halved.{row}

-- ---- the two regions

abbrev pub low : RegionInfo
low = record { id = 4294967298; table = codes "t"; start = []; end = Some row }

abbrev pub high : RegionInfo
high = record { id = 4294967299; table = codes "t"; start = row; end = None }

abbrev pub low_key : RegionKey
low_key = record { table = codes "t"; region = codes "722256a332d04590c6a3890a2791623c" }

abbrev pub high_key : RegionKey
high_key = record { table = codes "t"; region = codes "9fb01172b352a176f5c55603d460ab12" }

pub low_is : key_of low ≡ low_key
unfolding digits encode_with md5 digest_bytes hash_after compress rounds block_words
low_is = refl

pub high_is : key_of high ≡ high_key
unfolding digits encode_with md5 digest_bytes hash_after compress rounds block_words
high_is = refl

abbrev pub low_half : Entry
low_half = Half base false key.region row false

abbrev pub high_half : Entry
high_half = Half base false key.region row true

abbrev pub low_list : RegionFiles
low_list = record { number = 1; seq = 1; entries = low_half ∷ [] }

abbrev pub high_list : RegionFiles
high_list = record { number = 1; seq = 1; entries = high_half ∷ [] }

abbrev pub parts : List (RegionInfo × Bool)
parts = (info, true) ∷ (low, false) ∷ (high, false) ∷ []

abbrev pub tab2 : PlainTable
tab2 = record { enabled = true; schema = schema; regions = parts }

abbrev pub set2 : RegionSet
set2 = record { number = 2; state = states.Enabled; schema = schema; regions = parts }

abbrev name4 : List ℕ
name4 = codes "00000000000000010000000000000004"

abbrev name5 : List ℕ
name5 = codes "00000000000000010000000000000005"

abbrev name6 : List ℕ
name6 = codes "00000000000000010000000000000006"

fourth_name : next_name 1 3 None ≡ name4
unfolding encode_with
fourth_name = refl

fifth_name : next_name 1 4 None ≡ name5
unfolding encode_with
fifth_name = refl

sixth_name : next_name 1 5 None ≡ name6
unfolding encode_with
sixth_name = refl

-- ---- the steps

abbrev splitter : Actor
splitter = record { 0 = 2 }

abbrev job : Job
job = jobs.Split (codes "t") row

abbrev plan : Plan
plan = record { regions = low ∷ high ∷ []; entries = (low_key.region, low_half) ∷ (high_key.region, high_half) ∷ [] }

abbrev pub split : Step
split = step.Start who job (started.Live splitter) (record { regions = low ∷ high ∷ []; moment = None; holds = holds.Region key ∷ []; plan = plan; staged = [] })

abbrev pub low_back : Step
low_back = step.BackRef splitter base low_key

abbrev pub halve_low : Step
halve_low = step.Half splitter low_half low_key []

abbrev pub high_back : Step
high_back = step.BackRef splitter base high_key

abbrev pub halve_high : Step
halve_high = step.Half splitter high_half high_key []

abbrev pub write_low : Step
write_low = step.WriteTmp splitter (recipes.List low_key (region_list low_list)) name4 [] []

abbrev pub build_low : Step
build_low = step.CommitList splitter low_key 0 name4 why.Build low_list [] []

abbrev pub write_high : Step
write_high = step.WriteTmp splitter (recipes.List high_key (region_list high_list)) name5 [] []

abbrev pub build_high : Step
build_high = step.CommitList splitter high_key 0 name5 why.Build high_list [] []

abbrev pub write_set : Step
write_set = step.WriteTmp splitter (recipes.Set (codes "t") set2) name6 [] []

abbrev pub commit : Step
commit = step.CommitRegions splitter (codes "t") 1 name6 set2 (event.Split (codes "t") key.region low high)

abbrev pub halved : Step
halved = step.End splitter None

abbrev pub h : ℕ → Parts
h ttl = after split (u0 ttl)

-- the state with the split begun, as its lists are
abbrev pub h1 : ℕ → Parts
h1 ttl = record (h ttl) { lists = set_at low_key no_list (set_at high_key no_list (u0 ttl).lists) }

pub split_begun : (ttl : ℕ) → h ttl ≡ h1 ttl
split_begun ttl = λ i. record (h ttl) { lists = set_at (low_is i) no_list (set_at (high_is i) no_list (u0 ttl).lists) }

abbrev pub h2 : ℕ → Parts
h2 ttl = after low_back (h1 ttl)

abbrev pub h3 : ℕ → Parts
h3 ttl = after halve_low (h2 ttl)

abbrev pub h4 : ℕ → Parts
h4 ttl = after high_back (h3 ttl)

abbrev pub h5 : ℕ → Parts
h5 ttl = after halve_high (h4 ttl)

abbrev pub h6 : ℕ → Parts
h6 ttl = after write_low (h5 ttl)

abbrev pub h7 : ℕ → Parts
h7 ttl = after build_low (h6 ttl)

abbrev pub h8 : ℕ → Parts
h8 ttl = after write_high (h7 ttl)

abbrev pub h9 : ℕ → Parts
h9 ttl = after build_high (h8 ttl)

abbrev pub h10 : ℕ → Parts
h10 ttl = after write_set (h9 ttl)

abbrev pub h11 : ℕ → Parts
h11 ttl = after commit (h10 ttl)

-- the state with the region split, as its tables are
abbrev tables2 : Names PlainTable
tables2 = insert tables (codes "t") tab2

abbrev pub k0 : ℕ → Parts
k0 ttl = record (h11 ttl) { plain = record (h11 ttl).plain { tables = tables2 } }

abbrev pub k1 : ℕ → Parts
k1 ttl = after halved (k0 ttl)

-- the table with its region split, from what is found of it
abbrev divided : List (RegionInfo × Bool) → PlainTable → PlainTable
divided regions x = record x { regions = with_region low (with_region high regions) }

abbrev turned : Option PlainTable → Names PlainTable
turned o = change_found (codes "t") (λ (x : PlainTable). divided (with_split (key.region ∷ []) x.regions) x) tables o

marked : with_split (key.region ∷ []) tab.regions ≡ (info, true) ∷ []
marked = ap (λ (k : RegionKey). (info, list_any (λ (name : List ℕ). same_bytes name k.region) (key.region ∷ [])) ∷ []) key_is

turned_is : turned (get tables (codes "t")) ≡ tables2
turned_is = ap turned table_is ∙ ap (λ regions. insert tables (codes "t") (divided regions tab)) marked

pub split_made : (ttl : ℕ) → h11 ttl ≡ k0 ttl
split_made ttl = λ i. record (h11 ttl) { plain = record (h11 ttl).plain { tables = turned_is i } }

-- ---- what is new

abbrev empty_file : FileState
empty_file = record { bytes = []; moment = 0 }

row_region : region_of (regions_in (get tables (codes "t"))) row ≡ Some info
row_region = ap (λ (o : Option PlainTable). region_of (regions_in o) row) table_is

-- the plan of a split of the region that holds the row
abbrev planned : (RegionKey → RegionFiles) → Option RegionInfo → Plan
planned lists o = let rs = daughters (codes "t") 4294967298 row o in record { regions = rs; entries = split_entries rs row o lists }

plan_is : (lists : RegionKey → RegionFiles) → lists key ≡ list → planned lists (region_of (regions_in (get tables (codes "t"))) row) ≡ plan
plan_is lists e = ap (planned lists) row_region
    ∙ ap (λ (k : RegionKey). record { regions = low ∷ high ∷ []; entries = halves_in (low ∷ high ∷ []) k.region row (lists k).entries }) key_is
    ∙ ap (λ (l : RegionFiles). record { regions = low ∷ high ∷ []; entries = halves_in (low ∷ high ∷ []) key.region row l.entries }) e
    ∙ ap (λ (k : RegionKey). record { regions = low ∷ high ∷ []; entries = (k.region, low_half) ∷ ((key_of high).region, high_half) ∷ [] }) low_is
    ∙ ap (λ (k : RegionKey). record { regions = low ∷ high ∷ []; entries = (low_key.region, low_half) ∷ (k.region, high_half) ∷ [] }) high_is

-- the table has one region
some_is : {A : Type 0} {x y : A} → Some x ≡ Some y → x ≡ y
some_is e = (cc)

one_of : (table : PlainTable) → get tables (codes "t") ≡ Some table → (x : RegionInfo) (b : Bool) → Member (x, b) table.regions → info ≡ x
one_of table e x b m = elim (subst (λ (t : PlainTable). Member (x, b) t.regions) (some_is (sym e ∙ table_is)) m) [ inl p ↦ ap (λ (q : RegionInfo × Bool). q.0) p | inr z ↦ absurd z ]

only_region : (region : List ℕ) → IsRegion tables (record { table = codes "t"; region = region }) → key_of info ≡ record { table = codes "t"; region = region }
only_region region (inl i) = ap key_of (one_of i.table i.stands i.info false i.listed) ∙ i.key
only_region region (inr i) = ap key_of (one_of i.table i.stands i.info true i.listed) ∙ i.key

apart : {P : Type 0} (k : RegionKey) → same_bytes k.region key.region ≡ false → key_of info ≡ k → P
apart k e i = let z : true ≡ false = ap (λ (x : RegionKey). same_bytes x.region key.region) (sym key_is ∙ i) ∙ e in absurd (cc)

low_apart : same_bytes (key_of low).region key.region ≡ false
low_apart = ap (λ (k : RegionKey). same_bytes k.region key.region) low_is

high_apart : same_bytes (key_of high).region key.region ≡ false
high_apart = ap (λ (k : RegionKey). same_bytes k.region key.region) high_is

daughters_apart : {P : Type 0} → key_of low ≡ key_of high → P
daughters_apart e = let z : true ≡ false = ap (λ (k : RegionKey). same_bytes k.region low_key.region) (sym low_is ∙ e ∙ high_is) in absurd (cc)

tails : {A : Type 0} {x y : A} {xs ys : List A} → x ∷ xs ≡ y ∷ ys → xs ≡ ys
tails e = (cc)

heads : {A : Type 0} {x y : A} {xs ys : List A} → x ∷ xs ≡ y ∷ ys → x ≡ y
heads e = (cc)

none_twice : {P : Type 0} (before between behind : List RegionInfo) (r q : RegionInfo) → low ∷ high ∷ [] ≡ before ++ (r ∷ between ++ (q ∷ behind)) → key_of r ≡ key_of q → P
none_twice [] [] behind r q e i = daughters_apart (ap key_of (heads e) ∙ i ∙ ap key_of (sym (heads (tails e))))
none_twice [] (b ∷ bs) behind r q e i = no_cons bs q behind (tails (tails e))
none_twice (b ∷ bs) between behind r q e i = not_two high bs between behind r q (tails e)

none_below : {P : Type 0} (ttl : ℕ) (region : List ℕ) → same_bytes region key.region ≡ false → StandsBelow (u0 ttl).disk (record { table = codes "t"; region = region }) → P
none_below ttl region a (live_file b f k e) = cond_cases (same_base b base) (Some empty_file) None (Some f) e
    (λ d i. let z : true ≡ false = ap (λ (x : RegionKey). same_bytes x.region key.region) (ap home (sym (same_base-true b base d)) ∙ k) ∙ a in absurd (cc))
    (λ d i. absurd (cc))
none_below ttl region a (archived_file b f k e) = absurd (cc)
none_below ttl region a (list_file n f e) = cond_cases (same_bytes region key.region && n == 1) (Some empty_file) None (Some f) e
    (λ d i. let z : true ≡ false = sym (both_left (same_bytes region key.region) (n == 1) d) ∙ a in absurd (cc))
    (λ d i. absurd (cc))
none_below ttl region a (back_file b text f k e) = absurd (cc)

is_new : {P : Type 0} (ttl : ℕ) → IsTaken (u0 ttl).disk (u0 ttl).drawn (u0 ttl).plain (low ∷ high ∷ []) → P
is_new ttl (by_new before between behind r q e d) = none_twice before between behind r q e d
is_new ttl (by_drawn r (inl e) (inl d)) = apart (key_of low) low_apart (d ∙ ap key_of (sym e))
is_new ttl (by_drawn r (inr (inl e)) (inl d)) = apart (key_of high) high_apart (d ∙ ap key_of (sym e))
is_new ttl (by_drawn r (inr (inr z)) (inl d)) = absurd z
is_new ttl (by_drawn r m (inr d)) = absurd d
is_new ttl (by_set r (inl e) d) = apart (key_of low) low_apart (only_region (key_of low).region (subst (λ x. IsRegion tables (key_of x)) (sym e) d))
is_new ttl (by_set r (inr (inl e)) d) = apart (key_of high) high_apart (only_region (key_of high).region (subst (λ x. IsRegion tables (key_of x)) (sym e) d))
is_new ttl (by_set r (inr (inr z)) d) = absurd z
is_new ttl (by_directory r (inl e) d) = none_below ttl (key_of low).region low_apart (subst (λ x. StandsBelow (u0 ttl).disk (key_of x)) (sym e) d)
is_new ttl (by_directory r (inr (inl e)) d) = none_below ttl (key_of high).region high_apart (subst (λ x. StandsBelow (u0 ttl).disk (key_of x)) (sym e) d)
is_new ttl (by_directory r (inr (inr z)) d) = absurd z

-- no list has a half yet
whole : {P : Type 0} (r : RegionKey) (e : Entry) → Member e (cond (same_key r key) list no_list).entries → is_half e ≡ true → P
whole {P} r e m i = (elim (same_key r key) as (λ b. Member e (cond b list no_list).entries → P) [
  | true ↦ λ m. elim m [ inl k ↦ (let z : false ≡ true = ap is_half k ∙ i in absurd (cc)) | inr z ↦ absurd z ]
  | false ↦ λ m. absurd m
]) m

-- ---- each step is allowed

abbrev reply_of : Option PlainTable → List (Option Reply)
reply_of o = when (not (is_some o)) TableNotFound ∷ when (not (is_enabled_in o)) TableNotEnabled ∷ when (is_start_of row (region_of (regions_in o) row)) BadSplitKey ∷ None
    ∷ when (nat_lt 1000 (length (regions_in o) + 0 + 2)) TooManyRegions ∷ None ∷ []

pub split_allowed : (ttl : ℕ) → Allows split (u0 ttl)
split_allowed ttl = record {
  activity = tt;
  limits = tt;
  unreferenced = [];
  are_unreferenced = tt;
  holds = ap (λ (r : RegionKey). holds.Region r ∷ []) (sym key_is) ∙ sym (ap (λ (o : Option RegionInfo). map holds.Region (option_to_list (option_map key_of o))) row_region);
  free = refl;
  files = no_files;
  are_files = subst (λ (p : Plan). AreFiles no_files job p.regions (u0 ttl)) (sym (plan_is (u0 ttl).lists refl)) (record {
    name_taken = (λ e. absurd (cc), λ i. is_new ttl i);
    has_references = (λ e. absurd (cc), λ i. whole i.region i.entry i.listed i.half);
  });
  answered = (
    ap (λ (o : Option PlainTable). unwrap_or (first (reply_of o)) Fine) table_is,
    record { number = refl; regions = ap (λ (p : Plan). p.regions) (sym (plan_is (u0 ttl).lists refl)); moment = refl; plan = sym (plan_is (u0 ttl).lists refl); staged = refl },
  );
}

pub low_back_allowed : (ttl : ℕ) → Allows low_back (h1 ttl)
low_back_allowed ttl = record { live = refl; built = record { info = low; region = inl refl; key = low_is }; entry = low_half; planned = inl refl; reads = refl; refers = refl; new = refl }

pub halve_low_allowed : (ttl : ℕ) → Allows halve_low (h2 ttl)
halve_low_allowed ttl = record { refer = record { live = refl; built = record { info = low; region = inl refl; key = low_is }; planned = inl refl; names = (base_lawful, refl); back = empty_file; referred = refl; new = refl }; half = refl }

pub high_back_allowed : (ttl : ℕ) → Allows high_back (h3 ttl)
high_back_allowed ttl = record { live = refl; built = record { info = high; region = inr (inl refl); key = high_is }; entry = high_half; planned = inr (inl refl); reads = refl; refers = refl; new = refl }

pub halve_high_allowed : (ttl : ℕ) → Allows halve_high (h4 ttl)
halve_high_allowed ttl = record { refer = record { live = refl; built = record { info = high; region = inr (inl refl); key = high_is }; planned = inr (inl refl); names = (base_lawful, refl); back = empty_file; referred = refl; new = refl }; half = refl }

pub write_low_allowed : (ttl : ℕ) → Allows write_low (h5 ttl)
write_low_allowed ttl = record { live = refl; new = sym fourth_name; gives = refl }

-- the number of the region that is split
same_region : (r q : RegionKey) → holds.Region r ≡ holds.Region q → r ≡ q
same_region r q e = (cc)

abbrev own : Live
own = record { actor = splitter; job = job; holds = holds.Region key ∷ [] }

kept_of : (kept : RegionKey → ℕ) → kept key ≡ 1 → (parent : RegionKey) → HasHold (own ∷ []) 2 (holds.Region parent) → 1 ≡ kept parent
kept_of kept k parent i =
    let one : own ≡ i.activity = some_is i.at_work in
    elim (subst (λ (l : Live). Member (holds.Region parent) l.holds) (sym one) i.held) [ inl q ↦ sym k ∙ ap kept (same_region key parent q) | inr z ↦ absurd z ]

pub build_low_allowed : (ttl : ℕ) → IsKey low_key → Allows build_low (h6 ttl)
build_low_allowed ttl lawful = record {
  next = record {
    wrote = record { file = empty_file; stands = refl; cells = []; known = refl };
    replaces = refl;
    number = refl;
    unspent = (omega arith);
  };
  allowed = record {
    info = low;
    region = inl refl;
    key = low_is;
    names = lawful;
    out = λ i. apart low_key refl (only_region low_key.region i);
    first = refl;
    entries = refl;
    files = (record { refers = refl; names = (base_lawful, refl); file = empty_file; stands = refl }, tt);
    seq = λ parent i. kept_of (h6 ttl).plain.kept refl parent i;
    none = refl;
    unplanned = refl;
  };
}

pub write_high_allowed : (ttl : ℕ) → Allows write_high (h7 ttl)
write_high_allowed ttl = record { live = refl; new = sym fifth_name; gives = refl }

pub build_high_allowed : (ttl : ℕ) → IsKey high_key → Allows build_high (h8 ttl)
build_high_allowed ttl lawful = record {
  next = record {
    wrote = record { file = empty_file; stands = refl; cells = []; known = refl };
    replaces = refl;
    number = refl;
    unspent = (omega arith);
  };
  allowed = record {
    info = high;
    region = inr (inl refl);
    key = high_is;
    names = lawful;
    out = λ i. apart high_key refl (only_region high_key.region i);
    first = refl;
    entries = refl;
    files = (record { refers = refl; names = (base_lawful, refl); file = empty_file; stands = refl }, tt);
    seq = λ parent i. kept_of (h8 ttl).plain.kept refl parent i;
    none = refl;
    unplanned = refl;
  };
}

pub write_set_allowed : (ttl : ℕ) → Allows write_set (h9 ttl)
write_set_allowed ttl = record { live = refl; new = sym sixth_name; gives = refl }

held : (ttl : ℕ) → HasHold (h10 ttl).plain.live 2 (holds.Region key)
held ttl = record { activity = record { actor = splitter; job = job; holds = holds.Region key ∷ [] }; at_work = refl; held = inl refl }

pub commit_allowed : (ttl : ℕ) → IsRegionSet (codes "t") set2 → Allows commit (h10 ttl)
commit_allowed ttl lawful = record {
  wrote = record { file = empty_file; stands = refl; cells = []; known = refl };
  lawful = lawful;
  replaces = ap set_number (put_this empty (codes "t") set);
  number = refl;
  unspent = (omega arith);
  once = refl;
  is_change = (refl, refl, held ttl, refl);
  shown = sym (ap (λ m. get m (codes "t")) turned_is ∙ put_this tables (codes "t") tab2);
  dropped = λ z. absurd (cc);
  flushed = (refl, tt);
  built = (
    record { number = ap (λ k. ((h10 ttl).lists k).number) low_is; entries = ap (λ k. ((h10 ttl).lists k).entries) low_is ∙ sym (ap (planned_for plan.entries) low_is) },
    (record { number = ap (λ k. ((h10 ttl).lists k).number) high_is; entries = ap (λ k. ((h10 ttl).lists k).entries) high_is ∙ sym (ap (planned_for plan.entries) high_is) }, tt),
  );
}

pub table_there : get tables2 (codes "t") ≡ Some tab2
table_there = put_this tables (codes "t") tab2
