-- An empty store, and a table of one region in it.
use Rattle.std.proofs.Common.{◌≡◌, ℕ, ◌++◌, true, false, cond, List, [], ◌∷◌, Option, Some, None, refl, sym, ap, ◌∙◌, inl, inr, arith}
use Rattle.std.specs.Prelude.{codes, length, unwrap_or, is_some}
use Rattle.std.specs.FinMap.{get, empty, entries, insert, put, get-empty, entries-insert, len-entries, len-empty}
use Rattle.std.specs.Cmp.Lexicographic.{slice_cmp, nat_list_cmp_total}
use Rattle.std.specs.Fmt.{digits}
use Rattle.std.specs.Ordering.{nat_cmp}
use Rattle.hex.specs.Hex.{encode_with}
use Rattle.md5.specs.Md5.{md5, digest_bytes, hash_after, compress, rounds, block_words}
use Rattle.hb_cell.specs.Order.{bytes_cmp}
use Rattle.hb_records.specs.declared.region_info.RegionInfo.{RegionInfo}
use Rattle.hb_records.specs.declared.table_schema.TableSchema.{TableSchema}
use Rattle.ns_tree.specs.Tree.{Tree}
use Rattle.region_set.specs.declared.region_set.RegionSet.{RegionSet}
use Rattle.region_set.specs.declared.set_state.SetState.TheVariants as states
use Rattle.region_set.specs.RegionSet.{IsRegionSet}
use Rattle.plain_model.specs.declared.event.Event.TheVariants as event
use Rattle.plain_model.specs.declared.hold.Hold.TheVariants as holds
use Rattle.plain_model.specs.declared.job.Job.TheVariants as jobs
use Rattle.plain_model.specs.declared.parts.PlainTable.{PlainTable}
use Rattle.plain_model.specs.declared.region_key.RegionKey.{RegionKey}
use Rattle.plain_model.specs.declared.reply.Reply.TheVariants.{Fine, TableExists}
use Rattle.plain_model.specs.declared.who.Actor.{Actor}
use Rattle.plain_model.specs.declared.who.Who.{Who}
use Rattle.plain_model.specs.Keys.{key_of}
use Rattle.plain_model.specs.Names.{Names}
use Rattle.plain_model.specs.Plain.{Plain}
use Rattle.plain_model.specs.Replies.{first, when, no_files}
use Rattle.core_model.specs.declared.recipe.Recipe.TheVariants as recipes
use Rattle.core_model.specs.declared.step.Started.TheVariants as started
use Rattle.core_model.specs.declared.step.Step.{Step}
use Rattle.core_model.specs.declared.step.Step.TheVariants as step
use Rattle.core_model.specs.ActorChanges.{no_part}
use Rattle.core_model.specs.Actors.{IsRegion}
use Rattle.core_model.specs.Allows.{Allows}
use Rattle.core_model.specs.Disk.{disk_of, is_regular, live_of, archived_of, at_place}
use Rattle.core_model.specs.Entries.{no_list}
use Rattle.core_model.specs.FileChanges.{set_number, size_in}
use Rattle.core_model.specs.FileGuards.{next_name}
use Rattle.core_model.specs.Opened.{opened}
use Rattle.core_model.specs.Replay.{after}
use Rattle.core_model.specs.Site.{Site, site_text}
use Rattle.core_model.specs.StartGuards.{by_new, by_drawn, by_set, by_directory, live_file, archived_file, list_file, back_file}
use Rattle.core_model.specs.State.{Parts, no_plan}
use Rattle.core_sound.specs.Laws.{bare_opening}
use Rattle.core_sound.proofs.TablesKept.{put_this}

-- ---- an empty store

abbrev bare : Tree
bare = empty

nothing : (q : Site) → disk_of bare q ≡ None
nothing q = elim (is_regular q) as (λ b. cond b (get bare (site_text q)) None ≡ None) [ true ↦ get-empty (slice_cmp nat_cmp) (site_text q) | false ↦ refl ]

abbrev pub no_tables : Names PlainTable
no_tables = empty

-- its plain state, over these tables
abbrev pub plain : Names PlainTable → Plain
plain tables = record {
  tables = tables;
  stable = λ k. [];
  mem = λ k. [];
  frozen = λ k. 0;
  seq = λ k. 0;
  kept = λ k. 0;
  snapshots = empty;
  live = [];
  captures = λ a k. None;
  noted = λ a k. None;
}

abbrev pub begin : ℕ → Parts
begin ttl = record {
  told = true;
  disk = λ p. None;
  opened = λ p. None;
  staged = λ folder family name. None;
  epoch = 1;
  ttl = ttl;
  files = 0;
  ids = 0;
  begun = 0;
  drawn = [];
  made = λ b. None;
  sizes = λ b. None;
  written = λ n. None;
  lists = λ r. no_list;
  compacted = λ r. [];
  sets = empty;
  snapshots = empty;
  owners = λ a. None;
  plans = λ a. no_plan;
  pins = λ a. [];
  stamps = λ a b. false;
  loads = λ a. [];
  placed = λ a. [];
  captures = λ a r. None;
  changed = λ a t. false;
  parted = λ a. no_part;
  waiting = λ b. None;
  pass = None;
  plain = plain empty;
}

pub opened_is : (ttl : ℕ) → opened (bare_opening 1 ttl) ≡ begin ttl
opened_is ttl = λ i. record (begin ttl) {
  disk = λ p. nothing p i;
  opened = λ p. nothing p i;
  sizes = λ b. size_in (at_place (live_of (λ p. nothing p i)) (archived_of (λ p. nothing p i)) b);
}

-- ---- a table of one region

abbrev pub info : RegionInfo
info = record { id = 4294967297; table = codes "t"; start = []; end = None }

abbrev pub key : RegionKey
key = record { table = codes "t"; region = codes "9f17f9fc01258e59b4bf2e99f8590819" }

pub key_is : key_of info ≡ key
unfolding digits encode_with md5 digest_bytes hash_after compress rounds block_words
key_is = refl

abbrev pub schema : TableSchema
schema = record { table = codes "t"; families = (codes "f", 1) ∷ [] }

abbrev pub tab : PlainTable
tab = record { enabled = true; schema = schema; regions = (info, false) ∷ [] }

abbrev pub set : RegionSet
set = record { number = 1; state = states.Enabled; schema = schema; regions = (info, false) ∷ [] }

-- the first file name of the opening
abbrev pub name1 : List ℕ
name1 = codes "00000000000000010000000000000001"

pub first_name : next_name 1 0 None ≡ name1
unfolding encode_with
first_name = refl

abbrev pub who : Who
who = record { worker = 1; line = 1 }

abbrev pub maker : Actor
maker = record { 0 = 0 }

abbrev pub create : Step
create = step.Start who (jobs.Create (codes "t") (codes "f" ∷ []) 1 []) (started.Live maker)
    (record { regions = info ∷ []; moment = None; holds = holds.Table (codes "t") ∷ []; plan = record { regions = info ∷ []; entries = [] }; staged = [] })

abbrev pub write_set : Step
write_set = step.WriteTmp maker (recipes.Set (codes "t") set) name1 [] []

abbrev pub commit_set : Step
commit_set = step.CommitRegions maker (codes "t") 0 name1 set (event.Create schema (info ∷ []))

abbrev pub made : Step
made = step.End maker None

abbrev pub s1 : ℕ → Parts
s1 ttl = after create (begin ttl)

abbrev pub s2 : ℕ → Parts
s2 ttl = after write_set (s1 ttl)

abbrev pub s3 : ℕ → Parts
s3 ttl = after commit_set (s2 ttl)

abbrev pub s4 : ℕ → Parts
s4 ttl = after made (s3 ttl)

no_cons : {P A : Type 0} (before : List A) (x : A) (xs : List A) → [] ≡ before ++ (x ∷ xs) → P
no_cons [] x xs e = absurd (cc)
no_cons (b ∷ bs) x xs e = absurd (cc)

tails : {A : Type 0} {x y : A} {xs ys : List A} → x ∷ xs ≡ y ∷ ys → xs ≡ ys
tails e = (cc)

pub not_two : {P A : Type 0} (z : A) (before between behind : List A) (x y : A) → z ∷ [] ≡ before ++ (x ∷ between ++ (y ∷ behind)) → P
not_two z [] between behind x y e = no_cons between y behind (tails e)
not_two z (b ∷ bs) between behind x y e = no_cons bs x _ (tails e)

no_key : {X P : Type 0} (name : List ℕ) (x : X) → get (empty {R = bytes_cmp}) name ≡ Some x → P
no_key {X} name x e = let z : None ≡ Some x = sym (get-empty bytes_cmp name) ∙ e in absurd (cc)

pub no_region : {P : Type 0} (r : RegionKey) → IsRegion no_tables r → P
no_region r (inl i) = no_key r.table i.table i.stands
no_region r (inr i) = no_key r.table i.table i.stands

none_long : {A : Type 0} (xs : List A) → length xs ≡ 0 → xs ≡ []
none_long [] e = refl
none_long (x ∷ xs) e = absurd (cc)

pub no_entries : {X : Type 0} → entries (empty {X = X} {R = bytes_cmp}) ≡ []
no_entries {X} = none_long (entries (empty {X = X} {R = bytes_cmp})) (sym (len-entries (empty {X = X} {R = bytes_cmp})) ∙ len-empty bytes_cmp X)

pub create_allowed : (ttl : ℕ) → Allows create (begin ttl)
create_allowed ttl = record {
  activity = tt;
  limits = ((omega arith), (omega arith), (omega arith));
  unreferenced = [];
  are_unreferenced = tt;
  holds = refl;
  free = refl;
  files = no_files;
  are_files = record {
    name_taken = (
      λ e. absurd (cc),
      λ i. elim i [
        | by_new before between behind r q e d ↦ not_two info before between behind r q e
        | by_drawn r m d ↦ absurd d
        | by_set r m d ↦ no_region (key_of r) d
        | by_directory r m d ↦ elim d [ live_file b f h e ↦ absurd (cc) | archived_file b f h e ↦ absurd (cc) | list_file n f e ↦ absurd (cc) | back_file b text f h e ↦ absurd (cc) ]
      ],
    );
    has_references = (λ e. absurd (cc), λ i. let z = i.splits in absurd (cc));
  };
  answered = (
    ap (λ (o : Option PlainTable). unwrap_or (first (when (is_some o) TableExists ∷ None ∷ None ∷ None ∷ [])) Fine) (get-empty bytes_cmp (codes "t")),
    record { number = refl; regions = refl; moment = refl; plan = refl; staged = refl },
  );
}

pub write_set_allowed : (ttl : ℕ) → Allows write_set (s1 ttl)
write_set_allowed ttl = record { live = refl; new = sym first_name; gives = refl }

abbrev Versions : Type 0
Versions = List (List ℕ × ℕ)

pub families_are : entries {X = ℕ} {R = bytes_cmp} (insert empty (codes "f") 1) ≡ (codes "f", 1) ∷ []
families_are = entries-insert nat_list_cmp_total (empty {X = ℕ} {R = bytes_cmp}) (codes "f") 1 ∙ ap (λ (es : Versions). put bytes_cmp (codes "f") 1 es) no_entries

pub commit_set_allowed : (ttl : ℕ) → IsRegionSet (codes "t") set → Allows commit_set (s2 ttl)
commit_set_allowed ttl l = record {
  wrote = record { file = record { bytes = []; moment = 0 }; stands = refl; cells = []; known = refl };
  lawful = l;
  replaces = ap set_number (get-empty bytes_cmp (codes "t"));
  number = refl;
  unspent = (omega arith);
  once = refl;
  is_change = (refl, sym (ap (λ fs. record { table = codes "t"; families = fs }) families_are), refl);
  shown = sym (put_this no_tables (codes "t") tab);
  dropped = λ z. absurd (cc);
  flushed = tt;
  built = tt;
}
