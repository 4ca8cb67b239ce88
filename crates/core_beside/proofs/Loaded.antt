-- The files of a load differ: each was placed for another part.
use Rattle.std.proofs.Common.{◌≡◌, ◌≢◌, ◌⊎◌, ◌≤◌, ℕ, ◌+◌, ◌&&◌, ◌||◌, ◌==◌, Bool, true, false, cond, List, [], ◌∷◌, ◌++◌, Option, Some, None, refl, sym, ap, ◌∙◌, subst, inl, inr}
use Rattle.std.specs.Ordering.{is_lt}
use Rattle.std.specs.declared.cmp.Ordering.TheVariants.{Less, Equal, Greater}
use Rattle.std.specs.Cmp.Lexicographic.{nat_list_cmp_total}
use Rattle.std.specs.List.{AllByRecursion}
use Rattle.std.proofs.lemmas.List.{append_cancel_left}
use Rattle.cell_sight.specs.Member.{Member}
use Rattle.cell_sight.proofs.Versions.{tied_bytes}
use Rattle.hb_cell.specs.declared.cell.Cell.{Cell}
use Rattle.hb_cell.specs.Order.{bytes_cmp, is_below, same_bytes}
use Rattle.hb_layout.specs.declared.base.Base.{Base}
use Rattle.hb_records.specs.declared.region_info.RegionInfo.{RegionInfo}
use Rattle.ns_tree.specs.declared.file.FileState.{FileState}
use Rattle.plain_model.specs.declared.job.Job.{Job}
use Rattle.plain_model.specs.declared.job.Job.TheVariants as jobs
use Rattle.plain_model.specs.declared.region_key.RegionKey.{RegionKey}
use Rattle.core_model.specs.declared.entry.Entry.{Entry}
use Rattle.core_model.specs.declared.recipe.Recipe.TheVariants as recipes
use Rattle.core_model.specs.declared.region_files.RegionFiles.{RegionFiles}
use Rattle.core_model.specs.declared.step.Started.TheVariants as started
use Rattle.core_model.specs.declared.step.Step.{Step}
use Rattle.core_model.specs.declared.step.Step.TheVariants as step
use Rattle.core_model.specs.declared.targets.MoveFrom.{MoveFrom}
use Rattle.core_model.specs.declared.targets.MoveFrom.TheVariants as moves
use Rattle.core_model.specs.ActorChanges.{loads_by, placed_by}
use Rattle.core_model.specs.Allows.{Allows}
use Rattle.core_model.specs.BulkParts.{ComesFrom, IsPartFile, has_part, is_whole, parts_of}
use Rattle.core_model.specs.Disk.{Disk, disk_after, tmps_of}
use Rattle.core_model.specs.Entries.{stem}
use Rattle.core_model.specs.FileChanges.{files_by}
use Rattle.core_model.specs.FileFacts.{IsDrawn}
use Rattle.core_model.specs.FileGuards.{next_name}
use Rattle.core_model.specs.ListGuards.{Loads}
use Rattle.core_model.specs.Ops.{op_of}
use Rattle.core_model.specs.Site.{Live, Staged, Tmp, site_text}
use Rattle.core_model.specs.Sound.{IsSound}
use Rattle.core_model.specs.StartGuards.{Ascends, AreStaged, is_file_before}
use Rattle.core_model.specs.State.{Parts, Placed, Written}
use Rattle.core_sound.proofs.Draws.{other_digits}
use Rattle.core_sound.proofs.HoldsFound.{some_is}
use Rattle.core_sound.proofs.Lists.{member-append, or_left, or_right, either}
use Rattle.core_sound.proofs.NameFacts.{store_name}
use Rattle.core_sound.proofs.NamesKept.{IsNewTmp, drawn_after, names_kept, next_stem, piece_stem, placed_stem, staged_stem, tmp_cases}
use Rattle.core_sound.proofs.Tests.{both_left, both_right, cond_cases, same_base-self, same_bytes-self, same_bytes-true, same_number}
use Rattle.core_opens.specs.Fits.{EachTwo}
use Rattle.core_beside.specs.Apart.{ArePlacedOnce, LoadsAscend}
use Rattle.core_beside.proofs.Pairs.{two-filter, two-zip}

-- ---- files in order differ

less_of : (a b : List ℕ) → is_below a b ≡ true → bytes_cmp a b ≡ Less
less_of a b h = elim (bytes_cmp a b) as (λ o. is_lt o ≡ true → o ≡ Less) [ Less ↦ λ e. refl | Equal ↦ λ e. absurd (cc) | Greater ↦ λ e. absurd (cc) ] h

pub below_trans : (a b c : List ℕ) → is_below a b ≡ true → is_below b c ≡ true → is_below a c ≡ true
below_trans a b c h k = ap is_lt (nat_list_cmp_total.trans a b c (less_of a b h) (less_of b c k))

abbrev File : Type 0
File = List ℕ × List ℕ

before_trans : (x y z : File) → is_file_before x y ≡ true → is_file_before y z ≡ true → is_file_before x z ≡ true
before_trans x y z h k = either (is_below x.0 y.0) _ h
    (λ a. or_left (is_below x.0 z.0) _ (either (is_below y.0 z.0) _ k (λ b. below_trans x.0 y.0 z.0 a b)
    (λ b. subst (λ t. is_below x.0 t ≡ true) (same_bytes-true y.0 z.0 (both_left (same_bytes y.0 z.0) _ b)) a)))
    (λ a. let e = same_bytes-true x.0 y.0 (both_left (same_bytes x.0 y.0) _ a) in either (is_below y.0 z.0) _ k
    (λ b. or_left (is_below x.0 z.0) _ (subst (λ t. is_below t z.0 ≡ true) (sym e) b))
    (λ b. or_right (is_below x.0 z.0) _ (let i = e ∙ same_bytes-true y.0 z.0 (both_left (same_bytes y.0 z.0) _ b) in
    both_are (same_bytes x.0 z.0) (is_below x.1 z.1) (ap (same_bytes x.0) (sym i) ∙ same_bytes-self x.0)
    (below_trans x.1 y.1 z.1 (both_right (same_bytes x.0 y.0) _ a) (both_right (same_bytes y.0 z.0) _ b)))))
  where
    both_are : (a b : Bool) → a ≡ true → b ≡ true → (a && b) ≡ true
    both_are true b e f = f
    both_are false b e f = absurd (cc)

not_below : (a : List ℕ) → is_below a a ≡ false
not_below a = ap is_lt (tied_bytes a a refl)

not_before : (x : File) → is_file_before x x ≡ false
not_before x = ap (λ b. b || (same_bytes x.0 x.0 && is_below x.1 x.1)) (not_below x.0) ∙ ap (λ b. same_bytes x.0 x.0 && b) (not_below x.1) ∙ ap (λ b. b && false) (same_bytes-self x.0)

ahead : (x : File) (ys : List File) → Ascends (x ∷ ys) → AllByRecursion (λ y. is_file_before x y ≡ true) ys
ahead x [] h = tt
ahead x (y ∷ []) h = (h.0, tt)
ahead x (y ∷ z ∷ zs) h = (h.0, carried (z ∷ zs) (ahead y (z ∷ zs) h.1))
  where
    carried : (us : List File) → AllByRecursion (λ u. is_file_before y u ≡ true) us → AllByRecursion (λ u. is_file_before x u ≡ true) us
    carried [] k = tt
    carried (u ∷ us) k = (before_trans x y u h.0 k.0, carried us k.1)

behind : (x : File) (ys : List File) → Ascends (x ∷ ys) → Ascends ys
behind x [] h = tt
behind x (y ∷ []) h = tt
behind x (y ∷ z ∷ zs) h = h.1

ascends_differ : (xs : List File) → Ascends xs → EachTwo (λ x y. x ≢ y) xs
ascends_differ [] h = tt
ascends_differ (x ∷ xs) h = (apart xs (ahead x xs h), ascends_differ xs (behind x xs h))
  where
    apart : (ys : List File) → AllByRecursion (λ y. is_file_before x y ≡ true) ys → AllByRecursion (λ y. x ≢ y) ys
    apart [] k = tt
    apart (y ∷ ys) k = (λ e. let z : true ≡ false = sym k.0 ∙ ap (is_file_before x) (sym e) ∙ not_before x in absurd (cc), apart ys k.1)

-- ---- a file is placed for one part

cut : (x : ℕ) (xs ys : List ℕ) → x ∷ xs ≡ x ∷ ys → xs ≡ ys
cut x xs ys e = (cc)

staged_name : (folder family a b : List ℕ) → site_text (Staged folder family a) ≡ site_text (Staged folder family b) → a ≡ b
staged_name folder family a b e =
    let x = cut 47 _ _ (append_cancel_left (115 ∷ 116 ∷ 97 ∷ 103 ∷ 105 ∷ 110 ∷ 103 ∷ []) _ _ e) in
    let y = cut 47 _ _ (append_cancel_left folder _ _ x) in
    cut 47 _ _ (append_cancel_left family _ _ y)

piece_source : (x y start stop : List ℕ) (u v : Option (List ℕ)) → recipes.Piece x start u ≡ recipes.Piece y stop v → x ≡ y
piece_source x y start stop u v e = (cc)

one_name : (source : MoveFrom) (u v : Bool) (folder : List ℕ) (i : RegionInfo) (f g : File) (written : List ℕ → Option Written) → ComesFrom source u folder i f written → ComesFrom source v folder i g written → f.0 ≡ g.0 → f.1 ≡ g.1
one_name (moves.StagedBulk d name) true true folder i f g written x y e = sym x.1 ∙ y.1
one_name (moves.StagedBulk d name) true false folder i f g written x y e = absurd y
one_name (moves.StagedBulk d name) false v folder i f g written x y e = absurd x
one_name (moves.WrittenBulk name) false false folder i f g written x y e =
    let w : x.0 ≡ y.0 = some_is (sym x.1 ∙ y.1) in
    let r = sym x.2 ∙ ap (λ (z : Written). z.recipe) w ∙ y.2 in
    staged_name folder g.0 f.1 g.1 (ap (λ t. site_text (Staged folder t f.1)) (sym e) ∙ piece_source _ _ i.start i.start i.end i.end r)
one_name (moves.WrittenBulk name) false true folder i f g written x y e = absurd y
one_name (moves.WrittenBulk name) true v folder i f g written x y e = absurd x
one_name (moves.Written name) true v folder i f g written x y e = absurd x
one_name (moves.Written name) false v folder i f g written x y e = absurd x

one_part : (a : ℕ) (folder : List ℕ) (i : RegionInfo) (f g : File) (b c : Base) (s : Parts) → ArePlacedOnce s.epoch s.files (tmps_of s.disk) s.placed → IsPartFile a folder i f b s → IsPartFile a folder i g c s → b ≡ c → f ≡ g
one_part a folder i f g b c s h x y e =
    let d : f.0 ≡ g.0 = sym x.family ∙ ap (λ (z : Base). z.family) e ∙ y.family in
    let k : x.source ≡ y.source = h.once a (record { base = b; from = x.source }) (record { base = c; from = y.source }) x.placed y.placed e in
    let n = one_name y.source (is_whole s.staged folder i f) (is_whole s.staged folder i g) folder i f g s.written (subst (λ z. ComesFrom z (is_whole s.staged folder i f) folder i f s.written) k x.comes) y.comes d in
    λ j. (d j, n j)

pub added_differ : (a : ℕ) (r : RegionKey) (l : RegionFiles) (cells : List Cell) (more : List (List ℕ × Entry)) (s : Parts) (g : Loads a r l cells more s) → LoadsAscend s.loads → ArePlacedOnce s.epoch s.files (tmps_of s.disk) s.placed → EachTwo (λ b c. b ≢ c) g.added
added_differ a r l cells more s g h k = two-zip (λ f b. IsPartFile a g.folder g.is_open.info f b s × (s.waiting b ≡ Some a)) (λ f h. f ≢ h) (λ b c. b ≢ c) (parts_of s.staged g.folder g.is_open.info (s.loads a)) g.added
    (λ f h b c n x y e. n (one_part a g.folder g.is_open.info f h b c s k x.0 y.0 e)) g.files (two-filter (λ f h. f ≢ h) (has_part s.staged g.folder g.is_open.info) (s.loads a) (ascends_differ (s.loads a) (h.at a)))

-- ---- loads

staged_ascend : (job : Job) (disk : Disk) (staged : List File) → AreStaged job disk staged → Ascends staged
staged_ascend (jobs.Bulk t folder) disk staged h = h.0
staged_ascend _ disk staged h = subst Ascends (sym h) tt

loads_set : (a : ℕ) (staged : List File) (loads : ℕ → List File) → Ascends staged → LoadsAscend loads → (w : ℕ) → Ascends (cond (w == a) staged (loads w))
loads_set a staged loads h k w = elim (w == a) as (λ b. Ascends (cond b staged (loads w))) [ true ↦ h | false ↦ k.at w ]

pub loads_kept : (p : Step) (s : Parts) → Allows p s → LoadsAscend s.loads → LoadsAscend (loads_by p s.loads)
loads_kept (step.Start who job (started.Live actor) drawn) s a h = record { at = loads_set actor.0 drawn.staged s.loads (staged_ascend job s.disk drawn.staged a.answered.1.staged) h }
loads_kept (step.End actor refusal) s a h = record { at = loads_set actor.0 [] s.loads tt h }
loads_kept (step.Abandon actor) s a h = record { at = loads_set actor.0 [] s.loads tt h }
loads_kept _ s a h = h

-- ---- placed files

-- the step places this file, by this actor
abbrev IsPlacedBy : Step → ℕ → Placed → Type 0
IsPlacedBy (step.Place actor from base cells) a x = (a ≡ actor.0) × (record { base = base; from = from } ≡ x)
IsPlacedBy _ a x = ⊥

none_placed : (b : Bool) (xs : List Placed) (x : Placed) → Member x (cond b [] xs) → Member x xs
none_placed true xs x m = absurd m
none_placed false xs x m = m

placed_was : (p : Step) (placed : ℕ → List Placed) (a : ℕ) (x : Placed) → Member x (placed_by p placed a) → Member x (placed a) ⊎ IsPlacedBy p a x
placed_was (step.Place actor from base cells) placed a x m = (elim (a == actor.0) as (λ b. a == actor.0 ≡ b → Member x (cond b (placed actor.0 ++ record { base = base; from = from } ∷ []) (placed a)) → Member x (placed a) ⊎ ((a ≡ actor.0) × (record { base = base; from = from } ≡ x))) [
  | true ↦ λ d k. elim (member-append x (placed actor.0) (record { base = base; from = from } ∷ []) k) [
    | inl n ↦ inl (subst (λ w. Member x (placed w)) (sym (same_number a actor.0 d)) n)
    | inr n ↦ elim n [ inl e ↦ inr (same_number a actor.0 d, e) | inr z ↦ absurd z ]
  ]
  | false ↦ λ d k. inl k
]) refl m
placed_was (step.End actor refusal) placed a x m = inl (none_placed (a == actor.0) (placed a) x m)
placed_was (step.Abandon actor) placed a x m = inl (none_placed (a == actor.0) (placed a) x m)
placed_was _ placed a x m = inl m

abbrev IsPlacedWell : Parts → Type 0
IsPlacedWell s = ArePlacedOnce s.epoch s.files (tmps_of s.disk) s.placed

new_drawn : (p : Step) (s : Parts) → s.files ≤ 4_194_304 → Allows p s → IsSound s → (w : ℕ) (x : Placed) → IsPlacedBy p w x → IsDrawn s.epoch (files_by p s.files) x.base.name
new_drawn (step.Place actor (moves.Written name) base cells) s few a h w x e = subst (λ (y : Placed). IsDrawn s.epoch s.files y.base.name) e.1
    ((names_kept (step.Place actor (moves.Written name) base cells) s a h few).live_file base a.moved.wrote.file (ap (λ b. cond b (s.disk (Tmp name)) (s.disk (Live base))) (same_base-self base) ∙ a.moved.wrote.stands) (store_name base.name a.names.file))
new_drawn (step.Place actor (moves.WrittenBulk name) base cells) s few a h w x e = subst (λ (y : Placed). IsDrawn s.epoch s.files y.base.name) e.1
    ((names_kept (step.Place actor (moves.WrittenBulk name) base cells) s a h few).live_file base a.moved.wrote.file (ap (λ b. cond b (s.disk (Tmp name)) (s.disk (Live base))) (same_base-self base) ∙ a.moved.wrote.stands) (store_name base.name a.names.file))
new_drawn (step.Place actor (moves.StagedBulk folder name) base cells) s few a h w x e = subst (λ (y : Placed). IsDrawn s.epoch (s.files + 1) y.base.name) e.1
    ((names_kept (step.Place actor (moves.StagedBulk folder name) base cells) s a h few).live_file base a.moved.file (ap (λ b. cond b (s.disk (Staged folder base.family name)) (s.disk (Live base))) (same_base-self base) ∙ a.moved.stands) (store_name base.name a.names.file))
new_drawn _ s few a h w x e = absurd e

-- a base that is placed is none that was placed before
new_apart : (p : Step) (s : Parts) → s.files ≤ 4_194_304 → Allows p s → IsSound s → IsPlacedWell s → (w : ℕ) (x y : Placed) → Member x (s.placed w) → IsPlacedBy p w y → x.base ≡ y.base → ⊥
new_apart (step.Place actor (moves.Written name) base cells) s few a h k w x y m e i =
    k.gone w x a.moved.wrote.file m (ap (tmps_of s.disk) (placed_stem s actor.0 name base x.base h cells a (i ∙ sym (ap (λ (z : Placed). z.base) e.1))) ∙ a.moved.wrote.stands)
new_apart (step.Place actor (moves.WrittenBulk name) base cells) s few a h k w x y m e i =
    k.gone w x a.moved.wrote.file m (ap (tmps_of s.disk) (piece_stem s actor.0 name base x.base h cells a (i ∙ sym (ap (λ (z : Placed). z.base) e.1))) ∙ a.moved.wrote.stands)
new_apart (step.Place actor (moves.StagedBulk folder name) base cells) s few a h k w x y m e i =
    other_digits s.epoch s.files x.base.name few (k.drawn w x m) (staged_stem s base x.base _ a.moved.named (i ∙ sym (ap (λ (z : Placed). z.base) e.1)))
new_apart _ s few a h k w x y m e i = absurd e

new_tmp : (p : Step) (s : Parts) (m : List ℕ) → Allows p s → IsNewTmp p m → m ≡ next_name s.epoch s.files None
new_tmp (step.WriteTmp actor recipe name cells bytes) s m a e = e ∙ a.new
new_tmp _ s m a e = absurd e

-- its file is no temporary one any more
placed_gone : (p : Step) (s : Parts) → s.files ≤ 4_194_304 → Allows p s → IsSound s → (w : ℕ) (x : Placed) (f : FileState) → IsPlacedBy p w x → tmps_of (disk_after (op_of p) s.disk) (stem x.base.name) ≡ Some f → ⊥
placed_gone (step.Place actor (moves.Written name) base cells) s few a h w x f e i = cond_cases (same_bytes (stem x.base.name) name) None (tmps_of s.disk (stem x.base.name)) (Some f) i (λ d j. absurd (cc))
    (λ d j. left name (stem x.base.name) d (placed_stem s actor.0 name base x.base h cells a (sym (ap (λ (z : Placed). z.base) e.1))))
  where
    left : (n m : List ℕ) → same_bytes m n ≡ false → m ≡ n → ⊥
    left n m d i = let z : true ≡ false = sym (same_bytes-self m) ∙ ap (same_bytes m) i ∙ d in absurd (cc)
placed_gone (step.Place actor (moves.WrittenBulk name) base cells) s few a h w x f e i = cond_cases (same_bytes (stem x.base.name) name) None (tmps_of s.disk (stem x.base.name)) (Some f) i (λ d j. absurd (cc))
    (λ d j. left name (stem x.base.name) d (piece_stem s actor.0 name base x.base h cells a (sym (ap (λ (z : Placed). z.base) e.1))))
  where
    left : (n m : List ℕ) → same_bytes m n ≡ false → m ≡ n → ⊥
    left n m d i = let z : true ≡ false = sym (same_bytes-self m) ∙ ap (same_bytes m) i ∙ d in absurd (cc)
placed_gone (step.Place actor (moves.StagedBulk folder name) base cells) s few a h w x f e i =
    let n = staged_stem s base x.base _ a.moved.named (sym (ap (λ (z : Placed). z.base) e.1)) in
    other_digits s.epoch s.files (stem x.base.name) few (h.names.tmp (stem x.base.name) f i) (next_stem s (stem x.base.name) n)
placed_gone _ s few a h w x f e i = absurd e

gone_after : (p : Step) (s : Parts) → s.files ≤ 4_194_304 → Allows p s → IsSound s → IsPlacedWell s → (w : ℕ) (x : Placed) (f : FileState) → Member x (placed_by p s.placed w) → tmps_of (disk_after (op_of p) s.disk) (stem x.base.name) ≡ Some f → ⊥
gone_after p s few a h k w x f m i = elim (placed_was p s.placed w x m) [
  | inl n ↦ tmp_cases p s (stem x.base.name) f i (λ e. other_digits s.epoch s.files x.base.name few (k.drawn w x n) (new_tmp p s (stem x.base.name) a e)) (λ j l. k.gone w x f n j)
  | inr e ↦ placed_gone p s few a h w x f e i
]

same_from : (p : Step) (w : ℕ) (x y : Placed) → IsPlacedBy p w x → IsPlacedBy p w y → x.from ≡ y.from
same_from (step.Place actor from base cells) w x y d e = ap (λ (z : Placed). z.from) (sym d.1 ∙ e.1)
same_from _ w x y d e = absurd d

once_after : (p : Step) (s : Parts) → s.files ≤ 4_194_304 → Allows p s → IsSound s → IsPlacedWell s → (w : ℕ) (x y : Placed) → Member x (placed_by p s.placed w) → Member y (placed_by p s.placed w) → x.base ≡ y.base → x.from ≡ y.from
once_after p s few a h k w x y m n e = elim (placed_was p s.placed w x m) [
  | inl i ↦ elim (placed_was p s.placed w y n) [ inl j ↦ k.once w x y i j e | inr j ↦ absurd (new_apart p s few a h k w x y i j e) ]
  | inr i ↦ elim (placed_was p s.placed w y n) [ inl j ↦ absurd (new_apart p s few a h k w y x j i (sym e)) | inr j ↦ same_from p w x y i j ]
]

pub placed_kept : (p : Step) (s : Parts) → s.files ≤ 4_194_304 → Allows p s → IsSound s → IsPlacedWell s → ArePlacedOnce s.epoch (files_by p s.files) (tmps_of (disk_after (op_of p) s.disk)) (placed_by p s.placed)
placed_kept p s few a h k = record {
  drawn = λ w x m. elim (placed_was p s.placed w x m) [ inl n ↦ drawn_after p s few x.base.name (k.drawn w x n) | inr e ↦ new_drawn p s few a h w x e ];
  gone = gone_after p s few a h k;
  once = once_after p s few a h k;
}
