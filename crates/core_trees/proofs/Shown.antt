-- The trees of a journal show its states.
use Rattle.std.proofs.Common.{◌≡◌, ℕ, zero, suc, ◌+◌, ◌≤◌, true, false, cond, List, [], ◌∷◌, ◌++◌, take, Some, None, refl, sym, ap, ◌∙◌}
use Rattle.std.specs.Prelude.{unwrap_or, is_some}
use Rattle.std.specs.FinMap.{empty, get, get-empty}
use Rattle.std.specs.Cmp.Lexicographic.{slice_cmp}
use Rattle.std.specs.Ordering.{nat_cmp}
use Rattle.std.proofs.lemmas.Bool.{true≢false}
use Rattle.hb_cell.specs.Order.{bytes_cmp}
use Rattle.ns_tree.specs.declared.file.FileState.{FileState}
use Rattle.ns_tree.specs.Tree.{Tree}
use Rattle.ns_tree.proofs.Trees.{IsTree-empty}
use Rattle.core_model.specs.declared.journal.JournalEntry.{JournalEntry}
use Rattle.core_model.specs.declared.opening.Opening.{Opening}
use Rattle.core_model.specs.declared.step.Step.{Step}
use Rattle.core_model.specs.Allows.{Allows, AllowsEntry, AllowsFrom}
use Rattle.core_model.specs.Disk.{disk_of, is_regular}
use Rattle.core_model.specs.Opened.{opened, blank}
use Rattle.core_model.specs.Ops.{op_of}
use Rattle.core_model.specs.Replay.{after, unless, replay_from, begun, replay}
use Rattle.core_model.specs.Replay as replay
use Rattle.core_model.specs.Site.{Site, StoreList, RegionSet, Info, Manifest, site_text}
use Rattle.core_model.specs.Sound.{IsSound, IsSoundState}
use Rattle.core_model.specs.State.{Parts, State}
use Rattle.core_sound.proofs.Bare.{bare_sound}
use Rattle.core_sound.proofs.Journals.{HasFew, few_after, few-begun, allowed_other, entry_kept, sound-begun, allows_front}
use Rattle.core_sites.specs.Calls.{IsAccepted}
use Rattle.core_sites.specs.Shows.{Shows}
use Rattle.core_sites.proofs.Accepted.{accepted}
use Rattle.core_sites.proofs.Shown.{shows_by}
use Rattle.core_trees.specs.Filed.{IsFiled, IsFiledState}
use Rattle.core_trees.specs.Laws.{LeadsToFiled, ShowsJournal, AcceptsJournal, BeginsBare}
use Rattle.core_trees.specs.Trees.{HasNames, HaveNames, call_by, tree_by, tree_unless, Trees, trees_by, trees_from, AreShown, BeginsWith}
use Rattle.core_trees.proofs.CanBeDone.{can_be_done}
use Rattle.core_trees.proofs.FiledKept.{filed_kept}

-- ---- a step

pub step_accepted : (p : Step) (s : Parts) (tree : Tree) → s.files ≤ 4_194_304 → HasNames p → Allows p s → IsSound s → IsFiled s → Shows tree s.disk → IsAccepted (call_by p) tree
step_accepted p s tree few t a h f w = accepted (op_of p) tree s.disk (can_be_done p s few t a h f) w

pub step_shown : (p : Step) (s : Parts) (tree : Tree) → s.files ≤ 4_194_304 → HasNames p → Allows p s → IsSound s → IsFiled s → Shows tree s.disk → Shows (tree_by p tree) (after p s).disk
step_shown p s tree few t a h f w = let c = can_be_done p s few t a h f in shows_by (op_of p) tree s.disk (accepted (op_of p) tree s.disk c w) c.spelled c.works w

-- ---- an entry

filed_entry : (n : ℕ) (e : JournalEntry) (s : State) → AllowsEntry n e s → IsSoundState s → IsFiledState s → IsFiledState (replay.step n s e)
filed_entry n e s a h f = record {
  now = elim e.failed as (λ b. IsFiled (unless b (after e.step) s.now)) [ true ↦ f.now | false ↦ filed_kept e.step s.now a.0.1 h.now f.now ];
  other = filed_kept e.step s.other (allowed_other n e s a h) h.other f.other;
}

shown_entry : (n : ℕ) (e : JournalEntry) (t : Trees) (s : State) → HasFew n s → HasNames e.step → AllowsEntry n e s → IsSoundState s → IsFiledState s → AreShown t s → AreShown (trees_by e t) (replay.step n s e)
shown_entry n e t s w k a h f v = record {
  now = elim e.failed as (λ b. Shows (tree_unless b e.step t.now) (unless b (after e.step) s.now).disk) [ true ↦ v.now | false ↦ step_shown e.step s.now t.now w.now_limit k a.0.1 h.now f.now v.now ];
  other = step_shown e.step s.other t.other w.other_limit k (allowed_other n e s a h) h.other f.other v.other;
}

-- ---- journals

shown_from : (n : ℕ) (es : List JournalEntry) (t : Trees) (s : State) → HasFew n s → HaveNames es → AllowsFrom n s es → IsSoundState s → IsFiledState s → AreShown t s → AreShown (trees_from t es) (replay_from n s es)
shown_from n [] t s w k a h f v = v
shown_from n (e ∷ es) t s w k a h f v =
    shown_from (n + 1) es (trees_by e t) (replay.step n s e) (few_after n e s a.0 w) k.1 a.1 (entry_kept n e s w a.0 h) (filed_entry n e s a.0 h f) (shown_entry n e t s w k.0 a.0 h f v)

names_front : (k : ℕ) (es : List JournalEntry) → HaveNames es → HaveNames (take k es)
names_front zero es h = tt
names_front (suc k) [] h = tt
names_front (suc k) (e ∷ es) h = (h.0, names_front k es h.1)

pub begun_shown : (o : Opening) (tree : Tree) → BeginsWith o tree → AreShown (record { now = tree; other = tree }) (begun o)
begun_shown o tree b =
    let same : tree ≡ unwrap_or o.tree (blank o.found.places) = sym (ap (λ x. unwrap_or x (blank o.found.places)) b.told) in
    let shows : Shows tree (opened o).disk = record { files = b.files; sites = b.sites; at = λ p. ap (λ t. disk_of t p) same } in
    record { now = shows; other = shows }

filed_from : (n : ℕ) (es : List JournalEntry) (s : State) → HasFew n s → AllowsFrom n s es → IsSoundState s → IsFiledState s → IsFiledState (replay_from n s es)
filed_from n [] s w a h f = f
filed_from n (e ∷ es) s w a h f = filed_from (n + 1) es (replay.step n s e) (few_after n e s a.0 w) a.1 (entry_kept n e s w a.0 h) (filed_entry n e s a.0 h f)

pub filed_replay : (o : Opening) (es : List JournalEntry) (k : ℕ) → LeadsToFiled o es k
unfolding replay
filed_replay o es k h f a = filed_from 0 (take k es) (begun o) (few-begun o) (allows_front k 0 es (begun o) a) (sound-begun o h) (record { now = f; other = f })

pub journal_shown : (o : Opening) (tree : Tree) (es : List JournalEntry) (k : ℕ) → ShowsJournal o tree es k
unfolding replay
journal_shown o tree es k b names a =
    shown_from 0 (take k es) (record { now = tree; other = tree }) (begun o) (few-begun o) (names_front k es names) (allows_front k 0 es (begun o) a) (sound-begun o b.sound)
    (record { now = b.filed; other = b.filed }) (begun_shown o tree b)

accepted_from : (n : ℕ) (es more : List JournalEntry) (e : JournalEntry) (t : Trees) (s : State) → HasFew n s → HaveNames (es ++ e ∷ more) → AllowsFrom n s (es ++ e ∷ more) → IsSoundState s → IsFiledState s → AreShown t s
    → IsAccepted (call_by e.step) (trees_from t es).now
accepted_from n [] more e t s w k a h f v = step_accepted e.step s.now t.now w.now_limit k.0 a.0.0.1 h.now f.now v.now
accepted_from n (d ∷ es) more e t s w k a h f v =
    accepted_from (n + 1) es more e (trees_by d t) (replay.step n s d) (few_after n d s a.0 w) k.1 a.1 (entry_kept n d s w a.0 h) (filed_entry n d s a.0 h f) (shown_entry n d t s w k.0 a.0 h f v)

pub journal_accepted : (o : Opening) (tree : Tree) (es : List JournalEntry) (e : JournalEntry) (more : List JournalEntry) → AcceptsJournal o tree es e more
journal_accepted o tree es e more b names a =
    accepted_from 0 es more e (record { now = tree; other = tree }) (begun o) (few-begun o) names a (sound-begun o b.sound) (record { now = b.filed; other = b.filed }) (begun_shown o tree b)

-- ---- a store without files

abbrev bare : Tree
bare = empty

nothing : (q : Site) → disk_of bare q ≡ None
nothing q = elim (is_regular q) as (λ b. cond b (get bare (site_text q)) None ≡ None) [ true ↦ get-empty (slice_cmp nat_cmp) (site_text q) | false ↦ refl ]

no_value : {X P : Type 0} (name : List ℕ) (x : X) → get (empty {R = bytes_cmp}) name ≡ Some x → P
no_value {X} name x e = let z : None ≡ Some x = sym (get-empty bytes_cmp name) ∙ e in absurd (cc)

pub bare_begins : (epoch ttl : ℕ) → BeginsBare epoch ttl
bare_begins epoch ttl = record {
  told = refl;
  files = IsTree-empty;
  sites = λ place stands. absurd (true≢false (sym stands ∙ ap is_some (get-empty {X = FileState} (slice_cmp nat_cmp) place)));
  sound = bare_sound epoch ttl;
  filed = record {
    lists = record { at = λ r c m u. nothing (StoreList r.table r.region m) };
    sets = record { at = λ t m u. nothing (RegionSet t m) };
    snapshots = record { missing = λ n e. (nothing (Info n), nothing (Manifest n)); stored = λ n x e. no_value n x e };
  };
}
