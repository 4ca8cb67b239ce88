-- Each step keeps that the entries of lists, captures and snapshots are their region's, and their halves of one side.
use Rattle.std.proofs.Common.{◌≡◌, ℕ, ◌&&◌, ◌==◌, cond, List, [], ◌∷◌, Option, Some, None, refl, sym, ap, ◌∙◌, subst, inl, inr}
use Rattle.std.specs.Prelude.{filter_map, option_map}
use Rattle.std.specs.List.{cons_option}
use Rattle.cell_sight.specs.Member.{Member}
use Rattle.hb_records.specs.declared.region_info.RegionInfo.{RegionInfo}
use Rattle.plain_model.specs.declared.region_key.RegionKey.{RegionKey}
use Rattle.plain_model.specs.Found.{open_in}
use Rattle.plain_model.specs.Keys.{key_of, same_key}
use Rattle.core_model.specs.declared.entry.Entry.{Entry}
use Rattle.core_model.specs.declared.region_files.RegionFiles.{RegionFiles}
use Rattle.core_model.specs.declared.snapshot.CopiedRegion.{CopiedRegion}
use Rattle.core_model.specs.declared.snapshot.Snapshot.{Snapshot}
use Rattle.core_model.specs.declared.step.Step.{Step}
use Rattle.core_model.specs.declared.step.Step.TheVariants as step
use Rattle.core_model.specs.declared.targets.Why.TheVariants as why
use Rattle.core_model.specs.ActorChanges.{captures_by}
use Rattle.core_model.specs.Actors.{Counts, IsRegion}
use Rattle.core_model.specs.Allows.{Allows}
use Rattle.core_model.specs.FileChanges.{lists_by, snapshots_by}
use Rattle.core_model.specs.Replay.{after}
use Rattle.core_model.specs.SnapshotGuards.{copied}
use Rattle.core_model.specs.Sound.{IsSound}
use Rattle.core_model.specs.State.{Parts}
use Rattle.core_model.specs.TableChanges.{tables_by}
use Rattle.core_sound.proofs.HoldsFound.{some_is}
use Rattle.core_sound.proofs.Lists.{get-put, get-taken}
use Rattle.core_sound.proofs.NeverAgain.{tables_after}
use Rattle.core_sound.proofs.Tests.{cond_cases, both_right, same_key-true}
use Rattle.core_contents.specs.Faithful.{IsFaithful}
use Rattle.core_contents.proofs.Tools.{set_here}
use Rattle.core_points.specs.Points.{AreEntries, HaveOneSide, HaveSides}
use Rattle.core_points.proofs.ListedPoints.{listed_was}
use Rattle.core_points.proofs.PlannedSides.{planned_side}
use Rattle.core_points.proofs.Pointers.{half_too}

-- ---- lists

counted_side : (s : Parts) → IsSound s → IsFaithful s → HaveSides s.plain.tables s.lists s.captures s.snapshots → (r : RegionKey) → Counts s.plain.tables s.plans r → HaveOneSide (λ e. Member e (s.lists r).entries)
counted_side s h f k r (inl i) x y m n u v = (k.listed r i).side x y m n u v
counted_side s h f k r (inr i) x y m n u v =
    let on : (e : Entry) → Member e (s.lists r).entries → Member ((key_of i.info).region, e) (s.plans i.actor).entries = λ e j. (h.built.at i.actor i.info e i.region (subst (λ (q : RegionKey). Member e (s.lists q).entries) (sym i.key) j)).1 in
    planned_side s h f k i.actor i.info i.region x y (on x m) (on y n) u v

listed_sides : (p : Step) (s : Parts) → Allows p s → IsSound s → IsFaithful s → IsSound (after p s) → HaveSides s.plain.tables s.lists s.captures s.snapshots → (r : RegionKey) → IsRegion (tables_by p s.plain.snapshots s.plain.tables) r → AreEntries r (lists_by p s.lists r).entries
listed_sides p s a h f g k r i = record {
  names = λ e m. (g.listed.at r e (inl (subst (λ t. IsRegion t r) (sym (tables_after p s)) i)) m).names;
  side = λ x y m n u v. let w = listed_was p s a r x u i m in counted_side s h f k r w.0 x y w.1 (listed_was p s a r y (half_too x y u v) i n).1 u v;
}

-- ---- captures

captured_sides : (s : Parts) (a : ℕ) (r : RegionKey) (l : RegionFiles) → ((w : ℕ) (q : RegionKey) (x : RegionFiles) → s.captures w q ≡ Some x → AreEntries q x.entries) → AreEntries r l.entries
    → (w : ℕ) (q : RegionKey) (x : RegionFiles) → cond ((w == a) && same_key q r) (Some l) (s.captures w q) ≡ Some x → AreEntries q x.entries
captured_sides s a r l k g w q x e = cond_cases ((w == a) && same_key q r) (Some l) (s.captures w q) (Some x) e
    (λ d j. subst (λ (y : RegionFiles). AreEntries q y.entries) (some_is j) (subst (λ v. AreEntries v l.entries) (sym (same_key-true q r (both_right (w == a) _ d))) g))
    (λ d j. k w q x j)

ended_sides : (s : Parts) (a : ℕ) → ((w : ℕ) (q : RegionKey) (x : RegionFiles) → s.captures w q ≡ Some x → AreEntries q x.entries) → (w : ℕ) (q : RegionKey) (x : RegionFiles) → cond (w == a) None (s.captures w q) ≡ Some x → AreEntries q x.entries
ended_sides s a k w q x e = cond_cases (w == a) None (s.captures w q) (Some x) e (λ d j. absurd (cc)) (λ d j. k w q x j)

-- ---- snapshots

-- a region of a snapshot that is taken is one that was captured
abbrev IsCopied : (RegionKey → Option RegionFiles) → CopiedRegion → Type 0
IsCopied captures c = (l : RegionFiles) × (captures (key_of c.info) ≡ Some l) × (l.entries ≡ c.entries)

one_region : (captures : RegionKey → Option RegionFiles) (i : RegionInfo) (o : Option RegionFiles) (rest : List CopiedRegion) (c : CopiedRegion) → captures (key_of i) ≡ o → (Member c rest → IsCopied captures c)
    → Member c (cons_option (option_map (λ (l : RegionFiles). record { info = i; seq = l.seq; entries = l.entries }) o) rest) → IsCopied captures c
one_region captures i None rest c e k n = k n
one_region captures i (Some l) rest c e k (inl d) = (l, ap (λ (x : CopiedRegion). captures (key_of x.info)) (sym d) ∙ e, ap (λ (x : CopiedRegion). x.entries) d)
one_region captures i (Some l) rest c e k (inr n) = k n

copied_region : (captures : RegionKey → Option RegionFiles) (is : List RegionInfo) (c : CopiedRegion) → Member c (filter_map (copied captures) is) → IsCopied captures c
copied_region captures [] c m = absurd m
copied_region captures (i ∷ is) c m = one_region captures i (captures (key_of i)) (filter_map (copied captures) is) c refl (λ n. copied_region captures is c n) m

-- ---- all steps

sides_after : (p : Step) (s : Parts) → Allows p s → IsSound s → IsFaithful s → IsSound (after p s) → HaveSides s.plain.tables s.lists s.captures s.snapshots
    → HaveSides (tables_by p s.plain.snapshots s.plain.tables) (lists_by p s.lists) (captures_by p s.lists s.captures) (snapshots_by p s.snapshots)
sides_after (step.CommitList actor region number name why.Capture list cells more) s a h f g k =
    let sides = listed_sides (step.CommitList actor region number name why.Capture list cells more) s a h f g k in
    record {
      listed = sides;
      captured = captured_sides s actor.0 region list k.captured (subst (λ (l : RegionFiles). AreEntries region l.entries) (set_here region list s.lists) (sides region (inl a.allowed.is_open)));
      completed = k.completed;
    }
sides_after (step.Capture actor region) s a h f g k = record {
  listed = k.listed;
  captured = captured_sides s actor.0 region (s.lists region) k.captured (k.listed region (inl a.is_open));
  completed = k.completed;
}
sides_after (step.End actor refusal) s a h f g k = record { listed = k.listed; captured = ended_sides s actor.0 k.captured; completed = k.completed }
sides_after (step.Abandon actor) s a h f g k = record { listed = k.listed; captured = ended_sides s actor.0 k.captured; completed = k.completed }
sides_after (step.Complete actor name snapshot) s a h f g k = record {
  listed = k.listed;
  captured = k.captured;
  completed = λ n x c i m. get-put s.snapshots name snapshot n x i
      (λ d j. let w = copied_region (s.captures actor.0) (open_in s.plain a.table) c (subst (λ (y : Snapshot). Member c y.regions) (sym j ∙ a.copied) m) in subst (AreEntries (key_of c.info)) w.2 (k.captured actor.0 (key_of c.info) w.0 w.1))
      (λ j. k.completed n x c j m);
}
sides_after (step.Uncomplete actor name) s a h f g k = record {
  listed = k.listed;
  captured = k.captured;
  completed = λ n x c i m. get-taken s.snapshots name n x i (λ d j. k.completed n x c j m);
}
sides_after p s a h f g k = record { listed = listed_sides p s a h f g k; captured = k.captured; completed = k.completed }

pub sides_kept : (p : Step) (s : Parts) → Allows p s → IsSound s → IsFaithful s → IsSound (after p s) → HaveSides s.plain.tables s.lists s.captures s.snapshots
    → HaveSides (after p s).plain.tables (after p s).lists (after p s).captures (after p s).snapshots
sides_kept p s a h f g k = subst (λ t. HaveSides t (lists_by p s.lists) (captures_by p s.lists s.captures) (snapshots_by p s.snapshots)) (sym (tables_after p s)) (sides_after p s a h f g k)
