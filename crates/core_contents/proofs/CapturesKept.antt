-- Each step keeps that captures are what the plain machine captured.
use Rattle.std.proofs.Common.{◌≡◌, ◌≤◌, ℕ, ◌&&◌, ◌==◌, Bool, true, false, cond, List, [], ◌∷◌, Option, Some, None, refl, sym, ap, ◌∙◌, subst, inl, inr}
use Rattle.std.specs.Prelude.{option_map, Ok}
use Rattle.std.specs.List.{find}
use Rattle.hb_cell.specs.declared.cell.Cell.{Cell}
use Rattle.hb_cell.specs.Order.{same_bytes}
use Rattle.hb_records.specs.declared.region_info.RegionInfo.{RegionInfo}
use Rattle.plain_model.specs.declared.event.Event.{Event}
use Rattle.plain_model.specs.declared.event.Event.TheVariants as event
use Rattle.plain_model.specs.declared.job.Job.{Job}
use Rattle.plain_model.specs.declared.job.Job.TheVariants as jobs
use Rattle.plain_model.specs.declared.parts.PlainTable.{PlainTable}
use Rattle.plain_model.specs.declared.parts.RegionCopy.{RegionCopy}
use Rattle.plain_model.specs.declared.region_key.RegionKey.{RegionKey}
use Rattle.plain_model.specs.After.{after_all}
use Rattle.plain_model.specs.Keys.{key_of, encoded, same_key}
use Rattle.plain_model.specs.LiveEvents.{region_at, region_in_table, copy_of, captures_on}
use Rattle.plain_model.specs.Names.{Names}
use Rattle.cell_sight.specs.Member.{Member}
use Rattle.cell_sight.specs.Same.{Same}
use Rattle.core_model.specs.declared.region_files.RegionFiles.{RegionFiles}
use Rattle.core_model.specs.declared.targets.MoveFrom.TheVariants as moves
use Rattle.core_model.specs.declared.targets.Why.TheVariants as why
use Rattle.core_model.specs.declared.step.Started.TheVariants as started
use Rattle.core_model.specs.declared.step.Step.{Step}
use Rattle.core_model.specs.declared.step.Step.TheVariants as step
use Rattle.core_model.specs.ActorChanges.{captures_by}
use Rattle.core_model.specs.Actors.{InSet}
use Rattle.core_model.specs.Allows.{Allows}
use Rattle.core_model.specs.Entries.{Made, cells_in}
use Rattle.core_model.specs.Events.{events_of}
use Rattle.core_model.specs.FileChanges.{made_by}
use Rattle.core_model.specs.Named.{captured}
use Rattle.core_model.specs.SetGuards.{IsChange}
use Rattle.core_model.specs.Sound.{IsSound}
use Rattle.core_model.specs.State.{Parts}
use Rattle.core_model.specs.TableFacts.{HasOwnRegions}
use Rattle.cell_sight.proofs.Counts.{same-trans, same-equal}
use Rattle.core_sound.proofs.Tests.{both_right, same_bytes-self, same_bytes-true, same_key-true}
use Rattle.core_contents.specs.ContentFacts.{CapturesAgree, IsCaptureOf}
use Rattle.core_contents.specs.Faithful.{IsFaithful}
use Rattle.core_contents.proofs.Flushed.{flush_contents}
use Rattle.core_contents.proofs.MadeStays.{cells_stay}
use Rattle.core_contents.proofs.Tools.{set_here}

-- ---- what is made grows

same_capture : (made more : Made) (r : RegionKey) (o : Option RegionFiles) (q : Option RegionCopy) → ((l : RegionFiles) → o ≡ Some l → cells_in more l.entries ≡ cells_in made l.entries) → IsCaptureOf made r o q → IsCaptureOf more r o q
same_capture made more r None None k c = tt
same_capture made more r (Some l) (Some y) k c = record { region = c.region; same = same-trans (same-equal (k l refl)) c.same; number = c.number }
same_capture made more r None (Some y) k c = absurd c
same_capture made more r (Some l) None k c = absurd c

captures_stay : (p : Step) (s : Parts) → s.files ≤ 4_194_304 → Allows p s → IsSound s → IsFaithful s → CapturesAgree (made_by p s.made) s.captures s.plain.captures
captures_stay p s few a h f = record {
  at = λ w r. same_capture s.made (made_by p s.made) r (s.captures w r) (s.plain.captures w r) (λ l e. cells_stay p s few a h l.entries (λ x m. captured w r l x e m refl)) (f.copied.at w r);
}

-- ---- the region of a key

find-has : {X : Type 0} (p : X → Bool) (xs : List X) (x : X) → Member x xs → p x ≡ true → (y : X) × (find p xs ≡ Some y) × Member y xs × (p y ≡ true)
find-has p [] x m e = absurd m
find-has p (z ∷ xs) x m e = (elim (p z) as (λ b. p z ≡ b → (y : _) × (cond b (Some z) (find p xs) ≡ Some y) × Member y (z ∷ xs) × (p y ≡ true)) [
  | true ↦ λ d. (z, refl, inl refl, d)
  | false ↦ λ d. elim m [
    | inl i ↦ let k : true ≡ false = sym e ∙ ap p (sym i) ∙ d in absurd (cc)
    | inr i ↦ let w = find-has p xs x i e in (w.0, w.1, inr w.2, w.3)
  ]
]) refl

key_path : (a b : RegionKey) → a.table ≡ b.table → a.region ≡ b.region → a ≡ b
key_path a b p q = λ i. record { table = p i; region = q i }

region_there : (tables : Names PlainTable) (r : RegionKey) (split : Bool) → HasOwnRegions tables → InSet tables r split → (i : RegionInfo) × (region_at tables r ≡ Some i) × (key_of i ≡ r)
region_there tables r split own g =
    let w = find-has (λ (x : RegionInfo × Bool). same_bytes (encoded x.0) r.region) g.table.regions (g.info, split) g.listed (ap (same_bytes (encoded g.info)) (sym (ap (λ (k : RegionKey). k.region) g.key)) ∙ same_bytes-self (encoded g.info)) in (
      w.0.0,
      ap (λ o. region_in_table o r.region) g.stands ∙ ap (option_map (λ (x : RegionInfo × Bool). x.0)) w.1,
      key_path (key_of w.0.0) r (own.at r.table g.table w.0.0 w.0.1 g.stands w.2) (same_bytes-true (encoded w.0.0) r.region w.3),
    )

-- ---- captures

-- a new capture beside that of the plain machine
new_capture : (made : Made) (a : ℕ) (r : RegionKey) (l : RegionFiles) (cells : List Cell) (number : ℕ) (o : Option RegionInfo) (captures : ℕ → RegionKey → Option RegionFiles) (copies : ℕ → RegionKey → Option RegionCopy)
    → (i : RegionInfo) → o ≡ Some i → key_of i ≡ r → Same (cells_in made l.entries) cells → l.seq ≡ number → CapturesAgree made captures copies
    → CapturesAgree made (λ w q. cond ((w == a) && same_key q r) (Some l) (captures w q)) (λ w q. cond ((w == a) && same_key q r) (copy_of cells number o) (copies w q))
new_capture made a r l cells number o captures copies i e k c n h = record {
  at = λ w q. (elim ((w == a) && same_key q r) as (λ b. ((w == a) && same_key q r) ≡ b → IsCaptureOf made q (cond b (Some l) (captures w q)) (cond b (copy_of cells number o) (copies w q))) [
    | true ↦ λ d. subst (λ x. IsCaptureOf made q (Some l) (copy_of cells number x)) (sym e) (record { region = k ∙ sym (same_key-true q r (both_right (w == a) _ d)); same = c; number = n })
    | false ↦ λ d. h.at w q
  ]) refl;
}

ended_captures : (made : Made) (a : ℕ) (captures : ℕ → RegionKey → Option RegionFiles) (copies : ℕ → RegionKey → Option RegionCopy) → CapturesAgree made captures copies
    → CapturesAgree made (λ w q. cond (w == a) None (captures w q)) (λ w q. cond (w == a) None (copies w q))
ended_captures made a captures copies h = record {
  at = λ w q. elim (w == a) as (λ b. IsCaptureOf made q (cond b None (captures w q)) (cond b None (copies w q))) [ true ↦ tt | false ↦ h.at w q ];
}

-- a change of tables captures nothing
change_captures : (job : Option Job) (change : Event) (table : List ℕ) (a : ℕ) (s : Parts) → IsChange job change table a s → captures_on change s.plain.tables s.plain.stable s.plain.kept s.plain.captures ≡ s.plain.captures
change_captures job (event.Capture w k) table a s z = absurd (no_capture job z)
  where
    no_capture : (job : Option Job) → IsChange job (event.Capture w k) table a s → ⊥
    no_capture (Some (jobs.Create t fs n ks)) z = z
    no_capture (Some jobs.Janitor) z = z
    no_capture _ z = z
change_captures job (event.At w o hs) table a s z = absurd (no_at job z)
  where
    no_at : (job : Option Job) → IsChange job (event.At w o hs) table a s → ⊥
    no_at (Some (jobs.Create t fs n ks)) z = z
    no_at (Some jobs.Janitor) z = z
    no_at _ z = z
change_captures job event.Stop table a s z = absurd (no_stop job z)
  where
    no_stop : (job : Option Job) → IsChange job event.Stop table a s → ⊥
    no_stop (Some (jobs.Create t fs n ks)) z = z
    no_stop (Some jobs.Janitor) z = z
    no_stop _ z = z
change_captures job _ table a s z = refl

-- ---- all steps

pub captures_kept : (p : Step) (s : Parts) → s.files ≤ 4_194_304 → Allows p s → IsSound s → IsFaithful s → CapturesAgree (made_by p s.made) (captures_by p s.lists s.captures) (after_all s.plain (events_of p)).captures
captures_kept (step.Capture actor region) s few a h f = let w = region_there s.plain.tables region false h.own_regions a.is_open in
    new_capture s.made actor.0 region (s.lists region) (s.plain.stable region) (s.plain.kept region) (region_at s.plain.tables region) s.captures s.plain.captures w.0 w.1 w.2 (f.contents.at region (inl a.is_open)) (f.kept.at region (inl a.is_open)) f.copied
captures_kept (step.CommitList actor region number name why.Capture list cells planned) s few a h f =
    let w = region_there s.plain.tables region false h.own_regions a.allowed.is_open in
    let c = (flush_contents actor.0 region list cells planned s a.allowed.flushes f).at region (inl a.allowed.is_open) in
    new_capture s.made actor.0 region list _ _ (region_at s.plain.tables region) s.captures s.plain.captures w.0 w.1 w.2
    (same-trans (same-equal (sym (ap (λ (l : RegionFiles). cells_in s.made l.entries) (set_here region list s.lists)))) c) (a.allowed.flushes.seq ∙ sym (set_here region _ s.plain.kept)) f.copied
captures_kept (step.End actor refusal) s few a h f = ended_captures s.made actor.0 s.captures s.plain.captures f.copied
captures_kept (step.Abandon actor) s few a h f = ended_captures s.made actor.0 s.captures s.plain.captures f.copied
captures_kept (step.CommitRegions actor table number name set change) s few a h f = subst (CapturesAgree s.made s.captures) (sym (change_captures _ change table actor.0 s a.is_change)) f.copied
captures_kept (step.WriteTmp actor recipe name cells bytes) s few a h f = captures_stay (step.WriteTmp actor recipe name cells bytes) s few a h f
captures_kept (step.Place actor (moves.StagedBulk folder name) base cells) s few a h f = captures_stay (step.Place actor (moves.StagedBulk folder name) base cells) s few a h f
captures_kept (step.Place actor (moves.WrittenBulk name) base cells) s few a h f = f.copied
captures_kept (step.PutCell who table put moment (Some joined)) s few a h f = f.copied
captures_kept (step.Start who job (started.Live actor) drawn) s few a h f = f.copied
captures_kept (step.CommitList actor region number name why.Flush list cells planned) s few a h f = f.copied
captures_kept (step.CommitList actor region number name (why.Compact true) list cells planned) s few a h f = f.copied
captures_kept (step.Pin actor target (Ok region) true) s few a h f = f.copied
captures_kept _ s few a h f = f.copied
