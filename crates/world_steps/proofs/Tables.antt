-- In a world the plain tables are those of the newest region sets.
use Rattle.std.proofs.Common.{◌≡◌, ◌↔◌, ℕ, ◌+◌, Bool, true, false, not, List, [], ◌∷◌, map, Option, Some, refl, sym, ap, ◌∙◌}
use Rattle.std.specs.Prelude.{IsTrue, is_some}
use Rattle.hb_records.specs.declared.region_info.RegionInfo.{RegionInfo}
use Rattle.region_set.specs.declared.region_set.RegionSet.{RegionSet}
use Rattle.region_set.specs.declared.set_state.SetState.{SetState}
use Rattle.region_set.specs.declared.set_state.SetState.TheVariants as states
use Rattle.plain_model.specs.Keys.{key_of}
use Rattle.core_bytes.specs.Stored.{TablesAgree, table_in_set}
use Rattle.core_bytes.proofs.SetsStored.{tables_agree}
use Rattle.core_model.specs.declared.journal.JournalEntry.{JournalEntry}
use Rattle.core_model.specs.declared.opening.Opening.{Opening}
use Rattle.core_model.specs.declared.step.Step.{Step}
use Rattle.core_model.specs.Allows.{Allows, AllowsFrom}
use Rattle.core_model.specs.Opened.{table_in, table_of}
use Rattle.core_model.specs.Replay.{after, begun, replay, replay_from, unless}
use Rattle.core_model.specs.Replay as replay
use Rattle.core_model.specs.State.{Parts, State}
use Rattle.world_steps.specs.Starts.{keys_in}
use Rattle.world_steps.specs.World.{IsWorld}

agree_unless : (b : Bool) (p : Step) (s : Parts) → Allows p s → TablesAgree s.sets s.plain.tables → TablesAgree (unless b (after p) s).sets (unless b (after p) s).plain.tables
agree_unless true p s a h = h
agree_unless false p s a h = tables_agree p s a h

agree_from : (n : ℕ) (es : List JournalEntry) (s : State) → AllowsFrom n s es → TablesAgree s.now.sets s.now.plain.tables → TablesAgree (replay_from n s es).now.sets (replay_from n s es).now.plain.tables
agree_from n [] s a h = h
agree_from n (x ∷ es) s a h = agree_from (n + 1) es (replay.step n s x) a.1 (agree_unless x.failed x.step s.now a.0.0.1 h)

pub tables_in : {told : _} (o : Opening) (es : List JournalEntry) → IsWorld told o es → TablesAgree (replay o es).now.sets (replay o es).now.plain.tables
unfolding replay
tables_in o es w = agree_from 0 es (begun o) w.lawful.allowed w.opened.tables

-- ---- a set whose state was asked for

is_open : (b : Bool) (st : SetState) (x : RegionSet) → x.state ≡ st → (IsTrue b ↔ (x.state ≡ states.Dropped)) → not b ≡ is_some (table_of x)
is_open true states.Enabled x e h = (let z : states.Enabled ≡ states.Dropped = sym e ∙ h.0 refl in absurd (cc))
is_open true states.Disabled x e h = (let z : states.Disabled ≡ states.Dropped = sym e ∙ h.0 refl in absurd (cc))
is_open true states.Dropped x e h = sym (ap (λ (y : SetState). is_some (table_in y x)) e)
is_open false states.Enabled x e h = sym (ap (λ (y : SetState). is_some (table_in y x)) e)
is_open false states.Disabled x e h = sym (ap (λ (y : SetState). is_some (table_in y x)) e)
is_open false states.Dropped x e h = (let z : false ≡ true = h.1 e in absurd (cc))

-- whether a table exists, by its newest set
pub exists-open : (b : Bool) (x : RegionSet) (o : Option RegionSet) → Some x ≡ o → (IsTrue b ↔ (x.state ≡ states.Dropped)) → not b ≡ is_some (table_in_set o)
exists-open b x o e h = is_open b x.state x refl h ∙ ap (λ (y : Option RegionSet). is_some (table_in_set y)) e

keys_of : (st : SetState) (x : RegionSet) → x.state ≡ st → (x.state ≡ states.Dropped → ⊥) → map (λ (y : RegionInfo × Bool). key_of y.0) x.regions ≡ keys_in (table_of x)
keys_of states.Enabled x e n = sym (ap (λ (y : SetState). keys_in (table_in y x)) e)
keys_of states.Disabled x e n = sym (ap (λ (y : SetState). keys_in (table_in y x)) e)
keys_of states.Dropped x e n = absurd (n e)

pub keys-open : (x : RegionSet) (o : Option RegionSet) → Some x ≡ o → (x.state ≡ states.Dropped → ⊥) → map (λ (y : RegionInfo × Bool). key_of y.0) x.regions ≡ keys_in (table_in_set o)
keys-open x o e n = keys_of x.state x refl n ∙ ap (λ (y : Option RegionSet). keys_in (table_in_set y)) e

pub keys-dropped : (x : RegionSet) (o : Option RegionSet) → Some x ≡ o → x.state ≡ states.Dropped → [] ≡ keys_in (table_in_set o)
keys-dropped x o e d = sym (ap (λ (y : SetState). keys_in (table_in y x)) d) ∙ ap (λ (y : Option RegionSet). keys_in (table_in_set y)) e
