-- A core after one entry more.
use Rattle.std.proofs.Common.{◌≡◌, ℕ, ◌+◌, ◌<◌, ◌≤◌, [], ◌∷◌, ◌++◌, length, None, IfSome, refl, sym, ap, subst, ◌∙◌, arith}
use Rattle.std.specs.Prelude.{vec_len, vec_capacity}
use Rattle.core_model.specs.declared.journal.JournalEntry.{JournalEntry}
use Rattle.core_model.specs.declared.journal.TheConstants.{JOURNAL_LIMIT}
use Rattle.core_model.specs.Allows.{AllowsEntry}
use Rattle.core_model.specs.Replay.{replay}
use Rattle.core_places.specs.Served.{IsServed}
use Rattle.world_state.specs.declared.kept.Core.TheInside.{Inside}
use Rattle.world_state.specs.Changes.{change_made}
use Rattle.world_state.specs.Held.{Held, state_of}
use Rattle.world_state.specs.Parts.{IsAfter, IsReplay, works_with}
use Rattle.world_state.specs.Represents.{IsReady, Represents, held}
use Rattle.world_state.specs.Rooms.{NeedsReady}
use Rattle.world_state.proofs.Entered.{entered}
use Rattle.world_state.proofs.Replay.{replayed-push}
use Rattle.world_state.proofs.Rooms.{ends_room, limit_kept, spelled}

abbrev pub AllowsNext : Inside → JournalEntry → Type 0
AllowsNext a e = AllowsEntry (length a.entries.items) e (state_of (held a))

pub allowed_here : (a : Inside) (h : Held) (e : JournalEntry) → held a ≡ h → AllowsEntry (length h.entries) e (state_of h) → AllowsNext a e
allowed_here a h e view g = subst (λ (x : Held). AllowsEntry (length x.entries) e (state_of x)) (sym view) g

ends_fit : (a : Inside) (e : JournalEntry) → NeedsReady e.step (IsReady a e.step) → AllowsNext a e → Represents a
    → vec_len a.entries + 1 + length (works_with (change_made e.failed e.step).works a.state.works.items) ≤ vec_capacity a.entries
ends_fit a e r g h =
    let many = a.state.works.ok.0 in
    let ends = h.room.ends in
    ends_room (length a.entries.items) e.worker e.step e.failed (state_of (held a)) a.state.works.items _ (vec_len a.entries) (vec_capacity a.entries) g h.replay.live refl
    (λ none. let m = (r none).entry in omega (arith, m, many)) (omega (arith, ends, many))

pub has_room : (a : Inside) (e : JournalEntry) → NeedsReady e.step (IsReady a e.step) → AllowsNext a e → Represents a → vec_len a.entries < vec_capacity a.entries
has_room a e r g h = let k = ends_fit a e r g h in omega (arith, k)

limit_fits : (a : Inside) (e : JournalEntry) → IsServed e.step → AllowsNext a e → Represents a
    → vec_len a.entries + 1 + length (works_with (change_made e.failed e.step).works a.state.works.items) ≤ JOURNAL_LIMIT
limit_fits a e v g h =
    let many = a.state.works.ok.0 in
    let few = h.room.few in
    let size = a.entries.ok.0 in
    limit_kept (length a.entries.items) e.worker (vec_len a.entries) e.step e.failed (state_of (held a)) a.state.works.items _ v (sym size) g h.replay.live refl (omega (arith, few, many))

pub applied : (a b : Inside) (e : JournalEntry) (number : ℕ) → IsServed e.step → NeedsReady e.step (IsReady a e.step) → AllowsNext a e → Represents a
    → b.opening ≡ a.opening → b.entries.items ≡ a.entries.items ++ e ∷ [] → vec_len b.entries ≡ vec_len a.entries + 1 → vec_capacity b.entries ≡ vec_capacity a.entries → b.prepared ≡ None
    → number ≡ length a.entries.items → IsAfter (change_made e.failed e.step) number e.failed a.state b.state → Represents b
applied a b e number v r g h o pushed len room none at after =
    let next = ap (λ x. replay x b.entries.items) o ∙ replayed-push a.opening a.entries.items b.entries.items e pushed in
    let i = subst (λ n. IsAfter (change_made e.failed e.step) n e.failed a.state b.state) at after in
    let works = ap length i.works in
    let many = b.state.works.ok.0 in
    let ends = ends_fit a e r g h in
    let few = limit_fits a e v g h in
    record {
      replay = subst (IsReplay b.state) (sym next) (entered (length a.entries.items) e (replay a.opening a.entries.items) a.state b.state v (spelled a e.step r) g.0.1 h.replay i);
      room = record {
        ends = omega (arith, ends, works, many, len, room);
        few = omega (arith, few, works, many, len);
        prepared = subst (λ p. IfSome p (IsReady b)) (sym none) tt;
      };
    }
