use Rattle.std.proofs.Common.{ℕ, List, ◌++◌, take, drop, ap, subst, sym, ◌∙◌, ◌≤◌, length, arith}
use Rattle.wire_fields.specs.Fields.{text, field_bytes}
use Rattle.manifest_writers.specs.Written.{FamilyFiles, family_files_bytes, run_length}
use Rattle.manifest_writers.proofs.Families.{one_family_more, fewer_left, no_family_more}
use Rattle.manifest_writers.proofs.file.put_families.Goals as goal

bytes : FamilyFiles → List ℕ
bytes f = field_bytes 3 (text (family_files_bytes f))

pub loop-first-preserved : goal.loop-first-preserved
unfolding bytes
loop-first-preserved c =
    let rest = c.loop-first.rest.now in
    let behind = c.split_at.ensures.back ∙ ap (λ (n : ℕ). drop n rest) c.run_length.ensures.length in
    let run = c.split_at.ensures.front ∙ ap (λ (n : ℕ). take n rest) c.run_length.ensures.length in
    let new = c.in_ok-put_bytes_field.ensures.ok ∙ ap (λ (m : List ℕ). c.loop-first.out ++ field_bytes 3 (text m)) (c.as_slice.ensures ∙ c.in_ok-message.ensures) in
    one_family_more bytes c.loop-first.out _ _ rest _ _ c.in-Some.first.now c.in-Some.ensures.value run behind new c.loop-first.invariant

pub loop-first-smaller : goal.loop-first-smaller
loop-first-smaller c =
    let rest = c.loop-first.rest.now in
    let behind = c.split_at.ensures.back ∙ ap (λ (n : ℕ). drop n rest) c.run_length.ensures.length in
    let within = subst (λ (n : ℕ). n ≤ length rest) c.run_length.ensures.length c.run_length.ensures.within in
    fewer_left rest _ c.in-Some.first.now c.in-Some.ensures.value behind within

pub returns : goal.returns
unfolding bytes
returns c = no_family_more bytes c.loop-first.out _ c.loop-first.rest.now c.in_default.ensures.value c.loop-first.invariant
