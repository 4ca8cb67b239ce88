use Rattle.std.proofs.Common.{◌≡◌, ◌∙◌, ◌++◌, ◌∷◌, List, ℕ, codes, ap, append_assoc}
use Rattle.std.specs.Fmt.{decimal}
use Rattle.world_state.proofs.tests.list_text.Goals as goal

joined : (root table region lists digits : List ℕ) → (((((root ++ table) ++ codes "/") ++ region) ++ lists) ++ digits) ≡ root ++ (table ++ 47 ∷ (region ++ (lists ++ digits)))
joined root table region lists digits =
    append_assoc (((root ++ table) ++ codes "/") ++ region) lists digits
    ∙ append_assoc ((root ++ table) ++ codes "/") region (lists ++ digits)
    ∙ append_assoc (root ++ table) (codes "/") (region ++ (lists ++ digits))
    ∙ append_assoc root table (47 ∷ (region ++ (lists ++ digits)))

pub returns-clause-text : goal.returns-clause-text
returns-clause-text c =
    let table = c.in_ok-add.ensures.ok ∙ ap (λ (x : List ℕ). x ++ c.as_slice.result.now) c.in_ok-text.ensures in
    let slash = c.in_ok-add-2.ensures.ok ∙ ap (λ (x : List ℕ). x ++ codes "/") table in
    let region = c.in_ok-add-3.ensures.ok ∙ ap (λ (x : List ℕ). x ++ c.as_slice-2.result.now) slash in
    let lists = c.in_ok-add-4.ensures.ok ∙ ap (λ (x : List ℕ). x ++ codes "/.filelist/") region in
    let whole = c.in_ok-add-5.ensures.ok ∙ ap (λ (x : List ℕ). x ++ c.as_bytes.result.now) lists in
    let digits : c.as_bytes.result.now ≡ decimal c.args.number = c.as_bytes.ensures.value ∙ c.in_ok-digits.ensures.ok in
    whole ∙ joined (codes "data/default/") c.as_slice.result.now c.as_slice-2.result.now (codes "/.filelist/") c.as_bytes.result.now
    ∙ (λ i. codes "data/default/" ++ (c.as_slice.ensures.bytes i ++ 47 ∷ (c.as_slice-2.ensures.bytes i ++ (codes "/.filelist/" ++ digits i))))
