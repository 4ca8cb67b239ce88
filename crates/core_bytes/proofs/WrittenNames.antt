-- No half has the file of a link.
use Rattle.std.proofs.Common.{◌≡◌, true, false, sym, ap, ◌∙◌, subst, inr}
use Rattle.hb_layout.specs.declared.base.Base.{Base}
use Rattle.hb_names.specs.Encoded.{IsEncoded}
use Rattle.hb_file_names.specs.RefName.{IsRefName, ref_text}
use Rattle.hb_file_names.proofs.TextLemmas.{IsRefName-file}
use Rattle.hb_file_names.proofs.ToldLemmas.{links_told, halves_apart, file_alone}
use Rattle.plain_model.specs.declared.region_key.RegionKey.{RegionKey}
use Rattle.core_model.specs.declared.entry.Entry.{Entry}
use Rattle.core_model.specs.declared.entry.Entry.TheVariants.{Own, Link, Half}
use Rattle.core_model.specs.Entries.{file_of, is_half, IsBase, IsEntryIn}
use Rattle.core_sound.proofs.NameFacts.{half_link}

pub link_no_half : {X : Type 0} (r q : RegionKey) (b : Base) (e : Entry) → IsBase b → IsEntryIn q e → is_half e ≡ true → file_of r (Link b) ≡ file_of q e → X
link_no_half r q b (Own c) n k h e = absurd (cc)
link_no_half r q b (Link c) n k h e = absurd (cc)
link_no_half r q b (Half c true u row top) n k h e =
    let w = links_told b.table c.table b.region c.region b.name (ref_text c.name u) n.names.table k.0.names.table n.names.region k.0.names.region (ap (λ (f : Base). f.name) e ∙ half_link c u) in
    absurd (file_alone b.name n.file (inr (subst IsRefName (sym w.2) (IsRefName-file c.name u k.0.file k.1))))
link_no_half r q b (Half c false u row top) n k h e =
    absurd (halves_apart c.name u b.table b.region b.name k.0.file (subst IsEncoded (ap (λ (x : RegionKey). x.region) k.1) k.0.names.region) (sym (ap (λ (f : Base). f.name) e)))
