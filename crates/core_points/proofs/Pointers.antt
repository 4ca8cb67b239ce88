-- Entries with one file and one side have one pointer.
use Rattle.std.proofs.Common.{◌≡◌, ℕ, Bool, true, false, List, Some, refl, sym, ap, ◌∙◌, subst}
use Rattle.hb_file_names.specs.RefName.{ref_text}
use Rattle.hb_file_names.proofs.ToldLemmas.{references_told, halves_apart}
use Rattle.hb_layout.specs.declared.base.Base.{Base}
use Rattle.plain_model.specs.declared.region_key.RegionKey.{RegionKey}
use Rattle.snapshot_records.specs.Reference.{IsReference}
use Rattle.core_model.specs.declared.entry.Entry.{Entry}
use Rattle.core_model.specs.declared.entry.Entry.TheVariants.{Own, Link, Half}
use Rattle.core_model.specs.Entries.{file_of, halved_name, is_half, side_of, IsBase, IsEntryIn}
use Rattle.core_model.specs.Site.{is_store_name}
use Rattle.core_sound.proofs.HoldsFound.{some_is}
use Rattle.core_sound.proofs.NameFacts.{store_name, half_link, link_parts, parent_of, apart_bases}
use Rattle.core_sound.proofs.NeverAgain.{not_store, half_not_own}
use Rattle.core_bytes.specs.FileOf.{IsPointer}
use Rattle.core_bytes.proofs.WrittenNames.{link_no_half}
use Rattle.core_points.specs.Points.{half_key}

-- no file of its own is that of a half
pub own_no_half : {X : Type 0} (r : RegionKey) (b c : Base) (e : Entry) → IsBase b → b.name ≡ c.name → is_half e ≡ true → file_of r e ≡ c → X
own_no_half r b c e n i h j =
    let z : true ≡ false = sym (store_name b.name n.file) ∙ ap is_store_name (i ∙ ap (λ (x : Base). x.name) (sym j)) ∙ not_store e (half_not_own e h) in absurd (cc)

-- halves with one file are both over a link or both not, and of one parent
pub alike_halves : (r : RegionKey) (b c : Base) (l m : Bool) (p q row start : List ℕ) (top high : Bool) → IsEntryIn r (Half b l p row top) → IsEntryIn r (Half c m q start high) → ref_text (halved_name l b) p ≡ ref_text (halved_name m c) q
    → (l ≡ m) × (p ≡ q)
alike_halves r b c true true p q row start top high h k e =
    let z = link_parts b c (ref_text b.name p) (ref_text c.name q) h.0 k.0 (sym (half_link b p) ∙ e ∙ half_link c q) in (refl, (references_told b.name c.name p q h.1 k.1 z.2).1)
alike_halves r b c true false p q row start top high h k e = absurd (halves_apart c.name q b.table b.region (ref_text b.name p) k.0.file (parent_of r c q k.0 k.1) (sym e ∙ half_link b p))
alike_halves r b c false true p q row start top high h k e = absurd (halves_apart b.name p c.table c.region (ref_text c.name q) h.0.file (parent_of r b p h.0 h.1) (e ∙ half_link c q))
alike_halves r b c false false p q row start top high h k e = (refl, (references_told b.name c.name p q (parent_of r b p h.0 h.1) (parent_of r c q k.0 k.1) e).1)

pointer_side : (x y : Entry) (bytes : List ℕ) → is_half x ≡ true → is_half y ≡ true → side_of x ≡ side_of y → IsPointer x bytes → IsPointer y bytes
pointer_side (Own b) y bytes h k e p = absurd (cc)
pointer_side (Link b) y bytes h k e p = absurd (cc)
pointer_side (Half b l u row top) (Own c) bytes h k e p = tt
pointer_side (Half b l u row top) (Link c) bytes h k e p = tt
pointer_side (Half b l u row top) (Half c m v start high) bytes h k e p = subst (λ (x : List ℕ × Bool). IsReference bytes (record { row = x.0; top = x.1 })) (some_is e) p

-- what a file says of one entry, it says of each other with this file, where halves of one base and parent serve one side
pub pointer_as : (r : RegionKey) (x y : Entry) (bytes : List ℕ) → IsEntryIn r x → IsEntryIn r y → file_of r x ≡ file_of r y → (is_half x ≡ true → half_key x ≡ half_key y → side_of x ≡ side_of y) → IsPointer x bytes → IsPointer y bytes
pointer_as r x (Own c) bytes n k e s p = tt
pointer_as r x (Link c) bytes n k e s p = tt
pointer_as r (Own b) (Half c m v start high) bytes n k e s p = own_no_half r b (file_of r (Own b)) (Half c m v start high) n.0 refl refl (sym e)
pointer_as r (Link b) (Half c m v start high) bytes n k e s p = link_no_half r r b (Half c m v start high) n k refl e
pointer_as r (Half b l u row top) (Half c m v start high) bytes n k e s p =
    let base = apart_bases r r (Half b l u row top) (Half c m v start high) n k refl refl e in
    let names = alike_halves r b c l m u v row start top high n k (ap (λ (f : Base). f.name) e) in
    pointer_side (Half b l u row top) (Half c m v start high) bytes refl refl (s refl (λ i. Some (base i, names.1 i))) p

-- what is of one base and parent with a half is a half
pub half_too : (x y : Entry) → is_half x ≡ true → half_key x ≡ half_key y → is_half y ≡ true
half_too (Own b) y h k = absurd (cc)
half_too (Link b) y h k = absurd (cc)
half_too (Half b l p w t) (Own c) h k = absurd (cc)
half_too (Half b l p w t) (Link c) h k = absurd (cc)
half_too (Half b l p w t) (Half c m q u v) h k = refl
