-- An entry is told by its file's name and by what the file says of a half.
use Rattle.std.proofs.Common.{◌≡◌, ℕ, true, false, List, Some, refl, sym, ap, ◌∙◌}
use Rattle.hb_layout.specs.declared.base.Base.{Base}
use Rattle.plain_model.specs.declared.region_key.RegionKey.{RegionKey}
use Rattle.snapshot_records.proofs.Told.{OneValue-IsReference}
use Rattle.core_model.specs.declared.entry.Entry.{Entry}
use Rattle.core_model.specs.declared.entry.Entry.TheVariants.{Own, Link, Half}
use Rattle.core_model.specs.Entries.{entry_name, file_of, is_own, kind_of, IsBase, IsEntryIn}
use Rattle.core_model.specs.Site.{is_store_name}
use Rattle.core_sound.proofs.HoldsFound.{some_is}
use Rattle.core_sound.proofs.NameFacts.{store_name, apart_bases}
use Rattle.core_sound.proofs.NeverAgain.{not_store}
use Rattle.core_bytes.specs.FileOf.{IsPointer}
use Rattle.core_bytes.specs.Recorded.{half_in}
use Rattle.core_points.proofs.Pointers.{alike_halves}

own_apart : {X : Type 0} (b : Base) (e : Entry) → IsBase b → is_own e ≡ false → b.name ≡ entry_name e → X
own_apart b e n o i = let z : true ≡ false = sym (store_name b.name n.file) ∙ ap is_store_name i ∙ not_store e o in absurd (cc)

same_own : (r : RegionKey) (b c : Base) → IsEntryIn r (Own b) → IsEntryIn r (Own c) → file_of r (Own b) ≡ file_of r (Own c) → b ≡ c
same_own r b c h k e = λ i. record {
  table = (ap (λ (q : RegionKey). q.table) (h.1 ∙ sym k.1)) i;
  region = (ap (λ (q : RegionKey). q.region) (h.1 ∙ sym k.1)) i;
  family = (e i).family;
  name = (e i).name;
}

name_at : (r : RegionKey) (e x : Entry) → file_of r e ≡ file_of r x → entry_name e ≡ entry_name x
name_at r e x i = ap (λ (b : Base). b.name) i

pub one_entry : (r : RegionKey) (e x : Entry) → IsEntryIn r e → IsEntryIn r x → file_of r e ≡ file_of r x → half_in e ≡ half_in x → e ≡ x
one_entry r (Own b) (Own c) h k i j = ap Own (same_own r b c h k i)
one_entry r (Own b) (Link c) h k i j = own_apart b (Link c) h.0 refl (name_at r (Own b) (Link c) i)
one_entry r (Own b) (Half c m q start high) h k i j = absurd (cc)
one_entry r (Link b) (Own c) h k i j = own_apart c (Link b) k.0 refl (name_at r (Own c) (Link b) (sym i))
one_entry r (Link b) (Link c) h k i j = ap Link (apart_bases r r (Link b) (Link c) h k refl refl i)
one_entry r (Link b) (Half c m q start high) h k i j = absurd (cc)
one_entry r (Half b l p row top) (Own c) h k i j = absurd (cc)
one_entry r (Half b l p row top) (Link c) h k i j = absurd (cc)
one_entry r (Half b l p row top) (Half c m q start high) h k i j =
    let base = apart_bases r r (Half b l p row top) (Half c m q start high) h k refl refl i in
    let names = alike_halves r b c l m p q row start top high h k (name_at r (Half b l p row top) (Half c m q start high) i) in
    let side : _ ≡ _ = some_is j in
    λ v. Half (base v) (names.0 v) (names.1 v) ((side v).row) ((side v).top)

-- what one file says of two entries of a kind is one half, or none
pub one_half : (e x : Entry) (bytes : List ℕ) → kind_of e ≡ kind_of x → IsPointer e bytes → IsPointer x bytes → half_in e ≡ half_in x
one_half (Own b) (Own c) bytes k p q = refl
one_half (Own b) (Link c) bytes k p q = refl
one_half (Own b) (Half c m u start high) bytes k p q = absurd (cc)
one_half (Link b) (Own c) bytes k p q = refl
one_half (Link b) (Link c) bytes k p q = refl
one_half (Link b) (Half c m u start high) bytes k p q = absurd (cc)
one_half (Half b l p row top) (Own c) bytes k u v = absurd (cc)
one_half (Half b l p row top) (Link c) bytes k u v = absurd (cc)
one_half (Half b l p row top) (Half c m q start high) bytes k u v = ap Some (OneValue-IsReference bytes (record { row = row; top = top }) (record { row = start; top = high }) u v)
