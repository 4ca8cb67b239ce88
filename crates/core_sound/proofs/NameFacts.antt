-- What names tell of files, links, halves and back references.
use Rattle.std.proofs.Common.{◌≡◌, ℕ, ◌+◌, ◌||◌, ◌==◌, true, false, not, List, [], ◌∷◌, ◌++◌, Option, None, refl, sym, ap, ◌∙◌, subst, inr}
use Rattle.std.specs.List.{list_any}
use Rattle.std.proofs.lemmas.List.{append_assoc, append-nil}
use Rattle.hb_grammar.specs.Class.{has}
use Rattle.hb_grammar.proofs.AvoidsLemmas.{Lacks, Free}
use Rattle.hb_names.specs.Encoded.{IsEncoded}
use Rattle.hb_file_names.specs.FileName.{IsFileName}
use Rattle.hb_file_names.specs.FileParts.{sixteen_digits}
use Rattle.hb_file_names.specs.LinkParts.{link_text}
use Rattle.hb_file_names.specs.RefName.{IsRefName, ref_text}
use Rattle.hb_file_names.specs.BackRef.{back_text}
use Rattle.hb_file_names.proofs.FreeLemmas.{Free-IsFileName}
use Rattle.hb_file_names.proofs.TextLemmas.{IsRefName-file}
use Rattle.hb_file_names.proofs.ToldLemmas.{take-file_text, links_told, references_told, backs_told, halves_apart, file_alone}
use Rattle.hb_layout.specs.declared.base.Base.{Base}
use Rattle.plain_model.specs.declared.region_key.RegionKey.{RegionKey}
use Rattle.core_model.specs.declared.entry.Entry.{Entry}
use Rattle.core_model.specs.declared.entry.Entry.TheVariants.{Own, Link, Half}
use Rattle.core_model.specs.Entries.{base_of, file_of, is_own, link_name, stem, IsKey, IsBase, IsEntryIn}
use Rattle.core_model.specs.FileGuards.{next_name}
use Rattle.core_model.specs.Keys.{home}
use Rattle.core_model.specs.Site.{is_store_name}

-- ---- store files

file_dot : Free IsFileName 46
unfolding has
file_dot = Free-IsFileName 46 refl refl (refl, (refl, (refl, (refl, (refl, (refl, (refl, tt))))))) refl

file_equals : Free IsFileName 61
unfolding has
file_equals = Free-IsFileName 61 refl refl (refl, (refl, (refl, (refl, (refl, (refl, (refl, tt))))))) refl

-- a name that lacks both marks is a store file's
lacks_both : (name : List ℕ) → Lacks 61 name → Lacks 46 name → list_any (λ byte. (byte == 61) || (byte == 46)) name ≡ false
lacks_both [] h k = refl
lacks_both (x ∷ xs) h k = (λ i. ((h.0 i) || (k.0 i)) || (lacks_both xs h.1 k.1 i))

pub store_name : (name : List ℕ) → IsFileName name → is_store_name name ≡ true
store_name name n = ap not (lacks_both name (file_equals name n) (file_dot name n))

-- the digits of a name that is drawn, with or without a sequence number
pub drawn_digits : (epoch files : ℕ) (seq : Option ℕ) → stem (next_name epoch files seq) ≡ next_name epoch files None
drawn_digits epoch files seq = take-file_text (record { epoch = epoch; counter = files + 1; seq = seq }) ∙ ap (λ (x : List ℕ). sixteen_digits epoch ++ x) (sym (append-nil (sixteen_digits (files + 1))))

-- ---- back references

-- of one text they are one region's
pub back_key : (r q : RegionKey) → IsKey r → IsKey q → back_text r.region r.table ≡ back_text q.region q.table → r ≡ q
back_key r q h k e = let w = backs_told r.region q.region r.table q.table h.region k.region e in (λ i. record { table = w.1 i; region = w.0 i })

-- ---- links and halves

pub base_path : (b c : Base) → b.table ≡ c.table → b.region ≡ c.region → b.family ≡ c.family → b.name ≡ c.name → b ≡ c
base_path b c p q r s = λ i. record { table = p i; region = q i; family = r i; name = s i }

-- a half of a link is named as a link of a half would be
pub half_link : (b : Base) (p : List ℕ) → ref_text (link_name b) p ≡ link_text b.table b.region (ref_text b.name p)
half_link b p = append_assoc b.table (61 ∷ (b.region ++ 45 ∷ b.name)) (46 ∷ p) ∙ ap (λ (x : List ℕ). b.table ++ 61 ∷ x) (append_assoc b.region (45 ∷ b.name) (46 ∷ p))

-- a link's name has its base's names, and what stands behind it
pub link_parts : (b c : Base) (x y : List ℕ) → IsBase b → IsBase c → link_text b.table b.region x ≡ link_text c.table c.region y → (b.table ≡ c.table) × (b.region ≡ c.region) × (x ≡ y)
link_parts b c x y h k e = links_told b.table c.table b.region c.region x y h.names.table k.names.table h.names.region k.names.region e

-- no file is named as a half of one
file_no_half : {P : Type 0} (b c : Base) (p : List ℕ) → IsBase b → IsBase c → IsEncoded p → b.name ≡ ref_text c.name p → P
file_no_half b c p h k n e = absurd (file_alone b.name h.file (inr (subst IsRefName (sym e) (IsRefName-file c.name p k.file n))))

-- the region that a half of an own file is of
pub parent_of : (r : RegionKey) (b : Base) (p : List ℕ) → IsBase b → home b ≡ record { table = r.table; region = p } → IsEncoded p
parent_of r b p h e = subst IsEncoded (ap (λ (k : RegionKey). k.region) e) h.names.region

-- links and halves with one file have one base
pub apart_bases : (r q : RegionKey) (e x : Entry) → IsEntryIn r e → IsEntryIn q x → is_own e ≡ false → is_own x ≡ false → file_of r e ≡ file_of q x → base_of e ≡ base_of x
apart_bases r q (Own b) x h k o n e = absurd (cc)
apart_bases r q e (Own c) h k o n i = absurd (cc)
apart_bases r q (Link b) (Link c) h k o n e = let w = link_parts b c b.name c.name h k (ap (λ (f : Base). f.name) e) in base_path b c w.0 w.1 (ap (λ (f : Base). f.family) e) w.2
apart_bases r q (Link b) (Half c true u row top) h k o n e =
    let w = link_parts b c b.name (ref_text c.name u) h k.0 (ap (λ (f : Base). f.name) e ∙ half_link c u) in file_no_half b c u h k.0 k.1 w.2
apart_bases r q (Link b) (Half c false u row top) h k o n e =
    absurd (halves_apart c.name u b.table b.region b.name k.0.file (parent_of q c u k.0 k.1) (sym (ap (λ (f : Base). f.name) e)))
apart_bases r q (Half b true p w s) (Link c) h k o n e =
    let v = link_parts c b c.name (ref_text b.name p) k h.0 (sym (ap (λ (f : Base). f.name) e) ∙ half_link b p) in file_no_half c b p k h.0 h.1 v.2
apart_bases r q (Half b false p w s) (Link c) h k o n e =
    absurd (halves_apart b.name p c.table c.region c.name h.0.file (parent_of r b p h.0 h.1) (ap (λ (f : Base). f.name) e))
apart_bases r q (Half b true p w s) (Half c true u y t) h k o n e =
    let z = link_parts b c (ref_text b.name p) (ref_text c.name u) h.0 k.0 (sym (half_link b p) ∙ ap (λ (f : Base). f.name) e ∙ half_link c u) in
    base_path b c z.0 z.1 (ap (λ (f : Base). f.family) e) (references_told b.name c.name p u h.1 k.1 z.2).0
apart_bases r q (Half b true p w s) (Half c false u y t) h k o n e =
    absurd (halves_apart c.name u b.table b.region (ref_text b.name p) k.0.file (parent_of q c u k.0 k.1) (sym (ap (λ (f : Base). f.name) e) ∙ half_link b p))
apart_bases r q (Half b false p w s) (Half c true u y t) h k o n e =
    absurd (halves_apart b.name p c.table c.region (ref_text c.name u) h.0.file (parent_of r b p h.0 h.1) (ap (λ (f : Base). f.name) e ∙ half_link c u))
apart_bases r q (Half b false p w s) (Half c false u y t) h k o n e =
    let v = references_told b.name c.name p u (parent_of r b p h.0 h.1) (parent_of q c u k.0 k.1) (ap (λ (f : Base). f.name) e) in
    base_path b c (ap (λ (i : RegionKey). i.table) h.1 ∙ ap (λ (f : Base). f.table) e ∙ sym (ap (λ (i : RegionKey). i.table) k.1))
    (ap (λ (i : RegionKey). i.region) h.1 ∙ v.1 ∙ sym (ap (λ (i : RegionKey). i.region) k.1)) (ap (λ (f : Base). f.family) e) v.0
