-- Which entries of a family a minor compaction takes.
use Rattle.std.specs.Prelude.{◌≡◌, ℕ, ◌-◌, true, List, take, drop, map, unwrap_or, Option, Some}
use Rattle.hb_layout.specs.declared.base.Base.{Base}
use Rattle.act_compact.specs.Selection as compaction
use Rattle.act_compact.specs.declared.selection.SelectParams.{SelectParams}
use Rattle.core_model.specs.declared.entry.Entry.{Entry}
use Rattle.core_model.specs.Entries.{base_of}
use Rattle.core_model.specs.State.{Parts}

-- HBase's own settings: hbase.hstore.compaction.ratio, .min, .max and .min.size
abbrev pub select_params : SelectParams
select_params = record { ratio_tenths = 12; min = 3; max = 10; min_size = 134217728 }

-- the size of an entry is that of its base's file
abbrev pub size_of : (Base → Option ℕ) → Entry → ℕ
size_of sizes e = unwrap_or (sizes (base_of e)) 0

-- the inputs are a range of the entries, which is the selected one where the store tells
pub record IsSelected (inputs entries : List Entry) (s : Parts) : Type 0 where
  pub start : ℕ
  pub end : ℕ
  pub range : inputs ≡ take (end - start) (drop start entries)
  pub selected : s.told ≡ true → compaction.IsSelected select_params (map (size_of s.sizes) entries) (Some (start, end))
