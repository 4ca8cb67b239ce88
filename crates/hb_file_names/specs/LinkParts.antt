use Rattle.std.specs.Prelude.{ℕ, List, ◌∷◌, ◌++◌}

-- a link's name as a text
abbrev pub link_text : List ℕ → List ℕ → List ℕ → List ℕ
link_text table region file = table ++ 61 ∷ (region ++ 45 ∷ file)
