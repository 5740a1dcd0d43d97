-- The bytes of DATA, one by one.
-- Assumes nothing.
use Prim.Native.Nat.{ℕ, ◌+◌, ◌≤◌, ◌<◌}
use native.Mathlib.Omega.{arith}
use mathlib.Core.Path.{◌≡◌, ◌∙◌}
use mathlib.Core.List.{List, map}
use lib.ListN.{length, get_or, take, drop, length-take, length-drop, length-map, get_or-eq_default, get_or-map}
use lib.Seq.{get_or-take, get_or-drop}
use Rattle.meaning.specs.Lists.{get_d_any}
use Rattle.frame.specs.Layout.{inverted, data_of, data_count}

module _ (b : List ℕ) where
  pub length_data : length (data_of b) ≡ data_count b
  length_data = simp (length-map, length-take, length-drop) (omega arith)

module _ (b : List ℕ) (i : ℕ) where
  pub data_at : i < data_count b → get_or (data_of b) i 0 ≡ inverted (get_or b (9 + i) 0)
  data_at h = inside (take (data_count b) (drop 9 b)) ∙ rw
      (get_or-take (data_count b) (drop 9 b) i 255 h, get_or-drop 9 b i 255, get_d_any b (9 + i) 255 0 (omega arith))
    where
      inside : (l : List ℕ) → get_or (map inverted l) i 0 ≡ inverted (get_or l i 255)
      inside l = get_or-map inverted l i 255

  pub data_past : data_count b ≤ i → get_or (data_of b) i 0 ≡ 0
  data_past h = get_or-eq_default (data_of b) 0 (rw (length_data b) h)
