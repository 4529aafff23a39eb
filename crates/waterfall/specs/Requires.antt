-- What the functions take. Assumes nothing.
use Rattle.std.specs.Prelude.{◌≡◌, ℕ, ◌*◌, ◌≤◌, ◌<◌}

-- two reaches of columns into the bins of a row
pub record Further (bin rest by-bin by-rest width : ℕ) : Type 0 where
  pub wide : width ≤ 4096
  pub in_bins : bin ≤ 65535
  pub in_rest : rest < width
  pub by_bins : by-bin ≤ 65535
  pub by_parts : by-rest < width

-- a top row that is not empty, from bins that are not none
pub record Columns (width bins picture : ℕ) : Type 0 where
  pub some_columns : 1 ≤ width
  pub wide : width ≤ 4096
  pub some_bins : 1 ≤ bins
  pub few_bins : bins ≤ 65535
  pub fits : width ≤ picture

-- a picture of rows that are not empty, and a row of at most 65,535 bins
pub record Drawable (width height picture bins : ℕ) : Type 0 where
  pub some_columns : 1 ≤ width
  pub few_columns : width ≤ 4096
  pub some_rows : 1 ≤ height
  pub few_rows : height ≤ 4096
  pub whole : picture ≡ width * height
  pub some_bins : 1 ≤ bins
  pub few_bins : bins ≤ 65535
