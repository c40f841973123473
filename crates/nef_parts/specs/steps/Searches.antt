-- What holds of every search. This project's own.
use Rattle.std.specs.Prelude.{◌≡◌, ℕ, ◌*◌, ◌≤◌, Bool, true, List, length}
use Rattle.nef_parts.specs.declared.beginnings.TheConstants.{MOST_PARTS}
use Rattle.nef_parts.specs.declared.masks.Table.{Table}
use Rattle.nef_parts.specs.steps.Tables.{IsTable}
use Rattle.nef_parts.specs.steps.Nef.{IsNefIn}

pub record IsSearch (t : Table) (codim : ℕ) (started : Bool) (last places : List ℕ) (hints : List (List ℕ)) : Type 0 where
  pub table : IsTable t
  pub some : 1 ≤ codim
  pub few : codim ≤ MOST_PARTS
  pub whole : length last ≡ length t.normals.items
  pub room : length places ≡ length t.vertices.items * codim
  pub hinted : length hints ≡ length t.masks.items
  pub at : started ≡ true → IsNefIn t codim last
