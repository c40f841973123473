use Rattle.palp_input.proofs.ItemForms.{items_are_items}
use Rattle.palp_input.proofs.SettledItems.{item_some}
use Rattle.palp_input.proofs.laws.item_law.Goals as goal

pub returns : goal.returns
returns c = record {
  means = items_are_items;
  bytes = item_some;
}
