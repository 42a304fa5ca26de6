use Rattle.std.proofs.Common.{refl}
use Rattle.laws.proofs.Tiles.{product_law, entry_law, part_law}
use Rattle.laws.proofs.Stored.{store_law}
use Rattle.laws.proofs.laws_of_a_kind.Goals as goal

pub returns : goal.returns
returns g c = record {
  answer = refl;
  product = product_law _;
  entry = entry_law _;
  part = part_law _;
  store = store_law _;
}
