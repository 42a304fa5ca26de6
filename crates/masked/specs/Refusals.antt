-- The number of each refusal.
use Rattle.std.specs.Prelude.{ℕ}
use Rattle.masked.specs.declared.refusal.Refusal.{Refusal}
use Rattle.masked.specs.declared.refusal.Refusal.TheVariants.{Ended, TooLong, Padded, Kind, Shape, MaskBits, MaskPosition, MaskOverlap, Stride, Uncanonical, Trailing, Room, Field, Block, Table, Store, Outside, Mismatch, TileOrder, Order}

abbrev pub number_of : Refusal → ℕ
number_of Ended = 1
number_of TooLong = 2
number_of Padded = 3
number_of Kind = 4
number_of Shape = 5
number_of MaskBits = 6
number_of MaskPosition = 7
number_of MaskOverlap = 8
number_of Stride = 9
number_of Uncanonical = 10
number_of Trailing = 11
number_of Room = 12
number_of Field = 13
number_of Block = 14
number_of Table = 15
number_of Store = 16
number_of Outside = 17
number_of Mismatch = 18
number_of TileOrder = 19
number_of Order = 20
