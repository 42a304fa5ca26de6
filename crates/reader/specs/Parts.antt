-- What is read at the head of a rest, and the rest after it.
use Rattle.std.specs.Prelude.{ℕ, ◌-◌, Ok, Err, Result}
use Rattle.layouts.specs.Kinds.{kind_number}
use Rattle.layouts.specs.declared.kind.LayoutKind.{LayoutKind}
use Rattle.decoding.specs.declared.decoded.Number.{Number}
use Rattle.decoding.specs.declared.fault.Fault.{Fault}
use Rattle.reader.specs.declared.extent.Extent.{Extent}
use Rattle.reader.specs.declared.reader.Rest.{Rest}

-- the rest of the same input from an offset on
abbrev pub from : Rest → ℕ → Rest
from rest next = record { input = rest.input; at = next }

-- the number, and the rest that follows it
abbrev pub onward : Rest → Result Number Fault → Result (ℕ × Rest) Fault
onward rest (Ok n) = Ok (n.value, from rest n.next)
onward rest (Err f) = Err f

-- the number that was read for a kind, and what follows it
abbrev pub numbered : Result (LayoutKind × Rest) Fault → Result (ℕ × Rest) Fault
numbered (Ok kind) = Ok (kind_number kind.0, kind.1)
numbered (Err f) = Err f

-- the number that was read for a side, one less than its entries, and what follows it
abbrev pub sided : Result (Extent × Rest) Fault → Result (ℕ × Rest) Fault
sided (Ok side) = Ok (side.0.entries - 1, side.1)
sided (Err f) = Err f
