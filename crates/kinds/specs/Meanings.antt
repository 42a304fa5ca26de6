-- What zero, plus and times mean for each kind.
use Rattle.std.specs.Prelude.{ℕ, ◌+◌, ◌*◌, ◌%◌, ◌^◌, min, Bool, false, ◌&&◌, ◌||◌}
use Rattle.std.proofs.Common.{mod-lt, arith, pow_pos}
use Rattle.kinds.specs.declared.connection.Connection.{Connection}
use Rattle.kinds.specs.declared.count.Count.{Count}
use Rattle.kinds.specs.declared.travel_time.TravelTime.{TravelTime}

-- counts: the sum and the product modulo 2^32
abbrev pub count_of : ℕ → Count
count_of n = record { value = n % 2 ^ 32; fits = mod-lt n (pow_pos 32) }

abbrev pub no_count : Count
no_count = count_of 0

abbrev pub count_plus : Count → Count → Count
count_plus a b = count_of (a.value + b.value)

abbrev pub count_times : Count → Count → Count
count_times a b = count_of (a.value * b.value)

-- travel times: a number held at 4,294,967,295, which means no path
abbrev pub time_of : ℕ → TravelTime
time_of n = record { value = min n 4294967295; fits = omega arith }

abbrev pub no_path : TravelTime
no_path = time_of 4294967295

-- the faster of two journeys
abbrev pub time_plus : TravelTime → TravelTime → TravelTime
time_plus a b = record { value = min a.value b.value; fits = omega (arith, a.fits, b.fits) }

-- one journey after the other
abbrev pub time_times : TravelTime → TravelTime → TravelTime
time_times a b = time_of (a.value + b.value)

-- connections: or, and, false
abbrev pub connection_of : Bool → Connection
connection_of b = record { linked = b }

abbrev pub no_connection : Connection
no_connection = connection_of false

abbrev pub connection_plus : Connection → Connection → Connection
connection_plus a b = connection_of (a.linked || b.linked)

abbrev pub connection_times : Connection → Connection → Connection
connection_times a b = connection_of (a.linked && b.linked)
