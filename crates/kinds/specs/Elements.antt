-- Elements of one value are equal, and the laws of the three kinds.
use Rattle.std.specs.Prelude.{◌≡◌, ◌^◌, ◌<◌, Bool, true, false, ◌||◌, refl}
use Rattle.std.proofs.Common.{ap, arith}
use mathlib.Core.HLevel.{is_prop→PathP}
use Rattle.std.proofs.Math.Bridge.{le_prop}
use Rattle.kinds.specs.Meanings.{no_count, count_plus, no_path, time_plus, connection_of, no_connection, connection_plus}
use Rattle.kinds.specs.declared.connection.Connection.{Connection}
use Rattle.kinds.specs.declared.count.Count.{Count}
use Rattle.kinds.specs.declared.travel_time.TravelTime.{TravelTime}

pub count_same : (a b : Count) → a.value ≡ b.value → a ≡ b
count_same a b e = λ i. record { value = e i; fits = is_prop→PathP (λ j. e j < 2 ^ 32) (λ j. le_prop) a.fits b.fits i }

pub time_same : (a b : TravelTime) → a.value ≡ b.value → a ≡ b
time_same a b e = λ i. record { value = e i; fits = is_prop→PathP (λ j. e j < 2 ^ 32) (λ j. le_prop) a.fits b.fits i }

pub count_associative : (a b c : Count) → count_plus (count_plus a b) c ≡ count_plus a (count_plus b c)
count_associative a b c = count_same _ _ (omega arith)

pub count_commutative : (a b : Count) → count_plus a b ≡ count_plus b a
count_commutative a b = count_same _ _ (omega arith)

pub count_neutral : (a : Count) → count_plus no_count a ≡ a
count_neutral a = count_same _ _ (omega (arith, a.fits))

pub time_associative : (a b c : TravelTime) → time_plus (time_plus a b) c ≡ time_plus a (time_plus b c)
time_associative a b c = time_same _ _ (omega arith)

pub time_commutative : (a b : TravelTime) → time_plus a b ≡ time_plus b a
time_commutative a b = time_same _ _ (omega arith)

pub time_neutral : (a : TravelTime) → time_plus no_path a ≡ a
time_neutral a = time_same _ _ (omega (arith, a.fits))

or_assoc : (a b c : Bool) → ((a || b) || c) ≡ (a || (b || c))
or_assoc true b c = refl
or_assoc false b c = refl

or_comm : (a b : Bool) → (a || b) ≡ (b || a)
or_comm true true = refl
or_comm true false = refl
or_comm false true = refl
or_comm false false = refl

pub connection_associative : (a b c : Connection) → connection_plus (connection_plus a b) c ≡ connection_plus a (connection_plus b c)
connection_associative a b c = ap connection_of (or_assoc a.linked b.linked c.linked)

pub connection_commutative : (a b : Connection) → connection_plus a b ≡ connection_plus b a
connection_commutative a b = ap connection_of (or_comm a.linked b.linked)

pub connection_neutral : (a : Connection) → connection_plus no_connection a ≡ a
connection_neutral a = refl
